-- What stands for a rule: its line, or the rules of its long sum and its heads from the last new atom. Assumes nothing.
use mathlib.Core.Path.{◌≡◌, refl, sym, ap, subst, ◌∙◌}
use mathlib.Core.Bool.{Bool, true, false, true≢false, cond, ◌&&◌}
use mathlib.Core.List.{List, [], ◌∷◌, ◌++◌, append-nil, append_assoc}
use Prim.Native.Nat.{ℕ, ◌+◌, ◌-◌, ◌≤◌, ◌<◌}
use native.Mathlib.Omega.{arith}
use borrow.Author.Tests.{ltb-true, ltb-false, lt-leb, le-leb}
use lib.Dec.{ltb}
use lib.IntN.{ℤ, pos}
use lib.ListN.{length, take, drop, get_or, length-map, length-append}
use lib.Seq.{take_at, length-take-le}
use Rattle.words.specs.Limits.{most_literals, most_rules}
use Rattle.words.specs.Literals.{variable, same}
use Rattle.words.proofs.Lists.{is_true}
use Rattle.text.specs.Decimals.{decimals, decimal, number_bytes, spaced}
use Rattle.text.specs.Writing.{Put}
use Rattle.text.proofs.Puts.{spaced-append}
use Rattle.weights.specs.Weights.{paired, pair_words, most_weight, most_weighted}
use Rattle.aspif.specs.Rules.{Body, plain, weights, InputRule, literals_of, kind_word, body_kind_word, body_words}
use Rattle.aspif.specs.Reading.{all_weights}
use Rattle.aspif.specs.Tables.{size_at, is_weighted, heads_at, bound_at, body_words_at, body_at, rule_at}
use Rattle.aspif.specs.Text.{rule_numbers}
use Rattle.aspif.specs.Claims.{WeighingWithin}
use Rattle.aspif.proofs.PairWords.{light-decides, length-paired}
use Rattle.aspif.proofs.Readable.{body-words-at}
use Rattle.sums.specs.Plans.{Plan, whole, divided, size, root, node_rules, head_rule}
use Rattle.sums.specs.Levels.{SumShape, both, pairs_in, levelled, plan_body, sorted_groups}
use Rattle.totalizer.specs.declared.texts.Place.{Place}
use Rattle.totalizer.specs.Emitting.{line_of, head_numbers, Emits}
use Rattle.totalizer.proofs.Emitted.{emits-on, emits-full}
use Rattle.joins.specs.declared.chains.Numbered.{Numbered}
use Rattle.long_sums.specs.Program.{RuleHeld, is_long, item_of, most_new, ItemEmitted}

-- A rule with a long sum

long-body : (b : Body) → (same (body_kind_word b) (pos 1) && ltb most_weighted (length (literals_of b))) ≡ is_long b
long-body (plain ls) = refl
long-body (weights b l) = ap (ltb most_weighted) (length-map l (λ x. x.literal))

pub long-told : (ws : List ℤ) → RuleHeld ws → (is_weighted ws && ltb most_weighted (variable (get_or ws 3 (pos 0)))) ≡ is_long (rule_at ws).body
long-told ws h = ap (λ (l : List ℤ). is_weighted l && ltb most_weighted (variable (get_or l 3 (pos 0)))) h.words ∙ long-body (rule_at ws).body

-- what is known of its words
module _ (ws : List ℤ) (h : RuleHeld ws) (long : is_long (rule_at ws).body ≡ true) where
  pub long-is : (rule_at ws).body ≡ weights (bound_at ws) (paired (body_words_at ws))
  unfolding body_at
  long-is = go (is_weighted ws) (unfold body_at in long)
    where
      go : (t : Bool) → is_long (cond t (weights (bound_at ws) (paired (body_words_at ws))) (plain (body_words_at ws))) ≡ true
          → cond t (weights (bound_at ws) (paired (body_words_at ws))) (plain (body_words_at ws)) ≡ weights (bound_at ws) (paired (body_words_at ws))
      go true e = refl
      go false e = absurd (true≢false (sym e))

  weighing : WeighingWithin most_literals (weights (bound_at ws) (paired (body_words_at ws)))
  weighing = subst (WeighingWithin most_literals) long-is h.formed.weighing

  pub many : most_weighted < length (paired (body_words_at ws))
  many = ltb-true most_weighted (length (paired (body_words_at ws))) (sym (ap is_long long-is) ∙ long)

  pub long-bound : bound_at ws ≤ most_weight
  long-bound = weighing.1

  pub pairs-are : body_words_at ws ≡ pair_words (paired (body_words_at ws))
  pairs-are = ap body_words_at h.words ∙ body-words-at (rule_at ws) (drop (size_at ws) ws) ∙ ap body_words long-is

  pub pairs-light : all_weights (body_words_at ws) ≡ true
  pairs-light = ap all_weights pairs-are ∙ is_true (light-decides (paired (body_words_at ws))) weighing.2

  pub pairs-long : (24 < length (body_words_at ws)) × (length (body_words_at ws) ≤ 128)
  pairs-long =
      let e = length-paired (body_words_at ws) pairs-light in
      (omega (arith, many, e), omega (arith, weighing.0, e))

  -- how it is split
  pub long-item : (g : ℕ) (s t : SumShape) → (let b = bound_at ws in sorted_groups (g - 1) (paired (body_words_at ws)) ≡ both s t
      → item_of g (rule_at ws)
      ≡ divided (rule_at ws).kind (rule_at ws).heads b (paired (body_words_at ws)) (levelled b (pairs_in t ++ []) s) (levelled b (pairs_in s ++ []) t))
  long-item g s t e =
      ap (plan_body (sorted_groups (g - 1)) (rule_at ws)) long-is
      ∙ (rw (lt-leb (length (paired (body_words_at ws))) most_weighted many, e))

-- and a rule without one
pub short-item : (g : ℕ) (r : InputRule) → is_long r.body ≡ false → item_of g r ≡ whole r
short-item g r e = go r.body e
  where
    go : (b : Body) → is_long b ≡ false → plan_body (sorted_groups (g - 1)) r b ≡ whole r
    go (plain ls) e = refl
    go (weights b l) e = rw (le-leb (length l) most_weighted (ltb-false most_weighted (length l) e))

-- A front that was lent and is back

module _ (n : ℕ) (xs ys : List ℤ) (fits : n ≤ length xs) (size : length ys ≡ length (take n xs)) where
  pub front-back : take n (ys ++ drop n xs) ≡ ys
  front-back = take_at ys (drop n xs) n (size ∙ length-take-le n xs fits)

  pub front-there : n ≤ length (ys ++ drop n xs)
  front-there = omega (arith, length-append ys (drop n xs), size, length-take-le n xs fits)

-- The lines

-- the numbers of the line of the head's rule
head-line : (ws : List ℤ) → RuleHeld ws → (a : ℕ)
    → line_of (rule_numbers (head_rule (rule_at ws).kind (rule_at ws).heads a))
    ≡ (49 ∷ spaced (head_numbers ws)) ++ ((32 ∷ 48 ∷ 32 ∷ 49 ∷ []) ++ ((32 ∷ number_bytes (pos a)) ++ (10 ∷ [])))
unfolding line_of spaced number_bytes decimal decimals
head-line ws h a = rw e (ap (λ (l : List ℕ). 49 ∷ (l ++ (10 ∷ []))) (spaced-append front (pos 0 ∷ pos 1 ∷ pos a ∷ [])) ∙ behind)
  where
    front : List ℤ
    front = kind_word (rule_at ws).kind ∷ pos (length (rule_at ws).heads) ∷ (rule_at ws).heads

    A : List ℕ
    A = number_bytes (pos a)

    e : take 2 ws ++ heads_at ws ≡ front
    e = ap (λ (l : List ℤ). l ++ heads_at ws) (ap (take 2) h.words)

    behind : 49 ∷ ((spaced front ++ (32 ∷ 48 ∷ 32 ∷ 49 ∷ 32 ∷ (A ++ []))) ++ (10 ∷ [])) ≡ 49 ∷ (spaced front ++ (32 ∷ 48 ∷ 32 ∷ 49 ∷ 32 ∷ (A ++ (10 ∷ []))))
    behind = ap (λ (l : List ℕ). 49 ∷ l) (append_assoc (spaced front) (32 ∷ 48 ∷ 32 ∷ 49 ∷ 32 ∷ (A ++ [])) (10 ∷ []) ∙ ap (λ (l : List ℕ). spaced front ++ (32 ∷ 48 ∷ 32 ∷ 49 ∷ 32 ∷ (l ++ (10 ∷ [])))) (append-nil A))

pub head-put : (ws : List ℤ) → RuleHeld ws → (a : ℕ) {before after : List ℕ} {at next : ℕ}
    → Put ((49 ∷ spaced (head_numbers ws)) ++ ((32 ∷ 48 ∷ 32 ∷ 49 ∷ []) ++ ((32 ∷ number_bytes (pos a)) ++ (10 ∷ [])))) before after at next
    → Put (line_of (rule_numbers (head_rule (rule_at ws).kind (rule_at ws).heads a))) before after at next
head-put ws h a {before} {after} {at} {next} p = subst (λ (l : List ℕ). Put l before after at next) (sym (head-line ws h a)) p

-- the plan of a sum
abbrev pub plan_of : ℕ → SumShape → SumShape → Plan
plan_of b s t = root b (levelled b (pairs_in t ++ []) s) (levelled b (pairs_in s ++ []) t)

module _ (g : ℕ) (ws : List ℤ) (h : RuleHeld ws) (long : is_long (rule_at ws).body ≡ true) (s t : SumShape)
    (is : sorted_groups (g - 1) (paired (body_words_at ws)) ≡ both s t) {b : ℕ} (bound : b ≡ bound_at ws) where
  -- too many rules already
  pub split-full : {before after : List ℕ} {p : Place} {n : ℕ} {q : Numbered}
      → Emits (node_rules n (plan_of b s t)) before after p q.place → most_rules < q.place.rules → q.atom ≤ n + most_new
      → ItemEmitted (item_of g (rule_at ws)) before after p n q
  split-full {after = after} {q = q} e m l = rw (long-item ws h long g s t is) (record {
    rules = emits-on (rw bound at e) (emits-full after q.place e.bounded _ m);
    atom = λ k. absurd (omega (arith, m, k));
    low = l;
  })

  -- with the head's rule
  pub split-whole : {before between after : List ℕ} {p u : Place} {n : ℕ} {q : Numbered}
      → Emits (node_rules n (plan_of b s t)) before between p q.place → q.atom ≡ n + size (plan_of b s t) → q.atom ≤ n + most_new
      → Emits (head_rule (rule_at ws).kind (rule_at ws).heads (q.atom - 1) ∷ []) between after q.place u
      → ItemEmitted (item_of g (rule_at ws)) before after p n (record { place = u; atom = q.atom })
  split-whole {n = n} {q = q} e m l f =
      let c = bound_at ws in
      let d : q.atom ≡ n + size (plan_of c s t) = rw bound at m in
      let a : q.atom - 1 ≡ n + (size (levelled c (pairs_in t ++ []) s) + size (levelled c (pairs_in s ++ []) t)) = omega (arith, d) in
      rw (long-item ws h long g s t is) (record { rules = emits-on (rw bound at e) (rw a at f); atom = λ k. d; low = l })

-- a rule as it stands
pub whole-emitted : (g : ℕ) (r : InputRule) → is_long r.body ≡ false → {before after : List ℕ} {p u : Place} {n : ℕ}
    → Emits (r ∷ []) before after p u → ItemEmitted (item_of g r) before after p n (record { place = u; atom = n })
whole-emitted g r e f = rw (short-item g r e) (record { rules = f; atom = λ k. omega arith; low = omega arith })
