-- `SplitFormed` and `SplitRead` of specs/Claims.antt: the rules of the split program pass what the reader asks. Assumes nothing.
use mathlib.Core.Path.{◌≡◌, refl, sym, ap, subst, ◌∙◌}
use mathlib.Core.Logic.{◌⊎◌, inl, inr}
use mathlib.Core.Bool.{Bool, true, false, cond}
use mathlib.Core.List.Memᴰ
use mathlib.Core.List.{List, [], ◌∷◌, ◌++◌}
use Prim.Native.Nat.{ℕ, ◌+◌, ◌≤◌, ◌<◌}
use native.Mathlib.Omega.{arith}
use borrow.Author.Tests.{leb-true, leb-false, lt-ltb}
use lib.IntN.{ℤ, pos}
use lib.ListN.{length, length-map}
use Rattle.words.specs.Lists.{◌∈◌}
use Rattle.words.specs.Limits.{largest, most_literals}
use Rattle.words.specs.Literals.{variable, rising}
use Rattle.words.proofs.Lists.{and_both}
use Rattle.words.proofs.Tops.{top-le}
use Rattle.weights.specs.Weights.{Weighted, literals, most_weight, most_weighted}
use Rattle.weights.specs.Claims.{Reorder}
use Rattle.weights.proofs.Reordered.{and-back, reorder-in, reorder-length}
use Rattle.aspif.specs.Rules.{Body, plain, weights, InputRule, literals_of, rule_top}
use Rattle.aspif.specs.Claims.{WeighingWithin, FormedWithin}
use Rattle.aspif.proofs.Formed.{inside_of, no_zero, none-zero}
use Rattle.aspif.proofs.RuleTests.{in-greatest}
use Rattle.aspif.proofs.Written.{written_read}
use Rattle.sums.specs.Plans.{Plan, group, joined, size, Definition, own, Share, share, shares, define, join_bodies, node_rules, Item, whole, root, head_rule, split_item, first_new}
use Rattle.sums.specs.Levels.{SumShape, few, both, pairs_in, levelled, divided_by, is_short, plan_body, planned, split_program, sorted_groups}
use Rattle.sums.specs.Claims.{Shaping, Grouped, SplitFormed, SplitRead}
use Rattle.sums.proofs.Nodes.{own-says, own_in, join-body→, RuleOf, summed, paired, on-left, on-right, rule-of}
use Rattle.sums.proofs.Split.{Placed, in-turn, definitions-run, last-or-before}
use Rattle.sums.proofs.Levels.{levels-within}
use Rattle.sums.proofs.Sorted.{sorted-groups, sorted-grouped}

-- Bodies

-- atoms above 0, and weights within 4,095
abbrev Fine : List Weighted → Type 0
Fine l = (x : Weighted) → x ∈ l → (1 ≤ variable x.literal) × (x.weight ≤ most_weight)

-- a body that passes
pub record Passing (c : Body) : Type 0 where
  pub count : length (literals_of c) ≤ most_literals
  pub nonzero : (z : ℤ) → z ∈ literals_of c → 1 ≤ variable z
  pub rises : rising (literals_of c) ≡ true
  pub weighing : WeighingWithin most_weighted c

weights-pass : (b : ℕ) (l : List Weighted) → b ≤ most_weight → Grouped (few l) → Fine l → Passing (weights b l)
weights-pass b l h g f =
    record {
      count = let e = length-map l (λ x. x.literal) in let c = g.0 in omega arith;
      nonzero = λ z i. let x = Memᴰ.of_map (λ (x : Weighted). x.literal) l i in subst (λ y. 1 ≤ variable y) x.2 (f x.0 x.1).0;
      rises = g.1;
      weighing = (g.0, h, λ x i. (f x i).1);
    }

-- what a share says: nothing, or the atom of a definition
said-by : (es : List Definition) (x : Share) → x ∈ shares es → (x.said ≡ []) ⊎ ((e : Definition) × (e ∈ es) × (x.said ≡ pos e.atom ∷ []))
said-by es x (Memᴰ.head e) = inl (ap (λ c. c.said) e)
said-by es x (Memᴰ.tail i) = let r = Memᴰ.of_map share es i in inr (r.0, r.1, ap (λ c. c.said) (sym r.2))

one_passes : (a : ℕ) → 1 ≤ a → Passing (plain (pos a ∷ []))
one_passes a h =
    record { count = omega arith; nonzero = λ z i. subst (λ y. 1 ≤ variable y) (sym (Memᴰ.eq_of_singleton i)) h; rises = refl; weighing = tt }

two-pass : (a b : ℕ) → 1 ≤ a → a < b → Passing (plain (pos a ∷ pos b ∷ []))
two-pass a b h k = record { count = omega arith; nonzero = each; rises = and_both (lt-ltb a b k) refl; weighing = tt }
  where
    each : (z : ℤ) → z ∈ pos a ∷ pos b ∷ [] → 1 ≤ variable z
    each z (Memᴰ.head e) = subst (λ y. 1 ≤ variable y) (sym e) h
    each z (Memᴰ.tail i) = (one_passes b (omega arith)).nonzero z i

join-body-passes : (n : ℕ) (p q : Plan) → 1 ≤ n → (t : ℕ) (ls : List ℤ) → ls ∈ join_bodies t (shares (own n p)) (shares (own (n + size p) q)) → Passing (plain ls)
join-body-passes n p q h t ls i =
    let w = join-body→ t (shares (own n p)) (shares (own (n + size p) q)) ls i in
    subst (λ l. Passing (plain l)) (sym w.is)
    (go w.left.said w.right.said (said-by (own n p) w.left w.of_left) (said-by (own (n + size p) q) w.right w.of_right))
  where
    m : ℕ
    m = n + size p

    low : (d : Definition) → d ∈ own n p → n ≤ d.atom
    low d j = (definitions-run n p).low d (own_in n p j)

    high : (d : Definition) → d ∈ own n p → d.atom < m
    high d j = (definitions-run n p).high d (own_in n p j)

    later : (e : Definition) → e ∈ own m q → m ≤ e.atom
    later e j = (definitions-run m q).low e (own_in m q j)

    go : (xs ys : List ℤ) → (xs ≡ []) ⊎ ((e : Definition) × (e ∈ own n p) × (xs ≡ pos e.atom ∷ []))
        → (ys ≡ []) ⊎ ((e : Definition) × (e ∈ own m q) × (ys ≡ pos e.atom ∷ [])) → Passing (plain (xs ++ ys))
    go xs ys (inl a) (inl b) = rw (a, b) (record { count = omega arith; nonzero = λ z i. elim i [ ]; rises = refl; weighing = tt })
    go xs ys (inl a) (inr (e, k, b)) = let v = later e k in rw (a, b) (one_passes e.atom (omega arith))
    go xs ys (inr (d, j, a)) (inl b) = let u = low d j in rw (a, b) (one_passes d.atom (omega arith))
    go xs ys (inr (d, j, a)) (inr (e, k, b)) =
        let u = low d j in
        let v = high d j in
        let w = later e k in
        rw (a, b) (two-pass d.atom e.atom (omega arith) (omega arith))

-- Rules of a plan

-- its groups and their levels pass
abbrev FormedPlan : ℕ → Plan → Type 0
FormedPlan b (group ts l) = Grouped (few l) × Fine l × ((t : ℕ) → t ∈ ts → t ≤ b)
FormedPlan b (joined ts p q) = FormedPlan b p × FormedPlan b q

levelled-formed : (b : ℕ) (rest : List Weighted) (s : SumShape) → Grouped s → Fine (pairs_in s) → FormedPlan b (levelled b rest s)
unfolding levelled
levelled-formed b rest (few l) g f = (g, f, λ t i. (levels-within b rest (few l) t (unfold levelled in i)).1)
levelled-formed b rest (both s t) g f = (
  levelled-formed b _ s g.0 (λ x i. f x (Memᴰ.append_left (pairs_in t) i)),
  levelled-formed b _ t g.1 (λ x i. f x (Memᴰ.append_right (pairs_in s) i)),
)

-- a rule of the split program passes, unless an atom of it is too large
abbrev Forms : InputRule → Type 0
Forms r = rule_top r ≤ largest → FormedWithin most_weighted r

defining : (d : Definition) {c : Body} → 1 ≤ d.atom → Passing c → Forms (define d c)
defining d {c} h p t =
    record {
      heads-few = omega arith;
      body-few = p.count;
      headed = refl;
      positive = and_both (lt-ltb 0 d.atom h) refl;
      heads-rise = refl;
      nonzero = no_zero (literals_of c) p.nonzero;
      body-rise = p.rises;
      heads-in = inside_of (pos d.atom ∷ []) (λ z i. let a = top-le i in omega arith);
      body-in = inside_of (literals_of c) (λ z i. let a = top-le i in omega arith);
      weighing = p.weighing;
    }

plan-formed : {n b : ℕ} {p : Plan} {r : InputRule} → 1 ≤ n → b ≤ most_weight → FormedPlan b p → RuleOf n p r → Forms r
plan-formed h k f (summed {n = n} {ts = ts} {l = l} d i) =
    let o = own-says n (group ts l) i in
    let a = (definitions-run n (group ts l)).low d (own_in n (group ts l) i) in
    let t = f.2 d.bound o.1 in
    defining d (omega arith) (subst (λ l. Passing (weights d.bound l)) (sym o.0) (weights-pass d.bound l (omega arith) f.0 f.1))
plan-formed h k f (paired {n = n} {ts = ts} {p = p} {q = q} d ls i w) =
    let a = (definitions-run n (joined ts p q)).low d (own_in n (joined ts p q) i) in
    defining d (omega arith) (join-body-passes n p q h d.bound ls w)
plan-formed h k f (on-left r) = plan-formed h k f.0 r
plan-formed h k f (on-right r) = plan-formed (omega arith) k f.1 r

-- Rules of a program

-- a rule with another body
rebodied : (w : InputRule) {c : Body} → FormedWithin most_literals w → Passing c → Forms (record { kind = w.kind; heads = w.heads; body = c })
rebodied w {c} f p t =
    record {
      heads-few = f.heads-few;
      body-few = p.count;
      headed = f.headed;
      positive = f.positive;
      heads-rise = f.heads-rise;
      nonzero = no_zero (literals_of c) p.nonzero;
      body-rise = p.rises;
      heads-in = f.heads-in;
      body-in = inside_of (literals_of c) (λ z i. let a = top-le i in omega arith);
      weighing = p.weighing;
    }

shortened : (w : InputRule) → FormedWithin most_literals w → WeighingWithin most_weighted w.body → Forms w
shortened w f x = rebodied w f (record { count = f.body-few; nonzero = none-zero (literals_of w.body) f.nonzero; rises = f.body-rise; weighing = x })

divided-formed : (w : InputRule) (b : ℕ) (l : List Weighted) (s : SumShape) → FormedWithin most_literals w → b ≤ most_weight → Reorder l (pairs_in s) → Grouped s → Fine l
    → most_weighted < length l → (n : ℕ) → 1 ≤ n → (r : InputRule) → r ∈ split_item n (divided_by w b l s) → Forms r
divided-formed w b l (few k) f h o g y c n m r i = absurd (let e = reorder-length o in let a = g.0 in omega arith)
divided-formed w b l (both s t) f h o g y c n m r i = go (last-or-before (node_rules n (root b p q)) i)
  where
    p : Plan
    p = levelled b (pairs_in t ++ []) s

    q : Plan
    q = levelled b (pairs_in s ++ []) t

    go : (r ≡ head_rule w.kind w.heads (n + (size p + size q))) ⊎ (r ∈ node_rules n (root b p q)) → Forms r
    go (inl e) = subst Forms (sym e) (rebodied w f (one_passes _ (omega arith)))
    go (inr i) =
        let fine : Fine (pairs_in s ++ pairs_in t) = λ x j. y x (reorder-in (and-back o) j) in
        plan-formed m h (
          levelled-formed b _ s g.0 (λ x j. fine x (Memᴰ.append_left (pairs_in t) j)),
          levelled-formed b _ t g.1 (λ x j. fine x (Memᴰ.append_right (pairs_in s) j)),
        )
        (rule-of n (root b p q) i)

module _ (shape : List Weighted → SumShape) (shaping : Shaping shape) (grouped : (l : List Weighted) → rising (literals l) ≡ true → Grouped (shape l)) where
  body-formed : (w : InputRule) (c : Body) → w.body ≡ c → FormedWithin most_literals w → (n : ℕ) → 1 ≤ n → (r : InputRule) → r ∈ split_item n (plan_body shape w c) → Forms r
  body-formed w (plain ls) e f n m r i = subst Forms (sym (Memᴰ.eq_of_singleton i)) (shortened w f (subst (WeighingWithin most_weighted) (sym e) tt))
  body-formed w (weights b l) e f n m r i = go (is_short l) refl i
    where
      light : WeighingWithin most_literals (weights b l)
      light = subst (WeighingWithin most_literals) e f.weighing

      rises : rising (literals l) ≡ true
      rises = sym (ap (λ v. rising (literals_of v)) e) ∙ f.body-rise

      fine : Fine l
      fine x j = (none-zero (literals_of w.body) f.nonzero x.literal (subst (λ v. x.literal ∈ literals_of v) (sym e) (Memᴰ.map (λ (x : Weighted). x.literal) j)), light.2 x j)

      go : (t : Bool) → is_short l ≡ t → r ∈ split_item n (cond t (whole w) (divided_by w b l (shape l))) → Forms r
      go true p j =
          subst Forms (sym (Memᴰ.eq_of_singleton j))
          (shortened w f (subst (WeighingWithin most_weighted) (sym e) (leb-true (length l) most_weighted p, light.1, light.2)))
      go false p j = divided-formed w b l (shape l) f light.1 (shaping l) (grouped l rises) fine (leb-false (length l) most_weighted p) n m r j

pub split-formed : SplitFormed
split-formed shape shaping grouped ws f low r i = go (in-turn split_item (first_new (planned shape ws)) (planned shape ws) i)
  where
    go : (j : Item) × (p : Placed (first_new (planned shape ws)) (planned shape ws) j) × (r ∈ split_item p.place j) → FormedWithin most_weighted r
    go (j, p, k) =
        let x = Memᴰ.of_map (λ w. plan_body shape w w.body) ws p.among in
        let h = p.later in
        body-formed shape shaping grouped x.0 x.0.body refl (f x.0 x.1) p.place (omega arith) r (subst (λ v. r ∈ split_item p.place v) (sym x.2) k)
        (let t = in-greatest rule_top i in omega arith)

-- The reader

pub split-read : SplitRead
split-read k h ws f room low rules words =
    written_read room (split_program (sorted_groups k) ws)
    (record {
      formed = split-formed (sorted_groups k) (sorted-groups k) (λ l e. sorted-grouped k h l e) ws f low;
      few = rules;
      room = words;
    })
