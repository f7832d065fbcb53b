-- The parts of the line of a rule whose words stand at the front. Assumes nothing.
use mathlib.Core.Path.{◌≡◌, refl, sym, ap, ap₂, subst, ◌∙◌}
use mathlib.Core.Bool.{true, cond}
use mathlib.Core.List.{List, [], ◌∷◌, ◌++◌, append-nil, append_assoc}
use Prim.Native.Nat.{ℕ, ◌+◌, ◌/◌, ◌≤◌}
use native.Mathlib.Omega.{arith}
use lib.IntN.{ℤ, pos}
use lib.ListN.{length, drop, get_or, length-take, length-map}
use Rattle.words.proofs.Lists.{by-test}
use Rattle.text.specs.Decimals.{decimals, decimal, number_bytes, spaced}
use Rattle.text.specs.Writing.{Put}
use Rattle.text.proofs.Puts.{spaced-append}
use Rattle.aspif.specs.Tables.{is_weighted, head_count, head_start, body_length, heads_at, body_words_at, shape_sound}
use Rattle.aspif.proofs.Cursors.{shaped}
use Rattle.aspif.proofs.Readable.{heads-at, body-words-at}
use Rattle.aspif.specs.Rules.{Body, plain, weights, InputRule, literals_of, kind_word, body_kind_word, bound_words, body_words, rule_words}
use Rattle.aspif.specs.Text.{body_numbers, rule_numbers}
use Rattle.words.specs.Literals.{same}
use Rattle.weights.specs.Weights.{pair_words}
use Rattle.totalizer.specs.Emitting.{sum_numbers, line_of, head_numbers, bound_numbers, body_numbers_at}

pub record Sized (ws : List ℤ) : Type 0 where
  pub long : 4 ≤ length ws
  pub bound : is_weighted ws ≡ true → 5 ≤ length ws
  pub heads : length (heads_at ws) ≤ 64
  pub body : length (body_words_at ws) ≤ 128

pub sized : (ws : List ℤ) → shape_sound ws ≡ true → Sized ws
unfolding heads_at body_words_at
sized ws s =
    let f = shaped ws s in
    let n : body_length ws ≤ 128 = by-test (λ n. n ≤ 128) (is_weighted ws) (λ e. omega (arith, f.body)) (λ e. omega (arith, f.body)) in
    record {
      long = f.long;
      bound = λ e. let h : head_start ws ≡ 5 = rw e in omega (arith, f.fits, h);
      heads = omega (arith, f.heads, length-take (head_count ws) (drop (head_start ws) ws));
      body = omega (arith, n, length-take (body_length ws) (drop (head_start ws + head_count ws) ws));
    }

pub spaced-one : (z : ℤ) → spaced (z ∷ []) ≡ 32 ∷ number_bytes z
unfolding spaced
spaced-one z = ap (λ (l : List ℕ). 32 ∷ l) (append-nil (number_bytes z))

-- the parts behind the heads
pub spaced-body : (ws : List ℤ)
    → spaced (body_numbers_at ws) ++ (10 ∷ [])
    ≡ (32 ∷ number_bytes (get_or ws 2 (pos 0))) ++ (spaced (bound_numbers ws) ++ ((32 ∷ number_bytes (get_or ws 3 (pos 0))) ++ (spaced (body_words_at ws) ++ (10 ∷ []))))
spaced-body ws =
    let k = get_or ws 2 (pos 0) in
    let n = get_or ws 3 (pos 0) in
    let b = bound_numbers ws in
    let l = body_words_at ws in
    ap (λ (t : List ℕ). t ++ (10 ∷ []))
    (spaced-append (k ∷ []) (b ++ (n ∷ l)) ∙ ap (λ (t : List ℕ). spaced (k ∷ []) ++ t) (spaced-append b (n ∷ l) ∙ ap (λ (t : List ℕ). spaced b ++ t) (spaced-append (n ∷ []) l)))
    ∙ append_assoc (spaced (k ∷ [])) (spaced b ++ (spaced (n ∷ []) ++ spaced l)) (10 ∷ [])
    ∙ ap (λ (t : List ℕ). spaced (k ∷ []) ++ t)
    (append_assoc (spaced b) (spaced (n ∷ []) ++ spaced l) (10 ∷ [])
    ∙ ap (λ (t : List ℕ). spaced b ++ t) (append_assoc (spaced (n ∷ [])) (spaced l) (10 ∷ [])))
    ∙ ap₂ (λ (x y : List ℕ). x ++ (spaced b ++ (y ++ (spaced l ++ (10 ∷ []))))) (spaced-one k) (spaced-one n)

-- The words of a rule hold the numbers of its line

module _ (r : InputRule) (t : List ℤ) where
  abbrev ws : List ℤ
  ws = rule_words r ++ t

  body-held : (b : Body) → body_numbers b ≡ body_kind_word b ∷ (cond (same (body_kind_word b) (pos 1)) (get_or (bound_words b ++ (r.heads ++ body_words b) ++ t) 0 (pos 0) ∷ []) []
      ++ (pos (length (literals_of b)) ∷ body_words b))
  body-held (plain ls) = refl
  body-held (weights b l) = ap (λ (n : ℕ). pos 1 ∷ pos b ∷ pos n ∷ pair_words l) (sym (length-map l (λ x. x.literal)))

  pub numbers-held : rule_numbers r ≡ head_numbers ws ++ body_numbers_at ws
  numbers-held = rw (heads-at r t, body-words-at r t) (ap (λ (l : List ℤ). kind_word r.kind ∷ pos (length r.heads) ∷ (r.heads ++ l)) (body-held r.body))

pub line-held : (r : InputRule) (t ws : List ℤ) → ws ≡ rule_words r ++ t
    → line_of (rule_numbers r) ≡ (49 ∷ spaced (head_numbers ws)) ++ (spaced (body_numbers_at ws) ++ (10 ∷ []))
unfolding line_of
line-held r t ws e =
    let h = head_numbers (rule_words r ++ t) in
    let b = body_numbers_at (rule_words r ++ t) in
    rw e
    (ap (λ (l : List ℤ). 49 ∷ (spaced l ++ (10 ∷ []))) (numbers-held r t)
    ∙ ap (λ (l : List ℕ). 49 ∷ l) (ap (λ (l : List ℕ). l ++ (10 ∷ [])) (spaced-append h b) ∙ append_assoc (spaced h) (spaced b) (10 ∷ [])))

-- a line that is put is that of the rule
pub line-put : (r : InputRule) (t ws : List ℤ) → ws ≡ rule_words r ++ t → {before after : List ℕ} {at next : ℕ}
    → Put ((49 ∷ spaced (head_numbers ws)) ++ (spaced (body_numbers_at ws) ++ (10 ∷ []))) before after at next → Put (line_of (rule_numbers r)) before after at next
line-put r t ws e {before} {after} {at} {next} p = subst (λ (l : List ℕ). Put l before after at next) (sym (line-held r t ws e)) p

-- the parts of the line of a sum
pub sum-put : (atom level : ℕ) (ws : List ℤ) {before after : List ℕ} {at next : ℕ}
    → Put ((49 ∷ 32 ∷ 48 ∷ 32 ∷ 49 ∷ []) ++ ((32 ∷ number_bytes (pos atom)) ++ ((32 ∷ 49 ∷ []) ++ ((32 ∷ number_bytes (pos level)) ++ ((32 ∷ number_bytes (pos (length ws / 2))) ++ (spaced ws ++ (10 ∷ []))))))) before after at next
    → Put (line_of (sum_numbers atom level ws)) before after at next
unfolding line_of spaced number_bytes decimal decimals
sum-put atom level ws {before} {after} {at} {next} p = subst (λ (l : List ℕ). Put l before after at next) (sym parts) p
  where
    A : List ℕ
    A = number_bytes (pos atom)

    L : List ℕ
    L = number_bytes (pos level)

    N : List ℕ
    N = number_bytes (pos (length ws / 2))

    S : List ℕ
    S = spaced ws

    parts : line_of (sum_numbers atom level ws) ≡ 49 ∷ 32 ∷ 48 ∷ 32 ∷ 49 ∷ 32 ∷ (A ++ (32 ∷ 49 ∷ 32 ∷ (L ++ (32 ∷ (N ++ (S ++ (10 ∷ [])))))))
    parts =
        ap (λ (l : List ℕ). 49 ∷ 32 ∷ 48 ∷ 32 ∷ 49 ∷ 32 ∷ l)
        (append_assoc A (32 ∷ 49 ∷ 32 ∷ (L ++ (32 ∷ (N ++ S)))) (10 ∷ [])
        ∙ ap (λ (l : List ℕ). A ++ (32 ∷ 49 ∷ 32 ∷ l))
        (append_assoc L (32 ∷ (N ++ S)) (10 ∷ []) ∙ ap (λ (l : List ℕ). L ++ (32 ∷ l)) (append_assoc N S (10 ∷ []))))
