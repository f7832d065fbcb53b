-- Question 30 by the rules with a head and what is kept of them.
-- Assumes nothing.
use mathlib.Core.Path.{◌≡◌, refl, sym, ap, ◌∙◌}
use mathlib.Core.Logic.{inl, inr}
use mathlib.Core.Bool.{Bool, true, false}
use mathlib.Core.List.{List}
use Prim.Native.Nat.{ℕ, ◌≤◌, ◌<◌}
use native.Mathlib.Omega.{arith}
use lib.IntN.{ℤ, pos}
use lib.ListN.{length, take, get_or}
use lib.Seq.{length-take-le, get_or-take}
use Rattle.words.specs.Lists.{◌∈◌, all}
use Rattle.words.specs.Literals.{variable, has, mentions, distinct}
use Rattle.words.proofs.Lists.{Decides, reworded, passed, is_true, if-true, same_test, and-decides, if-decides, any-decides, all-decides, eqb-decides}
use Rattle.words.proofs.Places.{equal?, in-at, place-of, variables-differ}
use Rattle.aspif.specs.Rules.{all_plain, expand}
use Rattle.aspif.specs.Tables.{rules_at, sound_rules, heads_at, body_words_at}
use Rattle.names.specs.Queries.{Kept}
use Rattle.heads.specs.Heads.{words_from, is_just_names, HasHead, Listed}
use Rattle.heads.proofs.Starts.{any-rule, all-rules, kept_at}

module _ (t : List ℤ) (n : ℕ) {names : List ℕ} {bodies : List ℤ} {called : List ℤ → ℕ} (s : sound_rules n t ≡ true) (p : all_plain (rules_at n t) ≡ true)
    (K : Kept names bodies called (rules_at n t)) (v : ℕ) (ns : List ℤ) where
  -- both parts, by rule
  abbrev Covered : Type 0
  Covered = (k : ℕ) → HasHead t n v k → mentions (get_or names k 0) ns ≡ true

  abbrev Cited : Type 0
  Cited = (x : ℤ) → x ∈ ns → (k : ℕ) × HasHead t n v k × (get_or names k 0 ≡ variable x)

  just-decides : Decides (is_just_names called (pos v) ns (expand (rules_at n t))) (Covered × Cited)
  just-decides = and-decides
      (reworded covered→ covered← (all-rules (λ r. if-decides (passed (has (pos v) r.heads)) (passed (mentions (called r.body) ns))) n t p))
      (reworded cited→ cited← (all-decides (λ x. any-rule (λ r. and-decides (passed (has (pos v) r.heads)) (eqb-decides (called r.body) (variable x))) n t p) ns))
    where
      name : (k : ℕ) → k < n → get_or names k 0 ≡ called (body_words_at (words_from k t))
      name = kept_at t n s p K

      covered→ : ((k : ℕ) → k < n → has (pos v) (heads_at (words_from k t)) ≡ true → mentions (called (body_words_at (words_from k t))) ns ≡ true) → Covered
      covered→ f k H = ap (λ m. mentions m ns) (name k H.0) ∙ f k H.0 H.1

      covered← : Covered → (k : ℕ) → k < n → has (pos v) (heads_at (words_from k t)) ≡ true → mentions (called (body_words_at (words_from k t))) ns ≡ true
      covered← f k h e = ap (λ m. mentions m ns) (sym (name k h)) ∙ f k (h, e)

      cited→ : ((x : ℤ) → x ∈ ns → (k : ℕ) × (k < n) × ((has (pos v) (heads_at (words_from k t)) ≡ true) × (called (body_words_at (words_from k t)) ≡ variable x))) → Cited
      cited→ f x i = let q = f x i in (q.0, (q.1, q.2.0), name q.0 q.1 ∙ q.2.1)

      cited← : Cited → (x : ℤ) → x ∈ ns → (k : ℕ) × (k < n) × ((has (pos v) (heads_at (words_from k t)) ≡ true) × (called (body_words_at (words_from k t)) ≡ variable x))
      cited← f x i = let q = f x i in (q.0, q.1.0, (q.1.1, sym (name q.0 q.1.0) ∙ q.2))

  -- a rule that hits no number
  pub not-just : (hits : List Bool) → Listed t n names v ns hits false → false ≡ is_just_names called (pos v) ns (expand (rules_at n t))
  not-just hits q = by (is_just_names called (pos v) ns (expand (rules_at n t))) refl
    where
      by : (b : Bool) → is_just_names called (pos v) ns (expand (rules_at n t)) ≡ b → false ≡ b
      by true e = sym q.2 ∙ (if-true just-decides e).0 q.0 q.1
      by false e = refl

  -- every rule hits one: whether all are hit
  pub just-hit : (hits : List Bool) → length ns ≤ length hits → distinct ns ≡ true → Listed t n names v ns hits true
      → all (λ b. b) (take (length ns) hits) ≡ is_just_names called (pos v) ns (expand (rules_at n t))
  just-hit hits m o L = same_test (all-decides passed (take (length ns) hits)) just-decides to from
    where
      long : length (take (length ns) hits) ≡ length ns
      long = length-take-le (length ns) hits m

      to : ((b : Bool) → b ∈ take (length ns) hits → b ≡ true) → Covered × Cited
      to f = (
        λ k H. let h = L.0 k H in is_true (any-decides (λ x. eqb-decides (get_or names k 0) (variable x)) ns) (get_or ns h.0 (pos 0), in-at (pos 0) ns h.0 h.1, sym h.2.0),
        λ x i.
            let j = place-of (pos 0) i in
            let e : get_or hits j.0 false ≡ true = sym (get_or-take (length ns) hits j.0 false j.1) ∙ f _ (in-at false (take (length ns) hits) j.0 (omega (arith, j.1, long))) in
            let q = L.1 j.0 e in
            (q.0, q.1, q.2 ∙ ap variable j.2),
      )

      from : Covered × Cited → (b : Bool) → b ∈ take (length ns) hits → b ≡ true
      from g b i =
          let j = place-of false i in
          let jb : j.0 < length ns = omega (arith, j.1, long) in
          let q = g.1 (get_or ns j.0 (pos 0)) (in-at (pos 0) ns j.0 jb) in
          let h = L.0 q.0 q.1 in
          let same : variable (get_or ns h.0 (pos 0)) ≡ variable (get_or ns j.0 (pos 0)) = h.2.0 ∙ q.2 in
          elim (equal? h.0 j.0) [
            | inl e ↦ sym j.2 ∙ get_or-take (length ns) hits j.0 false jb ∙ rw (← e) h.2.1
            | inr d ↦ absurd (variables-differ ns o h.0 j.0 h.1 jb d same)
          ]
