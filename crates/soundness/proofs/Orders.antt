-- The order of heads and of literals does not matter: rules and the same rules put in order have the same answer sets.
-- Assumes nothing.
use mathlib.Core.Path.{◌≡◌, refl, sym, ◌∙◌, ap, subst}
use mathlib.Core.Logic.{◌↔◌, inl, inr}
use mathlib.Core.Bool.{true}
use mathlib.Core.List.Memᴰ
use mathlib.Core.List.{List, [], ◌∷◌, ◌++◌, map}
use Prim.Native.Nat.{ℕ}
use lib.IntN.{ℤ, pos, negsuc}
use Rattle.words.specs.Lists.{◌∈◌}
use Rattle.words.specs.Literals.{distinct, rising, ascending}
use Rattle.words.proofs.Literals.{ascending→, ascending←}
use Rattle.words.proofs.Sorting.{rising-ascending}
use Rattle.weights.specs.Weights.{Weighted, literals}
use Rattle.weights.proofs.Reordered.{reordered→, reordered←}
use Rattle.aspif.specs.Rules.{Rule, Body, plain, weights, InputRule, literals_of, bodies_of, with_body, expand}
use Rattle.aspif.specs.Reading.{arranged}
use Rattle.aspif.specs.AnswerSets.{Constraint, Taken, Chosen, Gives, LeastModel, derive, Met, AnswerSet}
use Rattle.aspif.specs.declared.Kind.{Kind}
use Rattle.aspif.proofs.PairWords.{literals-arranged}
use Rattle.aspif.proofs.Expansion.{Expanded, expand→, expand←, expand-append}
use Rattle.costs.proofs.Order.{arranged-reorder}
use Rattle.aspif.proofs.Spelled.{sorted_body, sorted_rule, Once}

-- Rules with the same heads and the same literals

abbrev Same : List ℤ → List ℤ → Type 0
Same k l = (x : ℤ) → x ∈ k ↔ x ∈ l

pub record Alike (r s : Rule) : Type 0 where
  pub kind : r.kind ≡ s.kind
  pub heads : Same r.heads s.heads
  pub body : Same r.body s.body

alike-back : {r s : Rule} → Alike r s → Alike s r
alike-back a = record { kind = sym a.kind; heads = λ x. ((a.heads x).1, (a.heads x).0); body = λ x. ((a.body x).1, (a.body x).0) }

-- each rule of the second program is like one of the first
abbrev pub Covers : List Rule → List Rule → Type 0
Covers P Q = (s : Rule) → s ∈ Q → (r : Rule) × (r ∈ P) × Alike r s

none_in : (l : List ℤ) → ((x : ℤ) → x ∈ l → ⊥) → l ≡ []
none_in [] f = refl
none_in (x ∷ l) f = absurd (f x (Memᴰ.head refl))

module _ (M : ℕ → Type 0) where
  taken : {r s : Rule} → Alike r s → Taken M r → Taken M s
  taken a t n i = t n ((a.body (negsuc n)).1 i)

  gives : {r s : Rule} {h : ℕ} → Alike r s → Gives M r h → Gives M s h
  gives {h = h} a g = ((a.heads (pos h)).0 g.0, subst (λ (k : Kind). Chosen M k h) a.kind g.1)

  least-of : {P Q : List Rule} → Covers Q P → {a : ℕ} → LeastModel M P a → LeastModel M Q a
  least-of c (derive r i t g f) =
      let q = c r i in
      let b = alike-back q.2 in
      derive q.0 q.1 (taken b t) (gives b g) (λ a j. least-of c (f a ((q.2.body (pos a)).0 j)))

  met : {r s : Rule} → Alike r s → Met M r → Met M s
  met a m = (λ x j. m.0 x ((a.body (pos x)).1 j), taken a m.1)

  constraint : {r s : Rule} → Alike r s → Constraint s → Constraint r
  constraint {r} a c = (a.kind ∙ c.0, none_in r.heads (λ x i. elim (subst (λ l. x ∈ l) c.1 ((a.heads x).0 i)) [ ]))

  pub answers-same : {P Q : List Rule} → Covers P Q → Covers Q P → AnswerSet M P → AnswerSet M Q
  answers-same c d S =
      record {
        least = λ a. (λ m. least-of d ((S.least a).0 m), λ l. (S.least a).1 (least-of c l));
        kept = λ s i k m. let q = c s i in S.kept q.0 q.1 (constraint q.2 k) (met (alike-back q.2) m);
      }

-- with the same rules behind them
same_alike : (r : Rule) → Alike r r
same_alike r = record { kind = refl; heads = λ x. (λ i. i, λ i. i); body = λ x. (λ i. i, λ i. i) }

covers-append : {P Q : List Rule} (F : List Rule) → Covers P Q → Covers (P ++ F) (Q ++ F)
covers-append {P} {Q} F c s i = elim (Memᴰ.append_cases Q i) [
  | inl j ↦ let q = c s j in (q.0, Memᴰ.append_left F q.1, q.2)
  | inr j ↦ (s, Memᴰ.append_right P j, same_alike s)
]

-- Bodies put in order

rises : (ps : List Weighted) → distinct (literals ps) ≡ true → rising (literals (arranged ps)) ≡ true
rises ps d = ap rising (literals-arranged ps) ∙ rising-ascending (literals ps) ∙ d

body-from : (b : Body) → distinct (literals_of b) ≡ true → {t : List ℤ} → t ∈ bodies_of (sorted_body b) → (u : List ℤ) × (u ∈ bodies_of b) × (ascending u ≡ t)
unfolding bodies_of
body-from (plain ls) d i = (ls, Memᴰ.head refl, sym (Memᴰ.eq_of_singleton i))
body-from (weights b ps) d i = reordered→ b (rises ps d) (arranged-reorder ps d) i

body-to : (b : Body) → distinct (literals_of b) ≡ true → {u : List ℤ} → u ∈ bodies_of b → ascending u ∈ bodies_of (sorted_body b)
unfolding bodies_of
body-to (plain ls) d i = Memᴰ.head (ap ascending (Memᴰ.eq_of_singleton i))
body-to (weights b ps) d i = reordered← b (rises ps d) (arranged-reorder ps d) i

in_order : (l : List ℤ) → Same l (ascending l)
in_order l x = (ascending← l, ascending→ l)

ordered : (w : InputRule) (u : List ℤ) → Alike (with_body w u) (with_body (sorted_rule w) (ascending u))
ordered w u = record { kind = refl; heads = in_order w.heads; body = in_order u }

module _ (ws : List InputRule) (once : (w : InputRule) → w ∈ ws → Once w) where
  covers-sorted : Covers (expand ws) (expand (map sorted_rule ws))
  covers-sorted s i = by (expand→ (map sorted_rule ws) i)
    where
      by : Expanded (map sorted_rule ws) s → (r : Rule) × (r ∈ expand ws) × Alike r s
      by x =
          let o = Memᴰ.of_map sorted_rule ws x.among in
          let w = o.0 in
          let e : sorted_rule w ≡ x.rule = o.2 in
          let b = body-from w.body (once w o.1) (subst (λ (y : InputRule). x.body ∈ bodies_of y.body) (sym e) x.one) in
          let q : with_body (sorted_rule w) (ascending b.0) ≡ s = ap (with_body (sorted_rule w)) b.2 ∙ ap (λ (y : InputRule). with_body y x.body) e ∙ x.is in
          (with_body w b.0, expand← o.1 b.1, subst (Alike (with_body w b.0)) q (ordered w b.0))

  covers-written : Covers (expand (map sorted_rule ws)) (expand ws)
  covers-written s i = by (expand→ ws i)
    where
      by : Expanded ws s → (r : Rule) × (r ∈ expand (map sorted_rule ws)) × Alike r s
      by x =
          let w = x.rule in
          let u = x.body in (
            with_body (sorted_rule w) (ascending u),
            expand← (Memᴰ.map sorted_rule x.among) (body-to w.body (once w x.among) x.one),
            subst (Alike (with_body (sorted_rule w) (ascending u))) x.is (alike-back (ordered w u)),
          )

  module _ (M : ℕ → Type 0) where
    pub sorted-set : AnswerSet M (expand ws) → AnswerSet M (expand (map sorted_rule ws))
    sorted-set = answers-same M covers-sorted covers-written

    pub written-set : AnswerSet M (expand (map sorted_rule ws)) → AnswerSet M (expand ws)
    written-set = answers-same M covers-written covers-sorted

    pub sorted-with : (us : List InputRule) → AnswerSet M (expand (ws ++ us)) → AnswerSet M (expand (map sorted_rule ws ++ us))
    sorted-with us S =
        subst (AnswerSet M) (sym (expand-append (map sorted_rule ws) us))
        (answers-same M (covers-append (expand us) covers-sorted) (covers-append (expand us) covers-written) (subst (AnswerSet M) (expand-append ws us) S))
