-- The edges to one place, marked along the chain of its atom: those of each rule with that head.
-- Assumes nothing.
use mathlib.Core.Path.{◌≡◌, sym, ap, subst, ◌∙◌}
use mathlib.Core.Logic.{◌⊎◌, inl, inr}
use mathlib.Core.Bool.{Bool, true, ◌&&◌, ◌||◌, or-false}
use mathlib.Core.List.Memᴰ
use mathlib.Core.List.{List, [], ◌∷◌}
use Prim.Native.Nat.{ℕ, suc, ◌+◌, ◌<◌}
use lib.IntN.{ℤ, pos}
use lib.ListN.{length, get_or, drop, replicate}
use Rattle.words.specs.Limits.{most_numbers}
use Rattle.words.specs.Lists.{◌∈◌, any}
use Rattle.words.proofs.Lists.{Decides, passed, if-true, is_true, same_test, and_left, and_right, and_both, or-decides, any-decides, eqb-decides}
use Rattle.words.proofs.Literals.{has-decides}
use Rattle.words.proofs.Places.{in-at}
use Rattle.aspif.specs.Rules.{all_plain, bodies_of}
use Rattle.aspif.specs.Tables.{heads_at, body_words_at, body_at, rules_at}
use Rattle.heads.specs.Heads.{words_from, HasHead}
use Rattle.heads.proofs.Starts.{any-written, plain-rule}
use Rattle.loops.specs.Edges.{place_by, Placed, is_at, cells, edge_at, More, rule_edge}
use Rattle.loops.proofs.EdgeMarks.{Filling, filling-none, body-split}
use Rattle.loops.proofs.Expanded.{plain-edge}

-- an element that has the place
at-decides : (m : List ℕ) (i : ℕ) (l : List ℤ) → Decides (any (is_at m i) l) ((x : ℤ) × (x ∈ l) × (place_by m x ≡ suc i))
at-decides m i l = any-decides (λ x. eqb-decides (place_by m x) (suc i)) l

module _ (t : List ℤ) (rules : ℕ) (m : List ℕ) where
  -- the edges of all rules
  abbrev pub edges_all : ℕ → ℕ → Bool
  edges_all i j = any (rule_edge m i j) (rules_at rules t)

  -- the edges of rule k to these heads are marked
  abbrev pub Drawn : List ℤ → List ℕ → ℕ → Type 0
  Drawn head e k =
      (i j : ℕ) → i < most_numbers → j < most_numbers → any (is_at m i) (body_words_at (words_from k t)) ≡ true → any (is_at m j) head ≡ true → edge_at e i j ≡ true

  -- the edges are those before, and some of those to these heads
  pub record Drawing (head : List ℤ) (before e : List ℕ) : Type 0 where
    pub long : length e ≡ cells
    pub keeps : (i j : ℕ) → i < most_numbers → j < most_numbers → edge_at before i j ≡ true → edge_at e i j ≡ true
    pub sound : (i j : ℕ) → i < most_numbers → j < most_numbers → edge_at e i j ≡ true
        → (edge_at before i j ≡ true) ⊎ ((any (is_at m j) head && edges_all i j) ≡ true)

  pub drawing-start : (head : List ℤ) (e : List ℕ) → length e ≡ cells → Drawing head e e
  drawing-start head e h = record { long = h; keeps = λ i j a b q. q; sound = λ i j a b q. inl q }

  -- one rule more
  module _ (plain : all_plain (rules_at rules t) ≡ true) {v k : ℕ} {head body : List ℤ} {e after : List ℕ} (one : head ≡ pos v ∷ []) (H : HasHead t rules v k)
      (is : body ≡ body_words_at (words_from k t)) (M : More (λ i j. any (is_at m i) body && any (is_at m j) head) e after) where
    cases : (i j : ℕ) → i < most_numbers → j < most_numbers
        → Decides (edge_at after i j) ((edge_at e i j ≡ true) ⊎ ((any (is_at m i) body && any (is_at m j) head) ≡ true))
    cases i j a b = rw (M.has i j a b) (or-decides (passed (edge_at e i j)) (passed (any (is_at m i) body && any (is_at m j) head)))

    in-heads : (x : ℤ) → x ∈ head → x ∈ heads_at (words_from k t)
    in-heads x i = elim (Memᴰ.cases_cons (subst (λ l. x ∈ l) one i)) [
      | inl q ↦ subst (λ z. z ∈ heads_at (words_from k t)) (sym q) (if-true (has-decides (pos v) (heads_at (words_from k t))) H.1)
      | inr n ↦ elim n [ ]
    ]

    an-edge : (i j : ℕ) → any (is_at m i) body ≡ true → any (is_at m j) head ≡ true → edges_all i j ≡ true
    an-edge i j p q =
        let w = if-true (at-decides m j head) q in
        is_true (any-written (rule_edge m i j) rules t) (
          k,
          H.0,
          and_both (plain-edge (is_at m i) (words_from k t) (plain-rule rules t plain k H.0) ∙ ap (any (is_at m i)) (sym is) ∙ p)
              (is_true (at-decides m j (heads_at (words_from k t))) (w.0, in-heads w.0 w.1, w.2)),
        )

    pub drawing-on : {before : List ℕ} → Drawing head before e → Drawing head before after
    drawing-on D = record {
      long = M.long;
      keeps = λ i j a b q. is_true (cases i j a b) (inl (D.keeps i j a b q));
      sound = λ i j a b q. elim (if-true (cases i j a b) q) [
        | inl o ↦ D.sound i j a b o
        | inr n ↦
            let p = and_left (any (is_at m i) body) _ n in
            let r = and_right (any (is_at m i) body) _ n in
            inr (and_both r (an-edge i j p r))
      ];
    }

    pub drawn-keeps : (n : ℕ) → Drawn head e n → Drawn head after n
    drawn-keeps n f i j a b p q = is_true (cases i j a b) (inl (f i j a b p q))

    pub drawn-here : Drawn head after k
    drawn-here i j a b p q = is_true (cases i j a b) (inr (and_both (ap (any (is_at m i)) is ∙ p) q))

  -- all rules with the head
  pub drawing-end : all_plain (rules_at rules t) ≡ true → {v : ℕ} {head U : List ℤ} {before e : List ℕ} → head ≡ pos v ∷ [] → Placed m U → Drawing head before e
      → ((k : ℕ) → HasHead t rules v k → Drawn head e k) → More (λ i j. any (is_at m j) head && edges_all i j) before e
  drawing-end plain {v} {head} {U} {before} {e} one P D all = record {
    long = D.long;
    has = λ i j a b.
        same_test (passed (edge_at e i j)) (or-decides (passed (edge_at before i j)) (passed (any (is_at m j) head && edges_all i j)))
        (D.sound i j a b)
        (λ s. elim s [ inl q ↦ D.keeps i j a b q | inr q ↦ from i j a b (and_left (any (is_at m j) head) _ q) (and_right (any (is_at m j) head) _ q) ]);
  }
    where
      the-head : (j : ℕ) → any (is_at m j) head ≡ true → get_or U j (pos 0) ≡ pos v
      the-head j q =
          let w = if-true (at-decides m j head) q in
          elim (Memᴰ.cases_cons (subst (λ l. w.0 ∈ l) one w.1)) [ inl r ↦ (P.to w.0 j w.2).1 ∙ r | inr n ↦ elim n [ ] ]

      from : (i j : ℕ) → i < most_numbers → j < most_numbers → any (is_at m j) head ≡ true → edges_all i j ≡ true → edge_at e i j ≡ true
      from i j a b q r =
          let k = if-true (any-written (rule_edge m i j) rules t) r in
          let ws = words_from k.0 t in
          let f = and_left (any (any (is_at m i)) (bodies_of (body_at ws))) _ k.2 in
          let g = if-true (at-decides m j (heads_at ws)) (and_right (any (any (is_at m i)) (bodies_of (body_at ws))) _ k.2) in
          let x : g.0 ≡ pos v = sym (P.to g.0 j g.2).1 ∙ the-head j q in
          all k.0 (k.1, is_true (has-decides (pos v) (heads_at ws)) (subst (λ z. z ∈ heads_at ws) x g.1)) i j a b
          (sym (plain-edge (is_at m i) ws (plain-rule rules t plain k.0 k.1)) ∙ f) q

  -- an edge leads to a number of the line
  to_number : {U : List ℤ} → Placed m U → (i j : ℕ) → (any (is_at m j) U && edges_all i j) ≡ edges_all i j
  to_number {U} P i j =
      same_test (passed (any (is_at m j) U && edges_all i j)) (passed (edges_all i j))
      (λ q. and_right (any (is_at m j) U) _ q)
      (λ q. and_both (there q) q)
    where
      there : edges_all i j ≡ true → any (is_at m j) U ≡ true
      there q =
          let k = if-true (any-written (rule_edge m i j) rules t) q in
          let ws = words_from k.0 t in
          let g = if-true (at-decides m j (heads_at ws)) (and_right (any (any (is_at m i)) (bodies_of (body_at ws))) _ k.2) in
          let p = P.to g.0 j g.2 in
          is_true (at-decides m j U) (g.0, subst (λ z. z ∈ U) p.1 (in-at (pos 0) U j p.0), g.2)

  pub numbers-left : {U : List ℤ} → Placed m U → Filling (replicate cells 0) (λ i j. any (is_at m j) U && edges_all i j) edges_all
  numbers-left P = let F = filling-none edges_all in record { long = F.long; has = λ i j a b. ap (λ (c : Bool). edge_at (replicate cells 0) i j || c) (to_number P i j) ∙ F.has i j a b }

  -- one number off what is left
  pub number-split : (l head : List ℤ) (k : ℕ) → k < length l → head ≡ get_or l k (pos 0) ∷ [] → (i j : ℕ)
      → (any (is_at m j) (drop k l) && edges_all i j) ≡ ((any (is_at m j) head && edges_all i j) || (any (is_at m j) (drop (k + 1) l) && edges_all i j))
  number-split l head k h e i j =
      body-split (is_at m j) l k (pos 0) h (edges_all i j)
      ∙ ap (λ (b : Bool). (b && edges_all i j) || (any (is_at m j) (drop (k + 1) l) && edges_all i j)) (sym (ap (any (is_at m j)) e ∙ or-false (is_at m j (get_or l k (pos 0)))))
