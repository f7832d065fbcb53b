-- The computation of an `a` step agrees with the least set of document 01, both ways: `closure-computed`.
-- A round adds only what the closure has; and once enough rounds are over (proofs/Rounds.antt), either two literals clash or
-- nothing is left to derive, so that the closure has been reached. Assumes nothing.
use mathlib.Core.Path.{◌≡◌, refl, sym}
use mathlib.Core.Logic.{◌⊎◌, inl, inr}
use mathlib.Core.Bool.{not}
use mathlib.Core.List.Memᴰ
use mathlib.Core.List.{List, [], ◌∷◌, map, nil≢cons}
use native.Mathlib.Omega.{arith}
use lib.IntN.{ℤ}
use lib.ListN.{length, length-map}
use Rattle.words.specs.Lists.{◌∈◌, any, filter, concat}
use Rattle.words.specs.Literals.{complement, same, has}
use Rattle.words.proofs.Lists.{Decides, passed, answered, reworded, or-decides, not-decides, any-decides, all-decides, keep→, keep←, join_all→, join_all←}
use Rattle.words.proofs.Literals.{same-decides, has-decides, complement-twice}
use Rattle.aspif.specs.Rules.{is_empty}
use Rattle.derivation.specs.Propagation.{Closure, given, unit, Conflict, others_in, derivable, fresh, clash, saturate, refuted}
use Rattle.derivation.specs.Claims.{ClosureComputed}
use Rattle.derivation.proofs.Rounds.{Rounds, Ended, rounds-end}

is_empty-decides : (g : List ℤ) → Decides (is_empty g) ([] ≡ g)
is_empty-decides [] = record { to = λ t. refl; from = λ p. tt }
is_empty-decides (x ∷ g) = record { to = λ t. absurd t; from = λ p. nil≢cons p }

-- the test for the empty nogood, of the live nogoods
pub empty-decides : (live : List (List ℤ)) → Decides (any is_empty live) ([] ∈ live)
empty-decides live = reworded (λ r. Memᴰ.cast r.2 r.1) (λ m. ([], m, refl)) (any-decides is_empty-decides live)

clash-decides : (A : List ℤ) → Decides (clash A) ((x : ℤ) × (x ∈ A) × (complement x ∈ A))
clash-decides A = any-decides (λ x. has-decides (complement x) A) A

-- g makes x derivable from A: its literal is the complement of x, and its others are in A
abbrev Others : List ℤ → List ℤ → ℤ → Type 0
Others A g x = (k : ℤ) → k ∈ g → (k ≡ complement x) ⊎ (k ∈ A)

others-decides : (A g : List ℤ) (x : ℤ) → Decides (others_in A g (complement x)) (Others A g x)
others-decides A g x = all-decides (λ k. or-decides (same-decides k (complement x)) (has-decides k A)) g

module _ (live : List (List ℤ)) (A : List ℤ) where
  abbrev Derived : ℤ → Type 0
  Derived x = (g : List ℤ) × (g ∈ live) × (complement x ∈ g) × Others A g x

  kept : List ℤ → List ℤ
  kept g = filter (others_in A g) g

  derivable→ : {x : ℤ} → x ∈ derivable live A → Derived x
  unfolding kept
  derivable→ {x} m =
      let q = Memᴰ.of_map complement (concat (map kept live)) m in
      let r = join_all→ (map kept live) q.1 in
      let s = Memᴰ.of_map kept live r.1 in
      go q.2 s.1 r.2 s.2
    where
      go : {y : ℤ} {g k : List ℤ} → complement y ≡ x → g ∈ live → y ∈ k → kept g ≡ k → Derived x
      go {y} {g} p n u e =
          let c : complement x ≡ y = rw (← p) (complement-twice y) in
          let v = keep→ (others_in A g) g (rw (← e) at u) in
          (g, n, Memᴰ.cast c v.0, (others-decides A g x).to (rw c v.1))

  derivable← : {x : ℤ} → Derived x → x ∈ derivable live A
  unfolding kept
  derivable← {x} d =
      let g = d.0 in
      Memᴰ.cast (sym (complement-twice x))
      (Memᴰ.map complement (join_all← (Memᴰ.map kept d.1) (keep← (others_in A g) d.2 ((others-decides A g x).from d.3))))

module _ (live : List (List ℤ)) (L : List ℤ) where
  -- the candidates are the complements of the nogoods' literals
  saturating : Rounds (Closure live L) (Derived live) (map complement (concat live)) (fresh live) clash (λ n A. saturate n live A)
  saturating = record {
    none = λ A. refl;
    turn = λ n A. refl;
    fresh→ = λ A x m.
        let k = keep→ (λ x. not (has x A)) (derivable live A) m in
        (derivable→ live A k.0, (not-decides (has-decides x A)).to k.1);
    fresh← = λ A x d f. keep← (λ x. not (has x A)) (derivable← live A d) ((not-decides (has-decides x A)).from f);
    among = λ A x d. Memᴰ.cast (sym (complement-twice x)) (Memᴰ.map complement (join_all← d.1 d.2));
    keeps = λ A w x d. unit d.0 d.1 d.2 (λ k n f. elim (d.3 k n) [ inl p ↦ absurd (f p) | inr u ↦ w k u ]);
  }

  abbrev reached : List ℤ
  reached = saturate (length (concat live)) live L

  saturated : Ended (Closure live L) (Derived live) clash L reached
  saturated = rounds-end saturating (length (concat live)) L (omega (arith, length-map (concat live) complement)) (λ x m. given m)

  -- where nothing new is derivable
  module _ (closed : (x : ℤ) → Derived live reached x → x ∈ reached) where
    closure-in : {x : ℤ} → Closure live L x → x ∈ reached
    closure-in (given m) = saturated.start _ m
    closure-in (unit {x = x} g m u f) = closed x (g, m, u, others (λ k n d. closure-in (f k n d)))
      where
        others : ((k : ℤ) → k ∈ g → ¬ (k ≡ complement x) → k ∈ reached) → Others reached g x
        others below k n = elim (answered (same k (complement x))) [
          | inl t ↦ inl ((same-decides k (complement x)).to t)
          | inr t ↦ inr (below k n ((not-decides (same-decides k (complement x))).to t))
        ]

  clash→ : (x : ℤ) × (x ∈ reached) × (complement x ∈ reached) → (x : ℤ) × Closure live L x × Closure live L (complement x)
  clash→ r = let w = saturated.within in (r.0, w r.0 r.1, w (complement r.0) r.2)

  clash← : (x : ℤ) × Closure live L x × Closure live L (complement x) → (x : ℤ) × (x ∈ reached) × (complement x ∈ reached)
  clash← r = elim saturated.closed [
    | inl t ↦ (clash-decides reached).to t
    | inr c ↦ (r.0, closure-in c r.1, closure-in c r.2)
  ]

  pub refuted-decides : Decides (refuted live L) (Conflict live L)
  refuted-decides = or-decides (reworded clash→ clash← (clash-decides reached)) (empty-decides live)

pub closure-computed : ClosureComputed
closure-computed live L =
    (λ p. (refuted-decides live L).to ((passed (refuted live L)).from p), λ c. (passed (refuted live L)).to ((refuted-decides live L).from c))
