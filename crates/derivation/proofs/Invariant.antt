-- What holds between steps, for a set M: there is a valuation that agrees with M on the atoms, under which each name of a rule
-- body means that body and no live nogood holds. Names and live nogoods have known variables only, so a fresh name can be given
-- any value. Assumes nothing.
use mathlib.Core.Path.{◌≡◌, refl, transport, transport⁻¹, sym, subst}
use mathlib.Core.Logic.Iff
use mathlib.Core.Logic.{◌⊎◌, inl, inr, ◌↔◌}
use mathlib.Core.Bool.{Bool}
use mathlib.Core.List.Memᴰ
use mathlib.Core.List.{List, [], ◌∷◌}
use Prim.Native.Nat.{ℕ, zero, suc}
use lib.Dec.{T}
use lib.IntN.{ℤ, pos, negsuc}
use Rattle.words.specs.Lists.{◌∈◌}
use Rattle.words.specs.Literals.{variable, complement, ascending}
use Rattle.words.proofs.Literals.{variable-complement, ascending→}
use Rattle.drupe.specs.Lines.{is_positive}
use Rattle.derivation.specs.States.{Named, State, start, is_atom, is_known}
use Rattle.derivation.specs.Steps.{add, definition, define}
use Rattle.derivation.proofs.Valuations.{True, All, Means, means-of, definition-false, all-unsorted, all-sorted, true-agrees, put, put-here, put_other}
use Rattle.derivation.proofs.Questions.{known-decides, atom-known}

-- every variable of the list is known
abbrev pub AllKnown : ℕ → State → List ℤ → Type 0
AllKnown N z L = (y : ℤ) → y ∈ L → T (is_known N z (variable y))

-- every variable of the list is an atom
abbrev pub AllAtoms : ℕ → List ℤ → Type 0
AllAtoms N L = (y : ℤ) → y ∈ L → T (is_atom N (variable y))

-- a name of a rule body, and a live nogood; `test` is the one for known variables
module _ (N : ℕ) (test : ℕ → Bool) (W : ℕ → Type 0) where
  pub record NameKept (x : Named) : Type 0 where
    pub known : T (test x.name)
    pub atoms : AllAtoms N x.body
    pub means : Means W (pos x.name) x.body

  pub record NogoodKept (g : List ℤ) : Type 0 where
    pub known : (y : ℤ) → y ∈ g → T (test (variable y))
    pub fails : ¬ All W g

pub record Kept (N : ℕ) (M : ℕ → Type 0) (z : State) : Type 1 where
  pub W : ℕ → Type 0
  pub atoms : (v : ℕ) → T (is_atom N v) → W v ↔ M v
  pub named : (x : Named) → x ∈ z.named → NameKept N (is_known N z) W x
  pub live : (g : List ℤ) → g ∈ z.live → NogoodKept N (is_known N z) W g

module _ (N : ℕ) (M : ℕ → Type 0) where
  pub start-kept : Kept N M start
  start-kept = record { W = M; atoms = λ v t. Iff.rfl; named = λ x m. elim m [ ]; live = λ g m. elim m [ ] }

  -- one more nogood that fails
  pub add_kept : (z : State) (k : Kept N M z) (g : List ℤ) → AllKnown N z g → ¬ All k.W g → Kept N M (add z (ascending g ∷ []))
  add_kept z k g a f = record { W = k.W; atoms = k.atoms; named = k.named; live = λ h m. go h (Memᴰ.append_cases z.live m) }
    where
      go : (h : List ℤ) → (h ∈ z.live) ⊎ (h ∈ ascending g ∷ []) → NogoodKept N (is_known N z) k.W h
      go h (inl m) = k.live h m
      go h (inr m) = rw (Memᴰ.eq_of_singleton m) (record { known = λ y u. a y (ascending→ g u); fails = λ t. f (all-unsorted k.W g t) })

  -- a fresh name, with the literals that it is to mean
  module _ (z : State) (k : Kept N M z) (n : ℕ) (L : List ℤ) (named : List Named) (fresh : ¬ T (is_known N z (suc n))) (known : AllKnown N z L) where
    abbrev after : State
    after = define z (pos (suc n)) L named

    -- the valuation that gives the name its meaning, and agrees with the old one on what is known
    W' : ℕ → Type 0
    W' = put k.W (suc n) (All k.W L)

    same-value : (v : ℕ) → T (is_known N z v) → W' v ≡ k.W v
    unfolding W'
    same-value v t = put_other k.W (suc n) (All k.W L) v (λ p. fresh (rw p at t))

    same_true : (y : ℤ) → T (is_known N z (variable y)) → True W' y ≡ True k.W y
    same_true y t = true-agrees W' k.W y (same-value (variable y) t)

    same-all : (l : List ℤ) → AllKnown N z l → All W' l ↔ All k.W l
    same-all l a = (λ f y m. transport (same_true y (a y m)) (f y m), λ f y m. transport⁻¹ (same_true y (a y m)) (f y m))

    same-means : (m : ℤ) (l : List ℤ) → T (is_known N z (variable m)) → AllKnown N z l → Means k.W m l → Means W' m l
    same-means m l t a e = (
      λ u. (same-all l a).1 (e.0 (transport (same_true m t) u)),
      λ u f. e.1 (transport (same_true (complement m) (rw (variable-complement m) t)) u) ((same-all l a).0 f),
    )

    new-means : Means W' (pos (suc n)) L
    unfolding W'
    new-means = means-of W' n L (rw (put-here k.W (suc n) (All k.W L)) (Iff.symm (same-all L known)))

    -- what is known stays known, and the name is
    still : (v : ℕ) → T (is_known N z v) → T (is_known N after v)
    still v t = (known-decides N after v).from (elim ((known-decides N z v).to t) [ inl a ↦ inl a | inr m ↦ inr (Memᴰ.tail m) ])

    name-known : T (is_known N after (suc n))
    name-known = (known-decides N after (suc n)).from (inr (Memᴰ.head refl))

    definition-known : (g : List ℤ) → g ∈ definition (pos (suc n)) L → AllKnown N after g
    definition-known g (Memᴰ.head p) y u = first (ascending→ (complement (pos (suc n)) ∷ L) (rw p at u))
      where
        first : y ∈ complement (pos (suc n)) ∷ L → T (is_known N after (variable y))
        first (Memᴰ.head q) = subst (λ (t : ℤ). T (is_known N after (variable t))) (sym q) name-known
        first (Memᴰ.tail u) = still (variable y) (known y u)
    definition-known g (Memᴰ.tail m) y u =
        let r = Memᴰ.of_map (λ x. ascending (pos (suc n) ∷ complement x ∷ [])) (ascending L) m in
        pair r.0 (ascending→ L r.1) (ascending→ (pos (suc n) ∷ complement r.0 ∷ []) (rw (← r.2) at u))
      where
        pair : (x : ℤ) → x ∈ L → y ∈ pos (suc n) ∷ complement x ∷ [] → T (is_known N after (variable y))
        pair x m (Memᴰ.head q) = subst (λ (t : ℤ). T (is_known N after (variable t))) (sym q) name-known
        pair x m (Memᴰ.tail u) =
            subst (λ (t : ℤ). T (is_known N after (variable t))) (sym (Memᴰ.eq_of_singleton u))
            (subst (λ (n : ℕ). T (is_known N after n)) (sym (variable-complement x)) (still (variable x) (known x m)))

    -- the bodies named afterwards are those named before and perhaps the new one, if its literals are atoms
    abbrev Names : Type 0
    Names = (x : Named) → x ∈ named → (x ∈ z.named) ⊎ ((x ≡ record { name = suc n; body = ascending L }) × AllAtoms N L)

    names-kept : Names → (x : Named) → x ∈ named → NameKept N (is_known N after) W' x
    names-kept s x m = go (s x m)
      where
        go : (x ∈ z.named) ⊎ ((x ≡ record { name = suc n; body = ascending L }) × AllAtoms N L) → NameKept N (is_known N after) W' x
        go (inl u) =
            let q = k.named x u in
            record {
              known = still x.name q.known;
              atoms = q.atoms;
              means = same-means (pos x.name) x.body q.known (λ y v. atom-known N z (variable y) (q.atoms y v)) q.means;
            }
        go (inr r) = rw r.0 (record {
          known = name-known;
          atoms = λ y u. r.1 y (ascending→ L u);
          means = (λ t. all-sorted W' L (new-means.0 t), λ t f. new-means.1 t (all-unsorted W' L f));
        })

    define-new : ¬ (pos 0 ∈ L) → Names → Kept N M after
    define-new nz s = record {
      W = W';
      atoms = λ v t. rw (same-value v (atom-known N z v t)) (k.atoms v t);
      named = names-kept s;
      live = λ g m. go g (Memᴰ.append_cases z.live m);
    }
      where
        go : (g : List ℤ) → (g ∈ z.live) ⊎ (g ∈ definition (pos (suc n)) L) → NogoodKept N (is_known N after) W' g
        go g (inl m) =
            let q = k.live g m in
            record { known = λ y u. still (variable y) (q.known y u); fails = λ f. q.fails ((same-all g q.known).0 f) }
        go g (inr m) = record { known = definition-known g m; fails = definition-false W' (pos (suc n)) L nz new-means g m }

  pub define-kept : (z : State) → Kept N M z → (n : ℤ) (L : List ℤ) (named : List Named)
      → T (is_positive n) → ¬ T (is_known N z (variable n)) → AllKnown N z L → ¬ (pos 0 ∈ L)
      → ((x : Named) → x ∈ named → (x ∈ z.named) ⊎ ((x ≡ record { name = variable n; body = ascending L }) × AllAtoms N L))
      → Kept N M (define z n L named)
  define-kept z k (pos zero) L named t = absurd t
  define-kept z k (pos (suc n)) L named t = λ fresh known. define-new z k n L named fresh known
  define-kept z k (negsuc n) L named t = absurd t
