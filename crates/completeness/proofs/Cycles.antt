-- A cycle of more than 65 atoms, the last of which leads to the first, with a constraint that asks for the first: there is no answer set, and no
-- derivation where question 23 is put, since the one loop there is does not fit a line. All atoms true is a supported model, and what holds of it
-- between steps is what crates/derivation/proofs/Invariant.antt says. Assumes nothing.
use mathlib.Core.Path.{◌≡◌, refl, sym, ◌∙◌, ap, subst}
use mathlib.Core.Logic.{◌⊎◌, inl, inr}
use mathlib.Core.Bool.{Bool, not}
use mathlib.Core.List.Memᴰ
use mathlib.Core.List.{List, [], ◌∷◌, map}
use Prim.Native.Nat.{ℕ, zero, suc, ◌≤◌, ◌<◌}
use native.Mathlib.Omega.{arith}
use lib.Dec.{T, leb}
use lib.IntN.{ℤ, pos, negsuc}
use lib.ListN.{length}
use Rattle.words.specs.Lists.{◌∈◌, filter}
use Rattle.words.specs.Limits.{most_numbers}
use Rattle.words.specs.Literals.{variable, complement, same}
use Rattle.words.proofs.Lists.{answered, and-decides, not-decides, any-decides, leb-decides, keep←}
use Rattle.words.proofs.Literals.{same-decides, has-decides}
use Rattle.aspif.specs.Rules.{Rule, plain_atoms}
use Rattle.aspif.specs.declared.Kind.TheVariants.{Normal}
use Rattle.aspif.specs.AnswerSets.{LeastModel, derive, AnswerSet}
use Rattle.drupe.specs.Lines.{is_positive}
use Rattle.derivation.specs.Loops.{is_edge, Reaches, one, more}
use Rattle.derivation.specs.Loops as Loops
use Rattle.derivation.specs.States.{State, is_atom, is_name}
use Rattle.derivation.proofs.Valuations.{True, All}
use Rattle.derivation.proofs.Questions.{positive-is, pos-positive, atom-decides}
use Rattle.derivation.proofs.Invariant.{Kept}
use Rattle.derivation.proofs.Nogoods.{Positives, name-means}
use Rattle.derivation.proofs.Sustaining.{Sustained, never-refuted}
use Rattle.completeness.specs.Claims.{WellFormed, Accepted, Incomplete}
use Rattle.completeness.proofs.Totals.{shorter}
use Rattle.completeness.proofs.Exact.{well-within}

-- as many different members
many : (n : ℕ) (l : List ℤ) → ((j : ℕ) → 1 ≤ j → j ≤ n → pos j ∈ l) → n ≤ length l
many zero l f = omega arith
many (suc n) l f =
    omega (arith, many n (filter other l) (λ j a b. keep← other (f j a (omega arith)) (differs j b)), shorter (pos (suc n)) (f (suc n) (omega arith) (omega arith)))
  where
    other : ℤ → Bool
    other y = not (same (pos (suc n)) y)

    differs : (j : ℕ) → j ≤ n → T (other (pos j))
    differs j b = (not-decides (same-decides (pos (suc n)) (pos j))).from (λ p. let e : suc n ≡ j = ap variable p in omega arith)

module _ (n : ℕ) where
  -- the atom that the rule of an atom asks for
  before : ℕ → ℕ
  before zero = n
  before (suc zero) = n
  before (suc (suc i)) = suc i

  turn : ℕ → Rule
  turn i = record { kind = Normal; heads = pos i ∷ []; body = pos (before i) ∷ [] }

  first : Rule
  first = record { kind = Normal; heads = []; body = negsuc 0 ∷ [] }

  -- the rules of the atoms from k down to 1
  turns : ℕ → List Rule
  turns zero = []
  turns (suc k) = turn (suc k) ∷ turns k

  turns→ : (k : ℕ) {r : Rule} → r ∈ turns k → (i : ℕ) × (1 ≤ i) × (i ≤ k) × (r ≡ turn i)
  unfolding turns
  turns→ zero m = elim m [ ]
  turns→ (suc k) (Memᴰ.head p) = (suc k, omega arith, omega arith, p)
  turns→ (suc k) (Memᴰ.tail m) = let h = turns→ k m in (h.0, h.1, omega (arith, h.2), h.3)

  turns← : (k i : ℕ) → 1 ≤ i → i ≤ k → turn i ∈ turns k
  unfolding turns
  turns← zero i a b = absurd (omega arith)
  turns← (suc k) i a b = by (λ h. turns← k i a h) (answered (leb i k))
    where
      by : (i ≤ k → turn i ∈ turns k) → T (leb i k) ⊎ T (not (leb i k)) → turn i ∈ turn (suc k) ∷ turns k
      by f (inl t) = Memᴰ.tail (f ((leb-decides i k).to t))
      by f (inr t) = Memᴰ.head (ap turn (let g : ¬ (i ≤ k) = (not-decides (leb-decides i k)).to t in let e : i ≡ suc k = omega arith in e))

  cycle : List Rule
  cycle = first ∷ turns n

  in-cycle : {r : Rule} → r ∈ cycle → (r ≡ first) ⊎ ((i : ℕ) × (1 ≤ i) × (i ≤ n) × (r ≡ turn i))
  unfolding cycle
  in-cycle m = elim (Memᴰ.cases_cons m) [ inl p ↦ inl p | inr j ↦ inr (turns→ n j) ]

  first-in : first ∈ cycle
  unfolding cycle
  first-in = Memᴰ.head refl

  turn_in : (i : ℕ) → 1 ≤ i → i ≤ n → turn i ∈ cycle
  unfolding cycle
  turn_in i a b = Memᴰ.tail (turns← n i a b)

  before-in : 1 ≤ n → (i : ℕ) → i ≤ n → (1 ≤ before i) × (before i ≤ n)
  unfolding before
  before-in h zero k = (h, omega arith)
  before-in h (suc zero) k = (h, omega arith)
  before-in h (suc (suc i)) k = (omega arith, omega arith)

  -- The program is well formed

  each-rule : (F : Rule → Type 0) → F first → ((i : ℕ) → 1 ≤ i → i ≤ n → F (turn i)) → (r : Rule) → r ∈ cycle → F r
  each-rule F a f r m = elim (in-cycle m) [ inl p ↦ subst F (sym p) a | inr q ↦ subst F (sym q.3) (f q.0 q.1 q.2) ]

  well : 1 ≤ n → WellFormed n cycle
  unfolding first turn
  well low = record {
    heads = each-rule _ (λ h j. elim j [ ]) (λ i a b h j. rw (Memᴰ.eq_of_singleton j) (pos-positive i a, b));
    single = each-rule _ (λ _. omega arith) (λ i a b _. omega arith);
    literals = each-rule _ (λ x j. rw (Memᴰ.eq_of_singleton j) (omega arith, low)) (λ i a b x j. rw (Memᴰ.eq_of_singleton j) (before-in low i b));
    bodies = each-rule _ refl (λ i a b. refl);
  }

  -- It has no answer set

  module _ (M : ℕ → Type 0) where
    nothing : {a : ℕ} → LeastModel M cycle a → ⊥
    unfolding first turn
    nothing (derive {h = h} r m t g b) = go (λ c i. nothing (b c i)) (in-cycle m)
      where
        gives_none : r ≡ first → ⊥
        gives_none p = elim (subst (λ (s : Rule). pos h ∈ s.heads) p g.0) [ ]

        asks : (i : ℕ) → r ≡ turn i → pos (before i) ∈ r.body
        asks i p = subst (λ (s : Rule). pos (before i) ∈ s.body) (sym p) (Memᴰ.head refl)

        go : ((c : ℕ) → pos c ∈ r.body → ⊥) → (r ≡ first) ⊎ ((i : ℕ) × (1 ≤ i) × (i ≤ n) × (r ≡ turn i)) → ⊥
        go below (inl p) = gives_none p
        go below (inr q) = below (before q.0) (asks q.0 q.3)

    no_answer : AnswerSet M cycle → ⊥
    unfolding first
    no_answer S = S.kept first first-in (refl, refl) (λ a i. none a i, λ k i u. nothing ((S.least (suc k)).0 u))
      where
        none : (a : ℕ) → pos a ∈ first.body → M a
        none a i = absurd (let s : T (same (pos a) (negsuc 0)) = (same-decides (pos a) (negsuc 0)).from (Memᴰ.eq_of_singleton i) in s)

  -- Its one loop has all atoms

  edge-is : (c : ℤ) (i : ℕ) → T (is_edge cycle c (pos i)) → c ≡ pos (before i)
  unfolding first turn
  edge-is c i t = go ((any-decides (λ r. and-decides (has-decides c r.body) (has-decides (pos i) r.heads)) cycle).to t)
    where
      go : (r : Rule) × (r ∈ cycle) × ((c ∈ r.body) × (pos i ∈ r.heads)) → c ≡ pos (before i)
      go e = by (in-cycle e.1)
        where
          by : (e.0 ≡ first) ⊎ ((j : ℕ) × (1 ≤ j) × (j ≤ n) × (e.0 ≡ turn j)) → c ≡ pos (before i)
          by (inl p) = elim (subst (λ (s : Rule). pos i ∈ s.heads) p e.2.1) [ ]
          by (inr q) =
              let a : pos i ≡ pos q.0 = Memᴰ.eq_of_singleton (subst (λ (s : Rule). pos i ∈ s.heads) q.3 e.2.1) in
              let b : c ≡ pos (before q.0) = Memᴰ.eq_of_singleton (subst (λ (s : Rule). c ∈ s.body) q.3 e.2.0) in
              b ∙ ap (λ (z : ℤ). pos (before (variable z))) (sym a)

  last-edge : {U : List ℤ} {a b : ℤ} → Reaches cycle U a b → (c : ℤ) × (c ∈ U) × T (is_edge cycle c b)
  last-edge (one {a = a} i j t) = (a, i, t)
  last-edge (more i j t r) = last-edge r

  module _ (U : List ℤ) (loops : Loops.Loop cycle U) where
    step_back : (i : ℕ) → pos i ∈ U → pos (before i) ∈ U
    step_back i m = let e = last-edge (loops (pos i) (pos i) m m) in Memᴰ.cast (sym (edge-is e.0 i e.2)) e.1

    descend : (i : ℕ) → pos (suc i) ∈ U → (j : ℕ) → j ≤ i → pos (suc j) ∈ U
    unfolding before
    descend zero m j h = subst (λ k. pos (suc k) ∈ U) (let e : 0 ≡ j = omega arith in e) m
    descend (suc i) m j h = by (λ k. descend i (step_back (suc (suc i)) m) j k) (answered (leb j i))
      where
        by : (j ≤ i → pos (suc j) ∈ U) → T (leb j i) ⊎ T (not (leb j i)) → pos (suc j) ∈ U
        by f (inl t) = f ((leb-decides j i).to t)
        by f (inr t) = let g : ¬ (j ≤ i) = (not-decides (leb-decides j i)).to t in subst (λ k. pos (suc k) ∈ U) (let e : suc i ≡ j = omega arith in e) m

    all_in : 1 ≤ n → (i : ℕ) → pos (suc i) ∈ U → (j : ℕ) → 1 ≤ j → j ≤ n → pos j ∈ U
    unfolding before
    all_in h i m j a b = at n j (step_back 1 (descend i m 0 (omega arith))) a b
      where
        at : (k j : ℕ) → pos k ∈ U → 1 ≤ j → j ≤ k → pos j ∈ U
        at zero j u a b = absurd (omega arith)
        at (suc k) zero u a b = absurd (omega arith)
        at (suc k) (suc j) u a b = descend k u j (omega arith)

    too_many : 1 ≤ n → (h : ℤ) → h ∈ U → T (is_positive h) → n ≤ length U
    too_many s (pos zero) m t = absurd t
    too_many s (pos (suc i)) m t = many n U (all_in s i m)
    too_many s (negsuc i) m t = absurd t

-- No derivation is accepted

-- all atoms are true
abbrev Always : ℕ → Type 0
Always v = Unit {0}

module _ (n : ℕ) (large : most_numbers < n) where
  abbrev P : List Rule
  P = cycle n

  some-atoms : 1 ≤ n
  some-atoms = omega arith

  fits : plain_atoms P ≤ n
  fits = well-within n P (well n some-atoms)

  module _ (z : State) (k : Kept n Always z) where
    -- an atom is true, and its negation is not
    atom-true : (x : ℤ) → T (is_positive x) → T (is_atom n (variable x)) → True k.W x × (True k.W (complement x) → ⊥)
    atom-true (pos zero) p a = absurd p
    atom-true (pos (suc v)) p a = let w = (k.atoms (suc v) a).1 tt in (λ f. f w, λ f. f w)
    atom-true (negsuc v) p a = absurd p

    number-true : (i : ℕ) → 1 ≤ i → i ≤ n → True k.W (pos i) × (True k.W (complement (pos i)) → ⊥)
    number-true i a b = atom-true (pos i) (pos-positive i a) ((atom-decides n i).from (a, b))

    completion-fails : (m : ℤ) (hs : List ℤ) → T (is_positive m) → (r : Rule) → r ∈ P → r.heads ≡ hs → T (is_name z (variable m) r.body)
        → ¬ All k.W (m ∷ map complement hs)
    unfolding first turn
    completion-fails m hs p r i e t f = by (in-cycle n i)
      where
        by : (r ≡ first n) ⊎ ((i : ℕ) × (1 ≤ i) × (i ≤ n) × (r ≡ turn n i)) → ⊥
        by (inl q) =
            let b : negsuc 0 ∈ r.body = subst (λ (s : Rule). negsuc 0 ∈ s.body) (sym q) (Memᴰ.head refl) in
            (number-true 1 (omega arith) some-atoms).1 ((name-means n Always z k m r.body p t).0.0 (f m (Memᴰ.head refl)) (negsuc 0) b)
        by (inr q) =
            let i = q.0 in
            let h : pos i ∈ hs = subst (λ (l : List ℤ). pos i ∈ l) (ap (λ (s : Rule). s.heads) (sym q.3) ∙ e) (Memᴰ.head refl) in
            (number-true i q.1 q.2).1 (f (complement (pos i)) (Memᴰ.tail (Memᴰ.map complement h)))

    support-fails : (h : ℤ) (ns : List ℤ) → T (is_positive h) → Positives ns → T (is_atom n (variable h))
        → ((r : Rule) → r ∈ P → h ∈ r.heads → (m : ℤ) × (m ∈ ns) × T (is_name z (variable m) r.body))
        → ¬ All k.W (h ∷ map complement ns)
    unfolding turn
    support-fails h ns p q a s f =
        let i = variable h in
        let w = (atom-decides n i).to a in
        let y = s (turn n i) (turn_in n i w.0 w.1) (Memᴰ.head (positive-is h p)) in
        (name-means n Always z k y.0 (pos (before n i) ∷ []) (q y.0 y.1) y.2).0.1
        (f (complement y.0) (Memᴰ.tail (Memᴰ.map complement y.1)))
        (λ x j. subst (True k.W) (sym (Memᴰ.eq_of_singleton j)) (let b = before-in n some-atoms i w.1 in (number-true (before n i) b.0 b.1).0))

  -- the nogoods of `c` and `s` fail, and the loop does not fit a line
  sustained : Sustained n P Always (λ l. length l ≤ most_numbers)
  sustained = record {
    fits = fits;
    completion-fails = λ z k m hs p q r i _ e t. completion-fails z k m hs p r i e t;
    support-fails = support-fails;
    loop-fails = λ z k h hs l q a loops e f. omega (arith, too_many n (h ∷ hs) loops some-atoms h (Memᴰ.head refl) (q h (Memᴰ.head refl)));
  }

  not-accepted : Accepted n P → ⊥
  not-accepted a = never-refuted n P Always sustained a.0 a.1 a.2 a.3

pub incomplete : Incomplete
incomplete n h = (cycle n, well n (omega arith), no_answer n, not-accepted n h)
