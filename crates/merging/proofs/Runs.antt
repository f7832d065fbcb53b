-- What holds of the names after any list of accepted steps. Assumes nothing.
use mathlib.Core.Path.{◌≡◌, refl, sym, ap, ◌∙◌, subst}
use mathlib.Core.Logic.{◌⊎◌, inl, inr, ◌≢◌}
use mathlib.Core.List.Memᴰ
use mathlib.Core.List.{List, [], ◌∷◌}
use Prim.Native.Nat.{ℕ, ◌≤◌}
use lib.Dec.{T}
use lib.IntN.{ℤ, pos, negsuc}
use Rattle.words.specs.Lists.{◌∈◌}
use Rattle.words.specs.Literals.{ascending}
use Rattle.words.proofs.Lists.{zero_one, itself, and-decides, not-decides}
use Rattle.words.proofs.Literals.{has-decides, variable-positive}
use Rattle.text.specs.declared.Letter.{Letter}
use Rattle.text.specs.declared.Letter.TheVariants.{Addition, Body, Completion, Deletion, Extension, Loop, Support}
use Rattle.aspif.specs.Rules.{Rule}
use Rattle.drupe.specs.Lines.{signs_of, signed}
use Rattle.derivation.specs.Propagation.{refuted}
use Rattle.derivation.specs.Loops.{is_loop}
use Rattle.derivation.specs.States.{Named, State, is_atom, is_known, has_name}
use Rattle.drupe.specs.Texts.{Step}
use Rattle.derivation.specs.Steps.{Outcome, refused, next, is_completion, is_support, all_atoms, all_named, by_letter, step, steps}
use Rattle.derivation.proofs.Questions.{known-decides, has_name-decides}
use Rattle.merging.specs.Merge.{is_body, named_by, named_in, introduced_by, introduced_in}
use Rattle.derivation.proofs.Outcomes.{Then, if_yes, if_no, if-line, if-citing, if-naming}
use Rattle.drupe.specs.declared.ProofFault.TheVariants.{Malformed, NoCompletion, NoSupport, NoAtoms, UnnamedBody, NoConflict, NoLoop, NoUnnamedBody}

-- what goes along with the steps, one after another
abbrev pub along_all : {A : Type 0} → (A → Step → A) → A → List Step → A
along_all along a [] = a
along_all along a (t ∷ ts) = along_all along (along a t) ts

module _ (N : ℕ) (P : List Rule) where
  pub record Named-well (introduced : List ℕ) (named : List Named) : Type 0 where
    pub positive : (v : ℕ) → v ∈ introduced → 1 ≤ v
    pub above : (v : ℕ) → v ∈ introduced → ¬ T (is_atom N v)
    pub names : (y : Named) → y ∈ named → y.name ∈ introduced
    pub bodies : (y : Named) → y ∈ named → T (is_body P y.body)
    pub once : (y u : Named) → y ∈ named → u ∈ named → y.body ≡ u.body → y.name ≡ u.name
    pub distinct : (y u : Named) → y ∈ named → u ∈ named → y.name ≡ u.name → y.body ≡ u.body

  pub start-well : Named-well [] []
  start-well = record { positive = λ v m. elim m [ ]; above = λ v m. elim m [ ]; names = λ y m. elim m [ ]; bodies = λ y m. elim m [ ]; once = λ y u m n. elim m [ ]; distinct = λ y u m n. elim m [ ] }

  module _ (z : State) (W : Named-well z.introduced z.named) (n : ℕ) (low : 1 ≤ n) (fresh : ¬ T (is_known N z n)) where
    not-introduced : ¬ (n ∈ z.introduced)
    not-introduced m = fresh ((known-decides N z n).from (inr m))

    pub name-more : Named-well (n ∷ z.introduced) z.named
    name-more = record {
      positive = λ v m. positive v (Memᴰ.cases_cons m);
      above = λ v m. above v (Memᴰ.cases_cons m);
      names = λ y m. Memᴰ.tail (W.names y m);
      bodies = W.bodies;
      once = W.once;
      distinct = W.distinct;
    }
      where
        positive : (v : ℕ) → (v ≡ n) ⊎ (v ∈ z.introduced) → 1 ≤ v
        positive v (inl e) = rw e low
        positive v (inr m) = W.positive v m

        above : (v : ℕ) → (v ≡ n) ⊎ (v ∈ z.introduced) → ¬ T (is_atom N v)
        above v (inl e) t = fresh ((known-decides N z n).from (inl (subst (λ k. T (is_atom N k)) e t)))
        above v (inr m) t = W.above v m t

    pub body_more : (L : List ℤ) → T (is_body P L) → ¬ T (has_name z L) → Named-well (n ∷ z.introduced) (record { name = n; body = L } ∷ z.named)
    body_more L b u = record {
      positive = name-more.positive;
      above = name-more.above;
      names = λ y m. names y (Memᴰ.cases_cons m);
      bodies = λ y m. bodies y (Memᴰ.cases_cons m);
      once = λ y v i j. once y v (Memᴰ.cases_cons i) (Memᴰ.cases_cons j);
      distinct = λ y v i j. distinct y v (Memᴰ.cases_cons i) (Memᴰ.cases_cons j);
    }
      where
        new : Named
        new = record { name = n; body = L }

        names : (y : Named) → (y ≡ record { name = n; body = L }) ⊎ (y ∈ z.named) → y.name ∈ n ∷ z.introduced
        names y (inl e) = rw e (Memᴰ.head refl)
        names y (inr m) = Memᴰ.tail (W.names y m)

        bodies : (y : Named) → (y ≡ record { name = n; body = L }) ⊎ (y ∈ z.named) → T (is_body P y.body)
        bodies y (inl e) = rw e b
        bodies y (inr m) = W.bodies y m

        unnamed : (y : Named) → y ∈ z.named → y.body ≢ L
        unnamed y m e = u ((has_name-decides z L).from (y, m, e))

        new-name : (y : Named) → y ∈ z.named → y.name ≢ n
        new-name y m e = not-introduced (Memᴰ.cast (sym e) (W.names y m))

        once : (y v : Named) → (y ≡ record { name = n; body = L }) ⊎ (y ∈ z.named) → (v ≡ record { name = n; body = L }) ⊎ (v ∈ z.named) → y.body ≡ v.body → y.name ≡ v.name
        once y v (inl p) (inl q) h = rw (p, q) refl
        once y v (inl p) (inr j) h = absurd (unnamed v j (sym h ∙ ap (λ (k : Named). k.body) p))
        once y v (inr i) (inl q) h = absurd (unnamed y i (h ∙ ap (λ (k : Named). k.body) q))
        once y v (inr i) (inr j) h = W.once y v i j h

        distinct : (y v : Named) → (y ≡ record { name = n; body = L }) ⊎ (y ∈ z.named) → (v ≡ record { name = n; body = L }) ⊎ (v ∈ z.named) → y.name ≡ v.name → y.body ≡ v.body
        distinct y v (inl p) (inl q) h = rw (p, q) refl
        distinct y v (inl p) (inr j) h = absurd (new-name v j (sym h ∙ ap (λ (k : Named). k.name) p))
        distinct y v (inr i) (inl q) h = absurd (new-name y i (h ∙ ap (λ (k : Named). k.name) q))
        distinct y v (inr i) (inr j) h = W.distinct y v i j h

  -- A step: the names afterwards are those of the line, and any property that each kind of naming keeps

  -- a letter that introduces no name
  abbrev pub Quiet : Letter → Type 0
  Quiet Addition = Unit {0}
  Quiet Body = ⊥
  Quiet Completion = Unit {0}
  Quiet Deletion = Unit {0}
  Quiet Extension = ⊥
  Quiet Loop = Unit {0}
  Quiet Support = Unit {0}

  -- what a step that passes does to the names: nothing; or a name that was not known and is no atom; or a rule body as well
  pub data Names (z : State) : Step → Type 0 where
    none : (c : Letter) (zs : List ℤ) → Quiet c → Names z (record { letter = c; numbers = zs })
    extends : (m : ℕ) (L : List ℤ) → 1 ≤ m → ¬ T (is_known N z m) → Names z (record { letter = Extension; numbers = pos m ∷ L })
    names-body : (m : ℕ) (L : List ℤ) → 1 ≤ m → ¬ T (is_known N z m) → T (is_body P (ascending L)) → ¬ T (has_name z (ascending L)) → Names z (record { letter = Body; numbers = pos m ∷ L })

  abbrev pub Does : State → Step → State → Type 0
  Does z t z' = (z'.introduced ≡ introduced_by t z.introduced) × (z'.named ≡ named_by t z.named) × Names z t

  module _ (z : State) where
    low : (m : ℕ) (L : List ℤ) → ¬ (pos 0 ∈ pos m ∷ L) → 1 ≤ m
    low m L nz = variable-positive (pos m) (λ e. nz (Memᴰ.head (sym e)))

    letter-does : (c : Letter) (zs : List ℤ) → ¬ (pos 0 ∈ zs) → T (signed (signs_of c) zs) → Then (Does z (record { letter = c; numbers = zs })) (by_letter N P z c zs)
    letter-does Addition L nz s =
        if-citing (Does z (record { letter = Addition; numbers = L })) N z L _ (λ _. if_yes (Does z (record { letter = Addition; numbers = L })) (itself (refuted z.live L)) _ NoConflict (λ c. (refl, refl, none Addition L tt)))
    letter-does Body [] nz s = tt
    letter-does Body (pos m ∷ L) nz s =
        if-naming (Does z (record { letter = Body; numbers = pos m ∷ L })) N z (pos m) L _ (λ _ u. if_yes (Does z (record { letter = Body; numbers = pos m ∷ L }))
        (and-decides (itself (is_body P (ascending L))) (not-decides (itself (has_name z (ascending L))))) _ NoUnnamedBody (λ q. (refl, refl, names-body m L (low m L nz) u q.0 q.1)))
    letter-does Body (negsuc m ∷ L) nz s = absurd s
    letter-does Completion [] nz s = tt
    letter-does Completion (n ∷ hs) nz s =
        if-citing (Does z (record { letter = Completion; numbers = n ∷ hs })) N z (n ∷ hs) _ (λ _. if_yes (Does z (record { letter = Completion; numbers = n ∷ hs })) (itself (is_completion P z n hs)) _ NoCompletion (λ c. (refl, refl, none Completion (n ∷ hs) tt)))
    letter-does Deletion L nz s = if-citing (Does z (record { letter = Deletion; numbers = L })) N z L _ (λ _. (refl, refl, none Deletion L tt))
    letter-does Extension [] nz s = tt
    letter-does Extension (pos m ∷ L) nz s =
        if-naming (Does z (record { letter = Extension; numbers = pos m ∷ L })) N z (pos m) L _ (λ _ u. (refl, refl, extends m L (low m L nz) u))
    letter-does Extension (negsuc m ∷ L) nz s = absurd s
    letter-does Loop [] nz s = tt
    letter-does Loop (h ∷ hs) nz s =
        if-citing (Does z (record { letter = Loop; numbers = h ∷ hs })) N z (h ∷ hs) _ (λ _. if_yes (Does z (record { letter = Loop; numbers = h ∷ hs })) (itself (all_atoms N z (h ∷ hs))) _ NoAtoms
        (λ a. if_yes (Does z (record { letter = Loop; numbers = h ∷ hs })) (itself (is_loop P (h ∷ hs))) _ NoLoop
        (λ l. if_yes (Does z (record { letter = Loop; numbers = h ∷ hs })) (itself (all_named P z (h ∷ hs))) _ UnnamedBody (λ e. (refl, refl, none Loop (h ∷ hs) tt)))))
    letter-does Support [] nz s = tt
    letter-does Support (h ∷ ns) nz s =
        if-citing (Does z (record { letter = Support; numbers = h ∷ ns })) N z (h ∷ ns) _ (λ _. if_yes (Does z (record { letter = Support; numbers = h ∷ ns })) (itself (is_support N P z h ns)) _ NoSupport (λ c. (refl, refl, none Support (h ∷ ns) tt)))

    pub step-does : (t : Step) → Then (Does z t) (step N P z t)
    step-does t = if_no (Does z t) (has-decides (pos 0) t.numbers) _ Malformed (λ nz. if-line (Does z t) t.letter t.numbers _ (λ _ s u. letter-does t.letter t.numbers nz s))

  -- All steps, for a property of the two lists of names and of whatever else goes along with the steps
  module _ {A : Type 0} (along : A → Step → A) (Keeps : List ℕ → List Named → A → Type 0)
      (each : (z : State) (t : Step) (a : A) → Named-well z.introduced z.named → Names z t → Keeps z.introduced z.named a
      → Keeps (introduced_by t z.introduced) (named_by t z.named) (along a t)) where
    pub names-well : (z : State) (t : Step) → Named-well z.introduced z.named → Names z t → Named-well (introduced_by t z.introduced) (named_by t z.named)
    names-well z _ W (none Addition zs q) = W
    names-well z _ W (none Body zs q) = absurd q
    names-well z _ W (none Completion zs q) = W
    names-well z _ W (none Deletion zs q) = W
    names-well z _ W (none Extension zs q) = absurd q
    names-well z _ W (none Loop zs q) = W
    names-well z _ W (none Support zs q) = W
    names-well z _ W (extends m L l u) = name-more z W m l u
    names-well z _ W (names-body m L l u b v) = body_more z W m l u (ascending L) b v

    pub record Ended (z' : State) (introduced : List ℕ) (named : List Named) (a : A) : Type 0 where
      pub introduced-is : z'.introduced ≡ introduced
      pub named-is : z'.named ≡ named
      pub well : Named-well introduced named
      pub keeps : Keeps introduced named a

    pub steps-keep : (ts : List Step) (z z' : State) (a : A) → Named-well z.introduced z.named → Keeps z.introduced z.named a → steps N P z ts ≡ next z'
        → Ended z' (introduced_in z.introduced ts) (named_in z.named ts) (along_all along a ts)
    steps-keep [] z z' a W K e = let p : z ≡ z' = cc in record { introduced-is = rw p refl; named-is = rw p refl; well = W; keeps = K }
    steps-keep (t ∷ ts) z z' a W K e = go (λ v W' K' d. steps-keep ts v z' (along a t) W' K' d) (step N P z t) (step-does z t) e
      where
        go : ((v : State) → Named-well v.introduced v.named → Keeps v.introduced v.named (along a t) → steps N P v ts ≡ next z'
            → Ended z' (introduced_in v.introduced ts) (named_in v.named ts) (along_all along (along a t) ts))
            → (o : Outcome) → Then (Does z t) o → elim o [ refused k ↦ refused k | next v ↦ steps N P v ts ] ≡ next z'
            → Ended z' (introduced_in (introduced_by t z.introduced) ts) (named_in (named_by t z.named) ts) (along_all along (along a t) ts)
        go below (refused k) r d = absurd (zero_one (cc))
        go below (next v) (p, q, n) d = rw (← p, ← q) (below v (rw (p, q) (names-well z t W n)) (rw (p, q) (each z t a W n K)) d)
