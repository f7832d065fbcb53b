-- The new names of the second half's names. Assumes nothing.
use mathlib.Core.Path.{◌≡◌, refl, sym, ap, ◌∙◌, subst}
use mathlib.Core.Logic.{◌⊎◌, inl, inr, ◌≢◌}
use mathlib.Core.Bool.{Bool, true, false, cond}
use mathlib.Core.List.Memᴰ
use mathlib.Core.List.{List, [], ◌∷◌, ◌++◌, map}
use Prim.Native.Nat.{ℕ, zero, suc, ◌+◌, ◌≤◌, ◌<◌}
use native.Mathlib.Omega.{arith}
use lib.Dec.{T, eqb, leb}
use lib.IntN.{ℤ}
use lib.ListN.{length}
use Rattle.words.specs.Lists.{◌∈◌, any, filter}
use Rattle.words.specs.Literals.{same_list, ascending}
use Rattle.words.proofs.Lists.{answered, Decides, passed, failed, reworded, not-decides, any-decides, eqb-decides, leb-decides, keep←, keep-lt, length-keep, none_in}
use Rattle.words.proofs.Literals.{same_list-decides}
use Rattle.text.specs.declared.Letter.TheVariants.{Addition, Body, Completion, Deletion, Extension, Loop, Support}
use Rattle.aspif.specs.Rules.{Rule}
use Rattle.derivation.specs.States.{Named, State}
use Rattle.drupe.specs.Texts.{Step}
use Rattle.derivation.proofs.Questions.{known-decides}
use Rattle.merging.specs.Merge.{lowest, Renamed, new_name, free, other_name, body_name, renamed_by, renaming, introduced_by, named_by}
use Rattle.merging.proofs.Lines.{cond_cases}
use Rattle.merging.proofs.Runs.{Named-well, Names, none, extends, names-body, along_all}

-- Numbers

pub number-decides : (n : ℕ) (l : List ℕ) → Decides (any (eqb n) l) (n ∈ l)
number-decides n l = reworded (λ r. Memᴰ.cast r.2 r.1) (λ m. (n, m, refl)) (any-decides (eqb-decides n) l)

-- the lowest free number is free
lowest-free : (turns n : ℕ) (l : List ℕ) → length (filter (leb n) l) ≤ turns → ¬ (lowest turns n l ∈ l)
lowest-free zero n l h = λ m. none_in h (keep← (leb n) m ((leb-decides n n).from (omega arith)))
lowest-free (suc turns) n l h = go (any (eqb n) l) refl (λ k. lowest-free turns (suc n) l k)
  where
    go : (b : Bool) → any (eqb n) l ≡ b → (length (filter (leb (suc n)) l) ≤ turns → ¬ (lowest turns (suc n) l ∈ l)) → ¬ (cond b (lowest turns (suc n) l) n ∈ l)
    go true e below m =
        below (omega (
          arith,
          h,
          keep-lt (leb (suc n)) (leb n) (λ v t. (leb-decides n v).from (omega (arith, (leb-decides (suc n) v).to t)))
              ((number-decides n l).to ((passed (any (eqb n) l)).from e)) ((not-decides (leb-decides (suc n) n)).from (λ k. omega (arith, k))) ((leb-decides n n).from (omega arith)),
        )) m
    go false e below m = subst T e ((number-decides n l).from m)

lowest-above : (turns n : ℕ) (l : List ℕ) → n ≤ lowest turns n l
lowest-above zero n l = omega arith
lowest-above (suc turns) n l = go (any (eqb n) l) (lowest-above turns (suc n) l)
  where
    go : (b : Bool) → suc n ≤ lowest turns (suc n) l → n ≤ cond b (lowest turns (suc n) l) n
    go true h = omega (arith, h)
    go false h = omega arith

-- every number below it, from n on, is taken
lowest-below : (turns n : ℕ) (l : List ℕ) (k : ℕ) → n ≤ k → k < lowest turns n l → k ∈ l
lowest-below zero n l k h i = absurd (omega (arith, h, i))
lowest-below (suc turns) n l k h i = go (any (eqb n) l) refl i (λ g j. lowest-below turns (suc n) l k g j)
  where
    go : (b : Bool) → any (eqb n) l ≡ b → k < cond b (lowest turns (suc n) l) n → (suc n ≤ k → k < lowest turns (suc n) l → k ∈ l) → k ∈ l
    go true e i below = elim (answered (eqb n k)) [
      | inl t ↦ Memᴰ.cast (sym ((eqb-decides n k).to t)) ((number-decides n l).to ((passed _).from e))
      | inr t ↦ below (later ((not-decides (eqb-decides n k)).to t)) i
    ]
      where
        later : n ≢ k → suc n ≤ k
        later d = elim (answered (leb (suc n) k)) [
          | inl t ↦ (leb-decides (suc n) k).to t
          | inr t ↦ absurd (d (let g = (not-decides (leb-decides (suc n) k)).to t in omega (arith, h, g)))
        ]
    go false e i below = absurd (omega (arith, h, i))

-- no other number is free with all before it taken
pub lowest-is : (n : ℕ) (l : List ℕ) (r : ℕ) → n ≤ r → ¬ (r ∈ l) → ((k : ℕ) → n ≤ k → k < r → k ∈ l) → lowest (length l) n l ≡ r
lowest-is n l r h free taken = elim (answered (leb (lowest (length l) n l) r)) [
  | inl t ↦ elim (answered (leb r (lowest (length l) n l))) [
    | inl u ↦ let a = (leb-decides (lowest (length l) n l) r).to t in let b = (leb-decides r (lowest (length l) n l)).to u in omega (arith, a, b)
    | inr u ↦ absurd (lowest-free (length l) n l (length-keep (leb n) l) (taken (lowest (length l) n l) (lowest-above (length l) n l)
        (let b = (not-decides (leb-decides r (lowest (length l) n l))).to u in omega (arith, b))))
  ]
  | inr t ↦ absurd (free (lowest-below (length l) n l r h (let a = (not-decides (leb-decides (lowest (length l) n l) r)).to t in omega (arith, a))))
]

-- Pairs of names

abbrev pub pair : ℕ → ℕ → Renamed
pair n c = record { old = n; new = c }

pub name-here : (n c : ℕ) (D : List Renamed) → new_name (pair n c ∷ D) n ≡ c
name-here n c D = rw ((passed (eqb n n)).to ((eqb-decides n n).from refl))

pub name-other : (n c : ℕ) (D : List Renamed) (v : ℕ) → v ≢ n → new_name (pair n c ∷ D) v ≡ new_name D v
name-other n c D v d = rw (failed (eqb v n) ((not-decides (eqb-decides v n)).from d))

pub name-cases : (D : List Renamed) (v : ℕ) → (new_name D v ≡ v) ⊎ ((p : Renamed) × (p ∈ D) × ((p.old ≡ v) × (new_name D v ≡ p.new)))
name-cases [] v = inl refl
name-cases (p ∷ D) v = go (eqb v p.old) refl (name-cases D v)
  where
    go : (b : Bool) → eqb v p.old ≡ b → (new_name D v ≡ v) ⊎ ((p : Renamed) × (p ∈ D) × ((p.old ≡ v) × (new_name D v ≡ p.new)))
        → (cond b p.new (new_name D v) ≡ v) ⊎ ((q : Renamed) × (q ∈ p ∷ D) × ((q.old ≡ v) × (cond b p.new (new_name D v) ≡ q.new)))
    go true e r = inr (p, Memᴰ.head refl, (sym ((eqb-decides v p.old).to ((passed _).from e)), refl))
    go false e (inl q) = inl q
    go false e (inr (q, m, s)) = inr (q, Memᴰ.tail m, s)

pub name-stays : (D : List Renamed) (v : ℕ) → ((p : Renamed) → p ∈ D → p.old ≢ v) → new_name D v ≡ v
name-stays D v d = elim (name-cases D v) [ inl e ↦ e | inr r ↦ absurd (d r.0 r.1 r.2.0) ]

module _ (N : ℕ) (named₁ : List Named) (introduced₁ used : List ℕ) (in-used : (v : ℕ) → v ∈ introduced₁ → v ∈ used) (low₁ : (v : ℕ) → v ∈ introduced₁ → 1 ≤ v)
    (names₁ : (y : Named) → y ∈ named₁ → y.name ∈ introduced₁) where
  abbrev news : List Renamed → List ℕ
  news D = map (λ (p : Renamed). p.new) D

  free_new : (D : List Renamed) → (¬ (free N named₁ introduced₁ used D ∈ used)) × ((p : Renamed) → p ∈ D → p.new ≢ free N named₁ introduced₁ used D) × (N < free N named₁ introduced₁ used D)
  free_new D = (λ m. not_in (Memᴰ.append_left (news D) m), λ p m e. not_in (Memᴰ.append_right used (Memᴰ.cast (sym e) (Memᴰ.map (λ (p : Renamed). p.new) m))), above)
    where
      not_in : ¬ (free N named₁ introduced₁ used D ∈ used ++ news D)
      not_in = lowest-free _ (N + 1) (used ++ news D) (length-keep (leb (N + 1)) (used ++ news D))

      above : N < free N named₁ introduced₁ used D
      above = let h : N + 1 ≤ free N named₁ introduced₁ used D = lowest-above (length (used ++ news D)) (N + 1) (used ++ news D) in omega (arith, h)

  -- no body that the name names is one of the first half's
  abbrev pub Unshared : ℕ → List Named → Type 0
  Unshared v named = (y : Named) → y ∈ named → y.name ≡ v → (u : Named) → u ∈ named₁ → u.body ≢ y.body

  pub data Kind (v : ℕ) (named : List Named) (D : List Renamed) : Type 0 where
    shared : (y u : Named) → y ∈ named → y.name ≡ v → u ∈ named₁ → u.body ≡ y.body → new_name D v ≡ u.name → Kind v named D
    stays : Unshared v named → ¬ (v ∈ introduced₁) → new_name D v ≡ v → Kind v named D
    given : Unshared v named → (p : Renamed) → p ∈ D → p.old ≡ v → new_name D v ≡ p.new → ¬ (p.new ∈ used) → N < p.new → Kind v named D

  pub record Kinds (introduced : List ℕ) (named : List Named) (D : List Renamed) : Type 0 where
    pub olds : (p : Renamed) → p ∈ D → p.old ∈ introduced
    pub positive : (p : Renamed) → p ∈ D → 1 ≤ p.new
    pub apart : (p q : Renamed) → p ∈ D → q ∈ D → ¬ (p.new ∈ used) → ¬ (q.new ∈ used) → p.new ≡ q.new → p.old ≡ q.old
    pub kinds : (v : ℕ) → v ∈ introduced → Kind v named D

  pub kinds-start : Kinds [] [] []
  kinds-start = record { olds = λ p m. elim m [ ]; positive = λ p m. elim m [ ]; apart = λ p q m n. elim m [ ]; kinds = λ v m. elim m [ ] }

  module _ (introduced : List ℕ) (named : List Named) (D : List Renamed) (K : Kinds introduced named D) (n : ℕ) (fresh : ¬ (n ∈ introduced)) where
    -- what the new name's line adds to the names of bodies
    abbrev Adds : List Named → Type 0
    Adds named' = ((y : Named) → y ∈ named → y ∈ named') × ((y : Named) → y ∈ named' → (y ∈ named) ⊎ (y.name ≡ n))

    unshared-more : {named' : List Named} → Adds named' → (v : ℕ) → v ≢ n → Unshared v named → Unshared v named'
    unshared-more a v d u y m e = elim (a.1 y m) [ inl i ↦ u y i e | inr p ↦ absurd (d (sym e ∙ p)) ]

    with_pair : (c : ℕ) (named' : List Named) → Adds named' → 1 ≤ c → ((p : Renamed) → p ∈ D → p.new ≡ c → c ∈ used) → Kind n named' (pair n c ∷ D) → Kinds (n ∷ introduced) named' (pair n c ∷ D)
    with_pair c named' a l s k = record {
      olds = λ p m. olds p (Memᴰ.cases_cons m);
      positive = λ p m. positive p (Memᴰ.cases_cons m);
      apart = λ p q i j. apart p q (Memᴰ.cases_cons i) (Memᴰ.cases_cons j);
      kinds = λ v m. kinds v (Memᴰ.cases_cons m);
    }
      where
        olds : (p : Renamed) → (p ≡ pair n c) ⊎ (p ∈ D) → p.old ∈ n ∷ introduced
        olds p (inl e) = rw e (Memᴰ.head refl)
        olds p (inr m) = Memᴰ.tail (K.olds p m)

        positive : (p : Renamed) → (p ≡ pair n c) ⊎ (p ∈ D) → 1 ≤ p.new
        positive p (inl e) = rw e l
        positive p (inr m) = K.positive p m

        apart : (p q : Renamed) → (p ≡ pair n c) ⊎ (p ∈ D) → (q ≡ pair n c) ⊎ (q ∈ D) → ¬ (p.new ∈ used) → ¬ (q.new ∈ used) → p.new ≡ q.new → p.old ≡ q.old
        apart p q (inl e) (inl g) x y h = rw (e, g) refl
        apart p q (inl e) (inr j) x y h = let o : p.new ≡ c = ap (λ (k : Renamed). k.new) e in absurd (x (Memᴰ.cast o (s q j (sym h ∙ o))))
        apart p q (inr i) (inl g) x y h = let o : q.new ≡ c = ap (λ (k : Renamed). k.new) g in absurd (y (Memᴰ.cast o (s p i (h ∙ o))))
        apart p q (inr i) (inr j) x y h = K.apart p q i j x y h

        kinds : (v : ℕ) → (v ≡ n) ⊎ (v ∈ introduced) → Kind v named' (pair n c ∷ D)
        kinds v (inl e) = subst (λ w. Kind w named' (pair n c ∷ D)) (sym e) k
        kinds v (inr m) = old (K.kinds v m)
          where
            d : v ≢ n
            d e = fresh (Memᴰ.cast (sym e) m)

            same : new_name (pair n c ∷ D) v ≡ new_name D v
            same = name-other n c D v d

            old : Kind v named D → Kind v named' (pair n c ∷ D)
            old (shared y u iy e iu b q) = shared y u (a.0 y iy) e iu b (same ∙ q)
            old (stays u b q) = stays (unshared-more a v d u) b (same ∙ q)
            old (given u p i o q b h) = given (unshared-more a v d u) p (Memᴰ.tail i) o (same ∙ q) b h

    without-pair : (named' : List Named) → Adds named' → Kind n named' D → Kinds (n ∷ introduced) named' D
    without-pair named' a k = record { olds = λ p m. Memᴰ.tail (K.olds p m); positive = K.positive; apart = K.apart; kinds = λ v m. kinds v (Memᴰ.cases_cons m) }
      where
        kinds : (v : ℕ) → (v ≡ n) ⊎ (v ∈ introduced) → Kind v named' D
        kinds v (inl e) = subst (λ w. Kind w named' D) (sym e) k
        kinds v (inr m) = old (K.kinds v m)
          where
            d : v ≢ n
            d e = fresh (Memᴰ.cast (sym e) m)

            old : Kind v named D → Kind v named' D
            old (shared y u iy e iu b q) = shared y u (a.0 y iy) e iu b q
            old (stays u b q) = stays (unshared-more a v d u) b q
            old (given u p i o q b h) = given (unshared-more a v d u) p i o q b h

    other-kinds : (named' : List Named) → Adds named' → Unshared n named' → Kinds (n ∷ introduced) named' (other_name N named₁ introduced₁ used n D)
    other-kinds named' a u =
        let f = free_new D in
        cond_cases (Kinds (n ∷ introduced) named') (any (eqb n) introduced₁)
        (λ t. with_pair _ named' a (omega (arith, f.2)) (λ p m q. absurd (f.1 p m q)) (given u _ (Memᴰ.head refl) refl (name-here n _ D) f.0 f.2))
        (λ t. without-pair named' a (stays u ((not-decides (number-decides n introduced₁)).to t) (name-stays D n (λ p m q. fresh (Memᴰ.cast (sym q) (K.olds p m))))))

    -- a name of the rule body L
    body-kinds : (L : List ℤ) (ys : List Named) → ((y : Named) → y ∈ ys → y ∈ named₁) → ((y : Named) → y ∈ named₁ → y.body ≡ L → y ∈ ys)
        → ((y : Named) → y ∈ named → y.name ≢ n) → Kinds (n ∷ introduced) (record { name = n; body = L } ∷ named) (body_name N named₁ introduced₁ used ys n L D)
    body-kinds L [] from to d = other-kinds (record { name = n; body = L } ∷ named) adds (λ y m e u i b. unshared y (Memᴰ.cases_cons m) e u i b)
      where
        adds : Adds (record { name = n; body = L } ∷ named)
        adds = (λ y m. Memᴰ.tail m, λ y m. elim (Memᴰ.cases_cons m) [ inl e ↦ inr (ap (λ (k : Named). k.name) e) | inr i ↦ inl i ])

        unshared : (y : Named) → (y ≡ record { name = n; body = L }) ⊎ (y ∈ named) → y.name ≡ n → (u : Named) → u ∈ named₁ → u.body ≢ y.body
        unshared y (inl e) p u i b = elim (to u i (b ∙ ap (λ (k : Named). k.body) e)) [ ]
        unshared y (inr m) p u i b = d y m p
    body-kinds L (y ∷ ys) from to d = go (same_list y.body L) refl (λ t. body-kinds L ys (λ u m. from u (Memᴰ.tail m)) t d)
      where
        adds : Adds (record { name = n; body = L } ∷ named)
        adds = (λ y m. Memᴰ.tail m, λ y m. elim (Memᴰ.cases_cons m) [ inl e ↦ inr (ap (λ (k : Named). k.name) e) | inr i ↦ inl i ])

        go : (b : Bool) → same_list y.body L ≡ b
            → (((u : Named) → u ∈ named₁ → u.body ≡ L → u ∈ ys) → Kinds (n ∷ introduced) (record { name = n; body = L } ∷ named) (body_name N named₁ introduced₁ used ys n L D))
            → Kinds (n ∷ introduced) (record { name = n; body = L } ∷ named) (cond b (pair n y.name ∷ D) (body_name N named₁ introduced₁ used ys n L D))
        go true e below =
            let i = from y (Memᴰ.head refl) in
            with_pair y.name (record { name = n; body = L } ∷ named) adds (low₁ y.name (names₁ y i)) (λ p m q. in-used y.name (names₁ y i))
            (shared (record { name = n; body = L }) y (Memᴰ.head refl) refl i ((same_list-decides y.body L).to ((passed _).from e)) (name-here n y.name D))
        go false e below = below (λ u i b. later u b (Memᴰ.cases_cons (to u i b)))
          where
            later : (u : Named) → u.body ≡ L → (u ≡ y) ⊎ (u ∈ ys) → u ∈ ys
            later u b (inl q) = absurd (subst T e ((same_list-decides y.body L).from (sym (ap (λ (k : Named). k.body) q) ∙ b)))
            later u b (inr m) = m

  -- one step
  pub kinds-step : (P : List Rule) (z : State) (t : Step) (D : List Renamed) → Named-well N P z.introduced z.named → Names N P z t → Kinds z.introduced z.named D
      → Kinds (introduced_by t z.introduced) (named_by t z.named) (renamed_by N named₁ introduced₁ used t D)
  kinds-step P z _ D W (none Addition zs q) K = K
  kinds-step P z _ D W (none Body zs q) K = absurd q
  kinds-step P z _ D W (none Completion zs q) K = K
  kinds-step P z _ D W (none Deletion zs q) K = K
  kinds-step P z _ D W (none Extension zs q) K = absurd q
  kinds-step P z _ D W (none Loop zs q) K = K
  kinds-step P z _ D W (none Support zs q) K = K
  kinds-step P z _ D W (extends m L l u) K =
      other-kinds z.introduced z.named D K m (λ i. u ((known-decides N z m).from (inr i))) z.named (λ y i. i, λ y i. inl i)
      (λ y i e. absurd (u ((known-decides N z m).from (inr (Memᴰ.cast (sym e) (W.names y i))))))
  kinds-step P z _ D W (names-body m L l u b v) K =
      body-kinds z.introduced z.named D K m (λ i. u ((known-decides N z m).from (inr i))) (ascending L) named₁ (λ y i. i) (λ y i e. i)
      (λ y i e. u ((known-decides N z m).from (inr (Memᴰ.cast (sym e) (W.names y i)))))

-- all steps
pub renaming-same : (N : ℕ) (named₁ : List Named) (introduced₁ used : List ℕ) (ts : List Step) (D : List Renamed)
    → along_all (λ D t. renamed_by N named₁ introduced₁ used t D) D ts ≡ renaming N named₁ introduced₁ used D ts
renaming-same N named₁ introduced₁ used [] D = refl
renaming-same N named₁ introduced₁ used (t ∷ ts) D = renaming-same N named₁ introduced₁ used ts (renamed_by N named₁ introduced₁ used t D)
