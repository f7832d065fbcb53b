-- The merged proof is accepted whenever it fits. Assumes nothing.
use mathlib.Core.Path.{◌≡◌, refl, sym, ap, ◌∙◌, subst}
use mathlib.Core.Logic.{◌⊎◌, inl, inr, ◌≢◌}
use mathlib.Core.Bool.{Bool, true, false, cond, not, true≢false}
use mathlib.Core.List.Memᴰ
use mathlib.Core.List.{List, [], ◌∷◌, ◌++◌, map, head-eq_of_cons-eq}
use Prim.Native.Nat.{ℕ, zero, suc, ◌≤◌}
use native.Mathlib.Omega.{arith}
use lib.Dec.{T}
use lib.IntN.{ℤ, pos, neg_ℤ}
use Rattle.words.specs.Lists.{◌∈◌}
use Rattle.words.specs.Literals.{variable, complement, ascending, insert_all}
use Rattle.words.proofs.Lists.{zero_one, Decides, passed, is_true, and-decides, not-decides, any-decides, leb-decides}
use Rattle.words.proofs.Literals.{same_list-decides, complement-twice, variable-complement}
use Rattle.text.specs.declared.Letter.{Letter}
use Rattle.text.specs.declared.Letter.TheVariants.{Addition, Body, Completion, Deletion, Extension, Loop, Support}
use Rattle.aspif.specs.Rules.{Rule, plain_atoms}
use Rattle.derivation.specs.Propagation.{Conflict, refuted}
use Rattle.derivation.specs.States.{Named, State, start, is_atom}
use Rattle.drupe.specs.Texts.{Step}
use Rattle.derivation.specs.Steps.{Outcome, refused, next, add, steps, empty_live}
use Rattle.derivation.proofs.Closure.{empty-decides, refuted-decides}
use Rattle.derivation.proofs.Sound.{soundness}
use Rattle.derivation.proofs.Questions.{known-decides}
use Rattle.merging.specs.Merge.{demanding, is_body, is_among, named_by, named_in, introduced_by, introduced_in, Renamed, renamed_by, renaming, half, all_fit, second_names, merged}
use Rattle.merging.specs.Claims.{Accepted, MergedAccepted}
use Rattle.merging.proofs.Propagates.{only_of, closing}
use Rattle.merging.proofs.Lines.{steps-append, fit_append}
use Rattle.merging.proofs.Relation.{Setting, Follows}
use Rattle.merging.proofs.Simulation.{Introduces, steps-go}
use Rattle.merging.proofs.Runs.{Named-well, start-well, Names, none, extends, names-body, along_all, steps-keep}
use Rattle.merging.proofs.Renaming.{name-cases, name-stays, Kind, shared, stays, given, Kinds, kinds-start, kinds-step, renaming-same}
use Rattle.drupe.specs.declared.ProofFault.TheVariants.{NoConflict}

-- What the lines of a list introduce

pub introduced-more : (t : Step) (names : List ℕ) (v : ℕ) → v ∈ names → v ∈ introduced_by t names
introduced-more t names v m = go t.letter t.numbers
  where
    go : (c : Letter) (zs : List ℤ) → v ∈ introduced_by (record { letter = c; numbers = zs }) names
    go Addition zs = m
    go Body [] = m
    go Body (n ∷ L) = Memᴰ.tail m
    go Completion zs = m
    go Deletion zs = m
    go Extension [] = m
    go Extension (n ∷ L) = Memᴰ.tail m
    go Loop zs = m
    go Support zs = m

introduced-all : (ts : List Step) (names : List ℕ) (v : ℕ) → v ∈ names → v ∈ introduced_in names ts
introduced-all [] names v m = m
introduced-all (t ∷ ts) names v m = introduced-all ts (introduced_by t names) v (introduced-more t names v m)

named_more : (t : Step) (named : List Named) (y : Named) → y ∈ named → y ∈ named_by t named
named_more t named y m = go t.letter t.numbers
  where
    go : (c : Letter) (zs : List ℤ) → y ∈ named_by (record { letter = c; numbers = zs }) named
    go Addition zs = m
    go Body [] = m
    go Body (n ∷ L) = Memᴰ.tail m
    go Completion zs = m
    go Deletion zs = m
    go Extension zs = m
    go Loop zs = m
    go Support zs = m

pub named-all : (ts : List Step) (named : List Named) (y : Named) → y ∈ named → y ∈ named_in named ts
named-all [] named y m = m
named-all (t ∷ ts) named y m = named-all ts (named_by t named) y (named_more t named y m)

-- names that `e` lines introduce
abbrev extended_by : List ℕ → Step → List ℕ
extended_by names t = elim t.letter [
  | Extension ↦ elim t.numbers [ [] ↦ names | n ∷ L ↦ variable n ∷ names ]
  | Addition ↦ names
  | Body ↦ names
  | Completion ↦ names
  | Deletion ↦ names
  | Loop ↦ names
  | Support ↦ names
]

abbrev extended_in : List ℕ → List Step → List ℕ
extended_in names ts = along_all extended_by names ts

extended-more : (t : Step) (names : List ℕ) (v : ℕ) → v ∈ names → v ∈ extended_by names t
extended-more t names v m = go t.letter t.numbers
  where
    go : (c : Letter) (zs : List ℤ) → v ∈ extended_by names (record { letter = c; numbers = zs })
    go Addition zs = m
    go Body zs = m
    go Completion zs = m
    go Deletion zs = m
    go Extension [] = m
    go Extension (n ∷ L) = Memᴰ.tail m
    go Loop zs = m
    go Support zs = m

extended-all : (ts : List Step) (names : List ℕ) (v : ℕ) → v ∈ names → v ∈ extended_in names ts
extended-all [] names v m = m
extended-all (t ∷ ts) names v m = extended-all ts (extended_by names t) v (extended-more t names v m)

module _ (n : ℤ) (L : List ℤ) where
  body-there : (ts : List Step) (named : List Named) → record { letter = Body; numbers = n ∷ L } ∈ ts → record { name = variable n; body = ascending L } ∈ named_in named ts
  body-there [] named x' = elim x' [ ]
  body-there (t ∷ ts) named (Memᴰ.head p) = subst (λ (s : Step). record { name = variable n; body = ascending L } ∈ named_in (named_by s named) ts) p (named-all ts _ _ (Memᴰ.head refl))
  body-there (t ∷ ts) named (Memᴰ.tail m) = body-there ts (named_by t named) m

  -- a line of a letter that introduces its first number
  line-introduced : (c : Letter) → ((names : List ℕ) → variable n ∈ introduced_by (record { letter = c; numbers = n ∷ L }) names)
      → (ts : List Step) (names : List ℕ) → record { letter = c; numbers = n ∷ L } ∈ ts → variable n ∈ introduced_in names ts
  line-introduced c here [] names x' = elim x' [ ]
  line-introduced c here (t ∷ ts) names (Memᴰ.head p) = subst (λ (s : Step). variable n ∈ introduced_in (introduced_by s names) ts) p (introduced-all ts _ _ (here names))
  line-introduced c here (t ∷ ts) names (Memᴰ.tail m) = line-introduced c here ts (introduced_by t names) m

  extension-there : (ts : List Step) (names : List ℕ) → record { letter = Extension; numbers = n ∷ L } ∈ ts → variable n ∈ extended_in names ts
  extension-there [] names x' = elim x' [ ]
  extension-there (t ∷ ts) names (Memᴰ.head p) = subst (λ (s : Step). variable n ∈ extended_in (extended_by names s) ts) p (extended-all ts _ _ (Memᴰ.head refl))
  extension-there (t ∷ ts) names (Memᴰ.tail m) = extension-there ts (extended_by names t) m

-- no name of a rule body is one that `e` introduced
abbrev Unmixed : List ℕ → List Named → List ℕ → Type 0
Unmixed introduced named extended = ((v : ℕ) → v ∈ extended → v ∈ introduced) × ((y : Named) → y ∈ named → ¬ (y.name ∈ extended))

unmixed-step : (N : ℕ) (P : List Rule) (z : State) (t : Step) (E : List ℕ) → Named-well N P z.introduced z.named → Names N P z t → Unmixed z.introduced z.named E
    → Unmixed (introduced_by t z.introduced) (named_by t z.named) (extended_by E t)
unmixed-step N P z _ E W (none Addition zs q) U = U
unmixed-step N P z _ E W (none Body zs q) U = absurd q
unmixed-step N P z _ E W (none Completion zs q) U = U
unmixed-step N P z _ E W (none Deletion zs q) U = U
unmixed-step N P z _ E W (none Extension zs q) U = absurd q
unmixed-step N P z _ E W (none Loop zs q) U = U
unmixed-step N P z _ E W (none Support zs q) U = U
unmixed-step N P z _ E W (extends m L l u) U = (λ v i. low v (Memᴰ.cases_cons i), λ y i j. apart y i (Memᴰ.cases_cons j))
  where
    low : (v : ℕ) → (v ≡ m) ⊎ (v ∈ E) → v ∈ m ∷ z.introduced
    low v (inl e) = Memᴰ.head e
    low v (inr i) = Memᴰ.tail (U.0 v i)

    apart : (y : Named) → y ∈ z.named → (y.name ≡ m) ⊎ (y.name ∈ E) → ⊥
    apart y i (inl e) = u ((known-decides N z m).from (inr (Memᴰ.cast (sym e) (W.names y i))))
    apart y i (inr j) = U.1 y i j
unmixed-step N P z _ E W (names-body m L l u b v) U = (λ v i. Memᴰ.tail (U.0 v i), λ y i j. apart y (Memᴰ.cases_cons i) j)
  where
    apart : (y : Named) → (y ≡ record { name = m; body = ascending L }) ⊎ (y ∈ z.named) → ¬ (y.name ∈ E)
    apart y (inl e) j = u ((known-decides N z m).from (inr (U.0 m (Memᴰ.cast (sym (ap (λ (k : Named). k.name) e)) j))))
    apart y (inr i) j = U.1 y i j

-- The names of any list of accepted steps

pub well-named : (N : ℕ) (P : List Rule) (ts : List Step) (z : State) → steps N P start ts ≡ next z
    → (z.introduced ≡ introduced_in [] ts) × ((z.named ≡ named_in [] ts) × Named-well N P (introduced_in [] ts) (named_in [] ts))
well-named N P ts z e =
    let E = steps-keep N P {A = ℕ} (λ a t. a) (λ i n a. Unit {0}) (λ z t a W N K. tt) ts start z 0 (start-well N P) tt e in
    (E.introduced-is, (E.named-is, E.well))

unmixed : (N : ℕ) (P : List Rule) (ts : List Step) (z : State) → steps N P start ts ≡ next z → Unmixed (introduced_in [] ts) (named_in [] ts) (extended_in [] ts)
unmixed N P ts z e =
    (steps-keep N P extended_by Unmixed (unmixed-step N P) ts start z [] (start-well N P) (λ v i. elim i [ ], λ y i. elim i [ ]) e).keeps

-- a body of the program with the constraint
pub body-cases : (P : List Rule) (x : ℤ) (L : List ℤ) → T (is_body (demanding P x) L) → T (is_body P L) ⊎ (L ≡ complement x ∷ [])
body-cases P x L t =
    let r = (any-decides (λ q. same_list-decides q.body L) (demanding P x)).to t in
    elim (Memᴰ.append_cases P r.1) [
      | inl m ↦ inl ((any-decides (λ q. same_list-decides q.body L) P).from (r.0, m, r.2))
      | inr m ↦ inr (sym r.2 ∙ ap (λ (q : Rule). q.body) (Memᴰ.eq_of_singleton m))
    ]

-- a body of both programs is the program's own: the two added bodies differ
pub both-bodies : (P : List Rule) (v : ℕ) → 1 ≤ v → (L : List ℤ) → T (is_body (demanding P (pos v)) L) → T (is_body (demanding P (neg_ℤ (pos v))) L) → T (is_body P L)
both-bodies P v low L a b = by (body-cases P (pos v) L a) (body-cases P (neg_ℤ (pos v)) L b)
  where
    opposite : neg_ℤ (pos v) ≡ complement (neg_ℤ (pos v)) → ⊥
    opposite h = go v low (h ∙ complement-twice (pos v))
      where
        go : (n : ℕ) → 1 ≤ n → neg_ℤ (pos n) ≡ pos n → ⊥
        go zero l e = omega (arith, l)
        go (suc n) l e = zero_one (cc)

    by : T (is_body P L) ⊎ (L ≡ complement (pos v) ∷ []) → T (is_body P L) ⊎ (L ≡ complement (neg_ℤ (pos v)) ∷ []) → T (is_body P L)
    by (inl t) s = t
    by (inr p) (inl t) = t
    by (inr p) (inr q) = absurd (opposite (head-eq_of_cons-eq (sym p ∙ q)))

-- The two halves

module _ (N : ℕ) (P : List Rule) (small : plain_atoms P ≤ N) (v : ℕ) (atom : T (is_atom N v)) (one two : List Step) (z₁ z₂ : State)
    (e₁ : steps N (demanding P (pos v)) start one ≡ next z₁) (e₂ : steps N (demanding P (neg_ℤ (pos v))) start two ≡ next z₂) where
  abbrev i₁ : List ℕ
  i₁ = introduced_in [] one

  abbrev n₁ : List Named
  n₁ = named_in [] one

  abbrev i₂ : List ℕ
  i₂ = introduced_in [] two

  abbrev n₂ : List Named
  n₂ = named_in [] two

  abbrev used : List ℕ
  used = i₁ ++ i₂

  low : 1 ≤ v
  low = ((and-decides (leb-decides 1 v) (leb-decides v N)).to atom).0

  atom₂ : T (is_atom N (variable (neg_ℤ (pos v))))
  atom₂ = subst (λ k. T (is_atom N k)) (sym (variable-complement (pos v))) atom

  well₁ : Named-well N (demanding P (pos v)) i₁ n₁
  well₁ = (well-named N (demanding P (pos v)) one z₁ e₁).1.1

  well₂ : Named-well N (demanding P (neg_ℤ (pos v))) i₂ n₂
  well₂ = (well-named N (demanding P (neg_ℤ (pos v))) two z₂ e₂).1.1

  -- The first half

  setting₁ : Setting N (pos v) (λ n. n) i₁
  setting₁ = record {
    split = atom;
    zero-stays = refl;
    positive-stays = λ u h. h;
    atoms-stay = λ u t. refl;
    above = well₁.above;
    apart = λ u w i j e. e;
  }

  follows₁ : Follows P (pos v) (λ n. n) start i₁ start start
  follows₁ = record {
    live = λ g m. elim m [ ];
    old = λ g m. m;
    past = λ u m. m;
    inside = λ u m. elim m [ ];
    known = λ u m. m;
    only = λ u m. inl m;
    bodies = record {
      kept = λ y m. elim m [ ];
      once = λ y u m. elim m [ ];
      of = λ y m. inl m;
      before = λ y m. m;
      added = λ y m. elim m [ ];
      meant = λ y m. elim m [ ];
    };
  }

  introduces₁ : (c : Letter) (zs : List ℤ) → record { letter = c; numbers = zs } ∈ one → Introduces N P small (pos v) (λ n. n) [] start i₁ setting₁ c zs
  introduces₁ Addition zs m = tt
  introduces₁ Body [] m = tt
  introduces₁ Body (n ∷ L) m = (line-introduced n L Body (λ l. Memᴰ.head refl) one [] m, inr (tt, λ i. elim i [ ], λ y i. elim i [ ]))
  introduces₁ Completion zs m = tt
  introduces₁ Deletion zs m = tt
  introduces₁ Extension [] m = tt
  introduces₁ Extension (n ∷ L) m = (line-introduced n L Extension (λ l. Memᴰ.head refl) one [] m, λ i. elim i [ ])
  introduces₁ Loop zs m = tt
  introduces₁ Support zs m = tt

  abbrev lines₁ : List Step
  lines₁ = half P (pos v) (λ n. n) [] [] one

  first : T (all_fit lines₁) → (w : State) × (steps N P start lines₁ ≡ next w) × Follows P (pos v) (λ n. n) start i₁ z₁ w
  first t = steps-go N P small (pos v) (λ n. n) [] start i₁ setting₁ one start start follows₁ (λ s m. introduces₁ s.letter s.numbers m) z₁ e₁ t

  -- The second half

  abbrev pairs : List Renamed
  pairs = renaming N n₁ i₁ used [] two

  abbrev f₂ : ℕ → ℕ
  f₂ = second_names N one two

  in-used : (u : ℕ) → u ∈ i₁ → u ∈ used
  in-used u m = Memᴰ.append_left i₂ m

  abbrev AllKinds : List ℕ → List Named → List Renamed → Type 0
  AllKinds = Kinds N n₁ i₁ used in-used well₁.positive well₁.names

  kinds₂ : AllKinds i₂ n₂ pairs
  kinds₂ =
      let E = steps-keep N (demanding P (neg_ℤ (pos v))) (λ D t. renamed_by N n₁ i₁ used t D) AllKinds (kinds-step N n₁ i₁ used in-used well₁.positive well₁.names (demanding P (neg_ℤ (pos v))))
      two start z₂ [] (start-well N (demanding P (neg_ℤ (pos v)))) (kinds-start N n₁ i₁ used in-used well₁.positive well₁.names) e₂ in
      subst (AllKinds i₂ n₂) (renaming-same N n₁ i₁ used two []) E.keeps

  abbrev KindOf : ℕ → Type 0
  KindOf u = Kind N n₁ i₁ used in-used well₁.positive well₁.names u n₂ pairs

  module _ (w₁ : State) (F₁ : Follows P (pos v) (λ n. n) start i₁ z₁ w₁) where
    setting₂ : Setting N (neg_ℤ (pos v)) f₂ i₂
    setting₂ = record {
      split = atom₂;
      zero-stays = name-stays pairs 0 (λ p m e. omega (arith, well₂.positive p.old (kinds₂.olds p m), e));
      positive-stays = λ u h. elim (name-cases pairs u) [ inl e ↦ rw e h | inr r ↦ rw r.2.1 (kinds₂.positive r.0 r.1) ];
      atoms-stay = λ u t. name-stays pairs u (λ p m e. well₂.above u (Memᴰ.cast (sym e) (kinds₂.olds p m)) t);
      above = λ u m. above u m (kinds₂.kinds u m);
      apart = λ u w i j. apart u w i j (kinds₂.kinds u i) (kinds₂.kinds w j);
    }
      where
        above : (u : ℕ) → u ∈ i₂ → KindOf u → ¬ T (is_atom N (f₂ u))
        above u m (shared y k iy e ik b q) t = well₁.above k.name (well₁.names k ik) (subst (λ n. T (is_atom N n)) q t)
        above u m (stays d b q) t = well₂.above u m (subst (λ n. T (is_atom N n)) q t)
        above u m (given d p i o q b h) t =
            let k = ((and-decides (leb-decides 1 (f₂ u)) (leb-decides (f₂ u) N)).to t).1 in
            omega (arith, h, k, q)

        apart : (u w : ℕ) → u ∈ i₂ → w ∈ i₂ → KindOf u → KindOf w → f₂ u ≡ f₂ w → u ≡ w
        apart u w i j (shared y k iy e ik b q) (shared y' k' iy' e' ik' b' q') h =
            let n : k.name ≡ k'.name = sym q ∙ (h ∙ q') in
            let s : y.body ≡ y'.body = sym b ∙ (well₁.distinct k k' ik ik' n ∙ b') in
            sym e ∙ (well₂.once y y' iy iy' s ∙ e')
        apart u w i j (shared y k iy e ik b q) (stays d c r) h = absurd (c (Memᴰ.cast (sym (sym q ∙ (h ∙ r))) (well₁.names k ik)))
        apart u w i j (shared y k iy e ik b q) (given d p ip o r c l) h = absurd (c (Memᴰ.cast (sym (sym q ∙ (h ∙ r))) (in-used k.name (well₁.names k ik))))
        apart u w i j (stays d c r) (shared y k iy e ik b q) h = absurd (c (Memᴰ.cast (sym r ∙ (h ∙ q)) (well₁.names k ik)))
        apart u w i j (stays d c r) (stays d' c' r') h = sym r ∙ (h ∙ r')
        apart u w i j (stays d c r) (given d' p ip o q b l) h = absurd (b (Memᴰ.cast (sym (sym r ∙ (h ∙ q))) (Memᴰ.append_right i₁ i)))
        apart u w i j (given d p ip o r c l) (shared y k iy e ik b q) h = absurd (c (Memᴰ.cast (sym r ∙ (h ∙ q)) (in-used k.name (well₁.names k ik))))
        apart u w i j (given d p ip o r c l) (stays d' c' r') h = absurd (c (Memᴰ.cast (sym r ∙ (h ∙ r')) (Memᴰ.append_right i₁ j)))
        apart u w i j (given d p ip o r c l) (given d' p' ip' o' r' c' l') h = sym o ∙ (kinds₂.apart p p' ip ip' c c' (sym r ∙ (h ∙ r')) ∙ o')

    abbrev bodies₁ : List (List ℤ)
    bodies₁ = map (λ (y : Named). y.body) n₁

    shared-decides : (L : List ℤ) → Decides (is_among bodies₁ L) ((k : List ℤ) × (k ∈ bodies₁) × (k ≡ L))
    shared-decides L = any-decides (λ k. same_list-decides k L) bodies₁

    -- a new name that is not the first half's is new to the merged proof
    not_there : (n : ℕ) → ¬ (n ∈ i₁) → ¬ (n ∈ w₁.introduced)
    not_there n d m = elim (F₁.only n m) [
      | inl i ↦ elim i [ ]
      | inr r ↦ d (Memᴰ.cast (sym r.2) (subst (λ (l : List ℕ). r.0 ∈ l) (well-named N (demanding P (pos v)) one z₁ e₁).0 r.1))
    ]

    -- a body that both halves name is one of the program's
    shared-body : (k y : Named) → k ∈ n₁ → y ∈ n₂ → k.body ≡ y.body → T (is_body P k.body)
    shared-body k y ik iy b =
        both-bodies P v low k.body (well₁.bodies k ik) (subst (λ (l : List ℤ). T (is_body (demanding P (neg_ℤ (pos v))) l)) (sym b) (well₂.bodies y iy))

    abbrev BodyLine : ℤ → List ℤ → Type 0
    BodyLine n L = Introduces N P small (neg_ℤ (pos v)) f₂ bodies₁ w₁ i₂ setting₂ Body (n ∷ L)

    module _ (n : ℤ) (L : List ℤ) (m : record { name = variable n; body = ascending L } ∈ n₂)
        (d : (y : Named) → y ∈ n₂ → y.name ≡ variable n → (k : Named) → k ∈ n₁ → k.body ≢ y.body) where
      none-shares : (k : Named) → k ∈ n₁ → k.body ≢ ascending L
      none-shares k i e = d (record { name = variable n; body = ascending L }) m refl k i e

      apart-bodies : T (not (is_among bodies₁ (ascending L)))
      apart-bodies = (not-decides (shared-decides (ascending L))).from (λ q. let r = Memᴰ.of_map (λ (y : Named). y.body) n₁ q.1 in none-shares r.0 r.1 (r.2 ∙ q.2))

      apart-base : (y : Named) → y ∈ w₁.named → y.body ≢ ascending L
      apart-base y i e = elim (F₁.bodies.of y i) [
        | inl j ↦ elim j [ ]
        | inr r ↦ none-shares r.0 (subst (λ (l : List Named). r.0 ∈ l) (well-named N (demanding P (pos v)) one z₁ e₁).1.0 r.1) (r.2 ∙ e)
      ]

    body-line : (n : ℤ) (L : List ℤ) → variable n ∈ i₂ → record { name = variable n; body = ascending L } ∈ n₂ → KindOf (variable n) → BodyLine n L
    body-line n L i m (shared y k iy e ik b q) =
        let c : y.body ≡ ascending L = well₂.distinct y (record { name = variable n; body = ascending L }) iy m e in
        let d : k.body ≡ ascending L = b ∙ c in
        let z-k : k ∈ z₁.named = subst (λ (l : List Named). k ∈ l) (sym (well-named N (demanding P (pos v)) one z₁ e₁).1.0) ik in
        let w-k = F₁.bodies.kept k z-k (shared-body k y ik iy b) in (
          i,
          inl (
            (shared-decides (ascending L)).from (k.body, Memᴰ.map (λ (y : Named). y.body) ik, d),
            rw (q, ← d) w-k,
            rw q (F₁.known k.name (subst (λ (l : List ℕ). k.name ∈ l) (sym (well-named N (demanding P (pos v)) one z₁ e₁).0) (well₁.names k ik))),
          ),
        )
    body-line n L i m (stays d b q) = (i, inr (apart-bodies n L m d, not_there (f₂ (variable n)) (λ j. b (Memᴰ.cast (sym q) j)), apart-base n L m d))
    body-line n L i m (given d p ip o q b h) = (i, inr (apart-bodies n L m d, not_there (f₂ (variable n)) (λ j. b (Memᴰ.cast (sym q) (in-used _ j))), apart-base n L m d))

    extension-line : (n : ℤ) (L : List ℤ) → record { letter = Extension; numbers = n ∷ L } ∈ two → KindOf (variable n) → ¬ (f₂ (variable n) ∈ w₁.introduced)
    extension-line n L m (shared y k iy e ik b q) =
        absurd ((unmixed N (demanding P (neg_ℤ (pos v))) two z₂ e₂).1 y iy (Memᴰ.cast e (extension-there n L two [] m)))
    extension-line n L m (stays d b q) = not_there (f₂ (variable n)) (λ j. b (Memᴰ.cast (sym q) j))
    extension-line n L m (given d p ip o q b h) = not_there (f₂ (variable n)) (λ j. b (Memᴰ.cast (sym q) (in-used _ j)))

    introduces₂ : (c : Letter) (zs : List ℤ) → record { letter = c; numbers = zs } ∈ two → Introduces N P small (neg_ℤ (pos v)) f₂ bodies₁ w₁ i₂ setting₂ c zs
    introduces₂ Addition zs m = tt
    introduces₂ Body [] m = tt
    introduces₂ Body (n ∷ L) m = let i = line-introduced n L Body (λ l. Memᴰ.head refl) two [] m in body-line n L i (body-there n L two [] m) (kinds₂.kinds (variable n) i)
    introduces₂ Completion zs m = tt
    introduces₂ Deletion zs m = tt
    introduces₂ Extension [] m = tt
    introduces₂ Extension (n ∷ L) m = let i = line-introduced n L Extension (λ l. Memᴰ.head refl) two [] m in (i, extension-line n L m (kinds₂.kinds (variable n) i))
    introduces₂ Loop zs m = tt
    introduces₂ Support zs m = tt

    follows₂ : Follows P (neg_ℤ (pos v)) f₂ w₁ i₂ start w₁
    follows₂ = record {
      live = λ g m. elim m [ ];
      old = λ g m. m;
      past = λ u m. m;
      inside = λ u m. elim m [ ];
      known = λ u m. elim m [ ];
      only = λ u m. inl m;
      bodies = record {
        kept = λ y m. elim m [ ];
        once = F₁.bodies.once;
        of = λ y m. inl m;
        before = λ y m. m;
        added = λ y m. elim m [ ];
        meant = F₁.bodies.meant;
      };
    }

    abbrev lines₂ : List Step
    lines₂ = half P (neg_ℤ (pos v)) f₂ bodies₁ [] two

    second : T (all_fit lines₂) → (w : State) × (steps N P w₁ lines₂ ≡ next w) × Follows P (neg_ℤ (pos v)) f₂ w₁ i₂ z₂ w
    second t = steps-go N P small (neg_ℤ (pos v)) f₂ bodies₁ w₁ i₂ setting₂ two start w₁ follows₂ (λ s m. introduces₂ s.letter s.numbers m) z₂ e₂ t

    -- The closing line

    module _ (w₂ : State) (F₂ : Follows P (neg_ℤ (pos v)) f₂ w₁ i₂ z₂ w₂) (l₁ : [] ∈ z₁.live) (l₂ : [] ∈ z₂.live) where
      conflict : Conflict w₂.live []
      conflict =
          let a = only_of (λ n. n) (pos v) w₁.live (F₁.live [] l₁) in
          closing w₂.live (pos v) (a.0, F₂.old a.0 a.1, a.2) (only_of f₂ (neg_ℤ (pos v)) w₂.live (F₂.live [] l₂))

      closes : steps N P w₂ (record { letter = Addition; numbers = [] } ∷ []) ≡ next (add w₂ ([] ∷ []))
      unfolding insert_all
      closes = ap (λ (o : Outcome). elim o [ refused k ↦ refused k | next z ↦ steps N P z [] ]) (taken (refuted w₂.live []) (is_true (refuted-decides w₂.live []) conflict))
        where
          taken : (b : Bool) → b ≡ true → cond b (next (add w₂ ([] ∷ []))) (refused NoConflict) ≡ next (add w₂ ([] ∷ []))
          taken true e = refl
          taken false e = absurd (true≢false (sym e))

      ends-empty : empty_live (add w₂ ([] ∷ [])) ≡ true
      ends-empty = is_true (empty-decides (w₂.live ++ ([] ∷ []))) (Memᴰ.append_right w₂.live (Memᴰ.head refl))

accepted : (N : ℕ) (P : List Rule) → plain_atoms P ≤ N → (v : ℕ) → is_atom N v ≡ true → (one two : List Step) → Accepted N (demanding P (pos v)) one
    → Accepted N (demanding P (neg_ℤ (pos v))) two → all_fit (merged N P v one two) ≡ true → Accepted N P (merged N P v one two)
unfolding merged
accepted N P small v atom one two (z₁, e₁, l₁) (z₂, e₂, l₂) fit =
    let t : T (is_atom N v) = (passed (is_atom N v)).from atom in
    let closing-line : List Step = record { letter = Addition; numbers = [] } ∷ [] in
    let one-lines = lines₁ N P small v t one two z₁ z₂ e₁ e₂ in
    let f = fit_append one-lines (half P (neg_ℤ (pos v)) (second_names N one two) (map (λ (y : Named). y.body) (named_in [] one)) [] two ++ closing-line) ((passed _).from fit) in
    let a = first N P small v t one two z₁ z₂ e₁ e₂ f.0 in
    let two-lines = lines₂ N P small v t one two z₁ z₂ e₁ e₂ a.0 a.2 in
    let g = fit_append two-lines closing-line f.1 in
    let b = second N P small v t one two z₁ z₂ e₁ e₂ a.0 a.2 g.0 in
    let m₁ = (empty-decides z₁.live).to ((passed _).from l₁) in
    let m₂ = (empty-decides z₂.live).to ((passed _).from l₂) in (
      add b.0 ([] ∷ []),
      steps-append N P one-lines (two-lines ++ closing-line) start a.0 a.1
          ∙ (steps-append N P two-lines closing-line a.0 b.0 b.1 ∙ closes N P small v t one two z₁ z₂ e₁ e₂ a.0 a.2 b.0 b.2 m₁ m₂),
      ends-empty N P small v t one two z₁ z₂ e₁ e₂ a.0 a.2 b.0 b.2 m₁ m₂,
    )

pub merged-accepted : MergedAccepted
merged-accepted N P small v atom one two a b fit =
    let m = accepted N P small v atom one two a b fit in
    (m, soundness N P small (merged N P v one two) m.0 m.1 m.2)
