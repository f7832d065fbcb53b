-- The second half's new names, line by line: what the walk keeps, and what it ends with. Assumes nothing.
use mathlib.Core.Path.{◌≡◌, refl, sym, ap, ◌∙◌, subst}
use mathlib.Core.Logic.{◌⊎◌, inl, inr, ◌≢◌}
use mathlib.Core.Bool.{Bool, true, false, cond, ◌||◌, true≢false}
use mathlib.Core.List.Memᴰ
use mathlib.Core.List.{List, [], ◌∷◌, ◌++◌, map}
use Prim.Native.Nat.{ℕ, ◌+◌, ◌≤◌, ◌<◌}
use native.Mathlib.Omega.{arith}
use borrow.Author.Tests.{ltb-true, ltb-false}
use lib.Dec.{T, eqb, leb, ltb}
use lib.IntN.{ℤ, pos, neg_ℤ}
use lib.ListN.{length, get_or, set}
use lib.Seq.{get_or-set_same, get_or-set_other}
use Rattle.words.specs.Limits.{largest, entries}
use Rattle.words.specs.Lists.{◌∈◌, any}
use Rattle.words.specs.Literals.{variable, same_list, ascending}
use Rattle.words.proofs.Lists.{zero_one, answered, Decides, itself, passed, failed, if-true, is_true, or-false-left, or-false-right, by-test, not-decides, or-decides, and-decides, any-decides, eqb-decides, leb-decides}
use Rattle.words.proofs.Literals.{same_list-decides}
use Rattle.words.proofs.Places.{equal?}
use Rattle.words.proofs.Blanks.{blank-past}
use Rattle.marks.specs.Marks.{marked}
use Rattle.marks.proofs.Sets.{marked-set}
use Rattle.text.specs.declared.Letter.{Letter}
use Rattle.text.specs.declared.Letter.TheVariants.{Addition, Body, Completion, Deletion, Extension, Loop, Support}
use Rattle.aspif.specs.Rules.{Rule, InputRule, expand}
use Rattle.drupe.specs.Lines.{LineAt, end, line, line_at}
use Rattle.drupe.specs.Lines as Lines
use Rattle.drupe.specs.Texts.{Step, LinePasses}
use Rattle.derivation.specs.States.{Named, State, start, is_atom, is_known}
use Rattle.derivation.specs.Steps.{Outcome, refused, next, step}
use Rattle.derivation.specs.Steps as Steps
use Rattle.derivation.proofs.Questions.{known-decides}
use Rattle.steps.specs.Held.{name_of}
use Rattle.steps.proofs.Names.{name-found}
use Rattle.steps.proofs.Turns.{good-line, steps-pass}
use Rattle.merging.specs.Merge.{demanding, is_body, named_by, named_in, introduced_by, introduced_in, Renamed, new_name, free, other_name, body_name, renamed_by, renaming, second_names, is_among, renamed, one, kept, half, all_fit}
use Rattle.merging.proofs.Lines.{fit_append}
use Rattle.derivation.proofs.Outcomes.{Then}
use Rattle.merging.proofs.Runs.{Named-well, start-well, Names, none, extends, names-body, Does, step-does, names-well, steps-keep}
use Rattle.merging.proofs.Renaming.{number-decides, lowest-is, pair, name-here, name-other, renaming-same}
use Rattle.merging.proofs.Merged.{introduced-more, well-named, both-bodies}
use Rattle.renaming.specs.Renames.{Halves, bodies_in, NewNames, NextFree, OtherNamed, BodyNamed, LineRenamed, rename_turn, TurnRenamed, TurnBounds}
use Rattle.renaming.specs.declared.renames.RenameTurn.{RenameTurn}
use Rattle.renaming.specs.declared.renames.RenameTurn.TheVariants.{Ends, Over, Goes}
use Rattle.renaming.proofs.Positions.{Left, LeftBy, left-start, left_by}

-- Names of bodies

-- the body has a name in the list
abbrev is_named : List Named → List ℤ → Bool
is_named ys L = any (λ y. same_list y.body L) ys

named-decides : (ys : List Named) (L : List ℤ) → Decides (is_named ys L) ((y : Named) × (y ∈ ys) × (y.body ≡ L))
named-decides ys L = any-decides (λ y. same_list-decides y.body L) ys

-- it is that of the first that has the body
named-first : (ys : List Named) (L : List ℤ) → is_named ys L ≡ true → (y : Named) × (y ∈ ys) × ((y.body ≡ L) × (name_of ys L ≡ y.name))
named-first [] L e = absurd (true≢false (sym e))
named-first (y ∷ ys) L e = go (λ q. named-first ys L q) (same_list y.body L) refl e
  where
    go : (is_named ys L ≡ true → (k : Named) × (k ∈ ys) × ((k.body ≡ L) × (name_of ys L ≡ k.name))) → (b : Bool) → same_list y.body L ≡ b → (b || is_named ys L) ≡ true
        → (k : Named) × (k ∈ y ∷ ys) × ((k.body ≡ L) × (cond b y.name (name_of ys L) ≡ k.name))
    go below true q e = (y, Memᴰ.head refl, (if-true (same_list-decides y.body L) q, refl))
    go below false q e = let r = below e in (r.0, Memᴰ.tail r.1, r.2)

among-is : (ys : List Named) (L : List ℤ) → is_among (map (λ y. y.body) ys) L ≡ is_named ys L
among-is [] L = refl
among-is (y ∷ ys) L = ap (λ (b : Bool). same_list y.body L || b) (among-is ys L)

-- a number that is no variable, and one that is
pub no-variable : (k : ℕ) → (eqb k 0 || ltb largest k) ≡ true → 1 ≤ k → largest < k
no-variable k e h = elim ((or-decides (eqb-decides k 0) (passed (ltb largest k))).to ((passed _).from e)) [ inl q ↦ absurd (omega (arith, h, q)) | inr q ↦ ltb-true largest k q ]

pub a-variable : (k : ℕ) → (eqb k 0 || ltb largest k) ≡ false → (1 ≤ k) × (k ≤ largest)
a-variable k e =
    let d : ¬ (k ≡ 0) = λ q. true≢false (sym (is_true (eqb-decides k 0) q) ∙ or-false-left (eqb k 0) (ltb largest k) e) in
    (omega (arith, d), ltb-false largest k (or-false-right (eqb k 0) (ltb largest k) e))

-- the pair of a body's name
body_is : (N : ℕ) (named : List Named) (introduced used : List ℕ) (ys : List Named) (n : ℕ) (L : List ℤ) (D : List Renamed)
    → body_name N named introduced used ys n L D ≡ cond (is_named ys L) (pair n (name_of ys L) ∷ D) (other_name N named introduced used n D)
body_is N named introduced used [] n L D = refl
body_is N named introduced used (y ∷ ys) n L D = go (body_is N named introduced used ys n L D) (same_list y.body L)
  where
    go : body_name N named introduced used ys n L D ≡ cond (is_named ys L) (pair n (name_of ys L) ∷ D) (other_name N named introduced used n D) → (b : Bool) → cond b (pair n y.name ∷ D) (body_name N named introduced used ys n L D)
        ≡ cond (b || is_named ys L) (pair n (cond b y.name (name_of ys L)) ∷ D) (other_name N named introduced used n D)
    go below true = refl
    go below false = below

-- Names of accepted steps are variables

module _ (t : Step) (p : LinePasses t) (names : List ℕ) (h : (u : ℕ) → u ∈ names → u ≤ largest) (u : ℕ) where
  name-high : u ∈ introduced_by t names → u ≤ largest
  name-high = go t.letter t.numbers (good-line t.letter t.numbers p.0 p.1).literals.high
    where
      new : (n : ℤ) (L : List ℤ) → ((y : ℤ) → y ∈ n ∷ L → variable y ≤ largest) → u ∈ variable n ∷ names → u ≤ largest
      new n L g m = elim (Memᴰ.cases_cons m) [ inl e ↦ rw e (g n (Memᴰ.head refl)) | inr i ↦ h u i ]

      go : (c : Letter) (zs : List ℤ) → ((y : ℤ) → y ∈ zs → variable y ≤ largest) → u ∈ introduced_by (record { letter = c; numbers = zs }) names → u ≤ largest
      go Addition zs g m = h u m
      go Body [] g m = h u m
      go Body (n ∷ L) g m = new n L g m
      go Completion zs g m = h u m
      go Deletion zs g m = h u m
      go Extension [] g m = h u m
      go Extension (n ∷ L) g m = new n L g m
      go Loop zs g m = h u m
      go Support zs g m = h u m

names-high : (ts : List Step) → ((t : Step) → t ∈ ts → LinePasses t) → (names : List ℕ) → ((u : ℕ) → u ∈ names → u ≤ largest) → (u : ℕ) → u ∈ introduced_in names ts → u ≤ largest
names-high [] p names h u m = h u m
names-high (t ∷ ts) p names h u m =
    names-high ts (λ s i. p s (Memᴰ.tail i)) (introduced_by t names) (name-high t (p t (Memᴰ.head refl)) names h) u m

-- the first of some steps that run through
first_step : (N : ℕ) (P : List Rule) (z w : State) (t : Step) (ts : List Step) → Steps.steps N P z (t ∷ ts) ≡ next w
    → (z' : State) × (Steps.steps N P z' ts ≡ next w) × Does N P z t z'
first_step N P z w t ts e = go (step N P z t) (step-does N P z t) e
  where
    go : (o : Outcome) → Then (Does N P z t) o → elim o as (λ x. Outcome) [ refused k ↦ refused k | next z' ↦ Steps.steps N P z' ts ] ≡ next w
        → (z' : State) × (Steps.steps N P z' ts ≡ next w) × Does N P z t z'
    go (refused k) d e = absurd (zero_one (cc))
    go (next z') d e = (z', e, d)

-- New names that stay

module _ (N : ℕ) (named₁ : List Named) (introduced₁ used : List ℕ) (u : ℕ) where
  abbrev Stays : List Renamed → List Renamed → Type 0
  Stays D E = new_name E u ≡ new_name D u

  pair-stays : (n c : ℕ) (D : List Renamed) → u ≢ n → Stays D (pair n c ∷ D)
  pair-stays n c D d = name-other n c D u d

  other-stays : (n : ℕ) (D : List Renamed) → u ≢ n → Stays D (other_name N named₁ introduced₁ used n D)
  other-stays n D d = by-test (Stays D) (any (eqb n) introduced₁) (λ e. pair-stays n _ D d) (λ e. refl)

  body-stays : (n : ℕ) (L : List ℤ) (D : List Renamed) → u ≢ n → Stays D (body_name N named₁ introduced₁ used named₁ n L D)
  body-stays n L D d =
      subst (Stays D) (sym (body_is N named₁ introduced₁ used named₁ n L D))
      (by-test (Stays D) (is_named named₁ L) (λ e. pair-stays n (name_of named₁ L) D d) (λ e. other-stays n D d))

  module _ (P : List Rule) (c : ℕ) where
    abbrev Keeps : List ℕ → List Named → List Renamed → Type 0
    Keeps introduced named D = (u ∈ introduced) × (new_name D u ≡ c)

    -- a name that is introduced is not introduced again
    keeps-step : (z : State) (t : Step) (D : List Renamed) → Named-well N P z.introduced z.named → Names N P z t → Keeps z.introduced z.named D
        → Keeps (introduced_by t z.introduced) (named_by t z.named) (renamed_by N named₁ introduced₁ used t D)
    keeps-step z t D W n k = (introduced-more t z.introduced u k.0, by n ∙ k.1)
      where
        other : (m : ℕ) → ¬ T (is_known N z m) → u ≢ m
        other m f e = f ((known-decides N z m).from (inr (Memᴰ.cast (sym e) k.0)))

        by : {t : Step} → Names N P z t → Stays D (renamed_by N named₁ introduced₁ used t D)
        by (none Addition zs q) = refl
        by (none Body zs q) = absurd q
        by (none Completion zs q) = refl
        by (none Deletion zs q) = refl
        by (none Extension zs q) = absurd q
        by (none Loop zs q) = refl
        by (none Support zs q) = refl
        by (extends m L l f) = other-stays m D (other m f)
        by (names-body m L l f b g) = body-stays m (ascending L) D (other m f)

    later_same : (ts : List Step) (z w : State) (D : List Renamed) → Named-well N P z.introduced z.named → Steps.steps N P z ts ≡ next w → u ∈ z.introduced
        → new_name D u ≡ c → new_name (renaming N named₁ introduced₁ used D ts) u ≡ c
    later_same ts z w D W e m q =
        subst (λ (E : List Renamed). new_name E u ≡ c) (renaming-same N named₁ introduced₁ used ts D)
        (steps-keep N P (λ D t. renamed_by N named₁ introduced₁ used t D) Keeps keeps-step ts z w D W (m, q) e).keeps.1

-- A line that does not fit

over-half : (P : List Rule) (x : ℤ) (f : ℕ → ℕ) (shared : List (List ℤ)) (t : Step) → ((named : List Named) → all_fit (kept P x f shared named t.letter t.numbers) ≡ false)
    → (ts : List Step) (named : List Named) → t ∈ ts → all_fit (half P x f shared named ts) ≡ false
over-half P x f shared t over ts named m = failed (all_fit (half P x f shared named ts)) ((not-decides (itself (all_fit (half P x f shared named ts)))).from (not-fit ts named m))
  where
    not-fit : (ts : List Step) (named : List Named) → t ∈ ts → ¬ T (all_fit (half P x f shared named ts))
    not-fit [] named m k = elim m [ ]
    not-fit (s ∷ ts) named m k = go (λ i. not-fit ts (named_by s named) i) (Memᴰ.cases_cons m) (fit_append (kept P x f shared named s.letter s.numbers) (half P x f shared (named_by s named) ts) k)
      where
        go : (t ∈ ts → ¬ T (all_fit (half P x f shared (named_by s named) ts))) → (t ≡ s) ⊎ (t ∈ ts) → T (all_fit (kept P x f shared named s.letter s.numbers)) × T (all_fit (half P x f shared (named_by s named) ts)) → ⊥
        go below (inl e) k = subst T (over named) (subst (λ (q : Step). T (all_fit (kept P x f shared named q.letter q.numbers))) (sym e) k.0)
        go below (inr i) k = below i k.1

one-over : (c : Letter) (f : ℕ → ℕ) (m : ℕ) (L : List ℤ) → f m ≡ entries → all_fit (one c (map (renamed f) (pos m ∷ L))) ≡ false
one-over c f m L e = rw e

-- The walk

module _ {text : List ℕ} {table : List ℤ} {rules N : ℕ} {known₁ known₂ names : List ℕ} {bodies : List ℤ} {ws : List InputRule} {v : ℕ}
    {one two : List Step} {z₁ z₂ : State} (H : Halves text table rules N known₁ known₂ names bodies ws v one two z₁ z₂) where
  abbrev P : List Rule
  P = expand ws

  abbrev P₁ : List Rule
  P₁ = demanding P (pos v)

  abbrev P₂ : List Rule
  P₂ = demanding P (neg_ℤ (pos v))

  abbrev i₁ : List ℕ
  i₁ = introduced_in [] one

  abbrev n₁ : List Named
  n₁ = named_in [] one

  abbrev i₂ : List ℕ
  i₂ = introduced_in [] two

  abbrev used : List ℕ
  used = i₁ ++ i₂

  abbrev news : List Renamed → List ℕ
  news D = map (λ (p : Renamed). p.new) D

  low : 1 ≤ v
  low = ((and-decides (leb-decides 1 v) (leb-decides v N)).to ((passed _).from H.atom)).0

  well₁ : Named-well N P₁ i₁ n₁
  well₁ = (well-named N P₁ one z₁ H.first).1.1

  known_by : (known : List ℕ) (Q : List Rule) (ts : List Step) (z : State) → Steps.steps N Q start ts ≡ next z → ((u : ℕ) → u ≤ largest → marked known u ≡ is_known N z u)
      → (u : ℕ) → u ≤ largest → Decides (marked known u) (T (is_atom N u) ⊎ (u ∈ introduced_in [] ts))
  known_by known Q ts z e k u h =
      subst (λ (b : Bool). Decides b (T (is_atom N u) ⊎ (u ∈ introduced_in [] ts))) (sym (k u h))
      (subst (λ (l : List ℕ). Decides (is_known N z u) (T (is_atom N u) ⊎ (u ∈ l))) (well-named N Q ts z e).0 (known-decides N z u))

  known-first : (u : ℕ) → u ≤ largest → Decides (marked known₁ u) (T (is_atom N u) ⊎ (u ∈ i₁))
  known-first = known_by known₁ P₁ one z₁ H.first H.knows₁

  known-second : (u : ℕ) → u ≤ largest → Decides (marked known₂ u) (T (is_atom N u) ⊎ (u ∈ i₂))
  known-second = known_by known₂ P₂ two z₂ H.second H.knows₂

  high_used : (u : ℕ) → u ∈ used → u ≤ largest
  high_used u m = elim (Memᴰ.append_cases i₁ m) [
    | inl i ↦ names-high one (steps-pass N P₁ start z₁ one H.first) [] (λ w j. elim j [ ]) u i
    | inr i ↦ names-high two (steps-pass N P₂ start z₂ two H.second) [] (λ w j. elim j [ ]) u i
  ]

  -- Numbers that are given out

  -- c stands past all that were given out, and past nothing that is free
  pub record Cursor (D : List Renamed) (c : ℕ) : Type 0 where
    pub above : N < c
    pub given : (p : Renamed) → p ∈ D → (p.new ∈ used) ⊎ (p.new < c)
    pub taken : (j : ℕ) → N < j → j < c → j ∈ used ++ news D

  -- what a search for a free number passes over is used
  used-before : (c k : ℕ) → NextFree known₁ known₂ c k → (j : ℕ) → N < j → c ≤ j → j < k → j ∈ used
  used-before c k F j a x y =
      let w = F.within in
      let h : j ≤ largest = omega (arith, y, w) in
      elim ((or-decides (known-first j h) (known-second j h)).to ((passed _).from (F.taken j x y))) [
        | inl p ↦ elim p [ inl t ↦ absurd (no-atom t) | inr i ↦ Memᴰ.append_left i₂ i ]
        | inr p ↦ elim p [ inl t ↦ absurd (no-atom t) | inr i ↦ Memᴰ.append_right i₁ i ]
      ]
    where
      no-atom : ¬ T (is_atom N j)
      no-atom t = let b = ((and-decides (leb-decides 1 j) (leb-decides j N)).to t).1 in omega (arith, a, b)

  free-is : (D : List Renamed) (c k : ℕ) → Cursor D c → NextFree known₁ known₂ c k → free N n₁ i₁ used D ≡ k
  free-is D c k C F = lowest-is (N + 1) (used ++ news D) k (omega (arith, C.above, F.above)) not_in (λ j a b. taken j (omega (arith, a)) b)
    where
      unused : ¬ (k ∈ used)
      unused m =
          let h = high_used k m in
          subst T (F.free h) ((or-decides (known-first k h) (known-second k h)).from (elim (Memᴰ.append_cases i₁ m) [ inl i ↦ inl (inr i) | inr i ↦ inr (inr i) ]))

      not_in : ¬ (k ∈ used ++ news D)
      not_in m = elim (Memᴰ.append_cases used m) [
        | inl i ↦ unused i
        | inr i ↦
            let r = Memᴰ.of_map (λ (p : Renamed). p.new) D i in
            elim (C.given r.0 r.1) [ inl j ↦ unused (Memᴰ.cast (sym r.2) j) | inr l ↦ let e = r.2 in let a = F.above in omega (arith, l, e, a) ]
      ]

      taken : (j : ℕ) → N < j → j < k → j ∈ used ++ news D
      taken j a b = elim (answered (leb c j)) [
        | inl t ↦ Memᴰ.append_left (news D) (used-before c k F j a ((leb-decides c j).to t) b)
        | inr t ↦ let g = (not-decides (leb-decides c j)).to t in C.taken j a (omega (arith, g))
      ]

  cursor-pair : (D : List Renamed) (c n k r : ℕ) → Cursor D c → c ≤ r → (k ∈ used) ⊎ (k < r) → ((j : ℕ) → c ≤ j → j < r → (j ≡ k) ⊎ (j ∈ used ++ news D)) → Cursor (pair n k ∷ D) r
  cursor-pair D c n k r C h g t = record {
    above = let a = C.above in omega (arith, h, a);
    given = λ p m. given p (Memᴰ.cases_cons m);
    taken = λ j a b. elim (answered (leb c j)) [
      | inl q ↦ elim (t j ((leb-decides c j).to q) b) [ inl e ↦ Memᴰ.append_right used (Memᴰ.head e) | inr i ↦ more i ]
      | inr q ↦ let w = (not-decides (leb-decides c j)).to q in more (C.taken j a (omega (arith, w)))
    ];
  }
    where
      given : (p : Renamed) → (p ≡ pair n k) ⊎ (p ∈ D) → (p.new ∈ used) ⊎ (p.new < r)
      given p (inl e) = rw e g
      given p (inr m) = elim (C.given p m) [ inl i ↦ inl i | inr l ↦ inr (omega (arith, l, h)) ]

      more : {j : ℕ} → j ∈ used ++ news D → j ∈ used ++ (k ∷ news D)
      more m = elim (Memᴰ.append_cases used m) [ inl i ↦ Memᴰ.append_left (k ∷ news D) i | inr i ↦ Memᴰ.append_right used (Memᴰ.tail i) ]

  -- Where the names stand after some of the steps, which introduced and named what is given

  pub record Stands (introduced : List ℕ) (named : List Named) (D : List Renamed) (c : ℕ) (new shared : List ℕ) : Type 0 where
    pub well : Named-well N P₂ introduced named
    pub olds : (p : Renamed) → p ∈ D → p.old ∈ introduced
    pub cursor : Cursor D c
    pub is : (u : ℕ) → u ≤ largest → get_or new u 0 ≡ new_name D u
    pub within : (u : ℕ) → u ≤ largest → new_name D u ≤ largest
    pub marks : (y : Named) → y ∈ named → marked shared y.name ≡ is_among (bodies_in one) y.body
    pub others : (u : ℕ) → ¬ (u ∈ introduced) → marked shared u ≡ false

  module _ {introduced : List ℕ} {named : List Named} {D : List Renamed} {c : ℕ} {new shared : List ℕ} (S : Stands introduced named D c new shared) (m : ℕ) (h : m ≤ largest)
      (fresh : ¬ (m ∈ introduced)) (long : length new ≡ entries) {named' : List Named} (W : Named-well N P₂ (m ∷ introduced) named') where
    -- a new name that stays
    stands-still : ((y : Named) → y ∈ named' → marked shared y.name ≡ is_among (bodies_in one) y.body) → Stands (m ∷ introduced) named' D c new shared
    stands-still g = record {
      well = W;
      olds = λ p i. Memᴰ.tail (S.olds p i);
      cursor = S.cursor;
      is = S.is;
      within = S.within;
      marks = g;
      others = λ u d. S.others u (λ i. d (Memᴰ.tail i));
    }

    -- one that changes
    stands-pair : (k r : ℕ) (shared' : List ℕ) → k ≤ largest → Cursor (pair m k ∷ D) r
        → ((y : Named) → y ∈ named' → marked shared' y.name ≡ is_among (bodies_in one) y.body) → ((u : ℕ) → ¬ (u ∈ m ∷ introduced) → marked shared' u ≡ false)
        → Stands (m ∷ introduced) named' (pair m k ∷ D) r (set new m k) shared'
    stands-pair k r shared' l C g o = record {
      well = W;
      olds = λ p i. olds p (Memᴰ.cases_cons i);
      cursor = C;
      is = λ u a. is u a (equal? u m);
      within = λ u a. within u a (equal? u m);
      marks = g;
      others = o;
    }
      where
        olds : (p : Renamed) → (p ≡ pair m k) ⊎ (p ∈ D) → p.old ∈ m ∷ introduced
        olds p (inl e) = Memᴰ.head (ap (λ (q : Renamed). q.old) e)
        olds p (inr i) = Memᴰ.tail (S.olds p i)

        is : (u : ℕ) → u ≤ largest → (u ≡ m) ⊎ (u ≢ m) → get_or (set new m k) u 0 ≡ new_name (pair m k ∷ D) u
        is u a (inl e) = rw e (get_or-set_same new m k 0 (omega (arith, h, long)) ∙ sym (name-here m k D))
        is u a (inr d) = get_or-set_other new m u k 0 d ∙ (S.is u a ∙ sym (name-other m k D u d))

        within : (u : ℕ) → u ≤ largest → (u ≡ m) ⊎ (u ≢ m) → new_name (pair m k ∷ D) u ≤ largest
        within u a (inl e) = rw (e, name-here m k D) l
        within u a (inr d) = rw (name-other m k D u d) (S.within u a)

    module _ (no : ¬ T (is_atom N m)) where
      not_first : marked known₁ m ≡ false → any (eqb m) i₁ ≡ false
      not_first f = failed _ ((not-decides (number-decides m i₁)).from (λ i. subst T f ((known-first m h).from (inr i))))

      in-first : marked known₁ m ≡ true → any (eqb m) i₁ ≡ true
      in-first t = is_true (number-decides m i₁) (elim ((known-first m h).to ((passed _).from t)) [ inl a ↦ absurd (no a) | inr i ↦ i ])

      -- another name
      other-on : ((y : Named) → y ∈ named' → marked shared y.name ≡ is_among (bodies_in one) y.body) → {new' : List ℕ} {r : ℕ} → OtherNamed known₁ known₂ c new new' r m → r ≤ entries
          → Stands (m ∷ introduced) named' (other_name N n₁ i₁ used m D) r new' shared
      other-on g (inl (f, e, q)) l = rw (not_first f, e, q) (stands-still g)
      other-on g {r = r} (inr (t, (k, F, (e, q)))) l =
          let i = free-is D c k S.cursor F in
          let a = F.above in
          let C = cursor-pair D c m k (k + 1) S.cursor (omega (arith, a)) (inr (omega arith)) (λ j x y. elim (equal? j k) [
            | inl s ↦ inl s
            | inr d ↦ inr (Memᴰ.append_left (news D) (used-before c k F j (let b = S.cursor.above in omega (arith, b, x)) x (omega (arith, y, d))))
          ]) in
          rw (in-first t, i, e, q) (stands-pair k (k + 1) shared (omega (arith, l, q)) C g (λ u d. S.others u (λ j. d (Memᴰ.tail j))))

      -- no number was left
      other-over : {new' : List ℕ} {r : ℕ} → OtherNamed known₁ known₂ c new new' r m → c ≤ entries → entries < r → new_name (other_name N n₁ i₁ used m D) m ≡ entries
      other-over (inl (f, e, q)) l o = absurd (omega (arith, l, o, q))
      other-over (inr (t, (k, F, (e, q)))) l o =
          let w = F.within in
          rw (in-first t, free-is D c k S.cursor F, name-here m k D) (omega (arith, w, o, q))

  -- Bodies

  -- what the first half calls the body, found by the program's rules
  abbrev called : List ℤ → ℕ
  called L = cond (any (λ x. same_list L x.body) P) (name_of n₁ L) entries

  body-called : (L : List ℤ) (k : ℕ) → k ≡ called L → 1 ≤ k → k ≤ largest → (is_named n₁ L ≡ true) × ((name_of n₁ L ≡ k) × (k ∈ used))
  body-called L k e a b = by (any (λ x. same_list L x.body) P) e
    where
      by : (t : Bool) → k ≡ cond t (name_of n₁ L) entries → (is_named n₁ L ≡ true) × ((name_of n₁ L ≡ k) × (k ∈ used))
      by true e =
          let r = name-found n₁ L (λ z. omega (arith, a, e, z)) in
          (is_true (named-decides n₁ L) (r.0, r.1, r.2.1), (sym e, Memᴰ.append_left i₂ (Memᴰ.cast (e ∙ sym r.2.0) (well₁.names r.0 r.1))))
      by false e = absurd (omega (arith, b, e))

  -- a body of the second half's program that it does not call has no name there: one that both halves name is the program's
  body-uncalled : (L : List ℤ) (k : ℕ) → k ≡ called L → T (is_body P₂ L) → (1 ≤ k → largest < k) → is_named n₁ L ≡ false
  body-uncalled L k e b f = by (is_named n₁ L) refl
    where
      by : (t : Bool) → is_named n₁ L ≡ t → t ≡ false
      by false q = refl
      by true q =
          let r = named-first n₁ L q in
          let i = well₁.names r.0 r.1 in
          let own = both-bodies P v low L (subst (λ (l : List ℤ). T (is_body P₁ l)) r.2.0 (well₁.bodies r.0 r.1)) b in
          let w = (any-decides (λ x. same_list-decides x.body L) P).to own in
          let some : any (λ x. same_list L x.body) P ≡ true = is_true (any-decides (λ x. same_list-decides L x.body) P) (w.0, w.1, sym w.2) in
          let is : k ≡ r.0.name = e ∙ (ap (λ (t : Bool). cond t (name_of n₁ L) entries) some ∙ r.2.1) in
          let p = well₁.positive r.0.name i in
          let g = high_used r.0.name (Memᴰ.append_left i₂ i) in
          let o = f (omega (arith, is, p)) in
          absurd (omega (arith, o, is, g))

  module _ {introduced : List ℕ} {named : List Named} {D : List Renamed} {c : ℕ} {new shared : List ℕ} (S : Stands introduced named D c new shared) (m : ℕ) (h : m ≤ largest)
      (fresh : ¬ (m ∈ introduced)) (no : ¬ T (is_atom N m)) (long : length new ≡ entries) (room : length shared ≡ entries) (L : List ℤ)
      (W : Named-well N P₂ (m ∷ introduced) (record { name = m; body = L } ∷ named)) (b : T (is_body P₂ L)) (k : ℕ) (e : k ≡ called L) where
    marks-other : is_named n₁ L ≡ false → (y : Named) → y ∈ record { name = m; body = L } ∷ named → marked shared y.name ≡ is_among (bodies_in one) y.body
    marks-other f y i = elim (Memᴰ.cases_cons i) [ inl q ↦ rw q (S.others m fresh ∙ sym (among-is n₁ L ∙ f)) | inr j ↦ S.marks y j ]

    marked_other : (u : ℕ) → u ≢ m → marked (set shared m 1) u ≡ marked shared u
    marked_other u d = marked-set shared m u (λ q. absurd (d q)) ∙ ap (λ (t : Bool). t || marked shared u) (failed (eqb u m) ((not-decides (eqb-decides u m)).from d))

    marks-shared : is_named n₁ L ≡ true → (y : Named) → y ∈ record { name = m; body = L } ∷ named → marked (set shared m 1) y.name ≡ is_among (bodies_in one) y.body
    marks-shared f y i = elim (Memᴰ.cases_cons i) [
      | inl q ↦ rw q (marked-set shared m m (λ p. omega (arith, h, room)) ∙ (ap (λ (t : Bool). t || marked shared m) (is_true (eqb-decides m m) refl) ∙ sym (among-is n₁ L ∙ f)))
      | inr j ↦ marked_other y.name (λ q. fresh (Memᴰ.cast (sym q) (S.well.names y j))) ∙ S.marks y j
    ]

    -- a name of a body
    body-on : {new' shared' : List ℕ} {r : ℕ} → BodyNamed known₁ known₂ c new new' r shared shared' k m → r ≤ entries
        → Stands (m ∷ introduced) (record { name = m; body = L } ∷ named) (body_name N n₁ i₁ used n₁ m L D) r new' shared'
    body-on (inl (a, l, (p, s, q))) g =
        let d = body-called L k e a l in
        let C = cursor-pair D c m k c S.cursor (omega arith) (inl d.1.1) (λ j x y. absurd (omega (arith, x, y))) in
        rw (body_is N n₁ i₁ used n₁ m L D, d.0, d.1.0, p, s, q)
        (stands-pair S m h fresh long W k c (set shared m 1) l C (marks-shared d.0) (λ u f. marked_other u (λ w. f (Memᴰ.head w)) ∙ S.others u (λ w. f (Memᴰ.tail w))))
    body-on (inr (f, (o, s))) g =
        let d = body-uncalled L k e b f in
        rw (body_is N n₁ i₁ used n₁ m L D, d, s) (other-on S m h fresh long W no (marks-other d) o g)

    body-over : {new' shared' : List ℕ} {r : ℕ} → BodyNamed known₁ known₂ c new new' r shared shared' k m → c ≤ entries → entries < r
        → (is_named n₁ L ≡ false) × (new_name (body_name N n₁ i₁ used n₁ m L D) m ≡ entries)
    body-over (inl (a, l, (p, s, q))) g o = absurd (omega (arith, g, o, q))
    body-over (inr (f, (w, s))) g o =
        let d = body-uncalled L k e b f in
        (d, rw (body_is N n₁ i₁ used n₁ m L D, d) (other-over S m h fresh long W no w g o))

  -- Steps

  module _ (z : State) {D : List Renamed} {c : ℕ} {new shared : List ℕ} (S : Stands z.introduced z.named D c new shared) (long : length new ≡ entries) (room : length shared ≡ entries) where
    names-on : {t : Step} → Names N P₂ z t → Named-well N P₂ (introduced_by t z.introduced) (named_by t z.named)
    names-on {t} n = names-well N P₂ {A = ℕ} (λ a t. a) (λ i n a. Unit {0}) (λ z t a W n K. tt) z t S.well n

    not-introduced : (m : ℕ) → ¬ T (is_known N z m) → ¬ (m ∈ z.introduced)
    not-introduced m f i = f ((known-decides N z m).from (inr i))

    no-atom : (m : ℕ) → ¬ T (is_known N z m) → ¬ T (is_atom N m)
    no-atom m f t = f ((known-decides N z m).from (inl t))

    high : (x : Letter) (m : ℕ) (L : List ℤ) → LinePasses (record { letter = x; numbers = pos m ∷ L }) → m ≤ largest
    high x m L p = (good-line x (pos m ∷ L) p.0 p.1).literals.high (pos m) (Memᴰ.head refl)

    step-on : {t : Step} {new' shared' : List ℕ} {r : ℕ} → Names N P₂ z t → LinePasses t
        → LineRenamed known₁ known₂ c new new' r shared shared' P (name_of n₁) t.letter t.numbers → r ≤ entries
        → Stands (introduced_by t z.introduced) (named_by t z.named) (renamed_by N n₁ i₁ used t D) r new' shared'
    step-on (none Addition zs q) p (e, s, o) g = rw (e, s, o) S
    step-on (none Body zs q) p w g = absurd q
    step-on (none Completion zs q) p (e, s, o) g = rw (e, s, o) S
    step-on (none Deletion zs q) p (e, s, o) g = rw (e, s, o) S
    step-on (none Extension zs q) p w g = absurd q
    step-on (none Loop zs q) p (e, s, o) g = rw (e, s, o) S
    step-on (none Support zs q) p (e, s, o) g = rw (e, s, o) S
    step-on (extends m L l f) p (o, s) g =
        rw s (other-on S m (high Extension m L p) (not-introduced m f) long (names-on (extends m L l f)) (no-atom m f) S.marks o g)
    step-on (names-body m L l f b u) p o g =
        body-on S m (high Body m L p) (not-introduced m f) (no-atom m f) long room (ascending L) (names-on (names-body m L l f b u)) b (called (ascending L)) refl o g

    -- the line with the name that has no number stays in the merged proof
    pub record Lacks (t : Step) : Type 0 where
      pub name : ℕ
      pub introduces : name ∈ introduced_by t z.introduced
      pub new-name : new_name (renamed_by N n₁ i₁ used t D) name ≡ entries
      pub over : (f : ℕ → ℕ) → f name ≡ entries → (others : List Named) → all_fit (kept P (neg_ℤ (pos v)) f (bodies_in one) others t.letter t.numbers) ≡ false

    step-over : {t : Step} (new' shared' : List ℕ) (r : ℕ) → Names N P₂ z t → LinePasses t
        → LineRenamed known₁ known₂ c new new' r shared shared' P (name_of n₁) t.letter t.numbers → c ≤ entries → entries < r → Lacks t
    step-over new' shared' r (none Addition zs q) p (e, s, o) g l = absurd (omega (arith, o, g, l))
    step-over new' shared' r (none Body zs q) p w g l = absurd q
    step-over new' shared' r (none Completion zs q) p (e, s, o) g l = absurd (omega (arith, o, g, l))
    step-over new' shared' r (none Deletion zs q) p (e, s, o) g l = absurd (omega (arith, o, g, l))
    step-over new' shared' r (none Extension zs q) p w g l = absurd q
    step-over new' shared' r (none Loop zs q) p (e, s, o) g l = absurd (omega (arith, o, g, l))
    step-over new' shared' r (none Support zs q) p (e, s, o) g l = absurd (omega (arith, o, g, l))
    step-over new' shared' r (extends m L d f) p (o, s) g l = record {
      name = m;
      introduces = Memᴰ.head refl;
      new-name = other-over S m (high Extension m L p) (not-introduced m f) long (names-on (extends m L d f)) (no-atom m f) o g l;
      over = λ h e others. one-over Extension h m L e;
    }
    step-over new' shared' r (names-body m L d f b u) p o g l =
        let w = body-over S m (high Body m L p) (not-introduced m f) (no-atom m f) long room (ascending L) (names-on (names-body m L d f b u)) b (called (ascending L)) refl o g l in
        record {
          name = m;
          introduces = Memᴰ.head refl;
          new-name = w.1;
          over = λ h e others. rw (among-is n₁ (ascending L) ∙ w.0) (one-over (cond (is_body P (ascending L)) Body Extension) h m L e);
        }

  -- All of them

  -- the walk stands at a position of the text
  pub record Walked (at c : ℕ) (new shared : List ℕ) : Type 0 where
    pub z : State
    pub left : List Step
    pub pairs : List Renamed
    pub place : Left text at left
    pub runs : Steps.steps N P₂ z left ≡ next z₂
    pub renames : renaming N n₁ i₁ used pairs left ≡ renaming N n₁ i₁ used [] two
    pub names-left : named_in z.named left ≡ named_in [] two
    pub among : (t : Step) → t ∈ left → t ∈ two
    pub stands : Stands z.introduced z.named pairs c new shared

  pub walked_start : (new shared : List ℕ) → ((u : ℕ) → u ≤ largest → get_or new u 0 ≡ u) → ((u : ℕ) → marked shared u ≡ false) → Walked 0 (N + 1) new shared
  walked_start new shared f g = record {
    z = start;
    left = two;
    pairs = [];
    place = left-start text H.read;
    runs = H.second;
    renames = refl;
    names-left = refl;
    among = λ t m. m;
    stands = record {
      well = start-well N P₂;
      olds = λ p m. elim m [ ];
      cursor = record { above = omega arith; given = λ p m. elim m [ ]; taken = λ j a b. absurd (omega (arith, a, b)) };
      is = f;
      within = λ u l. l;
      marks = λ y m. elim m [ ];
      others = λ u d. g u;
    };
  }

  -- at the end
  walked_end : {at c : ℕ} {new shared : List ℕ} (K : Walked at c new shared) → length new ≡ entries → K.left ≡ [] → NewNames N one two new shared
  walked_end {new = new} {shared} K long e =
      let r : K.pairs ≡ renaming N n₁ i₁ used [] two = rw e at K.renames in
      let n : K.z.named ≡ named_in [] two = rw e at K.names-left in
      record {
        names = λ u l. K.stands.is u l ∙ ap (λ (D : List Renamed). new_name D u) r;
        within = λ u. elim (answered (leb u largest)) [
          | inl t ↦ let l = (leb-decides u largest).to t in rw (K.stands.is u l) (K.stands.within u l)
          | inr t ↦ let l = (not-decides (leb-decides u largest)).to t in rw (blank-past new u (omega (arith, l, long))) (omega arith)
        ];
        marks = λ y m. K.stands.marks y (subst (λ (l : List Named). y ∈ l) (sym n) m);
      }

  -- a step more
  module _ {at c : ℕ} {new shared : List ℕ} (K : Walked at c new shared) (long : length new ≡ entries) (room : length shared ≡ entries) (t : Step) (ts : List Step) (e : K.left ≡ t ∷ ts)
      (new' shared' : List ℕ) (r : ℕ) (w : LineRenamed known₁ known₂ c new new' r shared shared' P (name_of n₁) t.letter t.numbers) where
    here : Steps.steps N P₂ K.z (t ∷ ts) ≡ next z₂
    here = subst (λ (l : List Step). Steps.steps N P₂ K.z l ≡ next z₂) e K.runs

    passes : LinePasses t
    passes = steps-pass N P₂ K.z z₂ (t ∷ ts) here t (Memᴰ.head refl)

    first : (z' : State) × (Steps.steps N P₂ z' ts ≡ next z₂) × Does N P₂ K.z t z'
    first = first_step N P₂ K.z z₂ t ts here

    walked_on : (next-at : ℕ) → Left text next-at ts → r ≤ entries → Walked next-at r new' shared'
    walked_on next-at l g = record {
      z = first.0;
      left = ts;
      pairs = renamed_by N n₁ i₁ used t K.pairs;
      place = l;
      runs = first.1;
      renames = subst (λ (l : List Step). renaming N n₁ i₁ used K.pairs l ≡ renaming N n₁ i₁ used [] two) e K.renames;
      names-left = rw first.2.1 (subst (λ (l : List Step). named_in K.z.named l ≡ named_in [] two) e K.names-left);
      among = λ s m. K.among s (subst (λ (l : List Step). s ∈ l) (sym e) (Memᴰ.tail m));
      stands = rw (first.2.0, first.2.1) (step-on K.z K.stands long room first.2.2 passes w g);
    }

    walked-over : c ≤ entries → entries < r → all_fit (half P (neg_ℤ (pos v)) (second_names N one two) (bodies_in one) [] two) ≡ false
    walked-over g o =
        let x = step-over K.z K.stands long room new' shared' r first.2.2 passes w g o in
        let same = subst (λ (l : List Step). renaming N n₁ i₁ used K.pairs l ≡ renaming N n₁ i₁ used [] two) e K.renames in
        let W = names-on K.z K.stands long room first.2.2 in
        let u = later_same N n₁ i₁ used x.name P₂ entries ts first.0 z₂ (renamed_by N n₁ i₁ used t K.pairs) (rw (first.2.0, first.2.1) W) first.1 (rw first.2.0 x.introduces) x.new-name in
        over-half P (neg_ℤ (pos v)) (second_names N one two) (bodies_in one) t (x.over (second_names N one two) (ap (λ (D : List Renamed). new_name D x.name) (sym same) ∙ u)) two []
        (K.among t (subst (λ (l : List Step). t ∈ l) (sym e) (Memᴰ.head refl)))

  -- A turn of the walk, by what stands at the position

  module _ {at c : ℕ} {new shared : List ℕ} (K : Walked at c new shared) (long : length new ≡ entries) (room : length shared ≡ entries) (few : c ≤ entries) (new' shared' : List ℕ) where
    abbrev Turned : LineAt → RenameTurn → Type 0
    Turned = TurnRenamed known₁ known₂ c new new' shared shared' P (name_of n₁)

    pub turn-ends : {r : RenameTurn} → r ≡ Ends → Turned (line_at text at) r → NewNames N one two new' shared'
    turn-ends e t = by (line_at text at) (left_by text K.place) (subst (Turned (line_at text at)) e t)
      where
        never : (n k : ℕ) (b : Bool) → Ends ≡ cond b Over (Goes n k) → ⊥
        never n k true e = zero_one (cc)
        never n k false e = zero_one (cc)

        by : (l : LineAt) → LeftBy text K.left l → Turned l Ends → NewNames N one two new' shared'
        by end q (e, a, b) = rw (a, b) (walked_end K long q)
        by (Lines.refused k) q t = absurd q
        by (line x zs n) q (k, e, w) = absurd (never n k (ltb entries k) e)

    pub turn-over : {r : RenameTurn} → r ≡ Over → Turned (line_at text at) r → all_fit (half P (neg_ℤ (pos v)) (second_names N one two) (bodies_in one) [] two) ≡ false
    turn-over e t = by (line_at text at) (left_by text K.place) (subst (Turned (line_at text at)) e t)
      where
        is-over : (n k : ℕ) (b : Bool) → ltb entries k ≡ b → Over ≡ cond b Over (Goes n k) → entries < k
        is-over n k true q e = ltb-true entries k q
        is-over n k false q e = absurd (zero_one (cc))

        by : (l : LineAt) → LeftBy text K.left l → Turned l Over → all_fit (half P (neg_ℤ (pos v)) (second_names N one two) (bodies_in one) [] two) ≡ false
        by end q (e, a, b) = absurd (zero_one (cc))
        by (Lines.refused k) q t = absurd q
        by (line x zs n) (us, q, l) (k, e, w) = walked-over K long room (record { letter = x; numbers = zs }) us q new' shared' k w few (is-over n k (ltb entries k) refl e)

    pub turn_on : {r : RenameTurn} (n m : ℕ) → r ≡ Goes n m → Turned (line_at text at) r → Walked n m new' shared'
    turn_on n m e t = by (line_at text at) (left_by text K.place) (subst (Turned (line_at text at)) e t)
      where
        goes : (i k : ℕ) (b : Bool) → ltb entries k ≡ b → Goes n m ≡ cond b Over (Goes i k) → (n ≡ i) × ((m ≡ k) × (k ≤ entries))
        goes i k true q e = absurd (zero_one (cc))
        goes i k false q e = (cc, (cc, ltb-false entries k q))

        by : (l : LineAt) → LeftBy text K.left l → Turned l (Goes n m) → Walked n m new' shared'
        by end q (e, a, b) = absurd (zero_one (cc))
        by (Lines.refused k) q t = absurd q
        by (line x zs i) (us, q, l) (k, e, w) =
            let g = goes i k (ltb entries k) refl e in
            rw (g.0, g.1.0) (walked_on K long room (record { letter = x; numbers = zs }) us q new' shared' k w i l g.1.1)

-- what a turn that goes on is within
pub turn-bounds : (at size n c : ℕ) {r : RenameTurn} → at < n → n ≤ size → r ≡ rename_turn n c → TurnBounds at size r
turn-bounds at size n c a b e = subst (TurnBounds at size) (sym e) (by (ltb entries c) refl)
  where
    by : (t : Bool) → ltb entries c ≡ t → TurnBounds at size (cond t Over (Goes n c))
    by true q = tt
    by false q = (a, b, ltb-false entries c q)
