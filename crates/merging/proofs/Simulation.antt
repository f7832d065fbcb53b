-- The lines of a half, as they stand in the merged proof, are accepted and filter the relation of Relation.antt. Assumes nothing.
use mathlib.Core.Path.{◌≡◌, refl, sym, ap, ap₂, ◌∙◌, subst}
use mathlib.Core.Logic.{◌⊎◌, inl, inr, ◌≢◌}
use mathlib.Core.Bool.{Bool, true, false, cond, not, true≢false}
use mathlib.Core.List.Memᴰ
use mathlib.Core.List.{List, [], ◌∷◌, ◌++◌, map}
use Prim.Native.Nat.{ℕ, suc, ◌≤◌}
use lib.Dec.{T, T_not}
use lib.IntN.{ℤ, pos, negsuc, neg_ℤ}
use Rattle.words.specs.Lists.{◌∈◌, all}
use Rattle.words.specs.Literals.{variable, complement, has, distinct, ascending}
use Rattle.words.proofs.Lists.{each-cons, zero_one, itself, passed, failed, is_true, and-decides, not-decides, if-decides, any-decides, all-decides, keep→, keep←, drop_first→}
use Rattle.words.proofs.Literals.{same_list-decides, has-decides, complement-twice, same-variable, ascending→, ascending←}
use Rattle.words.proofs.Places.{distinct-last}
use Rattle.text.specs.declared.Letter.{Letter}
use Rattle.text.specs.declared.Letter.TheVariants.{Addition, Body, Completion, Deletion, Extension, Loop, Support}
use Rattle.aspif.specs.Rules.{Rule, plain_atoms}
use Rattle.drupe.specs.Lines.{is_positive, signs_of, signed}
use Rattle.derivation.specs.Propagation.{Conflict, refuted}
use Rattle.derivation.specs.Loops.{is_loop}
use Rattle.derivation.specs.States.{Named, State, is_atom, is_known, is_name, has_name}
use Rattle.drupe.specs.Texts.{Step}
use Rattle.derivation.specs.Steps.{Outcome, refused, next, add, definition, define, is_external, all_known, is_unnamed_body, is_completion, is_support, external_names, all_atoms, all_named, naming, citing, by_letter, step, steps}
use Rattle.derivation.specs.Steps as Steps
use Rattle.derivation.proofs.Closure.{refuted-decides}
use Rattle.derivation.proofs.Invariant.{AllKnown, AllAtoms}
use Rattle.derivation.proofs.Questions.{positive-is, head-atom, body-atom, known-decides, all_known-decides, atom-known, name-decides, has_name-decides, Completes, completion-decides}
use Rattle.derivation.proofs.Outcomes.{Then, if_yes, if_no, if-line, if-citing, if-naming}
use Rattle.merging.specs.Merge.{demand, demanding, renamed, named_by, is_body, is_among, one, kept, half, fits, all_fit}
use Rattle.merging.specs.Merge as Merge
use Rattle.merging.proofs.Propagates.{Covered, conflict-follows, renamed-complement, renamed-variable}
use Rattle.merging.proofs.Lines.{cond_cases, line-passes, signed-renamed, renamed-nonzero, distinct-renamed, steps-append, fit_append}
use Rattle.merging.proofs.Relation.{demanding-atoms, loop-same, Defines, Within, definition-defines, covered_same, Setting, Bodies, Follows, bodies-more, half-adds, both-add, both-define, half-defines}
use Rattle.drupe.specs.declared.ProofFault.TheVariants.{Malformed, WrongSigns, UnknownVariable, KnownName, NoUnnamedBody, NoCompletion, NoSupport, NoAtoms, UnnamedBody, NoConflict, NoLoop}

-- Booleans

first : {A : Type 0} (b : Bool) (o p : A) → b ≡ true → cond b o p ≡ o
first true o p e = refl
first false o p e = absurd (true≢false (sym e))

second : {A : Type 0} (b : Bool) (o p : A) → b ≡ false → cond b o p ≡ p
second true o p e = absurd (true≢false e)
second false o p e = refl

unsigned : (K : List ℤ) → T (signed (signs_of Addition) K)
unsigned [] = tt
unsigned (y ∷ K) = tt

module _ (N : ℕ) (P : List Rule) (small : plain_atoms P ≤ N) (x : ℤ) (f : ℕ → ℕ) (shared : List (List ℤ)) (base : State) (names : List ℕ) (S : Setting N x f names) where
  -- What is asked of each line that introduces a name: that the half's names are `names`, and that a new name is new
  abbrev pub Introduces : Letter → List ℤ → Type 0
  Introduces Body [] = Unit {0}
  Introduces Body (n ∷ L) =
      (variable n ∈ names)
      × ((T (is_among shared (ascending L)) × (record { name = f (variable n); body = ascending L } ∈ base.named) × (f (variable n) ∈ base.introduced))
      ⊎ (T (not (is_among shared (ascending L))) × (¬ (f (variable n) ∈ base.introduced)) × ((y : Named) → y ∈ base.named → y.body ≢ ascending L)))
  Introduces Extension [] = Unit {0}
  Introduces Extension (n ∷ L) = (variable n ∈ names) × (¬ (f (variable n) ∈ base.introduced))
  Introduces Addition zs = Unit {0}
  Introduces Completion zs = Unit {0}
  Introduces Deletion zs = Unit {0}
  Introduces Loop zs = Unit {0}
  Introduces Support zs = Unit {0}

  -- Atoms

  renamed-atom : (y : ℤ) → T (is_atom N (variable y)) → renamed f y ≡ y
  renamed-atom (pos n) t = ap pos (S.atoms-stay n t)
  renamed-atom (negsuc n) t = ap (λ v. neg_ℤ (pos v)) (S.atoms-stay (suc n) t)

  map-atoms : (L : List ℤ) → AllAtoms N L → map (renamed f) L ≡ L
  map-atoms [] a = refl
  map-atoms (y ∷ L) a = ap₂ (λ k l. k ∷ l) (renamed-atom y (a y (Memᴰ.head refl))) (map-atoms L (λ k m. a k (Memᴰ.tail m)))

  module _ (z w : State) (F : Follows P x f base names z w) where
    -- Known variables

    known-follows : (v : ℕ) → T (is_known N z v) → T (is_known N w (f v))
    known-follows v t = elim ((known-decides N z v).to t) [
      | inl a ↦ (known-decides N w (f v)).from (inl (rw (S.atoms-stay v a) a))
      | inr m ↦ (known-decides N w (f v)).from (inr (F.known v m))
    ]

    all_known_lem : (L : List ℤ) → AllKnown N z L → AllKnown N w (map (renamed f) L)
    all_known_lem L a y m =
        let q = Memᴰ.of_map (renamed f) L m in
        rw (← q.2, renamed-variable f q.0) (known-follows (variable q.0) (a q.0 q.1))

    -- the names of the half and the atoms stay apart
    ours-apart : (u v : ℕ) → T (is_atom N u) ⊎ (u ∈ names) → T (is_atom N v) ⊎ (v ∈ names) → f u ≡ f v → u ≡ v
    ours-apart u v (inl a) (inl b) e = sym (S.atoms-stay u a) ∙ (e ∙ S.atoms-stay v b)
    ours-apart u v (inl a) (inr m) e = absurd (S.above v m (subst (λ k. T (is_atom N k)) (sym (S.atoms-stay u a) ∙ e) a))
    ours-apart u v (inr m) (inl b) e = absurd (S.above u m (subst (λ k. T (is_atom N k)) (sym (S.atoms-stay v b) ∙ sym e) b))
    ours-apart u v (inr m) (inr n) e = S.apart u v m n e

    known-ours : (v : ℕ) → T (is_known N z v) → T (is_atom N v) ⊎ (v ∈ names)
    known-ours v t = elim ((known-decides N z v).to t) [ inl a ↦ inl a | inr m ↦ inr (F.inside v m) ]

    once-renamed : (L : List ℤ) → ((y : ℤ) → y ∈ L → T (is_atom N (variable y)) ⊎ (variable y ∈ names)) → T (distinct L) → T (distinct (map (renamed f) L))
    once-renamed L a t = distinct-renamed f L (λ i j m n e. ours-apart (variable i) (variable j) (a i m) (a j n) e) t

    -- Results

    -- the lines are accepted, and lead to a state that follows z'
    abbrev pub Goes : State → List Step → Type 0
    Goes z' ts = T (all_fit ts) → (w' : State) × (steps N P w ts ≡ next w') × Follows P x f base names z' w'

    nothing-goes : (z' : State) → Follows P x f base names z' w → Goes z' []
    nothing-goes z' G t = (w, refl, G)

    one-goes : (z' w' : State) (c : Letter) (zs : List ℤ) → ¬ (pos 0 ∈ zs) → T (signed (signs_of c) zs) → T (distinct zs) → by_letter N P w c zs ≡ next w'
        → Follows P x f base names z' w' → Goes z' (one c zs)
    one-goes z' w' c zs nz s u e G t =
        let q : step N P w (record { letter = c; numbers = zs }) ≡ next w' = line-passes N P w c zs nz ((and-decides (itself (fits (record { letter = c; numbers = zs }))) (itself true)).to t).0 s u ∙ e in
        (w', ap (λ (o : Outcome). elim o [ refused k ↦ refused k | next z' ↦ steps N P z' [] ]) q, G)

    citing-passes : (L : List ℤ) (o : Outcome) → AllKnown N w L → citing N w L o ≡ o
    citing-passes L o a = first (all_known N w L) o (refused UnknownVariable) (is_true (all_known-decides N w L) a)

    naming-passes : (n : ℤ) (L : List ℤ) (o : Outcome) → AllKnown N w L → ¬ T (is_known N w (variable n)) → naming N w n L o ≡ o
    naming-passes n L o a u =
        first (all_known N w L) _ (refused UnknownVariable) (is_true (all_known-decides N w L) a)
        ∙ second (is_known N w (variable n)) (refused KnownName) o (failed (is_known N w (variable n)) ((not-decides (itself (is_known N w (variable n)))).from u))

    -- Additions

    addition-goes : (L : List ℤ) → ¬ (pos 0 ∈ L) → T (distinct L) → AllKnown N z L → Conflict z.live L
        → Goes (add z (ascending L ∷ [])) (kept P x f shared z.named Addition L)
    addition-goes L nz t a c = cond_cases (Goes z') (has (complement x) (map (renamed f) L)) skipped widens
      where
        z' : State
        z' = add z (ascending L ∷ [])

        sorted : (k : ℤ) → k ∈ map (renamed f) L → k ∈ map (renamed f) (ascending L)
        sorted k m = let q = Memᴰ.of_map (renamed f) L m in Memᴰ.cast (sym q.2) (Memᴰ.map (renamed f) (ascending← L q.1))

        skipped : T (has (complement x) (map (renamed f) L)) → Goes z' []
        skipped u = nothing-goes z' (half-adds P x f base names F (ascending L) (inl (sorted (complement x) ((has-decides (complement x) (map (renamed f) L)).to u))))

        -- a line with the half's literal, and otherwise the literals of L
        with-literal : (K : List ℤ) → ((y : ℤ) → y ∈ map (renamed f) L → y ∈ K) → x ∈ K → ((k : ℤ) → k ∈ K → (k ≡ x) ⊎ (k ∈ map (renamed f) L)) → T (distinct K)
            → Goes z' (one Addition K)
        with-literal K there here from once =
            one-goes z' (add w (ascending K ∷ [])) Addition K nonzero (unsigned K) once
            (citing-passes K _ known ∙ first (refuted w.live K) _ (refused NoConflict) (is_true (refuted-decides w.live K) conflict))
            (both-add P x f base names F (ascending L) (ascending K) (λ k u. elim (from k (ascending→ K u)) [ inl e ↦ inl e | inr v ↦ inr (sorted k v) ]))
          where
            x-nonzero : x ≢ pos 0
            x-nonzero e = subst (λ (y : ℤ). T (is_atom N (variable y))) e S.split

            nonzero : ¬ (pos 0 ∈ K)
            nonzero m = elim (from (pos 0) m) [ inl e ↦ x-nonzero (sym e) | inr u ↦ renamed-nonzero f S.positive-stays L nz u ]

            known : AllKnown N w K
            known k m = elim (from k m) [ inl e ↦ rw e (atom-known N w (variable x) S.split) | inr u ↦ all_known_lem L a k u ]

            conflict : Conflict w.live K
            conflict = conflict-follows f x S.zero-stays z.live w.live F.live L K (λ y m. there (renamed f y) (Memᴰ.map (renamed f) m)) here c

        once : T (distinct (map (renamed f) L))
        once = once-renamed L (λ y m. known-ours (variable y) (a y m)) t

        widens : T (not (has (complement x) (map (renamed f) L))) → Goes z' (one Addition (Merge.widened x (map (renamed f) L)))
        widens u =
            cond_cases (λ K. Goes z' (one Addition K)) (has x (map (renamed f) L))
            (λ h. with-literal _ (λ y m. m) ((has-decides x (map (renamed f) L)).to h) (λ k m. inr m) once)
            (λ h. with-literal _ (λ y m. Memᴰ.append_left _ m) (Memᴰ.append_right (map (renamed f) L) (Memᴰ.head refl)) ends
            ((passed _).from (distinct-last (map (renamed f) L) x ((passed _).to once) (apart h))))
          where
            ends : (k : ℤ) → k ∈ map (renamed f) L ++ (x ∷ []) → (k ≡ x) ⊎ (k ∈ map (renamed f) L)
            ends k m = elim (Memᴰ.append_cases (map (renamed f) L) m) [ inl v ↦ inr v | inr v ↦ inl (Memᴰ.eq_of_singleton v) ]

            apart : T (not (has x (map (renamed f) L))) → (k : ℤ) → k ∈ map (renamed f) L → ¬ (variable k ≡ variable x)
            apart h k m q = elim (same-variable k x q) [
              | inl e ↦ (not-decides (has-decides x (map (renamed f) L))).to h (Memᴰ.cast (sym e) m)
              | inr e ↦ (not-decides (has-decides (complement x) (map (renamed f) L))).to u (Memᴰ.cast (sym e) m)
            ]

    -- Deletions

    deletion-goes : (live : List (List ℤ)) → ((h : List ℤ) → h ∈ live → h ∈ z.live) → Goes (record { live = live; introduced = z.introduced; named = z.named }) []
    deletion-goes live s = nothing-goes _ (record { live = λ h m. F.live h (s h m); old = F.old; past = F.past; inside = F.inside; known = F.known; only = F.only; bodies = F.bodies })

    -- Definitions

    module _ (m : ℕ) (L : List ℤ) (in-names : m ∈ names) (nz : ¬ (pos 0 ∈ pos m ∷ L)) (once : T (distinct (pos m ∷ L)))
        (known : AllKnown N z L) (unknown : ¬ T (is_known N z m)) where
      -- the new name's definition, in the merged proof
      abbrev live' : List (List ℤ)
      live' = w.live ++ definition (pos (f m)) (map (renamed f) L)

      in_left : Within w.live live'
      in_left g u = Memᴰ.append_left (definition (pos (f m)) (map (renamed f) L)) u

      fresh : ¬ (f m ∈ base.introduced) → ¬ T (is_known N w (f m))
      fresh d t = elim ((known-decides N w (f m)).to t) [ inl a ↦ S.above m in-names a | inr i ↦ by (F.only (f m) i) ]
        where
          by : (f m ∈ base.introduced) ⊎ ((u : ℕ) × (u ∈ z.introduced) × (f u ≡ f m)) → ⊥
          by (inl i) = d i
          by (inr q) = unknown ((known-decides N z m).from (inr (Memᴰ.cast (sym (S.apart q.0 m (F.inside q.0 q.1) in-names q.2)) q.1)))

      line-once : T (distinct (map (renamed f) (pos m ∷ L)))
      line-once = once-renamed (pos m ∷ L) (λ y u. ours y (Memᴰ.cases_cons u)) once
        where
          ours : (y : ℤ) → (y ≡ pos m) ⊎ (y ∈ L) → T (is_atom N (variable y)) ⊎ (variable y ∈ names)
          ours y (inl e) = rw e (inr in-names)
          ours y (inr u) = known-ours (variable y) (known y u)

      defining-goes : (c : Letter) (named named' : List Named) → T (signed (signs_of c) (map (renamed f) (pos m ∷ L)))
          → ¬ (f m ∈ base.introduced)
          → by_letter N P w c (map (renamed f) (pos m ∷ L)) ≡ naming N w (pos (f m)) (map (renamed f) L) (next (define w (pos (f m)) (map (renamed f) L) named'))
          → Bodies P x f base names named named' live' → Goes (define z (pos m) L named) (one c (map (renamed f) (pos m ∷ L)))
      defining-goes c named named' s d e b =
          one-goes _ (define w (pos (f m)) (map (renamed f) L) named') c (map (renamed f) (pos m ∷ L)) (renamed-nonzero f S.positive-stays (pos m ∷ L) nz) s line-once
          (e ∙ naming-passes (pos (f m)) (map (renamed f) L) _ (all_known_lem L known) (fresh d))
          (both-define P x f base names S F m L in-names named named' b)

      extension-goes : T (signed (signs_of Extension) (pos m ∷ L)) → ¬ (f m ∈ base.introduced)
          → Goes (define z (pos m) L z.named) (kept P x f shared z.named Extension (pos m ∷ L))
      extension-goes s d =
          defining-goes Extension z.named w.named (signed-renamed f S.positive-stays Extension (pos m ∷ L) s) d refl (bodies-more P x f base names in_left F.bodies)

      -- a rule body
      module _ (atoms : AllAtoms N L) (unnamed : ¬ T (has_name z (ascending L))) where
        abbrev new : Named
        new = record { name = m; body = ascending L }

        abbrev new' : Named
        new' = record { name = f m; body = ascending L }

        stays : (y : ℤ) → y ∈ L → renamed f y ≡ y
        stays y u = renamed-atom y (atoms y u)

        -- what defines the name covers the unit nogood of the added constraint's body
        unit-covered : {live : List (List ℤ)} → Defines live (f m) (ascending L) → ascending L ≡ complement x ∷ [] → Covered f x live (pos m ∷ [])
        unit-covered d e =
            let q = d.short (complement x) (rw e (Memᴰ.head refl)) in
            inr (q.0, q.1, λ k u. elim (q.2 k u) [ inl p ↦ inr (Memᴰ.head p) | inr p ↦ inl (p ∙ complement-twice x) ])

        -- the half alone names the body
        half-names : {live : List (List ℤ)} → (T (is_body P (ascending L)) → new' ∈ w.named) → Defines live (f m) (ascending L) → Bodies P x f base names z.named w.named live
            → Bodies P x f base names (new ∷ z.named) w.named live
        half-names i d b = record {
          kept = each-cons {P = λ y. T (is_body P y.body) → record { name = f y.name; body = y.body } ∈ w.named} i b.kept;
          once = b.once;
          of = λ y u. elim (b.of y u) [ inl v ↦ inl v | inr q ↦ inr (q.0, Memᴰ.tail q.1, q.2) ];
          before = b.before;
          added = each-cons {P = λ y. y.body ≡ complement x ∷ [] → Covered f x _ (pos y.name ∷ [])} (unit-covered d) b.added;
          meant = b.meant;
        }

        nobody : ((y : Named) → y ∈ base.named → y.body ≢ ascending L) → (y : Named) → y ∈ w.named → y.body ≢ ascending L
        nobody d y u e = elim (F.bodies.of y u) [
          | inl v ↦ d y v e
          | inr q ↦ unnamed ((has_name-decides z (ascending L)).from (q.0, q.1, q.2 ∙ e))
        ]

        both-name : {live : List (List ℤ)} → ((y : Named) → y ∈ w.named → y.body ≢ ascending L) → Defines live (f m) (ascending L) → Bodies P x f base names z.named w.named live
            → Bodies P x f base names (new ∷ z.named) (new' ∷ w.named) live
        both-name {live} d e b = record {
          kept = each-cons {P = λ y. T (is_body P y.body) → record { name = f y.name; body = y.body } ∈ new' ∷ w.named} (λ t. Memᴰ.head refl) (λ y u t. Memᴰ.tail (b.kept y u t));
          once = λ y u i j. once_more y u (Memᴰ.cases_cons i) (Memᴰ.cases_cons j);
          of = λ y u. of-more y (Memᴰ.cases_cons u);
          before = λ y u. Memᴰ.tail (b.before y u);
          added = each-cons {P = λ y. y.body ≡ complement x ∷ [] → Covered f x live (pos y.name ∷ [])} (unit-covered e) b.added;
          meant = λ y u. meant-more y (Memᴰ.cases_cons u);
        }
          where
            once_more : (y u : Named) → (y ≡ new') ⊎ (y ∈ w.named) → (u ≡ new') ⊎ (u ∈ w.named) → y.body ≡ u.body → y.name ≡ u.name
            once_more y u (inl p) (inl q) h = rw (p, q) refl
            once_more y u (inl p) (inr j) h = absurd (d u j (sym h ∙ ap (λ (k : Named). k.body) p))
            once_more y u (inr i) (inl q) h = absurd (d y i (h ∙ ap (λ (k : Named). k.body) q))
            once_more y u (inr i) (inr j) h = b.once y u i j h

            of-more : (y : Named) → (y ≡ new') ⊎ (y ∈ w.named) → (y ∈ base.named) ⊎ ((u : Named) × (u ∈ new ∷ z.named) × (u.body ≡ y.body))
            of-more y (inl p) = inr (new, Memᴰ.head refl, rw p refl)
            of-more y (inr i) = elim (b.of y i) [ inl v ↦ inl v | inr q ↦ inr (q.0, Memᴰ.tail q.1, q.2) ]

            meant-more : (y : Named) → (y ≡ new') ⊎ (y ∈ w.named) → Defines live y.name y.body
            meant-more y (inl p) = rw p e
            meant-more y (inr i) = b.meant y i

        -- the body's literals are atoms, which filter their numbers
        same-list : map (renamed f) L ≡ L
        same-list = map-atoms L atoms

        defines : Defines live' (f m) (ascending L)
        defines = subst (λ (l : List ℤ). Defines live' (f m) (ascending l)) same-list (definition-defines live' (f m) (map (renamed f) L) (λ h u. Memᴰ.append_right w.live u))

        body-goes : T (signed (signs_of Body) (pos m ∷ L))
            → ((T (is_among shared (ascending L)) × (new' ∈ base.named) × (f m ∈ base.introduced))
            ⊎ (T (not (is_among shared (ascending L))) × (¬ (f m ∈ base.introduced)) × ((y : Named) → y ∈ base.named → y.body ≢ ascending L)))
            → Goes (define z (pos m) L (new ∷ z.named)) (kept P x f shared z.named Body (pos m ∷ L))
        body-goes s (inl (t, i, j)) =
            subst (Goes _) (sym (first (is_among shared (ascending L)) [] _ ((passed _).to t)))
            (nothing-goes _ (half-defines P x f base names S F m L in-names (new ∷ z.named) stays (F.bodies.meant new' (F.bodies.before new' i)) (F.past (f m) j)
            (half-names (λ u. F.bodies.before new' i) (F.bodies.meant new' (F.bodies.before new' i)) F.bodies)))
        body-goes s (inr (t, i, j)) =
            subst (Goes _) (sym (second (is_among shared (ascending L)) [] _ (failed _ t)))
            (cond_cases (λ c. Goes (define z (pos m) L (new ∷ z.named)) (one c (map (renamed f) (pos m ∷ L)))) (is_body P (ascending L))
            (λ u. defining-goes Body (new ∷ z.named) (record { name = f m; body = ascending (map (renamed f) L) } ∷ w.named) signs i (ap (naming N w (pos (f m)) (map (renamed f) L)) (named_here u))
            (subst (λ (l : List ℤ). Bodies P x f base names (new ∷ z.named) (record { name = f m; body = ascending l } ∷ w.named) live') (sym same-list)
            (both-name (nobody j) defines (bodies-more P x f base names in_left F.bodies))))
            (λ u. defining-goes Extension (new ∷ z.named) w.named signs i refl (half-names (λ v. absurd (T_not (is_body P (ascending L)) u v)) defines (bodies-more P x f base names in_left F.bodies))))
          where
            signs : T (signed (signs_of Body) (map (renamed f) (pos m ∷ L)))
            signs = signed-renamed f S.positive-stays Body (pos m ∷ L) s

            named_here : T (is_body P (ascending L)) → Steps.body P w (pos (f m)) (map (renamed f) L) ≡ next (define w (pos (f m)) (map (renamed f) L) (record { name = f m; body = ascending (map (renamed f) L) } ∷ w.named))
            named_here u = first (is_unnamed_body P w (map (renamed f) L)) _ (refused NoUnnamedBody) ((passed _).to (subst (λ (l : List ℤ). T (is_unnamed_body P w l)) (sym same-list) there))
              where
                there : T (is_unnamed_body P w L)
                there = (and-decides (itself (is_body P (ascending L))) (not-decides (has_name-decides w (ascending L)))).from (u, λ q. nobody j q.0 q.1 q.2)

    -- Completions, supports and loops

    -- a rule of the program is one of the half's; and one of the half's with a head is the program's
    ours_in : {q : Rule} → q ∈ P → q ∈ demanding P x
    ours_in m = Memᴰ.append_left (demand x ∷ []) m

    with-head : (q : Rule) → q ∈ demanding P x → {h : ℤ} → h ∈ q.heads → q ∈ P
    with-head q m {h} u = elim (Memᴰ.append_cases P m) [ inl v ↦ v | inr v ↦ absurd (none (Memᴰ.eq_of_singleton v)) ]
      where
        none : q ≡ demand x → ⊥
        none e = elim (subst (λ (k : Rule). h ∈ k.heads) e u) [ ]

    is_body_lem : (q : Rule) → q ∈ P → T (is_body P q.body)
    is_body_lem q m = (any-decides (λ k. same_list-decides k.body q.body) P).from (q, m, refl)

    name-follows : (n : ℤ) (q : Rule) → q ∈ P → T (is_name z (variable n) q.body) → T (is_name w (variable (renamed f n)) q.body)
    name-follows n q m t =
        let u = (name-decides z (variable n) q.body).to t in
        (name-decides w (variable (renamed f n)) q.body).from (
          record { name = f u.0.name; body = u.0.body },
          F.bodies.kept u.0 u.1 (subst (λ (l : List ℤ). T (is_body P l)) (sym u.2.1) (is_body_lem q m)),
          (ap f u.2.0 ∙ sym (renamed-variable f n), u.2.1),
        )

    -- a number and the complements of others, under new names
    complements-from : (n : ℤ) (hs : List ℤ) (k : ℤ) → k ∈ ascending (renamed f n ∷ map complement (map (renamed f) hs)) → k ∈ map (renamed f) (ascending (n ∷ map complement hs))
    complements-from n hs k m = by (Memᴰ.cases_cons (ascending→ (renamed f n ∷ map complement (map (renamed f) hs)) m))
      where
        by : (k ≡ renamed f n) ⊎ (k ∈ map complement (map (renamed f) hs)) → k ∈ map (renamed f) (ascending (n ∷ map complement hs))
        by (inl e) = Memᴰ.cast e (Memᴰ.map (renamed f) (ascending← (n ∷ map complement hs) (Memᴰ.head refl)))
        by (inr u) =
            let a = Memᴰ.of_map complement (map (renamed f) hs) u in
            let b = Memᴰ.of_map (renamed f) hs a.1 in
            Memᴰ.cast (sym a.2 ∙ (ap complement (sym b.2) ∙ sym (renamed-complement f S.zero-stays b.0)))
            (Memᴰ.map (renamed f) (ascending← (n ∷ map complement hs) (Memᴰ.tail (Memᴰ.map complement b.1))))

    -- a line that cites known variables only
    citing-goes : (c : Letter) (zs : List ℤ) (g h : List ℤ) → ¬ (pos 0 ∈ zs) → T (signed (signs_of c) zs) → T (distinct zs) → AllKnown N z zs
        → by_letter N P w c (map (renamed f) zs) ≡ citing N w (map (renamed f) zs) (next (add w (h ∷ [])))
        → ((k : ℤ) → k ∈ h → k ∈ map (renamed f) g) → Goes (add z (g ∷ [])) (one c (map (renamed f) zs))
    citing-goes c zs g h nz s t a e from =
        one-goes _ (add w (h ∷ [])) c (map (renamed f) zs) (renamed-nonzero f S.positive-stays zs nz) (signed-renamed f S.positive-stays c zs s)
        (once-renamed zs (λ y m. known-ours (variable y) (a y m)) t) (e ∙ citing-passes (map (renamed f) zs) _ (all_known_lem zs a))
        (both-add P x f base names F g h (λ k u. inr (from k u)))

    completion-goes : (n : ℤ) (hs : List ℤ) → ¬ (pos 0 ∈ n ∷ hs) → T (signed (signs_of Completion) (n ∷ hs)) → T (distinct (n ∷ hs)) → T (is_positive n) → AllKnown N z (n ∷ hs)
        → Completes (demanding P x) z n hs → Goes (add z (ascending (n ∷ map complement hs) ∷ [])) (kept P x f shared z.named Completion (n ∷ hs))
    completion-goes n hs nz s t p a c = cond_cases (Goes (add z (ascending (n ∷ map complement hs) ∷ []))) (is_completion P z n hs) (λ u. stays ((completion-decides P z n hs).to u)) (λ u. goes u)
      where
        stays : Completes P z n hs → Goes (add z (ascending (n ∷ map complement hs) ∷ [])) (one Completion (map (renamed f) (n ∷ hs)))
        stays (q, m, (k, (e, i))) =
            citing-goes Completion (n ∷ hs) (ascending (n ∷ map complement hs)) (ascending (renamed f n ∷ map complement (map (renamed f) hs))) nz s t a
            (ap (citing N w (map (renamed f) (n ∷ hs))) (first (is_completion P w (renamed f n) (map (renamed f) hs)) _ (refused NoCompletion)
            (is_true (completion-decides P w (renamed f n) (map (renamed f) hs)) (q, m, (k, (e ∙ sym same-heads, name-follows n q m i))))))
            (complements-from n hs)
          where
            same-heads : map (renamed f) hs ≡ hs
            same-heads = map-atoms hs (λ y u. head-atom N P small m (subst (λ (l : List ℤ). y ∈ l) (sym e) u) (λ z. nz (Memᴰ.tail (Memᴰ.cast (sym z) u))))

        goes : T (not (is_completion P z n hs)) → Goes (add z (ascending (n ∷ map complement hs) ∷ [])) []
        goes u = nothing-goes _ (half-adds P x f base names F _ (by (Memᴰ.append_cases P c.1)))
          where
            by : (c.0 ∈ P) ⊎ (c.0 ∈ demand x ∷ []) → Covered f x w.live (ascending (n ∷ map complement hs))
            by (inl m) = absurd ((not-decides (completion-decides P z n hs)).to u (c.0, m, c.2))
            by (inr m) = here ((name-decides z (variable n) c.0.body).to c.2.1.1)
              where
                e : c.0 ≡ demand x
                e = Memᴰ.eq_of_singleton m

                here : (y : Named) × (y ∈ z.named) × ((y.name ≡ variable n) × (y.body ≡ c.0.body)) → Covered f x w.live (ascending (n ∷ map complement hs))
                here (y, i, (j, b)) =
                    covered_same f x w.live (pos y.name ∷ []) (ascending (n ∷ map complement hs))
                    (λ k v. Memᴰ.cast (Memᴰ.eq_of_singleton v ∙ (ap pos j ∙ sym (positive-is n p))) (ascending← (n ∷ map complement hs) (Memᴰ.head refl)))
                    (F.bodies.added y i (b ∙ ap (λ (k : Rule). k.body) e))

    support-goes : (h : ℤ) (ns : List ℤ) → ¬ (pos 0 ∈ h ∷ ns) → T (signed (signs_of Support) (h ∷ ns)) → T (distinct (h ∷ ns)) → AllKnown N z (h ∷ ns)
        → T (is_atom N (variable h))
        → ((q : Rule) → q ∈ demanding P x → h ∈ q.heads → (n : ℤ) × (n ∈ ns) × T (is_name z (variable n) q.body))
        → ((n : ℤ) → n ∈ ns → (q : Rule) × (q ∈ demanding P x) × ((h ∈ q.heads) × T (is_name z (variable n) q.body)))
        → Goes (add z (ascending (h ∷ map complement ns) ∷ [])) (kept P x f shared z.named Support (h ∷ ns))
    support-goes h ns nz s t a at each-rule each-name =
        citing-goes Support (h ∷ ns) (ascending (h ∷ map complement ns)) (ascending (renamed f h ∷ map complement (map (renamed f) ns))) nz s t a
        (ap (citing N w (map (renamed f) (h ∷ ns))) (first (is_support N P w (renamed f h) (map (renamed f) ns)) _ (refused NoSupport) ((passed _).to (subst (λ (k : ℤ). T (is_support N P w k (map (renamed f) ns))) (sym same_head) supports))))
        (complements-from h ns)
      where
        same_head : renamed f h ≡ h
        same_head = renamed-atom h at

        supports : T (is_support N P w h (map (renamed f) ns))
        supports =
            (and-decides (itself (is_atom N (variable h)))
            (and-decides (all-decides (λ q. if-decides (has-decides h q.heads) (any-decides (λ n. itself (is_name w (variable n) q.body)) (map (renamed f) ns))) P)
            (all-decides (λ n. any-decides (λ q. and-decides (has-decides h q.heads) (itself (is_name w (variable n) q.body))) P) (map (renamed f) ns)))
            ).from (at, (rules, ours))
          where
            rules : (q : Rule) → q ∈ P → h ∈ q.heads → (n : ℤ) × (n ∈ map (renamed f) ns) × T (is_name w (variable n) q.body)
            rules q m u = let v = each-rule q (ours_in m) u in (renamed f v.0, Memᴰ.map (renamed f) v.1, name-follows v.0 q m v.2)

            ours : (n : ℤ) → n ∈ map (renamed f) ns → (q : Rule) × (q ∈ P) × ((h ∈ q.heads) × T (is_name w (variable n) q.body))
            ours n m =
                let i = Memᴰ.of_map (renamed f) ns m in
                let v = each-name i.0 i.1 in
                let j = with-head v.0 v.1 v.2.0 in
                (v.0, j, (v.2.0, subst (λ (k : ℤ). T (is_name w (variable k) v.0.body)) i.2 (name-follows i.0 v.0 j v.2.1)))

    module _ (U : List ℤ) (all-atoms : AllAtoms N U) (all_named : (q : Rule) → q ∈ demanding P x → T (is_external U q) → T (has_name z q.body)) where
      external-from : (h : ℤ) → h ∈ U → (k : ℤ) → k ∈ ascending (h ∷ map (λ n. neg_ℤ (pos n)) (external_names P w U))
          → k ∈ map (renamed f) (ascending (h ∷ map (λ n. neg_ℤ (pos n)) (external_names (demanding P x) z U)))
      external-from h i k m = by (Memᴰ.cases_cons (ascending→ (h ∷ map (λ n. neg_ℤ (pos n)) (external_names P w U)) m))
        where
          old : List ℤ
          old = h ∷ map (λ n. neg_ℤ (pos n)) (external_names (demanding P x) z U)

          by : (k ≡ h) ⊎ (k ∈ map (λ n. neg_ℤ (pos n)) (external_names P w U)) → k ∈ map (renamed f) (ascending (h ∷ map (λ n. neg_ℤ (pos n)) (external_names (demanding P x) z U)))
          by (inl e) = Memᴰ.cast (e ∙ sym (renamed-atom h (all-atoms h i))) (Memᴰ.map (renamed f) (ascending← (h ∷ map (λ n. neg_ℤ (pos n)) (external_names (demanding P x) z U)) (Memᴰ.head refl)))
          by (inr u) =
              let a = Memᴰ.of_map (λ n. neg_ℤ (pos n)) (external_names P w U) u in
              let b = Memᴰ.of_map (λ (y : Named). y.name) _ a.1 in
              let c = keep→ _ w.named b.1 in
              let d = (any-decides (λ q. and-decides (itself (is_external U q)) (same_list-decides b.0.body q.body)) P).to c.1 in
              named b.0 c.0 d.0 d.1 d.2.0 d.2.1 (sym a.2 ∙ ap (λ n. neg_ℤ (pos n)) (sym b.2))
            where
              named : (y : Named) → y ∈ w.named → (q : Rule) → q ∈ P → T (is_external U q) → y.body ≡ q.body → k ≡ neg_ℤ (pos y.name)
                  → k ∈ map (renamed f) (ascending (h ∷ map (λ n. neg_ℤ (pos n)) (external_names (demanding P x) z U)))
              named y iy q iq e b g =
                  let v = (has_name-decides z q.body).to (all_named q (ours_in iq) e) in
                  let u : Named = v.0 in
                  let there = F.bodies.kept u v.1 (subst (λ (l : List ℤ). T (is_body P l)) (sym v.2) (is_body_lem q iq)) in
                  let same : y.name ≡ f u.name = F.bodies.once y (record { name = f u.name; body = u.body }) iy there (b ∙ sym v.2) in
                  let test = (any-decides (λ k. and-decides (itself (is_external U k)) (same_list-decides u.body k.body)) (demanding P x)).from (q, ours_in iq, (e, v.2)) in
                  Memᴰ.cast (g ∙ (ap (λ n. neg_ℤ (pos n)) same ∙ sym (renamed-complement f S.zero-stays (pos u.name))))
                  (Memᴰ.map (renamed f) (ascending← (h ∷ map (λ n. neg_ℤ (pos n)) (external_names (demanding P x) z U))
                  (Memᴰ.tail (Memᴰ.map (λ n. neg_ℤ (pos n)) (Memᴰ.map (λ (y : Named). y.name) (keep← _ v.1 test))))))

    loop-goes : (h : ℤ) (hs : List ℤ) → ¬ (pos 0 ∈ h ∷ hs) → T (signed (signs_of Loop) (h ∷ hs)) → T (distinct (h ∷ hs)) → AllKnown N z (h ∷ hs)
        → AllAtoms N (h ∷ hs) → T (is_loop (demanding P x) (h ∷ hs)) → ((q : Rule) → q ∈ demanding P x → T (is_external (h ∷ hs) q) → T (has_name z q.body))
        → Goes (add z (ascending (h ∷ map (λ n. neg_ℤ (pos n)) (external_names (demanding P x) z (h ∷ hs))) ∷ [])) (kept P x f shared z.named Loop (h ∷ hs))
    loop-goes h hs nz s t a at l named =
        citing-goes Loop (h ∷ hs) _ (ascending (h ∷ map (λ n. neg_ℤ (pos n)) (external_names P w (h ∷ hs)))) nz s t a
        (ap (citing N w (map (renamed f) (h ∷ hs))) (subst (λ (l : List ℤ). looped l ≡ added) (sym same_set) here))
        (external-from (h ∷ hs) atoms named h (Memᴰ.head refl))
      where
        atoms : AllAtoms N (h ∷ hs)
        atoms y m = at y m

        same_set : map (renamed f) (h ∷ hs) ≡ h ∷ hs
        same_set = map-atoms (h ∷ hs) atoms

        looped : List ℤ → Outcome
        looped [] = refused WrongSigns
        looped (h ∷ hs) = Steps.loop N P w h hs

        added : Outcome
        added = next (add w (ascending (h ∷ map (λ n. neg_ℤ (pos n)) (external_names P w (h ∷ hs))) ∷ []))

        here : Steps.loop N P w h hs ≡ next (add w (ascending (h ∷ map (λ n. neg_ℤ (pos n)) (external_names P w (h ∷ hs))) ∷ []))
        here =
            first (all_atoms N w (h ∷ hs)) _ (refused NoAtoms) (is_true (all-decides (λ y. itself (is_atom N (variable y))) (h ∷ hs)) atoms)
            ∙ (first (is_loop P (h ∷ hs)) _ (refused NoLoop) (sym (loop-same P x (h ∷ hs)) ∙ (passed _).to l)
            ∙ first (all_named P w (h ∷ hs)) _ (refused UnnamedBody) (is_true (all-decides (λ q. if-decides (itself (is_external (h ∷ hs) q)) (itself (has_name w q.body))) P) names-there))
          where
            names-there : (q : Rule) → q ∈ P → T (is_external (h ∷ hs) q) → T (has_name w q.body)
            names-there q m e =
                let v = (has_name-decides z q.body).to (named q (ours_in m) e) in
                (has_name-decides w q.body).from (record { name = f v.0.name; body = v.0.body }, F.bodies.kept v.0 v.1 (subst (λ (l : List ℤ). T (is_body P l)) (sym v.2) (is_body_lem q m)), v.2)

    -- A step

    abbrev Result : Letter → List ℤ → State → Type 0
    Result c zs z' = (z'.named ≡ named_by (record { letter = c; numbers = zs }) z.named) × Goes z' (kept P x f shared z.named c zs)

    letter-goes : (c : Letter) (zs : List ℤ) → ¬ (pos 0 ∈ zs) → T (signed (signs_of c) zs) → T (distinct zs) → Introduces c zs → Then (Result c zs) (by_letter N (demanding P x) z c zs)
    letter-goes Addition L nz s t i =
        if-citing (Result Addition L) N z L _ (λ a. if_yes (Result Addition L) (refuted-decides z.live L) _ NoConflict (λ c. (refl, addition-goes L nz t a c)))
    letter-goes Body [] nz s t i = tt
    letter-goes Body (pos m ∷ L) nz s t i =
        if-naming (Result Body (pos m ∷ L)) N z (pos m) L _
        (λ a u. if_yes (Result Body (pos m ∷ L)) (and-decides (any-decides (λ q. same_list-decides q.body (ascending L)) (demanding P x)) (not-decides (itself (has_name z (ascending L))))) _ NoUnnamedBody
        (λ q. (refl, body-goes m L i.0 nz t a u (atoms q.0) q.1 s i.1)))
      where
        atoms : (q : Rule) × (q ∈ demanding P x) × (q.body ≡ ascending L) → AllAtoms N L
        atoms q y u = body-atom N (demanding P x) (demanding-atoms N P x small S.split) q.1 (subst (λ (l : List ℤ). y ∈ l) (sym q.2) (ascending← L u)) (λ e. nz (Memᴰ.tail (Memᴰ.cast (sym e) u)))
    letter-goes Body (negsuc m ∷ L) nz s t i = absurd ((and-decides (itself (is_positive (negsuc m))) (itself true)).to s).0
    letter-goes Completion [] nz s t i = tt
    letter-goes Completion (n ∷ hs) nz s t i =
        if-citing (Result Completion (n ∷ hs)) N z (n ∷ hs) _ (λ a. if_yes (Result Completion (n ∷ hs)) (completion-decides (demanding P x) z n hs) _ NoCompletion
        (λ c. (refl, completion-goes n hs nz s t ((and-decides (itself (is_positive n)) (itself (all is_positive hs))).to s).0 a c)))
    letter-goes Deletion L nz s t i = if-citing (Result Deletion L) N z L _ (λ a. (refl, deletion-goes _ (λ h m. drop_first→ _ z.live m)))
    letter-goes Extension [] nz s t i = tt
    letter-goes Extension (pos m ∷ L) nz s t i =
        if-naming (Result Extension (pos m ∷ L)) N z (pos m) L _ (λ a u. (refl, extension-goes m L i.0 nz t a u s i.1))
    letter-goes Extension (negsuc m ∷ L) nz s t i = absurd ((and-decides (itself (is_positive (negsuc m))) (itself true)).to s).0
    letter-goes Loop [] nz s t i = tt
    letter-goes Loop (h ∷ hs) nz s t i =
        if-citing (Result Loop (h ∷ hs)) N z (h ∷ hs) _ (λ a. if_yes (Result Loop (h ∷ hs)) (all-decides (λ y. itself (is_atom N (variable y))) (h ∷ hs)) _ NoAtoms
        (λ b. if_yes (Result Loop (h ∷ hs)) (itself (is_loop (demanding P x) (h ∷ hs))) _ NoLoop
        (λ l. if_yes (Result Loop (h ∷ hs)) (all-decides (λ q. if-decides (itself (is_external (h ∷ hs) q)) (itself (has_name z q.body))) (demanding P x)) _ UnnamedBody
        (λ e. (refl, loop-goes h hs nz s t a b l e)))))
    letter-goes Support [] nz s t i = tt
    letter-goes Support (h ∷ ns) nz s t i =
        if-citing (Result Support (h ∷ ns)) N z (h ∷ ns) _ (λ a. if_yes (Result Support (h ∷ ns))
        (and-decides (itself (is_atom N (variable h)))
        (and-decides (all-decides (λ q. if-decides (has-decides h q.heads) (any-decides (λ n. itself (is_name z (variable n) q.body)) ns)) (demanding P x))
        (all-decides (λ n. any-decides (λ q. and-decides (has-decides h q.heads) (itself (is_name z (variable n) q.body))) (demanding P x)) ns))) _ NoSupport
        (λ q. (refl, support-goes h ns nz s t a q.0 q.1.0 q.1.1)))

    step-goes : (t : Step) → Introduces t.letter t.numbers → Then (Result t.letter t.numbers) (step N (demanding P x) z t)
    step-goes t i =
        if_no (Result t.letter t.numbers) (has-decides (pos 0) t.numbers) _ Malformed
        (λ nz. if-line (Result t.letter t.numbers) t.letter t.numbers _ (λ _ s u. letter-goes t.letter t.numbers nz s u i))

  -- All steps

  pub steps-go : (ts : List Step) (z w : State) → Follows P x f base names z w → ((t : Step) → t ∈ ts → Introduces t.letter t.numbers)
      → (z' : State) → steps N (demanding P x) z ts ≡ next z' → T (all_fit (half P x f shared z.named ts))
      → (w' : State) × (steps N P w (half P x f shared z.named ts) ≡ next w') × Follows P x f base names z' w'
  steps-go [] z w F i z' e t = let p : z ≡ z' = cc in (w, refl, subst (λ (s : State). Follows P x f base names s w) p F)
  steps-go (s ∷ ts) z w F i z' e t = go (λ v u G d k. steps-go ts v u G (λ q m. i q (Memᴰ.tail m)) z' d k) (step N (demanding P x) z s) (step-goes z w F s (i s (Memᴰ.head refl))) e
    where
      lines : List Step
      lines = kept P x f shared z.named s.letter s.numbers

      after : List Named
      after = named_by s z.named

      Goal : Type 0
      Goal = (w' : State) × (steps N P w (half P x f shared z.named (s ∷ ts)) ≡ next w') × Follows P x f base names z' w'

      go : ((v u : State) → Follows P x f base names v u → steps N (demanding P x) v ts ≡ next z' → T (all_fit (half P x f shared v.named ts))
          → (w' : State) × (steps N P u (half P x f shared v.named ts) ≡ next w') × Follows P x f base names z' w')
          → (o : Outcome) → Then (Result z w F s.letter s.numbers) o → elim o [ refused k ↦ refused k | next v ↦ steps N (demanding P x) v ts ] ≡ next z' → Goal
      go below (refused k) r d = absurd (zero_one (cc))
      go below (next v) r d =
          let k = fit_append (kept P x f shared z.named s.letter s.numbers) (half P x f shared (named_by s z.named) ts) t in
          let g = r.1 k.0 in
          let h = below v g.0 g.2 d (subst (λ (l : List Named). T (all_fit (half P x f shared l ts))) (sym r.0) k.1) in (
            h.0,
            steps-append N P (kept P x f shared z.named s.letter s.numbers) (half P x f shared (named_by s z.named) ts) w g.0 g.1
                ∙ subst (λ (l : List Named). steps N P g.0 (half P x f shared l ts) ≡ next h.0) r.0 h.1,
            h.2,
          )
