-- Over steps that are accepted for the program with the added constraint, what `write_half` lets stand is `half` of crate merging.
-- Assumes nothing.
use mathlib.Core.Path.{◌≡◌, refl, sym, ap, ap₂, ◌∙◌}
use mathlib.Core.Logic.{◌⊎◌, inl, inr}
use mathlib.Core.Bool.{Bool, true, false, cond, not, ◌&&◌, true≢false}
use mathlib.Core.List.Memᴰ
use mathlib.Core.List.{List, [], ◌∷◌, ◌++◌, map}
use Prim.Native.Nat.{ℕ, ◌≤◌}
use native.Mathlib.Omega.{arith}
use lib.Dec.{T}
use lib.IntN.{ℤ, pos, negsuc}
use lib.ListN.{length}
use Rattle.words.specs.Lists.{◌∈◌}
use Rattle.words.specs.Literals.{variable, complement, ascending, insert, insert_all}
use Rattle.words.proofs.Lists.{zero_one, Decides, itself, passed, is_true, same_test, answered, and-decides, not-decides, eqb-decides, any-decides}
use Rattle.words.proofs.Literals.{same_list-decides, has-decides, variable-positive}
use Rattle.words.proofs.Sorting.{length-ascending}
use Rattle.marks.specs.Marks.{marked}
use Rattle.text.specs.declared.Letter.{Letter}
use Rattle.text.specs.declared.Letter.TheVariants.{Addition, Body, Completion, Deletion, Extension, Loop, Support}
use Rattle.aspif.specs.Rules.{Rule}
use Rattle.aspif.specs.declared.Kind.TheVariants.{Normal}
use Rattle.aspif.proofs.RuleTests.{normal-decides}
use Rattle.drupe.specs.Lines.{signs_of, signed}
use Rattle.drupe.specs.Texts.{Step}
use Rattle.derivation.specs.States.{Named, State, start, is_known, has_name}
use Rattle.derivation.specs.Steps.{Outcome, refused, next, all_known, is_completion, by_letter, step, steps}
use Rattle.derivation.proofs.Questions.{name-decides, has_name-decides, Completes, completion-decides}
use Rattle.merging.specs.Merge.{demand, demanding, renamed, named_by, named_in, is_body, is_among, one, kept, half}
use Rattle.derivation.proofs.Outcomes.{Then, if_yes, if_no, if-line}
use Rattle.merging.proofs.Runs.{Named-well, start-well, steps-keep}
use Rattle.merging.proofs.Merged.{named-all, body-cases}
use Rattle.renaming.specs.Standing.{is_constraint, HalfOf, names_added, name_after, is_gone, standing, all_standing}
use Rattle.drupe.specs.declared.ProofFault.TheVariants.{Malformed, UnknownVariable, KnownName, NoUnnamedBody, NoCompletion}

-- A list of one literal is that list ascending

ascending-one : (y : ℤ) → ascending (y ∷ []) ≡ y ∷ []
unfolding insert insert_all
ascending-one y = refl

one-ascending : (y : ℤ) (L : List ℤ) → ascending L ≡ y ∷ [] → L ≡ y ∷ []
one-ascending y [] e = let n = ap length e in let k = length-ascending [] in absurd (omega (arith, n, k))
one-ascending y (k ∷ []) e = sym (ascending-one k) ∙ e
one-ascending y (k ∷ j ∷ L) e = let n = ap length e in let m = length-ascending (k ∷ j ∷ L) in absurd (omega (arith, n, m))

-- a `b` line of the added constraint's body
added-line : (x : ℤ) (m : ℕ) (L : List ℤ) → Decides (names_added x Body (pos m ∷ L)) (ascending L ≡ complement x ∷ [])
added-line x m L =
    let d = same_list-decides (pos m ∷ L) (pos m ∷ complement x ∷ []) in
    record {
      to = λ t. let e : L ≡ complement x ∷ [] = tail_of (d.to t) in rw e (ascending-one (complement x));
      from = λ e. d.from (ap (λ (l : List ℤ). pos m ∷ l) (one-ascending (complement x) L e));
    }
  where
    tail_of : {k l : List ℤ} → pos m ∷ k ≡ pos m ∷ l → k ≡ l
    tail_of e = cc

always : (A : Type 0) (o : Outcome) → A → Then (λ v. A) o
always A (refused k) a = tt
always A (next z) a = a

module _ (N : ℕ) (P : List Rule) (x : ℤ) (f : ℕ → ℕ) (bodies : List (List ℤ)) (shared : List ℕ) (has_body has_constraint : Bool)
    (body_is : has_body ≡ is_body P (complement x ∷ [])) (constraint-is : has_constraint ≡ is_constraint P (complement x ∷ [])) where
  -- the added constraint's body has the name; or it has none, and the name is 0
  record Added (name : ℕ) (named : List Named) : Type 0 where
    only : (y : Named) → y ∈ named → y.body ≡ complement x ∷ [] → y.name ≡ name
    there : 1 ≤ name → (y : Named) × (y ∈ named) × ((y.name ≡ name) × (y.body ≡ complement x ∷ []))

  -- what a line leaves, and the name after it
  abbrev Agrees : State → ℕ → Letter → List ℤ → Type 0
  Agrees z name c zs =
      (kept P x f bodies z.named c zs ≡ standing x f shared has_body has_constraint name c zs)
      × Added (name_after x name c zs) (named_by (record { letter = c; numbers = zs }) z.named)

  -- the constraint's body, where the program has it as that of a constraint
  constraint-decides : Decides has_constraint ((q : Rule) × (q ∈ P) × ((q.kind ≡ Normal) × ((q.heads ≡ []) × (q.body ≡ complement x ∷ []))))
  constraint-decides =
      rw constraint-is (any-decides (λ q. and-decides (normal-decides q.kind) (and-decides (same_list-decides q.heads []) (same_list-decides q.body (complement x ∷ [])))) P)

  module _ (z : State) (name : ℕ) (W : Named-well N (demanding P x) z.introduced z.named) (A : Added name z.named) where
    -- `b`

    letter-agrees : (m : ℕ) (L : List ℤ) → T (is_body (demanding P x) (ascending L))
        → cond (is_body P (ascending L)) Body Extension ≡ cond (names_added x Body (pos m ∷ L) && not has_body) Extension Body
    letter-agrees m L b =
        by (is_body P (ascending L)) (names_added x Body (pos m ∷ L)) has_body some (λ e. body_is ∙ ap (is_body P) (sym ((added-line x m L).to ((passed _).from e))))
      where
        some : (is_body P (ascending L) ≡ true) ⊎ (names_added x Body (pos m ∷ L) ≡ true)
        some = elim (body-cases P x (ascending L) b) [ inl t ↦ inl ((passed _).to t) | inr e ↦ inr (is_true (added-line x m L) e) ]

        by : (a d h : Bool) → (a ≡ true) ⊎ (d ≡ true) → (d ≡ true → h ≡ a) → cond a Body Extension ≡ cond (d && not h) Extension Body
        by true true h s e = rw (e refl) refl
        by true false h s e = refl
        by false true h s e = rw (e refl) refl
        by false false h (inl p) e = absurd (true≢false (sym p))
        by false false h (inr p) e = absurd (true≢false (sym p))

    named-agrees : (m : ℕ) (L : List ℤ) → ¬ T (has_name z (ascending L))
        → Added (cond (names_added x Body (pos m ∷ L)) m name) (record { name = m; body = ascending L } ∷ z.named)
    named-agrees m L u = by (names_added x Body (pos m ∷ L)) refl
      where
        by : (b : Bool) → names_added x Body (pos m ∷ L) ≡ b → Added (cond b m name) (record { name = m; body = ascending L } ∷ z.named)
        by true e =
            let here : ascending L ≡ complement x ∷ [] = (added-line x m L).to ((passed _).from e) in
            record {
              only = λ y i b. elim (Memᴰ.cases_cons i) [
                | inl p ↦ ap (λ (k : Named). k.name) p
                | inr j ↦ absurd (u ((has_name-decides z (ascending L)).from (y, j, b ∙ sym here)))
              ];
              there = λ h. (record { name = m; body = ascending L }, Memᴰ.head refl, (refl, here));
            }
        by false e =
            let other : ¬ (ascending L ≡ complement x ∷ []) = λ q. true≢false (sym (is_true (added-line x m L) q) ∙ e) in
            record {
              only = λ y i b. elim (Memᴰ.cases_cons i) [
                | inl p ↦ absurd (other (sym (ap (λ (k : Named). k.body) p) ∙ b))
                | inr j ↦ A.only y j b
              ];
              there = λ h. let q = A.there h in (q.0, Memᴰ.tail q.1, q.2);
            }

    body-agrees : (m : ℕ) (L : List ℤ) → T (is_body (demanding P x) (ascending L)) → ¬ T (has_name z (ascending L)) → marked shared m ≡ is_among bodies (ascending L)
        → Agrees z name Body (pos m ∷ L)
    body-agrees m L b u s =
        (ap₂ (λ (t : Bool) (c : Letter). cond t [] (one c (map (renamed f) (pos m ∷ L)))) (sym s) (letter-agrees m L b), named-agrees m L u)

    -- `c`

    -- the line that only the added constraint allows
    abbrev Alone : ℤ → List ℤ → Type 0
    Alone n hs = (length (n ∷ hs) ≡ 1) × ((variable n ≡ name) × (¬ T has_constraint))

    -- the line stays exactly when a rule of the program allows it
    completion-stays : (n : ℤ) (hs : List ℤ) → 1 ≤ variable n → Completes (demanding P x) z n hs
        → is_completion P z n hs ≡ not (is_gone shared has_constraint name Completion (n ∷ hs))
    completion-stays n hs low c =
        same_test (completion-decides P z n hs)
        (not-decides (and-decides (eqb-decides (length (n ∷ hs)) 1) (and-decides (eqb-decides (variable n) name) (not-decides (itself has_constraint))))) to from
      where
        no-heads : (l : List ℤ) → length (n ∷ l) ≡ 1 → l ≡ []
        no-heads [] e = refl
        no-heads (h ∷ l) e = absurd (omega (arith, e))

        to : Completes P z n hs → ¬ Alone n hs
        to (q, m, (k, (h, i))) (l, (e, d)) =
            let y = (name-decides z (variable n) q.body).to i in
            let a = A.there (rw (← e) low) in
            let same = W.distinct y.0 a.0 y.1 a.1 (y.2.0 ∙ (e ∙ sym a.2.0)) in
            d (constraint-decides.from (q, m, (k, (h ∙ no-heads hs l, sym y.2.1 ∙ (same ∙ a.2.1)))))

        from : ¬ Alone n hs → Completes P z n hs
        from d = elim (Memᴰ.append_cases P c.1) [ inl m ↦ (c.0, m, c.2) | inr m ↦ added (Memᴰ.eq_of_singleton m) ]
          where
            added : c.0 ≡ demand x → Completes P z n hs
            added e =
                let heads : hs ≡ [] = sym c.2.1.0 ∙ ap (λ (q : Rule). q.heads) e in
                let y = (name-decides z (variable n) c.0.body).to c.2.1.1 in
                let b : y.0.body ≡ complement x ∷ [] = y.2.1 ∙ ap (λ (q : Rule). q.body) e in
                elim (answered has_constraint) [
                  | inl t ↦ let r = constraint-decides.to t in
                      (r.0, r.1, (r.2.0, (r.2.1.0 ∙ sym heads, (name-decides z (variable n) r.0.body).from (y.0, y.1, (y.2.0, b ∙ sym r.2.1.1)))))
                  | inr t ↦ absurd (d (rw heads refl, (sym y.2.0 ∙ A.only y.0 y.1 b, (not-decides (itself has_constraint)).to t)))
                ]

    completion-agrees : (n : ℤ) (hs : List ℤ) → 1 ≤ variable n → Completes (demanding P x) z n hs → Agrees z name Completion (n ∷ hs)
    completion-agrees n hs low c = (by (one Completion (map (renamed f) (n ∷ hs))) (is_completion P z n hs) (is_gone shared has_constraint name Completion (n ∷ hs)) (completion-stays n hs low c), A)
      where
        by : (l : List Step) (a g : Bool) → a ≡ not g → cond a l [] ≡ cond g [] l
        by l a true e = rw e refl
        by l a false e = rw e refl

    -- A step

    step-agrees : (t : Step) → ((y : Named) → y ∈ named_by t z.named → marked shared y.name ≡ is_among bodies y.body)
        → Then (λ v. Agrees z name t.letter t.numbers) (step N (demanding P x) z t)
    step-agrees t s =
        if_no (λ v. Agrees z name t.letter t.numbers) (has-decides (pos 0) t.numbers) _ Malformed
        (λ nz. if-line (λ v. Agrees z name t.letter t.numbers) t.letter t.numbers _ (λ _ g u. by t.letter t.numbers nz g s))
      where
        by : (c : Letter) (zs : List ℤ) → ¬ (pos 0 ∈ zs) → T (signed (signs_of c) zs)
            → ((y : Named) → y ∈ named_by (record { letter = c; numbers = zs }) z.named → marked shared y.name ≡ is_among bodies y.body)
            → Then (λ v. Agrees z name c zs) (by_letter N (demanding P x) z c zs)
        by Addition L nz g s = always (Agrees z name Addition L) (by_letter N (demanding P x) z Addition L) (refl, A)
        by Body [] nz g s = tt
        by Body (pos m ∷ L) nz g s =
            if_yes (λ v. Agrees z name Body (pos m ∷ L)) (itself (all_known N z L)) _ UnknownVariable (λ a.
            if_no (λ v. Agrees z name Body (pos m ∷ L)) (itself (is_known N z m)) _ KnownName (λ k.
            if_yes (λ v. Agrees z name Body (pos m ∷ L)) (and-decides (itself (is_body (demanding P x) (ascending L))) (not-decides (itself (has_name z (ascending L))))) _ NoUnnamedBody
            (λ q. body-agrees m L q.0 q.1 (s (record { name = m; body = ascending L }) (Memᴰ.head refl)))))
        by Body (negsuc m ∷ L) nz g s = absurd g
        by Completion [] nz g s = tt
        by Completion (n ∷ hs) nz g s =
            if_yes (λ v. Agrees z name Completion (n ∷ hs)) (itself (all_known N z (n ∷ hs))) _ UnknownVariable (λ a.
            if_yes (λ v. Agrees z name Completion (n ∷ hs)) (completion-decides (demanding P x) z n hs) _ NoCompletion
            (λ c. completion-agrees n hs (variable-positive n (λ e. nz (Memᴰ.head (sym e)))) c))
        by Deletion L nz g s = always (Agrees z name Deletion L) (by_letter N (demanding P x) z Deletion L) (refl, A)
        by Extension [] nz g s = tt
        by Extension (n ∷ L) nz g s = always (Agrees z name Extension (n ∷ L)) (by_letter N (demanding P x) z Extension (n ∷ L)) (refl, A)
        by Loop [] nz g s = tt
        by Loop (h ∷ hs) nz g s = always (Agrees z name Loop (h ∷ hs)) (by_letter N (demanding P x) z Loop (h ∷ hs)) (refl, A)
        by Support [] nz g s = tt
        by Support (h ∷ ns) nz g s = always (Agrees z name Support (h ∷ ns)) (by_letter N (demanding P x) z Support (h ∷ ns)) (refl, A)

  -- All steps

  all-agree : (ts : List Step) (z z' : State) (name : ℕ) → Named-well N (demanding P x) z.introduced z.named → Added name z.named
      → ((y : Named) → y ∈ named_in z.named ts → marked shared y.name ≡ is_among bodies y.body) → steps N (demanding P x) z ts ≡ next z'
      → half P x f bodies z.named ts ≡ all_standing x f shared has_body has_constraint name ts
  all-agree [] z z' name W A s e = refl
  all-agree (t ∷ ts) z z' name W A s e =
      by (λ v I B q d. all-agree ts v z' (name_after x name t.letter t.numbers) I B q d) (step N (demanding P x) z t) refl
      (step-agrees z name W A t (λ y i. s y (named-all ts (named_by t z.named) y i))) e
    where
      by : ((v : State) → Named-well N (demanding P x) v.introduced v.named → Added (name_after x name t.letter t.numbers) v.named
          → ((y : Named) → y ∈ named_in v.named ts → marked shared y.name ≡ is_among bodies y.body) → steps N (demanding P x) v ts ≡ next z'
          → half P x f bodies v.named ts ≡ all_standing x f shared has_body has_constraint (name_after x name t.letter t.numbers) ts)
          → (o : Outcome) → step N (demanding P x) z t ≡ o → Then (λ v. Agrees z name t.letter t.numbers) o
          → elim o [ refused k ↦ refused k | next v ↦ steps N (demanding P x) v ts ] ≡ next z'
          → half P x f bodies z.named (t ∷ ts) ≡ all_standing x f shared has_body has_constraint name (t ∷ ts)
      by below (refused k) p r d = absurd (zero_one (cc))
      by below (next v) p r d =
          let one-step : steps N (demanding P x) z (t ∷ []) ≡ next v = ap (λ (o : Outcome). elim o [ refused k ↦ refused k | next u ↦ steps N (demanding P x) u [] ]) p in
          let E = steps-keep N (demanding P x) {A = ℕ} (λ a u. a) (λ i n a. Unit {0}) (λ u s a I M K. tt) (t ∷ []) z v 0 W tt one-step in
          let n : v.named ≡ named_by t z.named = E.named-is in
          let rest = below v (rw (E.introduced-is, n) E.well) (rw n r.1) (rw n s) d in
          ap₂ (λ (k l : List Step). k ++ l) r.0 (rw n at rest)

  pub half-agrees : (ts : List Step) (left : State) → ((y : Named) → y ∈ named_in [] ts → marked shared y.name ≡ is_among bodies y.body)
      → steps N (demanding P x) start ts ≡ next left → half P x f bodies [] ts ≡ all_standing x f shared has_body has_constraint 0 ts
  half-agrees ts left s e =
      all-agree ts start left 0 (start-well N (demanding P x)) (record { only = λ y i b. elim i [ ]; there = λ h. absurd (omega (arith, h)) }) s e

-- the lines of a half are those that stand
pub half-stands : {text shared : List ℕ} {x : ℤ} {has_body has_constraint : Bool} {N : ℕ} {P : List Rule} {bodies : List (List ℤ)} {ts : List Step} (f : ℕ → ℕ)
    → HalfOf text x shared has_body has_constraint N P bodies ts → half P x f bodies [] ts ≡ all_standing x f shared has_body has_constraint 0 ts
half-stands {shared = shared} {x = x} {has_body = a} {has_constraint = b} {N = N} {P = P} {bodies = bodies} {ts = ts} f H =
    half-agrees N P x f bodies shared a b H.body H.constraint ts H.left H.marks H.accepted
