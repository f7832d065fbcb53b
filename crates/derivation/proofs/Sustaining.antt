-- What holds between steps (Invariant.antt) stays, for any set of numbers, answer set or not, under which the nogoods of `c`, `s` and `l` fail; so the
-- empty nogood is never live. Assumes nothing.
use mathlib.Core.Path.{◌≡◌, refl, sym, subst}
use mathlib.Core.Logic.{◌⊎◌, inl, inr}
use mathlib.Core.Bool.{true}
use mathlib.Core.List.Memᴰ
use mathlib.Core.List.{List, [], ◌∷◌, map}
use Prim.Native.Nat.{ℕ, ◌≤◌}
use lib.Dec.{T}
use lib.IntN.{ℤ, pos, neg_ℤ}
use lib.ListN.{length}
use borrow.Author.Tests.{ltb-false}
use Rattle.words.specs.Limits.{most_numbers}
use Rattle.words.specs.Lists.{◌∈◌, all}
use Rattle.words.specs.Literals.{variable, complement, ascending}
use Rattle.words.proofs.Lists.{Decides, itself, passed, failed, or-false-right, not-decides, and-decides, all-decides, keep→, drop_first→, each-cons}
use Rattle.words.proofs.Literals.{has-decides, variable-complement, ascending←}
use Rattle.text.specs.Line.{any_outside}
use Rattle.text.specs.declared.Letter.{Letter}
use Rattle.text.specs.declared.Letter.TheVariants.{Addition, Body, Completion, Deletion, Extension, Loop, Support}
use Rattle.aspif.specs.Rules.{Rule, plain_atoms}
use Rattle.aspif.specs.declared.Kind.TheVariants.{Normal}
use Rattle.drupe.specs.Lines.{signs_of, is_positive, signed}
use Rattle.drupe.specs.Texts.{Step}
use Rattle.derivation.specs.Loops as Loops
use Rattle.derivation.specs.States.{Named, State, start, is_atom, is_known, is_name, has_name}
use Rattle.derivation.specs.Steps.{Outcome, refused, next, body, extension, completion, support, is_external, external_names, loop, addition, deletion, naming, citing, by_letter, step, steps, empty_live}
use Rattle.derivation.proofs.Closure.{empty-decides, refuted-decides}
use Rattle.derivation.proofs.Loops.{loop-decides}
use Rattle.derivation.proofs.Valuations.{All, conflict-false}
use Rattle.derivation.proofs.Questions.{body-atom, unnamed-decides, completion-decides, support-decides, all_atoms-decides, all_named-decides}
use Rattle.derivation.proofs.Outcomes.{is_beyond, Then, if_yes, if_no, if-line, if-citing, if-naming}
use Rattle.derivation.proofs.Invariant.{AllKnown, AllAtoms, Kept, start-kept, add_kept, define-kept}
use Rattle.derivation.proofs.Nogoods.{Positives}
use Rattle.drupe.specs.declared.ProofFault.TheVariants.{Malformed, NoUnnamedBody, NoCompletion, NoSupport, NoAtoms, UnnamedBody, NoConflict, NoLoop}

module _ (N : ℕ) (P : List Rule) (M : ℕ → Type 0) where
  -- the nogoods of the three letters fail; of the numbers of an `l` step `Line` is known
  pub record Sustained (Line : List ℤ → Type 0) : Type 1 where
    pub fits : plain_atoms P ≤ N
    pub completion-fails : (z : State) (k : Kept N M z) (n : ℤ) (hs : List ℤ) → T (is_positive n) → Positives hs
        → (r : Rule) → r ∈ P → r.kind ≡ Normal → r.heads ≡ hs → T (is_name z (variable n) r.body) → ¬ All k.W (n ∷ map complement hs)
    pub support-fails : (z : State) (k : Kept N M z) (h : ℤ) (ns : List ℤ) → T (is_positive h) → Positives ns → T (is_atom N (variable h))
        → ((r : Rule) → r ∈ P → h ∈ r.heads → (n : ℤ) × (n ∈ ns) × T (is_name z (variable n) r.body)) → ¬ All k.W (h ∷ map complement ns)
    pub loop-fails : (z : State) (k : Kept N M z) (h : ℤ) (hs : List ℤ) → Line (h ∷ hs) → Positives (h ∷ hs) → AllAtoms N (h ∷ hs)
        → Loops.Loop P (h ∷ hs)
        → ((r : Rule) → r ∈ P → T (is_external (h ∷ hs) r) → T (has_name z r.body))
        → ¬ All k.W (h ∷ map (λ n. neg_ℤ (pos n)) (external_names P z (h ∷ hs)))

  -- an outcome that keeps the invariant, or ends the check
  abbrev pub Fine : Outcome → Type 1
  Fine = Then (Kept N M)

  module _ {Line : List ℤ → Type 0} (S : Sustained Line) (z : State) (k : Kept N M z) where
    with-complements-known : (x : ℤ) (L : List ℤ) → AllKnown N z (x ∷ L) → AllKnown N z (x ∷ map complement L)
    with-complements-known x L a = each-cons (a x (Memᴰ.head refl)) (λ y m. complemented y (Memᴰ.of_map complement L m))
      where
        complemented : (y : ℤ) → (v : ℤ) × (v ∈ L) × (complement v ≡ y) → T (is_known N z (variable y))
        complemented y r = rw (← r.2, variable-complement r.0) (a r.0 (Memᴰ.tail r.1))

    externals-known : (U : List ℤ) → AllKnown N z (map (λ n. neg_ℤ (pos n)) (external_names P z U))
    externals-known U y m =
        let r = Memᴰ.of_map (λ n. neg_ℤ (pos n)) (external_names P z U) m in
        let s = Memᴰ.of_map (λ (x : Named). x.name) _ r.1 in
        let x = s.0 in
        rw (← r.2, variable-complement (pos r.0), ← s.2) (k.named x (keep→ _ z.named s.1).0).known

    -- each letter, where the questions before it are passed

    body-fine : (n : ℤ) (L : List ℤ) → T (is_positive n) → ¬ (pos 0 ∈ L) → Fine (naming N z n L (body P z n L))
    body-fine n L p nz =
        if-naming (Kept N M) N z n L (body P z n L)
        (λ known fresh. if_yes (Kept N M) (unnamed-decides P z L) _ NoUnnamedBody
        (λ t. define-kept N M z k n L _ p fresh known nz (λ x m. names t.0 x (Memᴰ.cases_cons m))))
      where
        new : Named
        new = record { name = variable n; body = ascending L }

        names : (r : Rule) × (r ∈ P) × (r.body ≡ ascending L) → (x : Named) → (x ≡ new) ⊎ (x ∈ z.named)
            → (x ∈ z.named) ⊎ ((x ≡ new) × AllAtoms N L)
        names r x (inl e) = inr (e, λ y u. body-atom N P S.fits r.1 (rw r.2 (ascending← L u)) (λ q. nz (Memᴰ.cast (sym q) u)))
        names r x (inr m) = inl m

    extension-fine : (n : ℤ) (L : List ℤ) → T (is_positive n) → ¬ (pos 0 ∈ L) → Fine (naming N z n L (extension P z n L))
    extension-fine n L p nz =
        if-naming (Kept N M) N z n L (extension P z n L) (λ known fresh. define-kept N M z k n L z.named p fresh known nz (λ x m. inl m))

    completion-fine : (n : ℤ) (hs : List ℤ) → T (is_positive n) → Positives hs → Fine (citing N z (n ∷ hs) (completion P z n hs))
    completion-fine n hs p q =
        if-citing (Kept N M) N z (n ∷ hs) (completion P z n hs)
        (λ known. if_yes (Kept N M) (completion-decides P z n hs) _ NoCompletion
        (λ t. add_kept N M z k (n ∷ map complement hs) (with-complements-known n hs known)
        (S.completion-fails z k n hs p q t.0 t.1 t.2.0 t.2.1.0 t.2.1.1)))

    support-fine : (h : ℤ) (ns : List ℤ) → T (is_positive h) → Positives ns → Fine (citing N z (h ∷ ns) (support N P z h ns))
    support-fine h ns p q =
        if-citing (Kept N M) N z (h ∷ ns) (support N P z h ns)
        (λ known. if_yes (Kept N M) (support-decides N P z h ns) _ NoSupport
        (λ t. add_kept N M z k (h ∷ map complement ns) (with-complements-known h ns known) (S.support-fails z k h ns p q t.0 t.1.0)))

    loop-fine : (h : ℤ) (hs : List ℤ) → Line (h ∷ hs) → Positives (h ∷ hs) → Fine (citing N z (h ∷ hs) (loop N P z h hs))
    loop-fine h hs l q =
        if-citing (Kept N M) N z (h ∷ hs) (loop N P z h hs)
        (λ known. if_yes (Kept N M) (all_atoms-decides N z (h ∷ hs)) _ NoAtoms
        (λ a. if_yes (Kept N M) (loop-decides P (h ∷ hs)) _ NoLoop
        (λ loops. if_yes (Kept N M) (all_named-decides P z (h ∷ hs)) _ UnnamedBody
        (λ e. add_kept N M z k (h ∷ map (λ n. neg_ℤ (pos n)) (external_names P z (h ∷ hs)))
        (each-cons (known h (Memᴰ.head refl)) (externals-known (h ∷ hs)))
        (S.loop-fails z k h hs l q a loops e)))))

    addition-fine : (L : List ℤ) → ¬ (pos 0 ∈ L) → Fine (citing N z L (addition P z L))
    addition-fine L nz =
        if-citing (Kept N M) N z L (addition P z L)
        (λ known. if_yes (Kept N M) (refuted-decides z.live L) _ NoConflict
        (λ c. add_kept N M z k L known (λ f. conflict-false k.W z.live (λ g m. (k.live g m).fails) L f nz c)))

    deletion-fine : (L : List ℤ) → Fine (citing N z L (deletion P z L))
    deletion-fine L =
        if-citing (Kept N M) N z L (deletion P z L)
        (λ known. record { W = k.W; atoms = k.atoms; named = k.named; live = λ g m. k.live g (drop_first→ _ z.live m) })

    positives-decides : (L : List ℤ) → Decides (all is_positive L) (Positives L)
    positives-decides L = all-decides (λ x. itself (is_positive x)) L

    pub letter-fine : (x : Letter) (zs : List ℤ) → ¬ (pos 0 ∈ zs) → Line zs → T (signed (signs_of x) zs) → Fine (by_letter N P z x zs)
    letter-fine Addition L nz l t = addition-fine L nz
    letter-fine Body [] nz l t = tt
    letter-fine Body (n ∷ L) nz l t = body-fine n L ((and-decides (itself (is_positive n)) (itself true)).to t).0 (λ m. nz (Memᴰ.tail m))
    letter-fine Completion [] nz l t = tt
    letter-fine Completion (n ∷ hs) nz l t = let p = (and-decides (itself (is_positive n)) (positives-decides hs)).to t in completion-fine n hs p.0 p.1
    letter-fine Deletion L nz l t = deletion-fine L
    letter-fine Extension [] nz l t = tt
    letter-fine Extension (n ∷ L) nz l t = extension-fine n L ((and-decides (itself (is_positive n)) (itself true)).to t).0 (λ m. nz (Memᴰ.tail m))
    letter-fine Loop [] nz l t = tt
    letter-fine Loop (h ∷ hs) nz l t = loop-fine h hs l ((positives-decides (h ∷ hs)).to t)
    letter-fine Support [] nz l t = tt
    letter-fine Support (h ∷ ns) nz l t = let p = (and-decides (itself (is_positive h)) (positives-decides ns)).to t in support-fine h ns p.0 p.1

  -- steps, one after another, by any test that keeps the invariant
  module _ (one : State → Step → Outcome) (fine : (z : State) → Kept N M z → (t : Step) → Fine (one z t)) (run : State → List Step → Outcome)
      (ends : (z : State) → run z [] ≡ next z)
      (turns : (z : State) (t : Step) (ts : List Step) → run z (t ∷ ts) ≡ elim (one z t) [ refused n ↦ refused n | next z' ↦ run z' ts ]) where
    run-fine : (ts : List Step) (z : State) → Kept N M z → Fine (run z ts)
    run-fine [] z k = subst Fine (sym (ends z)) k
    run-fine (t ∷ ts) z k = subst Fine (sym (turns z t ts)) (go (λ z' k'. run-fine ts z' k') (one z t) (fine z k t))
      where
        go : ((z' : State) → Kept N M z' → Fine (run z' ts)) → (o : Outcome) → Fine o → Fine (elim o [ refused n ↦ refused n | next z' ↦ run z' ts ])
        go later (refused n) f = tt
        go later (next z') f = later z' f

    -- the empty nogood is not live
    pub never-empty : (ts : List Step) (z : State) → run start ts ≡ next z → empty_live z ≡ true → ⊥
    never-empty ts z e l =
        let k : Kept N M z = subst Fine e (run-fine ts start (start-kept N M)) in
        (k.live [] ((empty-decides z.live).to ((passed (empty_live z)).from l))).fails (λ x m. elim m [ ])

  -- the steps of document 01: question 23 lets a line have so many numbers
  module _ (S : Sustained (λ l. length l ≤ most_numbers)) where
    step-fine : (z : State) → Kept N M z → (t : Step) → Fine (step N P z t)
    step-fine z k t =
        if_no (Kept N M) (has-decides (pos 0) t.numbers) _ Malformed
        (λ nz. if-line (Kept N M) t.letter t.numbers _
        (λ w s _. letter-fine S z k t.letter t.numbers nz (few w) s))
      where
        few : ¬ T (is_beyond t.numbers) → length t.numbers ≤ most_numbers
        few w =
            ltb-false most_numbers (length t.numbers)
            (or-false-right (any_outside t.numbers) _ (failed _ ((not-decides (itself (is_beyond t.numbers))).from w)))

    pub never-refuted : (ts : List Step) (z : State) → steps N P start ts ≡ next z → empty_live z ≡ true → ⊥
    never-refuted = never-empty (step N P) step-fine (steps N P) (λ z. refl) (λ z t ts. refl)
