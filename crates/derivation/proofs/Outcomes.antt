-- What a step comes to where no question refuses it, question by question. Assumes nothing.
use mathlib.Core.Path.{◌≡◌, refl, sym, ap, subst}
use mathlib.Core.Bool.{Bool, true, false, cond, ◌||◌}
use Rattle.std.specs.Prelude.{Option, None, Some}
use mathlib.Core.List.{List}
use Prim.Native.Nat.{ℕ}
use lib.Dec.{T, ltb}
use lib.IntN.{ℤ, pos}
use lib.ListN.{length}
use Rattle.words.specs.Limits.{most_numbers}
use Rattle.words.specs.Literals.{variable, has, distinct}
use Rattle.words.proofs.Lists.{Decides, itself}
use Rattle.text.specs.Line.{any_outside}
use Rattle.text.specs.declared.Letter.{Letter}
use Rattle.aspif.specs.Rules.{Rule}
use Rattle.drupe.specs.Lines.{signs_of, signed, line_refusal}
use Rattle.drupe.specs.Texts.{Step}
use Rattle.derivation.specs.States.{State, is_known}
use Rattle.derivation.specs.Steps.{Outcome, refused, next, naming, citing, by_letter, step}
use Rattle.derivation.proofs.Questions.{all_known-decides}
use Rattle.derivation.proofs.Invariant.{AllKnown}
use Rattle.drupe.specs.declared.ProofFault.TheVariants.{Malformed, OutOfRange, WrongSigns, RepeatedVariable, UnknownVariable, KnownName}
use Rattle.drupe.specs.declared.ProofFault.{ProofFault}

-- Lines

-- question 23 is answered no
abbrev pub is_beyond : List ℤ → Bool
is_beyond zs = any_outside zs || ltb most_numbers (length zs)

-- questions 24 and 25, and those after them
abbrev pub signing : Letter → List ℤ → Outcome → Outcome
signing x zs o = cond (signed (signs_of x) zs) (cond (distinct zs) o (refused RepeatedVariable)) (refused WrongSigns)

-- questions 23 to 25, one after another
pub line-asks : (x : Letter) (zs : List ℤ) (o : Outcome)
    → elim (line_refusal x zs) [ Some k ↦ refused k | None ↦ o ] ≡ cond (is_beyond zs) (refused OutOfRange) (signing x zs o)
line-asks x zs o = by (is_beyond zs) (signed (signs_of x) zs) (distinct zs)
  where
    by : (a b c : Bool)
        → elim (cond {A = Option ProofFault} a (Some OutOfRange) (cond b (cond c None (Some RepeatedVariable)) (Some WrongSigns))) [ Some k ↦ refused k | None ↦ o ]
        ≡ cond a (refused OutOfRange) (cond b (cond c o (refused RepeatedVariable)) (refused WrongSigns))
    by true b c = refl
    by false true true = refl
    by false true false = refl
    by false false c = refl

-- questions 22 to 25, and those by letter
pub step-asks : (N : ℕ) (P : List Rule) (z : State) (t : Step)
    → step N P z t ≡ cond (has (pos 0) t.numbers) (refused Malformed)
    (cond (is_beyond t.numbers) (refused OutOfRange) (signing t.letter t.numbers (by_letter N P z t.letter t.numbers)))
step-asks N P z t =
    ap (λ (o : Outcome). cond (has (pos 0) t.numbers) (refused Malformed) o) (line-asks t.letter t.numbers (by_letter N P z t.letter t.numbers))

-- Steps

module _ {ℓ} (Q : State → Type ℓ) where
  abbrev pub Then : Outcome → Type ℓ
  Then (refused k) = Unit {ℓ}
  Then (next z) = Q z

  -- "The first "no" decides": where a question is passed, what it asks may be used
  pub if_yes : {b : Bool} {A : Type 0} → Decides b A → (o : Outcome) (n : ProofFault) → (A → Then o) → Then (cond b o (refused n))
  if_yes {b = true} d o n f = f (d.to tt)
  if_yes {b = false} d o n f = tt

  pub if_no : {b : Bool} {A : Type 0} → Decides b A → (o : Outcome) (n : ProofFault) → (¬ A → Then o) → Then (cond b (refused n) o)
  if_no {b = true} d o n f = tt
  if_no {b = false} d o n f = f (λ x. d.from x)

  pub if-signed : (x : Letter) (zs : List ℤ) (o : Outcome) → (T (signed (signs_of x) zs) → T (distinct zs) → Then o) → Then (signing x zs o)
  if-signed x zs o f = if_yes (itself (signed (signs_of x) zs)) _ WrongSigns (λ s. if_yes (itself (distinct zs)) o RepeatedVariable (λ u. f s u))

  pub if-line : (x : Letter) (zs : List ℤ) (o : Outcome) → (¬ T (is_beyond zs) → T (signed (signs_of x) zs) → T (distinct zs) → Then o)
      → Then (elim (line_refusal x zs) [ Some k ↦ refused k | None ↦ o ])
  if-line x zs o f = subst Then (sym (line-asks x zs o)) (if_no (itself (is_beyond zs)) _ OutOfRange (λ w. if-signed x zs o (f w)))

  pub if-citing : (N : ℕ) (z : State) (L : List ℤ) (o : Outcome) → (AllKnown N z L → Then o) → Then (citing N z L o)
  if-citing N z L o f = if_yes (all_known-decides N z L) o UnknownVariable f

  pub if-naming : (N : ℕ) (z : State) (n : ℤ) (L : List ℤ) (o : Outcome) → (AllKnown N z L → ¬ T (is_known N z (variable n)) → Then o)
      → Then (naming N z n L o)
  if-naming N z n L o f = if_yes (all_known-decides N z L) _ UnknownVariable (λ a. if_no (itself (is_known N z (variable n))) o KnownName (f a))
