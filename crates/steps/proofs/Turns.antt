-- One turn of the check: a line that passed questions 22 to 25, and its step; and that steps which are accepted passed these.
-- Assumes nothing.
use mathlib.Core.Path.{◌≡◌, refl, ◌∙◌, subst}
use mathlib.Core.Bool.{Bool, true, false, cond, ◌||◌, or_comm}
use Rattle.std.specs.Prelude.{Option, None, Some}
use mathlib.Core.List.Memᴰ
use mathlib.Core.List.{List, [], ◌∷◌}
use Prim.Native.Nat.{ℕ}
use lib.Dec.{T, ltb}
use lib.IntN.{ℤ, pos}
use lib.ListN.{length}
use Rattle.words.proofs.Lists.{zero_one, or-false-right}
use Rattle.words.specs.Lists.{◌∈◌}
use Rattle.words.specs.Literals.{has, distinct}
use Rattle.words.proofs.Literals.{has-decides, variable-positive}
use Rattle.text.specs.declared.Letter.{Letter}
use Rattle.text.specs.Line.{any_outside}
use Rattle.aspif.specs.Rules.{Rule}
use Rattle.aspif.proofs.Formed.{inside}
use Rattle.words.specs.Limits.{most_numbers}
use Rattle.drupe.specs.Lines.{signs_of, signed, line_refusal}
use Rattle.drupe.specs.Texts.{Step, LinePasses}
use Rattle.drupe.proofs.Lines.{few}
use Rattle.derivation.specs.States.{State}
use Rattle.derivation.specs.Steps.{Outcome, next, step, by_letter}
use Rattle.derivation.specs.Steps as Steps
use Rattle.steps.specs.Held.{PassedLine}
use Rattle.drupe.specs.declared.ProofFault.TheVariants.{Malformed, OutOfRange, WrongSigns, RepeatedVariable}
use Rattle.drupe.specs.declared.ProofFault.{ProofFault}

-- A line that passed questions 22 to 25

module _ (x : Letter) (zs : List ℤ) (asked : line_refusal x zs ≡ None) (zero-free : has (pos 0) zs ≡ false) where
  tests : (any_outside zs ≡ false) × (signed (signs_of x) zs ≡ true) × (distinct zs ≡ true)
  tests = by (any_outside zs || ltb most_numbers (length zs)) refl (signed (signs_of x) zs) (distinct zs) asked
    where
      by : (a : Bool) → (any_outside zs || ltb most_numbers (length zs)) ≡ a → (b c : Bool) → cond {A = Option ProofFault} a (Some OutOfRange) (cond b (cond c None (Some RepeatedVariable)) (Some WrongSigns)) ≡ None
          → (any_outside zs ≡ false) × (b ≡ true) × (c ≡ true)
      by true q b c e = absurd (zero_one (cc))
      by false q false c e = absurd (zero_one (cc))
      by false q true false e = absurd (zero_one (cc))
      by false q true true e = (or-false-right (ltb most_numbers (length zs)) (any_outside zs) (or_comm (ltb most_numbers (length zs)) (any_outside zs) ∙ q), refl, refl)

  pub good-line : PassedLine x zs
  good-line = record {
    literals = record {
      low = λ y i. variable-positive y (λ p. absurd (subst T zero-free ((has-decides (pos 0) zs).from (subst (λ (a : ℤ). a ∈ zs) p i))));
      high = inside zs tests.0;
      once = tests.2;
    };
    few = few x zs asked;
    signs = tests.1;
  }

  pub step_is : (N : ℕ) (P : List Rule) (z : State) → step N P z (record { letter = x; numbers = zs }) ≡ by_letter N P z x zs
  step_is N P z = rw (zero-free, asked)

-- a step that is accepted passes questions 22 to 25
accepted-passes : (N : ℕ) (P : List Rule) (z w : State) (t : Step) → step N P z t ≡ next w → LinePasses t
accepted-passes N P z w t e = by (has (pos 0) t.numbers) refl (line_refusal t.letter t.numbers) refl e
  where
    by : (b : Bool) → has (pos 0) t.numbers ≡ b → (o : Option ProofFault) → line_refusal t.letter t.numbers ≡ o
        → cond b (Steps.refused Malformed) (elim o as (λ x. Outcome) [ Some k ↦ Steps.refused k | None ↦ by_letter N P z t.letter t.numbers ]) ≡ next w → LinePasses t
    by true p o q e = absurd (zero_one (cc))
    by false p (Some k) q e = absurd (zero_one (cc))
    by false p None q e = (q, p)

pub steps-pass : (N : ℕ) (P : List Rule) (z w : State) (ts : List Step) → Steps.steps N P z ts ≡ next w → (t : Step) → t ∈ ts → LinePasses t
steps-pass N P z w [] e t m = elim m [ ]
steps-pass N P z w (u ∷ us) e t m = by (λ z' f i. steps-pass N P z' w us f t i) (step N P z u) refl e m
  where
    by : ((z' : State) → Steps.steps N P z' us ≡ next w → t ∈ us → LinePasses t) → (o : Outcome) → step N P z u ≡ o
        → elim o as (λ x. Outcome) [ Steps.refused k ↦ Steps.refused k | next z' ↦ Steps.steps N P z' us ] ≡ next w → t ∈ u ∷ us → LinePasses t
    by later (Steps.refused k) q e m = absurd (zero_one (cc))
    by later (next z') q e (Memᴰ.head p) = rw p (accepted-passes N P z z' u q)
    by later (next z') q e (Memᴰ.tail i) = later z' e i
