-- Demand 3 for programs as they are written: what `soundness` says of the plain rules that they stand for. Assumes nothing.
use mathlib.Core.Path.{subst}
use mathlib.Core.List.{List}
use Rattle.words.specs.Lists.{◌∈◌}
use Rattle.aspif.specs.Rules.{Rule, InputRule, expand, atoms}
use Rattle.aspif.specs.AnswerSets.{Constraint, AnswerSet}
use Rattle.aspif.proofs.Expansion.{expand→, expand-append, plain-atoms}
use Rattle.derivation.specs.Claims.{NoAnswerSet, WrittenConstraint, NoneAsWritten, SoundAsWritten}
use Rattle.derivation.proofs.Sound.{soundness}

-- the plain rules of constraints are constraints
pub constraints : (further : List InputRule) → ((r : InputRule) → r ∈ further → WrittenConstraint r) → (r : Rule) → r ∈ expand further → Constraint r
constraints further f r i = let x = expand→ further i in subst Constraint x.is (f x.rule x.among)

-- what holds of the plain rules holds as it is written
pub as_written : (ws : List InputRule) → NoAnswerSet (expand ws) → NoneAsWritten ws
as_written ws none = (none.0, λ further f M S. none.1 (expand further) (constraints further f) M (subst (AnswerSet M) (expand-append ws further) S))

pub soundness-as-written : SoundAsWritten
soundness-as-written ws ts z e l = as_written ws (soundness (atoms ws) (expand ws) (plain-atoms ws) ts z e l)
