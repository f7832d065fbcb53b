use Rattle.trimming.proofs.Newlines.{NoLater}
use Rattle.trimming.proofs.trials.line_start.Given as goal

abbrev pub invariant-loop-before : goal.invariant-loop-before
invariant-loop-before l = NoLater l.text l.end l.before
