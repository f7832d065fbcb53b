use Rattle.trimming.proofs.Turns.{Repeated}
use Rattle.trimming.proofs.trials.passes.Given as goal

abbrev pub invariant-loop-len : goal.invariant-loop-len
invariant-loop-len l = Repeated l.initial.text l.table l.rules l.atoms l.initial.store l.text l.store l.trial l.len

abbrev pub decreases-loop-len : goal.decreases-loop-len
decreases-loop-len l = l.len
