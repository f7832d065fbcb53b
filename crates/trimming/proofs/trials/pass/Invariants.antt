use Rattle.trimming.proofs.Turns.{Passing}
use Rattle.trimming.proofs.trials.pass.Given as goal

abbrev pub invariant-loop-at : goal.invariant-loop-at
invariant-loop-at l = Passing l.initial.text l.len l.initial.trial l.table l.rules l.atoms l.initial.store l.text l.trial l.store l.at l.left

abbrev pub decreases-loop-at : goal.decreases-loop-at
decreases-loop-at l = l.at
