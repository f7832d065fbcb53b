use mathlib.Core.Path.{◌≡◌}
use lib.ListN.{length}
use Rattle.aspif.specs.Tables.{starts_at}
use Rattle.loops.proofs.Filling.{Entering}
use Rattle.loops.proofs.relevance.fill.Given as goal

abbrev pub invariant-loop-rule : goal.invariant-loop-rule
invariant-loop-rule l =
    Entering l.table l.rules l.relevant l.at (starts_at l.rule-iterator.left l.rule-iterator.words.now)
    × (length l.relevant ≡ length l.initial.relevant)
