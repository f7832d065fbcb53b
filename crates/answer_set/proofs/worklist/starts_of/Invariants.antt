use Prim.Native.Nat.{◌-◌}
use Rattle.std.specs.Iterator.Adapters.{enumerate_source, enumerate_count}
use Rattle.aspif.specs.Tables.{starts_at}
use Rattle.answer_set.proofs.Giving.{StartsSoFar}
use Rattle.answer_set.proofs.worklist.starts_of.Given as goal

abbrev pub invariant-loop-before : goal.invariant-loop-before
invariant-loop-before l =
    (goal.iterator-loop-before).can_next l.before-iterator
    × (goal.iterator-loop-before).is_finite l.before-iterator
    × StartsSoFar l.table l.rules (l.rules - enumerate_count l.before-iterator) l.start l.starts
    (starts_at (enumerate_source l.before-iterator).left (enumerate_source l.before-iterator).words.now)
