use Rattle.aspif.specs.Tables.{starts_at}
use Rattle.aspif.proofs.Used.{Passed}
use Rattle.aspif.proofs.tables.words_used.Given as goal

abbrev pub invariant-loop-rule : goal.invariant-loop-rule
invariant-loop-rule l = Passed l.table l.rules l.used (starts_at l.rule-iterator.left l.rule-iterator.words.now)
