use Prim.Native.Nat.{◌-◌}
use Rattle.aspif.specs.Tables.{rules_at, starts_at}
use Rattle.sums.specs.Levels.{planned, sorted_groups}
use Rattle.long_sums.proofs.InTurn.{Standing}
use Rattle.long_sums.proofs.program.emit_rules.Given as goal

abbrev pub invariant-loop-rule : goal.invariant-loop-rule
invariant-loop-rule l = Standing l.group l.rules (planned (sorted_groups (l.group - 1)) (rules_at l.rules l.table)) l.initial.output l.initial.here.place l.initial.here.atom l.output l.here (starts_at l.rule-iterator.left l.rule-iterator.words.now)
