use mathlib.Core.Path.{◌≡◌}
use mathlib.Core.List.{map}
use Prim.Native.Nat.{max}
use Rattle.aspif.specs.Rules.{atoms}
use Rattle.aspif.specs.Tables.{rule_at, rules_at, starts_at}
use Rattle.aspif.proofs.tables.largest_atom.Given as goal

abbrev pub invariant-loop-rule : goal.invariant-loop-rule
invariant-loop-rule l = atoms (rules_at l.rules l.table) ≡ max l.most (atoms (map rule_at (starts_at l.rule-iterator.left l.rule-iterator.words.now)))
