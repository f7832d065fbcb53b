use mathlib.Core.Path.{◌≡◌}
use mathlib.Core.List.{map}
use lib.ListN.{drop}
use Rattle.words.specs.Limits.{largest}
use Rattle.words.specs.Lists.{ascends}
use Rattle.words.specs.Literals.{variable}
use Rattle.aspif.proofs.tables.ascends_by_variable.Given as goal

abbrev pub invariant-loop-word : goal.invariant-loop-word
invariant-loop-word l = ascends 0 largest (map variable l.words) ≡ ascends l.low largest (map variable (drop l.word-index l.words))
