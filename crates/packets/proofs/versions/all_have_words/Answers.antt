-- `packets::versions::all_have_words` meets its contract.
-- Assumes nothing.
use mathlib.Core.Path.{sym}
use Rattle.aspif.specs.Tables.{rules_at}
use Rattle.packets.proofs.RuleParts.{all-worded}
use Rattle.packets.proofs.versions.all_have_words.Goals as goal

pub returns-in-One : goal.returns-in-One
returns-in-One c = rw c.in-One.is c.all_plain.ensures

pub returns-in-Two : goal.returns-in-Two
returns-in-Two c = let a = c.args in rw c.in-Two.is (sym (all-worded (rules_at a.rules a.table.now)))
