-- `moves::move_rule` meets its contract.
-- Assumes nothing.
use mathlib.Core.Path.{◌≡◌}
use mathlib.Core.Bool.{true}
use mathlib.Core.List.{List}
use lib.IntN.{ℤ}
use Rattle.aspif.specs.Tables.{rule_at, sound_at}
use Rattle.packets.specs.Bytes.{numbers_from}
use Rattle.packets.specs.Packets.{rule_in}
use Rattle.moves.proofs.Moving.{row-rule}
use Rattle.moves.proofs.move_rule.Goals as goal
use Rattle.moves.proofs.move_rule.Goals.{After-read_rule-read}

-- the row that the rule stands in
module _ (c : After-read_rule-read) where
  abbrev row : List ℤ
  row = c.read_rule-read.new.table

  abbrev ws : List ℤ
  ws = numbers_from 4 c.args.count c.args.bytes.now

  stands : (sound_at row ≡ true) × (rule_at row ≡ rule_in c.args.from ws)
  stands = row-rule c.args.from ws c.requires.sound c.read_rule-read.ensures

pub put_rule-end-requires : goal.put_rule-end-requires
put_rule-end-requires c =
    let d = (goal.at.put_rule-end-requires c).After-read_rule-read in
    ((stands d).0, (rw (stands d).1 d.requires.words, d.requires.room.1))

pub returns : goal.returns
returns c =
    let d = (goal.at.returns c).After-read_rule-read in
    let p = c.put_rule-end.ensures in
    record { size = d.read_rule-read.ensures.size; within = d.read_rule-read.ensures.within; put = rw (stands d).1 at p.put; near = p.upper_bound }
