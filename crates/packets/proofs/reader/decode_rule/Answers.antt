-- `packets::reader::decode_rule` meets its contract, by the version.
-- Assumes nothing.
use mathlib.Core.Path.{◌≡◌, ◌∙◌, ap}
use mathlib.Core.List.{List}
use Prim.Native.Nat.{◌-◌}
use native.Mathlib.Omega.{arith}
use lib.IntN.{ℤ}
use lib.ListN.{length, drop}
use borrow.Rule.Slice.PartMut.{put_mid}
use Rattle.words.proofs.Parts.{tail_of}
use Rattle.packets.specs.Bytes.{numbers_from}
use Rattle.packets.specs.Packets.{with_kind}
use Rattle.packets.proofs.RulesRead.{row_words}
use Rattle.packets.proofs.reader.decode_rule.Goals as goal
use Rattle.packets.proofs.reader.decode_rule.Goals.{After-read_numbers}

-- the words, and the row that has them from its second place on
module _ (c : After-read_numbers) where
  abbrev ws : List ℤ
  ws = let a = c.args in numbers_from 4 (length a.row.now - 1) a.bytes.now

  abbrev row : List ℤ
  row = let r = c.args.row.now in put_mid 1 (length r - 1) r c.read_numbers.new.row

  row_is : drop 1 row ≡ ws
  row_is = let a = c in row_words a.args.row.now a.args.bytes.now (omega (arith, a.requires.0)) c.read_numbers.ensures

pub returns-in-One : goal.returns-in-One
returns-in-One c =
    let d = (goal.at.returns-in-One c).After-read_numbers in
    rw c.in-One.is (c.take_rule.ensures (ws d) (c.put_kind.ensures ∙ ap with_kind (row_is d)))

pub returns-in-Two : goal.returns-in-Two
returns-in-Two c =
    let d = (goal.at.returns-in-Two c).After-read_numbers in
    rw c.in-Two.is (c.take_rule-in-Two.ensures (ws d) (tail_of 1 (row d) ∙ row_is d))
