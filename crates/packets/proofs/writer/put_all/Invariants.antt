-- After i turns the first i words are put.
use Prim.Native.Nat.{◌+◌, ◌*◌, ◌≤◌}
use lib.ListN.{drop}
use Rattle.packets.specs.Bytes.{bytes_of}
use Rattle.packets.proofs.Writes.{Going}
use Rattle.packets.proofs.writer.put_all.Given as goal

abbrev pub invariant-loop-word : goal.invariant-loop-word
invariant-loop-word l = Going (bytes_of l.k l.row) (bytes_of l.k (drop l.word-index l.row)) l.initial.buffer l.buffer l.at l.end × (l.end ≤ l.at + 4 * l.word-index)
