use mathlib.Core.Path.{◌≡◌}
use Prim.Native.Nat.{◌-◌, ◌≤◌}
use lib.ListN.{length}
use Rattle.text.specs.Scan.{Start, Word, unseen, scan_from}
use Rattle.text.proofs.read_line.Given as goal

abbrev pub invariant-loop-number : goal.invariant-loop-number
invariant-loop-number l = (l.i ≤ length l.text) × (l.count ≤ l.i) × (length l.row ≡ length l.initial.row) × (scan_from l.text Start 0 unseen l.initial.row 0 ≡ scan_from l.text Word l.count l.seen l.row l.i)

abbrev pub decreases-loop-number : goal.decreases-loop-number
decreases-loop-number l = length l.text - l.i
