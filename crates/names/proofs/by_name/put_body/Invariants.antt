use Rattle.std.proofs.Common.{◌≡◌, ◌+◌, drop}
use lib.Seq.{sets}
use Rattle.names.proofs.by_name.put_body.Given as goal

abbrev pub invariant-loop-i : goal.invariant-loop-i
invariant-loop-i l = sets l.bodies (l.at + l.i) (drop l.i l.body) ≡ sets l.initial.bodies l.at l.body
