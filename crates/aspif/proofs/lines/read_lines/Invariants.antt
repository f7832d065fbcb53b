use Prim.Native.Nat.{◌-◌}
use lib.ListN.{length}
use Rattle.aspif.proofs.Passes.{Standing}
use Rattle.aspif.proofs.lines.read_lines.Given as goal

abbrev pub invariant-lines : goal.invariant-lines
invariant-lines l = Standing l.most l.text l.initial.table l.table l.at l.line l.used l.rules l.atoms

abbrev pub decreases-lines : goal.decreases-lines
decreases-lines l = length l.text - l.at
