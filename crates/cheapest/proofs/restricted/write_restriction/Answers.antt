use mathlib.Core.Path.{◌≡◌}
use native.Mathlib.Omega.{arith}
use lib.IntN.{pos}
use lib.ListN.{length}
use mir.Syntax.{w32}
use mir.Val.{to_z}
use mir.Facts.{to_z_pos}
use Rattle.cheapest.proofs.Words.{restriction-put}
use Rattle.cheapest.proofs.restricted.write_restriction.Goals as goal

pub returns : goal.returns
returns c =
    let s = c in
    let a = s.args in
    let n : to_z w32 (length a.sorted.now) ≡ pos (length a.sorted.now) = to_z_pos w32 (omega (arith, s.requires.sorted.1)) in
    let m : to_z w32 a.bound ≡ pos a.bound = to_z_pos w32 (omega (arith, s.requires.pairs.1)) in
    restriction-put a.pairs.now a.sorted.now s.requires.sorted.0 a.bound a.row.now c.copy.new.destination c.write_pairs.new.free
    (rw (n, m) at c.copy.ensures) c.write_pairs.ensures
