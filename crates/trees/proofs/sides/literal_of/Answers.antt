use native.Mathlib.Omega.{arith}
use mir.Syntax.{w32}
use mir.Facts.{to_z_pos}
use Rattle.trees.proofs.sides.literal_of.Goals as goal

pub returns : goal.returns
returns c = to_z_pos w32 {n = c.args.v} (omega (arith, c.requires))
