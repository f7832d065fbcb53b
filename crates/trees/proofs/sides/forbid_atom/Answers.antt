use mathlib.Core.Path.{◌≡◌, ap, ◌∙◌}
use mathlib.Core.List.{◌++◌}
use Prim.Native.Nat.{◌-◌}
use lib.IntN.{ℤ, pos}
use lib.ListN.{length, take, replicate}
use mir.Syntax.{w32}
use mir.Val.{to_z, of_z}
use mir.Facts.{to_z-of_z}
use Rattle.splits.specs.Halves.{demand_words}
use borrow.Author.Rules.{sfits_of}
use Rattle.trees.proofs.sides.forbid_atom.Goals as goal

pub returns : goal.returns
returns c =
    let l = c.literal_of in
    let a = c.args in
    let literal : to_z w32 (of_z w32 l.result) ≡ pos a.v = to_z-of_z {w = w32} (sfits_of {z = l.result} l.type_inv) ∙ l.ensures in
    c.put_demand.ensures ∙ ap (λ (z : ℤ). (take a.used a.table.now ++ demand_words z) ++ replicate (length a.table.now - a.used - 5) (pos 0)) literal
