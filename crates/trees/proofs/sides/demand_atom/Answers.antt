use mathlib.Core.Path.{◌≡◌, ap, ◌∙◌}
use mathlib.Core.List.{◌++◌}
use Prim.Native.Nat.{◌-◌}
use lib.IntN.{ℤ, pos}
use lib.ListN.{length, take, replicate}
use mir.Syntax.{w32}
use mir.Val.{to_z, of_z}
use mir.Facts.{to_z-of_z}
use Rattle.words.specs.Literals.{complement}
use Rattle.splits.specs.Halves.{demand_words}
use borrow.Author.Rules.{sfits_of}
use Rattle.trees.proofs.sides.demand_atom.Goals as goal
use Rattle.trees.proofs.sides.demand_atom.Goals.{After-literal_of}

module _ (c : After-literal_of) where
  literal : to_z w32 (of_z w32 c.literal_of.result) ≡ pos c.args.v
  literal = to_z-of_z {w = w32} (sfits_of {z = c.literal_of.result} c.literal_of.type_inv) ∙ c.literal_of.ensures

pub complement_of-requires : goal.complement_of-requires
complement_of-requires c = rw (literal c) c.requires.1

pub returns : goal.returns
returns c =
    let a = (goal.at.returns c).After-literal_of.args in
    let o = c.complement_of in
    let other : to_z w32 (of_z w32 o.result) ≡ complement (pos a.v) = to_z-of_z {w = w32} (sfits_of {z = o.result} o.type_inv) ∙ (o.ensures ∙ ap complement (literal (goal.at.returns c).After-literal_of)) in
    c.put_demand.ensures ∙ ap (λ (z : ℤ). (take a.used a.table.now ++ demand_words z) ++ replicate (length a.table.now - a.used - 5) (pos 0)) other
