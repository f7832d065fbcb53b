use mathlib.Core.Path.{refl, sym, ap}
use native.Mathlib.Omega.{arith}
use Rattle.shapes.specs.Tree.{Parsed, tree_of}
use Rattle.shapes.specs.Walks.{is_tree}
use Rattle.shapes.proofs.Steps.{told-tree}
use Rattle.shapes.proofs.is_tree.Goals as goal

pub shape-requires : goal.shape-requires
shape-requires c = record { depth = omega arith; path = refl }

pub returns-in-None : goal.returns-in-None
returns-in-None c =
    let a = c.args in
    sym (ap (λ (p : Parsed). is_tree p a.size a.lengths.now) c.in-None.ensures)

pub returns-in-Some : goal.returns-in-Some
returns-in-Some c =
    let a = c.args in
    let p = tree_of 6 _ a.atoms a.tree.now in
    told-tree p a.tree.now _ c.in-Some.ensures a.size a.lengths.now c.adds_up.result c.adds_up.ensures
