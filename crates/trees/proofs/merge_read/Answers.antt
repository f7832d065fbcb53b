use mathlib.Core.Path.{sym, ◌∙◌}
use lib.ListN.{length}
use Rattle.trees.proofs.Answers.{Fitting, fitting, fitting-tree, no-tree, whole-tree}
use Rattle.trees.proofs.merge_read.Goals as goal
use Rattle.trees.proofs.merge_read.Goals.{Else-not-is_tree}

-- 64 is passed
module _ (c : Else-not-is_tree) where
  fits : Fitting c.args.atoms c.args.tree.now c.args.texts.now c.args.lengths.now
  fits = fitting c.args.atoms c.args.tree.now c.args.texts.now c.args.lengths.now (sym c.is_tree.ensures ∙ c.if-not-is_tree.false)

pub returns-then-not-is_tree : goal.returns-then-not-is_tree
returns-then-not-is_tree c = λ ws p w.
    let a = c.args in
    c.refuse.ensures
    ∙ no-tree a.atoms a.tree.now a.texts.now a.lengths.now (length a.table.now) (length a.store.now) (length a.output.now) ws p.top (sym c.is_tree.ensures ∙ c.if-not-is_tree.true)

pub merge_whole-requires : goal.merge_whole-requires
merge_whole-requires c = let d = (goal.at.merge_whole-requires c).Else-not-is_tree in
    let a = d.args in
    let q = d.requires in record { program = q.program; short = q.short; tree = ((fits d).shape, fitting-tree a.atoms a.tree.now a.texts.now a.lengths.now (fits d)); empty = q.empty }

pub returns : goal.returns
returns c = λ ws p w.
    let d = (goal.at.returns c).Else-not-is_tree in
    let a = d.args in
    c.merge_whole.ensures ws p w (fits d).shape (fitting-tree a.atoms a.tree.now a.texts.now a.lengths.now (fits d))
    ∙ whole-tree a.atoms a.tree.now a.texts.now a.lengths.now (length a.table.now) (length a.store.now) (length a.output.now) ws p.top (fits d)
