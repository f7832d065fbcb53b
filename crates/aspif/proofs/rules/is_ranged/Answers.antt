use mir.Syntax.{w32}
use mathlib.Core.Path.{◌≡◌, ◌∙◌, sym, ap}
use Prim.Native.Nat.{◌+◌, ◌*◌, ◌-◌}
use native.Mathlib.Omega.{arith}
use borrow.Author.Rules.{sfits_of}
use lib.IntN.{pos}
use lib.ListN.{get_or}
use mir.Facts.{to_z-of_z}
use Rattle.aspif.specs.Rules.{is_weight}
use Rattle.aspif.specs.Reading.{ranged}
use Rattle.aspif.proofs.rules.is_ranged.Goals as goal
use Rattle.aspif.proofs.rules.is_ranged.Goals.{After-is_weight}

-- the test of the bound
bound : (c : After-is_weight) → (let a = c.args in is_weight (get_or a.row.now (4 + a.heads) (pos 0)) ≡ c.is_weight.result)
bound c =
    let w = c.word_at in
    sym (c.is_weight.ensures ∙ ap is_weight (to_z-of_z {w = w32} (sfits_of {z = w.result} w.type_inv) ∙ w.ensures))

pub returns-then-is_weight : goal.returns-then-is_weight
unfolding ranged
returns-then-is_weight c =
    let d = (goal.at.returns-then-is_weight c).After-is_weight in
    let a = d.args in
    let e : 6 + a.heads + 2 * a.body - (6 + a.heads) ≡ 2 * a.body = omega arith in
    rw (bound d ∙ c.if-is_weight.true) (rw e at c.all_weights.ensures)

pub returns : goal.returns
unfolding ranged
returns c = rw (bound (goal.at.returns c).After-is_weight ∙ c.if-is_weight.false)
