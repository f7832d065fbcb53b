use mir.Syntax.{w32}
use mathlib.Core.Path.{◌≡◌, ◌∙◌, sym, ap}
use mathlib.Core.Bool.{true}
use Prim.Native.Nat.{◌+◌, ◌≤◌}
use native.Mathlib.Omega.{arith}
use borrow.Author.Rules.{sfits_of}
use borrow.Author.Tests.{eq-eqb, ne_eqb}
use lib.IntN.{pos}
use lib.ListN.{get_or}
use mir.Facts.{to_z-of_z}
use Rattle.words.specs.Limits.{most_literals}
use Rattle.words.specs.Literals.{variable}
use Rattle.aspif.specs.Reading.{is_count_at}
use Rattle.aspif.proofs.Counts.{count-small-at}
use Rattle.aspif.proofs.rules.weighed_shape.Goals as goal
use Rattle.aspif.proofs.rules.weighed_shape.Goals.{After-variable_of-body}

-- the body count, and that it is one
module _ (c : After-variable_of-body) where
  counted : (let a = c.args in is_count_at a.row.now a.count (5 + a.heads) ≡ true)
  counted = sym c.is_count_at.ensures ∙ c.if-is_count_at.true

  body : (let a = c.args in c.variable_of-body.result ≡ variable (get_or a.row.now (5 + a.heads) (pos 0)))
  body =
      let w = c.word_at in
      c.variable_of-body.ensures ∙ ap variable (to_z-of_z {w = w32} (sfits_of {z = w.result} w.type_inv) ∙ w.ensures)

  small : c.variable_of-body.result ≤ most_literals
  small = rw body (let a = c.args in count-small-at a.row.now a.count (5 + a.heads) counted)

pub overflow_mul-body : goal.overflow_mul-body
overflow_mul-body c = record { fits = omega (arith, small c) }

pub overflow_add-heads-then-is_count_at-3 : goal.overflow_add-heads-then-is_count_at-3
overflow_add-heads-then-is_count_at-3 c = record { fits = omega (arith, small c, c.requires) }

pub few_shape-requires : goal.few_shape-requires
few_shape-requires c =
    let s = c in
    (s.requires.0, small (goal.at.few_shape-requires c).After-variable_of-body, omega (arith, small (goal.at.few_shape-requires c).After-variable_of-body, s.requires))

pub returns-then-heads-body : goal.returns-then-heads-body
returns-then-heads-body c =
    let d = (goal.at.returns-then-heads-body c).After-variable_of-body in
    c.few_shape.ensures ∙ rw (body d, counted d, eq-eqb _ _ (rw (body d) at c.if-heads-body.true))

pub returns-else-heads-body : goal.returns-else-heads-body
returns-else-heads-body c = let d = (goal.at.returns-else-heads-body c).After-variable_of-body in rw (counted d, ne_eqb _ _ (rw (body d) at c.if-heads-body.false))

pub returns-else-is_count_at : goal.returns-else-is_count_at
returns-else-is_count_at c = rw (sym c.is_count_at.ensures ∙ c.if-is_count_at.false)
