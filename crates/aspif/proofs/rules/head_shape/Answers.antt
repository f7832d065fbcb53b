use mir.Syntax.{w32}
use mathlib.Core.Path.{◌≡◌, ◌∙◌, sym, ap}
use mathlib.Core.Bool.{true}
use Prim.Native.Nat.{◌≤◌}
use native.Mathlib.Omega.{arith}
use borrow.Author.Rules.{sfits_of}
use borrow.Author.Tests.{le-leb, lt-leb}
use lib.IntN.{pos}
use lib.ListN.{get_or}
use mir.Facts.{to_z-of_z}
use Rattle.words.specs.Limits.{most_literals}
use Rattle.words.specs.Literals.{variable}
use Rattle.aspif.specs.Reading.{is_count_at}
use Rattle.aspif.proofs.Counts.{count-small-at}
use Rattle.aspif.proofs.rules.head_shape.Goals as goal
use Rattle.aspif.proofs.rules.head_shape.Goals.{After-variable_of-heads}

-- the head count, and that it is one
module _ (c : After-variable_of-heads) where
  counted : (let a = c.args in is_count_at a.row.now a.count 2 ≡ true)
  counted = sym c.is_count_at.ensures ∙ c.if-is_count_at.true

  heads : c.variable_of-heads.result ≡ variable (get_or c.args.row.now 2 (pos 0))
  heads =
      let w = c.word_at in
      c.variable_of-heads.ensures ∙ ap variable (to_z-of_z {w = w32} (sfits_of {z = w.result} w.type_inv) ∙ w.ensures)

  small : c.variable_of-heads.result ≤ most_literals
  small = rw heads (let a = c.args in count-small-at a.row.now a.count 2 counted)

pub overflow_add-heads : goal.overflow_add-heads
overflow_add-heads c =
    record { fits = omega (arith, small c) }

pub body_shape-requires : goal.body_shape-requires
body_shape-requires c =
    (small (goal.at.body_shape-requires c).After-variable_of-heads, c.requires)

pub returns-then-heads-count : goal.returns-then-heads-count
returns-then-heads-count c =
    let d = (goal.at.returns-then-heads-count c).After-variable_of-heads in
    c.body_shape.ensures
    ∙ rw (heads d, counted d, le-leb _ _ (rw (heads d) at c.if-heads-count.true))

pub returns-else-heads-count : goal.returns-else-heads-count
returns-else-heads-count c =
    let d = (goal.at.returns-else-heads-count c).After-variable_of-heads in rw (counted d, lt-leb _ _ (rw (heads d) at c.if-heads-count.false))

pub returns-else-is_count_at : goal.returns-else-is_count_at
returns-else-is_count_at c =
    rw (sym c.is_count_at.ensures ∙ c.if-is_count_at.false)
