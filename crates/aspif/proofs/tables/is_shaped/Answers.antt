use mathlib.Core.Path.{◌≡◌, ◌∙◌, sym}
use mathlib.Core.Bool.{true}
use mathlib.Core.List.{List}
use native.Mathlib.Omega.{arith}
use borrow.Author.Rules.{sfits_of, rules}
use lib.IntN.{ℤ, pos}
use lib.ListN.{get_or}
use mir.Syntax.{w32}
use mir.Val.{to_z, of_z}
use mir.Facts.{to_z-of_z}
use Rattle.words.proofs.Words.{back}
use Rattle.aspif.specs.Rules.{is_count}
use Rattle.aspif.specs.Tables.{is_kind, head_count, size_at, shape_sound}
use Rattle.aspif.proofs.Counts.{count_small}
use Rattle.aspif.proofs.Cursors.{start_small, body-small, too_short}
use borrow.Author.Rules.{rules}
use Rattle.aspif.proofs.tables.is_shaped.Goals as goal
use Rattle.aspif.proofs.tables.is_shaped.Goals.{After-is_count, After-is_kind, Else-not-is_count-2, After-variable_of}

-- what the calls tell, one after another
first : (c : After-is_count) → is_count (get_or c.args.words.now 1 (pos 0)) ≡ c.is_count.result
first c = sym c.is_count.ensures

kind : (c : After-is_kind) → is_kind (get_or c.args.words.now 2 (pos 0)) ≡ c.is_kind.result
kind c =
    let w = c.word_at in
    let e : to_z w32 (of_z w32 w.result) ≡ get_or c.args.words.now 2 (pos 0) = to_z-of_z {w = w32} (sfits_of {z = w.result} w.type_inv) ∙ w.ensures in
    sym (rw e at c.is_kind.ensures)

-- the questions before the fourth are passed
module _ (c : Else-not-is_count-2) where
  abbrev ws : List ℤ
  ws = c.args.words.now

  heads : is_count (get_or ws 1 (pos 0)) ≡ true
  heads = first c.before.before.before.before.before.before ∙ c.if-not-is_count.false

  body_kind : is_kind (get_or ws 2 (pos 0)) ≡ true
  body_kind = kind c.before.before.before ∙ c.if-not-is_kind.false

  count : is_count (get_or ws 3 (pos 0)) ≡ true
  count = sym c.is_count-2.ensures ∙ c.if-not-is_count-2.false

-- how many heads there are
many : (c : After-variable_of) → c.variable_of.result ≡ head_count (ws c.before.before.before.before.before)
many c = rw (back (get_or (ws c.before.before.before.before.before) 1 (pos 0)) c.variable_of-arg-1.given) at c.variable_of.ensures

pub overflow_add-result : goal.overflow_add-result
overflow_add-result c =
    let e = (goal.at.overflow_add-result c).Else-not-is_count-2 in
    omega (arith, many c, c.head_start.ensures, (start_small (ws e)).1, count_small (get_or (ws e) 1 (pos 0)) (heads e))

pub body_length-requires : goal.body_length-requires
body_length-requires c =
    let e = (goal.at.body_length-requires c).Else-not-is_count-2 in
    (search rules, count e)

pub overflow_add-result-2 : goal.overflow_add-result-2
overflow_add-result-2 c =
    let v = (goal.at.overflow_add-result-2 c).After-variable_of in
    let e = (goal.at.overflow_add-result-2 c).Else-not-is_count-2 in
    omega (arith, c.body_length.ensures, many v, v.head_start.ensures, (start_small (ws e)).1, body-small (ws e), count_small (get_or (ws e) 1 (pos 0)) (heads e), count_small (get_or (ws e) 3 (pos 0)) (count e))

pub returns-then-words-lt4 : goal.returns-then-words-lt4
returns-then-words-lt4 c = sym (too_short c.args.words.now c.if-words-lt4.true)

pub returns-then-not-is_count : goal.returns-then-not-is_count
unfolding shape_sound
returns-then-not-is_count c = rw (first (goal.at.returns-then-not-is_count c).After-is_count ∙ c.if-not-is_count.true)

pub returns-then-not-is_kind : goal.returns-then-not-is_kind
unfolding shape_sound
returns-then-not-is_kind c =
    rw (first (goal.at.returns-then-not-is_kind c).After-is_count ∙ c.if-not-is_count.false, kind (goal.at.returns-then-not-is_kind c).After-is_kind ∙ c.if-not-is_kind.true)

pub returns-then-not-is_count-2 : goal.returns-then-not-is_count-2
unfolding shape_sound
returns-then-not-is_count-2 c =
    let e = (goal.at.returns-then-not-is_count-2 c).After-is_kind in
    rw (first (goal.at.returns-then-not-is_count-2 c).After-is_count ∙ e.if-not-is_count.false, kind e ∙ c.if-not-is_kind.false, sym c.is_count-2.ensures ∙ c.if-not-is_count-2.true)

pub returns-then-not-is_headed : goal.returns-then-not-is_headed
unfolding shape_sound
returns-then-not-is_headed c =
    let e = (goal.at.returns-then-not-is_headed c).Else-not-is_count-2 in
    rw (heads e, body_kind e, count e, sym c.is_headed.ensures ∙ c.if-not-is_headed.true)

pub returns : goal.returns
unfolding shape_sound size_at
returns c =
    let v = (goal.at.returns c).After-variable_of in
    let f = c in
    let e = (goal.at.returns c).Else-not-is_count-2 in
    rw (heads e, body_kind e, count e, sym f.is_headed.ensures ∙ f.if-not-is_headed.false, c.body_length.ensures, many v, v.head_start.ensures)
