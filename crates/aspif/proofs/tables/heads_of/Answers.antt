use mathlib.Core.Path.{◌≡◌}
use Prim.Native.Nat.{◌+◌, ◌-◌}
use native.Mathlib.Omega.{arith}
use lib.IntN.{pos}
use lib.ListN.{get_or}
use Rattle.words.proofs.Words.{back}
use Rattle.aspif.specs.Tables.{head_start, head_count, heads_at}
use Rattle.aspif.proofs.Cursors.{shaped, start_small}
use borrow.Author.Rules.{rules}
use Rattle.aspif.proofs.tables.heads_of.Goals as goal
use Rattle.aspif.proofs.tables.heads_of.Goals.{After-variable_of}

pub head_start-start-requires : goal.head_start-start-requires
head_start-start-requires c = (shaped _ c.requires).long

-- how many heads there are
heads : (c : After-variable_of) → c.variable_of.result ≡ head_count c.args.words.now
heads c = rw (back (get_or c.args.words.now 1 (pos 0)) c.variable_of-arg-1.given) at c.variable_of.ensures

pub bounds-words-1 : goal.bounds-words-1
bounds-words-1 c = let l = (shaped _ c.requires).long in search rules

pub overflow_add-end : goal.overflow_add-end
overflow_add-end c =
    let e = c in
    omega (arith, heads c, c.head_start-start.ensures, (start_small e.args.words.now).1, (shaped _ e.requires).heads)

pub offset_bounds-words-start : goal.offset_bounds-words-start
offset_bounds-words-start c =
    let e = c in
    omega (arith, c.head_start-start.ensures, (start_small e.args.words.now).1)

pub slice_bounds-result-end : goal.slice_bounds-result-end
slice_bounds-result-end c = omega (arith, (shaped _ c.requires).fits, heads c, c.head_start-start.ensures)

pub returns : goal.returns
unfolding heads_at
returns c =
    let v = (goal.at.returns c).After-variable_of in
    let ws = v.args.words.now in
    let e : head_start ws + v.variable_of.result - head_start ws ≡ head_count ws = omega (arith, heads v) in
    rw (v.head_start-start.ensures, e)
