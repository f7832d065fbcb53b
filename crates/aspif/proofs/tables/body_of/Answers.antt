use mathlib.Core.Path.{◌≡◌}
use Prim.Native.Nat.{◌+◌, ◌-◌}
use native.Mathlib.Omega.{arith}
use lib.IntN.{pos}
use lib.ListN.{get_or}
use Rattle.words.proofs.Words.{back}
use Rattle.aspif.specs.Tables.{head_start, head_count, body_length, body_words_at, size_at}
use Rattle.aspif.proofs.Cursors.{shaped, start_small}
use borrow.Author.Rules.{rules}
use Rattle.aspif.proofs.tables.body_of.Goals as goal
use Rattle.aspif.proofs.tables.body_of.Goals.{After-variable_of}

pub head_start-requires : goal.head_start-requires
head_start-requires c = (shaped _ c.requires).long

-- how many heads there are
heads : (c : After-variable_of) → c.variable_of.result ≡ head_count c.args.words.now
heads c = rw (back (get_or c.args.words.now 1 (pos 0)) c.variable_of-arg-1.given) at c.variable_of.ensures

pub bounds-words-1 : goal.bounds-words-1
bounds-words-1 c = let l = (shaped _ c.requires).long in search rules

pub overflow_add-start : goal.overflow_add-start
overflow_add-start c =
    let e = c in
    omega (arith, heads c, c.head_start.ensures, (start_small e.args.words.now).1, (shaped _ e.requires).heads)

pub offset_bounds-words-start : goal.offset_bounds-words-start
offset_bounds-words-start c =
    let v = (goal.at.offset_bounds-words-start c).After-variable_of in
    let e = c in
    omega (arith, heads v, v.head_start.ensures, (start_small e.args.words.now).1, (shaped _ e.requires).heads)

pub slice_bounds-result-count : goal.slice_bounds-result-count
unfolding size_at
slice_bounds-result-count c = let v = (goal.at.slice_bounds-result-count c).After-variable_of in omega (arith, c.rule_size-end.ensures.size.0, heads v, v.head_start.ensures)

pub slice_bounds-result-start : goal.slice_bounds-result-start
unfolding size_at
slice_bounds-result-start c = let v = (goal.at.slice_bounds-result-start c).After-variable_of in omega (arith, c.rule_size-end.ensures.size.0, heads v, v.head_start.ensures)

pub returns : goal.returns
unfolding body_words_at size_at
returns c =
    let v = (goal.at.returns c).After-variable_of in
    let ws = v.args.words.now in
    let b : c.rule_size-end.result - (head_start ws + head_count ws) ≡ body_length ws = omega (arith, c.rule_size-end.ensures.size.0) in
    rw (v.head_start.ensures, heads v, b)
