use mathlib.Core.Path.{◌≡◌}
use native.Mathlib.Omega.{arith}
use lib.IntN.{pos}
use lib.ListN.{get_or}
use Rattle.words.proofs.Words.{back}
use Rattle.aspif.specs.Tables.{head_count, size_at}
use Rattle.aspif.proofs.Cursors.{shaped, start_small, body-small}
use borrow.Author.Rules.{rules}
use Rattle.aspif.proofs.tables.rule_size.Goals as goal
use Rattle.aspif.proofs.tables.rule_size.Goals.{After-variable_of}

pub head_start-requires : goal.head_start-requires
head_start-requires c = (shaped _ c.requires).long

-- how many heads there are
heads : (c : After-variable_of) → c.variable_of.result ≡ head_count c.args.words.now
heads c = rw (back (get_or c.args.words.now 1 (pos 0)) c.variable_of-arg-1.given) at c.variable_of.ensures

pub bounds-words-1 : goal.bounds-words-1
bounds-words-1 c = let l = (shaped _ c.requires).long in search rules

pub overflow_add-result : goal.overflow_add-result
overflow_add-result c =
    let e = c in
    omega (arith, heads c, c.head_start.ensures, (start_small e.args.words.now).1, (shaped _ e.requires).heads)

pub body_length-requires : goal.body_length-requires
body_length-requires c = let s = shaped _ c.requires in (s.long, s.counted)

pub overflow_add-result-2 : goal.overflow_add-result-2
overflow_add-result-2 c =
    let v = (goal.at.overflow_add-result-2 c).After-variable_of in
    let e = c in
    let s = shaped _ e.requires in
    omega (arith, c.body_length.ensures, heads v, v.head_start.ensures, (start_small e.args.words.now).1, body-small e.args.words.now, s.heads, s.body)

pub returns : goal.returns
unfolding size_at
returns c = let v = (goal.at.returns c).After-variable_of in
    let s = shaped _ v.requires in
    let b = c.body_length.ensures in
    let h = v.head_start.ensures in record { size = (omega (arith, b, heads v, h), omega (arith, s.fits, b, heads v, h)) }
