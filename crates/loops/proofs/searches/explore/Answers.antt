use borrow.Author.Tests.{not-true}
use Rattle.words.proofs.Lists.{passed, and_left, and_right}
use Rattle.marks.specs.Marks.{marked}
use Rattle.loops.proofs.Reaching.{reaching-start, reaching-on, reaching-end, undone-less}
use Rattle.loops.proofs.searches.explore.Goals as goal

pub loop-a-init : goal.loop-a-init
loop-a-init c = rw c.requires.2 (reaching-start _ _ (rw c.requires.1 at c.spread.ensures))

pub loop-a-smaller : goal.loop-a-smaller
loop-a-smaller c =
    let l = c.loop-a in
    let a = c.in-Some.a in
    rw c.advance.ensures.1
    (undone-less _ a l.done c.in-Some.ensures.0 c.requires.0 l.invariant.wide (not-true _ (and_right (marked l.found a) _ c.in-Some.ensures.1)))

pub loop-a-preserved : goal.loop-a-preserved
loop-a-preserved c =
    let l = c.loop-a in
    let a = c.in-Some.a in
    rw c.advance.ensures.1
    (reaching-on _ _ a c.in-Some.ensures.0 c.requires.0 l.invariant ((passed _).from (and_left (marked l.found a) _ c.in-Some.ensures.1)) c.advance.ensures.0)

pub returns : goal.returns
returns c = reaching-end _ _ c.in_default.ensures c.loop-a.invariant
