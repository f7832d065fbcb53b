use lib.IntN.{pos}
use lib.ListN.{get_or}
use Rattle.std.proofs.Common.{rules}
use Rattle.words.proofs.Places.{in-at}
use Rattle.words.proofs.Words.{back}
use Rattle.loops.proofs.edges.are_few.Goals as goal

pub left_after-left-requires : goal.left_after-left-requires
left_after-left-requires c =
    let x = get_or c.args.numbers.now c.loop-x.x-index (pos 0) in
    rw (c.variable_of.ensures, back x (search rules)) (c.requires.high x (in-at (pos 0) c.args.numbers.now _ c.loop-x-test.true))
