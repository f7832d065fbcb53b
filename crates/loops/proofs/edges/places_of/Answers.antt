use mathlib.Core.Path.{◌≡◌}
use native.Mathlib.Omega.{arith}
use lib.IntN.{pos}
use lib.ListN.{get_or}
use Rattle.std.proofs.Common.{rules}
use Rattle.words.specs.Literals.{variable}
use Rattle.words.proofs.Words.{back}
use Rattle.words.proofs.Places.{in-at}
use Rattle.loops.proofs.Placing.{placing-none, placing-on, placed}
use Rattle.loops.proofs.edges.places_of.Goals as goal
use Rattle.loops.proofs.edges.places_of.Goals.{After-variable_of-v}

tells : (c : After-variable_of-v) → c.variable_of-v.result ≡ variable (get_or c.args.numbers.now c.loop-i.i (pos 0))
tells c = rw (back (get_or c.args.numbers.now c.loop-i.i (pos 0)) (search rules)) at c.variable_of-v.ensures

pub bounds-places-v : goal.bounds-places-v
bounds-places-v c = omega (arith, tells c, c.requires.high _ (in-at (pos 0) c.args.numbers.now c.loop-i.i c.loop-i-test.true))

pub loop-i-preserved : goal.loop-i-preserved
loop-i-preserved c = let l = c.loop-i in rw (tells c) (placing-on c.args.numbers.now c.requires l.places l.i c.loop-i-test.true l.invariant)

pub returns : goal.returns
returns c = let l = c.loop-i in placed _ _ l.i (omega arith) c.loop-i-test.false l.invariant

pub loop-i-init : goal.loop-i-init
loop-i-init c = placing-none _
