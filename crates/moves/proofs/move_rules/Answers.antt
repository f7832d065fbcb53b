-- `moves::move_rules` meets its contract. After some turns the rules before word i stand in the output.
-- Assumes nothing.
use mathlib.Core.Path.{◌≡◌}
use mathlib.Core.List.{List}
use Prim.Native.Nat.{ℕ, ◌-◌, ◌*◌, ◌<◌, ◌≤◌}
use native.Mathlib.Omega.{arith}
use lib.IntN.{ℤ}
use lib.ListN.{length, drop, length-drop}
use Rattle.words.proofs.Parts.{tail_of}
use Rattle.packets.specs.Bytes.{numbers_from}
use Rattle.packets.proofs.Littles.{length-numbers, numbers-later}
use Rattle.moves.specs.Moves.{RuleMovedAs}
use Rattle.moves.proofs.Moving.{moving-start, moving-first, moving-worded, moving-room, moving-less, moving-on, moving-end}
use Rattle.moves.proofs.move_rules.Goals as goal
use Rattle.moves.proofs.move_rules.Goals.{In-loop-i, After-move_rule-moved}
use Rattle.moves.proofs.move_rules.Lts.View as view
use Rattle.moves.proofs.move_rules.Reads as reads
use Rattle.moves.proofs.move_rules.Tie as tie

pub loop-i-init : goal.loop-i-init
loop-i-init c = moving-start _ _ _ _ c.requires.1

-- the words, and those that are left
module _ (c : In-loop-i) where
  abbrev bytes : List ℕ
  bytes = c.args.bytes.now

  abbrev ws : List ℤ
  ws = numbers_from 4 c.args.count bytes

  abbrev i : ℕ
  i = c.loop-i.i

  some_left : i < length ws
  some_left = omega (arith, length-numbers 4 c.args.count bytes, c.loop-i-test.true)

  room : 4 * i ≤ length bytes
  room = omega (arith, c.requires.0, c.loop-i-test.true)

  later : numbers_from 4 (c.args.count - i) (drop (4 * i) bytes) ≡ drop i ws
  later = numbers-later 4 i c.args.count bytes (omega (arith, c.loop-i-test.true))

pub overflow_mul-at : goal.overflow_mul-at
overflow_mul-at c = record { fits = omega (arith, room c) }

pub slice_bounds-move_rule-count : goal.slice_bounds-move_rule-count
slice_bounds-move_rule-count c = room c

pub move_rule-moved-requires : goal.move_rule-moved-requires
move_rule-moved-requires c = let d = (goal.at.move_rule-moved-requires c).In-loop-i in
    let m = d.loop-i.invariant in rw (tail_of (4 * i d) (bytes d), later d)
    (record { room = (omega (arith, length-drop (4 * i d) (bytes d), d.requires.0), omega (arith, moving-room m (some_left d))); sound = (moving-first m (some_left d)).passing; words = moving-worded m (some_left d) })

-- the rule there is moved
module _ (c : After-move_rule-moved) where
  abbrev d : In-loop-i
  d = (view.up-In-loop-i tie.the-claims reads.Pre reads.Post goal.the-invariant-loop-i goal.the-decreases-loop-i tie.handed_clauses c.before.before.before.before)

  told : RuleMovedAs d.args.from d.args.to (drop (i d) (ws d)) d.loop-i.output c.move_rule-moved.new.output d.loop-i.end c.move_rule-moved.result
  told = rw (tail_of (4 * i d) (bytes d), later d) at c.move_rule-moved.ensures

pub overflow_add-i : goal.overflow_add-i
overflow_add-i c =
    let e = (goal.at.overflow_add-i c).After-move_rule-moved in
    let f = d e in
    record { fits = omega (arith, (told e).within, length-drop (i f) (ws f), length-numbers 4 f.args.count (bytes f), f.ranges.count.fits, some_left f) }

pub loop-i-smaller : goal.loop-i-smaller
loop-i-smaller c =
    let e = (goal.at.loop-i-smaller c).After-move_rule-moved in
    let f = d e in
    omega (arith, moving-less f.loop-i.invariant (some_left f) (told e), f.loop-i-test.true)

pub loop-i-preserved : goal.loop-i-preserved
loop-i-preserved c = let e = (goal.at.loop-i-preserved c).After-move_rule-moved in moving-on (d e).loop-i.invariant (some_left (d e)) (told e)

pub returns : goal.returns
returns c =
    let s = c.args in
    moving-end c.loop-i.invariant (omega (arith, c.loop-i-test.false, length-numbers 4 s.count s.bytes.now))
