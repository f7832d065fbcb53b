-- `packets::reader::read_rules` meets its contract. After some turns the rules before word i stand in the table.
-- Assumes nothing.
use mathlib.Core.Path.{◌≡◌, refl, ◌∙◌}
use mathlib.Core.List.{List}
use Prim.Native.Nat.{ℕ, ◌*◌, ◌≤◌, ◌<◌}
use native.Mathlib.Omega.{arith}
use lib.IntN.{ℤ}
use lib.ListN.{length, drop, length-drop}
use Rattle.words.proofs.Parts.{tail_of}
use Rattle.packets.specs.Bytes.{numbers_from}
use Rattle.packets.specs.Parts.{RuleTold}
use Rattle.packets.proofs.Littles.{length-numbers, numbers-later}
use Rattle.packets.proofs.RulesRead.{filling-start, filling-kept, filling-full, filling-stop, filling-near, filling-on, filling-end}
use Rattle.packets.proofs.reader.read_rules.Goals as goal
use Rattle.packets.proofs.reader.read_rules.Goals.{In-loop-i, After-read_rule-read}
use Rattle.packets.proofs.reader.read_rules.Lts.View as view
use Rattle.packets.proofs.reader.read_rules.Reads as reads
use Rattle.packets.proofs.reader.read_rules.Tie as tie

pub loop-i-init : goal.loop-i-init
loop-i-init c = filling-start _ _ _

-- the words, and those that are left
module _ (c : In-loop-i) where
  abbrev ws : List ℤ
  ws = numbers_from 4 c.args.count c.args.bytes.now

  abbrev i : ℕ
  i = c.loop-i.i

  long : length ws ≡ c.args.count
  long = length-numbers 4 c.args.count c.args.bytes.now

  some_left : i < length ws
  some_left = omega (arith, long, c.loop-i-test.true)

  room : 4 * i ≤ length c.args.bytes.now
  room = omega (arith, c.requires, c.loop-i-test.true)

-- what is told of the rule there
module _ (c : After-read_rule-read) where
  abbrev d : In-loop-i
  d = (view.up-In-loop-i tie.the-claims reads.Pre reads.Post goal.the-invariant-loop-i goal.the-decreases-loop-i c.before.before.before.before.before)

  abbrev after : List ℤ
  after = c.read_rule-read.new.table

  kept : length after ≡ length d.args.table.now
  kept = c.read_rule-read.auto.table ∙ filling-kept d.loop-i.invariant

  told : RuleTold d.args.version (drop (i d) (ws d)) d.loop-i.table after d.loop-i.words c.read_rule-read.result
  told =
      let bytes = d.args.bytes.now in
      rw (tail_of (4 * i d) bytes, numbers-later 4 (i d) d.args.count bytes (omega (arith, d.loop-i-test.true))) at c.read_rule-read.ensures

pub returns-then-rules-ge-MOST_RULES : goal.returns-then-rules-ge-MOST_RULES
returns-then-rules-ge-MOST_RULES c = let d = (goal.at.returns-then-rules-ge-MOST_RULES c).In-loop-i in rw (filling-full d.loop-i.invariant (some_left d) c.if-rules-ge-MOST_RULES.true) refl

pub overflow_mul-from : goal.overflow_mul-from
overflow_mul-from c = record { fits = omega (arith, room (goal.at.overflow_mul-from c).In-loop-i) }

pub slice_bounds-read_rule-count : goal.slice_bounds-read_rule-count
slice_bounds-read_rule-count c = room (goal.at.slice_bounds-read_rule-count c).In-loop-i

pub read_rule-read-requires : goal.read_rule-read-requires
read_rule-read-requires c =
    let d = (goal.at.read_rule-read-requires c).In-loop-i in
    let bytes = d.args.bytes.now in
    rw (tail_of (4 * i d) bytes) (omega (arith, length-drop (4 * i d) bytes, d.requires))

pub returns-then-read-eq0 : goal.returns-then-read-eq0
returns-then-read-eq0 c =
    let e = (goal.at.returns-then-read-eq0 c).After-read_rule-read in
    let f = d e in
    rw (filling-stop f.loop-i.invariant (some_left f) (told e) c.if-read-eq0.true) refl

pub overflow_add-i : goal.overflow_add-i
overflow_add-i c =
    let e = (goal.at.overflow_add-i c).After-read_rule-read in
    let f = d e in
    record { fits = omega (arith, (told e).within, length-drop (i f) (ws f), long f, f.ranges.count.fits, f.loop-i-test.true) }

pub overflow_add-words : goal.overflow_add-words
overflow_add-words c =
    let e = (goal.at.overflow_add-words c).After-read_rule-read in
    let f = d e in
    let g = f.loop-i.invariant in
    let n = filling-near g (some_left f) (told e) c.if-read-eq0.false in
    record { fits = omega (arith, n, (told e).within, length-drop (i f) (ws f), long f, room f, f.requires, g.near, g.few) }

pub overflow_add-rules : goal.overflow_add-rules
overflow_add-rules c = record { fits = omega (arith, c.loop-i.invariant.few) }

pub loop-i-smaller : goal.loop-i-smaller
loop-i-smaller c = let f = d (goal.at.loop-i-smaller c).After-read_rule-read in omega (arith, c.if-read-eq0.false, f.loop-i-test.true)

pub loop-i-preserved : goal.loop-i-preserved
loop-i-preserved c =
    let e = (goal.at.loop-i-preserved c).After-read_rule-read in
    let f = d e in
    filling-on f.loop-i.invariant (some_left f) (told e) c.if-read-eq0.false c.larger-top.ensures (omega (arith, c.if-rules-ge-MOST_RULES.false))

pub returns : goal.returns
returns c =
    let a = c.args in
    filling-end c.loop-i.invariant (omega (arith, c.loop-i-test.false, length-numbers 4 a.count a.bytes.now))
