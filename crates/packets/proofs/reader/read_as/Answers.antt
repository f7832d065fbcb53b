-- `packets::reader::read_as` meets its contract.
-- Assumes nothing.
use mathlib.Core.Path.{◌≡◌, sym, ◌∙◌, ap}
use mathlib.Core.Bool.{true}
use mathlib.Core.List.{List}
use Prim.Native.Nat.{ℕ, ◌+◌, ◌-◌, ◌*◌, ◌≤◌}
use native.Mathlib.Omega.{arith}
use lib.ListN.{length, take, drop, length-drop}
use lib.Seq.{length-take-le}
use borrow.Author.Rules.{rules}
use Rattle.words.proofs.Parts.{tail_of}
use Rattle.packets.specs.Packets.{word_count, step_count, word_part, step_part, lengths_fit, fills, parts_read, pair_in}
use Rattle.packets.proofs.Littles.{part-is}
use Rattle.packets.proofs.Decoded.{fit_parts}
use Rattle.packets.proofs.Given.{no-mark, no_lengths, parts-left, early, parts-given}
use Rattle.packets.proofs.reader.read_as.Goals as goal
use Rattle.packets.proofs.reader.read_as.Goals.{Else-not-lengths_fit, After-count_at-steps}
use Rattle.packets.proofs.reader.read_as.Lts.View as view
use Rattle.packets.proofs.reader.read_as.Reads as reads
use Rattle.packets.proofs.reader.read_as.Tie as tie

pub returns-then-not-is_marked : goal.returns-then-not-is_marked
returns-then-not-is_marked c =
    let b = c in
    let a = b.args in
    let m = sym c.is_marked.ensures ∙ c.if-not-is_marked.true in
    early a.version a.packet.now 51 (no-mark a.version a.packet.now m) b.requires.0 b.requires.1

pub returns-then-not-lengths_fit : goal.returns-then-not-lengths_fit
returns-then-not-lengths_fit c =
    let b = c in
    let a = b.args in
    let m = sym c.is_marked.ensures ∙ c.if-not-is_marked.false in
    let l = sym c.lengths_fit.ensures ∙ c.if-not-lengths_fit.true in
    early a.version a.packet.now 52 (no_lengths a.version a.packet.now m l) b.requires.0 b.requires.1

-- past the lengths
module _ (c : Else-not-lengths_fit) where
  abbrev packet : List ℕ
  packet = c.args.packet.now

  fit : lengths_fit packet ≡ true
  fit = sym c.lengths_fit.ensures ∙ c.if-not-lengths_fit.false

  known : (13 ≤ length packet) × ((13 + 4 * word_count packet ≤ length packet) × (fills (step_count packet) (step_part packet) ≡ true))
  known = fit_parts packet fit

pub count_at-count-requires : goal.count_at-count-requires
count_at-count-requires c = omega (arith, (known c).0)

pub count_at-steps-requires : goal.count_at-steps-requires
count_at-steps-requires c = omega (arith, (known (goal.at.count_at-steps-requires c).Else-not-lengths_fit).0)

-- the words end within the packet, and the parts are those of the packet
module _ (c : After-count_at-steps) where
  abbrev p : List ℕ
  p = packet (view.up-Else-not-lengths_fit tie.the-claims reads.Pre reads.Post tie.handed_clauses c.before.before.before)

  abbrev n : ℕ
  n = c.count_at-count.result

  -- the bytes of the words, and of the steps
  abbrev parts : List ℕ × List ℕ
  parts = (take (13 + 4 * n - 13) (drop 13 p), take (length p - (13 + 4 * n)) (drop (13 + 4 * n) p))

  room : 13 + 4 * n ≤ length p
  room = omega (arith, c.count_at-count.ensures.0, (known (view.up-Else-not-lengths_fit tie.the-claims reads.Pre reads.Post tie.handed_clauses c.before.before.before)).1.0)

  words-there : parts.0 ≡ word_part p
  words-there = part-is (4 * n) 13 p ∙ ap (λ (w : ℕ). take (4 * w) (drop 13 p)) c.count_at-count.ensures.0

  steps-there : parts.1 ≡ step_part p
  steps-there = tail_of (13 + 4 * n) p ∙ ap (λ (w : ℕ). drop (13 + 4 * w) p) c.count_at-count.ensures.0

  comes-to : (let v = c.args.version in pair_in v p ≡ parts_read v n parts.0 c.count_at-steps.result parts.1)
  comes-to =
      let v = c.args.version in
      let m = sym c.is_marked.ensures ∙ c.if-not-is_marked.false in
      parts-left v p m (fit (view.up-Else-not-lengths_fit tie.the-claims reads.Pre reads.Post tie.handed_clauses c.before.before.before)) _ _ _ _ c.count_at-count.ensures.0 words-there c.count_at-steps.ensures.0 steps-there

pub slice_bounds-read_parts-end : goal.slice_bounds-read_parts-end
slice_bounds-read_parts-end c = let r = room (goal.at.slice_bounds-read_parts-end c).After-count_at-steps in search rules

pub slice_bounds-read_parts-start-2 : goal.slice_bounds-read_parts-start-2
slice_bounds-read_parts-start-2 c = let r = room (goal.at.slice_bounds-read_parts-start-2 c).After-count_at-steps in search rules

pub slice_bounds-read_parts-count-2 : goal.slice_bounds-read_parts-count-2
slice_bounds-read_parts-count-2 c = room (goal.at.slice_bounds-read_parts-count-2 c).After-count_at-steps

pub read_parts-requires : goal.read_parts-requires
read_parts-requires c = let d = (goal.at.read_parts-requires c).After-count_at-steps in
    let m = known (goal.at.read_parts-requires c).Else-not-lengths_fit in
    let l = length-take-le (4 * word_count (p d)) (drop 13 (p d)) (omega (arith, length-drop 13 (p d), m.1.0)) in record { count_in_bounds = (rw (words-there d) (omega (arith, l, d.count_at-count.ensures.0)), rw (steps-there d, d.count_at-steps.ensures.0) m.1.1); zeros = c.requires }

pub returns : goal.returns
returns c =
    let a = c.args in
    parts-given a.version a.packet.now {table = a.table.now} {proof = a.proof.now} _ _ _ _ (comes-to (goal.at.returns c).After-count_at-steps) c.read_parts.ensures
