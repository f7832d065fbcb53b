-- `moves::move_packet` meets its contract.
-- Assumes nothing.
use mathlib.Core.Path.{◌≡◌, sym, ◌∙◌, ap}
use mathlib.Core.Bool.{true}
use mathlib.Core.List.{List}
use Prim.Native.Nat.{ℕ, ◌+◌, ◌-◌, ◌*◌, ◌≤◌}
use native.Mathlib.Omega.{arith}
use lib.ListN.{length, take, drop, length-drop}
use lib.Seq.{length-take-le}
use borrow.Author.Rules.{rules}
use Rattle.words.proofs.Laws.{zeros}
use Rattle.words.proofs.Parts.{tail_of}
use Rattle.packets.specs.Packets.{word_count, step_count, word_part, step_part, lengths_fit, fills, parts_read, pair_in}
use Rattle.packets.specs.Parts.{Zeros}
use Rattle.packets.specs.declared.Version.{Version}
use Rattle.packets.proofs.Littles.{part-is}
use Rattle.packets.proofs.Decoded.{fit_parts}
use Rattle.packets.proofs.Given.{no-mark, no_lengths, parts-left}
use Rattle.moves.proofs.Answers.{moved-early, moved-kept}
use Rattle.moves.proofs.move_packet.Goals as goal
use Rattle.moves.proofs.move_packet.Goals.{Else-not-lengths_fit, After-count_at-steps}
use Rattle.moves.proofs.move_packet.Lts.View as view
use Rattle.moves.proofs.move_packet.Reads as reads
use Rattle.moves.proofs.move_packet.Tie as tie

pub returns-then-not-is_marked : goal.returns-then-not-is_marked
returns-then-not-is_marked c =
    let a = c.args in
    let m = sym c.is_marked.ensures ∙ c.if-not-is_marked.true in
    moved-early a.to _ 51 (no-mark a.from a.packet.now m) c.zero_all.ensures

pub returns-then-not-lengths_fit : goal.returns-then-not-lengths_fit
returns-then-not-lengths_fit c =
    let a = c.args in
    let m = sym c.is_marked.ensures ∙ c.if-not-is_marked.false in
    let l = sym c.lengths_fit.ensures ∙ c.if-not-lengths_fit.true in
    moved-early a.to _ 52 (no_lengths a.from a.packet.now m l) c.zero_all.ensures

-- past the lengths
module _ (c : Else-not-lengths_fit) where
  abbrev packet : List ℕ
  packet = c.args.packet.now

  fit : lengths_fit packet ≡ true
  fit = sym c.lengths_fit.ensures ∙ c.if-not-lengths_fit.false

  known : (13 ≤ length packet) × ((13 + 4 * word_count packet ≤ length packet) × (fills (step_count packet) (step_part packet) ≡ true))
  known = fit_parts packet fit

  -- the output holds zeros
  cleared : Zeros 0 c.zero_all.new.items × (length c.zero_all.new.items ≡ length c.args.output.now)
  cleared = zeros 0 c.zero_all.ensures

pub count_at-count-requires : goal.count_at-count-requires
count_at-count-requires c = omega (arith, (known c).0)

pub count_at-steps-requires : goal.count_at-steps-requires
count_at-steps-requires c = omega (arith, (known (goal.at.count_at-steps-requires c).Else-not-lengths_fit).0)

-- the words end within the packet, and the parts are those of the packet
module _ (c : After-count_at-steps) where
  abbrev p : List ℕ
  p = packet (view.up-Else-not-lengths_fit tie.the-claims reads.Pre reads.Post tie.handed_clauses c.before.before.before)

  abbrev v : Version
  v = c.args.from

  abbrev n : ℕ
  n = c.count_at-count.result

  abbrev words-part : List ℕ
  words-part = take (13 + 4 * n - 13) (drop 13 p)

  abbrev steps-part : List ℕ
  steps-part = take (length p - (13 + 4 * n)) (drop (13 + 4 * n) p)

  room : 13 + 4 * n ≤ length p
  room = omega (arith, c.count_at-count.ensures.0, (known (view.up-Else-not-lengths_fit tie.the-claims reads.Pre reads.Post tie.handed_clauses c.before.before.before)).1.0)

  words-there : words-part ≡ word_part p
  words-there = part-is (4 * n) 13 p ∙ ap (λ (w : ℕ). take (4 * w) (drop 13 p)) c.count_at-count.ensures.0

  steps-there : steps-part ≡ step_part p
  steps-there = tail_of (13 + 4 * n) p ∙ ap (λ (w : ℕ). drop (13 + 4 * w) p) c.count_at-count.ensures.0

  comes-to : pair_in v p ≡ parts_read v n words-part c.count_at-steps.result steps-part
  comes-to =
      let m = sym c.is_marked.ensures ∙ c.if-not-is_marked.false in
      parts-left v p m (fit (view.up-Else-not-lengths_fit tie.the-claims reads.Pre reads.Post tie.handed_clauses c.before.before.before)) _ _ _ _ c.count_at-count.ensures.0 words-there c.count_at-steps.ensures.0 steps-there

pub slice_bounds-move_parts-end : goal.slice_bounds-move_parts-end
slice_bounds-move_parts-end c = let r = room (goal.at.slice_bounds-move_parts-end c).After-count_at-steps in search rules

pub slice_bounds-move_parts-start-2 : goal.slice_bounds-move_parts-start-2
slice_bounds-move_parts-start-2 c = let r = room (goal.at.slice_bounds-move_parts-start-2 c).After-count_at-steps in search rules

pub slice_bounds-move_parts-count-2 : goal.slice_bounds-move_parts-count-2
slice_bounds-move_parts-count-2 c = room (goal.at.slice_bounds-move_parts-count-2 c).After-count_at-steps

pub move_parts-requires : goal.move_parts-requires
move_parts-requires c = let d = (goal.at.move_parts-requires c).After-count_at-steps in
    let e = (goal.at.move_parts-requires c).Else-not-lengths_fit in
    let m = known e in
    let l = length-take-le (4 * word_count (p d)) (drop 13 (p d)) (omega (arith, length-drop 13 (p d), m.1.0)) in record { count_in_bounds = (rw (words-there d) (omega (arith, l, d.count_at-count.ensures.0)), rw (steps-there d, d.count_at-steps.ensures.0) m.1.1); zeros = (cleared e).0 }

pub returns : goal.returns
returns c =
    let d = (goal.at.returns c).After-count_at-steps in
    let a = d.args in
    moved-kept a.to (pair_in (v d) (p d)) (cleared (goal.at.returns c).Else-not-lengths_fit).1 (rw (sym (comes-to d)) at c.move_parts.ensures)
