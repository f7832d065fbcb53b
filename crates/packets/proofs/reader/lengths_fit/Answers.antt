-- `packets::reader::lengths_fit` meets its contract.
-- Assumes nothing.
use mathlib.Core.Path.{sym, ◌∙◌, ap, ap₂}
use Prim.Native.Nat.{ℕ, ◌+◌, ◌*◌, ◌≤◌}
use lib.ListN.{length, drop}
use Rattle.words.proofs.Parts.{tail_of}
use Rattle.packets.specs.Packets.{word_count, fills}
use Rattle.packets.proofs.Decoded.{no_header, no_words, steps-left}
use Rattle.packets.proofs.reader.lengths_fit.Goals as goal

pub returns-then-packet-lt-HEADER : goal.returns-then-packet-lt-HEADER
returns-then-packet-lt-HEADER c = sym (no_header _ c.if-packet-lt-HEADER.true)

pub returns-then-packet-middle : goal.returns-then-packet-middle
returns-then-packet-middle c =
    let p = c.args.packet.now in
    let t = c.if-packet-middle.true in
    sym (no_words p c.if-packet-lt-HEADER.false (rw c.count_at.ensures.0 at t))

pub returns : goal.returns
returns c =
    let p = c.args.packet.now in
    let n = c.count_at.ensures.0 in
    let t = c.if-packet-middle.false in
    let m = 13 + 4 * word_count p in
    let l : m ≤ length p = rw n at t in
    c.are_steps.ensures
    ∙ ap₂ fills c.count_at-2.ensures.0 (tail_of (13 + 4 * c.count_at.result) p ∙ ap (λ (w : ℕ). drop (13 + 4 * w) p) n)
    ∙ sym (steps-left p c.if-packet-lt-HEADER.false l)
