-- `packets::reader::read_step` meets its contract.
-- Assumes nothing.
use mathlib.Core.Path.{◌≡◌, refl, sym, ◌∙◌, ap}
use mathlib.Core.Option.{none}
use native.Mathlib.Omega.{arith}
use Rattle.text.specs.declared.Letter.{Letter}
use Rattle.text.specs.declared.Class.{Class}
use Rattle.text.specs.declared.Class.TheVariants.{Newline, Space, Minus, Digit, Step, Other}
use lib.ListN.{length-drop}
use borrow.Author.Rules.{rules}
use Rattle.words.proofs.Parts.{tail_of}
use Rattle.packets.specs.Packets.{letter_in}
use Rattle.packets.proofs.Decoded.{size-bytes, step-letter, no-letter}
use Rattle.packets.proofs.reader.read_step.Goals as goal

pub bounds-bytes-1 : goal.bounds-bytes-1
bounds-bytes-1 c = let a = c in omega (arith, (size-bytes a.args.bytes.now a.requires.bytes_nonzero.0).0)

pub bounds-bytes-0 : goal.bounds-bytes-0
bounds-bytes-0 c = let a = c in omega (arith, (size-bytes a.args.bytes.now a.requires.bytes_nonzero.0).0)

pub slice_bounds-step_with-count : goal.slice_bounds-step_with-count
slice_bounds-step_with-count c = let a = c in (size-bytes a.args.bytes.now a.requires.bytes_nonzero.0).0

pub slice_bounds-step_with-start : goal.slice_bounds-step_with-start
slice_bounds-step_with-start c = let s = (size-bytes c.args.bytes.now c.requires.bytes_nonzero.0).0 in search rules

pub step_with-requires : goal.step_with-requires
step_with-requires c =
    let a = c in
    let bs = a.args.bytes.now in
    let s = size-bytes bs a.requires.bytes_nonzero.0 in
    rw (tail_of 2 bs) (omega (arith, s.1, length-drop 2 bs, c.wide_byte-count.ensures), a.requires.bytes_nonzero.1)

no-step : (k : Class) → ((x : Letter) → k ≡ Step x → ⊥) → letter_in k ≡ none
no-step Newline f = refl
no-step Space f = refl
no-step Minus f = refl
no-step (Digit d) f = refl
no-step (Step x) f = absurd (f x refl)
no-step Other f = refl

pub returns-in_default : goal.returns-in_default
returns-in_default c =
    let k = c.class_of in
    let s = (size-bytes c.args.bytes.now c.requires.bytes_nonzero.0).0 in
    rw (no-letter c.args.bytes.now s (ap letter_in (sym k.ensures) ∙ no-step k.result c.in_default.not-Step)) refl

pub returns : goal.returns
returns c =
    let bs = c.args.bytes.now in
    let s = (size-bytes bs c.requires.bytes_nonzero.0).0 in
    rw (step-letter bs s c.in-Step.letter (sym c.class_of.ensures ∙ c.in-Step.is)) (rw (tail_of 2 bs, c.wide_byte-count.ensures) at c.step_with.ensures)
