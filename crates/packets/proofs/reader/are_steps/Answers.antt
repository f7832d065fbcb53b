-- `packets::reader::are_steps` meets its contract. What is asked of the whole is asked of what is left.
-- Assumes nothing.
use mathlib.Core.Path.{◌≡◌, refl, sym, ◌∙◌}
use mathlib.Core.List.{List}
use Prim.Native.Nat.{ℕ, ◌+◌, ◌-◌, ◌≤◌}
use native.Mathlib.Omega.{arith}
use lib.ListN.{length, drop, length-drop}
use lib.Seq.{drop-drop}
use Rattle.words.proofs.Parts.{tail_of}
use Rattle.packets.specs.Parts.{step_size}
use Rattle.packets.proofs.Decoded.{fills-none, fills-on, fills-end}
use Rattle.packets.proofs.reader.are_steps.Goals as goal
use Rattle.packets.proofs.reader.are_steps.Goals.{After-step_size-size}

pub loop-init : goal.loop-init
loop-init c = let e : c.args.count - 0 ≡ c.args.count = omega arith in (omega arith, rw e refl)

-- the bytes from there on, and the size of the step there
module _ (c : After-step_size-size) where
  abbrev bs : List ℕ
  bs = c.args.bytes.now

  abbrev at : ℕ
  at = c.loop.at

  size : (c.step_size-size.result ≡ step_size (drop at bs)) × (c.step_size-size.result ≤ length (drop at bs))
  size = rw (tail_of at bs) at c.step_size-size.ensures

pub returns-then-size-eq0 : goal.returns-then-size-eq0
returns-then-size-eq0 c =
    let d = (goal.at.returns-then-size-eq0 c).After-step_size-size in
    let l = d.loop in
    sym (l.invariant.1 ∙ fills-none (c.args.count - l.counter) (drop (at d) (bs d)) (omega (arith, d.loop-test.true)) (sym (size d).0 ∙ c.if-size-eq0.true))

pub overflow_add-at : goal.overflow_add-at
overflow_add-at c = let d = (goal.at.overflow_add-at c).After-step_size-size in record { fits = omega (arith, (size d).1, length-drop (at d) (bs d), d.loop.invariant.0) }

pub loop-preserved : goal.loop-preserved
loop-preserved c =
    let d = (goal.at.loop-preserved c).After-step_size-size in
    let l = d.loop in
    let less : c.args.count - l.counter - 1 ≡ c.args.count - (l.counter + 1) = omega arith in
    (omega (arith, (size d).1, length-drop (at d) (bs d), l.invariant.0), l.invariant.1 ∙ fills-on (c.args.count - l.counter) (drop (at d) (bs d)) (omega (arith, d.loop-test.true)) (λ e. c.if-size-eq0.false ((size d).0 ∙ e)) ∙ rw (← (size d).0, drop-drop d.step_size-size.result (at d) (bs d), less))

pub returns : goal.returns
returns c =
    let l = c.loop in
    fills-end (c.args.count - l.counter) l.at c.args.bytes.now (omega (arith, c.loop-test.false)) l.invariant.0 ∙ sym l.invariant.1
