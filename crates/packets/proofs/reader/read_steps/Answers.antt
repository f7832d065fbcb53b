-- `packets::reader::read_steps` meets its contract.
-- Assumes nothing.
use mathlib.Core.Path.{◌≡◌, refl, ◌∙◌}
use mathlib.Core.List.{List}
use Prim.Native.Nat.{ℕ, ◌+◌, ◌-◌, ◌≤◌}
use native.Mathlib.Omega.{arith}
use lib.ListN.{length, drop, length-drop}
use Rattle.words.proofs.Parts.{tail_of}
use Rattle.packets.specs.Parts.{step_size, step_at, StepTold}
use Rattle.packets.proofs.Decoded.{going_start, going-size, going-refused, going-long, going_on, going_end, going-kept}
use Rattle.packets.proofs.reader.read_steps.Goals as goal
use Rattle.packets.proofs.reader.read_steps.Goals.{After-step_size-i, After-read_step}

pub loop-init : goal.loop-init
loop-init c =
    let a = c.args in
    let e : a.count - 0 ≡ a.count = omega arith in
    rw e (going_start a.bytes.now a.count a.proof.now c.requires.bytes_value)

pub slice_bounds-rest-count : goal.slice_bounds-rest-count
slice_bounds-rest-count c = c.loop.invariant.within

-- the size of the step there
size : (c : After-step_size-i)
    → (let i = c.loop.i in let bs = c.args.bytes.now in (c.step_size-i.result ≡ step_size (drop i bs)) × (c.step_size-i.result ≤ length (drop i bs)))
size c = rw (tail_of c.loop.i c.args.bytes.now) at c.step_size-i.ensures

pub overflow_add-i : goal.overflow_add-i
overflow_add-i c =
    let l = c.loop in
    let bs = c.args.bytes.now in
    record { fits = omega (arith, (size c).1, length-drop l.i bs, l.invariant.within) }

pub read_step-requires : goal.read_step-requires
read_step-requires c = let l = c.loop in
    let a = c in rw (tail_of l.i a.args.bytes.now) (record { bytes_nonzero = (going-size l.invariant (omega (arith, c.loop-test.true)), l.invariant.short); classes_value = a.requires.classes_value })

-- what is told of the step
module _ (c : After-read_step) where
  abbrev after : List ℕ
  after = c.read_step.new.proof

  kept : length after ≡ length c.args.proof.now
  kept = c.read_step.auto.proof ∙ going-kept c.loop.invariant

  told : StepTold (step_at (drop c.loop.i c.args.bytes.now)) c.loop.proof after c.loop.end c.read_step.result
  told = rw (tail_of c.loop.i c.args.bytes.now) at c.read_step.ensures

pub returns-in_err-step : goal.returns-in_err-step
returns-in_err-step c =
    let d = (goal.at.returns-in_err-step c).After-read_step in
    rw (c.from_residual.ensures, going-refused d.loop.invariant (omega (arith, d.loop-test.true)) (after d) c.in_err-step.was (told d)) refl

pub returns-then-step-gt-LONGEST : goal.returns-then-step-gt-LONGEST
returns-then-step-gt-LONGEST c =
    let d = (goal.at.returns-then-step-gt-LONGEST c).After-read_step in
    rw (going-long d.loop.invariant (omega (arith, d.loop-test.true)) (after d) c.in_ok-step.was (told d) c.if-step-gt-LONGEST.true) refl

pub loop-preserved : goal.loop-preserved
loop-preserved c =
    let b = c in
    let d = (goal.at.loop-preserved c).After-read_step in
    let g = going_on d.loop.invariant (omega (arith, d.loop-test.true)) (after d) b.in_ok-step.was (told d) c.larger-top.ensures b.if-step-gt-LONGEST.false in
    let less : c.args.count - d.loop.counter - 1 ≡ c.args.count - (d.loop.counter + 1) = omega arith in
    rw (size (goal.at.loop-preserved c).After-step_size-i).0 (rw less at g)

pub returns : goal.returns
returns c = going_end c.loop.invariant (omega (arith, c.loop-test.false))
