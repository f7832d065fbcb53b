use mathlib.Core.Path.{sym, ap, ◌∙◌}
use mathlib.Core.List.{List}
use Prim.Native.Nat.{◌-◌, ◌≤◌}
use native.Mathlib.Omega.{arith}
use lib.IntN.{ℤ}
use lib.ListN.{length}
use lib.Seq.{length-take-le}
use Rattle.weights.specs.Weights.{paired}
use Rattle.sums.specs.Levels.{sorted_groups}
use Rattle.long_sums.proofs.Held.{held-shape}
use Rattle.long_sums.proofs.Items.{pairs-light, pairs-long, front-back, front-there}
use Rattle.long_sums.proofs.program.emit_split.Goals as goal
use Rattle.long_sums.proofs.program.emit_split.Goals.{After-body_of-body}

pub body_of-body-requires : goal.body_of-body-requires
body_of-body-requires c = let s = c in held-shape s.args.rule.now.words.now s.args.rule.now.held

-- the body's words fit the words lent
few : (c : After-body_of-body) → (let s = c in length c.body_of-body.result.now ≤ length s.args.sorted.now)
few c =
    let s = c in
    let n = pairs-long s.args.rule.now.words.now s.args.rule.now.held s.requires.long in
    omega (arith, ap length c.body_of-body.ensures, n.1, s.requires.room)

pub slice_bounds-order-end : goal.slice_bounds-order-end
slice_bounds-order-end c = few c

pub slice_bounds-order-end-2 : goal.slice_bounds-order-end-2
slice_bounds-order-end-2 c = let s = c in sym (length-take-le _ s.args.sorted.now (few (goal.at.slice_bounds-order-end-2 c).After-body_of-body))

pub order-requires : goal.order-requires
order-requires c = let s = c in
    let g = s.requires.group in
    let e = c.body_of-body.ensures in record { pairs = (rw e (pairs-light s.args.rule.now.words.now s.args.rule.now.held s.requires.long), length-take-le _ s.args.sorted.now (few (goal.at.order-requires c).After-body_of-body)); group = (omega (arith, g.0), g.1) }

pub slice_bounds-emit_ordered-end : goal.slice_bounds-emit_ordered-end
slice_bounds-emit_ordered-end c =
    let o = c in
    let s = c in
    front-there _ s.args.sorted.now o.order.new.to (few (goal.at.slice_bounds-emit_ordered-end c).After-body_of-body) o.order.auto.to

pub slice_bounds-emit_ordered-end-2 : goal.slice_bounds-emit_ordered-end-2
slice_bounds-emit_ordered-end-2 c =
    let o = c in
    let s = c in
    sym (length-take-le _ _ (front-there _ s.args.sorted.now o.order.new.to (few (goal.at.slice_bounds-emit_ordered-end-2 c).After-body_of-body) o.order.auto.to))

pub emit_ordered-requires : goal.emit_ordered-requires
emit_ordered-requires c = let o = c in
    let y = (goal.at.emit_ordered-requires c).After-body_of-body in
    let s = c in
    let n = o.order.auto.to in record { long = s.requires.long; place = s.requires.place; group = s.requires.group; pairs = rw (front-back _ s.args.sorted.now o.order.new.to (few y) n) (o.order.ensures.weights, n ∙ length-take-le _ s.args.sorted.now (few y) ∙ ap length y.body_of-body.ensures, o.order.ensures.groups ∙ ap (λ (l : List ℤ). sorted_groups (s.args.group - 1) (paired l)) y.body_of-body.ensures) }
