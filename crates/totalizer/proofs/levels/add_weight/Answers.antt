use Prim.Native.Nat.{◌+◌, ◌≤◌, ◌<◌}
use native.Mathlib.Omega.{arith}
use lib.ListN.{length, set}
use Rattle.totalizer.proofs.Merging.{Standing, stands-start, stands-whole, place, stepped, few-sums}
use Rattle.totalizer.proofs.levels.add_weight.Goals as goal
use Rattle.totalizer.proofs.levels.add_weight.Goals.{In-loop-i, After-after_if-j}

-- there is a place for one more
room : (c : In-loop-i) → (c.loop-i.k ≤ c.args.bound) × (c.loop-i.k < length c.loop-i.to)
room c =
    let s = c in
    place s.requires.sums.0 s.requires.room c.loop-i.invariant c.loop-i-test.true

pub loop-i-init : goal.loop-i-init
loop-i-init c = stands-start _ _ _ _

pub overflow_add-i : goal.overflow_add-i
overflow_add-i c =
    let s = c in
    let l = c.loop-i.invariant in
    record { fits = omega (arith, few-sums s.requires.sums.0, s.requires.sums.1, l.in_left, l.in_right) }

pub overflow_mul-sums : goal.overflow_mul-sums
overflow_mul-sums c = let s = c in record { fits = omega (arith, few-sums s.requires.sums.0, s.requires.sums.1) }

pub overflow_add-bound : goal.overflow_add-bound
overflow_add-bound c = let s = c in record { fits = omega (arith, s.requires.sums.1) }

pub offset_bounds-to-k : goal.offset_bounds-to-k
offset_bounds-to-k c =
    let s = c in
    record { fits = omega (arith, (room (goal.at.offset_bounds-to-k c).In-loop-i).0, s.requires.sums.1) }

pub bounds-to-k : goal.bounds-to-k
bounds-to-k c = (room (goal.at.bounds-to-k c).In-loop-i).1

pub overflow_add-k : goal.overflow_add-k
overflow_add-k c =
    let s = c in
    record { fits = omega (arith, (room (goal.at.overflow_add-k c).In-loop-i).0, s.requires.sums.1) }

pub overflow_add-i-in-loop-i : goal.overflow_add-i-in-loop-i
overflow_add-i-in-loop-i c =
    let s = c in
    let l = c.loop-i.invariant in
    record { fits = omega (arith, few-sums s.requires.sums.0, s.requires.sums.1, l.in_left) }

pub overflow_add-j : goal.overflow_add-j
overflow_add-j c =
    let s = c in
    let l = c.loop-i.invariant in
    record { fits = omega (arith, few-sums s.requires.sums.0, s.requires.sums.1, l.in_right) }

-- one turn
on : (c : After-after_if-j)
    → (let d = c in
    let l = d.loop-i in
    let a = d.args in
    Standing a.bound a.weight a.sums.now a.to.now (set l.to l.k c.smaller-x.result) c.after_if-i.result c.after_if-j.result (l.k + 1)
    × (l.i + l.j < c.after_if-i.result + c.after_if-j.result))
on c =
    let d = c in
    let s = c in
    stepped s.requires.sums.0 s.requires.room d.loop-i.invariant d.loop-i-test.true
    c.sum_at-u.ensures
    c.raised_at-v.ensures
    c.smaller-x.ensures
    c.after_if-i.ensures
    c.after_if.ensures
    c.after_if-j.ensures

pub loop-i-smaller : goal.loop-i-smaller
loop-i-smaller c =
    let n = (on c).1 in
    let t = c.loop-i-test.true in
    omega (arith, n, t)

pub loop-i-preserved : goal.loop-i-preserved
loop-i-preserved c = (on c).0

pub returns : goal.returns
returns c = let S = c.loop-i.invariant in record { within = S.within; sums = stands-whole S c.loop-i-test.false }
