use mathlib.Core.Path.{◌≡◌, sym, ap, ◌∙◌}
use mathlib.Core.List.{◌++◌}
use native.Mathlib.Omega.{arith}
use lib.ListN.{length, take, drop, length-append}
use lib.Seq.{length-take-le, take_at}
use Rattle.totalizer.proofs.Merging.{few-sums, further-up-to}
use Rattle.totalizer.proofs.levels.add_literal.Goals as goal

pub slice_bounds-add_weight-end-2 : goal.slice_bounds-add_weight-end-2
slice_bounds-add_weight-end-2 c = let s = c in sym (length-take-le _ _ s.requires.room.0)

pub slice_bounds-copy_sums-end-2 : goal.slice_bounds-copy_sums-end-2
slice_bounds-copy_sums-end-2 c = sym (length-take-le _ _ c.add_weight-count.ensures.within)

pub copy_sums-requires : goal.copy_sums-requires
copy_sums-requires c =
    let s = c in
    let y = c.add_weight-count in
    let w = y.ensures in
    let e = length-take-le y.result y.new.to w.within in
    let f = few-sums (further-up-to s.args.weight s.requires.sums.0) in
    omega (arith, e, ap length w.sums, f, s.requires.room.1)

pub returns : goal.returns
returns c = let s = c in
    let y = c.add_weight-count in
    let w = y.ensures in
    let front = take y.result y.new.to in
    let back = drop (length front) s.args.sums.now in
    let e : c.copy_sums.new.destination ≡ front ++ back = c.copy_sums.ensures in
    let n : length front ≡ y.result = length-take-le y.result y.new.to w.within in record { within = omega (arith, ap length e, n, length-append front back); sums = ap (take y.result) e ∙ take_at front back y.result n ∙ w.sums }
