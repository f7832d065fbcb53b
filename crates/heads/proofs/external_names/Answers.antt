use mathlib.Core.Path.{◌≡◌, ap, ◌∙◌}
use mathlib.Core.List.{◌++◌}
use Prim.Native.Nat.{◌≤◌}
use native.Mathlib.Omega.{arith}
use lib.ListN.{length, take, drop}
use lib.Seq.{length-take-le, take_at}
use Rattle.words.proofs.Sorting.{length-ascending}
use Rattle.heads.proofs.Externals.{none_named, all_told}
use Rattle.heads.proofs.external_names.Goals as goal
use Rattle.heads.proofs.external_names.Goals.{In_ok-count}

pub gather_all-requires : goal.gather_all-requires
gather_all-requires c = let p = c.requires in record { index = (p.index.0 p.index.1, p.program.0, p.program.1); set = p.set; row = p.row }

pub returns-in_err-count : goal.returns-in_err-count
returns-in_err-count c =
    let a = c.args in
    let s = c.requires in
    rw c.from_residual.ensures (λ ws H. rw (← H.are) (λ bodies called K.
    none_named a.table.now a.rules s.program.0 (s.index.0 s.index.1).plain K a.inside.now c.in_err-count.ensures))

-- the words that are gathered
room : (c : In_ok-count) → c.in_ok-count.count ≤ length c.gather_all.new.row
room c = let R = c.in_ok-count.ensures.collected.is in omega (arith, R.long, R.within)

size : (c : In_ok-count) → length (take c.in_ok-count.count c.gather_all.new.row) ≡ c.in_ok-count.count
size c = length-take-le c.in_ok-count.count c.gather_all.new.row (room c)

pub returns : goal.returns
returns c =
    let o = c.sort in
    let e = (goal.at.returns c).In_ok-count in
    let a = c.args in
    let s = c.requires in
    let r = c.in_ok-count.count in
    let row = c.gather_all.new.row in
    let n : length o.new.words ≡ r = ap length o.ensures ∙ length-ascending (take r row) ∙ size e in
    λ ws H. rw (← H.are) (λ bodies called K.
    all_told a.table.now a.rules s.program.0 (s.index.0 s.index.1).plain K a.inside.now (o.new.words ++ drop r row) c.in_ok-count.ensures
    (take_at o.new.words (drop r row) r n ∙ o.ensures))
