use mathlib.Core.Path.{◌≡◌, sym, ◌∙◌}
use mathlib.Core.Bool.{true, ◌&&◌}
use Prim.Native.Nat.{suc, ◌≤◌}
use lib.Dec.{leb}
use lib.ListN.{length}
use Rattle.words.specs.Limits.{largest, longest, most_rules}
use Rattle.long_sums.proofs.Answers.{asked, numbers-passed, refused-66, written-66}
use Rattle.long_sums.proofs.finish.Goals as goal
use Rattle.long_sums.proofs.finish.Goals.{Else-not-is_writable}

pub returns-then-not-is_writable : goal.returns-then-not-is_writable
returns-then-not-is_writable c =
    let s = c in
    let o = length s.args.output.now in
    let t = length s.args.table.now in
    λ ws rs before w n e a.
    refused-66 w n ws s.args.table.now t _ (sym (asked w o) ∙ sym c.is_writable.ensures ∙ c.if-not-is_writable.true) c.refuse.ensures

-- the question is passed
passed : (c : Else-not-is_writable)
    → (let s = c in
    let q = s.args.written in
    (((leb q.place.rules most_rules && leb q.atom (suc largest)) && leb q.place.at longest) && leb q.place.at (length s.args.output.now)) ≡ true)
passed c = sym c.is_writable.ensures ∙ c.if-not-is_writable.false

there : (c : Else-not-is_writable)
    → (let s = c in (s.args.written.place.rules ≤ most_rules) × (s.args.written.place.at ≤ length s.args.output.now))
there c = let q = c.args.written in numbers-passed q.place.rules q.atom q.place.at _ (passed c)

pub slice_bounds-zero_all-count : goal.slice_bounds-zero_all-count
slice_bounds-zero_all-count c = (there c).1

pub overflow_sub-result : goal.overflow_sub-result
overflow_sub-result c = let d = (goal.at.overflow_sub-result c).Else-not-is_writable in d.requires (there d).0

pub returns : goal.returns
returns c =
    let d = (goal.at.returns c).Else-not-is_writable in
    let s = c in
    let o = length s.args.output.now in
    let t = length s.args.table.now in
    λ ws rs before w n e a.
    written-66 w n ws s.args.table.now t (sym (asked w o) ∙ passed d) c.zero_all.new.items s.args.old c.zero_all.ensures e a
