use mathlib.Core.Path.{◌≡◌, ◌∙◌, ap}
use mathlib.Core.List.{List}
use Prim.Native.Nat.{ℕ}
use lib.IntN.{ℤ, pos}
use lib.ListN.{length, replicate, length-replicate}
use lib.Seq.{sets}
use Rattle.checker.specs.Report.{lent}
use Rattle.checker.proofs.Puts.{line-printed}
use borrow.Author.Rules.{rules}
use Rattle.checker.proofs.report.check_line.Goals as goal

pub slice_bounds-check_texts-end : goal.slice_bounds-check_texts-end
slice_bounds-check_texts-end c = search rules

pub slice_bounds-check_texts-end-2 : goal.slice_bounds-check_texts-end-2
slice_bounds-check_texts-end-2 c = search rules

pub returns : goal.returns
returns c = let w = c.write_line.ensures in
    let a = c.args in
    let zeros : List ℤ = replicate lent (pos 0) in
    let long : length zeros ≡ lent = length-replicate lent (pos 0) in
    let p = line-printed a.program.now a.proof.now zeros zeros long long c.check_texts-verdict.ensures in record { size = w.size ∙ ap length p; written = w.written ∙ ap (λ (l : List ℕ). sets a.buffer.now 0 l) p; within = w.within }
