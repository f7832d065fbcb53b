-- The entries before the end become 0, and the others are.
use mathlib.Core.Path.{sym, ap, ◌∙◌}
use mathlib.Core.List.{List, ◌++◌}
use Prim.Native.Nat.{ℕ}
use lib.ListN.{drop, replicate}
use lib.Seq.{length-take-le}
use Rattle.propagation.proofs.Assignments.{blanked}
use Rattle.propagation.proofs.release.Goals as goal

pub slice_bounds-zero_all-end-2 : goal.slice_bounds-zero_all-end-2
slice_bounds-zero_all-end-2 c = let s = c in sym (length-take-le s.args.end s.args.assignment.now s.requires.0)

pub returns : goal.returns
returns c =
    let k = c in
    let s = c in
    let m = s.args.assignment.now in
    let n = s.args.end in
    ap (λ (l : List ℕ). l ++ drop n m) (k.zero_all.ensures ∙ ap (λ (i : ℕ). replicate i 0) (length-take-le n m s.requires.0))
    ∙ blanked n m s.requires.0 s.requires.1
