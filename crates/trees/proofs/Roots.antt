-- A root end is what its check says. Assumes nothing.
use mathlib.Core.Path.{◌≡◌, refl, sym, ap, ◌∙◌}
use mathlib.Core.Bool.{true}
use mathlib.Core.List.{List, [], ◌∷◌}
use Prim.Native.Nat.{ℕ, ◌+◌}
use native.Mathlib.Omega.{arith}
use borrow.Author.Tests.{eq-eqb}
use lib.ListN.{length}
use lib.Seq.{take-length}
use Rattle.aspif.specs.Rules.{InputRule, expand, atoms}
use Rattle.aspif.specs.Reading.{program, read_text}
use Rattle.runs.specs.Course.{course}
use Rattle.checker.specs.Check.{judged, check_within, check}
use Rattle.shapes.specs.Tree.{end, found, tree_of, most_splits, ends, matches}
use Rattle.shapes.proofs.Steps.{at-end}
use Rattle.trees.specs.Service.{tree_outcome, written_tree, merge_tree}
use Rattle.trees.specs.Sides.{pending}
use Rattle.trees.specs.Claims.{RootEnd}
use Rattle.trees.proofs.Answers.{last-refused, over-output, written_out}
use Rattle.splits.specs.declared.MergeFault.TheVariants.{NotAccepted}

module _ (t s o : ℕ) (text texts : List ℕ) (ws : List InputRule) (read : read_text t text ≡ program ws) where
  outcome : tree_outcome s o ws end (ends texts (length texts ∷ [])) ≡ pending s ws texts NotAccepted
  unfolding tree_outcome
  outcome = ap (λ (l : List ℕ). pending s ws l NotAccepted) (take-length texts)

  fits : matches end texts (length texts ∷ []) ≡ true
  fits = eq-eqb (length texts + 0) (length texts) (omega arith)

  left : merge_tree t s o text (0 ∷ []) texts (length texts ∷ []) ≡ written_tree t s o ws (pending s ws texts NotAccepted)
  unfolding merge_tree
  left =
      let p : tree_of most_splits [] (atoms ws) (0 ∷ []) ≡ found end [] = at-end (atoms ws) [] most_splits (0 ∷ []) (λ e. omega (arith, e)) refl in
      rw (read, p, fits, outcome) refl

  checked : check text texts t s ≡ judged t s ws (course (atoms ws) (expand ws) s texts)
  unfolding check_within
  checked = rw read refl

pub root-end : RootEnd
root-end t s o text texts ws q =
    let e = checked t s o text texts ws q in
    let l = left t s o text texts ws q in (
      λ i. l ∙ sym (last-refused t s o ws texts NotAccepted e i),
      λ i h. l ∙ sym (over-output t s o ws texts NotAccepted e i h),
      λ i h. l ∙ sym (written_out t s o ws texts NotAccepted e i h refl refl),
    )
