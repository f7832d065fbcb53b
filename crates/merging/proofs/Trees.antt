-- The merged proof of a tree of splits is accepted: from the ends upward, each merge by `merged-accepted`. Assumes nothing.
use mathlib.Core.List.{List}
use Prim.Native.Nat.{ℕ, ◌≤◌}
use lib.IntN.{pos, neg_ℤ}
use Rattle.words.proofs.Lists.{passed}
use Rattle.words.proofs.Literals.{variable-complement}
use Rattle.aspif.specs.Rules.{Rule, expand, atoms, plain_atoms}
use Rattle.aspif.proofs.Expansion.{plain-atoms}
use Rattle.derivation.proofs.Sound.{soundness}
use Rattle.derivation.proofs.AsWritten.{soundness-as-written}
use Rattle.merging.specs.Merge.{demanding}
use Rattle.merging.specs.Claims.{Accepted}
use Rattle.merging.specs.Trees.{Tree, end, split, merged_tree, Fits, TreeAccepted, TreeAsWritten}
use Rattle.merging.proofs.Relation.{demanding-atoms}
use Rattle.merging.proofs.Merged.{merged-accepted}

module _ (N : ℕ) where
  upward : (P : List Rule) → plain_atoms P ≤ N → (t : Tree) → Fits N P t → Accepted N P (merged_tree N P t)
  upward P small (end ts) a = a
  upward P small (split v l r) (i, (a, (b, f))) =
      (merged-accepted N P small v i _ _
      (upward (demanding P (pos v)) (demanding-atoms N P (pos v) small ((passed _).from i)) l a)
      (upward (demanding P (neg_ℤ (pos v))) (demanding-atoms N P (neg_ℤ (pos v)) small (rw (variable-complement (pos v)) ((passed _).from i))) r b) f).0

pub tree-accepted : TreeAccepted
tree-accepted N P small t f =
    let a = upward N P small t f in (a, soundness N P small (merged_tree N P t) a.0 a.1 a.2)

pub tree-as-written : TreeAsWritten
tree-as-written ws t f =
    let a = upward (atoms ws) (expand ws) (plain-atoms ws) t f in
    (a, soundness-as-written ws (merged_tree (atoms ws) (expand ws) t) a.0 a.1 a.2)
