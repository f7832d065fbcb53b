-- The index that a check lends: a front of an array of zeros.
-- Assumes nothing.
use mathlib.Core.Path.{◌≡◌, sym, ◌∙◌}
use mathlib.Core.Logic.{inl, inr}
use mathlib.Core.List.{[]}
use Prim.Native.Nat.{ℕ, ◌≤◌}
use native.Mathlib.Omega.{arith}
use lib.ListN.{length, take, replicate, length-replicate}
use lib.Seq.{length-take-le, get_or-take}
use Rattle.words.proofs.Descending.{below?}
use Rattle.words.proofs.Laws.{padded}
use Rattle.nogoods.specs.Index.{BlankIndex}
use Rattle.nogoods.proofs.Indexing.{outside}

module _ (n k : ℕ) (h : n ≤ k) where
  pub front-size : n ≡ length {A = ℕ} (take n (replicate k 0))
  front-size = sym (length-take-le n (replicate k 0) (rw (length-replicate {A = ℕ} k 0) h))

  pub front-blank : BlankIndex (take n (replicate k 0))
  front-blank j b = elim (below? j n) [
    | inl i ↦ get_or-take n (replicate k 0) j 0 i ∙ padded 0 [] k j
    | inr i ↦ outside (take n (replicate k 0)) j (omega (arith, i, front-size))
  ]
