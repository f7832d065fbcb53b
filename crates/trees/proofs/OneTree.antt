-- The tree's text is the text of the merged tree of steps. Assumes nothing.
use mathlib.Core.Path.{◌≡◌, refl, sym, ap, ap₂, ◌∙◌}
use mathlib.Core.Bool.{true}
use mathlib.Core.List.{List}
use Prim.Native.Nat.{ℕ}
use lib.IntN.{ℤ, pos, neg_ℤ}
use lib.ListN.{drop}
use Rattle.words.specs.Limits.{longest}
use Rattle.words.specs.Literals.{variable}
use Rattle.words.proofs.Lists.{passed}
use Rattle.words.proofs.Literals.{variable-complement}
use Rattle.aspif.specs.Rules.{Rule, InputRule, expand, atoms}
use Rattle.drupe.specs.Texts.{Step, StepsRead, steps, steps_of}
use Rattle.drupe.specs.Texts as Texts
use Rattle.drupe.proofs.Texts.{spelled}
use Rattle.derivation.specs.States.{is_atom}
use Rattle.runs.specs.Course.{fitting}
use Rattle.checker.proofs.Whole.{accepted-steps}
use Rattle.merging.specs.Merge.{demanding, merged, all_fit}
use Rattle.merging.specs.Claims.{Accepted, demanding_as_written}
use Rattle.merging.specs.Trees.{merged_tree, Fits}
use Rattle.merging.proofs.Sized.{unsized}
use Rattle.merging.proofs.AsWritten.{demanding-expanded, demanding-same-atoms}
use Rattle.splits.specs.Service.{are_halves, steps_in, merged_steps}
use Rattle.splits.proofs.OverTexts.{half-accepted, merged-ends}
use Rattle.splits.proofs.Exactly.{writable-short}
use Rattle.shapes.specs.Tree.{Shape, end, split, leaves}
use Rattle.trees.specs.Service.{first_end}
use Rattle.trees.specs.Claims.{tree_text, FitsAll, tree_steps, OneTree}
use Rattle.trees.proofs.OverTrees.{fits-outcome}

-- the steps of a text that is read
steps-are : (text : List ℕ) {ts : List Step} → steps_of text ≡ steps ts → steps_in text ≡ ts
steps-are text e = ap (λ (r : StepsRead). elim r as (λ x. List Step) [ steps ts ↦ ts | Texts.refused ts k n ↦ ts ]) e

-- the atoms are 1 to N and the plain rules P, as merging has them
module _ (s o N : ℕ) where
  pub record One (ws : List InputRule) (P : List Rule) (shape : Shape) (texts : List (List ℕ)) : Type 0 where
    pub fits : Fits N P (tree_steps shape texts)
    pub is : steps_of (tree_text ws shape texts) ≡ steps (merged_tree N P (tree_steps shape texts))

  at-end : (ws : List InputRule) (P : List Rule) → atoms ws ≡ N → expand ws ≡ P → (texts : List (List ℕ)) → FitsAll s o ws end texts → One ws P end texts
  at-end ws P top rules texts a =
      let x = accepted-steps s ws (first_end texts) a in
      let good : Accepted (atoms ws) (expand ws) (steps_in (first_end texts)) = unsized (fitting s) (atoms ws) (expand ws) (steps_in (first_end texts)) (half-accepted s ws (first_end texts) a) in
      record { fits = rw (top, rules) at good; is = x.1 ∙ ap steps (sym (steps-are (first_end texts) x.1)) }

  -- the rules of a side, and its atoms
  pub below : (ws : List InputRule) (P : List Rule) → atoms ws ≡ N → expand ws ≡ P → (v : ℕ) → is_atom (atoms ws) v ≡ true
      → ((atoms (demanding_as_written ws (pos v)) ≡ N) × (expand (demanding_as_written ws (pos v)) ≡ demanding P (pos v)))
      × ((atoms (demanding_as_written ws (neg_ℤ (pos v))) ≡ N) × (expand (demanding_as_written ws (neg_ℤ (pos v))) ≡ demanding P (neg_ℤ (pos v))))
  below ws P top rules v a = (with (pos v) a, with (neg_ℤ (pos v)) (rw (variable-complement (pos v)) a))
    where
      with : (x : ℤ) → is_atom (atoms ws) (variable x) ≡ true → (atoms (demanding_as_written ws x) ≡ N) × (expand (demanding_as_written ws x) ≡ demanding P x)
      with x a =
          (demanding-same-atoms ws x ((passed _).from a) ∙ top, demanding-expanded ws x ∙ ap (λ (Q : List Rule). demanding Q x) rules)

  module _ (ws : List InputRule) (P : List Rule) (top : atoms ws ≡ N) (rules : expand ws ≡ P) (v : ℕ) (l r : Shape) (texts : List (List ℕ)) where
    abbrev F : List ℕ
    F = tree_text (demanding_as_written ws (pos v)) l texts

    abbrev S : List ℕ
    S = tree_text (demanding_as_written ws (neg_ℤ (pos v))) r (drop (leaves l) texts)

    module _ (x : One (demanding_as_written ws (pos v)) (demanding P (pos v)) l texts)
        (y : One (demanding_as_written ws (neg_ℤ (pos v))) (demanding P (neg_ℤ (pos v))) r (drop (leaves l) texts)) where
      same-steps : merged_steps ws v F S ≡ merged_tree N P (tree_steps (split v l r) texts)
      same-steps =
          ap₂ (λ (M : ℕ) (Q : List Rule). merged M Q v (steps_in F) (steps_in S)) top rules
          ∙ ap₂ (λ (a b : List Step). merged N P v a b) (steps-are F x.is) (steps-are S y.is)

      joined : FitsAll s o ws (split v l r) texts → One ws P (split v l r) texts
      joined (i, ((a, b), (w, n))) =
          let first = (fits-outcome s o (demanding_as_written ws (pos v)) l texts a).1 in
          let second = (fits-outcome s o (demanding_as_written ws (neg_ℤ (pos v))) r (drop (leaves l) texts) b).1 in
          let halves : are_halves s ws v F S ≡ true = rw (i, first, second) refl in
          let short = writable-short o (merged_steps ws v F S) w in
          record {
            fits = (rw (← top) i, (x.fits, (y.fits, ap all_fit (sym same-steps) ∙ short.0)));
            is = (merged-ends s ws v F S halves short.0 short.1).1.0 ∙ ap steps same-steps;
          }

  one : (ws : List InputRule) (P : List Rule) → atoms ws ≡ N → expand ws ≡ P → (shape : Shape) (texts : List (List ℕ)) → FitsAll s o ws shape texts → One ws P shape texts
  one ws P top rules end texts a = at-end ws P top rules texts a
  one ws P top rules (split v l r) texts f =
      let a = below ws P top rules v f.0 in
      joined ws P top rules v l r texts (one _ _ a.0.0 a.0.1 l texts f.1.0.0) (one _ _ a.1.0 a.1.1 r (drop (leaves l) texts) f.1.0.1) f

-- a text that is read is spelled in one way
pub one-tree : OneTree
one-tree s o ws shape texts a =
    let x = one s o (atoms ws) ws (expand ws) refl refl shape texts a in
    (x.fits, spelled longest (tree_text ws shape texts) (merged_tree (atoms ws) (expand ws) (tree_steps shape texts)) x.is)
