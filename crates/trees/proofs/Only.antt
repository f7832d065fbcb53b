-- The service writes a proof only where every merge fits, and what it writes is the tree's text with 0 after it. Assumes nothing.
use mathlib.Core.Path.{◌≡◌, refl, sym, ap, ap₂, ◌∙◌, subst}
use mathlib.Core.Logic.{◌⊎◌, inl, inr}
use mathlib.Core.Bool.{Bool, true, false, cond, true≢false}
use mathlib.Core.List.{List, [], ◌∷◌, ◌++◌}
use Prim.Native.Nat.{ℕ, ◌-◌}
use lib.IntN.{pos, neg_ℤ}
use lib.ListN.{length, replicate, drop}
use Rattle.aspif.specs.Rules.{InputRule, expand, atoms}
use Rattle.aspif.specs.Reading.{read_text}
use Rattle.drupe.specs.Texts.{Step, text_of}
use Rattle.derivation.specs.States.{is_atom}
use Rattle.runs.specs.Course.{stopped, course, ends_empty, is_accepted}
use Rattle.merging.specs.Claims.{demanding_as_written}
use Rattle.splits.specs.Service.{are_halves, merged_steps, is_writable, MergeLeft, MergeAnswer}
use Rattle.splits.specs.Claims.{PastStore}
use Rattle.splits.proofs.OverTexts.{merged-ends}
use Rattle.splits.proofs.Exactly.{accepted-written, writable-short}
use Rattle.shapes.specs.Tree.{Shape, end, split, found, tree_of, most_splits, leaves, ends}
use Rattle.trees.specs.Service.{Side, fails, gives, onward, first_end, merge_outcome, tree_outcome, merge_tree}
use Rattle.trees.specs.Claims.{tree_text, FitsAll, TreeOnly}
use Rattle.trees.proofs.OverTrees.{at_split, fits-outcome, IsMerged, judged-tree}
use Rattle.trees.proofs.OneTree.{below}
use Rattle.trees.proofs.Subtrees.{Begins, begins}
use Rattle.drupe.specs.declared.ProofFault.TheVariants as Fault
use Rattle.splits.specs.declared.MergeFault.TheVariants.{NotAccepted, NotWritable, StoreFull}
use Rattle.splits.specs.declared.MergeFault.{MergeFault}
use Rattle.std.specs.Prelude.{Ok}

-- Each split is on an atom

abbrev Atoms : ℕ → Shape → Type 0
Atoms N end = Unit {0}
Atoms N (split v l r) = (is_atom N v ≡ true) × (Atoms N l × Atoms N r)

abbrev IsEnd : Shape → Type 0
IsEnd end = Unit {0}
IsEnd (split v l r) = ⊥

-- the parts of a split
abbrev atom_of : Shape → ℕ
atom_of end = 0
atom_of (split v l r) = v

abbrev first_of : Shape → Shape
first_of end = end
first_of (split v l r) = l

abbrev second_of : Shape → Shape
second_of end = end
second_of (split v l r) = r

parsed-atoms : (N : ℕ) (t : Shape) (depth : ℕ) (path tree rest : List ℕ) → tree_of depth path N tree ≡ found t rest → Atoms N t
parsed-atoms N end depth path tree rest e = tt
parsed-atoms N (split v l r) depth path tree rest e =
    by tree (begins path N (split v l r) rest depth tree e) (λ p ns x. parsed-atoms N l (depth - 1) p ns x) (λ p ns x. parsed-atoms N r (depth - 1) p ns x)
  where
    -- what is known of a side
    Below : Shape → Type 0
    Below t = (path' tree' rest' : List ℕ) → tree_of (depth - 1) path' N tree' ≡ found t rest' → Atoms N t

    by : (numbers : List ℕ) → Begins path N (split v l r) rest depth numbers → Below l → Below r → Atoms N (split v l r)
    by [] b f g = absurd b
    by (u ∷ ns) (inl b) f g = absurd (subst IsEnd (sym b.1) tt)
    by (u ∷ ns) (inr b) f g =
        let H = b.1 in (
          ap (is_atom N) (ap atom_of H.is) ∙ H.atom,
          (
            f (path ++ (u ∷ [])) ns H.between (H.first ∙ ap (λ (x : Shape). found x H.between) (sym (ap first_of H.is))),
            g (path ++ (u ∷ [])) H.between rest (H.second ∙ ap (λ (x : Shape). found x rest) (sym (ap second_of H.is))),
          ),
        )

-- A merged text that is accepted keeps to the store, and one that is not goes past it

module _ (s o : ℕ) (ws : List InputRule) (v : ℕ) (F S : List ℕ) (halves : are_halves s ws v F S ≡ true) (w : is_writable o (merged_steps ws v F S) ≡ true) where
  abbrev ts : List Step
  ts = merged_steps ws v F S

  either : ((¬ (PastStore s ws ts)) × (is_accepted s ws (text_of ts) ≡ true))
      ⊎ (PastStore s ws ts × ((n : ℕ) × (course (atoms ws) (expand ws) s (text_of ts) ≡ stopped Fault.StoreFull n)))
  either = let short = writable-short o ts w in (merged-ends s ws v F S halves short.0 short.1).1.1

  pub keeps-to-store : is_accepted s ws (text_of ts) ≡ true → ¬ (PastStore s ws ts)
  keeps-to-store a = elim either [ inl x ↦ x.0 | inr x ↦ absurd (true≢false (sym a ∙ ap ends_empty x.1.1)) ]

  pub goes-past-store : is_accepted s ws (text_of ts) ≡ false → PastStore s ws ts
  goes-past-store a = elim either [ inl x ↦ absurd (true≢false (sym x.1 ∙ a)) | inr x ↦ x.0 ]

-- A tree that gives a text

abbrev text_in : Side → List ℕ
text_in (fails k) = []
text_in (gives text) = text

abbrev IsText : Side → Type 0
IsText (fails k) = ⊥
IsText (gives text) = Unit {0}

failed-text : {k : MergeFault} {text : List ℕ} → fails k ≡ gives text → ⊥
failed-text e = subst IsText (sym e) tt

module _ (s o : ℕ) where
  abbrev Goal : List InputRule → Shape → List (List ℕ) → List ℕ → Type 0
  Goal ws t texts text = FitsAll s o ws t texts × (text ≡ tree_text ws t texts)

  end_fits : (ws : List InputRule) (texts : List (List ℕ)) (text : List ℕ) → tree_outcome s o ws end texts ≡ gives text → Goal ws end texts text
  unfolding tree_outcome
  end_fits ws texts text e = by (is_accepted s ws (first_end texts)) refl e
    where
      by : (b : Bool) → is_accepted s ws (first_end texts) ≡ b → cond b (gives (first_end texts)) (fails NotAccepted) ≡ gives text → Goal ws end texts text
      by true a e = (a, sym (ap text_in e))
      by false a e = absurd (failed-text e)

  -- a merge of two texts that are accepted
  merge-fits : (ws : List InputRule) (v : ℕ) (F S text : List ℕ) → are_halves s ws v F S ≡ true → merge_outcome s o ws v F S ≡ gives text
      → (is_writable o (merged_steps ws v F S) ≡ true) × (¬ (PastStore s ws (merged_steps ws v F S))) × (text ≡ text_of (merged_steps ws v F S))
  merge-fits ws v F S text halves e = by (is_writable o (merged_steps ws v F S)) refl (is_accepted s ws (text_of (merged_steps ws v F S))) refl e
    where
      by : (w : Bool) → is_writable o (merged_steps ws v F S) ≡ w → (a : Bool) → is_accepted s ws (text_of (merged_steps ws v F S)) ≡ a
          → cond w (cond a (gives (text_of (merged_steps ws v F S))) (fails StoreFull)) (fails NotWritable) ≡ gives text
          → (is_writable o (merged_steps ws v F S) ≡ true) × (¬ (PastStore s ws (merged_steps ws v F S))) × (text ≡ text_of (merged_steps ws v F S))
      by true w true a e = (w, keeps-to-store s o ws v F S halves w a, sym (ap text_in e))
      by true w false a e = absurd (failed-text e)
      by false w a p e = absurd (failed-text e)

  outcome_fits : (ws : List InputRule) (t : Shape) (texts : List (List ℕ)) → Atoms (atoms ws) t → (text : List ℕ) → tree_outcome s o ws t texts ≡ gives text → Goal ws t texts text
  outcome_fits ws end texts i text e = end_fits ws texts text e
  outcome_fits ws (split v l r) texts (i, (j, k)) text e =
      let same = below s o (atoms ws) ws (expand ws) refl refl v i in
      by (tree_outcome s o first l texts) refl (tree_outcome s o second r later) refl (sym (at_split s o ws v l r texts) ∙ e)
      (λ F p. outcome_fits first l texts (subst (λ (N : ℕ). Atoms N l) (sym same.0.0) j) F p)
      (λ S p. outcome_fits second r later (subst (λ (N : ℕ). Atoms N r) (sym same.1.0) k) S p)
    where
      first : List InputRule
      first = demanding_as_written ws (pos v)

      second : List InputRule
      second = demanding_as_written ws (neg_ℤ (pos v))

      later : List (List ℕ)
      later = drop (leaves l) texts

      both : (F S : List ℕ) → Goal first l texts F → Goal second r later S → merge_outcome s o ws v F S ≡ gives text → Goal ws (split v l r) texts text
      both F S (a, p) (b, q) e =
          let halves : are_halves s ws v (tree_text first l texts) (tree_text second r later) ≡ true =
          rw (i, (fits-outcome s o first l texts a).1, (fits-outcome s o second r later b).1) refl in
          let m = merge-fits ws v (tree_text first l texts) (tree_text second r later) text halves (ap₂ (λ (x y : List ℕ). merge_outcome s o ws v x y) (sym p) (sym q) ∙ e) in
          ((i, ((a, b), (m.0, m.1))), m.2)

      by : (x : Side) → tree_outcome s o first l texts ≡ x → (y : Side) → tree_outcome s o second r later ≡ y
          → onward x (λ F. onward y (λ S. merge_outcome s o ws v F S)) ≡ gives text
          → ((F : List ℕ) → tree_outcome s o first l texts ≡ gives F → Goal first l texts F)
          → ((S : List ℕ) → tree_outcome s o second r later ≡ gives S → Goal second r later S) → Goal ws (split v l r) texts text
      by (fails n) p y q e f g = absurd (failed-text e)
      by (gives F) p (fails n) q e f g = absurd (failed-text e)
      by (gives F) p (gives S) q e f g = both F S (f F p) (g S q) e

pub tree-only : TreeOnly
unfolding merge_tree
tree-only text tree texts lengths table store table' store' output output' n e =
    let J = judged-tree (length table) (length store) (length output) tree texts lengths (read_text (length table) text) (subst IsMerged (ap (λ (x : MergeLeft). x.answer) e) tt) in
    let p = J.parse in
    let all = ends texts lengths in
    let F = outcome_fits (length store) (length output) J.rules p.shape all (parsed-atoms (atoms J.rules) p.shape most_splits [] tree [] p.is) p.text p.outcome in
    let good : is_accepted (length store) J.rules p.text ≡ true =
    ap (is_accepted (length store) J.rules) F.1 ∙ (fits-outcome (length store) (length output) J.rules p.shape all F.0).1 in
    let w = accepted-written (length table) (length store) (length output) J.rules p.text (course (atoms J.rules) (expand J.rules) (length store) p.text) good in
    let a : ◌≡◌ {A = MergeAnswer} (Ok n) (Ok (length p.text)) = ap (λ (x : MergeLeft). x.answer) (e ∙ J.judging) ∙ w.0 in
    let i : n ≡ length p.text = cc in
    let held = ap (λ (x : MergeLeft). x.output) (e ∙ J.judging) ∙ w.1 in
    let put = ap₂ (λ (x : List ℕ) (m : ℕ). x ++ replicate (length output - m) 0) F.1 (sym i) in
    (J.rules, J.read, (p.shape, p.is, p.fits, F.0, (i ∙ ap length F.1, held ∙ put)))
