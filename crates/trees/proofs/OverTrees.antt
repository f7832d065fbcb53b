-- The claims over trees: each merge by the theorem over texts of Change 9, and the last check by that of the whole check. Assumes nothing.
use mathlib.Core.Path.{◌≡◌, refl, ap, ◌∙◌, subst}
use mathlib.Core.Logic.{inl, inr}
use mathlib.Core.Bool.{Bool, true, false, cond}
use mathlib.Core.List.{List, [], ◌∷◌}
use Prim.Native.Nat.{ℕ}
use lib.Dec.{leb}
use lib.IntN.{pos, neg_ℤ}
use lib.ListN.{length, take, drop}
use Rattle.words.specs.Limits.{longest}
use Rattle.words.proofs.Lists.{is_true, leb-decides}
use Rattle.aspif.specs.Rules.{InputRule, expand, atoms}
use Rattle.aspif.specs.Reading.{Reading, program, read_text}
use Rattle.drupe.specs.Texts.{text_of}
use Rattle.runs.specs.Course.{course, is_accepted}
use Rattle.checker.specs.Check.{Checked}
use Rattle.checker.proofs.Whole.{soundness-whole}
use Rattle.merging.specs.Claims.{demanding_as_written}
use Rattle.splits.specs.Service.{are_halves, merged_steps, MergeLeft, leaves_nothing, judged_text, MergeAnswer}
use Rattle.splits.proofs.OverTexts.{merged-ends, judged-checked}
use Rattle.splits.proofs.Exactly.{accepted-written, writable-short}
use Rattle.shapes.specs.Tree.{Shape, end, split, Parsed, bad, found, tree_of, most_splits, leaves, ends, matches}
use Rattle.trees.specs.Service.{Side, fails, gives, onward, merge_outcome, tree_outcome, written_tree, parsed_tree, tree_reading, merge_tree}
use Rattle.trees.specs.Claims.{tree_text, FitsAll, TreeWritten, Demand3Tree}
use Rattle.splits.specs.declared.MergeFault.TheVariants.{NotWritable, NoTree}
use Rattle.aspif.specs.declared.Refusal.TheVariants.{Program, Service}
use Rattle.std.specs.Prelude.{Ok, Err}

-- Every merge fits

module _ (s o : ℕ) (ws : List InputRule) where
  at-end : (texts : List (List ℕ)) → FitsAll s o ws end texts → tree_outcome s o ws end texts ≡ gives (tree_text ws end texts)
  unfolding tree_outcome
  at-end texts a = rw a refl

  pub at_split : (v : ℕ) (l r : Shape) (texts : List (List ℕ))
      → tree_outcome s o ws (split v l r) texts
      ≡ onward (tree_outcome s o (demanding_as_written ws (pos v)) l texts) (λ first.
      onward (tree_outcome s o (demanding_as_written ws (neg_ℤ (pos v))) r (drop (leaves l) texts)) (λ second. merge_outcome s o ws v first second))
  unfolding tree_outcome
  at_split v l r texts = refl

module _ (s o : ℕ) where
  pub fits-outcome : (ws : List InputRule) (t : Shape) (texts : List (List ℕ)) → FitsAll s o ws t texts
      → (tree_outcome s o ws t texts ≡ gives (tree_text ws t texts)) × (is_accepted s ws (tree_text ws t texts) ≡ true)
  fits-outcome ws end texts a = (at-end s o ws texts a, a)
  fits-outcome ws (split v l r) texts (i, ((a, b), (w, n))) =
      let F = tree_text (demanding_as_written ws (pos v)) l texts in
      let S = tree_text (demanding_as_written ws (neg_ℤ (pos v))) r (drop (leaves l) texts) in
      let x = fits-outcome (demanding_as_written ws (pos v)) l texts a in
      let y = fits-outcome (demanding_as_written ws (neg_ℤ (pos v))) r (drop (leaves l) texts) b in
      let halves : are_halves s ws v F S ≡ true = rw (i, x.1, y.1) refl in
      let short = writable-short o (merged_steps ws v F S) w in
      let good : is_accepted s ws (text_of (merged_steps ws v F S)) ≡ true = elim (merged-ends s ws v F S halves short.0 short.1).1.1 [ inl e ↦ e.1 | inr e ↦ absurd (n e.0) ] in
      (at_split s o ws v l r texts ∙ rw (x.0, y.0, w, good) refl, good)

pub tree-written : TreeWritten
unfolding merge_tree
tree-written t s o text tree texts lengths ws q shape p m f h =
    let x = fits-outcome s o ws shape (ends texts lengths) f in
    let T = tree_text ws shape (ends texts lengths) in
    rw (q, p, m, x.0, is_true (leb-decides (length T) o) h) (accepted-written t s o ws T (course (atoms ws) (expand ws) s T) x.1)

-- The service writes a text

abbrev pub IsMerged : MergeAnswer → Type 0
IsMerged (Ok n) = Unit {0}
IsMerged (Err (Program x)) = ⊥
IsMerged (Err (Service k)) = ⊥

-- the text that was judged, of a tree that matches the ends, and what it comes to
module _ (t s o : ℕ) where
  abbrev Judging : List InputRule → (text : List ℕ) → MergeLeft → Type 0
  Judging ws text x = x ≡ judged_text t s o ws text (course (atoms ws) (expand ws) s text)

  side-judged : (ws : List InputRule) (x : Side) → IsMerged (written_tree t s o ws x).answer
      → (text : List ℕ) × (x ≡ gives text) × Judging ws text (written_tree t s o ws x)
  side-judged ws (fails k) m = absurd m
  side-judged ws (gives text) m = by (leb (length text) o) m
    where
      by : (b : Bool) → IsMerged (cond b (judged_text t s o ws text (course (atoms ws) (expand ws) s text)) (leaves_nothing t s o (Err (Service NotWritable)))).answer
          → (path : List ℕ) × (gives text ≡ gives path)
          × Judging ws path (cond b (judged_text t s o ws text (course (atoms ws) (expand ws) s text)) (leaves_nothing t s o (Err (Service NotWritable))))
      by true m = (text, refl, refl)
      by false m = absurd m

  pub record Parse (ws : List InputRule) (texts lengths : List ℕ) (x : Parsed) : Type 0 where
    pub shape : Shape
    pub is : x ≡ found shape []
    pub fits : matches shape texts lengths ≡ true
    pub text : List ℕ
    pub outcome : tree_outcome s o ws shape (ends texts lengths) ≡ gives text
    pub judging : Judging ws text (parsed_tree t s o ws texts lengths x)

  parsed-judged : (ws : List InputRule) (texts lengths : List ℕ) (x : Parsed) → IsMerged (parsed_tree t s o ws texts lengths x).answer → Parse ws texts lengths x
  parsed-judged ws texts lengths bad m = absurd m
  parsed-judged ws texts lengths (found shape (n ∷ ns)) m = absurd m
  parsed-judged ws texts lengths (found shape []) m = by (matches shape texts lengths) refl m
    where
      outcome : Side
      outcome = tree_outcome s o ws shape (ends texts lengths)

      by : (b : Bool) → matches shape texts lengths ≡ b → IsMerged (cond b (written_tree t s o ws outcome) (leaves_nothing t s o (Err (Service NoTree)))).answer
          → Parse ws texts lengths (found shape [])
      by true f m =
          let x = side-judged ws outcome m in
          record { shape = shape; is = refl; fits = f; text = x.0; outcome = x.1; judging = rw f x.2 }
      by false f m = absurd m

  pub record Judged (tree texts lengths : List ℕ) (r : Reading) : Type 0 where
    pub rules : List InputRule
    pub read : r ≡ program rules
    pub parse : Parse rules texts lengths (tree_of most_splits [] (atoms rules) tree)
    pub judging : Judging rules parse.text (tree_reading t s o tree texts lengths r)

  pub judged-tree : (tree texts lengths : List ℕ) (r : Reading) → IsMerged (tree_reading t s o tree texts lengths r).answer → Judged tree texts lengths r
  judged-tree tree texts lengths (Reading.refused k n) m = absurd m
  judged-tree tree texts lengths (program ws) m =
      let x = parsed-judged ws texts lengths (tree_of most_splits [] (atoms ws) tree) m in
      record { rules = ws; read = refl; parse = x; judging = x.judging }

pub demand3-tree : Demand3Tree
unfolding merge_tree
demand3-tree text tree texts lengths table store table' store' output output' n e =
    let J = judged-tree (length table) (length store) (length output) tree texts lengths (read_text (length table) text) (subst IsMerged (ap (λ (x : MergeLeft). x.answer) e) tt) in
    let k = judged-checked text (length table) (length store) (length output) n table' store' output' J.rules J.read J.parse.text _ refl (e ∙ J.judging) in
    (soundness-whole longest text (take n output') (length table) (length store) k.0 (ap (λ (x : Checked). x.verdict) k.1), k)
