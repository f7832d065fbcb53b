-- What the service leaves, from what its parts leave. Assumes nothing.
use mathlib.Core.Path.{◌≡◌, refl, sym, ap, ap₂, ◌∙◌, subst}
use mathlib.Core.Bool.{true, false, true≢false}
use mathlib.Core.List.{List, [], ◌∷◌, ◌++◌}
use Prim.Native.Nat.{ℕ, ◌-◌, ◌≤◌, ◌<◌}
use native.Mathlib.Omega.{arith}
use borrow.Author.Tests.{lt-leb, le-leb, eqb-true}
use lib.Dec.{eqb}
use lib.IntN.{ℤ, pos}
use Rattle.text.proofs.Puts.{front-put}
use lib.ListN.{length, drop, replicate}
use Rattle.words.proofs.Lists.{and_left, and_right}
use Rattle.text.specs.Writing.{Put}
use Rattle.aspif.specs.Rules.{InputRule, expand, atoms}
use Rattle.aspif.specs.Reading.{Reading, program, read_text, program_answer, table_of}
use Rattle.aspif.specs.declared.ProgramCounts.{ProgramCounts}
use Rattle.aspif.specs.declared.ProgramRefusal.{ProgramRefusal}
use Rattle.words.proofs.Laws.{drop-replicate}
use Rattle.runs.specs.Course.{course, is_accepted}
use Rattle.checker.specs.Check.{judged, is_inconsistent}
use Rattle.checker.specs.declared.Verdict.{Verdict}
use Rattle.checker.proofs.Verdicts.{verdict-empty, unread}
use Rattle.splits.specs.Service.{leaves_nothing}
use Rattle.splits.proofs.Answers.{found-inconsistent}
use Rattle.shapes.specs.Tree.{Shape, Parsed, bad, found, tree_of, most_splits, leaves, sum, ends, matches}
use Rattle.shapes.specs.Walks.{is_tree}
use Rattle.trees.specs.Service.{tree_outcome, written_tree, parsed_tree, tree_reading, merge_tree}
use Rattle.trees.specs.Sides.{Subtree, pending}
use Rattle.std.specs.Prelude.{Result, Err, Ok}
use Rattle.splits.specs.declared.MergeFault.TheVariants.{NotWritable, NoTree}
use Rattle.splits.specs.declared.MergeFault.{MergeFault}
use Rattle.aspif.specs.declared.Refusal.TheVariants.{Program, Service}

-- A text put at the front of a buffer

pub put-size : {text before after : List ℕ} {next : ℕ} → Put text before after 0 next → next ≡ length text
put-size p = omega (arith, p.ends)

-- of a buffer that was 0
pub put-blank : (text before after : List ℕ) {next : ℕ} → Put text before after 0 next → before ≡ replicate (length before) 0 → length text ≤ length before
    → after ≡ text ++ replicate (length before - next) 0
put-blank text before after {next} p z h =
    front-put text before after p h
    ∙ ap (λ (l : List ℕ). text ++ l) (ap₂ drop (sym (put-size p)) z ∙ drop-replicate next (length before) 0)

-- The last check

module _ (t s o : ℕ) (ws : List InputRule) (text : List ℕ) (fault : MergeFault) {v : Verdict} {table store : List ℤ}
    (e : record { verdict = v; table = table; store = store } ≡ judged t s ws (course (atoms ws) (expand ws) s text)) where
  verdict-is : is_inconsistent v ≡ is_accepted s ws text
  verdict-is = verdict-empty t s ws (course (atoms ws) (expand ws) s text) e

  pub last-refused : is_inconsistent v ≡ false → leaves_nothing t s o (Err (Service fault)) ≡ written_tree t s o ws (pending s ws text fault)
  last-refused i = let a : is_accepted s ws text ≡ false = sym verdict-is ∙ i in rw a refl

  module _ (i : is_inconsistent v ≡ true) where
    accepted : is_accepted s ws text ≡ true
    accepted = sym verdict-is ∙ i

    pub over-output : o < length text → leaves_nothing t s o (Err (Service NotWritable)) ≡ written_tree t s o ws (pending s ws text fault)
    over-output h = rw (accepted, lt-leb (length text) o h) refl

    pub written_out : length text ≤ o → {m : ℕ} {output : List ℕ} → m ≡ length text → output ≡ text ++ replicate (o - m) 0
        → record { answer = Ok m; table = table; store = store; output = output } ≡ written_tree t s o ws (pending s ws text fault)
    written_out h l p =
        found-inconsistent t s o ws text (course (atoms ws) (expand ws) s text) e i l p
        ∙ rw (accepted, le-leb (length text) o h) refl

-- 64

module _ (N : ℕ) (tree texts lengths : List ℕ) where
  pub record Fitting : Type 0 where
    pub shape : Shape
    pub parsed : tree_of most_splits [] N tree ≡ found shape []
    pub counted : eqb (leaves shape) (length lengths) ≡ true
    pub summed : eqb (sum lengths) (length texts) ≡ true

  is-fitting : (p : Parsed) → tree_of most_splits [] N tree ≡ p → is_tree p (length texts) lengths ≡ true → Fitting
  is-fitting bad e q = absurd (true≢false (sym q))
  is-fitting (found t (n ∷ ns)) e q = absurd (true≢false (sym q))
  is-fitting (found t []) e q = record { shape = t; parsed = e; counted = and_left _ _ q; summed = and_right (eqb (leaves t) (length lengths)) _ q }

  pub fitting : is_tree (tree_of most_splits [] N tree) (length texts) lengths ≡ true → Fitting
  fitting q = is-fitting (tree_of most_splits [] N tree) refl q

  pub fitting-tree : (F : Fitting) → Subtree most_splits N tree texts lengths F.shape []
  fitting-tree F =
      let c = eqb-true (leaves F.shape) (length lengths) F.counted in
      record { path = []; parsed = F.parsed; enough = omega (arith, c); added = eqb-true (sum lengths) (length texts) F.summed }

  module _ (t s o : ℕ) (ws : List InputRule) (top : N ≡ atoms ws) where
    pub no-tree : is_tree (tree_of most_splits [] N tree) (length texts) lengths ≡ false → leaves_nothing t s o (Err (Service NoTree)) ≡ tree_reading t s o tree texts lengths (program ws)
    no-tree q = subst (λ (M : ℕ). leaves_nothing t s o (Err (Service NoTree)) ≡ parsed_tree t s o ws texts lengths (tree_of most_splits [] M tree)) top (by (tree_of most_splits [] N tree) q)
      where
        by : (p : Parsed) → is_tree p (length texts) lengths ≡ false → leaves_nothing t s o (Err (Service NoTree)) ≡ parsed_tree t s o ws texts lengths p
        by bad q = refl
        by (found u (n ∷ ns)) q = refl
        by (found u []) q = let m : matches u texts lengths ≡ false = q in rw m refl

    pub whole-tree : (F : Fitting)
        → written_tree t s o ws (tree_outcome s o ws F.shape (ends texts lengths)) ≡ tree_reading t s o tree texts lengths (program ws)
    whole-tree F =
        let p : tree_of most_splits [] (atoms ws) tree ≡ found F.shape [] = ap (λ (M : ℕ). tree_of most_splits [] M tree) (sym top) ∙ F.parsed in
        rw (p, F.counted, F.summed) refl

-- The program

module _ (t s o : ℕ) (text tree texts lengths : List ℕ) {r : Result ProgramCounts ProgramRefusal} (answer : r ≡ program_answer (read_text t text)) {table : List ℤ} (words : table ≡ table_of t (read_text t text)) where
  pub unread-tree : (x : ProgramRefusal) {store : List ℤ} {output : List ℕ} → r ≡ Err x → store ≡ replicate s (pos 0) → output ≡ replicate o 0
      → record { answer = Err (Program x); table = table; store = store; output = output } ≡ merge_tree t s o text tree texts lengths
  unfolding merge_tree
  unread-tree x {store} {output} e z y =
      unread t text answer words (tree_reading t s o tree texts lengths) (λ q l. record { answer = Err (Program q); table = l; store = store; output = output }) (λ k n. rw (z, y) refl) x e

  pub tree-read : (ws : List InputRule) → read_text t text ≡ program ws → tree_reading t s o tree texts lengths (program ws) ≡ merge_tree t s o text tree texts lengths
  unfolding merge_tree
  tree-read ws e = rw e

pub tree-reading-same : (tree texts lengths : List ℕ) (r : Reading) {t t' s s' o o' : ℕ} → t ≡ t' → s ≡ s' → o ≡ o'
    → tree_reading t s o tree texts lengths r ≡ tree_reading t' s' o' tree texts lengths r
tree-reading-same tree texts lengths r a b c = rw (a, b, c)
