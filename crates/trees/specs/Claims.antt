-- What is claimed of the merge of a tree over texts; OverTrees.antt, OneTree.antt, Only.antt and Roots.antt of proofs/ prove it.
-- Assumes nothing.
use Rattle.std.specs.Prelude.{◌≡◌, true, false, List, [], ◌∷◌, ◌++◌, ℕ, ◌-◌, ◌≤◌, ◌<◌, ℤ, pos, neg_ℤ, length, replicate, take, drop, Ok, Err}
use Rattle.aspif.specs.Rules.{InputRule, expand, atoms}
use Rattle.aspif.specs.Reading.{program, read_text}
use Rattle.drupe.specs.Texts.{text_of}
use Rattle.derivation.specs.States.{is_atom}
use Rattle.derivation.specs.Claims.{NoneAsWritten}
use Rattle.runs.specs.Course.{is_accepted}
use Rattle.checker.specs.Check.{check, is_inconsistent}
use Rattle.checker.specs.declared.Counts.{Counts}
use Rattle.checker.specs.declared.Verdict.TheVariants.{Inconsistent}
use Rattle.merging.specs.Claims.{demanding_as_written}
use Rattle.merging.specs.Trees.{Tree, merged_tree, Fits}
use Rattle.merging.specs.Trees as Trees
use Rattle.splits.specs.Service.{steps_in, merged_steps, is_writable, leaves_nothing}
use Rattle.splits.specs.Claims.{PastStore}
use Rattle.shapes.specs.Tree.{Shape, end, split, found, tree_of, most_splits, leaves, ends, matches}
use Rattle.trees.specs.Service.{first_end, merge_tree, MergedTree}
use Rattle.splits.specs.declared.MergeFault.TheVariants.{NotAccepted, NotWritable}
use Rattle.aspif.specs.declared.Refusal.TheVariants.{Service}

-- the text of a tree: an end as it stands, a split the merge of its sides
abbrev pub tree_text : List InputRule → Shape → (texts : List (List ℕ)) → List ℕ
tree_text ws end texts = first_end texts
tree_text ws (split v l r) texts =
    text_of
    (merged_steps ws v (tree_text (demanding_as_written ws (pos v)) l texts)
    (tree_text (demanding_as_written ws (neg_ℤ (pos v))) r (drop (leaves l) texts)))

-- with a store of s words and an output of o bytes: each end is accepted with the constraints on its path, each split is on an
-- atom of the program, and every merge keeps to the limits of lines and text, to the output, and to the store: its live words never go
-- past it
abbrev pub FitsAll : (s o : ℕ) → List InputRule → Shape → (texts : List (List ℕ)) → Type 0
FitsAll s o ws end texts = is_accepted s ws (first_end texts) ≡ true
FitsAll s o ws (split v l r) texts =
    let first = demanding_as_written ws (pos v) in
    let second = demanding_as_written ws (neg_ℤ (pos v)) in
    let later = drop (leaves l) texts in
    (is_atom (atoms ws) v ≡ true)
    × ((FitsAll s o first l texts × FitsAll s o second r later)
    × ((is_writable o (merged_steps ws v (tree_text first l texts) (tree_text second r later)) ≡ true)
    × (¬ (PastStore s ws (merged_steps ws v (tree_text first l texts) (tree_text second r later))))))

-- "The result is accepted whenever every merge fits": the outcome is then success, with the tree's text in the output and
-- 0 after it. A root end has to fit the output too.
abbrev pub TreeWritten : Type 0
TreeWritten =
    (t s o : ℕ) (text tree texts lengths : List ℕ) (ws : List InputRule) → read_text t text ≡ program ws
    → (shape : Shape) → tree_of most_splits [] (atoms ws) tree ≡ found shape [] → matches shape texts lengths ≡ true
    → FitsAll s o ws shape (ends texts lengths) → length (tree_text ws shape (ends texts lengths)) ≤ o
    → ((merge_tree t s o text tree texts lengths).answer ≡ Ok (length (tree_text ws shape (ends texts lengths))))
    × ((merge_tree t s o text tree texts lengths).output
    ≡ tree_text ws shape (ends texts lengths) ++ replicate (o - length (tree_text ws shape (ends texts lengths))) 0)

-- the tree of steps, as merging/specs/Trees.antt has it, that a tree's ends are read as
abbrev pub tree_steps : Shape → (texts : List (List ℕ)) → Tree
tree_steps end texts = Trees.end (steps_in (first_end texts))
tree_steps (split v l r) texts = Trees.split v (tree_steps l texts) (tree_steps r (drop (leaves l) texts))

-- `tree_text` here and `merged_tree` there are one: where every merge fits, `Fits` holds there too, and the tree's text is that of the merged
-- steps. So `TreeAsWritten` there speaks of what is written here.
abbrev pub OneTree : Type 0
OneTree =
    (s o : ℕ) (ws : List InputRule) (shape : Shape) (texts : List (List ℕ)) → FitsAll s o ws shape texts
    → Fits (atoms ws) (expand ws) (tree_steps shape texts)
    × (tree_text ws shape texts ≡ text_of (merged_tree (atoms ws) (expand ws) (tree_steps shape texts)))

-- The service writes a proof only where every merge fits, and what it writes is the tree's text, with 0 after it; n is that text's length.
-- By its contract, whatever it is lent.
abbrev pub TreeOnly : Type 0
TreeOnly =
    (text tree texts lengths : List ℕ) (table store table' store' : List ℤ) (output output' : List ℕ) (n : ℕ)
    → MergedTree text tree texts lengths table store table' store' output output' (Ok n)
    → (ws : List InputRule) × (read_text (length table) text ≡ program ws)
    × ((shape : Shape) × (tree_of most_splits [] (atoms ws) tree ≡ found shape []) × (matches shape texts lengths ≡ true)
    × FitsAll (length store) (length output) ws shape (ends texts lengths)
    × ((n ≡ length (tree_text ws shape (ends texts lengths)))
    × (output' ≡ tree_text ws shape (ends texts lengths) ++ replicate (length output - n) 0)))

-- "demand 3 then holds of the undivided program", by the contract, whatever is lent; and "the store is as the check of the proof written
-- or taken leaves it": the text written, checked with the same lengths, is found inconsistent, and table and store are as that check
-- leaves them
abbrev pub Demand3Tree : Type 1
Demand3Tree =
    (text tree texts lengths : List ℕ) (table store table' store' : List ℤ) (output output' : List ℕ) (n : ℕ)
    → MergedTree text tree texts lengths table store table' store' output output' (Ok n)
    → ((ws : List InputRule) × (read_text (length table) text ≡ program ws) × NoneAsWritten ws)
    × ((c : Counts) × (check text (take n output') (length table) (length store)
    ≡ record { verdict = Inconsistent c; table = table'; store = store' }))

-- A root end is what its check says: with the tree `0` there is no merge, the text is "written as it stands", and table and store are as the
-- check leaves them; 57 where it is not accepted, and then 58 where it is longer than the output
abbrev pub RootEnd : Type 0
RootEnd =
    (t s o : ℕ) (text texts : List ℕ) (ws : List InputRule) → read_text t text ≡ program ws
    → (is_inconsistent (check text texts t s).verdict ≡ false
    → merge_tree t s o text (0 ∷ []) texts (length texts ∷ []) ≡ leaves_nothing t s o (Err (Service NotAccepted)))
    × (is_inconsistent (check text texts t s).verdict ≡ true → o < length texts
    → merge_tree t s o text (0 ∷ []) texts (length texts ∷ []) ≡ leaves_nothing t s o (Err (Service NotWritable)))
    × (is_inconsistent (check text texts t s).verdict ≡ true → length texts ≤ o
    → merge_tree t s o text (0 ∷ []) texts (length texts ∷ [])
    ≡ record {
      answer = Ok (length texts);
      table = (check text texts t s).table;
      store = (check text texts t s).store;
      output = texts ++ replicate (o - length texts) 0;
    })
