-- What `merge_tree` answers and leaves, of the texts, the tree and the lengths of what it is lent: document 02, Change 14.
-- Assumes nothing.
use Rattle.std.specs.Prelude.{◌≡◌, cond, List, [], ◌∷◌, ℕ, leb, ℤ, pos, neg_ℤ, length, drop, Err}
use Rattle.aspif.specs.Rules.{InputRule, expand, atoms}
use Rattle.aspif.specs.Reading.{Reading, refused, program, read_text}
use Rattle.drupe.specs.Texts.{text_of}
use Rattle.runs.specs.Course.{course, is_accepted}
use Rattle.merging.specs.Claims.{demanding_as_written}
use Rattle.splits.specs.Service.{merged_steps, is_writable, MergeLeft, leaves_nothing, judged_text, MergeAnswer}
use Rattle.shapes.specs.Tree.{Shape, end, split, Parsed, bad, found, tree_of, most_splits, leaves, ends, matches}
use Rattle.splits.specs.declared.MergeFault.TheVariants.{NotAccepted, NotWritable, StoreFull, NoTree}
use Rattle.splits.specs.declared.MergeFault.{MergeFault}
use Rattle.aspif.specs.declared.Refusal.TheVariants.{Program, Service}

-- the text of a side, or the question that was failed first
pub data Side : Type 0 where
  fails : MergeFault → Side
  gives : List ℕ → Side

abbrev pub onward : Side → (List ℕ → Side) → Side
onward (fails k) f = fails k
onward (gives text) f = f text

-- the text of the first end
abbrev pub first_end : List (List ℕ) → List ℕ
first_end [] = []
first_end (text ∷ texts) = text

-- the lengths of store and output: "Every merge is held to the same store and output length."
module _ (s o : ℕ) where
  -- 58 and 59 of Change 9, of two sides that are accepted
  abbrev pub merge_outcome : List InputRule → (atom : ℕ) → (first second : List ℕ) → Side
  merge_outcome ws v first second =
      let text = text_of (merged_steps ws v first second) in
      cond (is_writable o (merged_steps ws v first second)) (cond (is_accepted s ws text) (gives text) (fails StoreFull)) (fails NotWritable)

  -- "accepted proofs at its ends, each for the program with the constraints on its path"; "Merge it from the ends upward by Change 9";
  -- "The first refusal met decides, the demanding side before the other, also where it is an end"
  unfoldable pub tree_outcome : List InputRule → Shape → (texts : List (List ℕ)) → Side
  tree_outcome ws end texts = cond (is_accepted s ws (first_end texts)) (gives (first_end texts)) (fails NotAccepted)
  tree_outcome ws (split v l r) texts =
      onward (tree_outcome (demanding_as_written ws (pos v)) l texts) (λ first.
      onward (tree_outcome (demanding_as_written ws (neg_ℤ (pos v))) r (drop (leaves l) texts)) (λ second. merge_outcome ws v first second))

-- the lengths of table, store and output
module _ (t s o : ℕ) where
  -- the text of the whole tree: "a root end .. longer than the output 58", which no merge is; "the store is as the check of the proof
  -- written or taken leaves it"
  abbrev pub written_tree : List InputRule → Side → MergeLeft
  written_tree ws (fails k) = leaves_nothing t s o (Err (Service k))
  written_tree ws (gives text) =
      cond (leb (length text) o) (judged_text t s o ws text (course (atoms ws) (expand ws) s text)) (leaves_nothing t s o (Err (Service NotWritable)))

  -- a list that is a tree, with the ends; a number after it is left over
  abbrev pub parsed_tree : List InputRule → (texts lengths : List ℕ) → Parsed → MergeLeft
  parsed_tree ws texts lengths bad = leaves_nothing t s o (Err (Service NoTree))
  parsed_tree ws texts lengths (found shape (n ∷ ns)) = leaves_nothing t s o (Err (Service NoTree))
  parsed_tree ws texts lengths (found shape []) =
      cond (matches shape texts lengths) (written_tree ws (tree_outcome s o ws shape (ends texts lengths))) (leaves_nothing t s o (Err (Service NoTree)))

  -- "turned down with 64, after the program's own questions and before any end is read"
  abbrev pub tree_reading : (tree texts lengths : List ℕ) → Reading → MergeLeft
  tree_reading tree texts lengths (refused k n) = leaves_nothing t s o (Err (Program (record { fault = k; line = n })))
  tree_reading tree texts lengths (program ws) = parsed_tree ws texts lengths (tree_of most_splits [] (atoms ws) tree)

  unfoldable pub merge_tree : (text tree texts lengths : List ℕ) → MergeLeft
  merge_tree text tree texts lengths = tree_reading tree texts lengths (read_text t text)

-- the public contract of `merge_tree`, whatever it is lent
abbrev pub MergedTree : (text tree texts lengths : List ℕ) → (table store table' store' : List ℤ) → (output output' : List ℕ) → MergeAnswer → Type 0
MergedTree text tree texts lengths table store table' store' output output' r =
    record { answer = r; table = table'; store = store'; output = output' }
    ≡ merge_tree (length table) (length store) (length output) text tree texts lengths
