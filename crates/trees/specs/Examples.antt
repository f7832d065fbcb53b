-- What the service answers on worked cases, by its definition; proofs/Examples.antt computes them, takes `fits` from `TreeOnly`, and
-- `inner-within` and `inner-past` from `MergedEnds`.
-- Assumes nothing.
use Rattle.std.specs.Prelude.{◌≡◌, List, [], ◌∷◌, map, ℕ, pos, length, Ok, Err}
use Rattle.words.specs.Lists.{concat}
use Rattle.text.specs.Strings.{lines}
use Rattle.aspif.specs.Rules.{InputRule, expand, atoms}
use Rattle.aspif.specs.Reading.{refused, program, read_text}
use Rattle.drupe.specs.Texts.{Step, text_of}
use Rattle.merging.specs.Claims.{demanding_as_written}
use Rattle.merging.specs.Trees.{merged_tree}
use Rattle.splits.specs.Service.{merged_steps, MergeAnswer}
use Rattle.splits.specs.Claims.{PastStore}
use Rattle.shapes.specs.Tree.{Shape, end, split, found, tree_of, most_splits}
use Rattle.trees.specs.Service.{merge_tree}
use Rattle.trees.specs.Claims.{tree_text, FitsAll, tree_steps}
use Rattle.splits.specs.declared.MergeFault.TheVariants.{NotAccepted, NotWritable, StoreFull, NoTree}
use Rattle.splits.specs.Numbers.{number_of}
use Rattle.aspif.specs.declared.Refusal.TheVariants.{Service}

-- program C of the change: a choice over 1 to 7, and constraints that demand 7 and forbid it
abbrev pub text_c : List ℕ
text_c = lines ("asp 1 0 0" ∷ "1 1 7 1 2 3 4 5 6 7 0 0" ∷ "1 0 0 0 1 7" ∷ "1 0 0 0 1 -7" ∷ "0" ∷ [])

-- an end, and one without its last line
abbrev pub end_c : List ℕ
end_c = lines ("b 8 7 0" ∷ "c 8 0" ∷ "b 9 -7 0" ∷ "c 9 0" ∷ "a 0" ∷ [])

abbrev pub bad_c : List ℕ
bad_c = lines ("b 8 7 0" ∷ "c 8 0" ∷ "b 9 -7 0" ∷ "c 9 0" ∷ [])

-- the answer with a store and an output of these lengths
abbrev pub answer_c : (store output : ℕ) → (tree : List ℕ) → (ends : List (List ℕ)) → MergeAnswer
answer_c s o tree ends = (merge_tree 21 s o text_c tree (concat ends) (map length ends)).answer

-- its rules; a tree of two splits, as numbers and as a shape, and its ends
abbrev pub rules_c : List InputRule
rules_c = elim (read_text 21 text_c) [ refused k n ↦ [] | program ws ↦ ws ]

abbrev pub tree_c : List ℕ
tree_c = 1 ∷ 2 ∷ 0 ∷ 0 ∷ 0 ∷ []

abbrev pub shape_c : Shape
shape_c = split 1 (split 2 end end) end

abbrev pub ends_c : List (List ℕ)
ends_c = end_c ∷ end_c ∷ end_c ∷ []

-- the rules of its inner split, which are read from no text, and the merged steps of that split's two ends
abbrev pub inner_c : List InputRule
inner_c = demanding_as_written rules_c (pos 1)

abbrev pub inner_steps : List Step
inner_steps = merged_steps inner_c 2 end_c end_c

pub record Worked : Type 0 where
  -- the empty list; too few numbers; an atom twice on a path
  pub none : answer_c 24 33 [] [] ≡ Err (Service NoTree)
  pub too_few : answer_c 24 33 (1 ∷ 0 ∷ []) (end_c ∷ []) ≡ Err (Service NoTree)
  pub twice : answer_c 24 33 (1 ∷ 1 ∷ 0 ∷ 0 ∷ 0 ∷ []) (end_c ∷ end_c ∷ end_c ∷ []) ≡ Err (Service NoTree)
  -- a root end: 57 before 58
  pub root : answer_c 24 33 (0 ∷ []) (end_c ∷ []) ≡ Ok 33
  pub root-output : answer_c 24 32 (0 ∷ []) (end_c ∷ []) ≡ Err (Service NotWritable)
  pub root-store : answer_c 23 32 (0 ∷ []) (end_c ∷ []) ≡ Err (Service NotAccepted)
  -- a merge: both ends' 57 before its 58, and 58 before 59
  pub split-57 : answer_c 24 40 (1 ∷ 0 ∷ 0 ∷ []) (end_c ∷ bad_c ∷ []) ≡ Err (Service NotAccepted)
  pub split-58 : answer_c 24 40 (1 ∷ 0 ∷ 0 ∷ []) (end_c ∷ end_c ∷ []) ≡ Err (Service NotWritable)
  pub split-59 : answer_c 24 400 (1 ∷ 0 ∷ 0 ∷ []) (end_c ∷ end_c ∷ []) ≡ Err (Service StoreFull)
  -- a merge of a merge
  pub split : answer_c 200 87 tree_c ends_c ≡ Ok 87
  -- its text is that of the merged tree of steps
  pub parsed : tree_of most_splits [] (atoms rules_c) tree_c ≡ found shape_c []
  pub one-tree : tree_text rules_c shape_c ends_c ≡ text_of (merged_tree (atoms rules_c) (expand rules_c) (tree_steps shape_c ends_c))
  pub bytes : length (tree_text rules_c shape_c ends_c) ≡ 87
  -- every merge fits, by `TreeOnly`
  pub fits : FitsAll 200 87 rules_c shape_c ends_c
  -- the merge inside, by `MergedEnds`: its lines, and how many words they need
  pub inner : text_of inner_steps
      ≡ lines ("b 8 7 0" ∷ "c 8 0" ∷ "b 9 -7 0" ∷ "c 9 0" ∷ "a 2 0" ∷ "c 8 0" ∷ "c 9 0" ∷ "a -2 0" ∷ "a 0" ∷ [])
  pub inner-within : ¬ (PastStore 36 inner_c inner_steps)
  pub inner-past : PastStore 35 inner_c inner_steps
  -- "the demanding side before the other": its 58 or 59 before a bad end on the other side
  pub first-58 : answer_c 200 40 (1 ∷ 2 ∷ 0 ∷ 0 ∷ 0 ∷ []) (end_c ∷ end_c ∷ bad_c ∷ []) ≡ Err (Service NotWritable)
  pub first-59 : answer_c 24 400 (1 ∷ 2 ∷ 0 ∷ 0 ∷ 0 ∷ []) (end_c ∷ end_c ∷ bad_c ∷ []) ≡ Err (Service StoreFull)
  pub second-57 : answer_c 200 400 (1 ∷ 2 ∷ 0 ∷ 0 ∷ 0 ∷ []) (end_c ∷ end_c ∷ bad_c ∷ []) ≡ Err (Service NotAccepted)
  -- and its bad end before a 58 inside the other side
  pub first-57 : answer_c 200 40 (1 ∷ 0 ∷ 2 ∷ 0 ∷ 0 ∷ []) (bad_c ∷ end_c ∷ end_c ∷ []) ≡ Err (Service NotAccepted)
  -- by which number what is no tree is told; the others are in splits/specs/Examples.antt
  pub number : number_of NoTree ≡ 64
