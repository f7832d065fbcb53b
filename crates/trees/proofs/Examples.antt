-- The worked cases by computation. Assumes nothing.
use mathlib.Core.Path.{◌≡◌, refl, sym, ap, ◌∙◌, subst₂}
use mathlib.Core.List.{List, [], map}
use lib.IntN.{pos}
use lib.ListN.{length, replicate}
use Rattle.words.specs.Lists.{concat}
use Rattle.words.specs.Literals.{insert, insert_all}
use Rattle.text.specs.Decimals.{decimals, decimal, number_bytes, spaced}
use Rattle.text.specs.Line.{line_of}
use Rattle.aspif.specs.Rules.{InputRule, bodies_of, expand_rule, expand, atoms}
use Rattle.aspif.specs.Reading.{Reading, refused, program, shape_of, read_lines, read_text, lines_from}
use Rattle.drupe.specs.Texts.{step_text, text_of, steps_at, steps_within}
use Rattle.nogoods.specs.Store.{live}
use Rattle.runs.specs.Course.{course_within}
use Rattle.merging.specs.Merge.{merged}
use Rattle.shapes.specs.Tree.{Shape, end, Parsed, bad, found, tree_of, most_splits}
use Rattle.trees.specs.Service.{tree_outcome, merge_tree}
use Rattle.trees.specs.Claims.{FitsAll}
use Rattle.trees.specs.Examples.{text_c, end_c, rules_c, tree_c, shape_c, ends_c, inner_c, Worked}
use Rattle.trees.proofs.Only.{keeps-to-store, goes-past-store, tree-only}

-- the rules that were read and the shape that was found are these
fits-as : (ws : List InputRule) → read_text 21 text_c ≡ program ws → (shape : Shape) → tree_of most_splits [] (atoms ws) tree_c ≡ found shape []
    → FitsAll 200 87 ws shape ends_c → FitsAll 200 87 rules_c shape_c ends_c
unfolding tree_of read_text read_lines lines_from shape_of line_of insert insert_all
fits-as ws q shape p f =
    let w : ws ≡ rules_c = ap (λ (r : Reading). elim r as (λ x. List InputRule) [ refused k n ↦ [] | program us ↦ us ]) (sym q) in
    let z : shape ≡ shape_c =
    ap (λ (x : Parsed). elim x as (λ y. Shape) [ bad ↦ end | found t rest ↦ t ]) (sym p ∙ ap (λ (us : List InputRule). tree_of most_splits [] (atoms us) tree_c) w) in
    subst₂ (λ (us : List InputRule) (t : Shape). FitsAll 200 87 us t ends_c) w z f

pub worked : Worked
unfolding merge_tree tree_outcome tree_of merged course_within live text_of step_text spaced number_bytes decimal decimals steps_within steps_at read_text read_lines lines_from shape_of line_of insert insert_all expand expand_rule bodies_of
worked = record {
  none = refl;
  too_few = refl;
  twice = refl;
  root = refl;
  root-output = refl;
  root-store = refl;
  split-57 = refl;
  split-58 = refl;
  split-59 = refl;
  split = refl;
  parsed = refl;
  one-tree = refl;
  bytes = refl;
  fits =
      let x = tree-only text_c tree_c (concat ends_c) (map length ends_c) (replicate 21 (pos 0)) (replicate 200 (pos 0)) _ _ (replicate 87 0) _ 87 refl in
      fits-as x.0 x.1 x.2.0 x.2.1 x.2.3;
  inner = refl;
  inner-within = keeps-to-store 36 58 inner_c 2 end_c end_c refl refl refl;
  inner-past = goes-past-store 35 58 inner_c 2 end_c end_c refl refl refl;
  first-58 = refl;
  first-59 = refl;
  second-57 = refl;
  first-57 = refl;
  number = refl;
}
