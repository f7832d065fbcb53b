use mathlib.Core.Path.{◌≡◌, ◌∙◌, sym}
use mathlib.Core.Bool.{true}
use native.Mathlib.Omega.{arith}
use borrow.Author.Tests.{le-leb, lt-leb}
use borrow.Author.Rules.{sfits_of}
use lib.Dec.{leb}
use lib.IntN.{pos}
use lib.ListN.{get_or}
use mir.Syntax.{w32}
use mir.Val.{to_z, of_z}
use mir.Facts.{to_z-of_z}
use Rattle.weights.specs.Weights.{most_weighted}
use Rattle.aspif.specs.Rules.{is_weight}
use Rattle.aspif.specs.Reading.{all_weights}
use Rattle.aspif.specs.Tables.{body_count, body_words_at, weights_sound}
use Rattle.aspif.proofs.tables.weights_sound.Goals as goal
use Rattle.aspif.proofs.tables.weights_sound.Goals.{Else-size_at-gt-MOST_WEIGHTED, After-is_weight, After-all_weights}

few : (c : Else-size_at-gt-MOST_WEIGHTED) → leb (body_count c.args.words.now) most_weighted ≡ true
few c = le-leb (body_count c.args.words.now) most_weighted (omega (arith, c.size_at.ensures, c.if-size_at-gt-MOST_WEIGHTED.false))

bound : (c : After-is_weight) → is_weight (get_or c.args.words.now 4 (pos 0)) ≡ c.is_weight.result
bound c =
    let w = c.word_at in
    let e : to_z w32 (of_z w32 w.result) ≡ get_or c.args.words.now 4 (pos 0) = to_z-of_z {w = w32} (sfits_of {z = w.result} w.type_inv) ∙ w.ensures in
    sym (rw e at c.is_weight.ensures)

all : (c : After-all_weights) → all_weights (body_words_at c.args.words.now) ≡ c.all_weights.result
all c = sym (rw c.body_of-pairs.ensures at c.all_weights.ensures)

pub returns-then-size_at-gt-MOST_WEIGHTED : goal.returns-then-size_at-gt-MOST_WEIGHTED
unfolding weights_sound
returns-then-size_at-gt-MOST_WEIGHTED c = rw (lt-leb (body_count c.args.words.now) most_weighted (omega (arith, c.size_at.ensures, c.if-size_at-gt-MOST_WEIGHTED.true)))

pub returns-then-not-is_weight : goal.returns-then-not-is_weight
unfolding weights_sound
returns-then-not-is_weight c = rw (few (goal.at.returns-then-not-is_weight c).Else-size_at-gt-MOST_WEIGHTED, bound (goal.at.returns-then-not-is_weight c).After-is_weight ∙ c.if-not-is_weight.true)

pub returns-then-all_weights : goal.returns-then-all_weights
unfolding weights_sound
returns-then-all_weights c =
    let d = (goal.at.returns-then-all_weights c).After-all_weights in
    let e = c in
    rw (few (goal.at.returns-then-all_weights c).Else-size_at-gt-MOST_WEIGHTED, bound (goal.at.returns-then-all_weights c).After-is_weight ∙ e.if-not-is_weight.false, all d ∙ c.if-all_weights.true)
    (rw d.body_of-pairs.ensures at c.pairs_ascend.ensures)

pub returns : goal.returns
unfolding weights_sound
returns c =
    let d = (goal.at.returns c).After-all_weights in
    let e = c in
    rw (few (goal.at.returns c).Else-size_at-gt-MOST_WEIGHTED, bound (goal.at.returns c).After-is_weight ∙ e.if-not-is_weight.false, all d ∙ c.if-all_weights.false)
