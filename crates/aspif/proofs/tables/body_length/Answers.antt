use mathlib.Core.Path.{◌≡◌, sym, ◌∙◌}
use native.Mathlib.Omega.{arith}
use lib.IntN.{pos}
use lib.ListN.{get_or}
use Rattle.words.proofs.Words.{back}
use Rattle.aspif.specs.Tables.{is_weighted, body_count}
use Rattle.aspif.proofs.Counts.{count_small}
use Rattle.aspif.proofs.tables.body_length.Goals as goal
use Rattle.aspif.proofs.tables.body_length.Goals.{After-variable_of-count, After-is_same}

count : (c : After-variable_of-count) → c.variable_of-count.result ≡ body_count c.args.words.now
count c = rw (back (get_or c.args.words.now 3 (pos 0)) c.variable_of-arg-1.given) at c.variable_of-count.ensures

tells : (c : After-is_same) → is_weighted c.args.words.now ≡ c.is_same.result
tells c = sym (rw (back (get_or c.args.words.now 2 (pos 0)) c.is_same-arg-1.given) at c.is_same.ensures)

pub overflow_mul-result : goal.overflow_mul-result
overflow_mul-result c =
    let v = (goal.at.overflow_mul-result c).After-variable_of-count in
    omega (arith, count v, count_small (get_or v.args.words.now 3 (pos 0)) v.requires.1)

pub returns-then-is_same : goal.returns-then-is_same
returns-then-is_same c = rw (tells (goal.at.returns-then-is_same c).After-is_same ∙ c.if-is_same.true, count (goal.at.returns-then-is_same c).After-variable_of-count)

pub returns : goal.returns
returns c = rw (tells (goal.at.returns c).After-is_same ∙ c.if-is_same.false) (count (goal.at.returns c).After-variable_of-count)
