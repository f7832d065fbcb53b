use mathlib.Core.Path.{sym, ◌∙◌}
use native.Mathlib.Omega.{arith}
use lib.IntN.{pos}
use lib.ListN.{get_or}
use Rattle.std.proofs.Common.{rules}
use Rattle.words.proofs.Words.{back}
use Rattle.text.specs.Decimals.{spaced}
use Rattle.text.proofs.Puts.{put-none}
use Rattle.totalizer.proofs.RuleTexts.{sized, spaced-one}
use Rattle.totalizer.proofs.texts.put_bound.Goals as goal

pub bounds-words-4 : goal.bounds-words-4
bounds-words-4 c =
    let s = c in
    (sized s.args.words.now s.requires.rule).bound (sym c.is_weighted.ensures ∙ c.if-is_weighted.true)

pub returns-then-is_weighted : goal.returns-then-is_weighted
returns-then-is_weighted c = let s = c in
    let w = get_or s.args.words.now 4 (pos 0) in
    let p = rw (back w (search rules)) at c.put_number.ensures in record { written = rw (sym c.is_weighted.ensures ∙ c.if-is_weighted.true, spaced-one w) p.written; within = p.within }

pub returns : goal.returns
unfolding spaced
returns c = let s = c in record { written = rw (sym c.is_weighted.ensures ∙ c.if-is_weighted.false) (put-none _ _); within = omega arith }
