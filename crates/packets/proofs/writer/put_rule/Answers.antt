-- `packets::writer::put_rule` meets its contract, by the version.
-- Assumes nothing.
use mathlib.Core.Path.{◌≡◌, sym, ◌∙◌, ap}
use native.Mathlib.Omega.{arith}
use lib.ListN.{take}
use lib.Seq.{length-take-le}
use Rattle.aspif.specs.Rules.{rule_words}
use Rattle.aspif.specs.Tables.{rule_at}
use Rattle.aspif.proofs.Cursors.{shape_of}
use Rattle.aspif.proofs.Readable.{rule-formed}
use Rattle.packets.specs.declared.Version.TheVariants.{Two}
use Rattle.packets.proofs.RuleParts.{rule-part, rule-few}
use Rattle.packets.proofs.writer.put_rule.Goals as goal
use Rattle.packets.proofs.writer.put_rule.Goals.{After-rule_size-size}

pub put_old_rule-requires : goal.put_old_rule-requires
put_old_rule-requires c =
    let b = c in
    (b.requires.0, (rw c.in-One.is at b.requires.1.0, b.requires.1.1))

pub rule_size-size-requires : goal.rule_size-size-requires
rule_size-size-requires c = shape_of _ c.requires.0

pub slice_bounds-put_all-end : goal.slice_bounds-put_all-end
slice_bounds-put_all-end c = sym (length-take-le _ _ c.rule_size-size.ensures.size.1)

-- the words that are put are those of the rule
module _ (c : After-rule_size-size) where
  words_are : take c.rule_size-size.result c.args.rule.now ≡ rule_words (rule_at c.args.rule.now)
  words_are = let w = c.args.rule.now in ap (λ n. take n w) c.rule_size-size.ensures.size.0 ∙ rule-part w c.requires.0

pub put_all-requires : goal.put_all-requires
put_all-requires c =
    let b = c in
    (omega arith, rw (words_are (goal.at.put_all-requires c).After-rule_size-size) (omega (arith, rule-few Two (rule_at b.args.rule.now) (rule-formed b.args.rule.now b.requires.0), b.requires.1.1)))

pub returns-in-One : goal.returns-in-One
returns-in-One c = rw c.in-One.is c.put_old_rule.ensures

pub returns-in-Two : goal.returns-in-Two
returns-in-Two c = let b = c in
    let f = rule-few Two (rule_at b.args.rule.now) (rule-formed b.args.rule.now b.requires.0) in
    let p = rw (words_are (goal.at.returns-in-Two c).After-rule_size-size) at c.put_all.ensures in rw c.in-Two.is (record { put = p.put; upper_bound = omega (arith, p.value, f) })
