-- `packets::reader::take_rule` meets its contract.
-- Assumes nothing.
use mathlib.Core.Path.{sym, ◌∙◌, ap}
use mathlib.Core.Bool.{not}
use native.Mathlib.Omega.{arith}
use lib.Seq.{length-take-le}
use Rattle.aspif.proofs.Cursors.{shape_of, plain_at}
use Rattle.packets.proofs.RuleParts.{size-large}
use Rattle.packets.proofs.RulesRead.{one_more, told-sound, told_none}
use Rattle.packets.proofs.reader.take_rule.Goals as goal

pub rule_size-words-requires : goal.rule_size-words-requires
rule_size-words-requires c = shape_of _ (sym c.is_sound.ensures ∙ c.if-is_sound.true)

pub slice_bounds-put_at-end : goal.slice_bounds-put_at-end
slice_bounds-put_at-end c = sym (length-take-le _ _ c.rule_size-words.ensures.size.1)

pub overflow_sub-result : goal.overflow_sub-result
overflow_sub-result c =
    let a = c.args in
    omega (arith, c.fewer_in.ensures, one_more a.version, c.rule_size-words.ensures.size.0, size-large a.row.now)

pub rule_top-requires : goal.rule_top-requires
rule_top-requires c = shape_of _ (sym c.is_sound.ensures ∙ c.if-is_sound.true)

pub returns-then-is_sound : goal.returns-then-is_sound
returns-then-is_sound c ws e =
    let a = c.args in
    let p = ap not c.is_weighted.ensures ∙ sym (plain_at a.row.now) in
    told-sound a.version ws e (sym c.is_sound.ensures ∙ c.if-is_sound.true) c.rule_size-words.ensures.size.0 c.fewer_in.ensures c.rule_top.ensures p c.put_at.ensures

pub returns : goal.returns
returns c ws e = told_none c.args.version ws c.no_rule.ensures (rw e at (sym c.is_sound.ensures ∙ c.if-is_sound.false))
