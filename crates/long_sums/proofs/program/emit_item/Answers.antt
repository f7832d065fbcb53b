use mathlib.Core.Path.{refl, sym, ◌∙◌}
use Rattle.aspif.specs.Tables.{rule_at}
use Rattle.long_sums.proofs.Held.{held-shape}
use Rattle.long_sums.proofs.Items.{whole-emitted}
use Rattle.long_sums.proofs.program.emit_item.Goals as goal

pub emit_split-requires : goal.emit_split-requires
emit_split-requires c = let i = c in
    let s = c in record { long = sym i.is_long.ensures ∙ c.if-is_long.true; place = s.requires.place; group = s.requires.group; room = refl }

pub emit_rule-end-requires : goal.emit_rule-end-requires
emit_rule-end-requires c = let s = c in record { rule = held-shape s.args.rule.now.words.now s.args.rule.now.held; place = s.requires.place.0 }

pub returns : goal.returns
returns c =
    let i = c in
    let s = c in
    let r = rule_at s.args.rule.now.words.now in
    whole-emitted s.args.group r (sym i.is_long.ensures ∙ c.if-is_long.false) (c.emit_rule-end.ensures r _ s.args.rule.now.held.words)
