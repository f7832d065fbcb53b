use Rattle.long_sums.proofs.InTurn.{stands-first, stands_on, stands-done, low-atom}
use Rattle.long_sums.proofs.program.emit_rules.Goals as goal

pub rules_in-rule-items-requires : goal.rules_in-rule-items-requires
rules_in-rule-items-requires c = c.requires.rules.0

pub loop-rule-init : goal.loop-rule-init
loop-rule-init c =
    let s = c in
    rw (c.into_iter-rule-iterator.ensures.into_iter_gives, c.rules_in-rule-items.ensures.start.0, c.rules_in-rule-items.ensures.start.1)
    (stands-first s.args.group s.args.table.now s.args.rules s.args.output.now (record { place = s.args.place; atom = s.args.atom }) s.requires.place.0 s.requires.place.1)

pub returns-then-p-gt-MOST_RULES : goal.returns-then-p-gt-MOST_RULES
returns-then-p-gt-MOST_RULES c = c.loop-rule.invariant.full c.if-p-gt-MOST_RULES.true

pub emit_item-here-requires : goal.emit_item-here-requires
emit_item-here-requires c = let i = c.loop-rule.invariant in record { place = (i.bounded, low-atom i c.in-Some.ensures.steps c.requires.rules.1); group = c.requires.group }

pub loop-rule-preserved : goal.loop-rule-preserved
loop-rule-preserved c = stands_on c.loop-rule.invariant c.in-Some.ensures.steps c.if-p-gt-MOST_RULES.false c.emit_item-here.ensures c.emit_item-here.auto.output

pub returns : goal.returns
returns c = stands-done c.loop-rule.invariant c.in-None.ensures.steps.0
