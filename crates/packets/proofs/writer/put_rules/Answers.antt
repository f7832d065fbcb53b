-- `packets::writer::put_rules` meets its contract. After a turn the rules before those that are left are put.
-- Assumes nothing.
use mathlib.Core.Path.{◌≡◌, ap}
use mathlib.Core.Bool.{true}
use mathlib.Core.List.{◌∷◌, map}
use native.Mathlib.Omega.{arith}
use lib.ListN.{length}
use Rattle.words.specs.Lists.{all}
use Rattle.words.proofs.Lists.{and_left, and_right}
use Rattle.text.specs.Writing.{Put}
use Rattle.aspif.specs.Tables.{rule_at, rules_at, starts_at}
use Rattle.aspif.proofs.Cursors.{rules_from_starts, starts-length}
use Rattle.packets.specs.Bytes.{bytes_of}
use Rattle.packets.specs.Packets.{has_words, packet_words}
use Rattle.packets.proofs.Writes.{going_start, going_end, rule-on}
use Rattle.packets.proofs.writer.put_rules.Goals as goal
use Rattle.packets.proofs.writer.put_rules.Goals.{In-Some, In-None}

pub loop-rule-init : goal.loop-rule-init
loop-rule-init c =
    let n = starts-length c.args.rules c.args.table.now in
    rw (c.into_iter-rule-iterator.ensures.into_iter_gives, c.rules_in-rule-items.ensures.start.0, c.rules_in-rule-items.ensures.start.1, ← rules_from_starts c.args.rules c.args.table.now)
    (c.requires.table_value.1, going_start _ _ _, omega (arith, n))

-- the rule at hand and those after it have words
worded : (c : In-Some)
    → (let after = c.next.new.self in
    all (has_words c.args.version) (rule_at c.in-Some.rule.words.now ∷ map rule_at (starts_at after.left after.words.now)) ≡ true)
worded c = rw c.in-Some.ensures.steps at c.loop-rule.invariant.0

pub put_rule-end-requires : goal.put_rule-end-requires
put_rule-end-requires c =
    let p = c.requires.rules_le_most_rules in
    let w = worded (goal.at.put_rule-end-requires c).In-Some in
    (c.in-Some.rule.sound, (and_left (has_words c.args.version (rule_at c.in-Some.rule.words.now)) _ w, omega (arith, c.loop-rule.invariant.2, ap length c.in-Some.ensures.steps, p.0, p.1)))

pub loop-rule-preserved : goal.loop-rule-preserved
loop-rule-preserved c =
    let l = c.loop-rule in
    let r = rule_at c.in-Some.rule.words.now in
    let e = c.in-Some.ensures.steps in
    let p = c.put_rule-end.ensures in (
      and_right (has_words c.args.version r) _ (worded (goal.at.loop-rule-preserved c).In-Some),
      rule-on c.args.version r _ _ (ap (map rule_at) e) l.invariant.1 p.put,
      omega (arith, p.upper_bound, l.invariant.2, ap length e),
    )

-- all of them are put
all-put : (c : In-None) → (let a = c.args in let l = c.loop-rule in
    Put (bytes_of 4 (packet_words a.version (rules_at a.rules a.table.now))) a.buffer.now l.buffer a.at l.end)
unfolding bytes_of
all-put c = going_end (rw c.in-None.ensures.steps.0 at c.loop-rule.invariant.1)

pub returns : goal.returns
returns c = let p = c.requires in record { put = all-put (goal.at.returns c).In-None; upper_bound = omega (arith, c.loop-rule.invariant.2, p.rules_le_most_rules.0, p.rules_le_most_rules.1) }
