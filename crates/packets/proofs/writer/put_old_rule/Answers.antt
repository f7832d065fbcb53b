-- `packets::writer::put_old_rule` meets its contract: in version 1 the kind and the counts, the heads, and the body.
-- Assumes nothing.
use mathlib.Core.Path.{◌∙◌, ap}
use native.Mathlib.Omega.{arith}
use lib.ListN.{length}
use Rattle.aspif.specs.Tables.{rule_at}
use Rattle.aspif.proofs.Cursors.{shape_of}
use Rattle.aspif.proofs.Readable.{rule-formed}
use Rattle.packets.proofs.Writes.{plain-literals, rule-put}
use Rattle.packets.proofs.writer.put_old_rule.Goals as goal

pub heads_of-heads-requires : goal.heads_of-heads-requires
heads_of-heads-requires c = shape_of _ c.requires.0

pub body_of-body-requires : goal.body_of-body-requires
body_of-body-requires c = shape_of _ c.requires.0

pub put_all-middle-requires : goal.put_all-middle-requires
put_all-middle-requires c =
    let a = c in
    let f = rule-formed a.args.rule.now a.requires.0 in
    let h = c.heads_of-heads.ensures in
    (omega arith, rw h (omega (arith, c.put_counts-from.ensures.value, a.requires.1.1, f.heads-few)))

pub put_all-requires : goal.put_all-requires
put_all-requires c =
    let a = c in
    let f = rule-formed a.args.rule.now a.requires.0 in
    let h = ap length c.heads_of-heads.ensures in
    let b = c.body_of-body.ensures ∙ plain-literals a.args.rule.now a.requires.1.0 in
    (omega arith, rw b (omega (arith, h, c.put_all-middle.ensures.value, c.put_counts-from.ensures.value, a.requires.1.1, f.heads-few, f.body-few)))

pub returns : goal.returns
returns c = let a = c in
    let f = rule-formed a.args.rule.now a.requires.0 in
    let h = c.heads_of-heads.ensures in
    let b = c.body_of-body.ensures ∙ plain-literals a.args.rule.now a.requires.1.0 in
    let k = c.kind_of-kind.ensures in
    let p = rw (h, b, k) at c.put_counts-from.ensures in
    let q = rw h at c.put_all-middle.ensures in
    let t = rw b at c.put_all.ensures in record { put = rule-put (rule_at a.args.rule.now) p.put q.put t.put; upper_bound = omega (arith, p.value, q.value, t.value, f.heads-few, f.body-few) }
