-- `relevance::fill_rule` meets its contract.
-- Assumes nothing.
use mathlib.Core.Path.{sym, ap, ◌∙◌}
use native.Mathlib.Omega.{arith}
use lib.ListN.{length}
use Rattle.aspif.proofs.SoundWeights.{weighing}
use Rattle.loops.proofs.Filling.{weights-of, plain-entries}
use Rattle.loops.proofs.relevance.fill_rule.Goals as goal

pub fill_pairs-requires : goal.fill_pairs-requires
fill_pairs-requires c =
    let d = c in
    let s = c in
    let w = weighing _ s.args.rule.now.sound (sym d.is_weighted.ensures ∙ d.if-is_weighted.true) in
    rw c.body.ensures (w.rises, w.light, omega (arith, w.few, s.requires))

pub returns-then-heads-gt0 : goal.returns-then-heads-gt0
returns-then-heads-gt0 c =
    let f = c in
    let d = c in
    let e = rw (f.bound.ensures, f.body.ensures) at f.fill_pairs.ensures in
    λ h. rw (weights-of _ (sym d.is_weighted.ensures ∙ d.if-is_weighted.true)) e

pub returns-else-heads-gt0 : goal.returns-else-heads-gt0
returns-else-heads-gt0 c = λ h. absurd (omega (arith, h, c.if-heads-gt0.false, ap length c.heads-heads.ensures))

pub returns-else-is_weighted : goal.returns-else-is_weighted
returns-else-is_weighted c = λ h. plain-entries _ _ (sym c.is_weighted.ensures ∙ c.if-is_weighted.false)
