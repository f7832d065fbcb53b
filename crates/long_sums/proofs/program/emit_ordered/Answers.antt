use mathlib.Core.Path.{◌≡◌, sym, ◌∙◌}
use Prim.Native.Nat.{◌+◌, ◌-◌}
use native.Mathlib.Omega.{arith}
use Rattle.weights.specs.Weights.{paired}
use Rattle.aspif.specs.Tables.{body_words_at}
use Rattle.aspif.proofs.PairWords.{length-paired}
use Rattle.sums.specs.Plans.{size}
use Rattle.sums.specs.Levels.{SumShape, both, in_groups, sorted_groups}
use Rattle.joins.proofs.Chained.{two-sides}
use Rattle.long_sums.proofs.Items.{long-bound, pairs-long, plan_of, split-full, split-whole}
use Rattle.long_sums.proofs.program.emit_ordered.Goals as goal
use Rattle.long_sums.proofs.program.emit_ordered.Goals.{Start, Else-end-gt-MOST_RULES}

-- the groups of the pairs make two sides
sides : (s : Start) → (u : SumShape) × (v : SumShape) × (in_groups (s.args.group - 1) (paired s.args.pairs.now) ≡ both u v)
sides s =
    let p = s.requires.pairs in
    let n = pairs-long s.args.rule.now.words.now s.args.rule.now.held s.requires.long in
    two-sides (s.args.group - 1) (omega (arith, s.requires.group)) (paired s.args.pairs.now)
    (omega (arith, length-paired s.args.pairs.now p.0, p.1, n.0))

as-sorted : (s : Start) → sorted_groups (s.args.group - 1) (paired (body_words_at s.args.rule.now.words.now)) ≡ both (sides s).0 (sides s).1
as-sorted s = sym s.requires.pairs.2 ∙ (sides s).2

pub emit_long-sum-requires : goal.emit_long-sum-requires
emit_long-sum-requires c = let s = c in
    let p = s.requires.pairs in
    let n = pairs-long s.args.rule.now.words.now s.args.rule.now.held s.requires.long in
    let b = long-bound s.args.rule.now.words.now s.args.rule.now.held s.requires.long in record { place = s.requires.place.0; pairs = (p.0, omega (arith, c.bound_of-bound.ensures, b), omega (arith, p.1, n.0), omega (arith, p.1, n.1)); group = s.requires.group; atoms = s.requires.place.1 }

pub returns-then-end-gt-MOST_RULES : goal.returns-then-end-gt-MOST_RULES
returns-then-end-gt-MOST_RULES c =
    let s = (goal.at.returns-then-end-gt-MOST_RULES c).Start in
    let e = c.emit_long-sum in
    let t = sides s in
    split-full s.args.group s.args.rule.now.words.now s.args.rule.now.held s.requires.long t.0 t.1 (as-sorted s) c.bound_of-bound.ensures
    (e.ensures.rules t.0 t.1 t.2) c.if-end-gt-MOST_RULES.true e.ensures.low

-- the next atom, where there are not too many rules
next : (c : Else-end-gt-MOST_RULES)
    → (let s = c.before.before.before.before.before.before.before.before.before.before.before in
    let e = c.emit_long-sum.result in
    e.atom ≡ s.args.atom + size (plan_of c.bound_of-bound.result (sides s).0 (sides s).1))
next c = let t = sides c.before.before.before.before.before.before.before.before.before.before.before in c.emit_long-sum.ensures.atoms t.0 t.1 t.2 c.if-end-gt-MOST_RULES.false

pub overflow_sub-next : goal.overflow_sub-next
overflow_sub-next c = omega (arith, next (goal.at.overflow_sub-next c).Else-end-gt-MOST_RULES)

pub emit_headed-last-requires : goal.emit_headed-last-requires
emit_headed-last-requires c = let s = (goal.at.emit_headed-last-requires c).Start in
    let e = c.emit_long-sum in
    let t = sides s in record { place = ((e.ensures.rules t.0 t.1 t.2).bounded, c.if-end-gt-MOST_RULES.false) }

pub returns : goal.returns
returns c =
    let s = (goal.at.returns c).Start in
    let e = c.emit_long-sum in
    let t = sides s in
    split-whole s.args.group s.args.rule.now.words.now s.args.rule.now.held s.requires.long t.0 t.1 (as-sorted s) c.bound_of-bound.ensures
    (e.ensures.rules t.0 t.1 t.2) (next (goal.at.returns c).Else-end-gt-MOST_RULES) e.ensures.low c.emit_headed-last.ensures
