use mathlib.Core.Path.{◌≡◌, sym, ◌∙◌}
use mathlib.Core.Logic.{inl}
use mathlib.Core.List.{List, map}
use Prim.Native.Nat.{ℕ}
use native.Mathlib.Omega.{arith}
use lib.IntN.{ℤ}
use lib.ListN.{length, replicate, length-replicate}
use Rattle.words.specs.Limits.{entries}
use Rattle.aspif.specs.Rules.{expand}
use Rattle.aspif.specs.Tables.{rule_at, rules_at, starts_at}
use Rattle.aspif.proofs.Cursors.{starts-length, rules_from_starts}
use Rattle.marks.proofs.Sets.{MarkedSoFar, found_none, found_all}
use Rattle.names.specs.Queries.{Kept, asked_names}
use Rattle.names.proofs.Asked.{asked-more, found-more, zero-found}
use Rattle.names.proofs.ByRule.{course-start, no-plain-rules, Turn, turn}
use Rattle.names.proofs.queries.mark_names.Goals as goal
use Rattle.names.proofs.queries.mark_names.Goals.{After-mark_asked}

-- as many marks as there are entries
zeros-long : (l : List ℕ) → l ≡ replicate entries 0 → length l ≡ entries
zeros-long l e = rw e (length-replicate {A = ℕ} entries 0)

-- the rule at hand
at : (c : After-mark_asked)
    → (let a = c.args in
    let after = c.next.new.self.iter in
    Turn a.table.now a.rules a.names.now a.names.now c.loop-k.k-iterator.count c.in-Some.rule.words.now (starts_at after.left after.words.now))
at c = turn c.loop-k.invariant.0 c.in-Some.ensures.steps.0

pub loop-k-init-derived : goal.loop-k-init-derived
loop-k-init-derived c =
    let s = c.ranges.rules.fits in
    let n = starts-length c.rules_in.result.left c.rules_in.result.words.now in
    rw (c.into_iter-k-iterator.ensures.into_iter_gives, c.enumerate-k-items.ensures.source, c.enumerate-k-items.ensures.count) ((tt, tt, inl (omega (arith, n, c.rules_in.ensures.start.1, s))), tt)

pub loop-k-init : goal.loop-k-init
loop-k-init c =
    let s = c in
    rw (c.into_iter-k-iterator.ensures.into_iter_gives, c.enumerate-k-items.ensures.source, c.enumerate-k-items.ensures.count, c.rules_in.ensures.start.0, c.rules_in.ensures.start.1)
    (course-start s.args.table.now s.args.rules s.args.names.now, zeros-long _ s.requires.found, λ called K. rw (s.requires.found, rules_from_starts s.args.rules s.args.table.now) (found_none _))

-- what is left to mark once the rule's names are
left : (c : After-mark_asked) (called : List ℤ → ℕ)
    → (let a = c.args in Kept a.names.now a.bodies.now called (rules_at a.rules a.table.now)
    → MarkedSoFar c.mark_asked.new.found (asked_names a.query a.inside.now called (expand (map rule_at (starts_at c.next.new.self.iter.left c.next.new.self.iter.words.now))))
    (asked_names a.query a.inside.now called (expand (rules_at a.rules a.table.now))))
left c called K =
    let a = c.args in
    let ws = c.in-Some.rule.words.now in
    let t = at c in
    found-more
    (rw (c.in-Some.ensures.steps.0, asked-more (rule_at ws) (map rule_at (starts_at c.next.new.self.iter.left c.next.new.self.iter.words.now)) a.query a.inside.now called) at (c.loop-k.invariant.2 called K))
    (c.mark_asked.ensures called (λ w. K.by_name (t.weighted w)) (rw c.in-Some.ensures.steps.1 (t.kept called K.by_rule)))

pub loop-k-preserved : goal.loop-k-preserved
loop-k-preserved c =
    let m = (goal.at.loop-k-preserved c).After-mark_asked in
    rw c.in-Some.ensures.steps.2 ((at m).next, c.mark_asked.auto.found ∙ c.loop-k.invariant.1, left m)

pub returns-then-is_marked : goal.returns-then-is_marked
returns-then-is_marked c = λ ws H. rw (← H.are) (λ called K. zero-found (left (goal.at.returns-then-is_marked c).After-mark_asked called K) (sym c.is_marked.ensures ∙ c.if-is_marked.true))

pub returns : goal.returns
returns c =
    let l = c.loop-k in
    λ ws H. rw (← H.are) (λ called K. inl (found_all (rw (no-plain-rules c.in-None.ensures.steps.0.0) at (l.invariant.2 called K))))
