use mathlib.Core.Path.{◌≡◌, sym, ◌∙◌, ap, subst}
use mathlib.Core.List.{List}
use Prim.Native.Nat.{ℕ, ◌≤◌}
use native.Mathlib.Omega.{arith}
use lib.IntN.{ℤ, pos}
use lib.ListN.{length, replicate}
use Rattle.words.specs.Limits.{widest}
use Rattle.aspif.specs.Rules.{InputRule, expand, atoms}
use Rattle.runs.specs.Course.{Course, course_within}
use Rattle.steps.specs.Held.{Program}
use Rattle.runs.specs.Held.{Ran}
use Rattle.steps.proofs.Tracking.{rules-held}
use Rattle.checker.proofs.Origins.{course-live}
use Rattle.checker.proofs.Verdicts.{too_long, ran-stopped, ran-through, judged-stopped, judged-through}
use borrow.Author.Rules.{rules}
use Rattle.checker.proofs.judging.check_within.Goals as goal
use Rattle.checker.proofs.judging.check_within.Goals.{After-run_long-run}

-- what the lines came to
module _ (c : After-run_long-run) where
  abbrev store' : List ℤ
  store' = c.run_long-run.new.store

  abbrev came : List InputRule → Course
  came ws = course_within c.args.limit (atoms ws) (expand ws) (length c.args.store.now) c.args.proof.now

  ran : (ws : List InputRule) → Program c.args.table.now c.args.rules c.args.atoms ws → Ran store' (came ws) c.run_long-run.result
  ran ws p =
      let h : length c.args.proof.now ≤ c.args.limit = search rules in
      subst (λ (n : ℕ). Ran store' (course_within c.args.limit n (expand ws) (length c.args.store.now) c.args.proof.now) c.run_long-run.result) p.top
      (c.run_long-run.ensures c.args.limit h ws p)

pub returns-then-limit-proof : goal.returns-then-limit-proof
returns-then-limit-proof c = λ ws p w.
    let a = c.args in
    let r = c.refuse.ensures in
    judged-stopped _ _ ws _ _ (too_long a.limit _ (expand ws) _ a.proof.now (search rules)) r.verdict r.table r.store

pub conclude-requires : goal.conclude-requires
conclude-requires c =
    let q = (goal.at.conclude-requires c).After-run_long-run in
    let p = q.requires.program.0 in
    let r = ran-through (store' q) (came q p.0) _ (ran q p.0 p.1) c.in-Ok.is in
    (r.1, r.3)

pub returns-in-Err : goal.returns-in-Err
returns-in-Err c = λ ws p w.
    let q = (goal.at.returns-in-Err c).After-run_long-run in
    let r = c.refuse-in-Err.ensures in
    let same : length (store' q) ≡ length q.args.store.now = search rules in
    let o = ran-stopped (store' q) (came q ws) _ (ran q ws p) c.in-Err.is in
    judged-stopped _ _ ws _ _ o r.verdict r.table (r.store ∙ ap (λ (k : ℕ). replicate k (pos 0)) same)

pub returns-in-Ok : goal.returns-in-Ok
returns-in-Ok c = λ ws p w.
    let q = (goal.at.returns-in-Ok c).After-run_long-run in
    let same : length (store' q) ≡ length q.args.store.now = search rules in
    let t = ran-through (store' q) (came q ws) _ (ran q ws p) c.in-Ok.is in
    judged-through _ _ ws _ _ _ _ _ t.0 t.1 t.2 (course-live _ _ _ _ _ t.2) (c.conclude.ensures t.1 t.3) p.top (sym (rules-held p.holds)) w t.3 same

pub run_long-run-requires : goal.run_long-run-requires
run_long-run-requires c = let p = c.requires in
    let h : length c.args.proof.now ≤ widest = omega (arith, p.limit, c.if-limit-proof.false) in record { program = p.program; short = h; empty = p.empty; cells = p.cells }
