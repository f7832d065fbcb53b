use mathlib.Core.Path.{◌∙◌, ap}
use Prim.Native.Nat.{ℕ, ◌<◌, ◌≤◌}
use native.Mathlib.Omega.{arith}
use lib.IntN.{pos}
use lib.ListN.{length, take, replicate}
use Rattle.words.specs.Limits.{longest}
use Rattle.words.proofs.Laws.{zeros}
use Rattle.drupe.proofs.Texts.{steps-exact}
use Rattle.trimming.proofs.Turns.{try-start, try-on, try-end, try-reads}
use borrow.Author.Rules.{rules}
use Rattle.trimming.proofs.trials.pass.Goals as goal
use Rattle.trimming.proofs.trials.pass.Goals.{In-loop-at}

pub loop-at-init : goal.loop-at-init
loop-at-init c =
    let s = c in
    let a = s.args in
    record {
      same_text = search rules;
      same-trial = search rules;
      same_store = search rules;
      zeros = s.requires.empty;
      ahead = omega arith;
      within = omega arith;
      trying = λ ws ts p r. try-start (length a.store.now) ws ts s.requires.within ((steps-exact longest (take a.len a.text.now) ts).0 r).0;
    }

-- a turn
module _ (c : In-loop-at) where
  some : 0 < c.loop-at.at
  some = c.loop-at-test.true

  inside : (c.loop-at.at ≤ c.loop-at.left) × (c.loop-at.left ≤ length c.loop-at.text)
  inside = let I = c.loop-at.invariant in (I.ahead, omega (arith, I.within, I.same_text, c.requires.within))

pub line_start-start-requires : goal.line_start-start-requires
line_start-start-requires c = let d = (goal.at.line_start-start-requires c).In-loop-at in record { inside = (some d, omega (arith, (inside d).0, (inside d).1)); classes = d.requires.classes }

pub try_without-left-requires : goal.try_without-left-requires
try_without-left-requires c = let b = c in
    let d = (goal.at.try_without-left-requires c).In-loop-at in
    let I = d.loop-at.invariant in
    let q = d.requires in
    let h = b.line_start-start.ensures.before in record { bounds = ((omega (arith, h), (inside d).0), (inside d).1); room = (omega (arith, I.same_text, q.room.0), I.same-trial ∙ q.room.1); program = q.program; empty = (zeros (pos 0) {n = length d.args.store.now} I.zeros).0 }

pub loop-at-smaller : goal.loop-at-smaller
loop-at-smaller c = c.line_start-start.ensures.before

pub loop-at-preserved : goal.loop-at-preserved
loop-at-preserved c =
    let t = c in
    let b = c in
    let d = (goal.at.loop-at-preserved c).In-loop-at in
    let I = d.loop-at.invariant in
    let a = d.args in
    let k = t.try_without-left.auto in
    let e = t.try_without-left.ensures in
    record {
      same_text = k.text ∙ I.same_text;
      same-trial = k.trial ∙ I.same-trial;
      same_store = k.store ∙ I.same_store;
      zeros = e.empty ∙ ap (λ (n : ℕ). replicate n (pos 0)) I.same_store;
      ahead = e.bounds.0;
      within = omega (arith, e.bounds.1, I.within);
      trying = λ ws ts p r.
          let x = (steps-exact longest (take a.len a.text.now) ts).0 r in
          try-on (length a.store.now) ws ts x.2 (rw (← x.0) x.1) d.loop-at.text t.try_without-left.new.text d.loop-at.at d.loop-at.left
          b.line_start-start.result t.try_without-left.result (some d) (inside d) b.line_start-start.ensures.line (rw I.same_store at (e.tried ws p)) (I.trying ws ts p r);
    }

pub returns : goal.returns
returns c = let I = c.loop-at.invariant in
    let a = c.args in record {
      within = I.within;
      empty = I.zeros;
      left = λ ws ts p r.
          try-reads (length a.store.now) ws ts a.text.now a.len r c.loop-at.text c.loop-at.left
          (try-end (length a.store.now) ws ts (I.trying ws ts p r) (omega (arith, c.loop-at-test.false)));
    }
