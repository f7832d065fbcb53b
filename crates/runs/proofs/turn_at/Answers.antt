use mathlib.Core.Path.{◌≡◌, refl, sym, ap, ◌∙◌}
use mathlib.Core.Bool.{false}
use mathlib.Core.List.{List}
use Rattle.std.specs.Prelude.{Result, Ok, Err, None, Some, IsErrAnd}
use Rattle.std.proofs.lemmas.Result.{err_from_is_err_and}
use Prim.Native.Nat.{◌≤◌}
use native.Mathlib.Omega.{arith}
use lib.IntN.{ℤ, pos}
use lib.ListN.{length, take}
use lib.Seq.{length-take-le}
use Rattle.words.specs.Limits.{widest}
use Rattle.words.specs.Literals.{has}
use Rattle.aspif.specs.Rules.{expand}
use Rattle.aspif.proofs.Passes.{ok_in}
use Rattle.drupe.specs.Lines.{line_refusal, line, line_at}
use Rattle.drupe.proofs.Lines.{passed-line}
use Rattle.drupe.proofs.Rows.{into-told, into-sorted, into-room}
use Rattle.steps.proofs.Turns.{good-line, step_is}
use Rattle.runs.specs.Held.{proof_turn}
use Rattle.runs.proofs.turn_at.Goals as goal
use Rattle.runs.proofs.turn_at.Goals.{In-Some, After-step_at}

-- `?` hands a refusal on as it is
passed-on : {A E : Type 0} {r : Result A E} {k : E} → IsErrAnd r (λ e. e ≡ k) → r ≡ Err k
passed-on {r = r} i = let p = err_from_is_err_and r i in p.1 ∙ ap Err p.2

-- the line that was read
is : (c : In-Some) → c.step_at.result ≡ Ok (Some c.in-Some.line)
is c = ok_in c.in_ok-read.was c.in-Some.is

module _ (c : In-Some) where
  abbrev numbers : List ℤ
  numbers = c.step_at.new.numbers

  abbrev sorted : List ℤ
  sorted = c.step_at.new.sorted

  there : (line_at c.args.proof.now c.args.at ≡ line c.in-Some.line.letter (take c.in-Some.line.count numbers) c.in-Some.line.next)
  there = into-told c.step_at.ensures (is c)

  -- its numbers are within the rows
  room : ((c.in-Some.line.count ≤ length numbers) × (c.in-Some.line.count ≤ length sorted))
  room =
      let u = into-room c.step_at.ensures (is c) in
      let r = c.requires.rows in
      (omega (arith, u.2, c.step_at.auto.numbers, r.0), omega (arith, u.2, c.step_at.auto.sorted, r.1))

  -- the step's number is at most that of the bytes
  numbered : (let a = c.args in (1 ≤ a.origin) × (a.origin ≤ widest))
  numbered =
      let u = passed-line c.args.proof.now c.args.at there in
      let o = c.requires.store.1 in
      (o.0, omega (arith, u.0, u.1, o.1, c.requires.short))

  good : (let zs = take c.in-Some.line.count numbers in (line_refusal c.in-Some.line.letter zs ≡ None) × (has (pos 0) zs ≡ false))
  good = let u = passed-line c.args.proof.now c.args.at there in (u.2, u.3)

pub slice_bounds-step-end : goal.slice_bounds-step-end
slice_bounds-step-end c = (room (goal.at.slice_bounds-step-end c).In-Some).0

pub slice_bounds-step-end-2 : goal.slice_bounds-step-end-2
slice_bounds-step-end-2 c = sym (length-take-le _ _ (room (goal.at.slice_bounds-step-end-2 c).In-Some).0)

pub slice_bounds-step-end-3 : goal.slice_bounds-step-end-3
slice_bounds-step-end-3 c = (room (goal.at.slice_bounds-step-end-3 c).In-Some).1

pub slice_bounds-step-end-4 : goal.slice_bounds-step-end-4
slice_bounds-step-end-4 c = sym (length-take-le _ _ (room (goal.at.slice_bounds-step-end-4 c).In-Some).1)

pub step-requires : goal.step-requires
step-requires c = let d = (goal.at.step-requires c).In-Some in
    let s = d in record { state = s.requires.state; index = s.requires.index; relevant = s.requires.relevant; store = (s.requires.store.0, numbered d); line = good-line _ _ (good d).0 (good d).1; sorted = into-sorted d.step_at.ensures (is d); free = s.requires.free }

pub returns-in_default : goal.returns-in_default
returns-in_default c = record { left = λ ws p z stored T K. rw (into-told c.step_at.ensures (ok_in c.in_ok-read.was c.in_default.is)) (refl, K.keeps.holds, T); free = c.requires.free }

pub returns-in_err-read : goal.returns-in_err-read
returns-in_err-read c = record { left = λ ws p z stored T K. rw (into-told c.step_at.ensures c.in_err-read.was) (passed-on c.from_residual.ensures.1); free = c.requires.free }

pub returns-in_err-used : goal.returns-in_err-used
returns-in_err-used c =
    let d = (goal.at.returns-in_err-used c).In-Some in
    let zs = take d.in-Some.line.count (numbers d) in record {
      left = λ ws p z stored T K.
          rw (there d, step_is d.in-Some.line.letter zs (good d).0 (good d).1 d.args.atoms (expand ws) z) (c.step.result, passed-on c.from_residual-in_err-used.ensures.1 ∙ ap (proof_turn _) (sym c.in_err-used.was), c.step.ensures.stepped ws p z stored T K);
      free = c.step.ensures.free;
    }

pub returns : goal.returns
returns c =
    let d = (goal.at.returns c).In-Some in
    let zs = take d.in-Some.line.count (numbers d) in record {
      left = λ ws p z stored T K.
          rw (there d, step_is d.in-Some.line.letter zs (good d).0 (good d).1 d.args.atoms (expand ws) z) (c.step.result, ap (proof_turn _) (sym c.in_ok-used.was), c.step.ensures.stepped ws p z stored T K);
      free = c.step.ensures.free;
    }
