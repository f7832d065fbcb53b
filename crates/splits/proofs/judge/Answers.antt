use mathlib.Core.Path.{◌≡◌, refl, sym, ◌∙◌}
use mathlib.Core.List.{List}
use Prim.Native.Nat.{ℕ, ◌-◌}
use native.Mathlib.Omega.{arith}
use lib.ListN.{length}
use lib.Seq.{length-take-le}
use Rattle.aspif.specs.Rules.{InputRule, expand, atoms}
use Rattle.runs.specs.Course.{Course, course}
use Rattle.splits.proofs.Answers.{same-nothing, text_in, found-inconsistent, found-otherwise}
use borrow.Author.Rules.{rules}
use Rattle.splits.proofs.judge.Goals as goal
use Rattle.splits.proofs.judge.Goals.{After-check_proof-verdict}
use Rattle.splits.specs.declared.MergeFault.TheVariants.{StoreFull}

pub slice_bounds-check_proof-end-2 : goal.slice_bounds-check_proof-end-2
slice_bounds-check_proof-end-2 c = sym (length-take-le _ _ c.requires.text)

pub check_proof-verdict-requires : goal.check_proof-verdict-requires
check_proof-verdict-requires c = let q = c.requires in record { program = (q.program.0, omega (arith, q.program.1)); empty = q.empty }

-- what the check of the text says
module _ (c : After-check_proof-verdict) where
  module _ (ws : List InputRule) (text : List ℕ) where
    abbrev came : Course
    came = course (atoms ws) (expand ws) (length c.args.store.now) text

pub returns-then-is_inconsistent : goal.returns-then-is_inconsistent
returns-then-is_inconsistent c = λ ws text p w l e.
    let d = (goal.at.returns-then-is_inconsistent c).After-check_proof-verdict in
    let x = d.args in
    found-inconsistent (length x.table.now) (length x.store.now) (length x.output.now) ws text (came d ws text)
    (rw (text_in text (length x.output.now - x.n) l e) at (d.check_proof-verdict.ensures ws p w)) (sym c.is_inconsistent.ensures ∙ c.if-is_inconsistent.true) l e

pub returns : goal.returns
returns c = λ ws text p w l e.
    let f = c in
    let d = (goal.at.returns c).After-check_proof-verdict in
    let x = d.args in
    let t : length d.check_proof-verdict.new.table ≡ length x.table.now = search rules in
    let s : length d.check_proof-verdict.new.store ≡ length x.store.now = search rules in
    c.refuse.ensures ∙ same-nothing StoreFull t s (refl {a = length x.output.now})
    ∙ found-otherwise (length x.table.now) (length x.store.now) (length x.output.now) ws text (came d ws text)
    (rw (text_in text (length x.output.now - x.n) l e) at (d.check_proof-verdict.ensures ws p w)) (sym f.is_inconsistent.ensures ∙ f.if-is_inconsistent.false)
