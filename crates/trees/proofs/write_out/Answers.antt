use mathlib.Core.Path.{◌≡◌, refl, sym, ◌∙◌}
use Prim.Native.Nat.{ℕ}
use native.Mathlib.Omega.{arith}
use lib.ListN.{length}
use Rattle.splits.proofs.Answers.{same-nothing}
use Rattle.trees.proofs.Answers.{last-refused, over-output, written_out, put-size, put-blank}
use Rattle.trees.proofs.write_out.Goals as goal
use Rattle.trees.proofs.write_out.Goals.{After-check_proof-verdict}
use Rattle.splits.specs.declared.MergeFault.TheVariants.{NotWritable}

-- what the check of the text says
module _ (c : After-check_proof-verdict) where
  -- the lengths of what was lent
  abbrev t : ℕ
  t = length c.args.table.now

  abbrev s : ℕ
  s = length c.args.store.now

  abbrev o : ℕ
  o = length c.args.output.now

  same-table : length c.check_proof-verdict.new.table ≡ t
  same-table = c.check_proof-verdict.auto.table

  same_store : length c.check_proof-verdict.new.store ≡ s
  same_store = c.check_proof-verdict.auto.store

pub returns-then-not-is_inconsistent : goal.returns-then-not-is_inconsistent
returns-then-not-is_inconsistent c = λ ws p w.
    let d = (goal.at.returns-then-not-is_inconsistent c).After-check_proof-verdict in
    let x = d.args in
    c.refuse.ensures ∙ same-nothing x.fault (same-table d) (same_store d) (refl {a = o d})
    ∙ last-refused (t d) (s d) (o d) ws x.text.now x.fault (d.check_proof-verdict.ensures ws p w) (sym c.is_inconsistent.ensures ∙ c.if-not-is_inconsistent.true)

pub returns-then-output-text : goal.returns-then-output-text
returns-then-output-text c = λ ws p w.
    let d = (goal.at.returns-then-output-text c).After-check_proof-verdict in
    let x = d.args in
    c.refuse-then-output-text.ensures ∙ same-nothing NotWritable (same-table d) (same_store d) (refl {a = o d})
    ∙ over-output (t d) (s d) (o d) ws x.text.now x.fault (d.check_proof-verdict.ensures ws p w) (sym c.is_inconsistent.ensures ∙ c.if-not-is_inconsistent.false) c.if-output-text.true

pub returns : goal.returns
returns c = λ ws p w.
    let d = (goal.at.returns c).After-check_proof-verdict in
    let x = d.args in
    let b = c.put_bytes-n in
    let h = c.if-output-text.false in
    written_out (t d) (s d) (o d) ws x.text.now x.fault (d.check_proof-verdict.ensures ws p w) (sym c.is_inconsistent.ensures ∙ c.if-not-is_inconsistent.false) (omega (arith, h))
    (put-size b.ensures) (put-blank x.text.now x.output.now b.new.buffer b.ensures d.requires.empty.1 (omega (arith, h)))
