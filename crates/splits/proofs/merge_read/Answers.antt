use mathlib.Core.Path.{◌≡◌, refl, ◌∙◌}
use mathlib.Core.List.{List}
use Prim.Native.Nat.{ℕ}
use lib.IntN.{ℤ, pos}
use lib.ListN.{length}
use Rattle.words.proofs.Laws.{zeros}
use Rattle.aspif.specs.Rules.{InputRule}
use Rattle.drupe.specs.Texts.{text_of}
use Rattle.steps.specs.Held.{Program}
use Rattle.aspif.specs.Reading.{program}
use Rattle.splits.specs.Service.{merged_steps, leaves_nothing, merged_reading}
use Rattle.splits.proofs.Answers.{same-nothing, judged-same, not_written, Text, is-written}
use native.Mathlib.Omega.{arith}
use Rattle.splits.proofs.merge_read.Goals as goal
use Rattle.splits.proofs.merge_read.Goals.{After-write-written}
use Rattle.splits.specs.declared.MergeFault.{MergeFault}
use Rattle.aspif.specs.declared.Refusal.TheVariants.{Service}
use Rattle.std.specs.Prelude.{Ok, Err}

-- what 57 and 58 left
module _ (c : After-write-written) where
  abbrev store' : List ℤ
  store' = c.write-written.new.store

  abbrev output' : List ℕ
  output' = c.write-written.new.output

  -- the lengths of what was lent
  abbrev t : ℕ
  t = length c.args.table.now

  abbrev s : ℕ
  s = length c.args.store.now

  abbrev o : ℕ
  o = length c.args.output.now

  same_store : length store' ≡ s
  same_store = c.write-written.auto.store

  same-output : length output' ≡ o
  same-output = c.write-written.auto.output

  module _ (ws : List InputRule) (p : Program c.args.table.now c.args.rules c.args.atoms ws) where
    -- the merged text
    abbrev text : List ℕ
    text = text_of (merged_steps ws c.args.v c.args.first.now c.args.second.now)

    refused : (k : MergeFault) → c.write-written.result ≡ Err k
        → leaves_nothing t s o (Err (Service k)) ≡ merged_reading t s o c.args.v c.args.first.now c.args.second.now (program ws)
    refused k e = not_written t s o ws c.args.v c.args.first.now c.args.second.now output' same-output k e (c.write-written.ensures.written ws p)

    written : (n : ℕ) → c.write-written.result ≡ Ok n → Text t s o ws c.args.v c.args.first.now c.args.second.now output' same-output n
    written n e = is-written t s o ws c.args.v c.args.first.now c.args.second.now output' same-output n e (c.write-written.ensures.written ws p)

-- a program that was read is far below the limits of one with constraints behind it
pub write-written-requires : goal.write-written-requires
write-written-requires c = let p = c.requires in record { program = (p.program.0, omega (arith, p.program.1)); short = omega (arith, p.short); empty = p.empty }

pub judge-requires : goal.judge-requires
judge-requires c = let d = (goal.at.judge-requires c).After-write-written in
    let q = d.requires.program in record { program = q; empty = (zeros (pos 0) {n = s d} d.write-written.ensures.empty).0; text = (written d q.0.0 q.0.1 _ c.in-Ok.is).within }

pub returns-in-Err : goal.returns-in-Err
returns-in-Err c = λ ws p w.
    let d = (goal.at.returns-in-Err c).After-write-written in
    c.refuse.ensures ∙ same-nothing _ (refl {a = t d}) (same_store d) (same-output d) ∙ refused d ws p _ c.in-Err.is

pub returns-in-Ok : goal.returns-in-Ok
returns-in-Ok c = λ ws p w.
    let d = (goal.at.returns-in-Ok c).After-write-written in
    let T = written d ws p _ c.in-Ok.is in
    c.judge.ensures ws (text d ws p) p w T.is T.holds ∙ judged-same ws (text d ws p) (refl {a = t d}) (same_store d) (same-output d) ∙ T.judged
