-- Trimmed proofs are accepted, and what they are of has no answer set. Assumes nothing.
use mathlib.Core.Path.{◌≡◌, refl, sym}
use mathlib.Core.Bool.{true, true≢false}
use mathlib.Core.List.{List, []}
use Prim.Native.Nat.{ℕ}
use Rattle.aspif.specs.Rules.{InputRule, expand, atoms}
use Rattle.drupe.specs.Texts.{Step}
use Rattle.derivation.specs.States.{start}
use Rattle.derivation.specs.Claims.{NoneAsWritten}
use Rattle.derivation.proofs.AsWritten.{soundness-as-written}
use Rattle.runs.specs.Course.{Course, stopped, through, ends_empty}
use Rattle.checker.proofs.Whole.{run-through}
use Rattle.trimming.specs.Service.{course_of, accepted}
use Rattle.trimming.specs.Claims.{TrimmedAccepted}
use Rattle.trimming.proofs.Passes.{trimmed-settles}

-- demand 3 of steps that are accepted
pub no-answer-set : (size : ℕ) (ws : List InputRule) (ts : List Step) → accepted size ws ts ≡ true → NoneAsWritten ws
no-answer-set size ws ts e = by (course_of size ws ts) refl e
  where
    by : (c : Course) → course_of size ws ts ≡ c → ends_empty c ≡ true → NoneAsWritten ws
    by (stopped k n) q e = absurd (true≢false (sym e))
    by (through n z stored) q e =
        soundness-as-written ws ts z (run-through (atoms ws) (expand ws) size 0 n start z [] stored ts q).0 e

pub trimmed-accepted : TrimmedAccepted
trimmed-accepted size ws ts e = ((trimmed-settles (accepted size ws) ts e).good, no-answer-set size ws ts e)
