-- What the proofs of `checker::report` cite: a verdict's line, and the line of two texts.
-- Assumes nothing.
use mathlib.Core.Path.{◌≡◌, ◌∙◌, ap, ap₂}
use mathlib.Core.List.{List}
use Prim.Native.Nat.{ℕ, ◌≤◌}
use native.Mathlib.Omega.{arith}
use lib.IntN.{ℤ}
use lib.ListN.{length}
use lib.Seq.{sets}
use Rattle.text.specs.Writing.{Put}
use Rattle.checker.specs.Check.{Checked, check, CheckedTexts}
use Rattle.checker.specs.Report.{verdict_line, longest_line, lent, printed}
use Rattle.checker.specs.declared.Verdict.{Verdict}

-- a verdict's line from the front on
pub line-put : {v w : Verdict} {before after : List ℕ} {next : ℕ}
    → v ≡ w → Put (verdict_line w) before after 0 next → next ≤ longest_line
    → (next ≡ length (verdict_line v)) × ((after ≡ sets before 0 (verdict_line v)) × (next ≤ longest_line))
line-put e p h = rw e (omega (arith, p.ends), (p.stands, h))

-- The line of two texts

-- the verdict's line, where the table and the store are as long as `verdict` lends them
pub line-printed : (text proof : List ℕ) (table store : List ℤ) {table' store' : List ℤ} {v : Verdict} → length table ≡ lent → length store ≡ lent
    → CheckedTexts text proof table store table' store' v → verdict_line v ≡ printed text proof
unfolding printed
line-printed text proof table store a b e = ap verdict_line (ap (λ (x : Checked). x.verdict) e ∙ ap₂ (λ t s. (check text proof t s).verdict) a b)
