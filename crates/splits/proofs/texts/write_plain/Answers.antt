use mathlib.Core.Path.{sym, ◌∙◌}
use mathlib.Core.Bool.{true≢false}
use Rattle.splits.proofs.texts.write_plain.Goals as goal

pub write_halves-requires : goal.write_halves-requires
write_halves-requires c = let p = c.requires in record { program = p.program; short = p.short; index = c.fill.ensures; bodies = (λ e. absurd (true≢false (sym p.plain ∙ e))); empty = p.empty }
