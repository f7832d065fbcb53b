use mathlib.Core.Path.{refl, sym}
use mathlib.Core.Bool.{true≢false}
use Rattle.splits.proofs.texts.write_weighted.Goals as goal

pub write_halves-requires : goal.write_halves-requires
write_halves-requires c = let p = c.requires in record { program = p.program; short = p.short; index = (λ e. absurd (true≢false (sym e))); bodies = (λ e. refl); empty = p.empty }
