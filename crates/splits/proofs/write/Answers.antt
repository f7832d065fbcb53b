use mathlib.Core.Path.{sym, ◌∙◌}
use Rattle.splits.proofs.write.Goals as goal

pub write_plain-requires : goal.write_plain-requires
write_plain-requires c = let p = c.requires in
    let d = c in record { program = p.program; short = p.short; plain = sym d.all_plain.ensures ∙ d.if-all_plain.true; empty = p.empty }
