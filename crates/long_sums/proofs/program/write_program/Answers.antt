use native.Mathlib.Omega.{arith}
use Rattle.aspif.specs.Tables.{rules_at}
use Rattle.long_sums.proofs.Programs.{program-emitted}
use Rattle.long_sums.proofs.program.write_program.Goals as goal

pub returns : goal.returns
returns c =
    let s = c in
    program-emitted s.args.group (rules_at s.args.rules s.args.table.now) (omega (arith, s.requires.atoms.0))
    c.put_bytes-from.ensures c.emit_rules-end.ensures c.put_bytes-at.ensures
