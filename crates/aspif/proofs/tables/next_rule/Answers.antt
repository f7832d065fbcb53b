use mathlib.Core.Path.{ap}
use Prim.Native.Nat.{ℕ, ◌+◌}
use native.Mathlib.Omega.{arith}
use lib.ListN.{length-drop}
use Rattle.words.proofs.Parts.{tail_of}
use Rattle.aspif.proofs.tables.next_rule.Goals as goal

pub rule_size-requires : goal.rule_size-requires
rule_size-requires c = rw (tail_of c.args.i c.args.table.now) c.requires.here.1

pub returns : goal.returns
returns c = let a = c.args in
    let e = rw (tail_of a.i a.table.now) at c.rule_size.ensures.size in record { next = (ap (λ (n : ℕ). a.i + n) e.0, omega (arith, e.1, length-drop a.i a.table.now, c.requires.here.0)) }
