use mathlib.Core.Path.{◌≡◌}
use Prim.Native.Nat.{◌-◌, ◌≤◌}
use lib.ListN.{length}
use Rattle.aspif.specs.Tables.{sound_rules}
use Rattle.aspif.proofs.tables.is_readable.Given as goal

abbrev pub invariant-loop : goal.invariant-loop
invariant-loop l = (length l.rest ≤ length l.table) × (sound_rules l.rules l.table ≡ sound_rules (l.rules - l.counter) l.rest)
