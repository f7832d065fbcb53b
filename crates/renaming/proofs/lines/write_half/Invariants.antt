use mathlib.Core.Path.{◌≡◌}
use Prim.Native.Nat.{◌-◌, ◌≤◌}
use lib.ListN.{length, get_or}
use Rattle.words.specs.Limits.{longest, most_numbers}
use Rattle.renaming.proofs.Walk.{Walks}
use Rattle.renaming.proofs.lines.write_half.Given as goal

abbrev pub invariant-loop-line : goal.invariant-loop-line
invariant-loop-line l =
    Walks l.text l.x (λ v. get_or l.new v 0) l.shared l.has_body l.has_constraint l.initial.output l.at l.output l.position l.name l.end × (l.end ≤ longest) × (length l.output ≡ length l.initial.output)
    × (length l.numbers ≡ most_numbers) × (length l.sorted ≡ most_numbers)

abbrev pub decreases-loop-line : goal.decreases-loop-line
decreases-loop-line l = length l.text - l.position
