use Rattle.std.proofs.Common.{◌≡◌, ◌++◌, map, take, drop, get_or}
use Rattle.merging.specs.Merge.{renamed}
use Rattle.renaming.proofs.lines.rename.Given as goal

abbrev pub invariant-loop-n : goal.invariant-loop-n
invariant-loop-n l = l.n-items ≡ take l.n-index (map (renamed (λ v. get_or l.new v 0)) l.initial.n-items) ++ drop l.n-index l.initial.n-items
