use Rattle.std.proofs.Common.{◌≡◌, ◌<◌, drop}
use Rattle.names.specs.ByName.{keys, key_from}
use Rattle.names.proofs.by_name.place_of.Given as goal

abbrev pub invariant-loop-word : goal.invariant-loop-word
invariant-loop-word l = (l.key < keys) × (key_from l.key (drop l.word-index l.body) ≡ key_from 0 l.body)
