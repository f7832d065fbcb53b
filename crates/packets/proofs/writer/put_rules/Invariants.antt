use mathlib.Core.Path.{◌≡◌}
use mathlib.Core.Bool.{true}
use mathlib.Core.List.{map}
use Prim.Native.Nat.{◌+◌, ◌*◌, ◌≤◌}
use lib.ListN.{length}
use Rattle.words.specs.Lists.{all}
use Rattle.aspif.specs.Tables.{rule_at, rules_at, starts_at}
use Rattle.packets.specs.Bytes.{bytes_of}
use Rattle.packets.specs.Packets.{has_words, packet_words}
use Rattle.packets.specs.Writes.{rule_room}
use Rattle.packets.proofs.Writes.{Going}
use Rattle.packets.proofs.writer.put_rules.Given as goal

abbrev pub invariant-loop-rule : goal.invariant-loop-rule
invariant-loop-rule l =
    let starts = starts_at l.rule-iterator.left l.rule-iterator.words.now in
    (all (has_words l.version) (map rule_at starts) ≡ true)
    × Going (bytes_of 4 (packet_words l.version (rules_at l.rules l.table))) (bytes_of 4 (packet_words l.version (map rule_at starts))) l.initial.buffer l.buffer l.at l.end
    × (l.end + rule_room * length starts ≤ l.at + rule_room * l.rules)
