-- `packets::versions::is_marked` meets its contract.
-- Assumes nothing.
use mathlib.Core.Path.{sym, ◌∙◌, ap}
use mathlib.Core.Bool.{Bool}
use mathlib.Core.List.{List}
use Prim.Native.Nat.{ℕ}
use Rattle.text.specs.Strings.{starts_with}
use Rattle.packets.specs.Packets.{mark}
use Rattle.packets.specs.declared.Version.{Version}
use Rattle.packets.proofs.versions.is_marked.Goals as goal

-- the packet begins with the mark of a version
abbrev marked : List ℕ → Version → Bool
marked packet v = starts_with (mark v) packet

pub returns-in-One : goal.returns-in-One
returns-in-One c = c.starts_with.ensures ∙ ap (marked c.args.packet.now) (sym c.in-One.is)

pub returns-in-Two : goal.returns-in-Two
returns-in-Two c = c.starts_with-in-Two.ensures ∙ ap (marked c.args.packet.now) (sym c.in-Two.is)
