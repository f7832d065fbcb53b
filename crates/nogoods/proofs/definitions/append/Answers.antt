use mathlib.Core.Path.{◌≡◌}
use mathlib.Core.List.{List}
use native.Mathlib.Omega.{arith}
use lib.IntN.{ℤ}
use lib.ListN.{length, length-drop}
use Rattle.words.proofs.Parts.{tail_of}
use Rattle.nogoods.specs.Store.{Stored, added_in, words_of, kept_for}
use Rattle.nogoods.specs.Index.{Keeps}
use Rattle.nogoods.specs.Definitions.{defined, defined_size}
use Rattle.nogoods.proofs.Live.{closed-added}
use Rattle.nogoods.proofs.Stored.{full, added, added-origins}
use Rattle.nogoods.proofs.Defined.{defined-size, defined-literals}
use Rattle.nogoods.proofs.Indexing.{covers_more}
use Rattle.nogoods.proofs.definitions.append.Goals as goal
use Rattle.nogoods.proofs.definitions.append.Goals.{After-make_room-end}

-- what is held once there is room
module _ (c : After-make_room-end) where
  abbrev l : List ℤ
  l = c.args.numbers.now

  abbrev new : List Stored
  new = added_in c.args.origin (defined l)

  size : length (words_of new) ≡ defined_size (length l)
  size = defined-size c.args.origin l c.requires.numbers.1

  held : (stored : List Stored) → Keeps c.args.store.now c.args.index.now c.args.used stored
      → Keeps c.make_room-end.new.store c.make_room-end.new.index c.make_room-end.result (kept_for (length c.args.store.now) (length (words_of new)) stored)
  held stored K = rw size (c.make_room-end.ensures stored K)

pub returns-then-store-end : goal.returns-then-store-end
returns-then-store-end c =
    λ stored K.
    let m = (goal.at.returns-then-store-end c).After-make_room-end in
    full K.holds (new m) (size m) (closed-added m.args.origin (defined (l m))) m.make_room-end.auto.store (held m stored K).holds c.if-store-end.true

pub write_definition-requires : goal.write_definition-requires
write_definition-requires c = let e = c in
    let m = (goal.at.write_definition-requires c).After-make_room-end in
    let p = m.requires in record { origin = p.origin.1; numbers = p.numbers; room = rw (tail_of m.make_room-end.result m.make_room-end.new.store, length-drop) (omega (arith, e.if-store-end.false, p.numbers)) }

pub returns : goal.returns
returns c =
    λ stored K.
    let w = c.write_definition in
    let m = (goal.at.returns c).After-make_room-end in
    let o = m.args.origin in
    let p = m.requires in
    let G = held m stored K in
    record {
      holds = added G.holds (new m) (size m) (defined-literals o (l m) p.numbers.1 p.numbers.0) (added-origins o p.origin.0 (defined (l m)))
          w.new.free w.ensures;
      scale = G.scale;
      size = G.size;
      covers = covers_more (new m) G.covers;
    }
