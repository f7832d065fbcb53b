use mathlib.Core.Path.{◌≡◌, ap, ◌∙◌}
use mathlib.Core.List.Memᴰ
use mathlib.Core.List.{List, [], ◌∷◌, append-nil}
use Prim.Native.Nat.{ℕ}
use native.Mathlib.Omega.{arith}
use lib.IntN.{ℤ}
use lib.ListN.{length}
use Rattle.nogoods.specs.Store.{Stored, added_in, record_of, stored_words, record_size, words_of, kept_for}
use Rattle.nogoods.specs.Index.{Keeps}
use Rattle.nogoods.proofs.Live.{stored-size, closed-added}
use Rattle.nogoods.proofs.Literals.{added-literals}
use Rattle.nogoods.proofs.Stored.{full, added, added-origins}
use Rattle.nogoods.proofs.Indexing.{covers_more}
use Rattle.nogoods.proofs.store.append.Goals as goal
use Rattle.nogoods.proofs.store.append.Goals.{After-make_room-end}

size : (o : ℕ) (g : List ℤ) → length (words_of (added_in o (g ∷ []))) ≡ record_size g
size o g = ap length (append-nil (stored_words (record_of o g))) ∙ stored-size (record_of o g)

-- what is held once there is room
module _ (c : After-make_room-end) where
  abbrev L : List ℤ
  L = c.args.literals.now

  abbrev new : List Stored
  new = added_in c.args.origin (L ∷ [])

  held : (stored : List Stored) → Keeps c.args.store.now c.args.index.now c.args.used stored
      → Keeps c.make_room-end.new.store c.make_room-end.new.index c.make_room-end.result (kept_for (length c.args.store.now) (length (words_of new)) stored)
  held stored K = rw (size c.args.origin L) (c.make_room-end.ensures stored K)

pub returns-then-store-end : goal.returns-then-store-end
returns-then-store-end c =
    λ stored K.
    let m = (goal.at.returns-then-store-end c).After-make_room-end in
    full K.holds (new m) (size m.args.origin (L m)) (closed-added m.args.origin (L m ∷ [])) m.make_room-end.auto.store (held m stored K).holds
    (omega (arith, c.if-store-end.true))

pub returns : goal.returns
returns c =
    λ stored K.
    let m = (goal.at.returns c).After-make_room-end in
    let o = m.args.origin in
    let p = m.requires in
    let G = held m stored K in
    record {
      holds = added G.holds (new m) (size o (L m)) (added-literals o (L m ∷ []) (λ g u. rw (Memᴰ.eq_of_singleton u) p.literals.0))
          (added-origins o p.origin.0 (L m ∷ [])) c.write.new.free (rw (append-nil (L m)) c.write.ensures);
      scale = G.scale;
      size = G.size;
      covers = covers_more (new m) G.covers;
    }
