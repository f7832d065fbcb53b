-- What is kept is kept by covering; then one in front is dead, or one behind.
use mathlib.Core.Path.{◌≡◌}
use mathlib.Core.List.{List}
use Rattle.nogoods.specs.Store.{Stored}
use Rattle.nogoods.specs.Index.{Keeps, Spotted}
use Rattle.nogoods.specs.declared.chains.Spot.{Spot}
use Rattle.std.specs.declared.option.Option.{Option}
use Rattle.std.specs.declared.option.Option.TheVariants.{None}
use Rattle.nogoods.proofs.Indexing.{spotted, skips, covers-far}
use Rattle.nogoods.proofs.store.discard.Goals as goal
use Rattle.nogoods.proofs.store.discard.Goals.{After-cover, After-walk, In-None}

-- what is kept after covering
module _ (c : After-cover) where
  covered : (stored : List Stored) → Keeps c.args.store.now c.args.index.now c.args.used stored
      → Keeps c.args.store.now c.cover.new.index c.args.used stored
  covered = c.cover.ensures

pub walk-requires : goal.walk-requires
walk-requires c = let d = (goal.at.walk-requires c).After-cover in let p = d.requires in (p.0, covered d p.0 p.1)

-- what the walk said
module _ (c : After-walk) where
  abbrev d : After-cover
  d = c.before.before.before

  said : (t : Option Spot) → c.walk.result ≡ t → (stored : List Stored) (K : Keeps d.args.store.now d.cover.new.index d.args.used stored)
      → Spotted K.scale K.covers.front d.args.literals.now d.cover.new.index t
  said t e stored K = spotted K.scale K.covers.front d.args.literals.now d.cover.new.index c.walk.result t e (c.walk.ensures stored K)

pub delete_near-requires : goal.delete_near-requires
delete_near-requires c =
    let w = (goal.at.delete_near-requires c).After-walk in
    let p = (d w).requires in
    let K = covered (d w) p.0 p.1 in
    (p.0, K, said w _ c.in-Some.is p.0 K)

-- no nogood in front has the literals
module _ (c : In-None) where
  abbrev w : After-walk
  w = c.before

  none : (stored : List Stored) (K : Keeps (d w).args.store.now (d w).args.index.now (d w).args.used stored)
      → Spotted (covered (d w) stored K).scale (covered (d w) stored K).covers.front (d w).args.literals.now (d w).cover.new.index None
  none stored K = said w _ c.in-None.is stored (covered (d w) stored K)

pub delete_far-requires : goal.delete_far-requires
delete_far-requires c =
    let e = (goal.at.delete_far-requires c).In-None in
    let p = (d (w e)).requires in
    let K = covered (d (w e)) p.0 p.1 in
    (p.0, K.holds, skips _ K _ c.covered-from.ensures (none e p.0 p.1))

pub returns-in-Some : goal.returns-in-Some
returns-in-Some c =
    λ stored K.
    let a = c in
    let w = (goal.at.returns-in-Some c).After-walk in
    let G = covered (d w) stored K in
    c.delete_near.ensures stored G (said w _ a.in-Some.is stored G)

pub returns-in-None : goal.returns-in-None
returns-in-None c =
    λ stored K.
    let a = c in
    let e = (goal.at.returns-in-None c).In-None in
    let G = covered (d (w e)) stored K in
    record {
      holds = c.delete_far.ensures stored G.holds (skips _ G _ a.covered-from.ensures (none e stored K));
      scale = G.scale;
      size = G.size;
      covers = covers-far _ G (none e stored K);
    }
