-- Its chain leads past it, its first word is negated, and the search has its own cells.
use mathlib.Core.Path.{◌≡◌, sym, ap, ◌∙◌}
use mathlib.Core.List.{List}
use Prim.Native.Nat.{ℕ, ◌≤◌, ◌<◌}
use native.Mathlib.Omega.{arith}
use Rattle.nogoods.specs.Store.{Stored}
use Rattle.nogoods.specs.Index.{Keeps, Unlinked, key_of, entry_of, reach}
use Rattle.nogoods.proofs.Stored.{hit, hit-room, hit-killed}
use Rattle.nogoods.proofs.Indexing.{start-room, near-found, near-start, near-over, keeps-near, keeps-part, roomy}
use Rattle.nogoods.proofs.store.delete_near.Goals as goal
use Rattle.nogoods.proofs.store.delete_near.Goals.{After-scale_of-m}

unlinked-at : {j m : ℕ} {index index' : List ℕ} {h x over : ℕ} → j ≡ m → Unlinked m index index' h x over → Unlinked j index index' h x over
unlinked-at e u = rw e u

-- the nogood is in reach, so that the scale is not 0
module _ (c : After-scale_of-m) where
  abbrev m : ℕ
  m = c.scale_of-m.result

  scaled : {stored : List Stored} (K : Keeps c.args.store.now c.args.index.now c.args.used stored) → K.scale ≡ m
  scaled K = K.size ∙ sym c.scale_of-m.ensures.value

  within : (c.args.spot.place < reach m) × (entry_of c.args.spot.over ≤ reach m)
  within =
      let p = c.requires in
      let t = scaled p.1 in
      let a = (start-room p.1 _ _ (near-start _ p.1 _ p.2)).1 in
      let b = near-over _ p.1 _ p.2 in
      (omega (arith, a, t), omega (arith, b, t))

pub key_of-requires : goal.key_of-requires
key_of-requires c = omega (arith, (within (goal.at.key_of-requires c).After-scale_of-m).0)

pub unlink-requires : goal.unlink-requires
unlink-requires c =
    let o = (goal.at.unlink-requires c).After-scale_of-m in
    let w = within o in
    (roomy o.args.index.now (m o) o.scale_of-m.ensures.value (omega (arith, w.0)), c.key_of.ensures.upper_bound, w.0, w.1)

pub kill-requires : goal.kill-requires
kill-requires c =
    let s = c in
    let p = s.requires in
    hit-room p.1.holds (hit 0 _ s.args.literals.now p.0 (near-found _ p.1 _ p.2))

pub returns : goal.returns
returns c stored K t =
    let f = c.forget in
    let a = c.start_of-at in
    let k = c.kill in
    let u = c in
    let o = (goal.at.returns c).After-scale_of-m in
    let e = scaled o K in
    let H = hit 0 _ o.args.literals.now stored (near-found _ K _ t) in
    keeps-part a.result u.unlink.new.index f.new.cells a.ensures.upper_bound f.auto.cells a.ensures.value
    (keeps-near _ K _ t k.new.store u.unlink.new.index _ (u.key_of.ensures.value ∙ ap (λ (j : ℕ). key_of j o.args.literals.now) (sym e))
    (unlinked-at e u.unlink.ensures) (rw k.ensures (hit-killed K.holds H)))
