-- The loop: what is kept is kept, and the records before r are entered.
use mathlib.Core.Path.{◌≡◌, sym, ap, ◌∙◌}
use mathlib.Core.List.{List}
use Prim.Native.Nat.{ℕ, ◌≤◌}
use native.Mathlib.Omega.{arith}
use lib.ListN.{length, get_or}
use Rattle.nogoods.specs.Store.{Stored}
use Rattle.nogoods.specs.Index.{Keeps, scale_of, covered_at, reach}
use Rattle.nogoods.specs.Records.{end_at}
use Rattle.nogoods.proofs.Indexing.{roomy, keeps-small, keeps-room, keeps-next}
use Rattle.nogoods.proofs.chains.cover.Goals as goal
use Rattle.nogoods.proofs.chains.cover.Goals.{In-loop-r, After-enter}

-- the record at r
module _ (c : In-loop-r) where
  abbrev m : ℕ
  m = c.scale_of-m.result

  -- the scale is that of the index as it is now
  now-size : m ≡ scale_of (length c.loop-r.index)
  now-size = c.scale_of-m.ensures.value ∙ ap scale_of (sym c.loop-r.invariant.0)

  scaled : {stored : List Stored} (K : Keeps c.args.store.now c.loop-r.index c.args.used stored) → K.scale ≡ m
  scaled K = K.size ∙ sym now-size

  reached : {stored : List Stored} (K : Keeps c.args.store.now c.loop-r.index c.args.used stored) → c.loop-r.r ≡ get_or c.loop-r.index (covered_at K.scale) 0
  reached K = c.loop-r.invariant.1 ∙ ap (λ (k : ℕ). get_or c.loop-r.index (covered_at k) 0) (sym (scaled K))

  keeps : Keeps c.args.store.now c.loop-r.index c.args.used c.requires.0
  keeps = c.loop-r.invariant.2 c.requires.0 c.requires.1

  room : end_at c.args.store.now c.loop-r.r ≤ length c.args.store.now
  room = keeps-room keeps c.loop-r.r (reached keeps) c.loop-r-test.true

pub enter-requires : goal.enter-requires
enter-requires c = let e = c in
    let i = (goal.at.enter-requires c).In-loop-r in
    let K = keeps i in record {
      «record» = (room i, e.end_at-end.ensures, omega (arith, c.if-m-end.false));
      index = (
        roomy i.loop-r.index (m i) (now-size i) (omega (arith, e.end_at-end.ensures, c.if-m-end.false)),
        λ k b. let t = scaled i K in omega (arith, keeps-small K k (omega (arith, b, t)), t),
      );
    }

-- and the next
module _ (c : After-enter) where
  abbrev i : In-loop-r
  i = c.before.before.before.before

  next : (stored : List Stored) → Keeps i.args.store.now i.loop-r.index i.args.used stored
      → Keeps i.args.store.now c.enter.new.index i.args.used stored
      × (end_at i.args.store.now i.loop-r.r ≡ get_or c.enter.new.index (covered_at (m i)) 0)
  next stored K =
      let n = c.enter in
      let e = c in
      let t = scaled i K in
      let b : end_at i.args.store.now i.loop-r.r ≤ reach K.scale = omega (arith, e.end_at-end.ensures, c.if-m-end.false, t) in
      let w = keeps-next K i.loop-r.r (reached i K) i.loop-r-test.true n.new.index n.auto.index b (rw (e.end_at-end.ensures, sym t) at n.ensures) in
      (w.0, w.1 ∙ ap (λ (k : ℕ). get_or n.new.index (covered_at k) 0) t)

pub loop-r-preserved : goal.loop-r-preserved
loop-r-preserved c =
    let v = (i (goal.at.loop-r-preserved c).After-enter).loop-r.invariant in (
      c.enter.auto.index ∙ v.0,
      c.end_at-end.ensures ∙ (next (goal.at.loop-r-preserved c).After-enter (i (goal.at.loop-r-preserved c).After-enter).requires.0 (keeps (i (goal.at.loop-r-preserved c).After-enter))).1,
      λ stored K. (next (goal.at.loop-r-preserved c).After-enter stored (v.2 stored K)).0,
    )

pub end_at-end-requires : goal.end_at-end-requires
end_at-end-requires c = room c
