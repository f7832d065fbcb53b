-- The loop keeps `Walking`.
use mathlib.Core.Path.{◌≡◌, refl, sym, ap, subst, ◌∙◌}
use mathlib.Core.List.{List}
use Prim.Native.Nat.{ℕ, suc, ◌≤◌, ◌<◌}
use native.Mathlib.Omega.{arith}
use lib.ListN.{length}
use Rattle.words.proofs.Descending.{Walking, walk_start, walk-past, walk-found, step_less}
use Rattle.nogoods.specs.Store.{Stored}
use Rattle.nogoods.specs.Records.{end_at}
use Rattle.nogoods.specs.Index.{Keeps, Start, Member, Target, key_of, bucket_of, before_of, entry_of, reach}
use Rattle.nogoods.proofs.Indexing.{roomy, front, start-room, is-wanted, not-wanted, target-member, found_entry, found_over, walk-over}
use Rattle.nogoods.proofs.chains.walk.Goals as goal
use Rattle.nogoods.proofs.chains.walk.Goals.{In-Some, then-is_target, else-is_target}

-- no words are reached
pub returns-then-m-eq0 : goal.returns-then-m-eq0
returns-then-m-eq0 c stored K y t =
    let z = (K.covers.chains.within y _ (K.covers.chains.member y _ (target-member K.scale (front K) _ y t))).1 in
    omega (arith, z, K.size, c.scale_of-m.ensures.value, c.if-m-eq0.true)

pub bounds-index-key_of : goal.bounds-index-key_of
bounds-index-key_of c =
    omega (arith, c.key_of.ensures.upper_bound, (roomy c.args.index.now c.scale_of-m.result c.scale_of-m.ensures.value (omega (arith, c.if-m-eq0.false))).0)

pub loop-next-init : goal.loop-next-init
loop-next-init c stored K =
    let k = c.key_of.ensures in
    let e = c.scale_of-m.ensures.value in
    let t : c.key_of.result ≡ key_of K.scale _ = k.value ∙ ap (λ (j : ℕ). key_of j _) (e ∙ sym K.size) in
    rw (c.place_of-next.ensures, t) (walk_start K.covers.chains (omega (arith, k.upper_bound, t, e, K.size)))

-- the place x
module _ (c : In-Some) where
  abbrev x : ℕ
  x = c.in-Some.place

  is : entry_of c.loop-next.next ≡ suc x
  is = ap entry_of c.in-Some.is

  abbrev m : ℕ
  m = c.scale_of-m.result

  -- the scale of any index that is kept
  scaled : {stored : List Stored} (K : Keeps c.args.store.now c.args.index.now c.args.used stored) → K.scale ≡ m
  scaled K = K.size ∙ sym c.scale_of-m.ensures.value

  abbrev keeps : Keeps c.args.store.now c.args.index.now c.args.used c.requires.0
  keeps = c.requires.1

  abbrev key : ℕ
  key = key_of keeps.scale c.args.literals.now

  start : Start keeps.scale (front keeps) x key
  start = (c.loop-next.invariant c.requires.0 keeps).ahead x is

  room : (end_at c.args.store.now x ≤ length c.args.store.now) × (x < reach keeps.scale)
  room = start-room keeps x key start

  less : before_of m c.args.index.now x < entry_of c.loop-next.next
  less = subst (λ (k : ℕ). before_of k c.args.index.now x < entry_of c.loop-next.next) (scaled keeps)
      (step_less keeps.covers.chains x is (c.loop-next.invariant c.requires.0 keeps))

  -- what the loop keeps, at the place
  here : (stored : List Stored) (K : Keeps c.args.store.now c.args.index.now c.args.used stored)
      → Walking (Member K.scale (front K)) (Start K.scale (front K)) (bucket_of c.args.index.now) (before_of K.scale c.args.index.now)
      (Target (front K) c.args.literals.now) (key_of K.scale c.args.literals.now)
      (found_entry c.loop-next.found) (found_over c.loop-next.found) (entry_of c.loop-next.over) (suc x)
  here stored K = rw is at (c.loop-next.invariant stored K)

pub entry_after-requires : goal.entry_after-requires
entry_after-requires c =
    let i = (goal.at.entry_after-requires c).In-Some in
    let t = scaled i (keeps i) in
    let b = (room i).1 in
    (roomy c.args.index.now (m i) (sym t ∙ (keeps i).size) (omega (arith, b, t)), omega (arith, b, t))

pub is_target-requires : goal.is_target-requires
is_target-requires c = (room c).0

pub loop-next-smaller : goal.loop-next-smaller
loop-next-smaller c =
    let i = (goal.at.loop-next-smaller c).In-Some in
    rw (c.place_of-next-in-Some.ensures ∙ c.entry_after.ensures) (less i)

pub loop-next-preserved : goal.loop-next-preserved
loop-next-preserved c stored K =
    let i = (goal.at.loop-next-preserved c).In-Some in
    let w = here i stored K in
    let L = i.args.literals.now in
    let e : entry_of c.place_of-next-in-Some.result ≡ before_of K.scale i.args.index.now (x i) =
    c.place_of-next-in-Some.ensures ∙ c.entry_after.ensures ∙ ap (λ (k : ℕ). before_of k i.args.index.now (x i)) (sym (scaled i K)) in
    rw e (elim c.if-is_target.branch [
      | then-is_target t ↦ rw t.found-is
          (walk-found K.covers.chains w (is-wanted K L (x i) (key_of K.scale L) (w.ahead (x i) refl) (sym c.is_target.ensures ∙ t.if-is_target.true)))
      | else-is_target t ↦ rw t.found-is (walk-past K.covers.chains w (not-wanted K L (x i) (sym c.is_target.ensures ∙ t.if-is_target.false)))
    ])

pub returns : goal.returns
returns c stored K = walk-over K _ c.loop-next.found _ (rw (ap entry_of c.in_default.is) at (c.loop-next.invariant stored K))
