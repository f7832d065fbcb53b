-- The loop: the assignment grows by what follows, and the entries from the end on are free.
use mathlib.Core.Path.{◌≡◌, sym, subst, ◌∙◌}
use mathlib.Core.Bool.{true}
use mathlib.Core.List.{List}
use Prim.Native.Nat.{ℕ, ◌+◌, ◌*◌, ◌≤◌, ◌<◌}
use native.Mathlib.Omega.{arith}
use lib.IntN.{ℤ}
use lib.ListN.{length, get_or}
use Rattle.words.specs.Limits.{entries}
use Rattle.nogoods.specs.Index.{fixed_cells, cells_per_chain, scale_of, proved_cells, Marked}
use Rattle.nogoods.proofs.Indexing.{scale-room, roomy}
use Rattle.nogoods.specs.Records.{Readable, Stands}
use Rattle.propagation.specs.Propagate.{Grows, DerivesAt}
use Rattle.propagation.specs.declared.units.Derived.TheVariants.{Conflicting, Assigned, Nothing}
use Rattle.nogoods.proofs.Recorded.{readable}
use Rattle.propagation.proofs.Assignments.{blank-set}
use Rattle.propagation.proofs.Closures.{grows-not, grows-on, derived, conflicting, clashes-before}
use Rattle.propagation.proofs.replay.replay.Goals as goal
use Rattle.propagation.proofs.replay.replay.Goals.{Else-m-eq0, After-is_start, then-is_start+in-Assigned, then-is_start+in-Nothing, else-is_start}

-- the first of the search's cells at whose end the path stands
abbrev path_at : ℕ → ℕ
path_at m = proved_cells m + 40960

-- the cells of an index whose scale is not 0
cells : (index : List ℕ) (m : ℕ) → m ≡ scale_of (length index) → (m ≡ 0 → ⊥) → cells_per_chain * m + fixed_cells ≤ length index
cells index m e h = rw e (scale-room (length index) (omega (arith, h, e)))

module _ (c : Else-m-eq0) where
  abbrev scale : ℕ
  scale = c.scale_of-m.result

  enough : cells_per_chain * scale + fixed_cells ≤ length c.args.index.now
  enough = cells c.args.index.now scale c.scale_of-m.ensures.value c.if-m-eq0.false

pub bounds-index-at : goal.bounds-index-at
bounds-index-at c = omega (arith, enough (goal.at.bounds-index-at c).Else-m-eq0)

pub bounds-index-at-in-loop-k : goal.bounds-index-at-in-loop-k
bounds-index-at-in-loop-k c = omega (arith, c.loop-k-test.true, enough (goal.at.bounds-index-at-in-loop-k c).Else-m-eq0)

pub is_start-requires : goal.is_start-requires
is_start-requires c =
    let e = (goal.at.is_start-requires c).Else-m-eq0 in
    roomy e.args.index.now (scale e) e.scale_of-m.ensures.value (omega (arith, e.if-m-eq0.false))

-- the place
module _ (d : After-is_start) where
  abbrev words : List ℤ
  words = d.args.nogoods.now

  abbrev x : ℕ
  x = get_or d.args.index.now (path_at (d.scale_of-m.result) + d.loop-k.k) 0

  size : length d.loop-k.assignment ≡ entries
  size = d.loop-k.invariant.0.size ∙ d.requires.size

  -- the nogood there
  module _ (yes : d.is_start.result ≡ true) where
    stands : Stands words x
    stands =
        let t = d.is_start.ensures yes in
        subst (λ (n : ℕ). Marked n words d.args.index.now) (sym d.scale_of-m.ensures.value) d.requires.index x t.0 t.1

    read : Readable words x
    read = readable words x d.requires.encoded stands

    -- a variable that it assigns
    grown : (m' : List ℕ) (v : ℕ) → DerivesAt words x d.loop-k.assignment m' (Assigned v) → Grows words d.loop-k.assignment m' × (v < entries)
    grown m' v g = let r = derived _ _ stands g.0 read.literals d.loop-k.assignment size m' v g.1 in (r.0, r.3)

pub derive_at-requires : goal.derive_at-requires
derive_at-requires c = let d = (goal.at.derive_at-requires c).After-is_start in record { «record» = read d c.if-is_start.true; size = size d }

pub returns-in-Conflicting : goal.returns-in-Conflicting
returns-in-Conflicting c =
    let d = (goal.at.returns-in-Conflicting c).After-is_start in
    let yes = c.if-is_start.true in
    let v = d.loop-k.invariant in
    let t : DerivesAt (words d) (x d) d.loop-k.assignment c.derive_at.new.assignment Conflicting = rw c.in-Conflicting.is at c.derive_at.ensures in (
      clashes-before _ _ _ v.0 (conflicting _ _ (stands d yes) t.0 (read d yes).literals d.loop-k.assignment (size d) t.1.1),
      (v.1.0, rw t.1.0 v.1.1),
    )

pub past-end-requires : goal.past-end-requires
past-end-requires c =
    let d = (goal.at.past-end-requires c).After-is_start in
    (d.loop-k.invariant.1.0, (grown d c.if-is_start.true c.derive_at.new.assignment c.in-Assigned.v (rw c.in-Assigned.is at c.derive_at.ensures)).1)

pub loop-k-preserved : goal.loop-k-preserved
loop-k-preserved c =
    let d = (goal.at.loop-k-preserved c).After-is_start in
    let i = d.loop-k in
    elim c.if-is_start.branch [
      | then-is_start+in-Assigned w ↦
          let v = w.in-Assigned.v in
          let p = w.past-end.ensures in
          let g : DerivesAt (words d) (x d) i.assignment w.derive_at.new.assignment (Assigned v) = rw w.in-Assigned.is at w.derive_at.ensures in
          rw (w.assignment-is, w.end-is) (
            grows-on i.invariant.0 (grown d w.if-is_start.true w.derive_at.new.assignment v g).0,
            (p.1.1, rw g.1.3 (blank-set i.assignment v _ i.end _ i.invariant.1.1 p.0 p.1.0)),
          )
      | then-is_start+in-Nothing w ↦
          let g : DerivesAt (words d) (x d) i.assignment w.derive_at.new.assignment Nothing = rw w.in-Nothing.is at w.derive_at.ensures in
          rw (w.assignment-is, w.end-is, g.0) i.invariant
      | else-is_start w ↦ rw (w.assignment-is, w.end-is) i.invariant
    ]

pub returns-then-m-eq0 : goal.returns-then-m-eq0
returns-then-m-eq0 c = grows-not

pub loop-k-init : goal.loop-k-init
loop-k-init c = (grows-not, c.requires.start)

pub returns : goal.returns
returns c = c.loop-k.invariant.0
