-- What the replay gives, and what the sweeps after it give, together.
use mathlib.Core.Path.{◌≡◌, ap, ◌∙◌}
use mathlib.Core.Bool.{Bool, true, false}
use mathlib.Core.List.{List}
use Prim.Native.Nat.{ℕ}
use native.Mathlib.Omega.{arith}
use lib.IntN.{ℤ}
use lib.ListN.{replicate}
use Rattle.propagation.specs.Propagate.{Grows, Replays, Ends}
use Rattle.std.specs.declared.option.Option.{Option}
use Rattle.propagation.proofs.Closures.{grows-on, clashes-before}
use Rattle.propagation.proofs.propagate.Goals as goal
use Rattle.propagation.proofs.propagate.Goals.{After-replay}

-- what comes of an assignment that has grown comes of the one before
ends-before : (s : List ℤ) (m m' : List ℕ) → Grows s m m' → (r : Bool) → Ends s m' r → Ends s m r
ends-before s m m' g true k = clashes-before s m m' g k
ends-before s m m' g false (n, h, a) = (n, grows-on g h, a)

-- what the replay gave
told : (c : After-replay) (x : Option ℕ) → c.replay.result ≡ x → Replays c.args.nogoods.now c.args.assignment.now c.replay.new.assignment x
told c x e = rw e at c.replay.ensures

-- a conflict
pub release-requires : goal.release-requires
release-requires c =
    let t = told (goal.at.release-requires c).After-replay _ c.in-Some.is in
    (omega (arith, t.1.0, c.replay.array_long), t.1.1)

pub returns-in-Some : goal.returns-in-Some
returns-in-Some c = record {
  decided = (told (goal.at.returns-in-Some c).After-replay _ c.in-Some.is).0;
  free = c.release.ensures ∙ ap (λ (n : ℕ). replicate n 0) c.replay.array_long;
}

-- none
pub exhaust-requires : goal.exhaust-requires
exhaust-requires c = record {
  encoded = c.requires.encoded;
  size = (told (goal.at.exhaust-requires c).After-replay _ c.in-None.is).size ∙ c.requires.size;
}

pub returns-in-None : goal.returns-in-None
returns-in-None c = record {
  decided = ends-before _ _ _ (told (goal.at.returns-in-None c).After-replay _ c.in-None.is) c.exhaust.result c.exhaust.ensures.decided;
  free = c.exhaust.ensures.free;
}
