use mathlib.Core.Path.{◌≡◌, refl, sym, subst}
use mathlib.Core.Logic.{inl, inr}
use mathlib.Core.List.{List}
use Prim.Native.Nat.{ℕ}
use native.Mathlib.Omega.{arith}
use lib.IntN.{ℤ}
use lib.ListN.{length, take}
use lib.Seq.{length-take-le}
use Rattle.words.specs.Limits.{largest}
use Rattle.marks.specs.Marks.{listed}
use Rattle.nogoods.specs.Keeps.{Literals}
use Rattle.std.specs.Prelude.{Some}
use Rattle.steps.specs.Held.{LoopNogood}
use Rattle.steps.proofs.Kept.{kept-one}
use Rattle.steps.proofs.Gathering.{gathered-literals}
use Rattle.steps.proofs.unfounded.add_found.Goals as goal
use Rattle.steps.proofs.unfounded.add_found.Goals.{In-Some}

-- the nogood in the row
module _ (c : In-Some) where
  abbrev row : List ℤ
  row = c.args.row.now

  abbrev n : ℕ
  n = c.in-Some.n

  gives : (l : List ℕ) (h : ℤ) → LoopNogood l h row c.args.found → LoopNogood l h row (Some n)
  gives l h L = subst (LoopNogood l h row) c.in-Some.is L

  -- as it is known before
  held : (let p = c.requires.found in LoopNogood p.0 p.1 row (Some n))
  held = let p = c.requires.found in gives p.0 p.1 p.2

  size : length (take n row) ≡ n
  size = length-take-le n row held.3

pub append-requires : goal.append-requires
append-requires c = let f = (goal.at.append-requires c).In-Some in
    let p = f.requires in
    let g = held f in record {
      held = p.store.0;
      origin = p.store.1;
      literals = (
        subst Literals (sym g.1) (gathered-literals (listed p.found.0) p.found.1 largest 1 (omega arith) (omega arith)),
        omega (arith, size f, g.0),
      );
    }

pub returns-in-None : goal.returns-in-None
returns-in-None c =
    let s = c in
    λ l h L b K. inl (subst (LoopNogood l h s.args.row.now) c.in-None.is L, refl)

pub returns-in-Some : goal.returns-in-Some
returns-in-Some c =
    let a = c in
    let f = (goal.at.returns-in-Some c).In-Some in
    λ l h L b K.
    let g = gives f l h L in
    inr (g.2, kept-one b f.args.origin _ _ _ a.append.result c.fitted.ensures g.1 (a.append.ensures b K))

pub slice_bounds-append-end : goal.slice_bounds-append-end
slice_bounds-append-end c = sym (size (goal.at.slice_bounds-append-end c).In-Some)
