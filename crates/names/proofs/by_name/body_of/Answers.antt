-- `by_name::body_of` meets its contract: a record that holds a body holds no other, and one without a count holds none.
-- Assumes nothing.
use mathlib.Core.Path.{◌≡◌, sym, ◌∙◌}
use mathlib.Core.Bool.{false}
use mathlib.Core.List.{List, ◌++◌}
use Prim.Native.Nat.{ℕ, ◌+◌, ◌-◌, ◌*◌, ◌≤◌}
use native.Mathlib.Numerals.{add-one}
use native.Mathlib.Omega.{arith}
use lib.Dec.{eqb}
use lib.IntN.{ℤ, pos}
use lib.ListN.{length, take, drop, get_or, length-drop}
use lib.Seq.{length-take-le, take_at}
use Rattle.std.specs.Prelude.{None}
use Rattle.words.specs.Limits.{largest}
use Rattle.words.specs.Literals.{same_list}
use Rattle.weights.specs.Weights.{most_weighted}
use Rattle.names.specs.ByName.{width, Called, Counted}
use Rattle.names.proofs.Called.{holds-body, holds-none}
use Rattle.names.proofs.by_name.body_of.Goals as goal

module _ (m : List ℤ) (name : ℕ) (high : name ≤ largest) {called : List ℤ → ℕ} (C : Called m called) (above : 1 ≤ name) (L : List ℤ)
    (short : length L ≤ most_weighted) where
  -- no count
  nothing : Counted (get_or m (width * name) (pos 0)) None → eqb (called L) name ≡ false
  nothing K = sym (C.stands name above high L short) ∙ holds-none m L name (omega (arith, C.long)) (rw add-one (K (length L) short))

  -- n literals, which stand at the front of the row
  body : (n : ℕ) (row rest : List ℤ) → n ≤ most_weighted → get_or m (width * name) (pos 0) ≡ pos (n + 1) → row ≡ take n (drop (width * name + 1) m) ++ rest
      → eqb (called L) name ≡ same_list (take n row) L
  body n row rest h first e =
      let size : length (take n (drop (width * name + 1) m)) ≡ n =
      length-take-le n (drop (width * name + 1) m) (simp length-drop (omega (arith, C.long))) in
      sym (C.stands name above high L short)
      ∙ rw (e, take_at (take n (drop (width * name + 1) m)) rest n size)
      (holds-body m L name (omega (arith, C.long)) (take n (drop (width * name + 1) m)) (rw size first) (rw size))

pub returns-then-bodies-ne-BODY_WORDS : goal.returns-then-bodies-ne-BODY_WORDS
returns-then-bodies-ne-BODY_WORDS c = λ called C above L short. absurd (c.if-bodies-ne-BODY_WORDS.true C.long)

pub returns-in_err-count : goal.returns-in_err-count
returns-in_err-count c =
    let a = c.args in
    rw c.from_residual.ensures (λ called C above L short. nothing a.bodies.now a.name c.requires.0 C above L short c.in_err-count.ensures)

pub returns : goal.returns
returns c =
    let a = c.args in
    let K = c.in_ok-count.ensures in
    let n = c.in_ok-count.count in
    let size : width * a.name + 1 + n - (width * a.name + 1) ≡ n = omega arith in
    let row = rw size at c.widen.ensures in
    (K.0, λ called C above L short. body a.bodies.now a.name c.requires.0 C above L short n _ _ K.0 (rw add-one K.1) row)
