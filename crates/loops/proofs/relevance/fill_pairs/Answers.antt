-- `relevance::fill_pairs` meets its contract: an entry for each pair before n.
-- Assumes nothing.
use mathlib.Core.Path.{◌≡◌, refl, ap, ◌∙◌}
use mathlib.Core.Bool.{Bool, true, false, cond}
use mathlib.Core.List.{List}
use Prim.Native.Nat.{ℕ, ◌+◌, ◌*◌, ◌<◌}
use native.Mathlib.Omega.{arith}
use lib.IntN.{ℤ, pos}
use lib.ListN.{length, get_or}
use mir.Val.{bool_byte}
use Rattle.std.proofs.Common.{rules}
use Rattle.words.proofs.Words.{back}
use Rattle.loops.proofs.Filling.{Filled, filled-all, filled_in, filled_more}
use Rattle.loops.proofs.relevance.fill_pairs.Goals as goal
use Rattle.loops.proofs.relevance.fill_pairs.Goals.{In-loop-n}
use Rattle.loops.proofs.relevance.fill_pairs.Invariants.{entry}

byte : (t : Bool) → bool_byte t ≡ cond t 1 0
byte true = refl
byte false = refl

-- the pair at hand
module _ (c : In-loop-n) where
  abbrev ws : List ℤ
  ws = c.args.pairs.now

  abbrev i : ℕ
  i = 2 * c.loop-n.n

  filled : Filled (entry c.args.bound ws) ws c.loop-n.entries c.loop-n.n i
  filled = c.loop-n.invariant

  in-loop : i + 1 < length ws
  in-loop = omega (arith, c.loop-n-test.true)

pub is_relevant-requires : goal.is_relevant-requires
is_relevant-requires c =
    let d = (goal.at.is_relevant-requires c).In-loop-n in
    let literal = back (get_or (ws d) (i d) (pos 0)) (search rules) in
    let weight = back (get_or (ws d) (i d + 1) (pos 0)) (search rules) in
    (d.requires.0, d.requires.1, rw (literal, weight) (filled_in _ _ (filled d) (in-loop d)))

pub loop-n-preserved : goal.loop-n-preserved
loop-n-preserved c =
    let d = (goal.at.loop-n-preserved c).In-loop-n in
    let e = rw (back (get_or (ws d) (i d) (pos 0)) (search rules)) at c.is_relevant.ensures in
    filled_more _ _ (filled d) (in-loop d) (c.from.ensures ∙ byte c.is_relevant.result ∙ ap (λ (t : Bool). cond {A = ℕ} t 1 0) e) (omega arith)

pub returns : goal.returns
returns c = filled-all _ _ c.loop-n.invariant (omega (arith, c.loop-n-test.false))
