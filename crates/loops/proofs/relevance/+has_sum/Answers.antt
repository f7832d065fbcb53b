-- `relevance::has_sum` meets its contract: the sums with the first pair and those without it.
-- Assumes nothing.
use mathlib.Core.Path.{◌≡◌, sym, ap, ◌∙◌}
use mathlib.Core.Bool.{Bool, false, ◌||◌}
use mathlib.Core.List.{List, ◌∷◌}
use Prim.Native.Nat.{ℕ, ◌+◌, ◌-◌, ◌<◌}
use native.Mathlib.Omega.{arith}
use lib.IntN.{ℤ, pos}
use lib.ListN.{length, take, drop, get_or, length-drop}
use mir.Syntax.{w32}
use mir.Val.{to_z, of_z}
use mir.Facts.{to_z-of_z}
use Rattle.words.specs.Literals.{variable, same}
use Rattle.words.proofs.Words.{back}
use Rattle.words.proofs.Parts.{tail_of}
use Rattle.weights.specs.Weights.{sum, paired}
use Rattle.loops.specs.Relevance.{has_sum, others}
use Rattle.loops.proofs.Sums.{sum-short, sum-empty, sum-next, sum-as, some_pair, pair, taken}
use Rattle.loops.proofs.relevance.+has_sum.Goals as goal
use Rattle.loops.proofs.relevance.+has_sum.Goals.{After-variable_of-w}

-- the ways out without a pair
pub returns-then-low-eq0 : goal.returns-then-low-eq0
returns-then-low-eq0 t c = sym (sum-empty _ _ _ c.if-low-eq0.true)

pub returns-then-left-low : goal.returns-then-left-low
returns-then-left-low t c = sym (sum-short _ _ _ (omega (arith, c.requires, c.if-left-low.true)))

-- the first pair is another's: what is known of the others with it
module _ (t : ℕ) (c : After-variable_of-w t) where
  abbrev x : ℤ
  x = c.args.x

  abbrev ws : List ℤ
  ws = c.args.pairs.now

  own : to_z w32 (of_z w32 x) ≡ x
  own = to_z-of_z c.ranges.x

  first : 1 < length ws
  first = some_pair x ws (omega (arith, c.requires, c.if-left-low.false, c.if-low-eq0.false))

  other : same x (get_or ws 0 (pos 0)) ≡ false
  other = sym (rw (own, back (get_or ws 0 (pos 0)) c.is_same-arg-1.given) at c.is_same.ensures) ∙ c.if-is_same.false

  weight : c.variable_of-w.result ≡ variable (get_or ws 1 (pos 0))
  weight = rw (back (get_or ws 1 (pos 0)) c.variable_of-arg-1.given) at c.variable_of-w.ensures

  splits : others x (paired ws) ≡ pair x ws first ∷ others x (paired (drop 2 ws))
  splits = taken x ws first other

  sums : c.args.left ≡ c.variable_of-w.result + sum (others x (paired (drop 2 ws)))
  sums = c.requires ∙ ap sum splits ∙ ap (λ (w : ℕ). w + sum (others x (paired (drop 2 ws)))) (sym weight)

  -- what the calls of itself are asked about
  same_rest : others (to_z w32 (of_z w32 x)) (paired (take (length ws - 2) (drop 2 ws))) ≡ others x (paired (drop 2 ws))
  same_rest = rw (own, tail_of 2 ws)

  shorter : length (take (length ws - 2) (drop 2 ws)) < t
  shorter = rw (tail_of 2 ws) (omega (arith, length-drop 2 ws, first, c.decreases))

  rest-sums : c.args.left - c.variable_of-w.result ≡ sum (others (to_z w32 (of_z w32 x)) (paired (take (length ws - 2) (drop 2 ws))))
  rest-sums = rw same_rest (omega (arith, sums))

  -- the call with the first pair tells one half
  halves : {r : Bool} {lower higher : ℕ} → lower ≡ c.args.low - c.variable_of-w.result → higher ≡ c.args.high - c.variable_of-w.result
      → r ≡ has_sum lower higher (others (to_z w32 (of_z w32 x)) (paired (take (length ws - 2) (drop 2 ws))))
      → has_sum c.args.low c.args.high (others x (paired ws)) ≡ (r || has_sum c.args.low c.args.high (others x (paired (drop 2 ws))))
  halves p q e =
      let low = c.args.low in
      let high = c.args.high in
      let rest = others x (paired (drop 2 ws)) in
      ap (has_sum low high) splits ∙ sum-next low high (pair x ws first) rest
      ∙ ap (λ (b : Bool). b || has_sum low high rest) (sym (sum-as low high p q weight same_rest e))

pub has_sum-requires-2 : goal.has_sum-requires-2
has_sum-requires-2 t c = let d = (goal.at.has_sum-requires-2 t c).After-variable_of-w in (shorter t d, rest-sums t d)

pub returns-then-has_sum : goal.returns-then-has_sum
returns-then-has_sum t c =
    let d = (goal.at.returns-then-has_sum t c).After-variable_of-w in
    let rest = has_sum c.args.low c.args.high (others c.args.x (paired (drop 2 c.args.pairs.now))) in
    sym (halves t d c.saturating_sub.ensures c.saturating_sub-2.ensures c.has_sum-2.ensures ∙ ap (λ (b : Bool). b || rest) c.if-has_sum.true)

pub has_sum-requires-3 : goal.has_sum-requires-3
has_sum-requires-3 t c = let d = (goal.at.has_sum-requires-3 t c).After-variable_of-w in (shorter t d, rest-sums t d)

pub returns : goal.returns
returns t c =
    let d = (goal.at.returns t c).After-variable_of-w in
    let rest = has_sum c.args.low c.args.high (others c.args.x (paired (drop 2 c.args.pairs.now))) in
    (rw (own t d, tail_of 2 c.args.pairs.now) at c.has_sum-3.ensures)
    ∙ sym (halves t d c.saturating_sub.ensures c.saturating_sub-2.ensures c.has_sum-2.ensures ∙ ap (λ (b : Bool). b || rest) c.if-has_sum.false)
