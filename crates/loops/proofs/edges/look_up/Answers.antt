use mathlib.Core.Path.{◌≡◌, sym, ap, ◌∙◌}
use mathlib.Core.List.{List, [], ◌∷◌}
use Prim.Native.Nat.{ℕ, suc, ◌+◌, ◌-◌, ◌<◌}
use native.Mathlib.Omega.{arith}
use lib.IntN.{ℤ, pos}
use lib.ListN.{length, take, drop, get_or}
use Rattle.words.specs.Lists.{◌∈◌}
use Rattle.words.specs.Literals.{variable}
use Rattle.words.proofs.Lists.{passed}
use Rattle.words.proofs.Places.{in-at}
use Rattle.words.proofs.Words.{back}
use Rattle.derivation.proofs.Questions.{positive-is}
use Rattle.loops.specs.Edges.{place_by}
use Rattle.loops.proofs.Placing.{placed-low, place-part}
use Rattle.loops.proofs.EdgeMarks.{filling-on}
use Rattle.loops.proofs.Chained.{numbers-left, number-split}
use Rattle.std.proofs.Common.{rules}
use Rattle.loops.proofs.edges.look_up.Goals as goal
use Rattle.loops.proofs.edges.look_up.Goals.{After-variable_of-v}

pub loop-x-init : goal.loop-x-init
loop-x-init c = numbers-left c.args.table.now c.args.rules c.args.places.now c.requires.places.1

-- the number at hand
module _ (c : After-variable_of-v) where
  abbrev U : List ℤ
  U = c.args.numbers.now

  abbrev j : ℕ
  j = c.loop-x.x-index

  abbrev x : ℤ
  x = get_or U j (pos 0)

  taken : j < length U
  taken = c.loop-x-test.true

  among : x ∈ U
  among = in-at (pos 0) U j taken

  tells : c.variable_of-v.result ≡ variable x
  tells = c.variable_of-v.ensures ∙ ap variable (back x (search rules))

  atom : x ≡ pos c.variable_of-v.result
  atom = positive-is x ((passed _).from (c.requires.places.0.positive x among)) ∙ ap pos (sym tells)

  abbrev m : List ℕ
  m = c.args.places.now

  placed : place_by m (pos c.variable_of-v.result) ≡ suc j
  placed = sym (ap (place_by m) atom) ∙ c.requires.places.1.from j taken

  part : (n : ℕ) → n ≡ 1 → take n (drop c.variable_of-v.result m) ≡ place_by m (pos c.variable_of-v.result) ∷ []
  part n e = place-part m c.variable_of-v.result placed n e

pub mark_chain-requires-clause-head : goal.mark_chain-requires-clause-head
mark_chain-requires-clause-head c =
    let v = (goal.at.mark_chain-requires-clause-head c).After-variable_of-v in
    let a = v.variable_of-v.result in
    (part v (a + 1 - a) (omega arith), omega (arith, tells v, v.requires.places.0.high (x v) (among v)))

pub mark_chain-requires-clause-sizes : goal.mark_chain-requires-clause-sizes
mark_chain-requires-clause-sizes c =
    let p = c.requires.places in
    (c.loop-x.invariant.long, placed-low p.0.few p.1, (c.args.numbers.now, p.1))

pub loop-x-preserved : goal.loop-x-preserved
loop-x-preserved c =
    let v = (goal.at.loop-x-preserved c).After-variable_of-v in
    let a = v.args in
    filling-on v.loop-x.invariant c.mark_chain.ensures
    (number-split a.table.now a.rules a.places.now (U v) _ (j v) (taken v) (ap (λ y. y ∷ []) (sym (atom v))))
