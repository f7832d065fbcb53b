-- The loop: the nogoods before i are other lists.
use mathlib.Core.Path.{◌≡◌, sym, ap, ◌∙◌}
use mathlib.Core.Bool.{true, false}
use mathlib.Core.List.{List, ◌∷◌}
use Prim.Native.Nat.{ℕ, ◌+◌, ◌≤◌}
use native.Mathlib.Omega.{arith}
use lib.IntN.{ℤ}
use lib.ListN.{length}
use Rattle.nogoods.specs.Store.{Stored, is_target, record_size}
use Rattle.nogoods.specs.Records.{end_at, stored_at}
use Rattle.nogoods.specs.Finds.{found_at}
use Rattle.std.specs.declared.option.Option.TheVariants.{Some}
use Rattle.nogoods.proofs.Recorded.{rest_at, rest-first, rest-next, rest_over}
use Rattle.nogoods.proofs.Indexing.{skipped}
use Rattle.nogoods.proofs.store.find.Goals as goal
use Rattle.nogoods.proofs.store.find.Goals.{In-loop-i, After-is_target}

found_here : (i : ℕ) (L : List ℤ) (e : Stored) (es : List Stored) → is_target L e ≡ true → found_at i L (e ∷ es) ≡ Some i
found_here i L e es h = rw h

found-on : (i : ℕ) (L : List ℤ) (e : Stored) (es : List Stored) → is_target L e ≡ false
    → found_at i L (e ∷ es) ≡ found_at (i + record_size e.literals) L es
found-on i L e es h = rw h

-- the record at i can be read
room : (c : In-loop-i) → let s = c.args.store.now in end_at s c.loop-i.i ≤ length s
room c =
    let p = c.requires in
    omega (arith, (rest_at (c.loop-i.invariant p.0 p.1 p.2) c.loop-i-test.true).room, p.1.fits)

-- the record at i
abbrev it : In-loop-i → Stored
it c = stored_at c.args.store.now c.loop-i.i

pub loop-i-init : goal.loop-i-init
loop-i-init c stored H S = skipped H S

pub is_target-requires : goal.is_target-requires
is_target-requires c = room c

-- whether it is the list and live, as the call tells
module _ (c : After-is_target) where
  abbrev i : In-loop-i
  i = c.before

  tells : is_target i.args.literals.now (it i) ≡ c.is_target.result
  tells = sym c.is_target.ensures

pub returns-then-is_target : goal.returns-then-is_target
returns-then-is_target c =
    λ stored H S.
    let k = i (goal.at.returns-then-is_target c).After-is_target in
    let w = k.loop-i.invariant stored H S in
    let h = k.loop-i-test.true in
    sym (found_here _ k.args.literals.now (it k) (rest_at w h).others (tells (goal.at.returns-then-is_target c).After-is_target ∙ c.if-is_target.true)) ∙ rest-first w h

pub end_at-i-requires : goal.end_at-i-requires
end_at-i-requires c = room (i (goal.at.end_at-i-requires c).After-is_target)

pub loop-i-preserved : goal.loop-i-preserved
loop-i-preserved c =
    let o = (goal.at.loop-i-preserved c).After-is_target in
    let k = i o in
    let L = k.args.literals.now in
    rw c.end_at-i.ensures (λ stored H S.
    let w = k.loop-i.invariant stored H S in
    let h = k.loop-i-test.true in
    rest-next w h (λ es q. ap (λ m. found_at m L es) (rest_at w h).size ∙ sym (found-on _ L (it k) es (tells o ∙ c.if-is_target.false)) ∙ q))

pub returns : goal.returns
returns c = λ stored H S. rest_over (c.loop-i.invariant stored H S) c.loop-i-test.false
