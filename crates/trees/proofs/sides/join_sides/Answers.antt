use mathlib.Core.Path.{◌≡◌, sym, ap, ◌∙◌, subst}
use mathlib.Core.List.{List}
use Prim.Native.Nat.{ℕ}
use lib.IntN.{pos, neg_ℤ}
use lib.ListN.{length, take}
use lib.Seq.{length-take-le}
use Rattle.aspif.specs.Rules.{InputRule}
use Rattle.merging.specs.Claims.{demanding_as_written}
use Rattle.trees.specs.Service.{Side, fails}
use Rattle.trees.specs.Sides.{pending, joined_sides, side_of, AddsTo, Joinable, Sided}
use Rattle.trees.specs.declared.sides.Pending.{Pending}
use Rattle.trees.proofs.Outcomes.{other-refused, joinable-first}
use Rattle.trees.proofs.sides.join_sides.Goals as goal
use Rattle.trees.proofs.sides.join_sides.Goals.{Start}
use Rattle.std.specs.Prelude.{Ok, Err}

module _ (s : Start) where
  abbrev store-size : ℕ
  store-size = length s.args.store.now

  -- the demanding side's text
  abbrev text : List ℕ
  text = take s.args.one.size s.args.first.now

  text-is : s.args.one.size ≡ length text
  text-is =
      sym (length-take-le s.args.one.size s.args.first.now (joinable-first s.args.one s.args.other s.args.first.now s.args.second.now s.requires.texts))

  -- both joined, by what the other side came to
  abbrev joined : List InputRule → Sided → Side
  joined ws other =
      joined_sides store-size s.args.place.limit ws s.args.v (pending store-size (demanding_as_written ws (pos s.args.v)) text s.args.one.refusal)
      (side_of store-size (demanding_as_written ws (neg_ℤ (pos s.args.v))) s.args.second.now other)

  module _ (two : Pending) (e : s.args.other ≡ Ok two) where
    joinable : Joinable s.args.one (Ok two) s.args.first.now s.args.second.now
    joinable = subst (λ (w : Sided). Joinable s.args.one w s.args.first.now s.args.second.now) e s.requires.texts

pub slice_bounds-merge_texts-end-in-Ok : goal.slice_bounds-merge_texts-end-in-Ok
slice_bounds-merge_texts-end-in-Ok c =
    sym (length-take-le c.in-Ok.two.size c.args.second.now (joinable (goal.at.slice_bounds-merge_texts-end-in-Ok c).Start c.in-Ok.two c.in-Ok.is).1)

pub merge_texts-requires : goal.merge_texts-requires
merge_texts-requires c = let s = (goal.at.merge_texts-requires c).Start in
    let p = s.requires in record { place = p.place; atom = p.atom; counted = (joinable s c.in-Ok.two c.in-Ok.is).2; empty = p.empty; blank = p.blank }

pub returns-in-Err : goal.returns-in-Err
returns-in-Err c = let s = (goal.at.returns-in-Err c).Start in
    let r = c.first_refusal in
    record {
      empty = r.ensures.empty;
      program = r.ensures.program;
      side = λ ws S.
          ap (joined s ws) c.in-Err.is
          ∙ (other-refused (store-size s) s.args.place.limit ws s.args.v (text s) s.args.one.refusal c.in-Err.fault ∙ ap fails (sym (r.ensures.fault ws S)));
      taken = subst (λ (w : Sided). AddsTo s.args.one w (Err r.result)) (sym c.in-Err.is) tt;
    }

pub returns-in-Ok : goal.returns-in-Ok
returns-in-Ok c = let s = (goal.at.returns-in-Ok c).Start in
    let m = c.merge_texts in
    record { empty = m.ensures.empty; program = m.ensures.program; side = λ ws S. ap (joined s ws) c.in-Ok.is ∙ m.ensures.side ws S; taken = subst (λ (w : Sided). AddsTo s.args.one w m.result) (sym c.in-Ok.is) m.ensures.taken }
