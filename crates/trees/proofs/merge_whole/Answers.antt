use mathlib.Core.Path.{◌≡◌, refl, sym, ap, ◌∙◌, subst}
use mathlib.Core.List.{List, []}
use Prim.Native.Nat.{ℕ, ◌≤◌}
use native.Mathlib.Omega.{arith}
use lib.IntN.{ℤ, pos}
use lib.ListN.{length, take, length-replicate}
use lib.Seq.{length-take-le}
use Rattle.words.proofs.Laws.{zeros}
use Rattle.words.specs.Limits.{longest}
use Rattle.aspif.specs.Rules.{InputRule}
use Rattle.steps.specs.Held.{Program}
use Rattle.splits.proofs.Answers.{same-nothing}
use Rattle.shapes.specs.Tree.{Shape, most_splits}
use Rattle.trees.specs.Service.{written_tree}
use Rattle.trees.specs.Sides.{Standing, Subtree, pending, Merged}
use Rattle.trees.specs.declared.sides.Place.{Place}
use Rattle.trees.proofs.Constraints.{room_for, standing-first}
use Rattle.trees.proofs.merge_whole.Goals as goal
use Rattle.trees.proofs.merge_whole.Goals.{After-copy, After-merge_side, In-Ok}
use Rattle.trees.proofs.merge_whole.Lts.View as view
use Rattle.trees.proofs.merge_whole.Reads as reads
use Rattle.trees.proofs.merge_whole.Tie as tie

pub slice_bounds-copy-end-3 : goal.slice_bounds-copy-end-3
slice_bounds-copy-end-3 c = sym (length-take-le _ _ c.words_used-used.ensures.used.1)

pub copy-requires : goal.copy-requires
copy-requires c =
    let u = c.words_used-used in
    let s = c in
    room_for u.result s.args.table.now 65565 u.ensures.used.1 (omega (arith, u.ensures.used.0, s.requires.short))

-- the program in the wider table
module _ (c : After-copy) where
  abbrev wide : List ℤ
  wide = c.copy.new.destination

  abbrev place : Place
  place = record { depth = most_splits; used = c.words_used-used.result; rules = c.args.rules; atoms = c.args.atoms; limit = length c.args.output.now }

  standing : {ws : List InputRule} → Program c.args.table.now c.args.rules c.args.atoms ws → Standing most_splits place wide ws
  standing P =
      let u = c.words_used-used in
      standing-first P u.result (length c.args.output.now) u.ensures.used.0 u.ensures.used.1 (omega (arith, u.ensures.used.0, c.requires.short)) c.requires.program.1 c.copy.ensures

pub merge_side-requires : goal.merge_side-requires
merge_side-requires c = let d = (goal.at.merge_side-requires c).After-copy in
    let q = d.requires in record { place = (q.program.0.0, standing d q.program.0.1); tree = (q.tree.0, [], q.tree.1); empty = q.empty.0; blank = refl }

-- what the tree comes to
module _ (c : After-merge_side) where
  abbrev copied : After-copy
  copied = (view.up-After-copy tie.the-claims reads.Pre reads.Post tie.handed_clauses c.before.before.before.before.before.before)

  abbrev t : ℕ
  t = length c.args.table.now

  abbrev s : ℕ
  s = length c.args.store.now

  abbrev o : ℕ
  o = length c.args.output.now

  abbrev store' : List ℤ
  store' = c.merge_side.new.store

  abbrev whole : List ℕ
  whole = c.merge_side.new.output

  same_store : length store' ≡ s
  same_store = c.merge_side.auto.store

  long : length whole ≡ longest
  long = c.merge_side.auto.output ∙ length-replicate {A = ℕ} longest 0

  module _ {ws : List InputRule} (P : Program c.args.table.now c.args.rules c.args.atoms ws) {u : Shape}
      (T : Subtree most_splits c.args.atoms c.args.tree.now c.args.texts.now c.args.lengths.now u []) where
    merged : Merged s o ws u [] c.args.tree.now c.args.texts.now c.args.lengths.now whole c.merge_side.result
    merged = c.merge_side.ensures.side ws (standing copied P) u [] T

-- it is a text
module _ (c : In-Ok) where
  abbrev side : After-merge_side
  side = (view.up-After-merge_side tie.the-claims reads.Pre reads.Post tie.handed_clauses c.before.before.before.before.before)

  abbrev n : ℕ
  n = c.in-Ok.pending.size

  within : n ≤ longest
  within =
      let q = side.requires in
      (subst (Merged (s side) (o side) q.program.0.0 q.tree.0 [] side.args.tree.now side.args.texts.now side.args.lengths.now (whole side)) c.in-Ok.is (merged side q.program.0.1 q.tree.1)).took.0

  inside : n ≤ length (whole side)
  inside = omega (arith, within, long side)

  size_is : length (take n (whole side)) ≡ n
  size_is = length-take-le n (whole side) inside

pub slice_bounds-whole-end : goal.slice_bounds-whole-end
slice_bounds-whole-end c = inside (goal.at.slice_bounds-whole-end c).In-Ok

pub slice_bounds-write_out-end : goal.slice_bounds-write_out-end
slice_bounds-write_out-end c = sym (size_is (goal.at.slice_bounds-write_out-end c).In-Ok)

pub write_out-requires : goal.write_out-requires
write_out-requires c = let d = (goal.at.write_out-requires c).In-Ok in
    let q = d.requires in record { program = q.program; empty = ((zeros (pos 0) {n = s (side d)} (side d).merge_side.ensures.empty).0, q.empty.1); text = omega (arith, size_is d, within d) }

pub returns-in-Err : goal.returns-in-Err
returns-in-Err c = λ ws p w u T.
    let d = (goal.at.returns-in-Err c).After-merge_side in
    let a = d.args in
    c.refuse.ensures ∙ same-nothing _ (refl {a = t d}) (same_store d) (refl {a = o d})
    ∙ sym (ap (written_tree (t d) (s d) (o d) ws) (subst (Merged (s d) (o d) ws u [] a.tree.now a.texts.now a.lengths.now (whole d)) c.in-Err.is (merged d p T)).outcome)

pub returns-in-Ok : goal.returns-in-Ok
returns-in-Ok c = λ ws p w u T.
    let d = (goal.at.returns-in-Ok c).After-merge_side in
    let e = (goal.at.returns-in-Ok c).In-Ok in
    let a = d.args in
    c.write_out.ensures ws p w
    ∙ (ap (λ (z : ℕ). written_tree (t d) z (o d) ws (pending z ws (take (n e) (whole d)) e.in-Ok.pending.refusal)) (same_store d)
    ∙ sym (ap (written_tree (t d) (s d) (o d) ws) (subst (Merged (s d) (o d) ws u [] a.tree.now a.texts.now a.lengths.now (whole d)) e.in-Ok.is (merged d p T)).outcome))
