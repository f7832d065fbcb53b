use mathlib.Core.Path.{◌≡◌, refl, sym, subst, ◌∙◌}
use mathlib.Core.List.{List, []}
use Prim.Native.Nat.{ℕ, ◌≤◌, ◌<◌}
use native.Mathlib.Omega.{arith}
use lib.IntN.{ℤ, pos}
use lib.ListN.{length, length-replicate}
use Rattle.words.specs.Limits.{entries, most_numbers}
use Rattle.text.specs.Classes.{byte_classes}
use Rattle.steps.specs.Held.{name_of}
use Rattle.merging.specs.Merge.{named_in}
use Rattle.renaming.specs.Renames.{TurnBounds}
use Rattle.renaming.specs.declared.renames.RenameTurn.TheVariants.{Goes}
use Rattle.renaming.proofs.Renamed.{walked_start, turn-ends, turn-over, turn_on}
use borrow.Author.Rules.{rules}
use Rattle.renaming.proofs.renames.rename_all.Goals as goal
use Rattle.renaming.proofs.renames.rename_all.Goals.{After-rename_at}

-- where the loop stands, and what the turn there left
module _ (c : After-rename_at) where
  abbrev new' : List ℕ
  new' = c.rename_at.new.new

  abbrev shared' : List ℕ
  shared' = c.rename_at.new.shared

  same_new : length new' ≡ entries
  same_new = c.rename_at.auto.new ∙ c.loop-next.invariant.1

  same-shared : length shared' ≡ entries
  same-shared = c.rename_at.auto.shared ∙ c.loop-next.invariant.2

  -- as many words as were lent
  lent-new : length new' ≡ length c.args.new.now
  lent-new = same_new ∙ sym c.requires.new

  lent-shared : length shared' ≡ length c.args.shared.now
  lent-shared = same-shared ∙ sym c.requires.shared.0

  same_numbers : length c.rename_at.new.numbers ≡ most_numbers
  same_numbers = c.rename_at.auto.numbers ∙ c.loop-next.invariant.3

  same-sorted : length c.rename_at.new.sorted ≡ most_numbers
  same-sorted = c.rename_at.auto.sorted ∙ c.loop-next.invariant.4

pub keep_all-requires : goal.keep_all-requires
keep_all-requires c = c.requires.new

pub loop-next-init : goal.loop-next-init
loop-next-init c =
    let p = c.requires in (
      λ ws v one two z₁ z₂ H. walked_start H _ _ c.keep_all.ensures p.shared.1,
      c.keep_all.auto.new ∙ p.new,
      p.shared.0,
      length-replicate {A = ℤ} most_numbers (pos 0),
      length-replicate {A = ℤ} most_numbers (pos 0),
      omega arith,
      omega (arith, p.program.2),
    )

pub rename_at-requires : goal.rename_at-requires
unfolding byte_classes
rename_at-requires c = let i = c.loop-next.invariant in
    let p = c.requires in record { classes = refl {a = byte_classes}; rows = (i.3, i.4); program = (p.program.0, p.program.1); index = p.index; cursor = (i.6, i.1) }

pub returns-in-Ends : goal.returns-in-Ends
returns-in-Ends c =
    let t = (goal.at.returns-in-Ends c).After-rename_at in
    let i = t.loop-next.invariant in
    λ ws v one two z₁ z₂ H.
    turn-ends H (i.0 ws v one two z₁ z₂ H) i.1 i.2 i.6 (new' t) (shared' t) c.in-Ends.is
    (t.rename_at.ensures.renamed ws H.holds (name_of (named_in [] one)) H.kept)

pub returns-in-Over : goal.returns-in-Over
returns-in-Over c =
    let t = (goal.at.returns-in-Over c).After-rename_at in
    let i = t.loop-next.invariant in
    λ ws v one two z₁ z₂ H.
    turn-over H (i.0 ws v one two z₁ z₂ H) i.1 i.2 i.6 (new' t) (shared' t) c.in-Over.is
    (t.rename_at.ensures.renamed ws H.holds (name_of (named_in [] one)) H.kept)

-- a turn that goes on
within : (t : After-rename_at) {next m : ℕ} → t.rename_at.result ≡ Goes next m → (t.loop-next.at < next) × (next ≤ length t.args.second.now) × (m ≤ entries)
within t g = subst (TurnBounds t.loop-next.at (length t.args.second.now)) g t.rename_at.ensures.within

pub loop-next-smaller : goal.loop-next-smaller
loop-next-smaller c = let o = within (goal.at.loop-next-smaller c).After-rename_at c.in-Goes.is in omega (arith, o.0, o.1)

pub loop-next-preserved : goal.loop-next-preserved
loop-next-preserved c =
    let t = (goal.at.loop-next-preserved c).After-rename_at in
    let i = t.loop-next.invariant in
    let o = within t c.in-Goes.is in (
      λ ws v one two z₁ z₂ H.
          turn_on H (i.0 ws v one two z₁ z₂ H) i.1 i.2 i.6 (new' t) (shared' t) _ _ c.in-Goes.is
          (t.rename_at.ensures.renamed ws H.holds (name_of (named_in [] one)) H.kept),
      same_new t,
      same-shared t,
      same_numbers t,
      same-sorted t,
      o.1,
      o.2,
    )

pub overflow_add-cursor : goal.overflow_add-cursor
overflow_add-cursor c = let h = c.requires.program.2 in search rules

pub slice_bounds-rename_at-end : goal.slice_bounds-rename_at-end
slice_bounds-rename_at-end c = let p = c.loop-next.invariant.3 in search rules

pub slice_bounds-rename_at-end-in-loop-next : goal.slice_bounds-rename_at-end-in-loop-next
slice_bounds-rename_at-end-in-loop-next c = let p = c.loop-next.invariant.4 in search rules
