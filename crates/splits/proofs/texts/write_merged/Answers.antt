use mathlib.Core.Path.{◌≡◌, sym, ap, ◌∙◌, subst}
use mathlib.Core.Bool.{Bool, true, false}
use mathlib.Core.List.{List, [], ◌∷◌, ◌++◌}
use Prim.Native.Nat.{ℕ, ◌≤◌}
use native.Mathlib.Omega.{arith}
use lib.IntN.{ℤ, pos}
use lib.ListN.{get_or, length-replicate}
use mir.Syntax.{w32}
use mir.Val.{to_z, of_z}
use mir.Facts.{to_z-of_z, to_z_pos}
use Rattle.words.specs.Limits.{largest, entries}
use Rattle.words.specs.Literals.{complement}
use Rattle.marks.proofs.Sets.{none-marked}
use Rattle.aspif.specs.Rules.{expand}
use Rattle.steps.specs.Held.{name_of}
use Rattle.merging.specs.Merge.{named_in}
use Rattle.renaming.specs.Writing.{Writes}
use Rattle.renaming.specs.Renames.{NewNames, RenamedAll}
use Rattle.splits.specs.Service.{steps_in}
use Rattle.splits.specs.Joined.{AddedTo, HalfText, lines_of, closing, HalvesHeld}
use Rattle.splits.proofs.Joining.{atom-within, kept-first, called-high, rules-named, halves-held, demanded-half, forbidden-half, merged-lines, merged-over}
use borrow.Author.Rules.{rules, sfits_of}
use borrow.Author.Rules.{rules}
use Rattle.splits.proofs.texts.write_merged.Goals as goal
use Rattle.splits.proofs.texts.write_merged.Goals.{Start, After-rename_all, After-added_of-forbidden}
use Rattle.splits.proofs.texts.write_merged.Lts.View as view
use Rattle.splits.proofs.texts.write_merged.Reads as reads
use Rattle.splits.proofs.texts.write_merged.Tie as tie

module _ (s : Start) where
  abbrev Held : Type 0
  Held = let a = s.args in
      HalvesHeld a.table.now a.rules a.atoms a.v a.first.now a.second.now a.known1.now a.known2.now a.names.now a.bodies.now

  -- the split atom as a literal
  within : (1 ≤ s.args.v) × (s.args.v ≤ largest)
  within = let h = s.requires.halves in atom-within s.args.atoms s.args.v h.atom h.program.high

  atom-is : to_z w32 s.args.v ≡ pos s.args.v
  atom-is = to_z_pos w32 {n = s.args.v} (omega (arith, within.1))

pub rename_all-requires : goal.rename_all-requires
rename_all-requires c = let s = c in
    let h = s.requires.halves in record { program = ((h.ws, h.program.holds), rules-named h, h.program.high); index = s.requires.index; new = length-replicate {A = ℕ} entries 0; shared = (length-replicate {A = ℕ} entries 0, none-marked entries) }

-- the new names
module _ (c : After-rename_all) where
  abbrev s : Start
  s = c.before.before.before.before.before.before.before.before.before.before.before

  abbrev new : List ℕ
  new = c.rename_all.new.new

  abbrev shared : List ℕ
  shared = c.rename_all.new.shared

  renamed : (r : Bool) → c.rename_all.result ≡ r → (h : Held s)
      → RenamedAll s.args.atoms (expand h.ws) s.args.v (steps_in s.args.first.now) (steps_in s.args.second.now) new shared r
  renamed r e h =
      subst (RenamedAll s.args.atoms (expand h.ws) s.args.v (steps_in s.args.first.now) (steps_in s.args.second.now) new shared) e
      (c.rename_all.ensures h.ws s.args.v (steps_in s.args.first.now) (steps_in s.args.second.now) h.left.one.state h.left.two.state (halves-held h))

pub returns-then-not-rename_all : goal.returns-then-not-rename_all
returns-then-not-rename_all c = λ h. let d = (goal.at.returns-then-not-rename_all c).After-rename_all in merged-over h (s d).args.output.now (s d).args.output.now (renamed d false (c.if-not-rename_all.true) h)

pub overflow_cast-x : goal.overflow_cast-x
overflow_cast-x c = let h = (within (goal.at.overflow_cast-x c).Start).1 in search rules

pub complement_of-requires : goal.complement_of-requires
complement_of-requires c = rw (atom-is (goal.at.complement_of-requires c).Start) (within (goal.at.complement_of-requires c).Start).1

pub added_of-demanded-requires : goal.added_of-demanded-requires
added_of-demanded-requires c = let s = c in let h = s.requires.halves in record { program = ((h.ws, h.program.holds), rules-named h); index = s.requires.index }

pub added_of-forbidden-requires : goal.added_of-forbidden-requires
added_of-forbidden-requires c = let s = c in let h = s.requires.halves in record { program = ((h.ws, h.program.holds), rules-named h); index = s.requires.index }

-- what the program has of both constraints
module _ (c : After-added_of-forbidden) where
  abbrev d : After-rename_all
  d = (view.up-After-rename_all tie.the-claims reads.Pre reads.Post tie.handed_clauses c.before.before.before.before.before.before.before)

  new-names : (h : Held (s d)) → NewNames (s d).args.atoms (steps_in (s d).args.first.now) (steps_in (s d).args.second.now) (new d) (shared d)
  new-names h = renamed d true (c.if-not-rename_all.false) h

  literal : to_z w32 (of_z w32 c.complement_of.result) ≡ complement (pos (s d).args.v)
  literal = let k = c.complement_of in to_z-of_z {w = w32} (sfits_of {z = k.result} k.type_inv) ∙ (k.ensures ∙ ap complement (atom-is (s d)))

  demanded : (h : Held (s d)) → AddedTo (expand h.ws) (complement (pos (s d).args.v) ∷ []) c.added_of-demanded.result
  demanded h =
      subst (λ (y : ℤ). AddedTo (expand h.ws) (y ∷ []) c.added_of-demanded.result) literal
      (c.added_of-demanded.ensures h.ws h.program.holds (name_of (named_in [] (steps_in (s d).args.first.now))) (kept-first h) (called-high h))

  forbidden : (h : Held (s d)) → AddedTo (expand h.ws) (pos (s d).args.v ∷ []) c.added_of-forbidden.result
  forbidden h =
      subst (λ (y : ℤ). AddedTo (expand h.ws) (y ∷ []) c.added_of-forbidden.result) (atom-is (s d))
      (c.added_of-forbidden.ensures h.ws h.program.holds (name_of (named_in [] (steps_in (s d).args.first.now))) (kept-first h) (called-high h))

pub write_text-requires : goal.write_text-requires
write_text-requires c = let k = (goal.at.write_text-requires c).After-added_of-forbidden in
    let a = (s (d k)).args in
    let h = (s (d k)).requires.halves in record { literal = rw (atom-is (s (d k))) (within (s (d k))); new = (new-names k h).within; first = subst (λ (y : ℤ). HalfText a.first.now y (0 ∷ []) k.added_of-demanded.result) (sym (atom-is (s (d k)))) (demanded-half h (demanded k h)); second = subst (λ (y : ℤ). HalfText a.second.now (complement y) (shared (d k)) k.added_of-forbidden.result) (sym (atom-is (s (d k)))) (forbidden-half h (new-names k h) (forbidden k h)) }

pub returns : goal.returns
returns c = λ h.
    let k = (goal.at.returns c).After-added_of-forbidden in
    let a = (s (d k)).args in
    let w = c.write_text in
    merged-lines h (new-names k h) (demanded k h) (forbidden k h) a.output.now w.new.output w.result
    (subst (λ (y : ℤ). (one : HalfText a.first.now y (0 ∷ []) k.added_of-demanded.result) (two : HalfText a.second.now (complement y) (shared (d k)) k.added_of-forbidden.result)
    → Writes (lines_of one (λ u. u) ++ (lines_of two (λ u. get_or (new (d k)) u 0) ++ closing)) a.output.now w.new.output 0 w.result) (atom-is (s (d k)))
    w.ensures (demanded-half h (demanded k h)) (forbidden-half h (new-names k h) (forbidden k h)))
