use mathlib.Core.Path.{◌≡◌, sym, ap, ◌∙◌}
use mathlib.Core.Logic.{inl}
use Prim.Native.Nat.{◌≤◌}
use native.Mathlib.Omega.{arith}
use lib.IntN.{pos}
use lib.ListN.{take}
use lib.Seq.{length-take-le}
use mir.Syntax.{w32}
use mir.Val.{to_z, of_z}
use mir.Facts.{to_z_pos}
use Rattle.words.specs.Limits.{largest}
use Rattle.words.specs.Literals.{has}
use Rattle.words.proofs.Lists.{if-true}
use Rattle.words.proofs.Literals.{has-decides}
use Rattle.heads.proofs.Externals.{note-row, note-in, note-keeps, note-cases}
use Rattle.heads.proofs.note.Goals as goal
use Rattle.heads.proofs.note.Goals.{After-contains}

pub returns-then-wide-gt-LARGEST : goal.returns-then-wide-gt-LARGEST
returns-then-wide-gt-LARGEST c = let s = c in record { row = (s.requires.0, (s.requires.2, λ h. absurd (omega (arith, c.if-wide-gt-LARGEST.true, c.wide.ensures.same)))); same = ((λ x i. i), λ x i. inl i) }

pub slice_bounds-contains-end-2 : goal.slice_bounds-contains-end-2
slice_bounds-contains-end-2 c =
    let s = c in
    sym (length-take-le s.args.n s.args.row.now (omega (arith, s.requires.0.within, s.requires.0.long)))

-- the name is a variable, its word is the name, and what the call tells
module _ (c : After-contains) where
  high : c.args.name ≤ largest
  high = omega (arith, c.if-wide-gt-LARGEST.false, c.wide.ensures.same)

  word : to_z w32 (of_z w32 c.from-word.result) ≡ pos c.args.name
  word = ap (λ z. to_z w32 (of_z w32 z)) c.from-word.ensures ∙ to_z_pos w32 {n = c.args.name} (omega (arith, high))

  tells : has (pos c.args.name) (take c.args.n c.args.row.now) ≡ c.contains.result
  tells = sym (rw word at c.contains.ensures)

pub returns-then-contains : goal.returns-then-contains
returns-then-contains c = let b = (goal.at.returns-then-contains c).After-contains in
    let s = c in record { row = (s.requires.0, (s.requires.2, λ h. if-true (has-decides (pos s.args.name) (take s.args.n s.args.row.now)) (tells b ∙ c.if-contains.true))); same = ((λ x i. i), λ x i. inl i) }

pub returns : goal.returns
returns c = let b = (goal.at.returns c).After-contains in
    let s = c in
    let a = s.args in
    let new = tells b ∙ c.if-contains.false in record { row = (note-row a.row.now a.n a.name _ s.requires.0 s.requires.1 s.requires.2 (high b) (word b) new, note-in a.row.now a.n a.name _ s.requires.0 s.requires.1 s.requires.2 (high b) (word b) new); same = (note-keeps a.row.now a.n a.name _ s.requires.0 s.requires.1 s.requires.2 (high b) (word b) new, note-cases a.row.now a.n a.name _ s.requires.0 s.requires.1 s.requires.2 (high b) (word b) new) }
