use mathlib.Core.Path.{◌≡◌, refl, subst}
use Prim.Native.Nat.{◌≤◌}
use borrow.Author.Rules.{part_to_end}
use lib.ListN.{length}
use Rattle.words.specs.Literals.{variable}
use Rattle.words.proofs.Words.{back}
use Rattle.text.specs.declared.Letter.{Letter}
use Rattle.text.specs.declared.Letter.TheVariants.{Body, Extension}
use Rattle.steps.specs.Held.{PassedLine}
use Rattle.steps.proofs.Letters.{first, some_number, first-high}
use Rattle.renaming.proofs.renames.rename_line.Goals as goal
use Rattle.renaming.proofs.renames.rename_line.Goals.{Start, In-Body, After-variable_of-n, In-Extension, After-variable_of}
use Rattle.renaming.proofs.renames.rename_line.Lts.View as view
use Rattle.renaming.proofs.renames.rename_line.Reads as reads
use Rattle.renaming.proofs.renames.rename_line.Tie as tie

-- the line passed 22 to 25 for the letter that was told
line : (s : Start) {x : Letter} → s.args.letter ≡ x → PassedLine x s.args.numbers.now
line s e = subst (λ x. PassedLine x s.args.numbers.now) e s.requires.line

-- `b`
module _ (c : In-Body) where
  abbrev s : Start
  s = c.before.before.before.before.before.before.before.before

  body-line : PassedLine Body s.args.numbers.now
  body-line = line s c.in-Body.is

  some : 1 ≤ length s.args.numbers.now
  some = some_number Body refl body-line

name : (c : After-variable_of-n) → c.variable_of-n.result ≡ variable (first (s (view.up-In-Body tie.the-claims reads.Pre reads.Post tie.handed_clauses c.before.before.before)).args.numbers.now)
name c = rw (back _ c.variable_of-arg-1.given) at c.variable_of-n.ensures

pub rename_body-requires : goal.rename_body-requires
rename_body-requires c = let v = (goal.at.rename_body-requires c).After-variable_of-n in
    let e = (goal.at.rename_body-requires c).In-Body in
    let p = (s e).requires in record { program = p.program; index = p.index; line = (rw (name v) (first-high Body refl (body-line e)), p.cursor.0, p.cursor.1) }

-- `e`
module _ (c : In-Extension) where
  abbrev s-e : Start
  s-e = c.before.before.before.before.before.before.before.before

  extension-line : PassedLine Extension s-e.args.numbers.now
  extension-line = line s-e c.in-Extension.is

name-e : (c : After-variable_of) → c.variable_of.result ≡ variable (first (s-e (view.up-In-Extension tie.the-claims reads.Pre reads.Post tie.handed_clauses c.before.before.before)).args.numbers.now)
name-e c = rw (back _ c.variable_of-arg-in-Extension-1.given) at c.variable_of.ensures

pub rename_other-requires : goal.rename_other-requires
rename_other-requires c =
    let v = (goal.at.rename_other-requires c).After-variable_of in
    let e = (goal.at.rename_other-requires c).In-Extension in
    let p = (s-e e).requires in
    (rw (name-e v) (first-high Extension refl (extension-line e)), p.cursor.0, p.cursor.1)

pub returns-in-Addition : goal.returns-in-Addition
returns-in-Addition c = λ ws H called K. rw c.in-Addition.is (refl, refl, refl)

pub returns-in-Body : goal.returns-in-Body
returns-in-Body c = λ ws H called K.
    let b = c in
    let v = (goal.at.returns-in-Body c).After-variable_of-n in
    let e = (goal.at.returns-in-Body c).In-Body in
    rw e.in-Body.is (rw (part_to_end (s e).args.numbers.now 1, name v) at (b.rename_body.ensures ws H called K))

pub returns-in-Completion : goal.returns-in-Completion
returns-in-Completion c = λ ws H called K. rw c.in-Completion.is (refl, refl, refl)

pub returns-in-Deletion : goal.returns-in-Deletion
returns-in-Deletion c = λ ws H called K. rw c.in-Deletion.is (refl, refl, refl)

pub returns-in-Extension : goal.returns-in-Extension
returns-in-Extension c = λ ws H called K.
    let v = (goal.at.returns-in-Extension c).After-variable_of in
    rw v.in-Extension.is (rw (name-e v) at c.rename_other.ensures, refl)

pub returns-in-Loop : goal.returns-in-Loop
returns-in-Loop c = λ ws H called K. rw c.in-Loop.is (refl, refl, refl)

pub returns-in-Support : goal.returns-in-Support
returns-in-Support c = λ ws H called K. rw c.in-Support.is (refl, refl, refl)
