use mathlib.Core.Path.{◌≡◌, refl, sym, ◌∙◌}
use native.Mathlib.Omega.{arith}
use lib.ListN.{length-drop}
use Rattle.words.specs.Literals.{variable}
use Rattle.words.proofs.Parts.{tail_of}
use Rattle.words.proofs.Words.{back}
use Rattle.text.specs.declared.Letter.TheVariants.{Support}
use Rattle.steps.proofs.Letters.{first, some_number, first-high, others-literals, no-atom, supported, supported-by}
use borrow.Author.Rules.{rules}
use Rattle.steps.proofs.supports.is_supported.Goals as goal
use Rattle.steps.proofs.supports.is_supported.Goals.{After-variable_of, After-variable_of-then-is_covered}

pub bounds-numbers-0 : goal.bounds-numbers-0
bounds-numbers-0 c = some_number Support refl c.requires.line

head : (c : After-variable_of) → c.variable_of.result ≡ variable (first c.args.numbers.now)
head c = rw (back _ c.h-1.given) at c.variable_of.ensures

pub returns-then-atoms-variable_of : goal.returns-then-atoms-variable_of
returns-then-atoms-variable_of c =
    λ ws p known z T.
    let s = c in
    sym (no-atom z T s.args.numbers.now (omega (arith, c.if-atoms-variable_of.true, head (goal.at.returns-then-atoms-variable_of c).After-variable_of)))

-- the index covers the program
module _ (c : After-variable_of-then-is_covered) where
  again : c.variable_of-then-is_covered.result ≡ variable (first c.args.numbers.now)
  again = rw (back _ c.h-1.given) at c.variable_of-then-is_covered.ensures

pub slice_bounds-are_just_names-count : goal.slice_bounds-are_just_names-count
slice_bounds-are_just_names-count c = some_number Support refl c.requires.line

pub slice_bounds-are_just_names-start : goal.slice_bounds-are_just_names-start
slice_bounds-are_just_names-start c = search (rules, some_number Support refl c.requires.line)

pub are_just_names-requires : goal.are_just_names-requires
are_just_names-requires c = let v = (goal.at.are_just_names-requires c).After-variable_of-then-is_covered in
    let t = c in
    let p = v.requires in
    let l = v.args.numbers.now in
    let o = others-literals Support refl p.line in record { program = (p.program.0.1.holds.sound, p.program.1); index = (p.index, sym t.is_covered.ensures ∙ t.if-is_covered.true); line = rw (again v, tail_of 1 l) (first-high Support refl p.line, omega (arith, length-drop 1 l, p.line.few), o.once) }

pub returns-then-is_covered : goal.returns-then-is_covered
returns-then-is_covered c =
    λ ws p known z T.
    let v = (goal.at.returns-then-is_covered c).After-variable_of-then-is_covered in
    let k = c in
    supported-by z T v.args.numbers.now v.requires.line (omega (arith, k.if-atoms-variable_of.false, head (goal.at.returns-then-is_covered c).After-variable_of)) (again v)
    (c.are_just_names.ensures ws p.holds _ _ T.kept)

pub slice_bounds-marks_of-count : goal.slice_bounds-marks_of-count
slice_bounds-marks_of-count c = some_number Support refl c.requires.line

pub slice_bounds-marks_of-start : goal.slice_bounds-marks_of-start
slice_bounds-marks_of-start c = search (rules, some_number Support refl c.requires.line)

pub returns : goal.returns
returns c =
    λ ws p known z T.
    let k = c in
    let s = c in
    c.is_same_set.ensures
    ∙ supported z T s.args.numbers.now s.requires.line (omega (arith, k.if-atoms-variable_of.false, head (goal.at.returns c).After-variable_of)) _ (back _ k.h-1.given)
    c.marks_of-listed.ensures (c.mark_names.ensures ws p.holds _ T.kept)
