use mathlib.Core.Path.{◌≡◌, refl, sym, ◌∙◌}
use Rattle.words.specs.Literals.{variable}
use Rattle.words.proofs.Words.{back}
use Rattle.text.specs.declared.Letter.TheVariants.{Extension}
use Rattle.marks.specs.Marks.{marked}
use Rattle.steps.proofs.Kept.{kept_more}
use Rattle.steps.proofs.Letters.{first, some_number, introduced, extension-tracks}
use borrow.Author.Rules.{rules}
use Rattle.steps.proofs.naming.extension.Goals as goal
use Rattle.steps.proofs.naming.extension.Goals.{After-is_marked}

pub slice_bounds-all_marked-count : goal.slice_bounds-all_marked-count
slice_bounds-all_marked-count c = some_number Extension refl c.requires.line

pub returns-then-not-all_marked : goal.returns-then-not-all_marked
returns-then-not-all_marked c =
    λ N ws names bodies z b T K.
    let s = c in
    rw (introduced z T Extension _ s.requires.line refl refl (sym c.all_marked.ensures ∙ c.if-not-all_marked.true) refl) refl

pub slice_copy_out-variable_of : goal.slice_copy_out-variable_of
slice_copy_out-variable_of c = search (rules, some_number Extension refl c.requires.line)

-- question 27
named : (c : After-is_marked) → let a = c.args in
    c.is_marked.result ≡ marked a.known.now (variable (first a.numbers.now))
named c = rw (c.variable_of.ensures, back _ c.variable_of-arg-1.given) at c.is_marked.ensures

pub returns-then-is_marked : goal.returns-then-is_marked
returns-then-is_marked c =
    λ N ws names bodies z b T K.
    let k = c in
    let s = c in
    rw (introduced z T Extension _ s.requires.line refl refl (sym k.all_marked.ensures ∙ k.if-not-all_marked.false) (sym (named (goal.at.returns-then-is_marked c).After-is_marked) ∙ c.if-is_marked.true)) refl

pub define-requires : goal.define-requires
define-requires c = let s = c in
    let l = s.requires.line in record { store = s.requires.store; line = (l.literals, some_number Extension refl l, l.few) }

pub returns : goal.returns
returns c =
    λ N ws names bodies z b T K.
    let d = c in
    let m = c in
    let k = c in
    let s = c in
    let f = sym (named (goal.at.returns c).After-is_marked) ∙ m.if-is_marked.false in
    rw (introduced z T Extension _ s.requires.line refl refl (sym k.all_marked.ensures ∙ k.if-not-all_marked.false) f)
    (kept_more K s.args.origin _ _ _ _ d.define.result (d.define.ensures.defined b K.keeps), rw d.define.ensures.known (extension-tracks z T Extension _ s.requires.line refl f))
