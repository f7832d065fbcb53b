use mathlib.Core.Path.{refl, sym, ◌∙◌}
use Rattle.text.specs.declared.Letter.TheVariants.{Deletion}
use Rattle.steps.proofs.Letters.{cited}
use Rattle.steps.proofs.additions.deletion.Goals as goal

pub returns-then-not-all_marked : goal.returns-then-not-all_marked
returns-then-not-all_marked c =
    λ N n ws names bodies z b T K.
    let s = c in
    rw (cited z T Deletion _ s.requires.line refl (sym c.all_marked.ensures ∙ c.if-not-all_marked.true)) refl

pub returns : goal.returns
returns c =
    λ N n ws names bodies z b T K.
    let d = c in
    let k = c in
    let s = c in
    rw (cited z T Deletion _ s.requires.line refl (sym k.all_marked.ensures ∙ k.if-not-all_marked.false))
    (rw s.requires.sorted at (d.delete.ensures b K.keeps), T)
