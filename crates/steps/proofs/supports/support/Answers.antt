use mathlib.Core.Path.{refl, sym, ◌∙◌}
use Rattle.text.specs.declared.Letter.TheVariants.{Support}
use Rattle.steps.proofs.Kept.{kept_more}
use Rattle.steps.proofs.Letters.{some_number, cited}
use Rattle.steps.proofs.supports.support.Goals as goal

pub returns-then-not-all_marked : goal.returns-then-not-all_marked
returns-then-not-all_marked c =
    λ ws p z b T K.
    let s = c in
    rw (cited z T Support _ s.requires.line refl (sym c.all_marked.ensures ∙ c.if-not-all_marked.true)) refl

pub returns-then-not-is_supported : goal.returns-then-not-is_supported
returns-then-not-is_supported c =
    λ ws p z b T K.
    let k = c in
    let s = c in
    rw (cited z T Support _ s.requires.line refl (sym k.all_marked.ensures ∙ k.if-not-all_marked.false), sym (c.is_supported.ensures ws p s.args.known.now z T) ∙ c.if-not-is_supported.true) refl

pub join-requires : goal.join-requires
join-requires c = let s = c in
    let l = s.requires.line in record { store = s.requires.store; line = (l.literals, some_number Support refl l, l.few) }

pub returns : goal.returns
returns c =
    λ ws p z b T K.
    let m = c in
    let k = c in
    let s = c in
    rw (cited z T Support _ s.requires.line refl (sym k.all_marked.ensures ∙ k.if-not-all_marked.false), sym (m.is_supported.ensures ws p s.args.known.now z T) ∙ m.if-not-is_supported.false)
    (kept_more K s.args.origin _ _ _ _ c.join.result (c.join.ensures b K.keeps), T)
