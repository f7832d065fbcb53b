use mathlib.Core.Path.{◌≡◌, ap, ap₂, ◌∙◌}
use mathlib.Core.Bool.{Bool, ◌&&◌}
use mathlib.Core.List.{[], ◌∷◌}
use borrow.Author.Rules.{sfits_of}
use lib.IntN.{ℤ, pos}
use lib.ListN.{get_or}
use mir.Syntax.{w32}
use mir.Val.{to_z, of_z}
use mir.Facts.{to_z-of_z}
use Rattle.words.specs.Literals.{complement, same_list}
use Rattle.renaming.proofs.lines.names_added.Goals as goal

pub returns : goal.returns
returns c =
    let s = c in
    let w = c.word_at in
    let k = c.complement_of in
    let first : to_z w32 (of_z w32 w.result) ≡ get_or s.args.numbers.now 0 (pos 0) = to_z-of_z {w = w32} (sfits_of {z = w.result} w.type_inv) ∙ w.ensures in
    let added : to_z w32 (of_z w32 k.result) ≡ complement s.args.x = to_z-of_z {w = w32} (sfits_of {z = k.result} k.type_inv) ∙ (k.ensures ∙ ap complement (to_z-of_z s.ranges.x)) in
    ap₂ (λ (a b : Bool). a && b) c.is_body.ensures
    (c.is_same_list.ensures ∙ ap₂ (λ (a b : ℤ). same_list s.args.numbers.now (a ∷ b ∷ [])) first added)
