use mathlib.Core.Path.{subst}
use mathlib.Core.List.{[], ◌∷◌}
use lib.Dec.{ltb}
use lib.IntN.{ℤ}
use mir.Syntax.{w32}
use mir.Val.{to_z, of_z}
use mir.Facts.{to_z-of_z}
use Rattle.words.specs.Limits.{entries}
use Rattle.aspif.specs.Rules.{expand}
use Rattle.splits.specs.Joined.{AddedTo}
use Rattle.splits.proofs.Joining.{added-told}
use Rattle.splits.proofs.texts.added_of.Goals as goal

pub returns : goal.returns
returns c = λ ws H called K high.
    let s = c in
    let x = to_z w32 (of_z w32 s.args.literal) in
    let n = c.body_name-name in
    let k = c.is_constraint in
    subst (λ (y : ℤ). AddedTo (expand ws) (y ∷ []) (record { body = ltb n.result entries; constraint = k.result })) (to_z-of_z s.ranges.literal)
    (added-told (expand ws) (x ∷ []) (called (x ∷ [])) n.result k.result (high (x ∷ [])) (n.ensures ws H called K) (k.ensures ws H))
