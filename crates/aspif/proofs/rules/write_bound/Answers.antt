use mathlib.Core.Path.{refl}
use mathlib.Core.List.{[], ◌∷◌}
use lib.IntN.{pos}
use Rattle.aspif.specs.Rules.{kind_word}
use mir.Facts.{to_z-of_z}
use Rattle.aspif.proofs.Rows.{bound-written}
use Rattle.aspif.proofs.rules.write_bound.Goals as goal

pub returns : goal.returns
returns c =
    let s = c in
    let counts = kind_word s.args.kind ∷ pos s.args.heads ∷ pos 1 ∷ pos s.args.body ∷ [] in
    bound-written counts s.args.free.now _ _ refl s.requires.sizes.2 c.write_counts.ensures (to_z-of_z s.ranges.bound)
