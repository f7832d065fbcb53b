use mathlib.Core.Path.{◌≡◌, sym, ap, ◌∙◌}
use mathlib.Core.List.{map}
use Prim.Native.Nat.{◌+◌}
use native.Mathlib.Omega.{arith}
use mir.Syntax.{w32}
use mir.Val.{to_z, of_z}
use lib.IntN.{pos}
use lib.ListN.{get_or, length-map, get_or-map}
use Rattle.std.proofs.Common.{rules}
use Rattle.words.proofs.Laws.{copy_more, still}
use Rattle.words.proofs.Words.{back}
use Rattle.merging.specs.Merge.{renamed}
use Rattle.renaming.proofs.lines.rename.Goals as goal

pub loop-n-preserved : goal.loop-n-preserved
loop-n-preserved c =
    let l = c.loop-n in
    let s = c.args.numbers.now in
    let f = renamed (λ v. get_or c.args.new.now v 0) in
    let z : l.n-index + 0 ≡ l.n-index = omega arith in
    let read : get_or l.n-items l.n-index (pos 0) ≡ get_or s l.n-index (pos 0) =
    ap (λ t. get_or t l.n-index (pos 0)) l.invariant ∙ rw z at (still (pos 0) l.n-index 0 (map f s) s (omega (arith, length-map s f))) in
    let value : to_z w32 (of_z w32 c.rename_word.result) ≡ get_or (map f s) l.n-index (f (pos 0)) =
    search rules ∙ c.rename_word.ensures ∙ ap f (back (get_or l.n-items l.n-index (pos 0)) (search rules) ∙ read) ∙ sym (get_or-map f s l.n-index (pos 0)) in
    rw (value, l.invariant) (copy_more (map f s) s l.n-index (f (pos 0)) (omega (arith, length-map s f)) (omega arith))
