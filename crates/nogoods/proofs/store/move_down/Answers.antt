-- Where both places are one nothing moves.
use mathlib.Core.Path.{refl}
use lib.Seq.{take-add}
use Rattle.nogoods.proofs.Closing.{copied}
use Rattle.nogoods.proofs.store.move_down.Goals as goal

pub returns-then-to-from : goal.returns-then-to-from
returns-then-to-from c =
    let a = c.args in
    rw c.copy_within.ensures.after (copied a.to a.from a.n a.words.now c.requires.0 c.requires.1)

pub returns-else-to-from : goal.returns-else-to-from
returns-else-to-from c =
    let a = c.args in
    record { front = rw c.if-to-from.false (take-add a.from a.n a.words.now); back = refl; size = refl }
