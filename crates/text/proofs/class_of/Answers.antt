-- `text::class_of` meets its contract: the entry at the byte stands for its class.
-- Assumes nothing.
use mathlib.Core.Path.{ap, ◌∙◌}
use mathlib.Core.List.{List}
use Prim.Native.Nat.{ℕ}
use lib.ListN.{get_or}
use Rattle.text.specs.Classes.{class_at}
use Rattle.text.proofs.Table.{at}
use borrow.Author.Rules.{rules}
use Rattle.text.proofs.class_of.Goals as goal

pub returns : goal.returns
returns c =
    let b = c.args.b in
    c.class_at.ensures ∙ rw c.from.ensures (ap (λ (l : List ℕ). class_at (get_or l b 0)) c.requires ∙ at b (search rules))
