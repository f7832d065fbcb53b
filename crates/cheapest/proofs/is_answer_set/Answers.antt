use mathlib.Core.Path.{◌∙◌, ap}
use Prim.Native.Nat.{ℕ}
use lib.ListN.{length-replicate}
use Rattle.words.specs.Limits.{entries}
use Rattle.cheapest.specs.Private.{said_yes}
use Rattle.cheapest.proofs.Answers.{set_tested}
use Rattle.cheapest.proofs.is_answer_set.Goals as goal

pub returns : goal.returns
returns c = λ ws e u.
    let a = c.args in
    c.said_yes.ensures ∙ ap said_yes c.test_set-answer.ensures.answer ∙ set_tested a.table.now a.rules a.set.now ws _ (length-replicate {A = ℕ} entries 0) e u
