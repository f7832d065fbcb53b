use mathlib.Core.Path.{◌≡◌}
use mathlib.Core.Bool.{Bool, true, false}
use Prim.Native.Nat.{ℕ}
use Rattle.std.proofs.Common.{rules}
use Rattle.std.proofs.lemmas.Iterator.{first_from_Range}
use Rattle.marks.specs.Marks.{marked}
use Rattle.answer_set.specs.SetTest.{differs_at}
use Rattle.answer_set.proofs.Marking.{lowest-found}
use Rattle.answer_set.proofs.answers.differing.Goals as goal

pub returns : goal.returns
returns c =
    let a = c.args in
    let f : ℕ → Bool = differs_at (marked a.inside.now) a.marks.now in
    let s = first_from_Range _ _ _ _ (λ i. f i ≡ true) (λ i. f i ≡ false) c.find.ensures.ran (λ i g k. search rules) (λ i g k. search rules) in
    lowest-found f a.n c.find.result c.map.result (λ v w p. search rules) s c.map.ensures.cases
