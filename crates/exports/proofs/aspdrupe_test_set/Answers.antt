-- `exports::aspdrupe_test_set` meets its contract: the answer that is told is the set test's.
-- Assumes nothing.
use mathlib.Core.List.{List}
use Prim.Native.Nat.{ℕ}
use lib.IntN.{ℤ}
use Rattle.std.specs.Prelude.{Result}
use Rattle.answer_set.specs.SetTest.{SetTested}
use Rattle.answer_set.specs.declared.SetAnswer.{SetAnswer}
use Rattle.answer_set.specs.declared.SetFault.{SetFault}
use Rattle.exports.specs.Codes.{Told, set_code, set_numbers}
use Rattle.exports.specs.Services.{SetService}
use borrow.Author.Rules.{rules}
use Rattle.exports.proofs.aspdrupe_test_set.Goals as goal

set_told : {table : List ℤ} {rules : ℕ} {set marks marks' answer answer' : List ℕ} {r : Result SetAnswer SetFault} {result : ℕ}
    → SetTested table rules set marks marks' r → Told (set_code r) (set_numbers r) answer answer' result
    → SetService table rules set marks marks' answer answer' result
set_told tested told = record { left = tested.marks; told = rw tested.answer at told }

pub returns : goal.returns
returns c = set_told c.test_set-tested.ensures c.tell_set.ensures
