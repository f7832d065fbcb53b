-- The contract of `test_set` from what its calls tell.
-- Assumes nothing.
use mathlib.Core.Path.{◌≡◌, refl, ap}
use mathlib.Core.Bool.{Bool, true, false}
use mathlib.Core.List.{List}
use Prim.Native.Nat.{ℕ, ◌+◌}
use borrow.Author.Tests.{eq-eqb, ne_eqb}
use lib.IntN.{ℤ}
use lib.ListN.{length, replicate}
use Rattle.std.specs.Prelude.{Result, Ok, Err}
use Rattle.words.specs.Limits.{entries}
use Rattle.words.specs.Lists.{ascends}
use Rattle.aspif.specs.Rules.{InputRule, atoms}
use Rattle.aspif.specs.Tables.{rules_at, sound_table}
use Rattle.marks.specs.Marks.{listed}
use Rattle.answer_set.specs.SetTest.{least, lowest_from, broken_from, differs_at, verdict_of, Asked, refused, passed, asked, said_of, set_answer, marks_of, SetTested, shown}
use Rattle.answer_set.specs.declared.SetAnswer.{SetAnswer}
use Rattle.answer_set.specs.declared.SetFault.{SetFault}
use Rattle.answer_set.specs.declared.SetFault.TheVariants.{Unreadable, NotAscending, WrongMarks}

-- The contract

module _ (table : List ℤ) (rules : ℕ) (l before after : List ℕ) where
  abbrev rs : List InputRule
  rs = rules_at rules table

  -- by what is asked
  settle : (q : Asked) (r : Result SetAnswer SetFault) → asked table rules l (length before) ≡ q → r ≡ set_answer l q → after ≡ marks_of l q (length before)
      → SetTested table rules l before after r
  settle q r e a m = record { answer = rw e a; marks = rw e m }

  module _ (z : after ≡ replicate (length before) 0) where
    pub refused-41 : sound_table table rules ≡ false → SetTested table rules l before after (Err Unreadable)
    unfolding asked
    refused-41 s = settle (refused Unreadable) (Err Unreadable) (rw s) refl z

    pub refused-42 : sound_table table rules ≡ true → ascends 0 (atoms rs) l ≡ false → SetTested table rules l before after (Err NotAscending)
    unfolding asked
    refused-42 s a = settle (refused NotAscending) (Err NotAscending) (rw (s, a)) refl z

    pub refused-43 : sound_table table rules ≡ true → ascends 0 (atoms rs) l ≡ true → (length before ≡ entries → ⊥) → SetTested table rules l before after (Err WrongMarks)
    unfolding asked
    refused-43 s a n = settle (refused WrongMarks) (Err WrongMarks) (rw (s, a, ne_eqb (length before) entries n)) refl z

  pub tested : sound_table table rules ≡ true → ascends 0 (atoms rs) l ≡ true → length before ≡ entries
      → {M : ℕ → Bool} {N : ℕ} {r : SetAnswer} → M ≡ listed l → N ≡ atoms rs → after ≡ least M rs
      → r ≡ said_of (shown (lowest_from (differs_at M after) (N + 1) 0) (broken_from M 1 rs))
      → SetTested table rules l before after (Ok r)
  unfolding asked verdict_of
  tested s a n {r} e i m t =
      let k : after ≡ least (listed l) rs = rw e at m in
      settle (passed rs) (Ok r) (rw (s, a, eq-eqb (length before) entries n)) (ap Ok (rw (e, i, k) at t)) k
