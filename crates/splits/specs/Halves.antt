-- What the private functions that check the halves leave. No reader of a public contract needs it.
-- Assumes nothing.
use Rattle.std.specs.Prelude.{◌≡◌, Bool, true, List, [], ◌∷◌, ℕ, ◌+◌, ◌≤◌, ℤ, pos, neg_ℤ}
use Rattle.words.specs.Limits.{largest, longest}
use Rattle.aspif.specs.Rules.{InputRule, expand}
use Rattle.marks.specs.Marks.{marked}
use Rattle.derivation.specs.States.{State, is_known}
use Rattle.nogoods.specs.Store.{Stored}
use Rattle.runs.specs.Course.{through, course, ends_empty}
use Rattle.steps.specs.Held.{Tracks}
use Rattle.runs.specs.Held.{Ended}
use Rattle.merging.specs.Claims.{demanding_as_written}
use Rattle.splits.specs.Service.{are_halves}

-- room for a program's words and six constraints behind them: a program has no more words than its text has bytes
abbrev pub most_words : ℕ
most_words = longest + 30

-- the words of a constraint with just the literal in its body: normal, no head, a plain body of one literal
abbrev pub demand_words : ℤ → List ℤ
demand_words literal = pos 0 ∷ pos 0 ∷ pos 0 ∷ pos 1 ∷ literal ∷ []

-- The check of one text for the rules ws with the atoms 1 to N: whether it is accepted. Where all steps
-- pass, the arrays hold the state at its end.
pub record HalfChecked (N : ℕ) (ws : List InputRule) (size : ℕ) (text known names : List ℕ) (bodies : List ℤ) (r : Bool) : Type 0 where
  pub answer : r ≡ ends_empty (course N (expand ws) size text)
  pub ended : Ended N ws known names bodies (course N (expand ws) size text)

-- the steps of a text all pass, and leave a state
pub record LeftBy (N : ℕ) (ws : List InputRule) (size : ℕ) (text : List ℕ) : Type 0 where
  pub done : ℕ
  pub state : State
  pub stored : List Stored
  pub is : course N (expand ws) size text ≡ through done state stored

-- what stays of halves that are accepted: what is known at the end of each, and the first half's names of bodies
pub record HalvesLeft (N size : ℕ) (ws : List InputRule) (v : ℕ) (first second known₁ known₂ names : List ℕ) (bodies : List ℤ) : Type 0 where
  pub one : LeftBy N (demanding_as_written ws (pos v)) size first
  pub two : LeftBy N (demanding_as_written ws (neg_ℤ (pos v))) size second
  pub tracks : Tracks N (demanding_as_written ws (pos v)) known₁ names bodies one.state.introduced one.state.named
  pub knows : (u : ℕ) → u ≤ largest → marked known₂ u ≡ is_known N two.state u

-- the contract of `accept_halves`, for the program in the table
pub record HalvesChecked (N size : ℕ) (ws : List InputRule) (v : ℕ) (first second known₁ known₂ names : List ℕ) (bodies : List ℤ) (r : Bool) : Type 0 where
  pub answer : r ≡ are_halves size ws v first second
  pub left : r ≡ true → HalvesLeft N size ws v first second known₁ known₂ names bodies
