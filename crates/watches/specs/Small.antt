-- What the functions of src/ promise, and those of crate `search`: small numbers. No reader of a public contract needs it.
-- Assumes nothing.
use Rattle.std.specs.Prelude.{ℕ, ◌≤◌, Result, Ok, Err}
use Rattle.words.specs.Limits.{entries}
use Rattle.watches.specs.declared.turns.Turn.{Turn}
use Rattle.watches.specs.declared.turns.Turn.TheVariants.{Stays, Moves, Goes, Gives, Violated}
use Rattle.watches.specs.declared.turns.Clash.{Clash}

-- the largest number that a cell holds
abbrev pub largest_cell : ℕ
largest_cell = 4294967295

-- the largest code of a literal, and the most watches of a piece
abbrev pub last_code : ℕ
last_code = 16383

abbrev pub most_watches : ℕ
most_watches = 63

-- so far, and no further, does a nogood end in the store, a piece begin among the cells, and a watch stand there
abbrev pub far_word : ℕ
far_word = 10000000000

abbrev pub far_piece : ℕ
far_piece = 2000000000000

abbrev pub far_watch : ℕ
far_watch = 2000000000200

abbrev pub SmallTurn : Turn → Type 0
SmallTurn Stays = Unit
SmallTurn (Moves c d) = c ≤ largest_cell
SmallTurn Goes = Unit
SmallTurn (Gives c) = c ≤ largest_cell
SmallTurn Violated = Unit

abbrev pub SmallVisit : Result ℕ Clash → Type 0
SmallVisit (Ok n) = n ≤ entries
SmallVisit (Err clash) = (clash.place ≤ largest_cell) × (clash.count ≤ entries)
