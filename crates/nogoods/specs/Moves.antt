-- What the functions that close up the store leave. It serves private functions; no reader of a public contract needs it.
-- Assumes nothing.
use Rattle.std.specs.Prelude.{◌≡◌, true, false, List, ◌++◌, ℕ, ◌+◌, ℤ, length, take, drop}
use Rattle.nogoods.specs.Store.{header_size}
use Rattle.nogoods.specs.Records.{dead_at, count_at}

-- n words from `from` on were moved down to `to`: what stood before stays, and so does what stood after them
pub record MovedDown (to from n : ℕ) (before after : List ℤ) : Type 0 where
  pub front : take (to + n) after ≡ take to before ++ take n (drop from before)
  pub back : drop (from + n) after ≡ drop (from + n) before
  pub size : length after ≡ length before

-- the record at `from` was moved down to `to`, unless it is dead
pub record Keeping (to from : ℕ) (before after : List ℤ) (end : ℕ) : Type 0 where
  pub dead : dead_at before from ≡ true → (end ≡ to) × (after ≡ before)
  pub alive : dead_at before from ≡ false
      → (end ≡ to + (header_size + count_at before from)) × MovedDown to from (header_size + count_at before from) before after
