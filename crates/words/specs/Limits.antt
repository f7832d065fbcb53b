-- The limits of document 01, with the largest variable of Change 6, each written once.
-- Assumes nothing.
use Rattle.std.specs.Prelude.{ℕ, suc, ◌+◌}

-- "A variable is a number from 1 to 4,095", and by Change 6 "The largest variable becomes 8,191"
abbrev pub largest : ℕ
largest = 8191

-- "arrays of 4,096 entries", "4,096 bytes of marks", and by Change 6 "the marks 8,192 bytes": an entry for each variable, and one for 0
abbrev pub entries : ℕ
entries = suc largest

-- "Has the text at most 65,535 bytes?", of the program and of the proof alike
abbrev pub longest : ℕ
longest = 65535

-- what a signed word holds, and so the most bytes of a proof text of the long check: its steps are numbered in words of the store
abbrev pub widest : ℕ
widest = 2147483647

-- what a `usize` holds
abbrev pub largest_size : ℕ
largest_size = 18446744073709551615

-- "At most 1,024 rules."
abbrev pub most_rules : ℕ
most_rules = 1024

-- the most rules that a check is lent: those of a program, and as many more as a service puts behind them. "Questions 1, 9 and 10 are
-- not put to added constraints."
abbrev pub most_held : ℕ
most_held = most_rules + 6

-- "Are both counts .. 0 to 64"
abbrev pub most_literals : ℕ
most_literals = 64

-- "up to 65 nonzero numbers"
abbrev pub most_numbers : ℕ
most_numbers = 65
