-- What `read_line` says of the line at the start of a text. It serves the private functions of the two readers; no reader of a public
-- contract needs it.
-- Assumes nothing.
use Rattle.std.specs.Prelude.{◌≡◌, List, map, ℕ, suc, ◌<◌, ◌≤◌, min, ℤ, pos, negsuc, neg_ℤ, length, Option, Some, None}
use Rattle.std.proofs.lemmas.List.Edits.{sets}
use Rattle.words.specs.Limits.{entries}
use Rattle.text.specs.Line.{Line, broken, numbers, line_of, any_outside, is_closed}
use Rattle.text.specs.declared.LineNumbers.{LineNumbers}

-- A number as a word keeps it: one past the largest variable stands for every larger size, so that no size wraps.
abbrev pub capped : ℤ → ℤ
capped (pos m) = pos (min m entries)
capped (negsuc m) = neg_ℤ (pos (min (suc m) entries))

-- the count, the bytes taken, whether a size is outside and whether the line is closed; the numbers stand in the lent words,
-- as many as fit. `read_line` is no service: where the line is broken its caller refuses, and nothing is said of the lent words.
abbrev pub LineTold : Line → List ℤ → List ℤ → Option LineNumbers → Type 0
LineTold broken before after r = r ≡ None
LineTold (numbers zs n) before after r =
    (r ≡ Some (record { count = length zs; next = n; outside = any_outside zs; closed = is_closed zs })) × (after ≡ sets before 0 (map capped zs))

-- a line takes a byte at least, within the text, and more bytes than numbers
abbrev pub LineBounds : ℕ → Option LineNumbers → Type 0
LineBounds n (Some x) = (0 < x.next) × (x.next ≤ n) × (x.count < x.next)
LineBounds n None = Unit {0}

pub record LineScanned (s : List ℕ) (before after : List ℤ) (r : Option LineNumbers) : Type 0 where
  pub told : LineTold (line_of s) before after r
  pub kept : length after ≡ length before
  pub within : LineBounds (length s) r
