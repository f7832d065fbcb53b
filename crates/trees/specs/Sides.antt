-- What the private functions that merge the sides of a split leave. No reader of a public contract needs it.
-- Assumes nothing.
use Rattle.std.specs.Prelude.{◌≡◌, cond, List, ◌++◌, ℕ, ◌+◌, ◌*◌, ◌-◌, ◌≤◌, ◌<◌, ℤ, pos, length, replicate, take, drop, get_or, Result, Ok, Err}
use Rattle.words.specs.Limits.{longest, most_held, largest_size}
use Rattle.aspif.specs.Rules.{InputRule, program_words}
use Rattle.steps.specs.Held.{Program}
use Rattle.runs.specs.Course.{is_accepted}
use Rattle.splits.specs.Halves.{most_words}
use Rattle.shapes.specs.Tree.{Shape, found, tree_of, leaves, sum, ends}
use Rattle.trees.specs.Service.{Side, fails, gives, onward, merge_outcome, tree_outcome}
use Rattle.trees.specs.declared.sides.Place.{Place}
use Rattle.trees.specs.declared.sides.Pending.{Pending}
use Rattle.splits.specs.declared.MergeFault.TheVariants.{NotAccepted, StoreFull}
use Rattle.splits.specs.declared.MergeFault.{MergeFault}

-- The table

-- a table's first words, and 0 after them
abbrev pub cleared : (used : ℕ) → List ℤ → List ℤ
cleared used table = take used table ++ replicate (length table - used) (pos 0)

-- the table's first `used` words hold the program with the constraints so far, whatever stands behind them, with room for one more
-- constraint for each split that is left
pub record Standing (depth : ℕ) (p : Place) (table : List ℤ) (ws : List InputRule) : Type 0 where
  pub program : Program (cleared p.used table) p.rules p.atoms ws
  pub used : p.used ≡ length (program_words ws)
  pub rules : p.rules + depth ≤ most_held
  pub room : p.used + 5 * depth ≤ most_words
  pub size : length table ≡ most_words

-- the place of a split's sides, which have one constraint more and one split less below them
abbrev pub place_below : Place → Place
place_below p = record { depth = p.depth - 1; used = p.used + 5; rules = p.rules + 1; atoms = p.atoms; limit = p.limit }

-- The numbers, the texts and the lengths

-- the numbers begin with the tree t, the rest follow it, and the lengths are enough for its ends
pub record Subtree (depth N : ℕ) (tree texts lengths : List ℕ) (t : Shape) (rest : List ℕ) : Type 0 where
  pub path : List ℕ
  pub parsed : tree_of depth path N tree ≡ found t rest
  pub enough : leaves t ≤ length lengths
  pub added : sum lengths ≡ length texts

-- what was taken of the numbers, the texts and the lengths, for a tree: the rest are the numbers after it and the ends after its own
pub record Takes (t : Shape) (rest tree texts lengths : List ℕ) (k : Pending) : Type 0 where
  pub numbers : rest ≡ drop k.numbers tree
  pub counted : k.ends ≡ leaves t
  pub later : ends (drop k.bytes texts) (drop k.ends lengths) ≡ drop (leaves t) (ends texts lengths)
  pub added : sum (drop k.ends lengths) ≡ length (drop k.bytes texts)
  pub within : (k.numbers ≤ length tree) × (k.bytes ≤ length texts)

-- what two sides take can be counted
pub record Countable (a b : Pending) : Type 0 where
  pub numbers : 1 + a.numbers + b.numbers ≤ largest_size
  pub bytes : a.bytes + b.bytes ≤ largest_size
  pub ends : a.ends + b.ends ≤ largest_size

-- a merged text of n bytes, with what both sides of its split take and the question that it may fail
abbrev pub both_taken : (n : ℕ) → (a b : Pending) → Pending
both_taken n a b =
    record { size = n; refusal = StoreFull; numbers = 1 + a.numbers + b.numbers; bytes = a.bytes + b.bytes; ends = a.ends + b.ends }

-- The sides

-- a text that is still to be checked, and the question that it fails if it is not accepted: with a store of s words, for
-- the program ws
abbrev pub pending : (s : ℕ) → List InputRule → (text : List ℕ) → (fault : MergeFault) → Side
pending s ws text k = cond (is_accepted s ws text) (gives text) (fails k)

-- the two sides of a split and their merge: "the demanding side before the other"
abbrev pub joined_sides : (s o : ℕ) → List InputRule → (atom : ℕ) → (one two : Side) → Side
joined_sides s o ws v one two = onward one (λ first. onward two (λ second. merge_outcome s o ws v first second))

-- what a side comes to: a text that is still to be checked, or the question that is failed
abbrev pub Sided : Type 0
Sided = Result Pending MergeFault

-- the same of a program, with the text at the front of a buffer
abbrev pub side_of : (s : ℕ) → List InputRule → (output : List ℕ) → Sided → Side
side_of s ws output (Ok p) = pending s ws (take p.size output) p.refusal
side_of s ws output (Err k) = fails k

-- an end: its text at the front of a buffer, or it is too long
abbrev pub EndTaken : (texts lengths output : List ℕ) → Sided → Type 0
EndTaken texts lengths output (Ok p) =
    (p ≡ record { size = get_or lengths 0 0; refusal = NotAccepted; numbers = 1; bytes = get_or lengths 0 0; ends = 1 })
    × (get_or lengths 0 0 ≤ longest) × (take (get_or lengths 0 0) output ≡ take (get_or lengths 0 0) texts)
EndTaken texts lengths output (Err k) = (k ≡ NotAccepted) × (longest < get_or lengths 0 0)

-- two texts that are merged: what the merged text takes
abbrev pub Adds : (one two : Pending) → Sided → Type 0
Adds one two (Ok p) = (p.size ≤ longest) × (p ≡ both_taken p.size one two)
Adds one two (Err k) = Unit {0}

-- the same where the other side may be refused
abbrev pub AddsTo : (one : Pending) → (other : Sided) → Sided → Type 0
AddsTo one (Ok two) r = Adds one two r
AddsTo one (Err k) (Ok p) = ⊥
AddsTo one (Err k) (Err j) = Unit {0}

-- the texts of two sides stand in their buffers, and what they take can be counted
abbrev pub Joinable : (one : Pending) → (other : Sided) → (first second : List ℕ) → Type 0
Joinable one (Ok two) first second = (one.size ≤ length first) × (two.size ≤ length second) × Countable one two
Joinable one (Err k) first second = one.size ≤ length first

-- what a side takes for a tree, where it is a text
abbrev pub Took : Shape → (rest tree texts lengths : List ℕ) → Sided → Type 0
Took t rest tree texts lengths (Ok p) = (p.size ≤ longest) × Takes t rest tree texts lengths p
Took t rest tree texts lengths (Err k) = Unit {0}

-- the side of a tree at the front of the numbers
pub record Merged (s o : ℕ) (ws : List InputRule) (t : Shape) (rest tree texts lengths output : List ℕ) (r : Sided) : Type 0 where
  pub outcome : tree_outcome s o ws t (ends texts lengths) ≡ side_of s ws output r
  pub took : Took t rest tree texts lengths r
