-- What is claimed of the split; Split.antt, Levels.antt, Sorted.antt and Formed.antt of proofs/ prove it.
-- Assumes nothing.
use Rattle.std.specs.Prelude.{◌≡◌, ◌↔◌, true, List, ◌∷◌, ◌++◌, ℕ, ◌+◌, ◌≤◌, ◌<◌, length}
use Rattle.words.specs.Lists.{◌∈◌}
use Rattle.words.specs.Limits.{largest, most_literals, most_rules}
use Rattle.words.specs.Literals.{rising}
use Rattle.weights.specs.Weights.{Weighted, sum, literals, most_weighted}
use Rattle.weights.specs.Claims.{◌⊑◌, Reorder}
use Rattle.aspif.specs.Rules.{InputRule, weights, expand, atoms, program_words}
use Rattle.aspif.specs.Text.{program_text}
use Rattle.aspif.specs.Reading.{read_lines}
use Rattle.aspif.specs.Reading as Reading
use Rattle.aspif.specs.Claims.{FormedWithin}
use Rattle.aspif.specs.AnswerSets.{AnswerSet}
use Rattle.drupe.specs.Texts.{Step}
use Rattle.derivation.specs.States.{State, start}
use Rattle.derivation.specs.Steps.{next, steps, empty_live}
use Rattle.derivation.specs.Claims.{NoneAsWritten}
use Rattle.sums.specs.Plans.{Plan, group, joined, pairs_of, levels_of, root, Item, whole, divided, all_needs, program, split, all_definitions}
use Rattle.sums.specs.Levels.{SumShape, few, both, pairs_in, levelled, is_short, planned, split_program, in_groups, sorted_groups}
use Rattle.sums.specs.Extension.{UpTo, Extended}

-- a level of the left side that a reaches and one of the right side that b reaches, enough together
abbrev pub ReachedByLevels : (t : ℕ) (lefts rights : List ℕ) (a b : ℕ) → Type 0
ReachedByLevels t lefts rights a b = (i : ℕ) × (i ∈ 0 ∷ lefts) × (i ≤ a) × ((j : ℕ) × (j ∈ 0 ∷ rights) × (j ≤ b) × (t ≤ i + j))

-- The two sides of every node have levels enough: whatever literals are true, a level of the node that is reached is reached by levels
-- of the two sides.
abbrev pub EnoughLevels : Plan → Type 0
EnoughLevels (group ts l) = Unit {0}
EnoughLevels (joined ts p q) =
    EnoughLevels p × EnoughLevels q
    × ((t : ℕ) → t ∈ ts → (s u : List Weighted) → s ⊑ pairs_of p → u ⊑ pairs_of q → t ≤ sum s + sum u
    → ReachedByLevels t (levels_of p) (levels_of q) (sum s) (sum u))

-- an item's plan has the literals of its sum, in any order, and levels enough
abbrev pub WellPlanned : Item → Type 0
WellPlanned (whole r) = Unit {0}
WellPlanned (divided k hs b l p q) = Reorder l (pairs_of p ++ pairs_of q) × EnoughLevels (root b p q)

-- an answer set, with the new atoms that it makes true, is one of the program split
abbrev pub SplitKeeps : Type 1
SplitKeeps =
    (is : List Item) → ((i : Item) → i ∈ is → WellPlanned i) → (M : ℕ → Type 0) → AnswerSet M (expand (program is))
    → AnswerSet (Extended (atoms (program is)) (all_definitions is) M M) (expand (split is))

-- an answer set of the program split, without the new atoms, is one of the program
abbrev pub SplitConserves : Type 1
SplitConserves =
    (is : List Item) → ((i : Item) → i ∈ is → WellPlanned i) → (K : ℕ → Type 0) → AnswerSet K (expand (split is))
    → AnswerSet (UpTo (atoms (program is)) K) (expand (program is))

-- and there is no other with those old atoms
abbrev pub SplitDetermines : Type 1
SplitDetermines =
    (is : List Item) → ((i : Item) → i ∈ is → WellPlanned i) → (K : ℕ → Type 0) → AnswerSet K (expand (split is))
    → (a : ℕ) → K a ↔ Extended (atoms (program is)) (all_definitions is) (UpTo (atoms (program is)) K) (UpTo (atoms (program is)) K) a

-- so a refutation of the program split is one of the program as written
abbrev pub SplitSound : Type 1
SplitSound = (is : List Item) → ((i : Item) → i ∈ is → WellPlanned i) → NoneAsWritten (split is) → NoneAsWritten (program is)

-- Whole programs

-- the levels of Levels.antt are enough
abbrev pub LevelledEnough : Type 0
LevelledEnough = (b : ℕ) (rest : List Weighted) (s : SumShape) → EnoughLevels (levelled b rest s)

-- shapes of the literals, in any order
abbrev pub Shaping : (List Weighted → SumShape) → Type 0
Shaping shape = (l : List Weighted) → Reorder l (pairs_in (shape l))

abbrev pub InGroups : Type 0
InGroups = (k : ℕ) → Shaping (in_groups k)

abbrev pub SortedGroups : Type 0
SortedGroups = (k : ℕ) → Shaping (sorted_groups k)

-- the items are the program
abbrev pub PlannedIs : Type 0
PlannedIs = (shape : List Weighted → SumShape) → Shaping shape → (ws : List InputRule) → program (planned shape ws) ≡ ws

-- a program without long sums is left as it is
abbrev pub ShortKept : Type 0
ShortKept =
    (shape : List Weighted → SumShape) (ws : List InputRule)
    → ((r : InputRule) → r ∈ ws → (b : ℕ) (l : List Weighted) → r.body ≡ weights b l → is_short l ≡ true) → split_program shape ws ≡ ws

-- whatever the shapes, a refutation of the program split is one of the program
abbrev pub ProgramSound : Type 1
ProgramSound =
    (shape : List Weighted → SumShape) → Shaping shape → (ws : List InputRule) → NoneAsWritten (split_program shape ws) → NoneAsWritten ws

-- and the answer sets go over into one another, one for one: each extends to one of the split program,
abbrev pub ProgramKeeps : Type 1
ProgramKeeps =
    (shape : List Weighted → SumShape) → Shaping shape → (ws : List InputRule) → (M : ℕ → Type 0)
    → AnswerSet M (expand ws) → AnswerSet (Extended (atoms ws) (all_definitions (planned shape ws)) M M) (expand (split_program shape ws))

-- with the same old atoms,
abbrev pub ProgramAgrees : Type 1
ProgramAgrees =
    (shape : List Weighted → SumShape) → Shaping shape → (ws : List InputRule) → (M : ℕ → Type 0)
    → AnswerSet M (expand ws) → (a : ℕ) → M a ↔ UpTo (atoms ws) (Extended (atoms ws) (all_definitions (planned shape ws)) M M) a

-- of each of those the old atoms are one of the program,
abbrev pub ProgramConserves : Type 1
ProgramConserves =
    (shape : List Weighted → SumShape) → Shaping shape → (ws : List InputRule) → (K : ℕ → Type 0)
    → AnswerSet K (expand (split_program shape ws)) → AnswerSet (UpTo (atoms ws) K) (expand ws)

-- and no other answer set of the split program has the same old atoms
abbrev pub ProgramDetermines : Type 1
ProgramDetermines =
    (shape : List Weighted → SumShape) → Shaping shape → (ws : List InputRule) → (K : ℕ → Type 0) → AnswerSet K (expand (split_program shape ws))
    → (a : ℕ) → K a ↔ Extended (atoms ws) (all_definitions (planned shape ws)) (UpTo (atoms ws) K) (UpTo (atoms ws) K) a

-- a proof from the split program's plain rules is a refutation of the program as written
abbrev pub ProofOfSplit : Type 1
ProofOfSplit =
    (shape : List Weighted → SumShape) → Shaping shape → (ws : List InputRule) (ts : List Step) (z : State)
    → steps (atoms (split_program shape ws)) (expand (split_program shape ws)) start ts ≡ next z → empty_live z ≡ true → NoneAsWritten ws

-- What is split is read

-- every level of a node is above 0 and at most the bound of the sum, so within 4,095 where the bound is
abbrev pub LevelsWithin : Type 0
LevelsWithin = (b : ℕ) (rest : List Weighted) (s : SumShape) (t : ℕ) → t ∈ levels_of (levelled b rest s) → (0 < t) × (t ≤ b)

-- groups of at most 12 literals that ascend by atom
abbrev pub Grouped : SumShape → Type 0
Grouped (few l) = (length l ≤ most_weighted) × (rising (literals l) ≡ true)
Grouped (both s t) = Grouped s × Grouped t

abbrev pub SortedGrouped : Type 0
SortedGrouped = (k : ℕ) → k < most_weighted → (l : List Weighted) → rising (literals l) ≡ true → Grouped (sorted_groups k l)

-- where the rules pass with sums of any length up to the 64 literals of a body, those of the split program pass with at most 12, unless an atom
-- is too large
abbrev pub SplitFormed : Type 0
SplitFormed =
    (shape : List Weighted → SumShape) → Shaping shape → ((l : List Weighted) → rising (literals l) ≡ true → Grouped (shape l))
    → (ws : List InputRule) → ((r : InputRule) → r ∈ ws → FormedWithin most_literals r)
    → atoms (split_program shape ws) ≤ largest → (r : InputRule) → r ∈ split_program shape ws → FormedWithin most_weighted r

-- the largest atom: as many new ones as the plans have levels stand above those of the program
abbrev pub ProgramAtoms : Type 0
ProgramAtoms =
    (shape : List Weighted → SumShape) → Shaping shape → (ws : List InputRule) → atoms (split_program shape ws) ≡ atoms ws + all_needs (planned shape ws)

-- so the reader takes the text of the split program and reads just that program, where it has not too many atoms, rules and words: nothing is
-- claimed of how many it has. Question 1, of the length of the text, is not put by `read_lines`.
abbrev pub SplitRead : Type 0
SplitRead =
    (k : ℕ) → k < most_weighted → (ws : List InputRule) → ((r : InputRule) → r ∈ ws → FormedWithin most_literals r) → (size : ℕ)
    → atoms (split_program (sorted_groups k) ws) ≤ largest → length (split_program (sorted_groups k) ws) ≤ most_rules
    → length (program_words (split_program (sorted_groups k) ws)) ≤ size
    → read_lines size (program_text (split_program (sorted_groups k) ws)) ≡ Reading.program (split_program (sorted_groups k) ws)
