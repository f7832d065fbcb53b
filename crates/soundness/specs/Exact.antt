-- Which texts the reader takes, exactly, in the words of a writer: document 01, 'Program text', with Changes 3 and 6. Which number a text
-- gets that is refused is said by specs/Reading.antt and Numbers.antt of `aspif` alone. proofs/Exact.antt proves the claim.
-- Assumes nothing.
use Rattle.std.specs.Prelude.{◌≡◌, ◌↔◌, List, [], ◌∷◌, ℕ, ◌≤◌, ℤ, pos, length, Result, Ok}
use Rattle.words.specs.Limits.{largest, longest, most_literals, most_rules}
use Rattle.words.specs.Lists.{◌∈◌}
use Rattle.words.specs.Literals.{variable}
use Rattle.weights.specs.Weights.{Weighted, most_weight, most_weighted}
use Rattle.aspif.specs.Rules.{Body, plain, weights, InputRule, literals_of, atoms, program_words}
use Rattle.aspif.specs.Reading.{ProgramRead}
use Rattle.aspif.specs.declared.Kind.{Kind}
use Rattle.aspif.specs.declared.Kind.TheVariants.{Normal, Choice}
use Rattle.aspif.specs.declared.ProgramCounts.{ProgramCounts}
use Rattle.aspif.specs.Text.{program_text}
use Rattle.aspif.specs.declared.ProgramRefusal.{ProgramRefusal}

-- "A normal rule has 0 or 1 heads; .. A choice rule has 1 to 64."
abbrev pub HeadCount : Kind → ℕ → Type 0
HeadCount Normal n = n ≤ 1
HeadCount Choice n = (1 ≤ n) × (n ≤ most_literals)

-- "A body has 0 to 64 literals"; "Bound and weights are 0 to 4,095; at most 12 literals"
abbrev pub BodyCount : Body → Type 0
BodyCount (plain ls) = length ls ≤ most_literals
BodyCount (weights b ps) = (length ps ≤ most_weighted) × (b ≤ most_weight) × ((p : Weighted) → p ∈ ps → p.weight ≤ most_weight)

-- atoms from 1 to the largest variable, none twice
abbrev pub Named : List ℤ → Type 0
Named [] = Unit {0}
Named (x ∷ l) = (1 ≤ variable x) × (variable x ≤ largest) × ((y : ℤ) → y ∈ l → ¬ (variable x ≡ variable y)) × Named l

pub record Good (r : InputRule) : Type 0 where
  pub head_count : HeadCount r.kind (length r.heads)
  pub positive : (h : ℤ) → h ∈ r.heads → h ≡ pos (variable h)
  pub heads : Named r.heads
  pub body_count : BodyCount r.body
  pub body : Named (literals_of r.body)

-- "at most 65,535 bytes", "At most 1,024 rules", and their words fit the table
pub record Within (bytes words : ℕ) (ws : List InputRule) : Type 0 where
  pub bytes-few : bytes ≤ longest
  pub rules-few : length ws ≤ most_rules
  pub words-few : length (program_words ws) ≤ words
  pub good : (w : InputRule) → w ∈ ws → Good w

-- The reader, by the contract of `read_program`: it takes a text exactly where it is the text of a program within the limits, and tells
-- the program's largest atom and how many rules it has
abbrev pub ReadPrinted : Type 0
ReadPrinted =
    (text : List ℕ) (table table' : List ℤ) (r : Result ProgramCounts ProgramRefusal) → ProgramRead text table table' r → (N R : ℕ)
    → (r ≡ Ok (record { atoms = N; rules = R }))
    ↔ ((ws : List InputRule) × (text ≡ program_text ws) × Within (length text) (length table) ws × (N ≡ atoms ws) × (R ≡ length ws))
