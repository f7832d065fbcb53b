-- How the executable definitions of specs/SetTest.antt stand to the program reader's definition and to what an answer
-- set is (crates/aspif/specs/AnswerSets.antt), as statements: the answer sets of rules as written are those of `expand` of them.
-- proofs/Answered.antt and proofs/Shown.antt prove those on marks and answers, proofs/Service.antt and proofs/Broken.antt those on what
-- the service answers.
-- Assumes nothing.
use Rattle.std.specs.Prelude.{◌≡◌, ◌↔◌, ◌⊎◌, true, List, ◌∷◌, ◌++◌, ℕ, ◌+◌, ◌<◌, ℤ, length, get_or, Result, Ok}
use Rattle.std.proofs.Math.Option.{some}
use Rattle.words.specs.Lists.{◌∈◌, ascends}
use Rattle.aspif.specs.Rules.{Rule, InputRule, expand_rule, expand, atoms}
use Rattle.aspif.specs.AnswerSets.{Constraint, LeastModel, Met, AnswerSet}
use Rattle.aspif.specs.Tables.{ReadAs, ReadTable, rules_of}
use Rattle.words.specs.Limits.{entries}
use Rattle.marks.specs.Marks.{listed}
use Rattle.answer_set.specs.SetTest.{least, verdict_of, yes, refused, asked, SetTested, passed, set_answer}
use Rattle.answer_set.specs.declared.SetAnswer.{SetAnswer}
use Rattle.answer_set.specs.declared.SetAnswer.TheVariants.{Yes, Differs, Broken}
use Rattle.answer_set.specs.declared.SetFault.{SetFault}
use Rattle.answer_set.specs.declared.SetFault.TheVariants.{Unreadable}

-- question 41 is answered no exactly where there is no program that the reader reads so
abbrev pub TableRefused : Type 0
TableRefused = (table : List ℤ) (rules : ℕ) (l : List ℕ) (marks : ℕ) → (asked table rules l marks ≡ refused Unreadable) ↔ ¬ ReadTable table rules

-- the set of the numbers listed
abbrev pub Listed : List ℕ → ℕ → Type 0
Listed l v = v ∈ l

-- a table that question 41 lets pass, with its rules, and a set that question 42 does
pub record Ready (table : List ℤ) (rules : ℕ) (l : List ℕ) (rs : List InputRule) : Type 0 where
  pub readable : rules_of table rules ≡ some rs
  pub ascending : ascends 0 (atoms rs) l ≡ true

-- "The marks afterwards hold 1 at each atom of the least model and 0 elsewhere"
pub record LeastMarks (l : List ℕ) (rs : List InputRule) (m : List ℕ) : Type 0 where
  pub count : length m ≡ entries
  pub bytes : (v : ℕ) → (get_or m v 0 ≡ 0) ⊎ (get_or m v 0 ≡ 1)
  pub ones : (v : ℕ) → (get_or m v 0 ≡ 1) ↔ LeastModel (Listed l) (expand rs) v

abbrev pub MarksLeast : Type 0
MarksLeast =
    (table : List ℤ) (rules : ℕ) (l : List ℕ) (rs : List InputRule) → Ready table rules l rs → LeastMarks l rs (least (listed l) rs)

-- "M is an answer set when .."
abbrev pub YesAnswerSet : Type 0
YesAnswerSet =
    (table : List ℤ) (rules : ℕ) (l : List ℕ) (rs : List InputRule) → Ready table rules l rs
    → (verdict_of (listed l) rs ≡ yes) ↔ AnswerSet (Listed l) (expand rs)

-- v lies in just one of two sets
abbrev pub JustOne : (ℕ → Type 0) → (ℕ → Type 0) → ℕ → Type 0
JustOne A B v = (A v × ¬ B v) ⊎ (B v × ¬ A v)

-- "The atom shown becomes the lowest that lies in just one of the set and the least model": of a table and a set that pass 41 and 42,
-- the answer is `Differs v` exactly where v lies in just one of the two and every smaller number in both or in neither
abbrev pub LowestShown : Type 0
LowestShown =
    (table : List ℤ) (rules : ℕ) (l : List ℕ) (rs : List InputRule) → Ready table rules l rs → (v : ℕ)
    → (set_answer l (passed rs) ≡ Ok (Differs v))
    ↔ (JustOne (Listed l) (LeastModel (Listed l) (expand rs)) v × ((u : ℕ) → u < v → Listed l u ↔ LeastModel (Listed l) (expand rs) u))

-- the service: its contract holds of the answer yes exactly where questions 41 to 43 are passed and the set is an answer set
abbrev pub ServiceYes : Type 0
ServiceYes =
    (table : List ℤ) (rules : ℕ) (l before after : List ℕ) (r : Result SetAnswer SetFault) → SetTested table rules l before after r
    → (r ≡ Ok Yes)
    ↔ ((rs : List InputRule) × ReadAs table rules rs × (ascends 0 (atoms rs) l ≡ true) × (length before ≡ entries) × AnswerSet (Listed l) (expand rs))

-- one of the plain rules of a rule as written is a constraint that "has its positive atoms all in M and its negated atoms all outside"
abbrev pub Breaks : (ℕ → Type 0) → InputRule → Type 0
Breaks M w = (r : Rule) × (r ∈ expand_rule w) × Constraint r × Met M r

-- k is "the lowest rule number, counted from 1, of a broken constraint"; "Rule numbers .. count the rules as written" (Change 3)
pub record LowestRule (M : ℕ → Type 0) (rs : List InputRule) (k : ℕ) : Type 0 where
  pub before : List InputRule
  pub rule : InputRule
  pub after : List InputRule
  pub are : rs ≡ before ++ (rule ∷ after)
  pub number : k ≡ length before + 1
  pub broken : Breaks M rule
  pub lowest : (w : InputRule) → w ∈ before → ¬ Breaks M w

-- "or, where the two are equal, the lowest rule number, counted from 1, of a broken constraint": its contract holds of the answer
-- `Broken k` exactly where questions 41 to 43 are passed, the set equals the least model, and k is that number
abbrev pub LowestBroken : Type 0
LowestBroken =
    (table : List ℤ) (rules : ℕ) (l before after : List ℕ) (r : Result SetAnswer SetFault) → SetTested table rules l before after r → (k : ℕ)
    → (r ≡ Ok (Broken k))
    ↔ ((rs : List InputRule) × ReadAs table rules rs × (ascends 0 (atoms rs) l ≡ true) × (length before ≡ entries)
    × ((v : ℕ) → Listed l v ↔ LeastModel (Listed l) (expand rs) v) × LowestRule (Listed l) rs k)
