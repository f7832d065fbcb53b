-- The set test: document 01, 'Answer sets' and questions 41 to 43, in the paper's order, over rules as written. What is executable
-- here is what the code is held to; specs/Claims.antt says how it stands to the reader's own definition and to
-- crates/aspif/specs/AnswerSets.antt.
-- Assumes nothing.
use Rattle.std.specs.Prelude.{◌≡◌, Bool, true, false, cond, not, ◌&&◌, List, [], ◌∷◌, ℕ, zero, suc, ◌+◌, eqb, leb, ℤ, pos, negsuc, length, set, replicate, Result, Ok, Err}
use Rattle.std.proofs.Math.Option.{Option, none, some}
use Rattle.words.specs.Limits.{entries}
use Rattle.words.specs.Lists.{all, filter, ascends}
use Rattle.words.specs.Literals.{variable}
use Rattle.weights.specs.Weights.{Weighted, sum}
use Rattle.aspif.specs.Rules.{Body, plain, weights, InputRule, is_normal, is_empty, atoms}
use Rattle.aspif.specs.declared.Kind.{Kind}
use Rattle.aspif.specs.declared.Kind.TheVariants.{Normal, Choice}
use Rattle.answer_set.specs.declared.SetAnswer.{SetAnswer}
use Rattle.answer_set.specs.declared.SetAnswer.TheVariants.{Yes, Differs, Broken}
use Rattle.answer_set.specs.declared.SetFault.{SetFault}
use Rattle.answer_set.specs.declared.SetFault.TheVariants.{Unreadable, NotAscending, WrongMarks}
use Rattle.marks.specs.Marks.{listed, marked}
use Rattle.aspif.specs.Tables.{rules_of}

-- The least model and the constraints, for a set M

-- "A normal rule has 0 or 1 heads; with 0 it is a constraint"
abbrev pub is_constraint : InputRule → Bool
is_constraint r = is_normal r.kind && is_empty r.heads

module _ (M : ℕ → Bool) where
  -- a positive literal's atom is in S; a negated one's is outside M, as the reduct has it
  abbrev pub literal_holds : (ℕ → Bool) → ℤ → Bool
  literal_holds S (pos a) = S a
  literal_holds S (negsuc n) = not (M (suc n))

  -- what the weights of the literals that hold add up to
  abbrev pub held_sum : (ℕ → Bool) → List Weighted → ℕ
  held_sum S l = sum (filter (λ x. literal_holds S x.literal) l)

  -- every literal holds, or the weights of those that hold add up to the bound or more: no subset is formed
  abbrev pub body_holds : (ℕ → Bool) → Body → Bool
  body_holds S (plain ls) = all (literal_holds S) ls
  body_holds S (weights b l) = leb b (held_sum S l)

  -- "A normal rule gives its head .. a choice rule does so for each head that is in M"
  abbrev pub gives : Kind → ℕ → Bool
  gives Normal h = true
  gives Choice h = M h

  -- a head that is given is marked
  unfoldable pub give_head : Kind → ℤ → List ℕ → List ℕ
  give_head k h m = cond (gives k (variable h)) (set m (variable h) 1) m

  abbrev pub give_heads : Kind → List ℤ → List ℕ → List ℕ
  give_heads k [] m = m
  give_heads k (h ∷ hs) m = give_heads k hs (give_head k h m)

  -- a rule marks the heads that it gives, once its positive atoms are marked; "constraints give nothing", having no head
  unfoldable pub give_rule : InputRule → List ℕ → List ℕ
  give_rule r m = cond (body_holds (marked m) r.body) (give_heads r.kind r.heads m) m

  -- one round over the rules
  abbrev pub round : List InputRule → List ℕ → List ℕ
  round [] m = m
  round (r ∷ rs) m = round rs (give_rule r m)

  abbrev pub rounds : ℕ → List InputRule → List ℕ → List ℕ
  rounds zero rs m = m
  rounds (suc n) rs m = rounds n rs (round rs m)

  -- the marks of the least model of the reduct: each round but the last marks an atom more, so that N rounds are enough
  unfoldable pub least : List InputRule → List ℕ
  least rs = rounds (atoms rs) rs (replicate entries 0)

  -- a constraint that "has its positive atoms all in M and its negated atoms all outside", with a weight body in one of its plain rules
  abbrev pub is_broken : InputRule → Bool
  is_broken r = is_constraint r && body_holds M r.body

-- The answer

-- the lowest of the n numbers from v on that passes
abbrev pub lowest_from : (ℕ → Bool) → (n v : ℕ) → Option ℕ
lowest_from f zero v = none
lowest_from f (suc n) v = cond (f v) (some v) (lowest_from f n (v + 1))

-- one of the two holds
abbrev pub just_one : Bool → Bool → Bool
just_one true b = not b
just_one false b = b

-- "yes; or no with" "the lowest" atom "that lies in just one of the set and the least model" (Change 2); "or, where the two are equal,
-- the lowest rule number, counted from 1, of a broken constraint"
pub data SetVerdict : Type 0 where
  yes : SetVerdict
  differs : (atom : ℕ) → SetVerdict
  breaks : (rule : ℕ) → SetVerdict

-- an atom that differs decides, and else what is said of the constraints
abbrev pub shown : Option ℕ → SetVerdict → SetVerdict
shown none v = v
shown (some a) v = differs a

module _ (M : ℕ → Bool) where
  -- the lowest broken constraint, of rules of which the first has the number k
  abbrev pub broken_from : ℕ → List InputRule → SetVerdict
  broken_from k [] = yes
  broken_from k (r ∷ rs) = cond (is_broken M r) (breaks k) (broken_from (k + 1) rs)

  -- v "lies in just one of M and the least model", whose marks are m
  abbrev pub differs_at : List ℕ → ℕ → Bool
  differs_at m v = just_one (M v) (marked m v)

  unfoldable pub verdict_of : List InputRule → SetVerdict
  verdict_of rs = shown (lowest_from (differs_at (least M rs)) (atoms rs + 1) 0) (broken_from 1 rs)

-- The three questions, in their order

pub data Asked : Type 0 where
  refused : SetFault → Asked
  passed : List InputRule → Asked

-- "Is M strictly ascending within 1 to N? 42. Are there exactly 4,096 marks? 43.", which are 8,192 since Change 6
abbrev pub asked_of : Option (List InputRule) → List ℕ → ℕ → Asked
asked_of none l marks = refused Unreadable
asked_of (some rs) l marks = cond (ascends 0 (atoms rs) l) (cond (eqb marks entries) (passed rs) (refused WrongMarks)) (refused NotAscending)

unfoldable pub asked : List ℤ → ℕ → List ℕ → ℕ → Asked
asked table rules l marks = asked_of (rules_of table rules) l marks

-- What the service answers and leaves

-- document 01's values for each case
abbrev pub said_of : SetVerdict → SetAnswer
said_of yes = Yes
said_of (differs v) = Differs v
said_of (breaks k) = Broken k

abbrev pub set_answer : List ℕ → Asked → Result SetAnswer SetFault
set_answer l (refused f) = Err f
set_answer l (passed rs) = Ok (said_of (verdict_of (listed l) rs))

-- "The marks afterwards hold 1 at each atom of the least model and 0 elsewhere"; "Every refusal zeroes the whole of the .. marks"
abbrev pub marks_of : List ℕ → Asked → ℕ → List ℕ
marks_of l (refused f) marks = replicate marks 0
marks_of l (passed rs) marks = least (listed l) rs

-- the public contract: the answer and every mark
pub record SetTested (table : List ℤ) (rules : ℕ) (l before after : List ℕ) (r : Result SetAnswer SetFault) : Type 0 where
  pub answer : r ≡ set_answer l (asked table rules l (length before))
  pub marks : after ≡ marks_of l (asked table rules l (length before)) (length before)
