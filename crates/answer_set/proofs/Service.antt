-- What the service's answers say: `table-refused` of refusal 41, `service-yes` of yes.
-- Assumes nothing.
use mathlib.Core.Path.{◌≡◌, refl, ◌∙◌, ap}
use mathlib.Core.Bool.{Bool, true, false, cond, true≢false}
use mathlib.Core.Option.{Option, none, some}
use mathlib.Core.List.{List}
use Prim.Native.Nat.{ℕ}
use native.Mathlib.Omega.{arith}
use borrow.Author.Tests.{eqb-true, eq-eqb}
use lib.Dec.{eqb}
use lib.IntN.{ℤ}
use lib.ListN.{length}
use Rattle.std.specs.Prelude.{Result, Ok, Err}
use Rattle.std.specs.Result.{is_ok}
use Rattle.aspif.specs.Rules.{InputRule, expand, atoms}
use Rattle.aspif.specs.AnswerSets.{AnswerSet}
use Rattle.aspif.specs.Tables.{ReadAs, ReadTable, rules_of}
use Rattle.words.specs.Lists.{ascends}
use Rattle.marks.specs.Marks.{listed}
use Rattle.words.specs.Limits.{entries}
use Rattle.answer_set.specs.SetTest.{SetVerdict, yes, differs, breaks, verdict_of, Asked, refused, passed, asked_of, asked, said_of, set_answer}
use Rattle.answer_set.specs.Claims.{TableRefused, Listed, Ready, ServiceYes}
use Rattle.answer_set.specs.declared.SetAnswer.{SetAnswer}
use Rattle.answer_set.specs.declared.SetAnswer.TheVariants.{Yes}
use Rattle.answer_set.specs.declared.SetFault.{SetFault}
use Rattle.answer_set.specs.declared.SetFault.TheVariants.{Unreadable, NotAscending, WrongMarks}
use Rattle.answer_set.specs.Numbers.{number_of}
use Rattle.answer_set.proofs.Answered.{yes-answer-set}
use Rattle.aspif.proofs.Readable.{table-read}

-- Refusal 41

-- the number of the question that is answered no
abbrev question : Asked → ℕ
question (refused f) = number_of f
question (passed rs) = 0

no-41 : (rs : List InputRule) (l : List ℕ) (n : ℕ) → asked_of (some rs) l n ≡ refused Unreadable → ⊥
no-41 rs l n = by (ascends 0 (atoms rs) l) (eqb n entries)
  where
    by : (b c : Bool) → cond b (cond c (passed rs) (refused WrongMarks)) (refused NotAscending) ≡ refused Unreadable → ⊥
    by true true e = let z : ◌≡◌ {A = ℕ} 0 41 = ap question e in omega arith
    by true false e = let z : ◌≡◌ {A = ℕ} 43 41 = ap question e in omega arith
    by false c e = let z : ◌≡◌ {A = ℕ} 42 41 = ap question e in omega arith

pub table-refused : TableRefused
unfolding asked
table-refused table rules l n = (there, back (rules_of table rules) refl)
  where
    there : asked_of (rules_of table rules) l n ≡ refused Unreadable → ¬ ReadTable table rules
    there e p = no-41 p.0 l n (rw ((table-read table rules p.0).1 p.1) at e)

    back : (o : Option (List InputRule)) → rules_of table rules ≡ o → ¬ ReadTable table rules → asked_of o l n ≡ refused Unreadable
    back none e f = refl
    back (some rs) e f = absurd (f (rs, (table-read table rules rs).0 e))

-- What is answered where nothing is refused

-- what stands inside an `Ok`
abbrev answer_in : Result SetAnswer SetFault → SetAnswer
answer_in (Ok a) = a
answer_in (Err f) = Yes

pub same_answer : {a b : SetAnswer} → ◌≡◌ {A = Result SetAnswer SetFault} (Ok a) (Ok b) → a ≡ b
same_answer e = ap answer_in e

pub record Passes (o : Option (List InputRule)) (l : List ℕ) (n : ℕ) (a : SetAnswer) : Type 0 where
  pub rs : List InputRule
  pub is : o ≡ some rs
  pub ascending : ascends 0 (atoms rs) l ≡ true
  pub marks : n ≡ entries
  pub verdict : a ≡ said_of (verdict_of (listed l) rs)

pub passes : (o : Option (List InputRule)) (l : List ℕ) (n : ℕ) (a : SetAnswer) → Ok a ≡ set_answer l (asked_of o l n) → Passes o l n a
passes none l n a e = absurd (true≢false (ap is_ok e))
passes (some rs) l n a e = by (ascends 0 (atoms rs) l) refl (eqb n entries) refl e
  where
    by : (b : Bool) → ascends 0 (atoms rs) l ≡ b → (c : Bool) → eqb n entries ≡ c → Ok a ≡ set_answer l (cond b (cond c (passed rs) (refused WrongMarks)) (refused NotAscending))
        → Passes (some rs) l n a
    by true p true q e = record { rs = rs; is = refl; ascending = p; marks = eqb-true n entries q; verdict = same_answer e }
    by true p false q e = absurd (true≢false (ap is_ok e))
    by false p c q e = absurd (true≢false (ap is_ok e))

-- where 41 to 43 are passed, the verdict is said
module _ (table : List ℤ) (rules : ℕ) (l : List ℕ) (n : ℕ) (rs : List InputRule) (read : ReadAs table rules rs) (a : ascends 0 (atoms rs) l ≡ true) where
  pub readies : Ready table rules l rs
  readies = record { readable = (table-read table rules rs).1 read; ascending = a }

  pub says : n ≡ entries → {v : SetVerdict} → verdict_of (listed l) rs ≡ v → set_answer l (asked table rules l n) ≡ Ok (said_of v)
  unfolding asked
  says e p =
      let q : asked_of (rules_of table rules) l n ≡ passed rs = rw (readies.readable, a, eq-eqb n entries e) in
      ap (set_answer l) q ∙ ap (λ w. Ok (said_of w)) p

-- The answer yes

said-yes : (v : SetVerdict) → Yes ≡ said_of v → v ≡ yes
said-yes yes e = refl
said-yes (differs v) e = absurd (let z : ◌≡◌ {A = ℕ} 0 1 = cc in omega arith)
said-yes (breaks k) e = absurd (let z : ◌≡◌ {A = ℕ} 0 1 = cc in omega arith)

pub service-yes : ServiceYes
unfolding asked
service-yes table rules l before after r t = (there, back)
  where
    Holds : Type 0
    Holds = (rs : List InputRule) × ReadAs table rules rs × (ascends 0 (atoms rs) l ≡ true) × (length before ≡ entries) × AnswerSet (Listed l) (expand rs)

    there : r ≡ Ok Yes → Holds
    there e =
        let p = passes (rules_of table rules) l (length before) Yes (rw e at t.answer) in
        (p.rs, (table-read table rules p.rs).0 p.is, p.ascending, p.marks, (yes-answer-set table rules l p.rs (record { readable = p.is; ascending = p.ascending })).0 (said-yes _ p.verdict))

    back : Holds → r ≡ Ok Yes
    back p = t.answer ∙ says table rules l (length before) p.0 p.1 p.2 p.3 ((yes-answer-set table rules l p.0 (readies table rules l (length before) p.0 p.1 p.2)).1 p.4)
