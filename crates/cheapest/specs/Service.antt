-- What `check_cheapest` answers and leaves, of the texts, the set, the costs and the lengths of what it is lent: document 02, Change 12.
-- Assumes nothing.
use Rattle.std.specs.Prelude.{◌≡◌, Result, Ok, Err, Bool, true, false, cond, List, ℕ, eqb, leb, ℤ, pos, length, replicate}
use Rattle.std.proofs.Math.Option.{Option, none, some}
use Rattle.words.specs.Lists.{ascends}
use Rattle.weights.specs.Weights.{most_weight}
use Rattle.aspif.specs.Rules.{InputRule, expand, atoms, table_words}
use Rattle.aspif.specs.Reading.{Reading, refused, program, read_text}
use Rattle.marks.specs.Marks.{listed}
use Rattle.answer_set.specs.SetTest.{SetVerdict, yes, differs, breaks, verdict_of}
use Rattle.derivation.specs.Steps.{empty_live}
use Rattle.nogoods.specs.Store.{store_words}
use Rattle.runs.specs.Course.{Course, stopped, through, course}
use Rattle.costs.specs.Costs.{Cost, costs_of, good_costs, total, restricted}
use Rattle.aspif.specs.declared.Refusal.{Refusal}
use Rattle.aspif.specs.declared.Refusal.TheVariants.{Program, Service}
use Rattle.cheapest.specs.declared.CheapestFault.{CheapestFault}
use Rattle.cheapest.specs.declared.CheapestFault.TheVariants.{WrongSet, WrongCosts, NotCertified}

-- the set's cost, or why the set is refused
abbrev pub CheapestAnswer : Type 0
CheapestAnswer = Result ℕ (Refusal CheapestFault)

-- "a set that passes as an answer set": the set test says yes
abbrev pub is_yes : SetVerdict → Bool
is_yes yes = true
is_yes (differs v) = false
is_yes (breaks k) = false

-- what the check of the proof for the restricted program comes to, in a store of so many words
abbrev pub restricted_course : (size : ℕ) → List InputRule → List Cost → (C : ℕ) → (proof : List ℕ) → Course
restricted_course size ws ks C proof = course (atoms (restricted ws ks C)) (expand (restricted ws ks C)) size proof

-- the answer with every word of the table and the store
pub record CheapestLeft : Type 0 where
  pub answer : CheapestAnswer
  pub table : List ℤ
  pub store : List ℤ

-- the lengths of table and store
module _ (t s : ℕ) where
  -- nothing stays of what is refused
  abbrev pub leaves_nothing : CheapestAnswer → CheapestLeft
  leaves_nothing a = record { answer = a; table = replicate t (pos 0); store = replicate s (pos 0) }

  -- "A passing verdict returns C": "the table holds the program alone, and the store is as the check of the proof .. taken leaves it"
  abbrev pub passing : List InputRule → (C : ℕ) → (store : List ℤ) → CheapestLeft
  passing ws C store = record { answer = Ok C; table = table_words t ws; store = store }

  -- "a proof that isn't accepted": 63
  abbrev pub judged_proof : List InputRule → (C : ℕ) → Course → CheapestLeft
  judged_proof ws C (stopped k n) = leaves_nothing (Err (Service NotCertified))
  judged_proof ws C (through n z stored) = cond (empty_live z) (passing ws C (store_words s stored)) (leaves_nothing (Err (Service NotCertified)))

  -- "Where C is 0 no proof is read and the store ends zero."
  abbrev pub with_proof : List InputRule → List Cost → (C : ℕ) → (proof : List ℕ) → CheapestLeft
  with_proof ws ks C proof = cond (eqb C 0) (passing ws 0 (replicate s (pos 0))) (judged_proof ws C (restricted_course s ws ks C proof))

  -- "or a C above 4,095, is refused with 62, and a set that is no answer set, or with C above 0 a proof that isn't accepted, is 63,
  -- in this order"
  abbrev pub with_cost : List InputRule → (set : List ℕ) → List Cost → (C : ℕ) → (proof : List ℕ) → CheapestLeft
  with_cost ws set ks C proof =
      cond (leb C most_weight)
      (cond (is_yes (verdict_of (listed set) ws)) (with_proof ws ks C proof) (leaves_nothing (Err (Service NotCertified))))
      (leaves_nothing (Err (Service WrongCosts)))

  -- "a cost list outside these bounds or of odd length": 62. C is reckoned of the set as it is given.
  abbrev pub with_costs : List InputRule → (set : List ℕ) → Option (List Cost) → (proof : List ℕ) → CheapestLeft
  with_costs ws set none proof = leaves_nothing (Err (Service WrongCosts))
  with_costs ws set (some ks) proof =
      cond (good_costs (atoms ws) ks) (with_cost ws set ks (total (listed set) ks) proof) (leaves_nothing (Err (Service WrongCosts)))

  -- "Once the program and the set (question 42; no marks are lent) are read"
  abbrev pub cheapest_reading : (set : List ℕ) → (costs : List ℤ) → (proof : List ℕ) → Reading → CheapestLeft
  cheapest_reading set costs proof (refused k n) = leaves_nothing (Err (Program (record { fault = k; line = n })))
  cheapest_reading set costs proof (program ws) =
      cond (ascends 0 (atoms ws) set) (with_costs ws set (costs_of costs) proof) (leaves_nothing (Err (Service WrongSet)))

  -- the whole outcome, from the texts: the program is read first, as its reader does
  unfoldable pub cheapest : (text set : List ℕ) → (costs : List ℤ) → (proof : List ℕ) → CheapestLeft
  cheapest text set costs proof = cheapest_reading set costs proof (read_text t text)

-- the public contract of `check_cheapest`, whatever it is lent
abbrev pub CheckedCheapest : (text set : List ℕ) → (costs : List ℤ) → (proof : List ℕ) → (table store table' store' : List ℤ)
    → CheapestAnswer → Type 0
CheckedCheapest text set costs proof table store table' store' r =
    record { answer = r; table = table'; store = store' } ≡ cheapest (length table) (length store) text set costs proof
