-- What the service answers on worked cases, by its definition; proofs/Examples.antt computes them.
-- Assumes nothing.
use Rattle.std.specs.Prelude.{◌≡◌, Ok, Err, List, [], ◌∷◌, map, ℕ, ℤ, pos, negsuc, replicate}
use Rattle.text.specs.Strings.{bytes, lines}
use Rattle.checker.specs.Check.{check}
use Rattle.cheapest.specs.Service.{CheapestAnswer, cheapest}
use Rattle.aspif.specs.declared.Refusal.TheVariants.{Program, Service}
use Rattle.aspif.specs.declared.ProgramFault.TheVariants.{TableFull}
use Rattle.cheapest.specs.declared.CheapestFault.TheVariants.{WrongSet, WrongCosts, NotCertified}
use Rattle.cheapest.specs.Numbers.{number_of}

-- program B, a choice over 1 and 2 of which one must hold: the answer sets are {1}, {2} and {1, 2}
abbrev pub text_b : List ℕ
text_b = lines ("asp 1 0 0" ∷ "1 1 2 1 2 0 0" ∷ "1 0 0 0 2 -1 -2" ∷ "0" ∷ [])

-- B with the restriction of the costs 1 3 2 5 to less than 3
abbrev pub restricted_b : List ℕ
restricted_b = lines ("asp 1 0 0" ∷ "1 1 2 1 2 0 0" ∷ "1 0 0 0 2 -1 -2" ∷ "1 0 0 1 3 2 1 3 2 5" ∷ "0" ∷ [])

-- proof Q: each of 1 and 2 costs 3 or more
abbrev pub proof_q : List ℕ
proof_q = lines ("b 3 1 0" ∷ "c 3 0" ∷ "b 4 2 0" ∷ "c 4 0" ∷ "b 5 -1 -2 0" ∷ "c 5 0" ∷ "a 0" ∷ [])

abbrev pub junk : List ℕ
junk = bytes "junk"

-- the answer with a table of 20 words and a store of 60
abbrev pub answer_b : (set : List ℕ) → (costs : List ℤ) → (proof : List ℕ) → CheapestAnswer
answer_b set costs proof = (cheapest 20 60 text_b set costs proof).answer

-- the costs 3 of 1 and 5 of 2
abbrev pub cost_list : List ℤ
cost_list = pos 1 ∷ pos 3 ∷ pos 2 ∷ pos 5 ∷ []

pub record Worked : Type 0 where
  pub good : answer_b (1 ∷ []) cost_list proof_q ≡ Ok 3
  pub other-order : answer_b (1 ∷ []) (pos 2 ∷ pos 5 ∷ pos 1 ∷ pos 3 ∷ []) proof_q ≡ Ok 3
  -- "the table holds the program alone, and the store is as the check of the proof .. taken leaves it"
  pub table : (cheapest 14 60 text_b (1 ∷ []) cost_list proof_q).table
      ≡ pos 1 ∷ pos 2 ∷ pos 0 ∷ pos 0 ∷ pos 1 ∷ pos 2 ∷ pos 0 ∷ pos 0 ∷ pos 0 ∷ pos 2 ∷ negsuc 0 ∷ negsuc 1 ∷ pos 0 ∷ pos 0 ∷ []
  pub store : (cheapest 20 60 text_b (1 ∷ []) cost_list proof_q).store ≡ (check restricted_b proof_q 40 60).store
  pub short-store : (cheapest 12 40 text_b (1 ∷ []) cost_list proof_q).answer ≡ Ok 3
  pub no_store : (cheapest 12 39 text_b (1 ∷ []) cost_list proof_q).answer ≡ Err (Service NotCertified)
  pub short-table : (cheapest 11 60 text_b (1 ∷ []) cost_list proof_q).answer ≡ Err (Program (record { fault = TableFull; line = 3 }))
  -- 2 costs 5, and 1 is cheaper
  pub dearer : answer_b (2 ∷ []) cost_list proof_q ≡ Err (Service NotCertified)
  pub no-answer-set : answer_b [] cost_list proof_q ≡ Err (Service NotCertified)
  -- "Where C is 0 no proof is read and the store ends zero."
  pub nothing : (cheapest 12 3 text_b (1 ∷ []) (pos 2 ∷ pos 5 ∷ []) junk).answer ≡ Ok 0
  pub nothing-store : (cheapest 12 3 text_b (1 ∷ []) (pos 2 ∷ pos 5 ∷ []) junk).store ≡ pos 0 ∷ pos 0 ∷ pos 0 ∷ []
  pub no-costs : answer_b (1 ∷ []) [] junk ≡ Ok 0
  pub nothing-for-it : answer_b (1 ∷ []) (pos 1 ∷ pos 0 ∷ pos 2 ∷ pos 5 ∷ []) junk ≡ Ok 0
  -- -2 is true in {1}, and costs 7
  pub outside : answer_b (1 ∷ []) (negsuc 1 ∷ pos 7 ∷ []) [] ≡ Err (Service NotCertified)
  -- 62: of odd length, no literal over an atom, a cost out of its range, an atom twice; also for a set that is no answer set
  pub odd : answer_b [] (pos 1 ∷ []) proof_q ≡ Err (Service WrongCosts)
  pub odd-three : answer_b (1 ∷ []) (pos 1 ∷ pos 3 ∷ pos 2 ∷ []) proof_q ≡ Err (Service WrongCosts)
  pub no-literal : answer_b (1 ∷ []) (pos 0 ∷ pos 1 ∷ []) proof_q ≡ Err (Service WrongCosts)
  pub foreign : answer_b (1 ∷ []) (negsuc 2 ∷ pos 1 ∷ []) proof_q ≡ Err (Service WrongCosts)
  pub negative : answer_b (1 ∷ []) (pos 1 ∷ negsuc 0 ∷ []) proof_q ≡ Err (Service WrongCosts)
  pub high : answer_b (1 ∷ []) (pos 1 ∷ pos 4096 ∷ []) proof_q ≡ Err (Service WrongCosts)
  pub twice : answer_b [] (pos 1 ∷ pos 1 ∷ negsuc 0 ∷ pos 1 ∷ []) proof_q ≡ Err (Service WrongCosts)
  -- 42 before 62
  pub foreign-atom : answer_b (3 ∷ []) (pos 1 ∷ []) proof_q ≡ Err (Service WrongSet)
  pub descending : answer_b (2 ∷ 1 ∷ []) cost_list proof_q ≡ Err (Service WrongSet)
  -- a C above 4,095 before 63
  pub too-dear : answer_b (1 ∷ 2 ∷ []) (pos 1 ∷ pos 4000 ∷ pos 2 ∷ pos 96 ∷ []) [] ≡ Err (Service WrongCosts)
  pub just-dear : answer_b (1 ∷ 2 ∷ []) (pos 1 ∷ pos 4000 ∷ pos 2 ∷ pos 95 ∷ []) [] ≡ Err (Service NotCertified)
  pub too-dear-none : answer_b [] (negsuc 0 ∷ pos 4000 ∷ negsuc 1 ∷ pos 96 ∷ []) [] ≡ Err (Service WrongCosts)
  -- nothing stays of what is refused
  pub refused : cheapest 12 3 text_b (1 ∷ []) (pos 1 ∷ []) proof_q
      ≡ record { answer = Err (Service WrongCosts); table = replicate 12 (pos 0); store = pos 0 ∷ pos 0 ∷ pos 0 ∷ [] }
  -- by which numbers these refusals are told
  pub numbers : map number_of (WrongSet ∷ WrongCosts ∷ NotCertified ∷ []) ≡ 42 ∷ 62 ∷ 63 ∷ []
