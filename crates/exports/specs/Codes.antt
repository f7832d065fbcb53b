-- A service's answer as a code and numbers, for callers in other languages: document 01's number and values for each case.
-- Assumes nothing.
use Rattle.std.specs.Prelude.{◌≡◌, List, [], ◌∷◌, ℕ, Option, None, Some, Result, Ok, Err}
use Rattle.std.proofs.lemmas.List.Edits.{sets}
use Rattle.text.specs.Bytes.{byte_of}
use Rattle.aspif.specs.declared.ProgramCounts.{ProgramCounts}
use Rattle.aspif.specs.declared.ProgramRefusal.{ProgramRefusal}
use Rattle.aspif.specs.Numbers.{number_of}
use Rattle.answer_set.specs.declared.SetAnswer.{SetAnswer}
use Rattle.answer_set.specs.declared.SetAnswer.TheVariants as Set
use Rattle.answer_set.specs.declared.SetFault.{SetFault}
use Rattle.answer_set.specs.Numbers as SetNumbers
use Rattle.drupe.specs.declared.ProofFault.{ProofFault}
use Rattle.drupe.specs.declared.ProofLine.{ProofLine}
use Rattle.drupe.specs.Numbers as ProofNumbers
use Rattle.packets.specs.declared.PacketWriting.{PacketWriting}
use Rattle.packets.specs.declared.PacketWriting.TheVariants as Writing
use Rattle.packets.specs.declared.PacketReading.{PacketReading}
use Rattle.packets.specs.declared.PacketReading.TheVariants as Reading
use Rattle.checker.specs.declared.Counts.{Counts}
use Rattle.checker.specs.declared.Verdict.{Verdict}
use Rattle.checker.specs.declared.Verdict.TheVariants.{Inconsistent, Open, RefusedProgram, RefusedProof}
use Rattle.aspif.specs.declared.Refusal.{Refusal}
use Rattle.aspif.specs.declared.Refusal.TheVariants.{Program, Service}
use Rattle.splits.specs.Service.{MergeAnswer}
use Rattle.splits.specs.Numbers.{number_of as merge_number}
use Rattle.trimming.specs.Service.{TrimAnswer}
use Rattle.trimming.specs.Numbers.{number_of as trim_number}
use Rattle.cheapest.specs.Service.{CheapestAnswer}
use Rattle.cheapest.specs.Numbers.{number_of as cheapest_number}
use Rattle.long_sums.specs.Service.{SplitAnswer}
use Rattle.long_sums.specs.Numbers.{number_of as split_number}

-- the code is returned, and the numbers stand at the front of the lent buffer, as many as fit; no other number of it has changed
pub record Told (code : ℕ) (numbers before after : List ℕ) (result : ℕ) : Type 0 where
  pub returned : result ≡ code
  pub written : after ≡ sets before 0 numbers

-- The program reader: 0, or "the number and the line"; numbers 1 to 11, 54 and 55

abbrev pub program_code : Result ProgramCounts ProgramRefusal → ℕ
program_code (Ok counts) = 0
program_code (Err r) = number_of r.fault

-- "The reader returns N and the rule count."
abbrev pub program_numbers : Result ProgramCounts ProgramRefusal → List ℕ
program_numbers (Ok counts) = counts.atoms ∷ counts.rules ∷ []
program_numbers (Err r) = r.line ∷ 0 ∷ []

-- The set test: "yes; or no with" the lowest "atom ..; or .. the lowest rule number"; numbers 41 to 43

abbrev pub set_code : Result SetAnswer SetFault → ℕ
set_code (Ok Set.Yes) = 0
set_code (Ok (Set.Differs v)) = 1
set_code (Ok (Set.Broken k)) = 2
set_code (Err f) = SetNumbers.number_of f

abbrev pub set_numbers : Result SetAnswer SetFault → List ℕ
set_numbers (Ok Set.Yes) = []
set_numbers (Ok (Set.Differs v)) = v ∷ []
set_numbers (Ok (Set.Broken k)) = k ∷ []
set_numbers (Err f) = []

-- The proof-line reader: 0 for "end", the letter's byte for a line; numbers 21 to 25

abbrev pub line_code : Result (Option ProofLine) ProofFault → ℕ
line_code (Ok (Some l)) = byte_of l.letter
line_code (Ok None) = 0
line_code (Err f) = ProofNumbers.number_of f

-- "their count and the position after the newline. Its refusal returns the number alone."
abbrev pub line_numbers : Result (Option ProofLine) ProofFault → List ℕ
line_numbers (Ok (Some l)) = l.count ∷ l.next ∷ []
line_numbers (Ok None) = []
line_numbers (Err f) = []

-- The writer of packets, and a move to the other version: 0 with the packet's bytes; numbers 51 to 53, and 61 of a move down

abbrev pub writing_code : PacketWriting → ℕ
writing_code (Writing.Written n) = 0
writing_code (Writing.Refused k) = k

abbrev pub writing_numbers : PacketWriting → List ℕ
writing_numbers (Writing.Written n) = n ∷ []
writing_numbers (Writing.Refused k) = []

-- The reader of packets: 0 with the rule count and the bytes of the proof text; numbers 51 to 53

abbrev pub reading_code : PacketReading → ℕ
reading_code (Reading.Read rules bytes) = 0
reading_code (Reading.Refused k) = k

abbrev pub reading_numbers : PacketReading → List ℕ
reading_numbers (Reading.Read rules bytes) = rules ∷ bytes ∷ []
reading_numbers (Reading.Refused k) = []

-- The whole check

abbrev pub verdict_code : Verdict → ℕ
verdict_code (Inconsistent c) = 0
verdict_code (Open c) = 1
verdict_code (RefusedProgram r) = 2
verdict_code (RefusedProof r) = 3

-- N, R, S and K
abbrev pub count_numbers : Counts → List ℕ
count_numbers c = c.atoms ∷ c.rules ∷ c.steps ∷ c.nogoods ∷ []

-- N, R, S and K; or the number and the line; or the number and the step
abbrev pub verdict_numbers : Verdict → List ℕ
verdict_numbers (Inconsistent c) = count_numbers c
verdict_numbers (Open c) = count_numbers c
verdict_numbers (RefusedProgram r) = number_of r.fault ∷ r.line ∷ []
verdict_numbers (RefusedProof r) = ProofNumbers.number_of r.fault ∷ r.step ∷ []

-- What a service over a program text refuses: the program's number and line, as its reader tells them, or a number of its own

abbrev pub refusal_code : {F : Type 0} → (number : F → ℕ) → Refusal F → ℕ
refusal_code number (Program r) = number_of r.fault
refusal_code number (Service k) = number k

abbrev pub refusal_numbers : {F : Type 0} → Refusal F → List ℕ
refusal_numbers (Program r) = r.line ∷ 0 ∷ []
refusal_numbers (Service k) = []

-- The merge of two halves, and of a tree: 0 with the bytes of the text written; the program's number and line, as its reader tells them; 57 to 59, and
-- 64 of a tree

abbrev pub merge_code : MergeAnswer → ℕ
merge_code (Ok n) = 0
merge_code (Err r) = refusal_code merge_number r

abbrev pub merge_numbers : MergeAnswer → List ℕ
merge_numbers (Ok n) = n ∷ []
merge_numbers (Err r) = refusal_numbers r

-- The trimming of a proof: 0 with the bytes of the text that is left; the program's number and line; 60

abbrev pub trim_code : TrimAnswer → ℕ
trim_code (Ok n) = 0
trim_code (Err r) = refusal_code trim_number r

abbrev pub trim_numbers : TrimAnswer → List ℕ
trim_numbers (Ok n) = n ∷ []
trim_numbers (Err r) = refusal_numbers r

-- The cheapest answer set: 0 with C; the program's number and line; 42, 62 and 63

abbrev pub cheapest_code : CheapestAnswer → ℕ
cheapest_code (Ok C) = 0
cheapest_code (Err r) = refusal_code cheapest_number r

abbrev pub cheapest_numbers : CheapestAnswer → List ℕ
cheapest_numbers (Ok C) = C ∷ []
cheapest_numbers (Err r) = refusal_numbers r

-- The splitting of long sums: 0 with the bytes, the atoms and the rules of what is written and the atoms of the program
-- as written; the program's number and line; 65 and 66

abbrev pub split_code : SplitAnswer → ℕ
split_code (Ok counts) = 0
split_code (Err r) = refusal_code split_number r

abbrev pub split_numbers : SplitAnswer → List ℕ
split_numbers (Ok counts) = counts.bytes ∷ counts.atoms ∷ counts.rules ∷ counts.old_atoms ∷ []
split_numbers (Err r) = refusal_numbers r
