-- What the fourteen functions for C return and leave: an answer told by its code and numbers. Of the program reader, of
-- the whole check, of the merges, of trimming, of the cheapest answer set and of the splitting of sums it is the one
-- for which the service's own contract holds, which is an equation; of the others it is said outright. A primed name is
-- what a lent slice holds afterwards; `answer` is the buffer for the numbers.
-- Assumes nothing.
use Rattle.std.specs.Prelude.{◌≡◌, List, ℕ, ℤ, length, Result}
use Rattle.std.proofs.lemmas.List.Edits.{sets}
use Rattle.aspif.specs.Reading.{ProgramRead}
use Rattle.aspif.specs.declared.ProgramCounts.{ProgramCounts}
use Rattle.aspif.specs.declared.ProgramRefusal.{ProgramRefusal}
use Rattle.answer_set.specs.SetTest.{asked, set_answer, marks_of}
use Rattle.drupe.specs.Lines.{line_read, line_answer, numbers_of}
use Rattle.packets.specs.Packets.{version_of, reading_of, reading_answer, table_left, text_left, PacketWritten, writing_of, writing_answer, packet_left}
use Rattle.checker.specs.Check.{CheckedTexts, CheckedLong}
use Rattle.checker.specs.declared.Verdict.{Verdict}
use Rattle.splits.specs.Service.{MergeAnswer, MergedHalves}
use Rattle.trees.specs.Service.{MergedTree}
use Rattle.trimming.specs.Service.{TrimAnswer, TrimmedProof}
use Rattle.cheapest.specs.Service.{CheapestAnswer, CheckedCheapest}
use Rattle.long_sums.specs.Service.{SplitAnswer, SplitSums}
use Rattle.exports.specs.Codes.{Told, program_code, program_numbers, set_code, set_numbers, line_code, line_numbers, writing_code, writing_numbers, reading_code, reading_numbers, verdict_code, verdict_numbers, merge_code, merge_numbers, trim_code, trim_numbers, cheapest_code, cheapest_numbers, split_code, split_numbers}

-- the program reader's answer and every word of the table
pub record ProgramService (text : List ℕ) (table table' : List ℤ) (answer answer' : List ℕ) (result : ℕ) : Type 0 where
  pub reading : Result ProgramCounts ProgramRefusal
  pub read : ProgramRead text table table' reading
  pub told : Told (program_code reading) (program_numbers reading) answer answer' result

-- every mark, and the set test's answer; all is said outright, as no answer is free
pub record SetService (table : List ℤ) (rules : ℕ) (set marks marks' answer answer' : List ℕ) (result : ℕ) : Type 0 where
  pub left : marks' ≡ marks_of set (asked table rules set (length marks)) (length marks)
  pub told : (let a = set_answer set (asked table rules set (length marks)) in Told (set_code a) (set_numbers a) answer answer' result)

-- What stands at the position, and the array of 65 numbers at the front of the lent ones, as many as fit. No answer is free, so
-- all is said outright.
pub record LineService (text : List ℕ) (position : ℕ) (numbers numbers' : List ℤ) (answer answer' : List ℕ) (result : ℕ) : Type 0 where
  pub copied : numbers' ≡ sets numbers 0 (numbers_of (line_read text position))
  pub told : Told (line_code (line_answer (line_read text position))) (line_numbers (line_answer (line_read text position))) answer answer' result

-- The packet's bytes and 0 after them; all is said outright, as no answer is free.
pub record WriteService (version : ℕ) (table : List ℤ) (rules : ℕ) (proof packet packet' answer answer' : List ℕ) (result : ℕ) : Type 0 where
  pub bytes : packet' ≡ packet_left (length packet) (writing_of (version_of version) table rules proof (length packet))
  pub told : (let w = writing_answer (writing_of (version_of version) table rules proof (length packet)) in Told (writing_code w) (writing_numbers w) answer answer' result)

-- every word of the table and every byte of the proof text
pub record ReadService (version : ℕ) (packet : List ℕ) (table table' : List ℤ) (proof proof' answer answer' : List ℕ) (result : ℕ) : Type 0 where
  pub words : table' ≡ table_left (length table) (reading_of (version_of version) packet (length table) (length proof))
  pub text : proof' ≡ text_left (length proof) (reading_of (version_of version) packet (length table) (length proof))
  pub told : (let r = reading_answer (reading_of (version_of version) packet (length table) (length proof)) in Told (reading_code r) (reading_numbers r) answer answer' result)

-- A packet moved to the other version, by `up` or by `down` of the packets crate: the bytes of the packet made and 0 after them. All is said
-- outright, as no answer is free.
pub record MoveService (move : List ℕ → ℕ → PacketWritten) (packet output output' answer answer' : List ℕ) (result : ℕ) : Type 0 where
  pub bytes : output' ≡ packet_left (length output) (move packet (length output))
  pub told : (let w = writing_answer (move packet (length output)) in Told (writing_code w) (writing_numbers w) answer answer' result)

-- the verdict, every word of the table and every word of the store
pub record CheckService (program proof : List ℕ) (table store table' store' : List ℤ) (answer answer' : List ℕ) (result : ℕ) : Type 0 where
  pub verdict : Verdict
  pub checked : CheckedTexts program proof table store table' store' verdict
  pub told : Told (verdict_code verdict) (verdict_numbers verdict) answer answer' result

-- the same of the long check, and every word of its memory
pub record LongService (program proof : List ℕ) (table store table' store' : List ℤ) (memory memory' answer answer' : List ℕ) (result : ℕ) : Type 0 where
  pub verdict : Verdict
  pub checked : CheckedLong program proof table store table' store' memory memory' verdict
  pub told : Told (verdict_code verdict) (verdict_numbers verdict) answer answer' result

-- the answer of the merge, every word of the table and of the store, and every byte of the output
pub record MergeService (program : List ℕ) (atom : ℕ) (first second : List ℕ) (table store table' store' : List ℤ) (output output' answer answer' : List ℕ)
    (result : ℕ) : Type 0 where
  pub answered : MergeAnswer
  pub merged : MergedHalves program atom first second table store table' store' output output' answered
  pub told : Told (merge_code answered) (merge_numbers answered) answer answer' result

-- the answer of trimming, every byte of the text, and every word of the table and of the store
pub record TrimService (program text text' : List ℕ) (table store table' store' : List ℤ) (answer answer' : List ℕ) (result : ℕ) : Type 0 where
  pub answered : TrimAnswer
  pub trimmed : TrimmedProof program text text' table store table' store' answered
  pub told : Told (trim_code answered) (trim_numbers answered) answer answer' result

-- the answer of the cheapest answer set, and every word of the table and of the store
pub record CheapestService (program set : List ℕ) (costs : List ℤ) (proof : List ℕ) (table store table' store' : List ℤ) (answer answer' : List ℕ)
    (result : ℕ) : Type 0 where
  pub answered : CheapestAnswer
  pub checked : CheckedCheapest program set costs proof table store table' store' answered
  pub told : Told (cheapest_code answered) (cheapest_numbers answered) answer answer' result

-- the answer of the merge of a tree, every word of the table and of the store, and every byte of the output
pub record TreeService (program tree texts lengths : List ℕ) (table store table' store' : List ℤ) (output output' answer answer' : List ℕ)
    (result : ℕ) : Type 0 where
  pub answered : MergeAnswer
  pub merged : MergedTree program tree texts lengths table store table' store' output output' answered
  pub told : Told (merge_code answered) (merge_numbers answered) answer answer' result

-- the answer of the splitting of long sums, every word of the table and every byte of the output
pub record SplitService (program : List ℕ) (group : ℕ) (table table' : List ℤ) (output output' answer answer' : List ℕ) (result : ℕ) : Type 0 where
  pub answered : SplitAnswer
  pub split : SplitSums program group table table' output output' answered
  pub told : Told (split_code answered) (split_numbers answered) answer answer' result
