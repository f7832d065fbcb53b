-- The answer sets of a program as it is written, and what the services say of it by their contracts,
-- over its text (specs/Text.antt of `aspif`). No reader and no table is spoken of, and no plain rules.
-- docs/READING.md leads here. The claims are proved in proofs/Printed.antt, Once.antt
-- (`PrintedOnce`), Direct.antt (`SameAnswerSets`), Split.antt, Cheapest.antt and Returned.antt
-- (services for C).
-- Assumes nothing.
use Rattle.std.specs.Prelude.{◌≡◌, ◌↔◌, true, List, ◌∷◌, ◌++◌, ℕ, suc, ◌≤◌, ℤ, pos, negsuc, length, take, Result, Ok}
use Rattle.words.specs.Limits.{entries}
use Rattle.words.specs.Lists.{◌∈◌, ascends}
use Rattle.text.specs.Strings.{bytes}
use Rattle.weights.specs.Weights.{Weighted, sum, literals, pair_words}
use Rattle.weights.specs.Claims.{◌⊑◌}
use Rattle.aspif.specs.Rules.{Body, plain, weights, InputRule, expand}
use Rattle.aspif.specs.Text.{program_text}
use Rattle.aspif.specs.AnswerSets.{AnswerSet}
use Rattle.aspif.specs.Reading.{ProgramRead}
use Rattle.aspif.specs.declared.Kind.TheVariants.{Choice}
use Rattle.aspif.specs.declared.ProgramCounts.{ProgramCounts}
use Rattle.derivation.specs.Claims.{WrittenConstraint}
use Rattle.answer_set.specs.SetTest.{SetTested}
use Rattle.answer_set.specs.declared.SetAnswer.{SetAnswer}
use Rattle.answer_set.specs.declared.SetAnswer.TheVariants.{Yes}
use Rattle.answer_set.specs.declared.SetFault.{SetFault}
use Rattle.checker.specs.Check.{CheckedTexts, CheckedLong}
use Rattle.checker.specs.Report.{printed}
use Rattle.checker.specs.declared.Counts.{Counts}
use Rattle.checker.specs.declared.Verdict.TheVariants.{Inconsistent}
use Rattle.long_sums.specs.Service.{split_into, SplitSums}
use Rattle.costs.specs.Costs.{Costs}
use Rattle.cheapest.specs.Service.{CheckedCheapest}
use Rattle.exports.specs.Services.{ProgramService, SetService, CheckService, LongService, CheapestService, SplitService}
use Rattle.aspif.specs.declared.ProgramRefusal.{ProgramRefusal}

-- Answer sets: document 01, 'Answer sets', of rules as they are written. A set is any predicate on
-- numbers.

-- Literals that are enough for a body: all of a plain body's; of a weight body's, some whose weights
-- add up to the bound or more
pub data Enough : Body → List ℤ → Type 0 where
  every : {ls : List ℤ} → Enough (plain ls) ls
  weighing : {b : ℕ} {ps s : List Weighted} → s ⊑ ps → b ≤ sum s
      → Enough (weights b ps) (literals s)

module _ (M : ℕ → Type 0) where
  -- "negated atoms are all outside M": the literal -1 is `negsuc 0`
  abbrev pub Outside : List ℤ → Type 0
  Outside ls = (n : ℕ) → negsuc n ∈ ls → ¬ M (suc n)

  -- The least model of the reduct. The reduct takes a rule "whose negated atoms are all outside M",
  -- which "gives its head from its positive atoms; a choice rule does so for each head that is in M".
  pub data Least (P : List InputRule) : ℕ → Type 0 where
    derive : {h : ℕ} (r : InputRule) (ls : List ℤ)
        → r ∈ P → pos h ∈ r.heads → (r.kind ≡ Choice → M h)
        → Enough r.body ls → Outside ls → ((a : ℕ) → pos a ∈ ls → Least P a) → Least P h

  -- "M is an answer set when it equals the least model of this reduct and no constraint has its
  -- positive atoms all in M and its negated atoms all outside."
  pub record IsAnswerSet (P : List InputRule) : Type 0 where
    pub least : (a : ℕ) → M a ↔ Least P a
    pub kept : (r : InputRule) (ls : List ℤ) → r ∈ P → WrittenConstraint r
        → Enough r.body ls → Outside ls → ¬ ((a : ℕ) → pos a ∈ ls → M a)

-- "no set of atoms is an answer set of that program. Nor is any set an answer set of that program
-- with any list of further constraints appended"
abbrev pub HasNone : List InputRule → Type 1
HasNone ws =
    ((M : ℕ → Type 0) → ¬ IsAnswerSet M ws)
    × ((further : List InputRule) → ((r : InputRule) → r ∈ further → WrittenConstraint r)
    → (M : ℕ → Type 0) → ¬ IsAnswerSet M (ws ++ further))

-- The whole check

-- Demand 3 of `check_texts`, by its contract, `CheckedTexts`: where it answers "inconsistent" of the
-- text of a program, that program has no answer set. Any list of rules is meant, good or bad, with
-- heads and literals in any order; and any proof text, table and store.
abbrev pub SoundPrinted : Type 1
SoundPrinted =
    (ws : List InputRule) (proof : List ℕ) (table store table' store' : List ℤ) (c : Counts)
    → CheckedTexts (program_text ws) proof table store table' store' (Inconsistent c) → HasNone ws

-- The same of the line that `verdict` prints, which is `printed` by the contract of `check_line`
abbrev pub SoundLine : Type 1
SoundLine =
    (ws : List InputRule) (proof more : List ℕ)
    → printed (program_text ws) proof ≡ bytes "inconsistent" ++ more → HasNone ws

-- The same of the service for C and Rust, `aspdrupe_check_texts`, by its contract: where it returns
-- 0, whatever buffer it is lent for the numbers of its answer
abbrev pub SoundReturned : Type 1
SoundReturned =
    (ws : List InputRule) (proof : List ℕ) (table store table' store' : List ℤ)
    (answer answer' : List ℕ)
    → CheckService (program_text ws) proof table store table' store' answer answer' 0 → HasNone ws

-- Of no other text is "inconsistent" answered, printed or returned, and a text is that of one program at
-- most
abbrev pub OnlyPrinted : Type 0
OnlyPrinted =
    (text proof : List ℕ) (table store table' store' : List ℤ) (c : Counts)
    → CheckedTexts text proof table store table' store' (Inconsistent c)
    → (ws : List InputRule) × (text ≡ program_text ws)

abbrev pub OnlyLine : Type 0
OnlyLine =
    (text proof more : List ℕ) → printed text proof ≡ bytes "inconsistent" ++ more
    → (ws : List InputRule) × (text ≡ program_text ws)

abbrev pub OnlyReturned : Type 0
OnlyReturned =
    (text proof : List ℕ) (table store table' store' : List ℤ) (answer answer' : List ℕ)
    → CheckService text proof table store table' store' answer answer' 0
    → (ws : List InputRule) × (text ≡ program_text ws)

-- The same of the long check, `check_long` by its contract `CheckedLong` and `aspdrupe_check_long` by
-- its own: its proofs may be as long as a signed word can count, and its memory is any
abbrev pub SoundLong : Type 1
SoundLong =
    (ws : List InputRule) (proof : List ℕ) (table store table' store' : List ℤ)
    (memory memory' : List ℕ) (c : Counts)
    → CheckedLong (program_text ws) proof table store table' store' memory memory' (Inconsistent c)
    → HasNone ws

abbrev pub SoundLongReturned : Type 1
SoundLongReturned =
    (ws : List InputRule) (proof : List ℕ) (table store table' store' : List ℤ)
    (memory memory' answer answer' : List ℕ)
    → LongService (program_text ws) proof table store table' store' memory memory' answer answer' 0
    → HasNone ws

abbrev pub OnlyLong : Type 0
OnlyLong =
    (text proof : List ℕ) (table store table' store' : List ℤ) (memory memory' : List ℕ) (c : Counts)
    → CheckedLong text proof table store table' store' memory memory' (Inconsistent c)
    → (ws : List InputRule) × (text ≡ program_text ws)

abbrev pub OnlyLongReturned : Type 0
OnlyLongReturned =
    (text proof : List ℕ) (table store table' store' : List ℤ)
    (memory memory' answer answer' : List ℕ)
    → LongService text proof table store table' store' memory memory' answer answer' 0
    → (ws : List InputRule) × (text ≡ program_text ws)

abbrev pub PrintedOnce : Type 0
PrintedOnce = (ws vs : List InputRule) → program_text ws ≡ program_text vs → ws ≡ vs

-- The set test

-- After the reader, by the contracts of `read_program` and `test_set`: where the reader took the text
-- of a program and told N and R, the test of the table that it left answers yes exactly where the
-- numbers listed rise strictly within 1 to N, 8,192 marks are lent, and the numbers are an answer set
-- of that program.
abbrev pub YesPrinted : Type 0
YesPrinted =
    (ws : List InputRule) (table table' : List ℤ) (N R : ℕ)
    → ProgramRead (program_text ws) table table' (Ok (record { atoms = N; rules = R }))
    → (l marks marks' : List ℕ) (r : Result SetAnswer SetFault) → SetTested table' R l marks marks' r
    → (r ≡ Ok Yes)
    ↔ ((ascends 0 N l ≡ true) × (length marks ≡ entries) × IsAnswerSet (λ v. v ∈ l) ws)

-- The same of the services for C and Rust: where `aspdrupe_read_program` returned 0 and its buffer
-- then begins with N and R, `aspdrupe_test_set` returns 0 exactly of those sets
abbrev pub YesReturned : Type 0
YesReturned =
    (ws : List InputRule) (table table' : List ℤ) (before more : List ℕ) (N R : ℕ)
    → ProgramService (program_text ws) table table' before (N ∷ R ∷ more) 0
    → (l marks marks' answer answer' : List ℕ) (code : ℕ)
    → SetService table' R l marks marks' answer answer' code
    → (code ≡ 0)
    ↔ ((ascends 0 N l ≡ true) × (length marks ≡ entries) × IsAnswerSet (λ v. v ∈ l) ws)

-- Sums of up to 64 literals

-- Where `split_sums`, by its contract, wrote so many bytes of the text of a program, and the whole
-- check answers "inconsistent" of them, then the program as written has no answer set. Any group size,
-- table, output, proof and store are meant.
abbrev pub SoundSplit : Type 1
SoundSplit =
    (ws : List InputRule) (group : ℕ) (table table' : List ℤ) (output output' : List ℕ)
    (bytes atoms rules N : ℕ)
    → SplitSums (program_text ws) group table table' output output' (split_into bytes atoms rules N)
    → (proof : List ℕ) (words store words' store' : List ℤ) (c : Counts)
    → CheckedTexts (take bytes output') proof words store words' store' (Inconsistent c) → HasNone ws

-- The same where the long check answers it
abbrev pub SoundSplitLong : Type 1
SoundSplitLong =
    (ws : List InputRule) (group : ℕ) (table table' : List ℤ) (output output' : List ℕ)
    (bytes atoms rules N : ℕ)
    → SplitSums (program_text ws) group table table' output output' (split_into bytes atoms rules N)
    → (proof : List ℕ) (words store words' store' : List ℤ) (memory memory' : List ℕ) (c : Counts)
    → CheckedLong (take bytes output') proof words store words' store' memory memory' (Inconsistent c)
    → HasNone ws

-- Where the reader took what `split_sums` wrote, and the set test says yes of a set: the atoms of the
-- set up to N, as `split_sums` told it, are an answer set of the program as written
abbrev pub YesSplit : Type 0
YesSplit =
    (ws : List InputRule) (group : ℕ) (table table' : List ℤ) (output output' : List ℕ)
    (bytes atoms rules N : ℕ)
    → SplitSums (program_text ws) group table table' output output' (split_into bytes atoms rules N)
    → (words words' : List ℤ) (A R : ℕ) → ProgramRead (take bytes output') words words' (Ok (record { atoms = A; rules = R }))
    → (l marks marks' : List ℕ) → SetTested words' R l marks marks' (Ok Yes)
    → IsAnswerSet (λ v. (v ≤ N) × (v ∈ l)) ws

-- And every answer set is found so: the set test says yes of some set with the same atoms up to N
abbrev pub FoundSplit : Type 0
FoundSplit =
    (ws : List InputRule) (group : ℕ) (table table' : List ℤ) (output output' : List ℕ)
    (bytes atoms rules N : ℕ)
    → SplitSums (program_text ws) group table table' output output' (split_into bytes atoms rules N)
    → (words words' : List ℤ) (A R : ℕ) → ProgramRead (take bytes output') words words' (Ok (record { atoms = A; rules = R }))
    → (l : List ℕ) → IsAnswerSet (λ v. v ∈ l) ws
    → (k : List ℕ) × ((v : ℕ) → v ∈ l ↔ ((v ≤ N) × (v ∈ k)))
    × ((marks marks' : List ℕ) (r : Result SetAnswer SetFault) → length marks ≡ entries
    → SetTested words' R k marks marks' r → r ≡ Ok Yes)

-- The same of any sets, listed or not: what was written is the text of a program, of which each answer
-- set of the program as written has an extension that is one, with the same atoms up to N
abbrev pub ExtendsSplit : Type 1
ExtendsSplit =
    (ws : List InputRule) (group : ℕ) (table table' : List ℤ) (output output' : List ℕ)
    (bytes atoms rules N : ℕ)
    → SplitSums (program_text ws) group table table' output output' (split_into bytes atoms rules N)
    → (vs : List InputRule) × (take bytes output' ≡ program_text vs)
    × ((M : ℕ → Type 0) → IsAnswerSet M ws
    → (K : ℕ → Type 0) × IsAnswerSet K vs × ((a : ℕ) → M a ↔ ((a ≤ N) × K a)))

-- What was written is read: a table of as many words as there are bytes holds it, and its largest atom
-- and its rules are those told
abbrev pub ReadSplit : Type 0
ReadSplit =
    (ws : List InputRule) (group : ℕ) (table table' : List ℤ) (output output' : List ℕ)
    (bytes atoms rules N : ℕ)
    → SplitSums (program_text ws) group table table' output output' (split_into bytes atoms rules N)
    → (words words' : List ℤ) (r : Result ProgramCounts ProgramRefusal) → bytes ≤ length words
    → ProgramRead (take bytes output') words words' r → r ≡ Ok (record { atoms = atoms; rules = rules })

-- Nothing is missed: a text whose sums are split is the text of a program
abbrev pub OnlySplit : Type 0
OnlySplit =
    (text : List ℕ) (group : ℕ) (table table' : List ℤ) (output output' : List ℕ)
    (bytes atoms rules N : ℕ)
    → SplitSums text group table table' output output' (split_into bytes atoms rules N)
    → (ws : List InputRule) × (text ≡ program_text ws)

-- The same of the services for C and Rust: where `aspdrupe_split_sums` returned 0, and its buffer
-- then begins with the bytes, two numbers and N, and another service returns 0 of what was written
abbrev pub SoundSplitReturned : Type 1
SoundSplitReturned =
    (ws : List InputRule) (group : ℕ) (table table' : List ℤ) (output output' before more : List ℕ)
    (bytes atoms rules N : ℕ)
    → SplitService (program_text ws) group table table' output output' before
    (bytes ∷ atoms ∷ rules ∷ N ∷ more) 0
    → (proof : List ℕ) (words store words' store' : List ℤ) (answer answer' : List ℕ)
    → CheckService (take bytes output') proof words store words' store' answer answer' 0
    → HasNone ws

abbrev pub SoundSplitLongReturned : Type 1
SoundSplitLongReturned =
    (ws : List InputRule) (group : ℕ) (table table' : List ℤ) (output output' before more : List ℕ)
    (bytes atoms rules N : ℕ)
    → SplitService (program_text ws) group table table' output output' before
    (bytes ∷ atoms ∷ rules ∷ N ∷ more) 0
    → (proof : List ℕ) (words store words' store' : List ℤ) (memory memory' answer answer' : List ℕ)
    → LongService (take bytes output') proof words store words' store' memory memory' answer answer' 0
    → HasNone ws

abbrev pub YesSplitReturned : Type 0
YesSplitReturned =
    (ws : List InputRule) (group : ℕ) (table table' : List ℤ) (output output' before more : List ℕ)
    (bytes atoms rules N : ℕ)
    → SplitService (program_text ws) group table table' output output' before
    (bytes ∷ atoms ∷ rules ∷ N ∷ more) 0
    → (words words' : List ℤ) (first rest : List ℕ) (A R : ℕ)
    → ProgramService (take bytes output') words words' first (A ∷ R ∷ rest) 0
    → (l marks marks' answer answer' : List ℕ) → SetService words' R l marks marks' answer answer' 0
    → IsAnswerSet (λ v. (v ≤ N) × (v ∈ l)) ws

abbrev pub FoundSplitReturned : Type 0
FoundSplitReturned =
    (ws : List InputRule) (group : ℕ) (table table' : List ℤ) (output output' before more : List ℕ)
    (bytes atoms rules N : ℕ)
    → SplitService (program_text ws) group table table' output output' before
    (bytes ∷ atoms ∷ rules ∷ N ∷ more) 0
    → (words words' : List ℤ) (first rest : List ℕ) (A R : ℕ)
    → ProgramService (take bytes output') words words' first (A ∷ R ∷ rest) 0
    → (l : List ℕ) → IsAnswerSet (λ v. v ∈ l) ws
    → (k : List ℕ) × ((v : ℕ) → v ∈ l ↔ ((v ≤ N) × (v ∈ k)))
    × ((marks marks' answer answer' : List ℕ) (code : ℕ) → length marks ≡ entries
    → SetService words' R k marks marks' answer answer' code → code ≡ 0)

abbrev pub OnlySplitReturned : Type 0
OnlySplitReturned =
    (text : List ℕ) (group : ℕ) (table table' : List ℤ) (output output' before more : List ℕ)
    (bytes atoms rules N : ℕ)
    → SplitService text group table table' output output' before (bytes ∷ atoms ∷ rules ∷ N ∷ more) 0
    → (ws : List InputRule) × (text ≡ program_text ws)

-- The cheapest answer set: document 02, Change 12

-- "the set is an answer set and .. no answer set costs less than C": nor does one of the program with
-- any further constraints. Each pair of ks is a literal with its cost.
pub record IsCheapest (ws : List InputRule) (ks : List Weighted) (l : List ℕ) (C : ℕ) : Type 1 where
  pub answers : IsAnswerSet (λ v. v ∈ l) ws
  pub costs : Costs (λ v. v ∈ l) ks C
  pub least : (M : ℕ → Type 0) → IsAnswerSet M ws → (c : ℕ) → Costs M ks c → C ≤ c
  pub further : (more : List InputRule) → ((r : InputRule) → r ∈ more → WrittenConstraint r)
      → (M : ℕ → Type 0) → IsAnswerSet M (ws ++ more) → (c : ℕ) → Costs M ks c → C ≤ c

-- What a passing verdict of `check_cheapest` means, by its contract, of the text of a program, a set
-- and the words of pairs; and any proof text, table and store
abbrev pub CheapestPrinted : Type 1
CheapestPrinted =
    (ws : List InputRule) (l : List ℕ) (ks : List Weighted) (proof : List ℕ)
    (table store table' store' : List ℤ) (C : ℕ)
    → CheckedCheapest (program_text ws) l (pair_words ks) proof table store table' store' (Ok C)
    → IsCheapest ws ks l C

-- The same of the service for C and Rust, `aspdrupe_check_cheapest`: where it returns 0 and its buffer
-- then begins with C
abbrev pub CheapestReturned : Type 1
CheapestReturned =
    (ws : List InputRule) (l : List ℕ) (ks : List Weighted) (proof : List ℕ)
    (table store table' store' : List ℤ) (answer more : List ℕ) (C : ℕ)
    → CheapestService (program_text ws) l (pair_words ks) proof table store table' store' answer
    (C ∷ more) 0
    → IsCheapest ws ks l C

-- Of no other text and no other words does it pass, or is 0 returned
abbrev pub OnlyCheapest : Type 0
OnlyCheapest =
    (text l : List ℕ) (costs : List ℤ) (proof : List ℕ) (table store table' store' : List ℤ) (C : ℕ)
    → CheckedCheapest text l costs proof table store table' store' (Ok C)
    → (ws : List InputRule) × (ks : List Weighted) × (text ≡ program_text ws) × (costs ≡ pair_words ks)

abbrev pub OnlyCheapestReturned : Type 0
OnlyCheapestReturned =
    (text l : List ℕ) (costs : List ℤ) (proof : List ℕ) (table store table' store' : List ℤ)
    (answer answer' : List ℕ)
    → CheapestService text l costs proof table store table' store' answer answer' 0
    → (ws : List InputRule) × (ks : List Weighted) × (text ≡ program_text ws) × (costs ≡ pair_words ks)

-- Plain rules

-- The answer sets above are those of the plain rules by which Change 3 says it
abbrev pub SameAnswerSets : Type 1
SameAnswerSets = (M : ℕ → Type 0) (ws : List InputRule) → IsAnswerSet M ws ↔ AnswerSet M (expand ws)
