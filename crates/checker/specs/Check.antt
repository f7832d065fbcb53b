-- The whole check: document 01, 'The proof's seven letters', 'Questions put to the input' and 'What `verdict` prints'. What the proof
-- comes to is `course` in specs/Course.antt of `runs`.
-- Assumes nothing.
use Rattle.std.specs.Prelude.{◌≡◌, Bool, true, false, cond, List, ℕ, ℤ, pos, length, replicate}
use Rattle.words.specs.Limits.{longest, widest}
use Rattle.aspif.specs.Rules.{InputRule, expand, atoms, table_words}
use Rattle.aspif.specs.Reading.{Reading, refused, program, read_text}
use Rattle.derivation.specs.States.{State}
use Rattle.derivation.specs.Steps.{empty_live}
use Rattle.nogoods.specs.Store.{store_words}
use Rattle.runs.specs.Course.{Course, stopped, through, course_within}
use Rattle.checker.specs.declared.Counts.{Counts}
use Rattle.checker.specs.declared.Verdict.{Verdict}
use Rattle.checker.specs.declared.Verdict.TheVariants.{Inconsistent, Open, RefusedProgram, RefusedProof}

-- the verdict is "inconsistent"
abbrev pub is_inconsistent : Verdict → Bool
is_inconsistent (Inconsistent c) = true
is_inconsistent (Open c) = false
is_inconsistent (RefusedProgram r) = false
is_inconsistent (RefusedProof r) = false

-- the verdict with N, R, S and K, every word of the table and every word of the store
pub record Checked : Type 0 where
  pub verdict : Verdict
  pub table : List ℤ
  pub store : List ℤ

-- N, R, S and K: "R rules, S steps, K live nogoods"
abbrev pub counts_of : (N R steps : ℕ) → State → Counts
counts_of N R n z = record { atoms = N; rules = R; steps = n; nogoods = length z.live }

-- "inconsistent" where the empty nogood is live, and "open" where it is not
abbrev pub saying : Bool → Counts → Verdict
saying b c = cond b (Inconsistent c) (Open c)

-- "The empty nogood is looked for after the last step only". A refusal leaves table and store zero throughout. "Rule numbers, N, R ..
-- count the rules as written".
abbrev pub judged : (table_size store_size : ℕ) → List InputRule → Course → Checked
judged t s ws (stopped k n) =
    record { verdict = RefusedProof (record { fault = k; step = n }); table = replicate t (pos 0); store = replicate s (pos 0) }
judged t s ws (through n z stored) =
    let said = saying (empty_live z) (counts_of (atoms ws) (length ws) n z) in
    record { verdict = said; table = table_words t ws; store = store_words s stored }

-- "The verdict is judged on this expansion": the steps are about the plain rules that the program stands for
abbrev pub judged_reading : (limit table_size store_size : ℕ) → (proof : List ℕ) → Reading → Checked
judged_reading limit t s proof (refused k n) =
    record { verdict = RefusedProgram (record { fault = k; line = n }); table = replicate t (pos 0); store = replicate s (pos 0) }
judged_reading limit t s proof (program ws) = judged t s ws (course_within limit (atoms ws) (expand ws) s proof)

-- the whole check of a program text and a proof text with a table of t words and a store of s words, where question 21 is put with so
-- many bytes as the most; "program before proof"
unfoldable pub check_within : (limit : ℕ) → (text proof : List ℕ) → (table_size store_size : ℕ) → Checked
check_within limit text proof t s = judged_reading limit t s proof (read_text t text)

-- document 01's check: "At most 65,535 bytes? 21."
abbrev pub check : (text proof : List ℕ) → (table_size store_size : ℕ) → Checked
check text proof t s = check_within longest text proof t s

-- what a service says and leaves: the verdict with N, R, S and K, every word of the table and every word of the store, whatever the two
-- texts and whatever the table and the store that are lent
abbrev pub CheckedWithin : (limit : ℕ) → (text proof : List ℕ) → (table store table' store' : List ℤ) → Verdict → Type 0
CheckedWithin limit text proof table store table' store' r =
    record { verdict = r; table = table'; store = store' } ≡ check_within limit text proof (length table) (length store)

-- the public contract of `check_texts`
abbrev pub CheckedTexts : (text proof : List ℕ) → (table store table' store' : List ℤ) → Verdict → Type 0
CheckedTexts text proof table store table' store' r = CheckedWithin longest text proof table store table' store' r

-- the public contract of `check_long`: the same, with what a signed word holds as the most bytes of the proof, and memory that is 0
-- throughout afterwards. Memory occurs nowhere else: it decides no answer.
pub record CheckedLong (text proof : List ℕ) (table store table' store' : List ℤ) (memory memory' : List ℕ) (r : Verdict) : Type 0 where
  pub checked : CheckedWithin widest text proof table store table' store' r
  pub clear : memory' ≡ replicate (length memory) 0
