-- The line that `verdict` prints: document 01, 'What `verdict` prints'.
-- Assumes nothing.
use Rattle.std.specs.Prelude.{List, [], ◌∷◌, ◌++◌, ℕ}
use Rattle.text.specs.Decimals.{decimal}
use Rattle.text.specs.Strings.{bytes}
use Rattle.aspif.specs.Numbers.{number_of}
use Rattle.drupe.specs.Numbers as Proof
use Rattle.checker.specs.Check.{check}
use Rattle.checker.specs.declared.Counts.{Counts}
use Rattle.checker.specs.declared.Verdict.{Verdict}
use Rattle.checker.specs.declared.Verdict.TheVariants.{Inconsistent, Open, RefusedProgram, RefusedProof}

-- each number after a space, 32, and a newline, 10
abbrev pub numbered : List ℕ → List ℕ
numbered [] = 10 ∷ []
numbered (n ∷ ns) = 32 ∷ (decimal n ++ numbered ns)

-- "N R S K (R rules, S steps, K live nogoods)"
abbrev pub counts_text : Counts → List ℕ
counts_text c = numbered (c.atoms ∷ c.rules ∷ c.steps ∷ c.nogoods ∷ [])

-- "Its one line is `inconsistent N R S K` or `open N R S K` (R rules, S steps, K live nogoods), `refused program NUMBER LINE` or
-- `refused proof NUMBER STEP`."
abbrev pub verdict_line : Verdict → List ℕ
verdict_line (Inconsistent c) = bytes "inconsistent" ++ counts_text c
verdict_line (Open c) = bytes "open" ++ counts_text c
verdict_line (RefusedProgram r) = bytes "refused program" ++ numbered (number_of r.fault ∷ r.line ∷ [])
verdict_line (RefusedProof r) = bytes "refused proof" ++ numbered (Proof.number_of r.fault ∷ r.step ∷ [])

-- the bytes of the longest line: `inconsistent`, four numbers of 20 digits, each after a space, and the newline
abbrev pub longest_line : ℕ
longest_line = 97

-- "with a table and a store of 16,384 words"
abbrev pub lent : ℕ
lent = 16384

-- what `verdict` prints of a program text and a proof text
unfoldable pub printed : List ℕ → List ℕ → List ℕ
printed text proof = verdict_line (check text proof lent lent).verdict
