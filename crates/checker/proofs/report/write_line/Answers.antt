-- `checker::report::write_line` meets its contract: a word, and then numbers and the newline.
-- Assumes nothing.
use native.Mathlib.Omega.{arith}
use Rattle.text.proofs.Puts.{put_on}
use Rattle.checker.proofs.Puts.{line-put}
use Rattle.checker.proofs.report.write_line.Goals as goal

pub returns-in-Inconsistent : goal.returns-in-Inconsistent
returns-in-Inconsistent c = let word = c.put_bytes-at.ensures in
    let rest = c.put_counts.ensures in let all = line-put c.in-Inconsistent.is (put_on word rest.written) (omega (arith, word.ends, rest.within)) in record { size = all.0; written = all.1.0; within = all.1.1 }

pub returns-in-Open : goal.returns-in-Open
returns-in-Open c = let word = c.put_bytes-at-in-Open.ensures in
    let rest = c.put_counts-in-Open.ensures in let all = line-put c.in-Open.is (put_on word rest.written) (omega (arith, word.ends, rest.within)) in record { size = all.0; written = all.1.0; within = all.1.1 }

pub returns-in-RefusedProgram : goal.returns-in-RefusedProgram
returns-in-RefusedProgram c = let word = c.put_bytes-at-in-RefusedProgram.ensures in
    let rest = rw (c.from-in-RefusedProgram.ensures, c.from.ensures) at c.put_two.ensures in let all = line-put c.in-RefusedProgram.is (put_on word rest.written) (omega (arith, word.ends, rest.within)) in record { size = all.0; written = all.1.0; within = all.1.1 }

pub returns-in-RefusedProof : goal.returns-in-RefusedProof
returns-in-RefusedProof c = let word = c.put_bytes-at-in-RefusedProof.ensures in
    let rest = rw (c.from-in-RefusedProof-2.ensures, c.from-in-RefusedProof.ensures) at c.put_two-in-RefusedProof.ensures in let all = line-put c.in-RefusedProof.is (put_on word rest.written) (omega (arith, word.ends, rest.within)) in record { size = all.0; written = all.1.0; within = all.1.1 }
