use mathlib.Core.Path.{◌≡◌, sym, ◌∙◌, ap}
use Prim.Native.Nat.{ℕ, ◌≤◌, ◌<◌}
use lib.IntN.{pos}
use lib.ListN.{length, replicate}
use Rattle.words.specs.Limits.{longest, widest}
use Rattle.aspif.specs.Rules.{expand}
use Rattle.runs.specs.Course.{course, ends_empty}
use Rattle.checker.proofs.Verdicts.{too_long}
use borrow.Author.Rules.{rules}
use Rattle.splits.proofs.halves.accepts.Goals as goal

pub returns-then-text-gt-LONGEST : goal.returns-then-text-gt-LONGEST
returns-then-text-gt-LONGEST c = let s = c in
    let l : longest < length s.args.text.now = search rules in record {
      empty = s.requires.empty;
      checked = λ ws p.
          let q = too_long longest s.args.atoms (expand ws) (length s.args.store.now) s.args.text.now l in
          record { answer = sym (ap ends_empty q); ended = rw q tt };
    }

pub run_half-run-requires : goal.run_half-run-requires
run_half-run-requires c = let p = c.requires in
    let h : length c.args.text.now ≤ widest = search rules in record { program = p.program; start = (c.know_atoms.ensures, p.start.1); bodies = p.bodies; short = h; empty = p.empty }

pub ends_empty-accepted-requires : goal.ends_empty-accepted-requires
ends_empty-accepted-requires c =
    let s = c in
    let p = s.requires.program.0 in
    let h : length s.args.text.now ≤ longest = search rules in
    (course s.args.atoms (expand p.0) (length s.args.store.now) s.args.text.now, (c.run_half-run.ensures longest h p.0 p.1).0)

pub returns : goal.returns
returns c = let q = c in
    let s = c in
    let h : length s.args.text.now ≤ longest = search rules in
    let same : length q.run_half-run.new.store ≡ length s.args.store.now = search rules in record { empty = c.zero_all.ensures ∙ ap (λ (n : ℕ). replicate n (pos 0)) same; checked = λ ws p. let R = q.run_half-run.ensures longest h ws p in record { answer = c.ends_empty-accepted.ensures longest _ (expand ws) _ _ R.0; ended = R.1 } }
