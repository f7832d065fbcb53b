use mathlib.Core.Path.{◌≡◌, sym, ◌∙◌, ap}
use Prim.Native.Nat.{ℕ, ◌≤◌, ◌<◌}
use lib.IntN.{pos}
use lib.ListN.{length, replicate}
use Rattle.words.specs.Limits.{longest}
use Rattle.aspif.specs.Rules.{expand}
use Rattle.runs.specs.Course.{course, ends_empty}
use Rattle.checker.proofs.Verdicts.{too_long}
use borrow.Author.Rules.{rules}
use Rattle.checker.proofs.judging.is_accepted.Goals as goal

pub returns-then-text-gt-LONGEST : goal.returns-then-text-gt-LONGEST
returns-then-text-gt-LONGEST c = let s = c in
    let l : longest < length s.args.text.now = search rules in record { empty = s.requires.empty; accepted = λ ws p. sym (ap ends_empty (too_long longest _ (expand ws) (length s.args.store.now) s.args.text.now l)) }

pub ends_empty-accepted-requires : goal.ends_empty-accepted-requires
ends_empty-accepted-requires c =
    let q = c in
    let s = c in
    let p = s.requires.program.0 in
    let h : length s.args.text.now ≤ longest = search rules in
    (course s.args.atoms (expand p.0) (length s.args.store.now) s.args.text.now, q.run_proof-run.ensures longest h p.0 p.1)

pub returns : goal.returns
returns c = let q = c in
    let s = c in
    let h : length s.args.text.now ≤ longest = search rules in
    let same : length q.run_proof-run.new.store ≡ length s.args.store.now = search rules in record {
      empty = c.zero_all.ensures ∙ ap (λ (n : ℕ). replicate n (pos 0)) same;
      accepted = λ ws p. c.ends_empty-accepted.ensures longest _ (expand ws) _ _ (q.run_proof-run.ensures longest h ws p)
          ∙ ap (λ (n : ℕ). ends_empty (course n (expand ws) (length s.args.store.now) s.args.text.now)) p.top;
    }
