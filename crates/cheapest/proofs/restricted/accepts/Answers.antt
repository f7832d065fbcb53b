use mathlib.Core.Path.{◌≡◌, sym, ap}
use mathlib.Core.List.{List}
use Prim.Native.Nat.{ℕ, ◌+◌}
use native.Mathlib.Omega.{arith}
use lib.IntN.{pos}
use lib.ListN.{length, replicate, length-replicate}
use Rattle.aspif.specs.Rules.{InputRule, table_words}
use Rattle.steps.specs.Held.{Program}
use Rattle.costs.specs.Costs.{Cost, restricted}
use Rattle.cheapest.specs.Private.{Restricts}
use Rattle.cheapest.proofs.Answers.{checked-by}
use Rattle.cheapest.proofs.Words.{restricts-size, restricted-program}
use Rattle.cheapest.proofs.restricted.accepts.Goals as goal
use Rattle.cheapest.proofs.restricted.accepts.Goals.{After-append_rule}

-- the program with the restriction
module _ (c : After-append_rule) where
  whole : {ws : List InputRule} → Program c.args.table.now c.args.rules c.args.atoms ws
      → {ks : List Cost} {C : ℕ} → Restricts c.args.atoms ks C c.args.rule.now
      → Program c.append_rule.new.wide (c.args.rules + 1) c.args.atoms (restricted ws ks C)
      × (c.append_rule.new.wide ≡ table_words (length c.append_rule.new.wide) (restricted ws ks C))
  whole p R = let k = c.append_rule.ensures in restricted-program R p k.0 k.1

pub append_rule-requires : goal.append_rule-requires
append_rule-requires c = let p = c.requires in
    let n = length-replicate 65564 (pos 0) in record { rules = p.program.0.1.holds.sound; short = omega (arith, p.short, restricts-size p.rule.2, n); wide = ap (λ (k : ℕ). replicate k (pos 0)) (sym n) }

pub check_proof-verdict-requires : goal.check_proof-verdict-requires
check_proof-verdict-requires c = let d = (goal.at.check_proof-verdict-requires c).After-append_rule in
    let p = d.requires in
    let r = p.rule in record { program = ((restricted p.program.0.0 r.0 r.1, (whole d p.program.0.1 r.2).0), omega (arith, p.program.1)); empty = p.empty }

pub returns : goal.returns
returns c = λ ws p ks C R.
    let d = (goal.at.returns c).After-append_rule in
    let w = whole d p R in
    checked-by 0 (length d.args.store.now) ws ks C d.args.proof.now _ (c.check_proof-verdict.ensures (restricted ws ks C) w.0 w.1) c.is_inconsistent.ensures
