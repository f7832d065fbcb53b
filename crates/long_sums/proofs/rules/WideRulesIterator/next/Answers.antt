use Prim.Native.Nat.{◌-◌, ◌<◌}
use native.Mathlib.Omega.{arith}
use lib.ListN.{length, take, drop}
use Rattle.words.proofs.Parts.{tail_of}
use Rattle.aspif.specs.Tables.{starts_at}
use Rattle.aspif.proofs.Cursors.{starts-on, starts-length}
use Rattle.long_sums.proofs.Held.{held-shape, first-held, later-held}
use Rattle.long_sums.proofs.rules.WideRulesIterator.next.Goals as goal

pub rule_size-requires : goal.rule_size-requires
rule_size-requires c = let s = c.args.self.now in held-shape s.words.now (first-held s.words.now s.left (omega (arith, c.if-self-eq0.false)) s.held)

pub invariant_of-self : goal.invariant_of-self
invariant_of-self c = let s = c.args.self.now in record {
  held = rw (tail_of c.rule_size.result s.words.now, c.rule_size.ensures.size.0) (later-held s.words.now s.left (omega (arith, c.if-self-eq0.false)) s.held);
}

pub invariant_of-result : goal.invariant_of-result
invariant_of-result c = let s = c.args.self.now in record { held = first-held s.words.now s.left (omega (arith, c.if-self-eq0.false)) s.held }

pub returns-clause-steps : goal.returns-clause-steps
returns-clause-steps c = let s = c.args.self.now in rw (tail_of c.rule_size.result s.words.now, c.rule_size.ensures.size.0) (starts-on s.left s.words.now (omega (arith, c.if-self-eq0.false)))

pub returns-clause-goes : goal.returns-clause-goes
returns-clause-goes c = let s = c.args.self.now in
    let n : length (starts_at (s.left - 1) (take (length s.words.now - c.rule_size.result) (drop c.rule_size.result s.words.now))) < length (starts_at s.left s.words.now) = omega (arith, c.if-self-eq0.false, starts-length s.left s.words.now, starts-length (s.left - 1) (take (length s.words.now - c.rule_size.result) (drop c.rule_size.result s.words.now))) in
    record { on = λ f. (tt, tt, n); keeps = tt; rests = λ f. tt }
