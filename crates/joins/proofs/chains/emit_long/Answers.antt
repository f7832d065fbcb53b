use Prim.Native.Nat.{suc, ◌≤◌}
use native.Mathlib.Omega.{arith}
use Rattle.totalizer.proofs.Emitted.{emits-full}
use Rattle.joins.proofs.Chained.{written-rules, written-atoms}
use Rattle.joins.proofs.chains.emit_long.Goals as goal

pub returns-then-place-gt-MOST_RULES : goal.returns-then-place-gt-MOST_RULES
returns-then-place-gt-MOST_RULES c = let s = c in
    let h = c.if-place-gt-MOST_RULES.true in record { rules = λ l r e. emits-full _ s.args.place s.requires.place _ h; atoms = λ l r e k. absurd (omega (arith, h, k)); low = omega arith }

pub emit_chain-requires : goal.emit_chain-requires
emit_chain-requires c = let s = c in
    let h : suc s.args.bound ≤ 4096 = omega (arith, s.requires.pairs.1) in record { place = s.requires.place; pairs = s.requires.pairs; group = s.requires.group; atoms = s.requires.atoms; room = (h, h, h, h, h, h) }

pub returns : goal.returns
returns c = let W = c.emit_chain.ensures in record { rules = λ l r e. written-rules W l r e; atoms = λ l r e h. written-atoms W l r e h; low = W.low }
