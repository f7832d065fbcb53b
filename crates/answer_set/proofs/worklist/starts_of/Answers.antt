use mathlib.Core.Path.{◌≡◌}
use mathlib.Core.Logic.{inl}
use Prim.Native.Nat.{◌+◌, ◌-◌}
use native.Mathlib.Omega.{arith}
use Rattle.std.specs.Iterator.Adapters.{enumerate_count}
use Rattle.aspif.proofs.Cursors.{few-rules, sound-rules, starts-length}
use Rattle.answer_set.proofs.Giving.{next-start, no-starts}
use borrow.Author.Rules.{rules}
use Rattle.answer_set.proofs.worklist.starts_of.Goals as goal

pub rules_in-requires : goal.rules_in-requires
rules_in-requires c = sound-rules _ _ c.requires.rules_value

pub loop-before-init : goal.loop-before-init
loop-before-init c =
    let r = c.rules_in.result in
    let z : c.args.rules - 0 ≡ c.args.rules = omega arith in
    rw (c.into_iter-before-iterator.ensures.into_iter_gives, c.enumerate-before-items.ensures.source, c.enumerate-before-items.ensures.count) (
      (tt, tt, inl (omega (arith, starts-length r.left r.words.now, c.rules_in.ensures.start.1, few-rules _ _ c.requires.rules_value))),
      tt,
      rw (c.rules_in.ensures.start.0, c.rules_in.ensures.start.1, z) (no-starts 1025 c.requires.rules_nonzero (sound-rules _ _ c.requires.rules_value)),
    )

pub offset_bounds-starts-rules : goal.offset_bounds-starts-rules
offset_bounds-starts-rules c = let h = few-rules _ _ c.requires.rules_value in search rules

pub bounds-starts-rules : goal.bounds-starts-rules
bounds-starts-rules c = omega (arith, few-rules _ _ c.requires.rules_value)

pub loop-before-preserved : goal.loop-before-preserved
loop-before-preserved c =
    let s = c.in-Some.ensures.steps in
    let n = next-start c.loop-before.invariant.2 s.0 in
    let k = enumerate_count c.loop-before.before-iterator in
    let e : c.args.rules - (k + 1) ≡ c.args.rules - k - 1 = omega arith in (
      (tt, tt, inl (omega (arith, s.2, n.is_left, n.so_many, few-rules _ _ c.requires.rules_value))),
      tt,
      rw (c.size-start.ensures.size.0, s.1, s.2, e) n.after,
    )
