-- `by_name::put_name` meets its contract: no place before that at hand is free, so that the first is taken unless it is at hand.
-- Assumes nothing.
use mathlib.Core.Path.{sym, ◌∙◌, ap, subst}
use mathlib.Core.Logic.{inl, inr}
use Prim.Native.Nat.{◌+◌, ◌*◌, ◌%◌}
use native.Mathlib.Omega.{arith}
use lib.IntN.{pos}
use lib.ListN.{length, take, set}
use mir.Facts.{to_z_pos}
use mir.Syntax.{w16}
use Rattle.words.specs.Limits.{entries}
use Rattle.names.specs.ByName.{width, Taken, PutName}
use Rattle.names.proofs.Called.{not_free, put-name}
use Rattle.names.proofs.by_name.put_name.Goals as goal

pub returns-then-is_free : goal.returns-then-is_free
returns-then-is_free c =
    let l = c.loop-k in
    let s = c in
    let place = (s.args.first + l.k) % entries in
    let word = to_z_pos w16 {n = s.args.name} (omega (arith, s.requires.3)) in
    rw word (subst (λ b. PutName s.args.first b (set l.bodies (width * entries + place) (pos s.args.name))) l.invariant.0
    (put-name l.bodies place s.args.name (ap length l.invariant.0 ∙ s.requires.0) (omega arith) s.requires.2 s.args.first (elim l.invariant.1 [ inl p ↦ inl (omega (arith, p, s.requires.1)) | inr t ↦ inr t ])))

pub loop-k-preserved : goal.loop-k-preserved
loop-k-preserved c =
    let l = c.loop-k in
    let here = not_free l.bodies ((c.args.first + l.k) % entries) (sym c.is_free.ensures ∙ c.if-is_free.false) in
    (l.invariant.0, inr (elim l.invariant.1 [ inl p ↦ subst (Taken l.bodies) (omega (arith, p, c.requires.1)) here | inr t ↦ t ]))

pub returns : goal.returns
returns c =
    let l = c.loop-k in
    let e = l.invariant.0 in record {
      records = ap (take (width * entries)) e;
      here = elim l.invariant.1 [ inl p ↦ absurd (omega (arith, p, c.loop-k-test.false)) | inr t ↦ t ];
      still = λ k t. subst (λ b. Taken b k) (sym e) t;
    }
