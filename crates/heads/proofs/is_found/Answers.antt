use mathlib.Core.Path.{sym, subst, ◌∙◌}
use mathlib.Core.Bool.{true≢false}
use mathlib.Core.List.{List}
use Prim.Native.Nat.{ℕ, ◌-◌, ◌<◌}
use native.Mathlib.Omega.{arith}
use lib.IntN.{ℤ}
use lib.ListN.{length, get_or}
use Rattle.words.specs.Limits.{most_held}
use Rattle.heads.specs.Heads.{Completes}
use Rattle.heads.proofs.Bodies.{covers-few, before-less}
use borrow.Author.Rules.{rules}
use Rattle.heads.proofs.is_found.Goals as goal
use Rattle.heads.proofs.is_found.Goals.{In-loop-p}

-- the rule at hand
module _ (c : In-loop-p) where
  abbrev t : List ℤ
  t = c.args.table.now

  abbrev k : ℕ
  k = c.loop-p.p - 1

  low : k < c.args.rules
  low = omega (arith, c.loop-p-test.true, c.loop-p.invariant)

  few : k < most_held
  few = omega (arith, low, covers-few c.requires.0)

  in-names : k < length c.args.names.now
  in-names = omega (arith, low, c.requires.2)

pub numbered-rule-requires : goal.numbered-rule-requires
numbered-rule-requires c = (c.requires.0, c.requires.1, low (goal.at.numbered-rule-requires c).In-loop-p)

pub returns-then-completes : goal.returns-then-completes
returns-then-completes c =
    let d = (goal.at.returns-then-completes c).In-loop-p in
    let a = c.args in
    let q = c.completes.ensures c.if-completes.true in
    λ e. (k d, low d, subst (λ (l : List ℤ). Completes l a.heads.now a.name (get_or a.names.now (k d) 0)) c.numbered-rule.ensures (q.0, sym c.wide.ensures.same ∙ q.1))

pub loop-p-preserved : goal.loop-p-preserved
loop-p-preserved c =
    let d = (goal.at.loop-p-preserved c).In-loop-p in
    let e = c.word_of-p-in-loop-p.ensures in
    omega (arith, e, before-less d.requires.0 (k d) (low d), low d)

pub loop-p-smaller : goal.loop-p-smaller
loop-p-smaller c =
    let d = (goal.at.loop-p-smaller c).In-loop-p in
    let e = c.word_of-p-in-loop-p.ensures in
    omega (arith, e, before-less d.requires.0 (k d) (low d), d.loop-p-test.true)

pub returns-then-rules-p : goal.returns-then-rules-p
returns-then-rules-p c = λ e. absurd (true≢false (sym e))

pub returns : goal.returns
returns c = λ e. absurd (true≢false (sym e))

pub loop-p-init : goal.loop-p-init
loop-p-init c = c.if-rules-p.false

pub overflow_add-k : goal.overflow_add-k
overflow_add-k c = let h = few (goal.at.overflow_add-k c).In-loop-p in search rules

pub offset_bounds-names-k : goal.offset_bounds-names-k
offset_bounds-names-k c = let h = few ((goal.at.offset_bounds-names-k c).In-loop-p) in search rules

pub bounds-names-k : goal.bounds-names-k
bounds-names-k c = in-names ((goal.at.bounds-names-k c).In-loop-p)
