use mathlib.Core.Path.{◌≡◌, sym, ap, ◌∙◌}
use mathlib.Core.List.{List}
use Prim.Native.Nat.{ℕ, suc, ◌+◌, ◌-◌, ◌<◌}
use native.Mathlib.Omega.{arith}
use lib.IntN.{ℤ}
use lib.ListN.{get_or}
use Rattle.words.specs.Limits.{most_held}
use Rattle.words.specs.Literals.{same_list}
use Rattle.aspif.specs.Tables.{body_words_at}
use Rattle.heads.specs.Heads.{bucket_at, words_from, hash_from, BodyPlace}
use Rattle.heads.proofs.Walks.{walk_from, walk-on, next-less}
use Rattle.heads.proofs.Bodies.{none-with}
use borrow.Author.Rules.{rules}
use Rattle.heads.proofs.rule_with.Goals as goal
use Rattle.heads.proofs.rule_with.Goals.{In-loop-p, After-is_same_list}

pub loop-p-init : goal.loop-p-init
loop-p-init c =
    let s = c in
    let h = c.hash_of.ensures.hash in
    walk_from s.requires.0.entered.bodies (omega (arith, h)) (c.word_of-p.ensures ∙ ap (λ k. get_or s.args.index.now (bucket_at + k) 0) h.0)

-- the rule at hand
module _ (c : In-loop-p) where
  abbrev t : List ℤ
  t = c.args.table.now

  abbrev k : ℕ
  k = c.loop-p.p - 1

  is : c.loop-p.p ≡ suc k
  is = omega (arith, c.loop-p-test.true)

  place : BodyPlace t c.args.rules k (hash_from 0 c.args.body.now)
  place = c.loop-p.invariant.ahead k is

  few : k < most_held
  few = (c.requires.0.entered.bodies.within k _ place).0

pub numbered-rule-requires : goal.numbered-rule-requires
numbered-rule-requires c = (c.requires.0, c.requires.1, (place (goal.at.numbered-rule-requires c).In-loop-p).0)

-- what the calls tell of its body
tells : (c : After-is_same_list) → same_list c.args.body.now (body_words_at (words_from (c.loop-p.p - 1) c.args.table.now)) ≡ c.is_same_list.result
tells c = sym (c.is_same_list.ensures ∙ ap (same_list c.args.body.now) (c.body.ensures ∙ ap body_words_at c.numbered-rule.ensures))

pub returns-then-is_same_list : goal.returns-then-is_same_list
returns-then-is_same_list c =
    let b = (goal.at.returns-then-is_same_list c).After-is_same_list in
    let d = (goal.at.returns-then-is_same_list c).In-loop-p in
    ((place d).0, tells b ∙ c.if-is_same_list.true)

pub loop-p-smaller : goal.loop-p-smaller
loop-p-smaller c =
    let d = (goal.at.loop-p-smaller c).In-loop-p in
    let e = c.word_of-p-in-loop-p.ensures in
    omega (arith, e, next-less d.requires.0.entered.bodies d.loop-p.invariant (is d))

pub loop-p-preserved : goal.loop-p-preserved
loop-p-preserved c =
    let b = (goal.at.loop-p-preserved c).After-is_same_list in
    let d = (goal.at.loop-p-preserved c).In-loop-p in
    walk-on d.requires.0.entered.bodies d.loop-p.invariant (is d) c.word_of-p-in-loop-p.ensures (λ x o. o) (λ m. tells b ∙ c.if-is_same_list.false)

pub returns : goal.returns
returns c =
    let s = c in
    none-with s.args.table.now s.args.rules s.args.body.now c.loop-p.p c.loop-p-test.false c.loop-p.invariant

pub overflow_add-hash_of : goal.overflow_add-hash_of
overflow_add-hash_of c = let h = c.hash_of.ensures.hash.1 in search rules

pub overflow_add-k : goal.overflow_add-k
overflow_add-k c = let h = few (goal.at.overflow_add-k c).In-loop-p in search rules
