use mathlib.Core.Path.{◌≡◌, refl, sym, ap, ◌∙◌}
use mathlib.Core.Bool.{cond}
use mathlib.Core.List.{List}
use Prim.Native.Nat.{ℕ, suc, ◌+◌, ◌-◌, ◌≤◌, ◌<◌}
use native.Mathlib.Omega.{arith}
use lib.IntN.{ℤ}
use lib.ListN.{length, get_or, length-set}
use lib.Seq.{get_or-set_same}
use Rattle.words.specs.Limits.{most_held}
use Rattle.words.specs.Literals.{same_list}
use Rattle.aspif.specs.Tables.{body_at}
use Rattle.aspif.proofs.Readable.{rules-count}
use Rattle.names.specs.Queries.{entry}
use Rattle.heads.specs.Heads.{bucket_at, before_at, hash_from, BodyPlace}
use Rattle.heads.proofs.Walks.{walk_from, walk-on}
use Rattle.heads.proofs.Bodies.{naming-start, naming-on, new-kept, naming-end, before-less}
use borrow.Author.Rules.{rules}
use Rattle.heads.proofs.enter_rules.Goals as goal
use Rattle.heads.proofs.enter_rules.Goals.{In-loop-p}

pub loop-p-init : goal.loop-p-init
loop-p-init c =
    let s = c in
    let h = c.hash_of.ensures.hash in
    let e = c.word_of-p.ensures ∙ ap (λ k. get_or s.args.index.now (bucket_at + k) 0) h.0 in
    let D = s.requires.0.entered.bodies in (
      refl,
      (λ q f. D.first _ q (omega (arith, h)) (sym e ∙ f)),
      λ called B. naming-start s.args.table.now s.args.rules s.args.body.now s.args.name called s.requires.1 s.requires.0.plain B (walk_from D (omega (arith, h)) e),
    )

-- the rule at hand
module _ (c : In-loop-p) where
  abbrev t : List ℤ
  t = c.args.table.now

  abbrev k : ℕ
  k = c.loop-p.p - 1

  is : c.loop-p.p ≡ suc k
  is = omega (arith, c.loop-p-test.true)

  place : BodyPlace t c.args.rules k (hash_from 0 c.args.body.now)
  place = c.loop-p.invariant.1 k is

  few : k < most_held
  few = (c.requires.0.entered.bodies.within k _ place).0

  room : k < length c.loop-p.names
  room = omega (arith, place.0, c.requires.2, c.loop-p.invariant.0)

  less : get_or c.args.index.now (before_at + k) 0 ≤ k
  less = before-less c.requires.0 k place.0

pub numbered-rule-requires : goal.numbered-rule-requires
numbered-rule-requires c = (c.requires.0, c.requires.1, (place (goal.at.numbered-rule-requires c).In-loop-p).0)

pub loop-p-smaller : goal.loop-p-smaller
loop-p-smaller c =
    let d = (goal.at.loop-p-smaller c).In-loop-p in
    let e = c.word_of-p-in-loop-p.ensures in
    omega (arith, e, less d, is d)

pub loop-p-preserved : goal.loop-p-preserved
loop-p-preserved c =
    let f = c in
    let d = (goal.at.loop-p-preserved c).In-loop-p in
    let a = d.args in
    let x = f.name_for.result in
    let D = d.requires.0.entered.bodies in
    let e = c.word_of-p-in-loop-p.ensures in
    let ws = c.numbered-rule.ensures in (
      length-set d.loop-p.names (k d) x ∙ d.loop-p.invariant.0,
      (λ q g. (D.next (k d) _ q (place d) (sym e ∙ g)).0),
      λ called B.
          let N = d.loop-p.invariant.2 called B in
          let new = f.name_for.ensures called (N.old (k d) (place d).0 (omega (arith, is d)) ∙ ap (λ l. entry called (body_at l)) (sym ws)) ∙ ap (λ l. entry (λ L. cond (same_list a.body.now L) a.name (called L)) (body_at l)) ws in
          naming-on (t d) a.rules a.body.now a.name called (k d) x (is d) (omega (arith, e, less d)) (room d) new N
          (walk-on D N.walk (is d) e (new-kept (t d) a.rules a.body.now a.name called d.loop-p.names (k d) x (room d) new) (λ m. get_or-set_same d.loop-p.names (k d) x 0 (room d) ∙ new)),
    )

pub returns : goal.returns
returns c =
    let s = c in
    let a = s.args in
    let l = c.loop-p in
    λ called B.
    naming-end a.table.now a.rules a.body.now a.name called l.names l.p (omega (arith, s.requires.2, l.invariant.0)) c.loop-p-test.false
    (l.invariant.2 called (rw (rules-count a.rules a.table.now) B))

pub overflow_add-hash_of : goal.overflow_add-hash_of
overflow_add-hash_of c = let h = c.hash_of.ensures.hash.1 in search rules

pub overflow_add-k : goal.overflow_add-k
overflow_add-k c = let h = few (goal.at.overflow_add-k c).In-loop-p in search rules

pub offset_bounds-names-k : goal.offset_bounds-names-k
offset_bounds-names-k c = let h = few ((goal.at.offset_bounds-names-k c).In-loop-p) in search rules

pub bounds-names-k : goal.bounds-names-k
bounds-names-k c = room ((goal.at.bounds-names-k c).In-loop-p)

pub offset_bounds-names-k-in-loop-p : goal.offset_bounds-names-k-in-loop-p
offset_bounds-names-k-in-loop-p c = let h = few ((goal.at.offset_bounds-names-k-in-loop-p c).In-loop-p) in search rules

pub bounds-names-k-in-loop-p : goal.bounds-names-k-in-loop-p
bounds-names-k-in-loop-p c = room ((goal.at.bounds-names-k-in-loop-p c).In-loop-p)
