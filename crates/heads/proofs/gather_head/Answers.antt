-- The walk along the chain of the atom: each external rule of it that is not ahead has its name in the row.
use mathlib.Core.Path.{◌≡◌, refl, sym, subst, ◌∙◌}
use mathlib.Core.Bool.{true}
use mathlib.Core.List.{List}
use Prim.Native.Nat.{ℕ, suc, ◌-◌, ◌<◌}
use native.Mathlib.Omega.{arith}
use lib.IntN.{ℤ}
use lib.ListN.{length}
use Rattle.words.specs.Limits.{most_held}
use Rattle.words.specs.Lists.{any}
use Rattle.aspif.specs.Tables.{heads_at}
use Rattle.names.specs.Queries.{is_inside}
use Rattle.heads.specs.Heads.{words_from, Headed, headed_to, headed_at, Place, HasHead}
use Rattle.heads.proofs.Starts.{head_of, all_seen}
use Rattle.heads.proofs.Walks.{walk_from, walk-on, next-less}
use Rattle.heads.proofs.Bodies.{covers-few}
use Rattle.heads.proofs.Externals.{Got, collected-few, in-row-keeps, head-inside}
use borrow.Author.Rules.{rules}
use Rattle.heads.proofs.gather_head.Goals as goal
use Rattle.heads.proofs.gather_head.Goals.{In-loop-p, After-word_of-k}
use Rattle.heads.proofs.gather_head.Lts.View as view
use Rattle.heads.proofs.gather_head.Reads as reads
use Rattle.heads.proofs.gather_head.Tie as tie

pub loop-p-init : goal.loop-p-init
loop-p-init c =
    let s = c in
    (s.requires.row, (λ x i. i), walk_from s.requires.index.0.entered.heads.chains (omega (arith, s.requires.head)) c.word_of-p.ensures)

-- the place at hand
module _ (c : In-loop-p) where
  abbrev t : List ℤ
  t = c.args.table.now

  abbrev es : List Headed
  es = headed_to c.args.rules t

  abbrev x : ℕ
  x = c.loop-p.p - 1

  is : c.loop-p.p ≡ suc x
  is = omega (arith, c.loop-p-test.true)

  place : Place es x c.args.v
  place = c.loop-p.invariant.2.ahead x is

  room : x < 8192
  room = omega (arith, place.0, c.requires.index.0.entered.heads.few)

-- its rule
module _ (c : After-word_of-k) where
  abbrev i : In-loop-p
  i = (view.up-In-loop-p tie.the-claims reads.Pre reads.Post goal.the-invariant-loop-p goal.the-decreases-loop-p tie.handed_clauses c.before.before)

  abbrev k : ℕ
  k = c.word_of-k.result

  owner : k ≡ (headed_at (es i) (x i)).rule
  owner = c.word_of-k.ensures ∙ i.requires.index.0.entered.heads.owner (x i) (place i).0

  headed : HasHead (t i) i.args.rules i.args.v k
  headed = subst (HasHead (t i) i.args.rules i.args.v) (sym owner) (head_of (t i) i.args.rules i.args.v (x i) i.requires.index.1 (place i))

  few : k < most_held
  few = omega (arith, headed.0, covers-few i.requires.index.0)

  in-names : k < length i.args.names.now
  in-names = omega (arith, headed.0, i.requires.index.2)

  inside : any (is_inside i.args.inside.now) (heads_at (words_from k (t i))) ≡ true
  inside = head-inside i.args.inside.now i.args.v (heads_at (words_from k (t i))) i.requires.head.0 i.requires.head.2 headed.1

pub numbered-rule-requires : goal.numbered-rule-requires
numbered-rule-requires c = (c.requires.index.0, c.requires.index.1, (headed (goal.at.numbered-rule-requires c).After-word_of-k).0)

pub gather_rule-requires : goal.gather_rule-requires
gather_rule-requires c = let C = c.loop-p.invariant.0 in (C.is, omega (arith, collected-few c.requires.index.2 C, covers-few c.requires.index.0))

pub returns-in_err-count : goal.returns-in_err-count
returns-in_err-count c =
    let o = (goal.at.returns-in_err-count c).After-word_of-k in
    let a = c.args in
    rw c.from_residual.ensures (c.in_err-count.ensures a.table.now a.rules a.names.now (k o) c.numbered-rule.ensures refl (headed o).0 (inside o) c.loop-p.invariant.0)

pub loop-p-smaller : goal.loop-p-smaller
loop-p-smaller c =
    let e = (goal.at.loop-p-smaller c).In-loop-p in
    let f = c.word_of-p-in-loop-p.ensures in
    omega (arith, f, next-less e.requires.index.0.entered.heads.chains e.loop-p.invariant.2 (is e))

pub loop-p-preserved : goal.loop-p-preserved
loop-p-preserved c =
    let o = (goal.at.loop-p-preserved c).After-word_of-k in
    let r = c.in_ok-count.count in
    let row = c.gather_rule.new.row in
    let e = i o in
    let a = e.args in
    let G = c.in_ok-count.ensures (t e) a.rules a.names.now (k o) c.numbered-rule.ensures refl (headed o).0 (inside o) e.loop-p.invariant.0 in (
      G.collected,
      (λ y m. G.keeps y (e.loop-p.invariant.1 y m)),
      walk-on e.requires.index.0.entered.heads.chains e.loop-p.invariant.2 (is e) c.word_of-p-in-loop-p.ensures
          (λ y f X. in-row-keeps e.loop-p.row row e.loop-p.count r G.keeps _ (f X))
          (λ m. subst (Got (t e) a.rules a.names.now a.inside.now row r) (owner o) (λ X. G.all (k o) refl X)),
    )

pub returns : goal.returns
returns c =
    let a = c.args in
    let l = c.loop-p in
    record {
      collected = l.invariant.0;
      keeps = l.invariant.1;
      all = all_seen a.table.now a.rules a.v (Got a.table.now a.rules a.names.now a.inside.now l.row l.count) l.p c.loop-p-test.false l.invariant.2;
    }

pub overflow_add-x : goal.overflow_add-x
overflow_add-x c = let r = room c in search rules

pub offset_bounds-names-k : goal.offset_bounds-names-k
offset_bounds-names-k c = let r = few (goal.at.offset_bounds-names-k c).After-word_of-k in search rules

pub bounds-names-k : goal.bounds-names-k
bounds-names-k c = in-names (goal.at.bounds-names-k c).After-word_of-k

pub overflow_add-x-in-loop-p : goal.overflow_add-x-in-loop-p
overflow_add-x-in-loop-p c = let r = room ((goal.at.overflow_add-x-in-loop-p c).In-loop-p) in search rules
