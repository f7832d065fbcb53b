-- The walk along the chain of the atom: each rule of it that is not ahead has hit its name.
use mathlib.Core.Path.{◌≡◌, refl, sym, ap, subst, ◌∙◌}
use mathlib.Core.Logic.{inl, inr}
use mathlib.Core.Bool.{Bool, true, false, true≢false}
use mathlib.Core.List.{List, []}
use Prim.Native.Nat.{ℕ, suc, ◌-◌, ◌<◌}
use native.Mathlib.Omega.{arith}
use lib.IntN.{ℤ, pos}
use lib.ListN.{length, get_or, set, length-set}
use lib.Seq.{get_or-set_same, get_or-set_other}
use Rattle.words.specs.Literals.{variable}
use Rattle.words.proofs.Laws.{padded}
use Rattle.words.proofs.Places.{equal?}
use Rattle.heads.specs.Heads.{Headed, headed_to, headed_at, Place, HasHead, Hit}
use Rattle.heads.proofs.Starts.{head_of, all_seen}
use Rattle.heads.proofs.Walks.{walk_from, walk-on, next-less}
use borrow.Author.Rules.{rules}
use Rattle.heads.proofs.all_listed.Goals as goal
use Rattle.heads.proofs.all_listed.Goals.{In-loop-p, After-word_of-k, In-Some}
use Rattle.heads.proofs.all_listed.Invariants.{Named}
use Rattle.heads.proofs.all_listed.Lts.View as view
use Rattle.heads.proofs.all_listed.Reads as reads
use Rattle.heads.proofs.all_listed.Tie as tie

-- one more hit
hit-keeps : (names : List ℕ) (ns : List ℤ) (hits : List Bool) (j : ℕ) → j < length hits → (k : ℕ) → Hit names ns hits k → Hit names ns (set hits j true) k
hit-keeps names ns hits j b k h = (
  h.0,
  h.1,
  (
    h.2.0,
    elim (equal? h.0 j) [
      | inl e ↦ rw e (get_or-set_same hits j true false b)
      | inr d ↦ get_or-set_other hits j h.0 true false d ∙ h.2.1
    ],
  ),
)

hit-named : (t : List ℤ) (rules : ℕ) (names : List ℕ) (v : ℕ) (ns : List ℤ) (hits : List Bool) (j k : ℕ) → HasHead t rules v k
    → get_or names k 0 ≡ variable (get_or ns j (pos 0)) → Named t rules names v ns hits → Named t rules names v ns (set hits j true)
hit-named t rules names v ns hits j k H e N i h = elim (equal? i j) [
  | inl q ↦ rw q (k, H, e)
  | inr d ↦ N i (sym (get_or-set_other hits j i true false d) ∙ h)
]

pub loop-p-init : goal.loop-p-init
loop-p-init c =
    let s = c in
    let z = s.requires.line.2 in (
      refl,
      walk_from s.requires.index.0.entered.heads.chains (omega (arith, s.requires.line.0)) c.word_of-p.ensures,
      λ j e. absurd (true≢false (sym e ∙ ap (λ l. get_or l j false) z ∙ padded false [] (length s.args.hits.now) j)),
    )

-- the place at hand
module _ (c : In-loop-p) where
  abbrev es : List Headed
  es = headed_to c.args.rules c.args.table.now

  abbrev x : ℕ
  x = c.loop-p.p - 1

  is : c.loop-p.p ≡ suc x
  is = omega (arith, c.loop-p-test.true)

  place : Place es x c.args.v
  place = c.loop-p.invariant.1.ahead x is

  room : x < 8192
  room = omega (arith, place.0, c.requires.index.0.entered.heads.few)

-- and its rule
module _ (c : After-word_of-k) where
  abbrev i : In-loop-p
  i = (view.up-In-loop-p tie.the-claims reads.Pre reads.Post goal.the-invariant-loop-p goal.the-decreases-loop-p tie.handed_clauses c.before.before)

  owner : c.word_of-k.result ≡ (headed_at (es i) (x i)).rule
  owner = c.word_of-k.ensures ∙ i.requires.index.0.entered.heads.owner (x i) (place i).0

  headed : HasHead i.args.table.now i.args.rules i.args.v c.word_of-k.result
  headed = subst (HasHead i.args.table.now i.args.rules i.args.v) (sym owner) (head_of i.args.table.now i.args.rules i.args.v (x i) i.requires.index.1 (place i))

  in-names : c.word_of-k.result < length i.args.names.now
  in-names = omega (arith, headed.0, i.requires.index.2)

pub returns-in_default : goal.returns-in_default
returns-in_default c =
    let w = (goal.at.returns-in_default c).After-word_of-k in
    (w.word_of-k.result, headed w, rw c.wide.ensures.same at c.in_default.ensures)

-- the name is listed
module _ (c : In-Some) where
  named : variable (get_or c.args.listed.now c.in-Some.j (pos 0)) ≡ get_or c.args.names.now c.word_of-k.result 0
  named = c.in-Some.ensures.1 ∙ c.wide.ensures.same

  inside : c.in-Some.j < length c.loop-p.hits
  inside = omega (arith, c.in-Some.ensures.0, c.requires.line.1, c.loop-p.invariant.0)

pub loop-p-smaller : goal.loop-p-smaller
loop-p-smaller c =
    let d = i (goal.at.loop-p-smaller c).After-word_of-k in
    let e = c.word_of-p-in-loop-p.ensures in
    omega (arith, e, next-less d.requires.index.0.entered.heads.chains d.loop-p.invariant.1 (is d))

pub loop-p-preserved : goal.loop-p-preserved
loop-p-preserved c =
    let e = (goal.at.loop-p-preserved c).In-Some in
    let o = (goal.at.loop-p-preserved c).After-word_of-k in
    let d = i o in
    let j = c.in-Some.j in
    let a = d.args in
    let hits = d.loop-p.hits in (
      length-set hits j true ∙ d.loop-p.invariant.0,
      walk-on d.requires.index.0.entered.heads.chains d.loop-p.invariant.1 (is d) c.word_of-p-in-loop-p.ensures
          (λ y h. hit-keeps a.names.now a.listed.now hits j (inside e) _ h)
          (λ m. (j, c.in-Some.ensures.0, (named e ∙ ap (λ k. get_or a.names.now k 0) (owner o), get_or-set_same hits j true false (inside e)))),
      hit-named a.table.now a.rules a.names.now a.v a.listed.now hits j o.word_of-k.result (headed o) (sym (named e)) d.loop-p.invariant.2,
    )

pub returns : goal.returns
returns c =
    let s = c in
    let a = s.args in
    let l = c.loop-p in
    (all_seen a.table.now a.rules a.v (Hit a.names.now a.listed.now l.hits) l.p c.loop-p-test.false l.invariant.1, l.invariant.2)

pub bounds-hits-j : goal.bounds-hits-j
bounds-hits-j c = inside (goal.at.bounds-hits-j c).In-Some

pub overflow_add-x-in-loop-p : goal.overflow_add-x-in-loop-p
overflow_add-x-in-loop-p c = let r = room (goal.at.overflow_add-x-in-loop-p c).In-loop-p in search rules

pub overflow_add-x : goal.overflow_add-x
overflow_add-x c = let r = room (goal.at.overflow_add-x c).In-loop-p in search rules

pub bounds-names-k : goal.bounds-names-k
bounds-names-k c = in-names (goal.at.bounds-names-k c).After-word_of-k
