-- The walk along the chain of the atom: the edges of each rule of it that is not ahead are marked.
use mathlib.Core.Path.{◌≡◌, refl, ap, subst, ◌∙◌}
use mathlib.Core.List.Memᴰ
use mathlib.Core.List.{List, [], ◌∷◌}
use Prim.Native.Nat.{ℕ, suc, ◌-◌, ◌<◌}
use native.Mathlib.Omega.{arith}
use lib.IntN.{ℤ, pos}
use Rattle.words.specs.Lists.{◌∈◌}
use Rattle.aspif.specs.Tables.{body_words_at}
use Rattle.heads.specs.Heads.{words_from, Headed, headed_to, headed_at, Place, HasHead}
use Rattle.heads.proofs.Starts.{head_of, all_seen}
use Rattle.heads.proofs.Walks.{walk_from, walk-on, next-less}
use Rattle.loops.specs.Edges.{LowPlaces}
use Rattle.loops.proofs.Chained.{Drawn, drawing-start, drawing-on, drawn-keeps, drawn-here, drawing-end}
use Rattle.loops.proofs.edges.mark_chain.Goals as goal
use Rattle.loops.proofs.edges.mark_chain.Goals.{In-loop-p, After-mark_body}

pub loop-p-init : goal.loop-p-init
loop-p-init c =
    let s = c in
    let a = s.args in (
      drawing-start a.table.now a.rules a.places.now (pos a.v ∷ []) a.edges.now s.requires.sizes.0,
      walk_from s.requires.index.0.entered.heads.chains (omega (arith, s.requires.head)) c.first_head-p.ensures,
    )

-- the place at hand, and its rule
module _ (c : In-loop-p) where
  abbrev t : List ℤ
  t = c.args.table.now

  abbrev es : List Headed
  es = headed_to c.args.rules t

  abbrev x : ℕ
  x = c.loop-p.p - 1

  is : c.loop-p.p ≡ suc x
  is = omega (arith, c.loop-p-test.true)

  place : Place es x c.args.v
  place = c.loop-p.invariant.1.ahead x is

  room : x < 8192
  room = omega (arith, place.0, c.requires.index.0.entered.heads.few)

  abbrev k : ℕ
  k = (headed_at es x).rule

  headed : HasHead t c.args.rules c.args.v k
  headed = head_of t c.args.rules c.args.v x c.requires.index.1 place

pub rule_of-rule-requires : goal.rule_of-rule-requires
rule_of-rule-requires c = record { index = c.requires.index; place = (place (goal.at.rule_of-rule-requires c).In-loop-p).0 }

pub mark_body-requires : goal.mark_body-requires
mark_body-requires c =
    let i = (goal.at.mark_body-requires c).In-loop-p in
    let low : LowPlaces i.args.head.now = λ p m.
    rw (Memᴰ.eq_of_singleton (subst (λ l. p ∈ l) i.requires.head.0 m)) (i.requires.sizes.1 (pos i.args.v)) in
    (i.loop-p.invariant.0.long, i.requires.sizes.1, low)

-- what the call marks
body : (c : After-mark_body)
    → (let t = c.args.table.now in
    c.body.result.now ≡ body_words_at (words_from (headed_at (headed_to c.args.rules t) (c.loop-p.p - 1)).rule t))
body c = c.body.ensures ∙ ap body_words_at c.rule_of-rule.ensures

pub next_head-p-requires : goal.next_head-p-requires
next_head-p-requires c = let r = room (goal.at.next_head-p-requires c).In-loop-p in omega (arith, r)

pub loop-p-smaller : goal.loop-p-smaller
loop-p-smaller c =
    let i = (goal.at.loop-p-smaller c).In-loop-p in
    let f = c.next_head-p.ensures in
    omega (arith, f, next-less i.requires.index.0.entered.heads.chains i.loop-p.invariant.1 (is i))

pub loop-p-preserved : goal.loop-p-preserved
loop-p-preserved c =
    let m = (goal.at.loop-p-preserved c).After-mark_body in
    let i = (goal.at.loop-p-preserved c).In-loop-p in
    let a = i.args in
    let p = i.requires.index.0.plain in
    let M = rw i.requires.head.0 at m.mark_body.ensures in (
      drawing-on (t i) a.rules a.places.now p refl (headed i) (body m) M i.loop-p.invariant.0,
      walk-on i.requires.index.0.entered.heads.chains i.loop-p.invariant.1 (is i) c.next_head-p.ensures
          (λ y f. drawn-keeps (t i) a.rules a.places.now p refl (headed i) (body m) M _ f)
          (λ q. drawn-here (t i) a.rules a.places.now p refl (headed i) (body m) M),
    )

pub returns : goal.returns
returns c =
    let s = c in
    let a = s.args in
    let l = c.loop-p in
    drawing-end a.table.now a.rules a.places.now s.requires.index.0.plain refl s.requires.sizes.2.1 l.invariant.0
    (all_seen a.table.now a.rules a.v (Drawn a.table.now a.rules a.places.now (pos a.v ∷ []) l.edges) l.p c.loop-p-test.false l.invariant.1)
