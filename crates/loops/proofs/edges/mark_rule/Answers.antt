use mathlib.Core.Path.{◌≡◌, sym, ◌∙◌}
use mathlib.Core.Bool.{and-false}
use mathlib.Core.List.{List}
use Prim.Native.Nat.{ℕ, ◌≤◌}
use native.Mathlib.Omega.{arith}
use lib.IntN.{ℤ}
use lib.ListN.{length, take}
use lib.Seq.{length-take-le}
use Rattle.words.specs.Lists.{any}
use Rattle.aspif.specs.Rules.{bodies_of}
use Rattle.aspif.specs.Tables.{is_weighted, heads_at, body_at}
use Rattle.aspif.proofs.Cursors.{shape_of}
use Rattle.heads.proofs.Starts.{heads-few}
use Rattle.loops.specs.Relevance.{RelevantPairs}
use Rattle.loops.specs.Edges.{is_at, Gathered}
use Rattle.loops.proofs.EdgeMarks.{more-none}
use Rattle.loops.proofs.HeadPlaces.{gathered_none}
use Rattle.loops.proofs.Expanded.{plain_more, weight-more}
use Rattle.loops.proofs.edges.mark_rule.Goals as goal
use Rattle.loops.proofs.edges.mark_rule.Goals.{After-gather-n, After-is_weighted}
use Rattle.loops.proofs.edges.mark_rule.Lts.View as view
use Rattle.loops.proofs.edges.mark_rule.Reads as reads
use Rattle.loops.proofs.edges.mark_rule.Tie as tie

pub gather-n-requires : goal.gather-n-requires
gather-n-requires c =
    let s = c in
    (rw c.heads.ensures (heads-few s.args.rule.now.words.now (shape_of s.args.rule.now.words.now s.args.rule.now.sound)), s.requires.sizes.1)

-- the places in the row
module _ (c : After-gather-n) where
  abbrev ws : List ℤ
  ws = c.args.rule.now.words.now

  abbrev row : List ℕ
  row = c.gather-n.new.row

  abbrev n : ℕ
  n = c.gather-n.result

  here : Gathered c.args.places.now (heads_at ws) row n
  here = rw c.heads.ensures at c.gather-n.ensures

  within : n ≤ length row
  within = omega (arith, here.most, heads-few ws (shape_of ws c.args.rule.now.sound), c.gather-n.auto.row)

pub returns-then-n-eq0 : goal.returns-then-n-eq0
returns-then-n-eq0 c =
    let g = (goal.at.returns-then-n-eq0 c).After-gather-n in
    more-none _ _ g.requires.sizes.0
    (λ i j. rw (gathered_none (here g) c.if-n-eq0.true j) (and-false (any (any (is_at g.args.places.now i)) (bodies_of (body_at (ws g))))))

-- a rule with a head that has a place
module _ (c : After-is_weighted) where
  abbrev g : After-gather-n
  g = (view.up-After-gather-n tie.the-claims reads.Pre reads.Post tie.handed_clauses c.before.before.before.before)

  weighted : is_weighted (ws g) ≡ c.is_weighted.result
  weighted = sym c.is_weighted.ensures

  relevant : RelevantPairs g.args.relevant.now (body_at (ws g))
  relevant = g.requires.entries (omega (arith, (here g).most, c.if-n-eq0.false))

pub mark_pairs-requires : goal.mark_pairs-requires
mark_pairs-requires c =
    let a = g (goal.at.mark_pairs-requires c).After-is_weighted in
    (a.requires.sizes.0, a.requires.sizes.1, (here a).low)

pub returns-then-is_weighted : goal.returns-then-is_weighted
returns-then-is_weighted c =
    let m = c in
    let b = c in
    let w = (goal.at.returns-then-is_weighted c).After-is_weighted in
    weight-more (g w).args.places.now (ws (g w)) (take (n (g w)) (row (g w))) b.body.ensures (here (g w)).has (g w).args.relevant.now m.mark_pairs.ensures
    (weighted w ∙ b.if-is_weighted.true) (relevant w)

pub mark_body-requires : goal.mark_body-requires
mark_body-requires c =
    let a = g (goal.at.mark_body-requires c).After-is_weighted in
    (a.requires.sizes.0, a.requires.sizes.1, (here a).low)

pub returns : goal.returns
returns c =
    let m = c in
    let b = c in
    let w = (goal.at.returns c).After-is_weighted in
    plain_more (g w).args.places.now (ws (g w)) (take (n (g w)) (row (g w))) b.body-2.ensures (here (g w)).has m.mark_body.ensures (weighted w ∙ b.if-is_weighted.false)

pub slice_bounds-row-end : goal.slice_bounds-row-end
slice_bounds-row-end c = within (g (goal.at.slice_bounds-row-end c).After-is_weighted)

pub slice_bounds-row-end-2 : goal.slice_bounds-row-end-2
slice_bounds-row-end-2 c = within (g (goal.at.slice_bounds-row-end-2 c).After-is_weighted)

pub slice_bounds-mark_pairs-end : goal.slice_bounds-mark_pairs-end
slice_bounds-mark_pairs-end c = sym (length-take-le _ _ (within (g (goal.at.slice_bounds-mark_pairs-end c).After-is_weighted)))

pub slice_bounds-mark_body-end : goal.slice_bounds-mark_body-end
slice_bounds-mark_body-end c = sym (length-take-le _ _ (within (g (goal.at.slice_bounds-mark_body-end c).After-is_weighted)))
