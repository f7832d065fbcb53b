-- `shapes::shape` meets its contract.
-- Assumes nothing.
use Prim.Native.Nat.{ℕ, ◌-◌}
use mathlib.Core.Path.{◌≡◌, refl}
use mathlib.Core.Bool.{false, ◌||◌}
use mathlib.Core.List.{List, [], ◌∷◌, ◌++◌}
use native.Mathlib.Omega.{arith}
use lib.Dec.{eqb, ltb}
use lib.ListN.{take, drop, set, get_or}
use Rattle.words.specs.Lists.{any}
use Rattle.words.proofs.Parts.{tail_of}
use Rattle.shapes.specs.Tree.{Parsed, end, tree_of}
use Rattle.shapes.specs.Walks.{Walks}
use Rattle.shapes.proofs.Steps.{path-below, no_number, at-end, too-deep, refused-atom, first-none, second-none, joins, walks-none, walks-tree}
use Rattle.shapes.proofs.+shape.Goals as goal
use Rattle.shapes.proofs.+shape.Goals.{After-shape}

-- what the walk of the first side told
module _ (t : ℕ) (c : After-shape t) where
  abbrev l : List ℕ
  l = c.args.tree.now

  abbrev path : List ℕ
  path = take (6 - c.args.depth) c.args.path

  abbrev Below : List ℕ → Parsed
  Below rest = tree_of (c.args.depth - 1) (path ++ (get_or l 0 0 ∷ [])) c.args.atoms rest

  good : (ltb c.args.atoms (get_or l 0 0) || any (eqb (get_or l 0 0)) path) ≡ false
  good = rw (c.wide.ensures.same, c.is_on.ensures) at c.if-atoms-wide.false

  below : take (6 - (c.args.depth - 1)) (set c.args.path (6 - c.args.depth) (get_or l 0 0)) ≡ path ++ (get_or l 0 0 ∷ [])
  below = path-below c.args.path c.args.depth (get_or l 0 0) c.requires.path (omega (arith, c.if-depth-eq0.false)) c.requires.depth

  told : Walks (Below (drop 1 l)) (drop 1 l) c.shape.result
  told = rw (tail_of 1 l, below) at c.shape.ensures

pub returns-then-tree-eq0 : goal.returns-then-tree-eq0
returns-then-tree-eq0 t c = no_number _ _ _ _ c.if-tree-eq0.true

pub returns-then-atom-eq0 : goal.returns-then-atom-eq0
returns-then-atom-eq0 t c = (end, at-end _ _ _ _ c.if-tree-eq0.false c.if-atom-eq0.true, refl, omega arith, omega (arith, c.if-tree-eq0.false))

pub returns-then-depth-eq0 : goal.returns-then-depth-eq0
returns-then-depth-eq0 t c = too-deep _ _ _ _ c.if-tree-eq0.false c.if-atom-eq0.false c.if-depth-eq0.true

pub returns-then-atoms-wide : goal.returns-then-atoms-wide
returns-then-atoms-wide t c =
    refused-atom _ _ _ _ c.if-tree-eq0.false c.if-atom-eq0.false c.if-depth-eq0.false
    (rw (c.wide.ensures.same, c.is_on.ensures) at c.if-atoms-wide.true)

pub returns-in_err-first : goal.returns-in_err-first
returns-in_err-first t c =
    let d = (goal.at.returns-in_err-first t c).After-shape in
    rw c.from_residual.ensures
    (first-none _ _ _ _ c.if-tree-eq0.false c.if-atom-eq0.false c.if-depth-eq0.false (good t d)
    (walks-none (Below t d (drop 1 (l t d))) (drop 1 (l t d)) c.in_err-first.was (told t d)))

pub returns-in_err-second : goal.returns-in_err-second
returns-in_err-second t c =
    let d = (goal.at.returns-in_err-second t c).After-shape in
    let n = c.in_ok-first.first.numbers in
    let one = walks-tree (Below t d (drop 1 (l t d))) (drop 1 (l t d)) c.in_ok-first.first c.in_ok-first.was (told t d) in
    let two : Walks (Below t d (drop n (drop 1 (l t d)))) (drop n (drop 1 (l t d))) c.shape-2.result =
    rw (tail_of 1 (l t d), tail_of n (drop 1 (l t d)), below t d) at c.shape-2.ensures in
    rw c.from_residual-in_err-second.ensures
    (second-none _ _ _ _ c.if-tree-eq0.false c.if-atom-eq0.false c.if-depth-eq0.false (good t d) one
    (walks-none (Below t d (drop n (drop 1 (l t d)))) (drop n (drop 1 (l t d))) c.in_err-second.was two))

pub returns : goal.returns
returns t c =
    let d = (goal.at.returns t c).After-shape in
    let n = c.in_ok-first.first.numbers in
    let one = walks-tree (Below t d (drop 1 (l t d))) (drop 1 (l t d)) c.in_ok-first.first c.in_ok-first.was (told t d) in
    let two : Walks (Below t d (drop n (drop 1 (l t d)))) (drop n (drop 1 (l t d))) c.shape-2.result =
    rw (tail_of 1 (l t d), tail_of n (drop 1 (l t d)), below t d) at c.shape-2.ensures in
    joins _ _ _ _ c.if-tree-eq0.false c.if-atom-eq0.false c.if-depth-eq0.false (good t d) one
    (walks-tree (Below t d (drop n (drop 1 (l t d)))) (drop n (drop 1 (l t d))) c.in_ok-second.second c.in_ok-second.was two)
