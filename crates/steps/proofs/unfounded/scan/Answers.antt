use mir.Syntax.{w32}
use mathlib.Core.Path.{sym, ap, ◌∙◌}
use mathlib.Core.List.{List}
use Prim.Native.Nat.{ℕ}
use native.Mathlib.Omega.{arith}
use lib.IntN.{ℤ}
use mir.Facts.{to_z-of_z}
use Rattle.words.specs.Limits.{largest}
use Rattle.aspif.specs.Rules.{InputRule, expand}
use Rattle.marks.specs.Marks.{listed, marked}
use Rattle.names.specs.Queries.{asked_names, MarksNames}
use Rattle.names.specs.declared.queries.Query.TheVariants.{External}
use Rattle.names.proofs.Asked.{names-all, name-missing}
use Rattle.steps.specs.Held.{Above, gathered}
use Rattle.steps.proofs.Gathering.{gathered-same}
use Rattle.steps.proofs.unfounded.scan.Goals as goal
use Rattle.steps.proofs.unfounded.scan.Goals.{After-mark_names}

-- the names that are marked
module _ (c : After-mark_names) where
  abbrev marks : List ℕ
  marks = c.mark_names.new.found

  module _ (ws : List InputRule) (called : List ℤ → ℕ) (A : Above c.args.table.now c.args.rules c.args.names.now c.args.bodies.now c.args.h ws called) where
    abbrev asked : List ℕ
    asked = asked_names External c.args.inside.now called (expand ws)

    found : MarksNames marks asked
    found = c.mark_names.ensures ws A.holds called A.kept

pub returns-then-is_marked : goal.returns-then-is_marked
returns-then-is_marked c = λ ws called A. name-missing (found (goal.at.returns-then-is_marked c).After-mark_names ws called A) (sym c.is_marked.ensures ∙ c.if-is_marked.true)

pub returns : goal.returns
returns c =
    λ ws called A.
    let g = c.gather in
    let k = c in
    let n = (goal.at.returns c).After-mark_names in
    let m = marks n in
    let h = n.args.h in
    let none = sym k.is_marked.ensures ∙ k.if-is_marked.false in
    let F = names-all (found n ws called A) none in (
      g.ensures.within,
      g.ensures.words ∙ ap (λ x. gathered (marked m) x largest 1) (to_z-of_z {w = w32} n.ranges.h) ∙ gathered-same (marked m) h (listed (asked n ws called A)) largest 1 (λ u i. F.has u (omega arith)),
      sym (F.has 0 (omega arith)) ∙ none,
      omega (arith, g.ensures.within, g.auto.row, n.requires.row.0),
    )
