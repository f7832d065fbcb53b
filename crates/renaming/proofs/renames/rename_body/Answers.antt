use mathlib.Core.Path.{◌≡◌, refl, subst}
use mathlib.Core.Logic.{inl, inr}
use mathlib.Core.Bool.{cond}
use mathlib.Core.List.{List}
use Prim.Native.Nat.{ℕ}
use lib.IntN.{ℤ}
use Rattle.words.specs.Limits.{entries}
use Rattle.words.specs.Lists.{any}
use Rattle.words.specs.Literals.{same_list, ascending}
use Rattle.aspif.specs.Rules.{InputRule, expand}
use Rattle.names.specs.Queries.{HoldsRules, Kept}
use Rattle.renaming.proofs.Renamed.{no-variable, a-variable}
use borrow.Author.Rules.{rules}
use Rattle.renaming.proofs.renames.rename_body.Goals as goal
use Rattle.renaming.proofs.renames.rename_body.Goals.{After-body_name-k}

-- what the first half calls the body
module _ (c : After-body_name-k) where
  module _ (ws : List InputRule) (H : HoldsRules c.args.table.now c.args.rules ws) (called : List ℤ → ℕ)
      (K : Kept c.args.names.now c.args.bodies.now called ws) where
    answer : c.body_name-k.result ≡ cond (any (λ x. same_list (ascending c.args.body.now) x.body) (expand ws)) (called (ascending c.args.body.now)) entries
    answer =
        subst (λ (t : List ℤ). c.body_name-k.result ≡ cond (any (λ x. same_list t x.body) (expand ws)) (called t) entries)
        c.sort.ensures (c.body_name-k.ensures ws H called K)

pub returns-then-k : goal.returns-then-k
returns-then-k c = λ ws H called K.
    let t = c in
    rw (← answer (goal.at.returns-then-k c).After-body_name-k ws H called K)
    (inr (no-variable t.body_name-k.result t.if-k.true, (c.rename_other.ensures, refl)))

pub overflow_cast-new : goal.overflow_cast-new
overflow_cast-new c = let h = (a-variable c.body_name-k.result c.if-k.false).1 in search rules

pub returns : goal.returns
returns c = λ ws H called K.
    let t = c in
    let v = a-variable t.body_name-k.result t.if-k.false in
    rw (← answer (goal.at.returns c).After-body_name-k ws H called K)
    (inl (v.0, v.1, (refl, c.mark.ensures.marks, refl)))
