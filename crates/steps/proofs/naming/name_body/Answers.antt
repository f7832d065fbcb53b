use mathlib.Core.Path.{◌≡◌, sym, ◌∙◌, subst}
use mathlib.Core.Bool.{cond, true≢false, ◌&&◌}
use mathlib.Core.List.{List}
use Prim.Native.Nat.{ℕ, ◌≤◌}
use lib.Dec.{eqb}
use lib.IntN.{ℤ}
use Rattle.words.specs.Limits.{largest}
use Rattle.words.specs.Lists.{any}
use Rattle.words.specs.Literals.{same_list, top}
use Rattle.aspif.specs.Rules.{InputRule, expand}
use Rattle.derivation.specs.States.{State}
use Rattle.derivation.specs.Steps.{is_unnamed_body}
use Rattle.names.specs.Queries.{HoldsRules, Kept}
use Rattle.steps.specs.Held.{name_of, Tracks}
use Rattle.steps.proofs.Names.{unnamed-body}
use Rattle.steps.proofs.Tracking.{nothing-older}
use Rattle.steps.proofs.Letters.{no_name, sorted-low}
use Rattle.steps.proofs.naming.name_body.Goals as goal
use Rattle.steps.proofs.naming.name_body.Goals.{After-is_unnamed, Start}

-- question 28
module _ (c : After-is_unnamed) where
  abbrev s : Start
  s = c.before.before.before.before.before.before.before

  module _ (N : ℕ) (ws : List InputRule) (p : HoldsRules s.args.table.now s.args.rules ws) (known : List ℕ) (z : State)
      (T : Tracks N ws known s.args.names.now s.args.bodies.now z.introduced z.named) where
    answer : c.is_unnamed.result ≡ is_unnamed_body (expand ws) z s.args.body.now
    answer =
        subst (λ (t : List ℤ). c.is_unnamed.result ≡ (any (λ r. same_list t r.body) (expand ws) && eqb (name_of z.named t) 0)) c.sort.ensures
        (c.is_unnamed.ensures ws p (name_of z.named) T.kept)
        ∙ unnamed-body (expand ws) z T.proper s.args.body.now

pub is_unnamed-requires : goal.is_unnamed-requires
is_unnamed-requires c = let q = c.requires in record { program = q.program; index = q.index }

pub returns-then-not-is_unnamed : goal.returns-then-not-is_unnamed
returns-then-not-is_unnamed c = record { answer = λ N ws p known z T. sym (c.if-not-is_unnamed.true) ∙ answer (goal.at.returns-then-not-is_unnamed c).After-is_unnamed N ws p known z T; named = λ N ws p e. absurd (true≢false (sym e)) }

pub enter-requires : goal.enter-requires
enter-requires c = let u = (goal.at.enter-requires c).After-is_unnamed in
    let q = (s u).requires in record { program = q.program; index = q.index; body = (q.name.0, q.name.1, subst (λ (t : List ℤ). top t ≤ largest) (sym u.sort.ensures) (sorted-low (s u).args.body.now q.name.2)) }

pub returns : goal.returns
returns c = let e = c in
    let m = c in
    let u = (goal.at.returns c).After-is_unnamed in
    let q = (s u).requires.name in
    let yes = m.if-not-is_unnamed.false in record {
      answer = λ N ws p known z T. sym yes ∙ answer u N ws p known z T;
      named = λ N ws p f known z T new.
          let none = no_name z T (s u).args.body.now (sym (answer u N ws p known z T) ∙ yes) in
          subst (λ (t : List ℤ). name_of z.named t ≡ 0 → Kept e.enter.new.names e.enter.new.bodies (λ L. cond (same_list t L) (s u).args.name (name_of z.named L)) ws)
          u.sort.ensures
          (λ n. e.enter.ensures ws p (name_of z.named) T.kept n (nothing-older z T (s u).args.name q.0 q.1 new _ none)) none;
    }
