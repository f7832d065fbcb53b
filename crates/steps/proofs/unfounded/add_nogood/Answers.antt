use mathlib.Core.Path.{refl, sym, subst, ◌∙◌}
use mathlib.Core.List.{List}
use Prim.Native.Nat.{ℕ}
use native.Mathlib.Omega.{arith}
use lib.IntN.{ℤ, pos}
use lib.ListN.{length, get_or}
use Rattle.words.proofs.Words.{back}
use Rattle.text.specs.declared.Letter.TheVariants.{Loop}
use Rattle.aspif.specs.Rules.{InputRule, expand}
use Rattle.nogoods.specs.Store.{Stored}
use Rattle.nogoods.specs.Index.{Keeps}
use Rattle.names.specs.Queries.{asked_names}
use Rattle.names.specs.declared.queries.Query.TheVariants.{External}
use Rattle.steps.specs.Held.{Above, LoopAdded}
use Rattle.steps.proofs.Tracking.{rules-held}
use Rattle.steps.proofs.Letters.{some_number, first-high}
use Rattle.steps.proofs.unfounded.add_nogood.Goals as goal

pub add_by_index-requires : goal.add_by_index-requires
add_by_index-requires c = let t = c in
    let p = t.requires in record { state = p.state; index = (p.index, sym t.is_covered.ensures ∙ t.if-is_covered.true); set = p.set; store = p.store }

pub bounds-numbers-0 : goal.bounds-numbers-0
bounds-numbers-0 c = some_number Loop refl c.requires.set.1

pub add_by_rules-requires : goal.add_by_rules-requires
add_by_rules-requires c = let s = c in
    let p = s.requires in
    let A = p.state.2 in rw (back (get_or s.args.numbers.now 0 (pos 0)) c.add_by_rules-arg-1.given)
    (record { state = (p.state, omega (arith, A.kept.rules, rules-held A.holds), first-high Loop refl p.set.1); store = p.store })

pub returns : goal.returns
returns c =
    let a = c.args in
    let g = c.add_by_rules in
    subst (λ (h : ℤ). (ws : List InputRule) (called : List ℤ → ℕ) → Above a.table.now a.rules a.names.now a.bodies.now h ws called
    → (stored : List Stored) → Keeps a.store.now a.index.now a.used stored
    → LoopAdded (asked_names External a.inside.now called (expand ws)) h (length a.store.now) a.origin stored
    g.new.store g.new.index g.result)
    (back (get_or a.numbers.now 0 (pos 0)) c.add_by_rules-arg-1.given) g.ensures
