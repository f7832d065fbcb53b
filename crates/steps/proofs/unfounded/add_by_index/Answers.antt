use mathlib.Core.Path.{refl}
use mathlib.Core.List.{List}
use Prim.Native.Nat.{ℕ}
use lib.IntN.{ℤ, pos}
use lib.ListN.{get_or}
use Rattle.aspif.specs.Rules.{InputRule, expand}
use Rattle.names.specs.Queries.{asked_names}
use Rattle.names.specs.declared.queries.Query.TheVariants.{External}
use Rattle.steps.specs.Held.{Above, LoopNogood}
use Rattle.steps.proofs.unfounded.add_by_index.Goals as goal
use Rattle.steps.proofs.unfounded.add_by_index.Goals.{After-look_up-found}

pub look_up-found-requires : goal.look_up-found-requires
look_up-found-requires c = let p = c.requires in record { state = p.state; index = p.index; set = p.set; row = refl }

-- what was found
module _ (c : After-look_up-found) where
  abbrev h : ℤ
  h = get_or c.args.numbers.now 0 (pos 0)

  abbrev asked : List InputRule → (List ℤ → ℕ) → List ℕ
  asked ws called = asked_names External c.args.inside.now called (expand ws)

  gives : (ws : List InputRule) (called : List ℤ → ℕ) → Above c.args.table.now c.args.rules c.args.names.now c.args.bodies.now h ws called
      → LoopNogood (asked ws called) h c.look_up-found.new.row c.look_up-found.result
  gives = c.look_up-found.ensures

pub add_found-requires : goal.add_found-requires
add_found-requires c = let k = (goal.at.add_found-requires c).After-look_up-found in
    let p = k.requires in
    let t = p.state in record { found = (asked k t.0 t.1, h k, gives k t.0 t.1 t.2); store = p.store }

pub returns : goal.returns
returns c = let k = (goal.at.returns c).After-look_up-found in λ ws called A b K. c.add_found.ensures (asked k ws called) (h k) (gives k ws called A) b K
