use mathlib.Core.List.{List}
use Prim.Native.Nat.{ℕ}
use lib.IntN.{ℤ}
use mir.Facts.{to_z-of_z}
use Rattle.aspif.specs.Rules.{InputRule, expand}
use Rattle.names.specs.Queries.{asked_names}
use Rattle.names.specs.declared.queries.Query.TheVariants.{External}
use Rattle.steps.specs.Held.{Above, LoopNogood}
use Rattle.steps.proofs.unfounded.add_by_rules.Goals as goal
use Rattle.steps.proofs.unfounded.add_by_rules.Goals.{After-scan-found}

-- what was found
module _ (c : After-scan-found) where
  abbrev asked : List InputRule → (List ℤ → ℕ) → List ℕ
  asked ws called = asked_names External c.args.inside.now called (expand ws)

  gives : (ws : List InputRule) (called : List ℤ → ℕ) → Above c.args.table.now c.args.rules c.args.names.now c.args.bodies.now c.args.h ws called
      → LoopNogood (asked ws called) c.args.h c.scan-found.new.row c.scan-found.result
  gives = rw (to_z-of_z c.ranges.h) at c.scan-found.ensures

pub add_found-requires : goal.add_found-requires
add_found-requires c = let k = (goal.at.add_found-requires c).After-scan-found in
    let p = k.requires in
    let t = p.state.0 in record { found = (asked k t.0 t.1, k.args.h, gives k t.0 t.1 t.2); store = p.store }

pub returns : goal.returns
returns c = let k = (goal.at.returns c).After-scan-found in λ ws called A b K. c.add_found.ensures (asked k ws called) k.args.h (gives k ws called A) b K
