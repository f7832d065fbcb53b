use mathlib.Core.Path.{◌≡◌, refl, sym, ap, ◌∙◌}
use mathlib.Core.Bool.{Bool, cond}
use mathlib.Core.List.{List}
use Prim.Native.Nat.{◌+◌}
use native.Mathlib.Omega.{arith}
use lib.IntN.{pos}
use lib.ListN.{take}
use Rattle.aspif.specs.Rules.{InputRule}
use Rattle.steps.specs.Held.{Program}
use Rattle.merging.specs.Claims.{demanding_as_written}
use Rattle.trees.specs.Sides.{Standing}
use Rattle.trees.proofs.Constraints.{small-atom, demand-program, same-program}
use Rattle.trees.proofs.sides.first_refusal.Goals as goal
use Rattle.trees.proofs.sides.first_refusal.Goals.{After-demand_atom}

pub demand_atom-requires : goal.demand_atom-requires
demand_atom-requires c =
    let s = c in
    let S = s.requires.place.1 in
    (omega (arith, S.room, S.size), small-atom S s.requires.atom)

-- the program with the constraint
module _ (c : After-demand_atom) where
  module _ {ws : List InputRule} (S : Standing 1 c.args.place c.args.table.now ws) where
    whole : Program c.demand_atom.new.table (c.args.place.rules + 1) c.args.place.atoms (demanding_as_written ws (pos c.args.v))
    whole = demand-program S (pos c.args.v) c.requires.atom (omega arith) refl c.demand_atom.ensures

  same : take c.args.place.used c.demand_atom.new.table ≡ take c.args.place.used c.args.table.now
  same = same-program c.requires.place.1 (pos c.args.v) c.requires.atom (omega arith) refl c.demand_atom.ensures

pub is_accepted-requires : goal.is_accepted-requires
is_accepted-requires c = let d = (goal.at.is_accepted-requires c).After-demand_atom in
    let q = d.requires in record { program = ((demanding_as_written q.place.0 (pos d.args.v), whole d q.place.1), omega (arith, q.place.1.rules)); empty = q.empty }

pub returns-then-not-is_accepted : goal.returns-then-not-is_accepted
returns-then-not-is_accepted c = let d = (goal.at.returns-then-not-is_accepted c).After-demand_atom in
    let a = c.is_accepted in
    let x = d.args in record { empty = a.ensures.empty; program = same d; fault = λ ws S. sym (ap (λ (b : Bool). cond b x.two x.one) (sym (a.ensures.accepted (demanding_as_written ws (pos x.v)) (whole d S)) ∙ c.if-not-is_accepted.true)) }

pub returns : goal.returns
returns c = let d = (goal.at.returns c).After-demand_atom in
    let a = c.is_accepted in
    let x = d.args in record { empty = a.ensures.empty; program = same d; fault = λ ws S. sym (ap (λ (b : Bool). cond b x.two x.one) (sym (a.ensures.accepted (demanding_as_written ws (pos x.v)) (whole d S)) ∙ c.if-not-is_accepted.false)) }
