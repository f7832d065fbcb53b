use mathlib.Core.Path.{◌≡◌, sym, subst, ap, ◌∙◌}
use mathlib.Core.List.{List}
use Prim.Native.Nat.{ℕ}
use lib.IntN.{ℤ}
use native.Mathlib.Omega.{arith}
use Rattle.std.specs.Prelude.{Result, Ok}
use Rattle.aspif.specs.Reading.{shape_within}
use Rattle.aspif.specs.declared.ProgramFault.{ProgramFault}
use Rattle.aspif.specs.declared.rules.Shape.{Shape}
use Rattle.aspif.proofs.Counts.{Counted, shape-counted}
use Rattle.aspif.proofs.rules.take_rule.Goals as goal

-- the counts of a line whose shape is right
counted : (most : ℕ) (row : List ℤ) (count : ℕ) {r : Result Shape ProgramFault} {s : Shape} → r ≡ shape_within most row count → r ≡ Ok s → Counted most row count (Ok s)
counted most row count e f = subst (Counted most row count) (sym e ∙ f) (shape-counted most row count)

pub sort_parts-requires : goal.sort_parts-requires
sort_parts-requires c =
    let k = counted c.args.most c.args.row.now c.args.count c.rule_shape.ensures (c.in_ok-kind.was ∙ ap Ok c.in-Shaped.is) in
    record { sizes = (k.0, k.1, omega (arith, k, c.requires)) }

pub add_rule-requires : goal.add_rule-requires
add_rule-requires c =
    let k = counted c.args.most c.args.row.now c.args.count c.rule_shape.ensures (c.in_ok-kind.was ∙ ap Ok c.in-Shaped.is) in
    record { sizes = (k.0, k.1, omega (arith, k, c.requires, c.sort_parts.ensures.long)) }

pub take_weighed-requires : goal.take_weighed-requires
take_weighed-requires c =
    let k = counted c.args.most c.args.row.now c.args.count c.rule_shape.ensures (c.in_ok-kind.was ∙ ap Ok c.in-Weighed.is) in
    record { sizes = (k.0, k.4, omega (arith, k, c.requires)); weights = k.3 }
