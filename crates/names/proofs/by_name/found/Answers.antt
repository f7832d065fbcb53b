-- `by_name::found` meets its contract: the names are tried in their order.
-- Assumes nothing.
use mathlib.Core.Path.{◌≡◌}
use mathlib.Core.Bool.{true, false}
use Rattle.std.proofs.Common.{rules}
use Rattle.std.proofs.lemmas.Iterator.{first_from_Range}
use Rattle.names.specs.ByName.{stands_at}
use Rattle.names.proofs.by_name.found.Goals as goal

pub returns : goal.returns
returns c =
    let m = c.args.bodies.now in
    let L = c.args.body.now in
    first_from_Range _ _ _ c.find.result (λ v. stands_at m v L ≡ true) (λ v. stands_at m v L ≡ false) c.find.ensures.ran
    (λ x q k. search rules) (λ x q k. search rules)
