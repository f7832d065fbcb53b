-- `by_name::name_of` meets its contract: a body whose place is free has no name, and a record that holds the body is the one of its name, whichever
-- way it was found.
-- Assumes nothing.
use mathlib.Core.Path.{◌≡◌, sym, ◌∙◌}
use Prim.Native.Nat.{◌+◌, ◌*◌}
use native.Mathlib.Omega.{arith}
use lib.IntN.{pos}
use lib.ListN.{get_or}
use Rattle.words.specs.Limits.{entries}
use Rattle.words.proofs.Lists.{if-true}
use Rattle.words.proofs.Literals.{same-decides}
use Rattle.names.specs.ByName.{width}
use Rattle.names.proofs.Called.{called-by, called-none, called-free}
use Rattle.names.proofs.by_name.name_of.Goals as goal

pub returns-then-bodies-ne-BODY_WORDS : goal.returns-then-bodies-ne-BODY_WORDS
returns-then-bodies-ne-BODY_WORDS c = λ called C. absurd (c.if-bodies-ne-BODY_WORDS.true C.long)

pub returns-then-is_free : goal.returns-then-is_free
returns-then-is_free c =
    let free : get_or c.args.bodies.now (width * entries + c.place_of-place.result) (pos 0) ≡ pos 0 =
    if-true (same-decides _ _) (sym c.is_free.ensures ∙ c.if-is_free.true) in
    λ called C. called-free C c.args.body.now c.requires (rw c.place_of-place.ensures.0 at free)

pub returns-in-Some : goal.returns-in-Some
returns-in-Some c = let h = c.in-Some.ensures in λ called C. called-by C c.args.body.now c.requires c.in-Some.v h.0 h.1 h.2

pub returns-in-Some-found : goal.returns-in-Some-found
returns-in-Some-found c = let h = c.in-Some-found.ensures in λ called C. called-by C c.args.body.now c.requires c.in-Some-found.v h.0 (omega (arith, h.1)) h.2

pub returns-in-None : goal.returns-in-None
returns-in-None c = λ called C. called-none C c.args.body.now c.requires (λ v p h. c.in-None.ensures v p (omega (arith, h)))
