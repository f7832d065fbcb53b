use mathlib.Core.Path.{sym, ◌∙◌}
use Prim.Native.Nat.{◌<◌}
use native.Mathlib.Omega.{arith}
use lib.ListN.{length}
use Rattle.heads.specs.Heads.{Covers}
use Rattle.heads.proofs.Bodies.{no_body, one-body}
use borrow.Author.Rules.{rules}
use Rattle.heads.proofs.body_name.Goals as goal
use Rattle.heads.proofs.body_name.Goals.{Else-not-is_covered, In-Some}

-- the index covers the program
covers : (c : Else-not-is_covered) → (let a = c.args in Covers a.index.now a.table.now a.rules)
covers c = c.requires.index (sym c.is_covered.ensures ∙ c.if-not-is_covered.false)

pub rule_with-requires : goal.rule_with-requires
rule_with-requires c = (covers c, c.requires.program.0.1.sound)

in-names : (c : In-Some) → c.in-Some.k < length c.args.names.now
in-names c = omega (arith, c.in-Some.ensures.0, c.requires.program.1)

pub returns-in-Some : goal.returns-in-Some
returns-in-Some c =
    let e = (goal.at.returns-in-Some c).Else-not-is_covered in
    let a = c.args in
    λ ws H. rw (← H.are) (λ called K.
    one-body a.table.now a.rules c.requires.program.0.1.sound (covers e).plain K a.body.now c.in-Some.k c.wide.result c.in-Some.ensures c.wide.ensures.same)

pub returns-in-None : goal.returns-in-None
returns-in-None c =
    let e = (goal.at.returns-in-None c).Else-not-is_covered in
    let a = c.args in
    λ ws H. rw (← H.are) (λ called K. no_body a.table.now a.rules c.requires.program.0.1.sound (covers e).plain K a.body.now c.in-None.ensures)

pub offset_bounds-names-k : goal.offset_bounds-names-k
offset_bounds-names-k c = let h = in-names c in search rules

pub bounds-names-k : goal.bounds-names-k
bounds-names-k c = in-names (goal.at.bounds-names-k c).In-Some
