use mathlib.Core.Path.{◌≡◌, refl, sym, ◌∙◌}
use mathlib.Core.Bool.{true}
use mathlib.Core.List.{List}
use Prim.Native.Nat.{◌≤◌}
use native.Mathlib.Omega.{arith}
use lib.IntN.{ℤ}
use Rattle.words.specs.Lists.{all}
use Rattle.words.specs.Literals.{variable, top}
use Rattle.marks.specs.Marks.{marked}
use Rattle.text.specs.declared.Letter.TheVariants.{Loop}
use Rattle.aspif.specs.Rules.{expand}
use Rattle.aspif.specs.Tables.{rules_at}
use Rattle.derivation.specs.Loops.{is_loop}
use Rattle.steps.specs.Held.{PassedLine, name_of}
use Rattle.steps.proofs.Letters.{cited}
use Rattle.steps.proofs.LoopSteps.{members, names-above, loop-atoms, loop-not, loop-ends}
use Rattle.steps.proofs.unfounded.loops.Goals as goal
use Rattle.steps.proofs.unfounded.loops.Goals.{Else-atoms-largest_variable, After-is_loop}

-- what the first two tests leave
module _ (c : Else-atoms-largest_variable) where
  abbrev U : List ℤ
  U = c.args.numbers.now

  line : PassedLine Loop U
  line = c.requires.line

  known : all (λ x. marked c.args.known.now (variable x)) U ≡ true
  known = let d = c in sym d.all_marked.ensures ∙ d.if-not-all_marked.false

  low : top U ≤ c.args.atoms
  low = omega (arith, c.if-atoms-largest_variable.false, c.largest_variable.ensures)

pub returns-then-not-all_marked : goal.returns-then-not-all_marked
returns-then-not-all_marked c =
    let s = c in
    λ ws p z b tracks K. rw (cited z tracks Loop s.args.numbers.now s.requires.line refl (sym c.all_marked.ensures ∙ c.if-not-all_marked.true)) refl

pub returns-then-atoms-largest_variable : goal.returns-then-atoms-largest_variable
returns-then-atoms-largest_variable c =
    let d = c in
    let s = c in
    λ ws p z b tracks K.
    loop-atoms z tracks s.args.origin _ b _ _ s.args.numbers.now s.requires.line (sym d.all_marked.ensures ∙ d.if-not-all_marked.false)
    (omega (arith, c.if-atoms-largest_variable.true, c.largest_variable.ensures))

pub is_loop-requires : goal.is_loop-requires
is_loop-requires c = let p = c.requires in record { program = (p.state.2.holds.sound, p.relevant); index = p.index; numbers = members (U c) (line c) }

-- question 56, of the rules that the table holds
looped : (c : After-is_loop)
    → is_loop (expand (rules_at c.args.rules c.args.table.now)) c.args.numbers.now ≡ c.is_loop.result
looped c = sym c.is_loop.ensures

pub returns-then-not-is_loop : goal.returns-then-not-is_loop
returns-then-not-is_loop c =
    let e = (goal.at.returns-then-not-is_loop c).Else-atoms-largest_variable in
    λ ws p z b tracks K.
    loop-not z tracks e.args.origin _ b _ _ (U e) (line e) (known e) (low e) (rw (← p.holds.are) (looped (goal.at.returns-then-not-is_loop c).After-is_loop ∙ c.if-not-is_loop.true))

pub add_nogood-requires : goal.add_nogood-requires
add_nogood-requires c = let m = c in
    let e = (goal.at.add_nogood-requires c).Else-atoms-largest_variable in
    let p = e.requires in
    let t = p.state in record { state = (t.0, name_of t.1.named, names-above t.1 t.3 t.2 (U e) (line e) (low e)); index = p.index; set = (m.marks_of-inside.ensures, line e); store = p.store }

pub returns : goal.returns
returns c =
    let g = c.add_nogood in
    let m = c in
    let a = c in
    let d = (goal.at.returns c).Else-atoms-largest_variable in
    λ ws p z b tracks K.
    loop-ends z tracks d.args.origin _ b _ _ m.marks_of-inside.result (U d) (line d) (known d) (low d)
    (rw (← p.holds.are) (looped (goal.at.returns c).After-is_loop ∙ a.if-not-is_loop.false)) m.marks_of-inside.ensures p.high K g.result
    (g.ensures ws (name_of z.named) (names-above z tracks p (U d) (line d) (low d)) b K.keeps)
