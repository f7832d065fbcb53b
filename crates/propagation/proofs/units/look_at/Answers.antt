-- The loop keeps `Seen`: all literals before i are true, but for at most one, which is free.
use mathlib.Core.Path.{◌≡◌, sym, ◌∙◌}
use Prim.Native.Nat.{◌<◌}
use borrow.Author.Rules.{rules}
use lib.IntN.{ℤ, pos}
use lib.ListN.{length, get_or}
use Rattle.words.proofs.Words.{back}
use Rattle.words.proofs.Places.{in-at}
use Rattle.propagation.specs.Propagate.{Valued}
use Rattle.propagation.specs.declared.units.Value.{Value}
use Rattle.propagation.proofs.Looks.{Seen, is-none, is-some, seen_none, seen_true, seen_false, seen-free, seen-second, seen_all, seen_one}
use Rattle.propagation.proofs.units.look_at.Goals as goal
use Rattle.propagation.proofs.units.look_at.Goals.{In-loop-j, After-value_of, in-True, in-Free+else-is_some}

pub loop-j-init : goal.loop-j-init
loop-j-init c = seen_none _ _

-- the literal that is read
abbrev read : In-loop-j → ℤ
read c = get_or c.args.literals.now c.loop-j.j (pos 0)

pub value_of-requires : goal.value_of-requires
value_of-requires c = let s = c in
    let u = in-at (pos 0) s.args.literals.now c.loop-j.j c.loop-j-test.true in record { within = rw (back (read (goal.at.value_of-requires c).In-loop-j) (search rules)) (s.requires.low _ u, s.requires.high _ u) }

-- what the call tells of it
told : (c : After-value_of) (x : Value) → c.value_of.result ≡ x
    → Valued c.args.assignment.now (read c.before.before) x
told c x e = rw (back (read c.before.before) (search rules), e) at c.value_of.ensures

-- what is known before the turn
module _ (c : After-value_of) where
  abbrev before : let l = c in
      Seen l.args.assignment.now l.args.literals.now l.loop-j.j l.loop-j.one
  before = c.loop-j.invariant

  abbrev within : c.loop-j.j < length c.args.literals.now
  within = c.loop-j-test.true

pub returns-in-False : goal.returns-in-False
returns-in-False c =
    let o = (goal.at.returns-in-False c).After-value_of in
    seen_false _ _ _ _ (within o) (before o) (told o _ c.in-False.is)

pub returns-then-is_some : goal.returns-then-is_some
returns-then-is_some c =
    let o = (goal.at.returns-then-is_some c).After-value_of in
    let k = is-some c.loop-j.one (sym c.is_some.ensures ∙ c.if-is_some.true) in
    seen-second _ _ _ _ (within o) (before o) o.requires k.0 k.1 (told o _ c.in-Free.is)

pub loop-j-preserved : goal.loop-j-preserved
loop-j-preserved c =
    let o = (goal.at.loop-j-preserved c).After-value_of in
    elim c.match-value_of.branch [
      | in-True w ↦ rw w.one-is (seen_true _ _ _ _ (within o) (before o) (told o _ w.in-True.is))
      | in-Free+else-is_some w ↦ rw w.one-is
          (seen-free _ _ _ _ (within o) (before o) (is-none c.loop-j.one (sym w.is_some.ensures ∙ w.if-is_some.false)) (told o _ w.in-Free.is))
    ]

pub returns-in-Some : goal.returns-in-Some
returns-in-Some c = seen_one _ _ _ c.loop-j-test.false c.loop-j.auto.j-end _ _ c.loop-j.invariant c.in-Some.is

pub returns-in-None : goal.returns-in-None
returns-in-None c = seen_all _ _ _ c.loop-j-test.false c.loop-j.auto.j-end _ c.loop-j.invariant c.in-None.is
