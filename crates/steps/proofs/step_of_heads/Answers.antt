use mathlib.Core.Logic.{inl, inr}
use mathlib.Core.Path.{◌≡◌, subst}
use Rattle.text.specs.declared.Letter.{Letter}
use Rattle.text.specs.declared.Letter.TheVariants.{Support}
use Rattle.steps.specs.Held.{PassedLine}
use Rattle.steps.proofs.Tracking.{program-of}
use Rattle.steps.proofs.step_of_heads.Goals as goal
use Rattle.steps.proofs.step_of_heads.Goals.{Start, In_default}

-- the line passed 22 to 25 for the letter that was told
line : (s : Start) {x : Letter} → s.args.letter ≡ x → PassedLine x s.args.line.now
line s e = subst (λ x. PassedLine x s.args.line.now) e s.requires.line

-- the letter is not `l`
other : (m : In_default) → m.args.letter ≡ Support
other m = elim m.requires.letter [ inl e ↦ absurd (m.in_default.not-Loop e) | inr e ↦ e ]

pub loops-requires : goal.loops-requires
loops-requires c = let t = c in
    let s = (goal.at.loops-requires c).Start in record { state = s.requires.state; index = s.requires.index; relevant = s.requires.relevant; store = s.requires.store; line = line s t.in-Loop.is }

pub support-requires : goal.support-requires
support-requires c = let m = (goal.at.support-requires c).In_default in
    let s = (goal.at.support-requires c).Start in record { program = program-of s.requires.state; index = s.requires.index; store = s.requires.store; line = line s (other m) }

pub returns-in-Loop : goal.returns-in-Loop
returns-in-Loop c =
    let t = c in
    λ ws p z b tracks K. rw t.in-Loop.is (c.loops.ensures ws p z b tracks K)

pub returns-in_default : goal.returns-in_default
returns-in_default c =
    let m = (goal.at.returns-in_default c).In_default in
    λ ws p z b tracks K. rw (other m) (c.support.ensures ws p z b tracks K)
