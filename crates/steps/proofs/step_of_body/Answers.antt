use mathlib.Core.Logic.{inl, inr}
use mathlib.Core.Path.{◌≡◌, subst}
use Rattle.text.specs.declared.Letter.{Letter}
use Rattle.text.specs.declared.Letter.TheVariants.{Completion}
use Rattle.steps.specs.Held.{PassedLine}
use Rattle.steps.proofs.step_of_body.Goals as goal
use Rattle.steps.proofs.step_of_body.Goals.{Start, In_default}

-- the line passed 22 to 25 for the letter that was told
line : (s : Start) {x : Letter} → s.args.letter ≡ x → PassedLine x s.args.line.now
line s e = subst (λ x. PassedLine x s.args.line.now) e s.requires.line

-- the letter is not `b`
other : (m : In_default) → m.args.letter ≡ Completion
other m = elim m.requires.letter [ inl e ↦ absurd (m.in_default.not-Body e) | inr e ↦ e ]

pub body-requires : goal.body-requires
body-requires c = let t = c in
    let s = (goal.at.body-requires c).Start in record { program = s.requires.program; index = s.requires.index; store = s.requires.store; line = line s t.in-Body.is }

pub completion-requires : goal.completion-requires
completion-requires c = let m = (goal.at.completion-requires c).In_default in
    let s = (goal.at.completion-requires c).Start in record { program = s.requires.program; index = s.requires.index; store = s.requires.store; line = line s (other m) }

pub returns-in-Body : goal.returns-in-Body
returns-in-Body c =
    let t = c in
    λ N ws h z b tracks K. rw t.in-Body.is (c.body.ensures N ws h z b tracks K)

pub returns-in_default : goal.returns-in_default
returns-in_default c =
    let m = (goal.at.returns-in_default c).In_default in
    λ N ws h z b tracks K. rw (other m) (c.completion.ensures N ws h z b tracks K)
