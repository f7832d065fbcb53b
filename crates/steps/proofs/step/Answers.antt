use mathlib.Core.Path.{◌≡◌, subst}
use Rattle.text.specs.declared.Letter.{Letter}
use Rattle.text.specs.declared.Letter.TheVariants.{Body, Completion, Loop, Support}
use Rattle.steps.specs.Held.{PassedLine}
use Rattle.steps.proofs.Tracking.{program-of}
use Rattle.steps.proofs.Arms.{of_two}
use Rattle.steps.proofs.step.Goals as goal
use Rattle.steps.proofs.step.Goals.{Start}

-- the line passed 22 to 25 for the letter that was told
line : (s : Start) {x : Letter} → s.args.letter ≡ x → PassedLine x s.args.line.now
line s e = subst (λ x. PassedLine x s.args.line.now) e s.requires.line

pub addition-requires : goal.addition-requires
addition-requires c = let t = c in
    let s = (goal.at.addition-requires c).Start in record { store = s.requires.store; line = line s t.in-Addition.is; sorted = s.requires.sorted; free = s.requires.free }

pub deletion-requires : goal.deletion-requires
deletion-requires c = let t = c in
    let s = (goal.at.deletion-requires c).Start in record { store = s.requires.store.0; line = line s t.in-Deletion.is; sorted = s.requires.sorted }

pub extension-requires : goal.extension-requires
extension-requires c = let t = c in
    let s = (goal.at.extension-requires c).Start in record { store = s.requires.store; line = line s t.in-Extension.is }

pub step_of_body-requires : goal.step_of_body-requires
step_of_body-requires c = let m = c in
    let s = c in
    let p = program-of s.requires.state in record { letter = of_two _ Body Completion m.in-Body.in-Body-own.keys4; program = ((p.0.0, p.0.1.holds), p.1); index = s.requires.index; store = s.requires.store; line = s.requires.line }

pub step_of_heads-requires : goal.step_of_heads-requires
step_of_heads-requires c = let m = c in
    let s = c in record { letter = of_two _ Loop Support m.in-Loop.in-Loop-own.keys5; state = s.requires.state; index = s.requires.index; relevant = s.requires.relevant; store = s.requires.store; line = s.requires.line }

pub returns-in-Addition : goal.returns-in-Addition
returns-in-Addition c = let t = c in
    let s = c in record { stepped = λ ws p z b tracks K. rw t.in-Addition.is (c.addition.ensures.stepped s.args.atoms ws s.args.names.now s.args.bodies.now z b tracks K); free = c.addition.ensures.free }

pub returns-in-Deletion : goal.returns-in-Deletion
returns-in-Deletion c = let t = c in
    let s = c in record { stepped = λ ws p z b tracks K. rw t.in-Deletion.is (c.deletion.ensures s.args.atoms s.args.origin ws s.args.names.now s.args.bodies.now z b tracks K); free = s.requires.free }

pub returns-in-Extension : goal.returns-in-Extension
returns-in-Extension c = let t = c in
    let s = c in record { stepped = λ ws p z b tracks K. rw t.in-Extension.is (c.extension.ensures s.args.atoms ws s.args.names.now s.args.bodies.now z b tracks K); free = s.requires.free }

pub returns-in-Body : goal.returns-in-Body
returns-in-Body c = let b = c in
    let s = c in record { stepped = λ ws p. b.step_of_body.ensures s.args.atoms ws p.holds; free = s.requires.free }

pub returns-in-Loop : goal.returns-in-Loop
returns-in-Loop c = record { stepped = λ ws p. c.step_of_heads.ensures ws p; free = c.requires.free }
