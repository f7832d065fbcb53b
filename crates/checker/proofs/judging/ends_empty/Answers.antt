use mathlib.Core.Path.{sym, ◌∙◌, ap}
use Rattle.words.specs.Lists.{any}
use Rattle.aspif.specs.Rules.{is_empty}
use Rattle.runs.specs.Course.{course_within, ends_empty}
use Rattle.checker.proofs.Origins.{course-live}
use Rattle.checker.proofs.Verdicts.{ran-stopped, ran-through}
use Rattle.checker.proofs.judging.ends_empty.Goals as goal

pub has_empty-requires : goal.has_empty-requires
has_empty-requires c =
    let p = c.requires in
    let t = ran-through _ p.0 _ p.1 c.in-Ok.is in
    (t.1, t.3)

pub returns-in-Err : goal.returns-in-Err
returns-in-Err c = λ limit N P size text R. sym (ap ends_empty (ran-stopped _ (course_within limit N P size text) _ R c.in-Err.is))

pub returns-in-Ok : goal.returns-in-Ok
returns-in-Ok c = λ limit N P size text R.
    let t = ran-through _ (course_within limit N P size text) _ R c.in-Ok.is in
    c.has_empty.ensures t.1 t.3 ∙ ap (any is_empty) (course-live limit N P size text t.2) ∙ sym (ap ends_empty t.2)
