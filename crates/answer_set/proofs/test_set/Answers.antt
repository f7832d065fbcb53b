use mathlib.Core.Path.{◌≡◌, sym, ◌∙◌, ap}
use mathlib.Core.Bool.{true}
use native.Mathlib.Omega.{arith}
use Rattle.words.specs.Limits.{entries}
use Rattle.aspif.specs.Rules.{atoms}
use Rattle.words.specs.Lists.{ascends}
use Rattle.aspif.specs.Tables.{rules_at, sound_table}
use Rattle.marks.specs.Marks.{listed, marked}
use Rattle.aspif.proofs.Cursors.{sound-rules, atoms-small}
use Rattle.marks.proofs.Sets.{marks-listed}
use Rattle.answer_set.proofs.Tested.{refused-41, refused-42, refused-43, tested}
use Rattle.answer_set.proofs.test_set.Goals as goal
use Rattle.answer_set.proofs.test_set.Goals.{Else-not-is_readable, After-ascends_within}

-- question 41 is passed
sound : (c : Else-not-is_readable) → (let a = c.args in sound_table a.table.now a.rules ≡ true)
sound c = sym c.is_readable.ensures ∙ c.if-not-is_readable.false

-- what is told of question 42
told : (c : After-ascends_within)
    → (let a = c.args in
    c.ascends_within.result ≡ ascends 0 (atoms (rules_at a.rules a.table.now)) a.set.now)
told c = rw c.largest_atom-atoms.ensures at c.ascends_within.ensures

pub returns-then-not-is_readable : goal.returns-then-not-is_readable
returns-then-not-is_readable c = refused-41 _ _ _ _ _ c.zero_all.ensures (sym c.is_readable.ensures ∙ c.if-not-is_readable.true)

pub largest_atom-atoms-requires : goal.largest_atom-atoms-requires
largest_atom-atoms-requires c = sound-rules _ _ (sound c)

pub returns-then-not-ascends_within : goal.returns-then-not-ascends_within
returns-then-not-ascends_within c =
    let g = goal.at.returns-then-not-ascends_within c in
    refused-42 _ _ _ _ _ c.zero_all.ensures (sound g.Else-not-is_readable) (sym (told g.After-ascends_within) ∙ c.if-not-ascends_within.true)

pub returns-then-marks-ne-ENTRIES : goal.returns-then-marks-ne-ENTRIES
returns-then-marks-ne-ENTRIES c =
    let g = goal.at.returns-then-marks-ne-ENTRIES c in
    refused-43 _ _ _ _ _ c.zero_all.ensures (sound g.Else-not-is_readable) (sym (told g.After-ascends_within) ∙ c.if-not-ascends_within.false) (λ e. c.if-marks-ne-ENTRIES.true (c.zero_all.auto.items ∙ e))

pub judge-requires : goal.judge-requires
judge-requires c =
    let a = c.args in
    let s = sound (goal.at.judge-requires c).Else-not-is_readable in
    record { program = (s, rw c.largest_atom-atoms.ensures (atoms-small a.rules a.table.now (sound-rules _ _ s))) }

pub returns : goal.returns
returns c =
    let g = goal.at.returns c in
    let a = c.args in
    let s = sound g.Else-not-is_readable in
    let w = sym (told g.After-ascends_within) ∙ c.if-not-ascends_within.false in
    let h = atoms-small a.rules a.table.now (sound-rules _ _ s) in
    let e : marked c.mark_all.new.marks ≡ listed a.set.now = ap marked c.mark_all.ensures ∙ marks-listed (atoms (rules_at a.rules a.table.now)) entries a.set.now w (omega arith) in
    tested a.table.now a.rules a.set.now a.marks.now c.mark_least.new.marks s w (sym c.zero_all.auto.items ∙ c.if-marks-ne-ENTRIES.false) e c.largest_atom-atoms.ensures c.mark_least.ensures c.judge.ensures
