use Prim.Native.Nat.{◌%◌}
use lib.ListN.{drop, get_or}
use Rattle.words.proofs.Parts.{tail_of}
use Rattle.aspif.specs.Tables.{rule_at}
use Rattle.marks.specs.Marks.{marked, Marking}
use Rattle.answer_set.specs.SetTest.{give_rule}
use Rattle.answer_set.specs.Private.{RuleStart, nothing}
use Rattle.answer_set.proofs.Giving.{given-one}
use Rattle.answer_set.proofs.worklist.look.Goals as goal
use Rattle.answer_set.proofs.worklist.look.Goals.{After-get-work, After-give_rule}

-- the rule that is looked at
start : (c : After-get-work) → (let a = c.args in RuleStart a.table.now a.rules (get_or a.starts.now (a.entry % 1025) 0))
start c = let s = c in s.requires.rule_starts (s.args.entry % 1025)

-- and what giving it tells
told : (c : After-give_rule)
    → (let a = c.args in
    Marking (give_rule (marked a.inside.now) (rule_at (drop (get_or a.starts.now (a.entry % 1025) 0) a.table.now)) a.marks.now) a.marks.now c.give_rule.new.marks c.give_rule.result)
told c =
    let a = c.args in
    rw (tail_of (get_or a.starts.now (a.entry % 1025) 0) a.table.now) at c.give_rule.ensures

pub returns-then-is_ready-clause-given : goal.returns-then-is_ready-clause-given
returns-then-is_ready-clause-given c =
    let g = goal.at.returns-then-is_ready-clause-given c in
    given-one (start g.After-get-work).among (told g.After-give_rule).marks

pub returns-clause-given : goal.returns-clause-given
returns-clause-given c = nothing
