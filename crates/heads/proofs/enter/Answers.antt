use mathlib.Core.Path.{sym, ap, ◌∙◌}
use mathlib.Core.Bool.{true≢false}
use native.Mathlib.Omega.{arith}
use lib.ListN.{take}
use Rattle.aspif.proofs.Readable.{rules-count}
use Rattle.heads.specs.Heads.{Covers, hint_of}
use Rattle.heads.proofs.Bodies.{covers-few, found-few, kept-front}
use Rattle.heads.proofs.enter.Goals as goal
use Rattle.heads.proofs.enter.Goals.{Then-is_covered}

-- the index covers the program
covers : (c : Then-is_covered) → (let a = c.args in Covers a.index.now a.table.now a.rules)
covers c = c.requires.index (sym c.is_covered.ensures ∙ c.if-is_covered.true)

pub rule_with-newest-requires : goal.rule_with-newest-requires
rule_with-newest-requires c = (covers c, c.requires.program.0.1.sound)

pub enter_rules-requires : goal.enter_rules-requires
enter_rules-requires c =
    let d = (goal.at.enter_rules-requires c).Then-is_covered in
    let p = d.requires in
    (covers d, p.program.0.1.sound, p.program.1)

pub put_hint-requires : goal.put_hint-requires
put_hint-requires c =
    let r = c in
    let d = (goal.at.put_hint-requires c).Then-is_covered in
    let s = c in
    found-few s.args.table.now s.args.rules s.args.body.now _ (covers-few (covers d)) r.rule_with-newest.ensures

pub returns-then-is_covered : goal.returns-then-is_covered
returns-then-is_covered c =
    let h = c.put_hint in
    let g = c.enter_rules in
    let d = (goal.at.returns-then-is_covered c).Then-is_covered in
    let s = c in
    let a = s.args in
    let n = rules-count a.rules a.table.now in
    let few = covers-few (covers d) in
    λ ws H. rw (← H.are) (λ called K u f. record {
      rules = omega (arith, K.rules, g.auto.names, h.auto.names);
      by_rule = kept-front g.new.names h.new.names a.rules (hint_of a.name) _ _ _ n (omega (arith, few)) h.ensures
          (g.ensures called (ap (λ m. take m a.names.now) (sym n) ∙ K.by_rule));
      by_name = λ w. absurd (true≢false (sym (covers d).plain ∙ w));
    })
