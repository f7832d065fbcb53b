use native.Mathlib.Omega.{arith}
use Rattle.names.proofs.Called.{entered-longer}
use Rattle.names.proofs.queries.enter.Goals as goal

pub returns-then-body-le-MOST_WEIGHTED : goal.returns-then-body-le-MOST_WEIGHTED
returns-then-body-le-MOST_WEIGHTED c =
    let r = c in
    λ ws H called K u f. record {
      rules = omega (arith, K.rules, r.enter_rules.auto.names);
      by_rule = r.enter_rules.ensures ws H called K.by_rule;
      by_name = λ w. c.enter_body.ensures called (K.by_name w) u f;
    }

pub returns-else-body-le-MOST_WEIGHTED : goal.returns-else-body-le-MOST_WEIGHTED
returns-else-body-le-MOST_WEIGHTED c =
    let r = c in
    let a = c in
    λ ws H called K u f. record {
      rules = omega (arith, K.rules, r.enter_rules.auto.names);
      by_rule = r.enter_rules.ensures ws H called K.by_rule;
      by_name = λ w. entered-longer a.args.body.now a.args.name (K.by_name w) c.if-body-le-MOST_WEIGHTED.false a.requires.body.1;
    }
