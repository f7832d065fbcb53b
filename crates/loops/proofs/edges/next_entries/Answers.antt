use mathlib.Core.Path.{sym, ◌∙◌}
use native.Mathlib.Omega.{arith}
use lib.ListN.{drop, drop_of_length-le, length-drop}
use lib.Seq.{drop-drop, drop-length}
use Rattle.weights.specs.Weights.{most_weighted}
use Rattle.loops.proofs.edges.next_entries.Goals as goal

pub returns-then-relevant-at-lt-MOST_WEIGHTED : goal.returns-then-relevant-at-lt-MOST_WEIGHTED
returns-then-relevant-at-lt-MOST_WEIGHTED c =
    let a = c.args in
    let h = c.if-relevant-at-lt-MOST_WEIGHTED.true in
    let e = length-drop a.at a.relevant.now in (
      omega arith,
      drop-length a.relevant.now
          ∙ sym (drop_of_length-le (drop a.at a.relevant.now) {i = most_weighted} (omega (arith, e, h))),
    )

pub returns : goal.returns
returns c = let a = c.args in (omega (arith, c.if-relevant-at-lt-MOST_WEIGHTED.false), sym (drop-drop most_weighted a.at a.relevant.now))
