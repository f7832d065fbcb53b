use Rattle.std.proofs.Common.{rules}
use mathlib.Core.Path.{◌≡◌, sym, ◌∙◌, ap}
use Prim.Native.Nat.{◌-◌, ◌+◌}
use native.Mathlib.Omega.{arith}
use borrow.Author.Tests.{le-leb, lt-leb}
use lib.ListN.{length, length-drop}
use Rattle.words.proofs.Parts.{tail_of}
use Rattle.aspif.specs.Tables.{sound_table}
use Rattle.aspif.proofs.Cursors.{shape_of, sound-on, sound-end}
use Rattle.aspif.proofs.tables.is_readable.Goals as goal

pub returns-then-rules-gt-MOST_RULES : goal.returns-then-rules-gt-MOST_RULES
unfolding sound_table
returns-then-rules-gt-MOST_RULES c = rw (lt-leb _ _ c.if-rules-gt-MOST_RULES.true)

pub returns-then-not-is_sound : goal.returns-then-not-is_sound
unfolding sound_table
returns-then-not-is_sound c =
    let l = c.loop in
    rw (le-leb _ _ c.if-rules-gt-MOST_RULES.false, l.invariant.1, sound-on (c.args.rules - l.counter) l.rest.now (omega arith), sym c.is_sound.ensures ∙ c.if-not-is_sound.true)

pub rule_size-requires : goal.rule_size-requires
rule_size-requires c = shape_of _ (sym c.is_sound.ensures ∙ c.if-not-is_sound.false)

pub loop-preserved : goal.loop-preserved
loop-preserved c =
    let l = c.loop in
    let e = sound-on (c.args.rules - l.counter) l.rest.now (omega arith) in
    let n : c.args.rules - l.counter - 1 ≡ c.args.rules - (l.counter + 1) = omega arith in
    (omega (arith, l.invariant.0, length-drop c.rule_size.result l.rest.now, ap length (tail_of c.rule_size.result l.rest.now)), l.invariant.1 ∙ e ∙ rw (tail_of c.rule_size.result l.rest.now, c.rule_size.ensures.size.0, sym c.is_sound.ensures ∙ c.if-not-is_sound.false, n))

pub offset_bounds-rest-rule_size : goal.offset_bounds-rest-rule_size
offset_bounds-rest-rule_size c = let w = c.rule_size.ensures.size.1 in let v = c.loop.invariant.0 in search rules

pub returns : goal.returns
unfolding sound_table
returns c =
    let l = c.loop in
    c.all_zero.ensures ∙ rw (le-leb _ _ c.if-rules-gt-MOST_RULES.false, l.invariant.1) (sym (sound-end (c.args.rules - l.counter) l.rest.now (omega arith)))
