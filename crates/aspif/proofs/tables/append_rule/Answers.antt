use mathlib.Core.Path.{sym}
use native.Mathlib.Omega.{arith}
use lib.Seq.{length-take-le}
use Rattle.aspif.proofs.Used.{rule-put}
use Rattle.aspif.proofs.tables.append_rule.Goals as goal

pub slice_bounds-copy-end : goal.slice_bounds-copy-end
slice_bounds-copy-end c = sym (length-take-le _ _ c.words_used-used.ensures.used.1)

pub copy-requires : goal.copy-requires
copy-requires c =
    let u = c.words_used-used in
    let s = c in
    omega (arith, length-take-le u.result s.args.table.now u.ensures.used.1, u.ensures.used.0, s.requires.short)

pub returns : goal.returns
returns c =
    let s = c in
    let u = c.words_used-used in
    rule-put s.args.table.now s.args.rules s.requires.rules u.result u.ensures.used.0 s.requires.wide s.args.rule.now c.copy.new.destination
    c.copy-2.new.destination c.copy.ensures c.copy-2.ensures
