use mathlib.Core.Path.{ap}
use native.Mathlib.Omega.{arith}
use lib.IntN.{pos}
use lib.ListN.{length, get_or}
use Rattle.std.proofs.Common.{rules}
use Rattle.words.proofs.Words.{back}
use Rattle.text.proofs.Puts.{put_on}
use Rattle.totalizer.proofs.RuleTexts.{sized, spaced-body}
use Rattle.totalizer.proofs.texts.put_body.Goals as goal

pub bounds-words-2 : goal.bounds-words-2
bounds-words-2 c = let s = c in omega (arith, (sized s.args.words.now s.requires.rule).long)

pub bounds-words-3 : goal.bounds-words-3
bounds-words-3 c = let s = c in omega (arith, (sized s.args.words.now s.requires.rule).long)

pub put_numbers-end-requires : goal.put_numbers-end-requires
put_numbers-end-requires c = let s = c in
    let p = c.put_number-kind.ensures.within in
    let q = c.put_bound-bound.ensures.within in
    let r = c.put_number-count.ensures.within in record { room = omega (arith, s.requires.room, p, q, r, ap length c.body_of.ensures, (sized s.args.words.now s.requires.rule).body) }

pub put_bytes-requires : goal.put_bytes-requires
put_bytes-requires c =
    let s = c in
    let p = c.put_number-kind.ensures.within in
    let q = c.put_bound-bound.ensures.within in
    let r = c.put_number-count.ensures.within in
    let e = c.body_of.ensures in
    let t = rw e at c.put_numbers-end.ensures.within in
    omega (arith, s.requires.room, p, q, r, t, (sized s.args.words.now s.requires.rule).body)

pub returns : goal.returns
returns c = let s = c in
    let ws = s.args.words.now in
    let kind = rw (back (get_or ws 2 (pos 0)) (search rules)) at c.put_number-kind.ensures in
    let bound = c.put_bound-bound.ensures in
    let count = rw (back (get_or ws 3 (pos 0)) (search rules)) at c.put_number-count.ensures in
    let body = rw c.body_of.ensures at c.put_numbers-end.ensures in
    let last = c.put_bytes.ensures in record { written = rw (spaced-body ws) (put_on kind.written (put_on bound.written (put_on count.written (put_on body.written last)))); within = omega (arith, kind.within, bound.within, count.within, body.within, last.ends, (sized ws s.requires.rule).body) }
