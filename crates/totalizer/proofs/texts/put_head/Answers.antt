use mathlib.Core.Path.{◌≡◌, sym, ap}
use native.Mathlib.Omega.{arith}
use lib.ListN.{length, take}
use lib.Seq.{length-take-le}
use Rattle.text.proofs.Puts.{put_on, spaced-append}
use Rattle.aspif.specs.Tables.{heads_at}
use Rattle.totalizer.proofs.RuleTexts.{sized}
use Rattle.totalizer.proofs.texts.put_head.Goals as goal
use Rattle.totalizer.proofs.texts.put_head.Goals.{Start}

pub slice_bounds-put_numbers-end : goal.slice_bounds-put_numbers-end
slice_bounds-put_numbers-end c =
    let s = c in
    sym (length-take-le 2 s.args.words.now (omega (arith, (sized s.args.words.now s.requires.rule).long)))

-- two numbers
two : (s : Start) → length (take 2 s.args.words.now) ≡ 2
two s = length-take-le 2 s.args.words.now (omega (arith, (sized s.args.words.now s.requires.rule).long))

pub put_numbers-end-requires : goal.put_numbers-end-requires
put_numbers-end-requires c = let s = (goal.at.put_numbers-end-requires c).Start in record { room = omega (arith, s.requires.room, two s, c.put_bytes-from.ensures.ends) }

pub put_numbers-requires : goal.put_numbers-requires
put_numbers-requires c = let s = (goal.at.put_numbers-requires c).Start in
    let n = c.put_numbers-end.ensures.within in record { room = omega (arith, s.requires.room, two s, c.put_bytes-from.ensures.ends, n, ap length c.heads_of.ensures, (sized s.args.words.now s.requires.rule).heads) }

pub returns : goal.returns
returns c = let s = (goal.at.returns c).Start in
    let ws = s.args.words.now in
    let first = c.put_bytes-from.ensures in
    let numbers = c.put_numbers-end.ensures in
    let e = c.heads_of.ensures in
    let heads = rw e at c.put_numbers.ensures in record { written = rw (spaced-append (take 2 ws) (heads_at ws)) (put_on first (put_on numbers.written heads.written)); within = omega (arith, first.ends, numbers.within, two s, heads.within, (sized ws s.requires.rule).heads) }
