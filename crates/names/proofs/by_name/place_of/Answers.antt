-- `by_name::place_of` meets its contract: the key of the literals so far, mixed with the others, is the whole key.
-- Assumes nothing.
use mathlib.Core.Path.{◌≡◌, sym, ap, ◌∙◌}
use mathlib.Core.List.{List}
use Prim.Native.Nat.{ℕ, ◌+◌, ◌/◌, ◌≤◌, ◌<◌}
use native.Mathlib.Omega.{arith}
use native.Mathlib.Numerals.{add-one}
use lib.IntN.{ℤ, pos}
use lib.ListN.{length, drop, get_or, drop_of_length-le}
use lib.Seq.{drop-cons}
use Rattle.std.proofs.Common.{rules}
use Rattle.words.proofs.Words.{back}
use Rattle.names.specs.ByName.{mixed, key_from, place_of}
use Rattle.names.proofs.by_name.place_of.Goals as goal

key-on : (k : ℕ) (l : List ℤ) (i : ℕ) → i < length l → key_from k (drop i l) ≡ key_from (mixed k (get_or l i (pos 0))) (drop (i + 1) l)
unfolding key_from
key-on k l i h = rw (add-one, drop-cons l i (pos 0) h)

key-end : (k : ℕ) (l : List ℤ) (i : ℕ) → length l ≤ i → key_from k (drop i l) ≡ k
unfolding key_from
key-end k l i h = rw (drop_of_length-le l {i = i} h)

place_is : (k : ℕ) (l : List ℤ) → k ≡ key_from 0 l → k / 524288 ≡ place_of l
unfolding place_of
place_is k l e = ap (λ (n : ℕ). n / 524288) e

pub loop-word-preserved : goal.loop-word-preserved
loop-word-preserved c =
    let l = c.loop-word in
    let ws = c.args.body.now in
    let i = l.word-index in
    let x = get_or ws i (pos 0) in
    let k : c.mix-key.result ≡ mixed l.key x = rw (back x (search rules)) at c.mix-key.ensures.0 in
    (c.mix-key.ensures.1, ap (λ (n : ℕ). key_from n (drop (i + 1) ws)) k ∙ sym (key-on l.key ws i c.loop-word-test.true) ∙ l.invariant.1)

pub returns : goal.returns
returns c =
    let l = c.loop-word in
    let ws = c.args.body.now in
    (place_is l.key ws (sym (key-end l.key ws l.word-index c.loop-word-test.false) ∙ l.invariant.1), omega (arith, l.invariant.0))
