use mathlib.Core.Path.{◌≡◌, sym, ap, ◌∙◌}
use mathlib.Core.List.{List}
use Prim.Native.Nat.{ℕ, ◌+◌, ◌≤◌, ◌<◌}
use native.Mathlib.Numerals.{add-one}
use lib.IntN.{ℤ, pos}
use lib.ListN.{length, drop, get_or, drop_of_length-le}
use lib.Seq.{drop-cons}
use Rattle.std.proofs.Common.{rules}
use Rattle.words.proofs.Words.{back}
use Rattle.heads.specs.Heads.{mixed, hash_from}
use Rattle.heads.proofs.hash_of.Goals as goal

hash-on : (h : ℕ) (l : List ℤ) (i : ℕ) → i < length l → hash_from h (drop i l) ≡ hash_from (mixed h (get_or l i (pos 0))) (drop (i + 1) l)
unfolding hash_from
hash-on h l i k = rw (add-one, drop-cons l i (pos 0) k)

hash-end : (h : ℕ) (l : List ℤ) (i : ℕ) → length l ≤ i → hash_from h (drop i l) ≡ h
unfolding hash_from
hash-end h l i k = rw (drop_of_length-le l {i = i} k)

pub loop-literal-preserved : goal.loop-literal-preserved
loop-literal-preserved c =
    let l = c.loop-literal in
    let ws = c.args.literals.now in
    let i = l.literal-index in
    let x = get_or ws i (pos 0) in
    let v : c.mix-h.result ≡ mixed l.h x = rw (back x (search rules)) at c.mix-h.ensures.mixed.0 in
    (c.mix-h.ensures.mixed.1, ap (λ (h : ℕ). hash_from h (drop (i + 1) ws)) v ∙ sym (hash-on l.h ws i c.loop-literal-test.true) ∙ l.invariant.1)

pub returns : goal.returns
returns c =
    let l = c.loop-literal in
    record { hash = (sym (hash-end l.h _ l.literal-index c.loop-literal-test.false) ∙ l.invariant.1, l.invariant.0) }
