use mathlib.Core.Path.{◌≡◌, sym, ap, ◌∙◌}
use mathlib.Core.List.{List}
use Prim.Native.Nat.{ℕ, ◌+◌, ◌≤◌, ◌<◌}
use native.Mathlib.Numerals.{add-one}
use lib.IntN.{ℤ, pos}
use lib.ListN.{length, drop, get_or, drop_of_length-le}
use lib.Seq.{drop-cons}
use borrow.Author.Rules.{rules}
use Rattle.words.proofs.Words.{back}
use Rattle.nogoods.specs.Index.{mixed, hash_from}
use Rattle.nogoods.proofs.chains.hash_of.Goals as goal

hash-on : (h : ℕ) (l : List ℤ) (i : ℕ) → i < length l → hash_from h (drop i l) ≡ hash_from (mixed h (get_or l i (pos 0))) (drop (i + 1) l)
unfolding hash_from
hash-on h l i k = rw (add-one, drop-cons l i (pos 0) k)

hash-end : (h : ℕ) (l : List ℤ) (i : ℕ) → length l ≤ i → hash_from h (drop i l) ≡ h
unfolding hash_from
hash-end h l i k = rw (drop_of_length-le l {i = i} k)

pub loop-word-preserved : goal.loop-word-preserved
loop-word-preserved c =
    let l = c.loop-word in
    let ws = c.args.literals.now in
    let w = get_or ws l.word-index (pos 0) in
    let v : c.mix-h.result ≡ mixed l.h w = rw (back w (search rules)) at c.mix-h.ensures.value in (
      c.mix-h.ensures.upper_bound,
      ap (λ (h : ℕ). hash_from h (drop (l.word-index + 1) ws)) v ∙ sym (hash-on l.h ws l.word-index c.loop-word-test.true) ∙ l.invariant.1,
    )

pub returns : goal.returns
returns c =
    let l = c.loop-word in
    sym (hash-end l.h c.args.literals.now l.word-index c.loop-word-test.false) ∙ l.invariant.1
