-- Lines written one after another. Assumes nothing.
use mathlib.Core.Path.{◌≡◌, refl, sym, ap, ap₂, ◌∙◌}
use Rattle.std.proofs.Common.{Option, Some, None}
use mathlib.Core.Logic.{inl, inr}
use mathlib.Core.Bool.{Bool, true, false, not, ◌&&◌, ◌||◌, true≢false}
use mathlib.Core.List.{List, [], ◌∷◌, ◌++◌, append-nil}
use Prim.Native.Nat.{ℕ, suc, ◌+◌, ◌≤◌, ◌<◌}
use native.Mathlib.Omega.{arith}
use borrow.Author.Tests.{lt-ltb, le-ltb}
use lib.Dec.{leb, ltb}
use lib.IntN.{ℤ}
use lib.ListN.{length, take, drop, set, length-append}
use Rattle.words.specs.Limits.{largest, longest, most_numbers}
use Rattle.words.proofs.Lists.{failed, answered, is_true, and_left, and_right, and_both, or-false-left, or-false-right, not-decides, leb-decides}
use Rattle.words.specs.Literals.{variable, complement, has}
use Rattle.text.specs.Line.{any_outside}
use Rattle.text.specs.Writing.{Put}
use Rattle.text.proofs.Puts.{put_on, put-none}
use Rattle.text.specs.declared.Letter.{Letter}
use Rattle.text.specs.declared.Letter.TheVariants.{Addition}
use Rattle.drupe.specs.Texts.{Step, step_text, text_of}
use Rattle.drupe.proofs.Texts.{text-append}
use Rattle.merging.specs.Merge.{addition, one, fits, all_fit}
use Rattle.renaming.specs.Writing.{Writes}

-- the text of one step
text-one : (c : Letter) (zs : List ℤ) → text_of (one c zs) ≡ step_text (record { letter = c; numbers = zs })
unfolding text_of
text-one c zs = append-nil (step_text (record { letter = c; numbers = zs }))

pub above : {m n : ℕ} → n < m → leb m n ≡ false
above {m} {n} h = failed (leb m n) ((not-decides (leb-decides m n)).from (λ k. omega (arith, h, k)))

pub and-false : (b : Bool) {c : Bool} → c ≡ false → (b && c) ≡ false
and-false true e = e
and-false false e = refl

module _ (c : Letter) (zs : List ℤ) (inside : any_outside zs ≡ false) where
  fits_by : (b : Bool) → ltb most_numbers (length zs) ≡ b → all_fit (one c zs) ≡ (not b && true)
  fits_by b e = ap₂ (λ x y. not (x || y) && true) inside e

  -- a line with too many numbers
  pub one-long : (before after : List ℕ) (at : ℕ) → most_numbers < length zs → Writes (one c zs) before after at None
  one-long before after at h = ap (λ b. b && leb (at + length (text_of (one c zs))) longest) (fits_by true (lt-ltb _ _ h))

  module _ {before after : List ℕ} {at end : ℕ} (few : length zs ≤ most_numbers) (p : Put (step_text (record { letter = c; numbers = zs })) before after at end) where
    put-line : Put (text_of (one c zs)) before after at end
    put-line = rw (text-one c zs) p

    pub one_written : end ≤ longest → Writes (one c zs) before after at (Some end)
    one_written l = (put-line, fits_by false (le-ltb _ _ few), l)

    pub one-past : longest < end → Writes (one c zs) before after at None
    one-past l =
        let h : longest < at + length (text_of (one c zs)) = omega (arith, l, put-line.ends) in
        and-false (all_fit (one c zs)) (above h)

-- nothing is written
pub none_written : (before : List ℕ) (at : ℕ) → at ≤ longest → Writes [] before before at (Some at)
unfolding text_of
none_written before at h = (put-none before at, refl, h)

fit-both : (ts us : List Step) → all_fit ts ≡ true → all_fit us ≡ true → all_fit (ts ++ us) ≡ true
fit-both [] us a b = b
fit-both (t ∷ ts) us a b = and_both (and_left (fits t) (all_fit ts) a) (fit-both ts us (and_right (fits t) (all_fit ts) a) b)

-- lines after lines
pub then-written : (ts us : List Step) (before between after : List ℕ) (at from : ℕ) (r : Option ℕ) → Writes ts before between at (Some from) → Writes us between after from r
    → Writes (ts ++ us) before after at r
then-written ts us before between after at from (Some end) (p, f, h) (q, g, k) = (rw (text-append ts us) (put_on p q), fit-both ts us f g, k)
then-written ts us before between after at from None (p, f, h) o =
    rw (text-append ts us, length-append, fit-front ts us f, sum) o
  where
    sum : at + (length (text_of ts) + length (text_of us)) ≡ from + length (text_of us)
    sum = omega (arith, p.ends)

    fit-front : (ts us : List Step) → all_fit ts ≡ true → all_fit (ts ++ us) ≡ all_fit us
    fit-front [] us e = refl
    fit-front (t ∷ ts) us e = rw (and_left (fits t) (all_fit ts) e) (fit-front ts us (and_right (fits t) (all_fit ts) e))

-- what does not fit does not with more lines either
pub over-more : (ts us : List Step) (before after later : List ℕ) (at : ℕ) → Writes ts before after at None → Writes (ts ++ us) before later at None
over-more ts us before after later at o = by (all_fit ts) (all_fit (ts ++ us)) (fit-more ts us) o
  where
    fit-more : (ts us : List Step) → all_fit (ts ++ us) ≡ true → all_fit ts ≡ true
    fit-more [] us e = refl
    fit-more (t ∷ ts) us e = rw (and_left (fits t) (all_fit (ts ++ us)) e) (fit-more ts us (and_right (fits t) (all_fit (ts ++ us)) e))

    by : (a b : Bool) → (b ≡ true → a ≡ true) → (a && leb (at + length (text_of ts)) longest) ≡ false → (b && leb (at + length (text_of (ts ++ us))) longest) ≡ false
    by a false h e = refl
    by true true h e =
        let far : longest < at + length (text_of ts) = not-le e in
        let more : longest < at + length (text_of (ts ++ us)) = rw (text-append ts us, length-append) (omega (arith, far)) in
        above more
      where
        not-le : {m n : ℕ} → leb m n ≡ false → n < m
        not-le {m} {n} e = elim (answered (leb (1 + n) m)) [
          | inl t ↦ let k = (leb-decides (1 + n) m).to t in omega (arith, k)
          | inr t ↦ absurd (true≢false (sym (is_true (leb-decides m n) (let k = (not-decides (leb-decides (1 + n) m)).to t in omega (arith, k))) ∙ e))
        ]
    by false true h e = absurd (true≢false (sym (h refl)))

-- Widened lines

-- a row that begins with a line's numbers, and the literal put behind them
widened-row : (s d : List ℤ) (x : ℤ) → length s < length d → take (suc (length s)) (set (s ++ drop (length s) d) (length s) x) ≡ s ++ (x ∷ [])
widened-row [] [] x h = absurd (omega (arith, h))
widened-row [] (y ∷ d) x h = refl
widened-row (a ∷ s) [] x h = absurd (omega (arith, h))
widened-row (a ∷ s) (b ∷ d) x h = ap (λ (l : List ℤ). a ∷ l) (widened-row s d x (omega (arith, h)))

pub put-row : (s d : List ℤ) (x : ℤ) {row : List ℤ} {y : ℤ} → row ≡ s ++ drop (length s) d → y ≡ x → length s < length d
    → take (length s + 1) (set row (length s) y) ≡ s ++ (x ∷ [])
put-row s d x e f h = let n : length s + 1 ≡ suc (length s) = omega arith in rw (e, f, n) (widened-row s d x h)

pub inside-end : (s : List ℤ) (x : ℤ) → any_outside s ≡ false → variable x ≤ largest → any_outside (s ++ (x ∷ [])) ≡ false
inside-end [] x e h = rw (le-ltb largest (variable x) h)
inside-end (y ∷ s) x e h = rw (or-false-left (ltb largest (variable y)) (any_outside s) e) (inside-end s x (or-false-right (ltb largest (variable y)) (any_outside s) e) h)

module _ (x : ℤ) (L : List ℤ) where
  pub skipped : has (complement x) L ≡ true → addition x L ≡ []
  skipped e = rw e

  pub unwidened : has (complement x) L ≡ false → has x L ≡ true → addition x L ≡ one Addition L
  unwidened e f = rw (e, f)

  pub put-behind : has (complement x) L ≡ false → has x L ≡ false → addition x L ≡ one Addition (L ++ (x ∷ []))
  put-behind e f = rw (e, f)
