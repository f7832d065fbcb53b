-- Records one after another in a list of words, as rules stand in the table and nogoods in the store: what a loop from record
-- to record knows. `f x` is the words of the record x.
-- Assumes nothing.
use mathlib.Core.Path.{◌≡◌, refl, sym, ap, ◌∙◌}
use mathlib.Core.List.{List, [], ◌∷◌, ◌++◌, map, append_assoc}
use Prim.Native.Nat.{ℕ, ◌+◌, ◌≤◌, ◌<◌}
use native.Mathlib.Omega.{arith}
use lib.ListN.{length, drop, length-append}
use lib.Seq.{drop-drop, drop-append_seam, drop_at}
use lib.IntN.{ℤ}
use Rattle.words.specs.Lists.{concat}

module _ {A : Type 0} (f : A → List ℤ) where
  abbrev pub record_words : List A → List ℤ
  record_words xs = concat (map f xs)

  -- the words of s from i up to e are those of the records
  pub record Segment (s : List ℤ) (i e : ℕ) (left : List A) : Type 0 where
    pub words : drop i s ≡ record_words left ++ drop e s
    pub size : i + length (record_words left) ≡ e
    pub within : e ≤ length s

  -- records at the front of a list
  pub at_front : (s tail : List ℤ) (e : ℕ) (xs : List A) → s ≡ record_words xs ++ tail → length (record_words xs) ≡ e → Segment s 0 e xs
  at_front s tail e xs w n =
      record {
        words = w ∙ rw (w, drop_at (record_words xs) tail e n);
        size = omega arith;
        within = omega (arith, ap length w, length-append (record_words xs) tail);
      }

  -- the first record of what is left
  pub record Next (s : List ℤ) (i e : ℕ) (left : List A) : Type 0 where
    pub x : A
    pub xs : List A
    pub is : left ≡ x ∷ xs
    pub here : drop i s ≡ f x ++ drop (i + length (f x)) s
    pub rest : Segment s (i + length (f x)) e xs
    pub room : i + length (f x) ≤ e

  pub next : {s : List ℤ} {i e : ℕ} {left : List A} → Segment s i e left → i < e → Next s i e left
  next {left = []} S h = absurd (omega (arith, S.size))
  next {s} {i} {e} {left = x ∷ xs} S h =
      let w : drop i s ≡ f x ++ (record_words xs ++ drop e s) = S.words ∙ append_assoc (f x) (record_words xs) (drop e s) in
      let d : drop (i + length (f x)) s ≡ record_words xs ++ drop e s =
      sym (drop-drop (length (f x)) i s) ∙ ap (drop (length (f x))) w ∙ drop-append_seam (f x) (record_words xs ++ drop e s) in
      let n = length-append (f x) (record_words xs) in
      let z = S.size in
      record {
        x = x;
        xs = xs;
        is = refl;
        here = w ∙ ap (λ (l : List ℤ). f x ++ l) (sym d);
        rest = record { words = d; size = omega arith; within = S.within };
        room = omega arith;
      }

  -- after the last record
  pub none_left : {s : List ℤ} {i e : ℕ} {left : List A} → ((x : A) → 0 < length (f x)) → Segment s i e left → e ≤ i → left ≡ []
  none_left {left = []} p S h = refl
  none_left {left = x ∷ xs} p S h = absurd (omega (arith, S.size, length-append (f x) (record_words xs), p x))
