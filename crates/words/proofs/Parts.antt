-- A part of a list, and a list with another part in its place: what a lent part `&mut s[a..e]` that is back has made of s.
-- Assumes nothing.
use mathlib.Core.Path.{◌≡◌, refl, sym, ◌∙◌, ap}
use mathlib.Core.List.{List, [], ◌∷◌, ◌++◌, append-nil}
use Prim.Native.Nat.{ℕ, zero, suc, ◌+◌, ◌-◌, ◌≤◌}
use native.Mathlib.Omega.{arith}
use lib.ListN.{length, take, drop, replicate, length-drop, length-append}
use lib.Seq.{drop-length, take_all, drop-drop, length-take-le, take_at, drop_at, take-append-le, take-take}
use borrow.Rule.Slice.PartMut.{put_mid, mid_of, Post-is}

module _ {X : Type 0} (a : ℕ) (xs : List X) where
  -- `&mut s[a..]`: what was lent
  pub tail_of : take (length xs - a) (drop a xs) ≡ drop a xs
  tail_of = take_all (length xs - a) (drop a xs) (simp length-drop (omega arith))

  -- the whole with ys in its place
  pub put-tail : (ys : List X) → a ≤ length xs → put_mid a (length xs - a) xs ys ≡ take a xs ++ ys
  put-tail ys h = rw (Post-is a (length xs) xs, drop-length, append-nil)

  -- it is one element throughout
  pub tail-filled : (z : X) (ys : List X) → a ≤ length xs → ys ≡ replicate (length (take (length xs - a) (drop a xs))) z
      → put_mid a (length xs - a) xs ys ≡ take a xs ++ replicate (length xs - a) z
  tail-filled z ys h e = put-tail ys h ∙ ap (λ l. take a xs ++ l) (e ∙ ap (λ n. replicate n z) (ap length tail_of ∙ length-drop a xs))

  -- k elements at its front were written
  pub put_front : (new ys : List X) (k : ℕ) → a ≤ length xs → ys ≡ new ++ drop k (take (length xs - a) (drop a xs))
      → put_mid a (length xs - a) xs ys ≡ take a xs ++ (new ++ drop (a + k) xs)
  put_front new ys k h e = rw (put-tail ys h, e, tail_of, drop-drop)

module _ {X : Type 0} (a n : ℕ) (xs ys : List X) (fits : a + n ≤ length xs) (size : length ys ≡ n) where
  length_front : length (take a xs) ≡ a
  length_front = length-take-le a xs (omega arith)

  drop-front : drop a (put_mid a n xs ys) ≡ ys ++ drop n (drop a xs)
  drop-front = drop_at (take a xs) (ys ++ drop n (drop a xs)) a length_front

  -- `&mut s[a..e]` of n elements: the part is what was put
  pub mid-put : mid_of a n (put_mid a n xs ys) ≡ ys
  mid-put = rw drop-front (take_at ys (drop n (drop a xs)) n size)

  -- what stands after it is as it was
  pub after-put : (b : ℕ) → a + n ≤ b → drop b (put_mid a n xs ys) ≡ drop b xs
  after-put b h =
      let e : b ≡ a + n + (b - (a + n)) = omega arith in
      let p : drop (a + n) (put_mid a n xs ys) ≡ drop (a + n) xs =
      sym (drop-drop n a (put_mid a n xs ys)) ∙ rw drop-front (drop_at ys (drop n (drop a xs)) n size ∙ drop-drop n a xs) in
      rw e (sym (drop-drop (b - (a + n)) (a + n) (put_mid a n xs ys)) ∙ rw p (drop-drop (b - (a + n)) (a + n) xs))

  -- and so is what stands before it
  pub before-put : (b : ℕ) → b ≤ a → take b (put_mid a n xs ys) ≡ take b xs
  before-put b h =
      take-append-le b (take a xs) (ys ++ drop n (drop a xs)) (omega (arith, length_front)) ∙ take-take b a xs h

  pub length-put : length (put_mid a n xs ys) ≡ length xs
  length-put = simp (length-append, length-drop, length_front, size) (omega arith)

-- new elements written after a front that stands
pub put_next : {X : Type 0} (front rest new xs ys : List X) (a : ℕ) → length front ≡ a → xs ≡ front ++ rest
    → ys ≡ new ++ drop (length new) (take (length xs - a) (drop a xs)) → put_mid a (length xs - a) xs ys ≡ front ++ (new ++ drop (length new) rest)
put_next front rest new xs ys a size e q =
    let h : a ≤ length xs = omega (arith, ap length e, length-append front rest) in
    let t : take a xs ≡ front = rw e (take_at front rest a size) in
    let d : drop a xs ≡ rest = rw e (drop_at front rest a size) in
    put_front a xs new ys (length new) h q ∙ rw (t, ← drop-drop (length new) a xs, d)

-- a part that ends by b is a part of the first b elements
pub mid-front : {X : Type 0} (a n b : ℕ) (xs : List X) → a + n ≤ b → mid_of a n (take b xs) ≡ mid_of a n xs
mid-front zero n b xs h = take-take n b xs (omega arith)
mid-front (suc a) n zero xs h = absurd (omega arith)
mid-front (suc a) n (suc b) [] h = refl
mid-front (suc a) n (suc b) (x ∷ xs) h = mid-front a n b xs (omega arith)
