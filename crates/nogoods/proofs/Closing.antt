-- Closing up: words that are moved down, and the loop from record to record with a place to read and a place to write.
-- Assumes nothing.
use mathlib.Core.Path.{◌≡◌, refl, sym, ap, ap₂, subst, ◌∙◌}
use mathlib.Core.Bool.{true, false}
use mathlib.Core.List.Memᴰ
use mathlib.Core.List.{List, [], ◌∷◌, ◌++◌, append-nil, append_assoc}
use Prim.Native.Nat.{ℕ, ◌+◌, ◌-◌, ◌≤◌, ◌<◌}
use native.Mathlib.Omega.{arith}
use lib.IntN.{ℤ, pos}
use lib.ListN.{length, take, drop, replicate, length-drop, length-append, replicate-append-replicate}
use lib.Seq.{paste, take-paste, drop-paste, length-paste, take_at, drop_at, drop-drop, length-take-le}
use borrow.Rule.Slice.PartMut.{put_mid}
use Rattle.std.specs.List.{copy_within}
use Rattle.words.specs.Lists.{◌∈◌}
use Rattle.words.proofs.Lists.{concat-append}
use Rattle.words.proofs.Segments.{Segment, at_front, none_left}
use Rattle.nogoods.specs.Store.{Stored, closed, header_size, stored_words, words_of}
use Rattle.nogoods.specs.Keeps.{Holds}
use Rattle.nogoods.specs.Records.{dead_at, count_at, end_at, stored_at}
use Rattle.nogoods.specs.Moves.{MovedDown, Keeping}
use Rattle.nogoods.proofs.Live.{by_answer, closed-nil, closed-cons, closed-past, closed-from, stored-size}
use Rattle.nogoods.proofs.Recorded.{Originated, AtRecord, at-record, some_words}
use Rattle.nogoods.proofs.Stored.{holds→, holds←}

-- Words

pub copied : (to from n : ℕ) (before : List ℤ) → to ≤ from → from + n ≤ length before → MovedDown to from n before (copy_within before from (from + n) to)
copied to from n before h r =
    let e : from + n - from ≡ n = omega arith in
    let t : to ≤ length before = omega arith in
    let m : n ≤ length (drop from before) = simp length-drop (omega arith) in
    let after = paste before to (drop from before) n in
    let i : to + n + (from - to) ≡ from + n = omega arith in
    rw e (record {
      front = take-paste before to (drop from before) n t m;
      back = rw (← i) (sym (drop-drop (from - to) (to + n) after) ∙ ap (drop (from - to)) (drop-paste before to (drop from before) n t m)
          ∙ drop-drop (from - to) (to + n) before);
      size = length-paste before to (drop from before) n (omega arith) m;
    })

-- what stood after the words that were moved stays
moved-after : {to from n : ℕ} {s t : List ℤ} → MovedDown to from n s t → (k : ℕ) → from + n ≤ k → drop k t ≡ drop k s
moved-after {to} {from} {n} {s} {t} m k h =
    let e : k ≡ from + n + (k - (from + n)) = omega arith in
    let i = k - (from + n) in
    rw e (sym (drop-drop i (from + n) t) ∙ ap (drop i) m.back ∙ drop-drop i (from + n) s)

-- From record to record

-- what is stored: the live ones before `from` stand in the first `to` words, and the others are left from there on
pub record Parted (s : List ℤ) (used to from : ℕ) (stored : List Stored) : Type 0 where
  pub kept : List Stored
  pub left : List Stored
  pub seg : Segment stored_words s from used left
  pub origins : Originated left
  pub front : take to s ≡ words_of kept
  pub size : length (words_of kept) ≡ to
  pub whole : kept ++ closed left ≡ closed stored

-- from the store s₀ to s
pub record Closing (s₀ : List ℤ) (used : ℕ) (s : List ℤ) (to from : ℕ) : Type 0 where
  pub low : to ≤ from
  pub long : length s ≡ length s₀
  pub after : drop used s ≡ drop used s₀
  pub each : (stored : List Stored) → Holds s₀ used stored → Parted s used to from stored

pub closing-start : (s : List ℤ) (used : ℕ) → Closing s used s 0 0
closing-start s used = record {
  low = omega arith;
  long = refl;
  after = refl;
  each = λ stored H. record {
    kept = [];
    left = stored;
    seg = at_front stored_words s _ used stored H.words (sym H.extent);
    origins = H.origins;
    front = refl;
    size = refl;
    whole = refl;
  };
}

module _ {s₀ : List ℤ} {used : ℕ} {s : List ℤ} {to from : ℕ} (C : Closing s₀ used s to from) where
  -- the record at `from`
  module _ (stored : List Stored) (H : Holds s₀ used stored) (h : from < used) where
    abbrev parted : Parted s used to from stored
    parted = C.each stored H

    pub closing_at : AtRecord s from used parted.left
    closing_at = at-record parted.seg parted.origins h

    abbrev it : Stored
    it = stored_at s from

    -- as many words it has
    abbrev n : ℕ
    n = header_size + count_at s from

    its-size : length (stored_words it) ≡ n
    its-size = omega (arith, stored-size it, closing_at.count)

    fewer : Originated closing_at.others
    fewer e u = parted.origins e (subst (λ (l : List Stored). e ∈ l) (sym closing_at.is) (Memᴰ.tail u))

    its-words : take n (drop from s) ≡ stored_words it
    its-words =
        ap (take n) (parted.seg.words ∙ ap (λ (l : List Stored). words_of l ++ drop used s) closing_at.is
        ∙ append_assoc (stored_words it) (words_of closing_at.others) (drop used s))
        ∙ take_at (stored_words it) (words_of closing_at.others ++ drop used s) n its-size

    -- it is dead, and passed over
    past : dead_at s from ≡ true → Parted s used to (end_at s from) stored
    past d = record {
      kept = parted.kept;
      left = closing_at.others;
      seg = closing_at.rest;
      origins = fewer;
      front = parted.front;
      size = parted.size;
      whole = ap (λ (l : List Stored). parted.kept ++ l)
          (sym (ap closed closing_at.is ∙ closed-past it closing_at.others d)) ∙ parted.whole;
    }

    -- it is live, and moved down
    moved : dead_at s from ≡ false → (t : List ℤ) → MovedDown to from n s t → Parted t used (to + n) (end_at s from) stored
    moved a t m =
        let es = closing_at.others in
        let e : from + n ≡ end_at s from = omega arith in
        let words : words_of (parted.kept ++ (it ∷ [])) ≡ words_of parted.kept ++ stored_words it =
        concat-append stored_words parted.kept (it ∷ [])
        ∙ ap (λ (l : List ℤ). words_of parted.kept ++ l) (append-nil (stored_words it)) in
        record {
          kept = parted.kept ++ (it ∷ []);
          left = es;
          seg = record {
            words = ap (λ k. drop k t) (sym e) ∙ m.back ∙ ap (λ k. drop k s) e ∙ closing_at.rest.words
                ∙ ap (λ (l : List ℤ). words_of es ++ l) (sym (moved-after m used (omega (arith, closing_at.room))));
            size = closing_at.rest.size;
            within = omega (arith, m.size, closing_at.rest.within);
          };
          origins = fewer;
          front = m.front ∙ ap₂ (λ x y. x ++ y) parted.front its-words ∙ sym words;
          size = ap length words ∙ length-append (words_of parted.kept) (stored_words it)
              ∙ ap₂ (λ x y. x + y) parted.size its-size;
          whole = append_assoc parted.kept (it ∷ []) (closed es)
              ∙ ap (λ (l : List Stored). parted.kept ++ l) (sym (ap closed closing_at.is ∙ closed-cons it es a))
              ∙ parted.whole;
        }

  -- the record at `from` is passed, in a store that held some nogoods
  pub closing-next : (some : (stored : List Stored) × Holds s₀ used stored) → from < used → (t : List ℤ) (end : ℕ)
      → Keeping to from s t end
      → Closing s₀ used t end (end_at s from)
  closing-next some h t end k =
      by_answer (dead_at s from)
      (λ d. let e = k.dead d in rw (e.0, e.1) (record {
        low = omega (arith, C.low);
        long = C.long;
        after = C.after;
        each = λ stored H. past stored H h d;
      }))
      (λ a. let e = k.alive a in rw e.0 (record {
        low = omega (arith, C.low);
        long = e.1.size ∙ C.long;
        after = moved-after e.1 used (omega (arith, (closing_at some.0 some.1 h).room)) ∙ C.after;
        each = λ stored H. moved stored H h a t e.1;
      }))

  -- the record at `from` can be read
  pub closing-room : (some : (stored : List Stored) × Holds s₀ used stored) → from < used → end_at s from ≤ length s
  closing-room some h = omega (arith, (closing_at some.0 some.1 h).room, C.long, some.1.fits)

  -- the words up to the old end are there
  pub closing-ends : (some : (stored : List Stored) × Holds s₀ used stored) → (from ≤ used) × (used ≤ length s)
  closing-ends some = let S = (C.each some.0 some.1).seg in (omega (arith, S.size), S.within)

  -- all records are passed, and the words up to the old end become 0
  pub closing-over : used ≤ from → (ys : List ℤ) → ys ≡ replicate (length (take (used - to) (drop to s))) (pos 0)
      → (stored : List Stored) → Holds s₀ used stored → Holds (put_mid to (used - to) s ys) to (closed stored)
  closing-over h ys y stored H =
      let p = C.each stored H in
      let b = closing-ends (stored, H) in
      let none : p.left ≡ [] = none_left stored_words some_words p.seg h in
      let all : p.kept ≡ closed stored =
      sym (append-nil p.kept) ∙ ap (λ (l : List Stored). p.kept ++ l) (sym (ap closed none ∙ closed-nil)) ∙ p.whole in
      let n : length (take (used - to) (drop to s)) ≡ used - to =
      length-take-le (used - to) (drop to s) (simp length-drop (omega (arith, C.low))) in
      let u : to + (used - to) ≡ used = omega (arith, C.low) in
      let tail : drop (used - to) (drop to s) ≡ replicate (length s₀ - used) (pos 0) =
      drop-drop (used - to) to s ∙ ap (λ k. drop k s) u ∙ C.after ∙ ap (drop used) (holds→ H)
      ∙ drop_at (words_of stored) (replicate (length s₀ - used) (pos 0)) used (sym H.extent) in
      let w : put_mid to (used - to) s ys ≡ words_of (closed stored) ++ replicate (used - to + (length s₀ - used)) (pos 0) =
      ap₂ (λ a c. a ++ (ys ++ c)) (p.front ∙ ap words_of all) tail
      ∙ ap (λ (l : List ℤ). words_of (closed stored) ++ (l ++ replicate (length s₀ - used) (pos 0)))
      (y ∙ ap (λ k. replicate k (pos 0)) n)
      ∙ ap (λ (l : List ℤ). words_of (closed stored) ++ l) (replicate-append-replicate (used - to) (length s₀ - used) (pos 0)) in
      holds← {stored = closed stored} (used - to + (length s₀ - used)) w
      (sym (sym (ap (λ (l : List Stored). length (words_of l)) all) ∙ p.size))
      (λ e m. H.literals e (closed-from stored m).0) (λ e m. H.origins e (closed-from stored m).0)
