-- The index: what stands at a place, one record more that is entered, a nogood that is dead, and cells that are as they were.
-- Assumes nothing.
use mathlib.Core.Path.{◌≡◌, refl, sym, ap, ap₂, subst, ◌∙◌}
use mathlib.Core.Logic.{◌⊎◌, inl, inr}
use mathlib.Core.Bool.{Bool, true, false, cond, true≢false}
use mathlib.Core.List.Memᴰ
use mathlib.Core.List.{List, [], ◌∷◌, ◌++◌, append_assoc, append-nil}
use Prim.Native.Nat.{ℕ, zero, suc, ◌+◌, ◌*◌, ◌-◌, ◌≤◌, ◌<◌}
use native.Mathlib.Nat.{mod-lt}
use native.Mathlib.Omega.{arith}
use lib.IntN.{ℤ}
use lib.ListN.{length, take, drop, get_or, set, length-append, length-set, length-drop, replicate}
use lib.Seq.{get_or-set_same, get_or-set_other, get_or-take, length-take-le}
use borrow.Rule.Slice.PartMut.{put_mid}
use Rattle.std.proofs.lemmas.List.{get_or_append_left}
use Rattle.words.specs.Lists.{◌∈◌}
use Rattle.words.specs.Descending.{Descends, Leads, Changed}
use Rattle.words.proofs.Descending.{Walking, below?, fewer, same-places, same_entries, entered, unlinked-first, unlinked-next, changed, unchanged}
use Rattle.words.proofs.Laws.{padded}
use Rattle.words.proofs.Lists.{if-true, concat-append}
use Rattle.words.proofs.Literals.{same_list-decides}
use Rattle.words.proofs.Parts.{tail_of, before-put, length-put}
use Rattle.words.proofs.Places.{equal?}
use Rattle.words.proofs.Segments.{Segment, at_front}
use Rattle.nogoods.specs.Store.{Stored, dead_of, is_target, killed, stored_words, record_size, words_of}
use Rattle.nogoods.specs.Keeps.{Holds}
use Rattle.nogoods.specs.Records.{Encodes, end_at, nogood_at, stored_at}
use Rattle.nogoods.specs.Finds.{found_at, Skips}
use Rattle.nogoods.specs.Index.{fixed_cells, cells_per_chain, most_scale, scale_of, start_of, Roomy, reach, covered_at, proved_cells, hash_from, key_of, bucket_of, before_of, entry_of, Placed, Start, Member, Covers, Keeps, linked_in, Entered, Unlinked, Blank, BlankIndex, Target, Spotted, Marked}
use Rattle.nogoods.specs.declared.chains.Spot.{Spot}
use Rattle.std.specs.declared.option.Option.{Option}
use Rattle.std.specs.declared.option.Option.TheVariants.{Some, None}
use Rattle.nogoods.proofs.Live.{stored-size, by_answer, target-alive, killed-nil, killed-here, killed-on}
use Rattle.nogoods.proofs.Recorded.{Originated, AtRecord, at-record, used-words, Rest}

-- Places

-- where the first record ends
abbrev pub past : ℕ → Stored → ℕ
past i e = i + record_size e.literals

pub words_size : (f : Stored) (es : List Stored) → length (words_of (f ∷ es)) ≡ record_size f.literals + length (words_of es)
words_size f es = length-append (stored_words f) (words_of es) ∙ ap (λ n. n + length (words_of es)) (stored-size f)

pub above : (i : ℕ) (es : List Stored) (x : ℕ) (e : Stored) → Placed i es x e → (i ≤ x) × (x < i + length (words_of es))
above i [] x e p = absurd p
above i (f ∷ es) x e (inl (q, r)) = (omega arith, omega (arith, words_size f es))
above i (f ∷ es) x e (inr p) = let a = above (past i f) es x e p in (omega (arith, a.0), omega (arith, a.1, words_size f es))

pub placed-in : (i : ℕ) (es : List Stored) (x : ℕ) (e : Stored) → Placed i es x e → e ∈ es
placed-in i [] x e p = absurd p
placed-in i (f ∷ es) x e (inl (q, r)) = Memᴰ.head (sym r)
placed-in i (f ∷ es) x e (inr p) = Memᴰ.tail (placed-in (past i f) es x e p)

-- in front of others
pub placed-left : (i : ℕ) (a b : List Stored) (x : ℕ) (e : Stored) → Placed i a x e → Placed i (a ++ b) x e
placed-left i [] b x e p = absurd p
placed-left i (f ∷ a) b x e (inl q) = inl q
placed-left i (f ∷ a) b x e (inr p) = inr (placed-left (past i f) a b x e p)

-- and with one more behind it
placed-append : (i : ℕ) (es : List Stored) (e : Stored) (y : ℕ) (f : Stored) → Placed i (es ++ (e ∷ [])) y f → Placed i es y f ⊎ ((i + length (words_of es) ≡ y) × (e ≡ f))
placed-append i [] e y f (inl (q, r)) = inr (omega arith, r)
placed-append i [] e y f (inr p) = absurd p
placed-append i (g ∷ es) e y f (inl q) = inl (inl q)
placed-append i (g ∷ es) e y f (inr p) = elim (placed-append (past i g) es e y f p) [
  | inl q ↦ inl (inr q)
  | inr q ↦ inr (omega (arith, q.0, words_size g es), q.1)
]

placed-new : (i : ℕ) (es : List Stored) (e : Stored) (x : ℕ) → i + length (words_of es) ≡ x → Placed i (es ++ (e ∷ [])) x e
placed-new i [] e x q = inl (omega arith, refl)
placed-new i (g ∷ es) e x q = inr (placed-new (past i g) es e x (omega (arith, words_size g es)))

-- Records in the words

abbrev first_of : Stored → List Stored → Stored
first_of d [] = d
first_of d (x ∷ l) = x

abbrev others-of : List Stored → List Stored
others-of [] = []
others-of (x ∷ l) = l

-- the first record, and the segment after it
pub record Opens (s : List ℤ) (i e : ℕ) (f : Stored) (es : List Stored) : Type 0 where
  pub is : stored_at s i ≡ f
  pub room : end_at s i ≤ e
  pub end : end_at s i ≡ past i f
  pub rest : Segment stored_words s (past i f) e es

pub opens : (s : List ℤ) (i e : ℕ) (f : Stored) (es : List Stored) → Segment stored_words s i e (f ∷ es) → Originated (f ∷ es) → Opens s i e f es
opens s i e f es S some =
    let h : i < e = omega (arith, S.size, words_size f es) in
    let r = at-record S some h in
    let first : stored_at s i ≡ f = sym (ap (first_of f) r.is) in
    let others : es ≡ r.others = ap others-of r.is in
    let end : end_at s i ≡ past i f = r.size ∙ ap (λ (x : Stored). past i x) first in
    record {
      is = first;
      room = r.room;
      end = end;
      rest = subst (λ (l : List Stored). Segment stored_words s (past i f) e l) (sym others) (subst (λ (n : ℕ). Segment stored_words s n e r.others) end r.rest);
    }

later : {f : Stored} {es : List Stored} → Originated (f ∷ es) → Originated es
later some e u = some e (Memᴰ.tail u)

-- what stands at a place is read there
pub reads : (s : List ℤ) (i e : ℕ) (es : List Stored) → Segment stored_words s i e es → Originated es → (x : ℕ) (f : Stored) → Placed i es x f
    → (stored_at s x ≡ f) × (end_at s x ≤ e)
reads s i e [] S some x f p = absurd p
reads s i e (g ∷ es) S some x f (inl (q, r)) = let o = opens s i e g es S some in (rw (← q) (o.is ∙ r), rw (← q) o.room)
reads s i e (g ∷ es) S some x f (inr p) = reads s (past i g) e es (opens s i e g es S some).rest (later some) x f p

-- the segment after some records
pub after : (s : List ℤ) (i e : ℕ) (a b : List Stored) → Segment stored_words s i e (a ++ b) → Originated (a ++ b) → Segment stored_words s (i + length (words_of a)) e b
after s i e [] b S some = let z : i + 0 ≡ i = omega arith in rw z S
after s i e (f ∷ a) b S some =
    let z : past i f + length (words_of a) ≡ i + length (words_of (f ∷ a)) = omega (arith, words_size f a) in
    rw (← z) (after s (past i f) e a b (opens s i e f (a ++ b) S some).rest (later some))

-- the words say what is stored
decoded : (s : List ℤ) (i e : ℕ) (a b : List Stored) → Segment stored_words s i e a → Originated a → Segment stored_words s i e b → Originated b → a ≡ b
decoded s i e [] [] S some T more = refl
decoded s i e [] (y ∷ b) S some T more = absurd (omega (arith, S.size, T.size, words_size y b))
decoded s i e (x ∷ a) [] S some T more = absurd (omega (arith, S.size, T.size, words_size x a))
decoded s i e (x ∷ a) (y ∷ b) S some T more =
    let o = opens s i e x a S some in
    let p = opens s i e y b T more in
    let q : x ≡ y = sym o.is ∙ p.is in
    let n : past i y ≡ past i x = sym (ap (λ (z : Stored). past i z) q) in
    ap₂ (λ z l. z ∷ l) q (decoded s (past i x) e a b o.rest (later some) (subst (λ (k : ℕ). Segment stored_words s k e b) n p.rest) (later more))

module _ {s : List ℤ} {stored : List Stored} (E : Encodes s stored) where
  abbrev words-of : Segment stored_words s 0 (length s) stored
  words-of = at_front stored_words s [] (length s) stored (E.words ∙ sym (append-nil (words_of stored))) (sym (ap length E.words))

module _ {store : List ℤ} {used : ℕ} {stored : List Stored} (H : Holds store used stored) where
  pub segment : Segment stored_words store 0 used stored
  segment = at_front stored_words store _ used stored H.words (sym H.extent)

  pub read : (x : ℕ) (e : Stored) → Placed 0 stored x e → (stored_at store x ≡ e) × (end_at store x ≤ used)
  read = reads store 0 used stored segment H.origins

-- The scale

pub scale-most : (n : ℕ) → scale_of n ≤ most_scale
unfolding scale_of
scale-most n = omega arith

-- all cells that a scale stands for are there
pub scale-room : (n : ℕ) → 0 < scale_of n → cells_per_chain * scale_of n + fixed_cells ≤ n
unfolding scale_of
scale-room n h = omega arith

-- an index whose scale is not 0 has the cells before the search's
pub roomy : (index : List ℕ) (sc : ℕ) → sc ≡ scale_of (length index) → 0 < sc → Roomy sc index
roomy index sc e h = rw e (omega (arith, scale-room (length index) (rw e at h)), scale-most (length index))

-- the cells before the search's that there are
start-cells : (n j : ℕ) → j < proved_cells (scale_of n) → j < n → j < start_of n
unfolding start_of
start-cells n j h k = omega arith

-- Keys

pub key_below : (sc : ℕ) (l : List ℤ) → 0 < sc → key_of sc l < sc
unfolding key_of
key_below sc l h = mod-lt (hash_from 0 l) h

-- Cells that are as they were

-- past the end
pub outside : (l : List ℕ) (j : ℕ) → length l ≤ j → get_or l j 0 ≡ 0
outside [] j h = refl
outside (x ∷ l) zero h = absurd (omega arith)
outside (x ∷ l) (suc j) h = outside l j (omega arith)

-- all cells before the search's, where those that there are are so
pub all-cells : (index : List ℕ) (sc : ℕ) → sc ≡ scale_of (length index) → ((j : ℕ) → j < start_of (length index) → get_or index j 0 ≡ 0) → Blank sc index
all-cells index sc e f j h = elim (below? j (length index)) [
  | inl k ↦ f j (start-cells (length index) j (rw e at h) k)
  | inr k ↦ outside index j k
]

-- the cells before the search's become 0
pub blank-front : (index : List ℕ) (end : ℕ) → end ≡ start_of (length index) → end ≤ length index → (ys : List ℕ) → length ys ≡ length (take end index)
    → ys ≡ replicate (length (take end index)) 0 → Blank (scale_of (length index)) (ys ++ drop end index)
blank-front index end e h ys n z =
    let a : length ys ≡ end = n ∙ length-take-le end index h in
    let same : length (ys ++ drop end index) ≡ length index = simp (length-append, length-drop) (omega arith) in
    all-cells (ys ++ drop end index) _ (ap scale_of (sym same)) (λ j k.
    get_or_append_left ys (drop end index) 0 j (omega (arith, ap start_of same))
    ∙ ap (λ (l : List ℕ). get_or l j 0) z ∙ padded 0 [] (length (take end index)) j)

-- the cells before the search's
abbrev pub Same : ℕ → List ℕ → List ℕ → Type 0
Same sc index index' = (j : ℕ) → j < proved_cells sc → get_or index' j 0 ≡ get_or index j 0

module _ {sc : ℕ} {index index' : List ℕ} (same : Same sc index index') where
  pub covers-same : {r : ℕ} {stored : List Stored} → Covers sc index r stored → Covers sc index' r stored
  covers-same C = record {
    front = C.front;
    back = C.back;
    parts = C.parts;
    extent = C.extent;
    near = C.near;
    marks = λ x h m. C.marks x h (rw (same (sc + x) (omega arith)) at m);
    chains = same_entries C.chains (λ k h. same k (omega arith)) (λ x h. ap (λ (n : ℕ). n - 1) (same (sc + x) (omega arith)));
  }

pub keeps_same : {store : List ℤ} {index index' : List ℕ} {used : ℕ} {stored : List Stored} (K : Keeps store index used stored) → length index' ≡ length index
    → Same K.scale index index' → Keeps store index' used stored
keeps_same {index' = index'} {stored = stored} K n same = record {
  holds = K.holds;
  scale = K.scale;
  size = K.size ∙ ap scale_of (sym n);
  covers = subst (λ (r : ℕ). Covers K.scale index' r stored) (sym (same (covered_at K.scale) (omega arith))) (covers-same same K.covers);
}

-- the search writes its own cells
module _ (a : ℕ) (index ys : List ℕ) (n : a ≤ length index) (kept : length ys ≡ length (take (length index - a) (drop a index))) where
  part-size : length ys ≡ length index - a
  part-size = kept ∙ ap length (tail_of a index) ∙ length-drop a index

  pub same-part : (j : ℕ) → j < a → get_or (put_mid a (length index - a) index ys) j 0 ≡ get_or index j 0
  same-part j h =
      let t = before-put a (length index - a) index ys (omega arith) part-size a (omega arith) in
      sym (get_or-take a (put_mid a (length index - a) index ys) j 0 h) ∙ ap (λ (l : List ℕ). get_or l j 0) t ∙ get_or-take a index j 0 h

  pub length_part : length (put_mid a (length index - a) index ys) ≡ length index
  length_part = length-put a (length index - a) index ys (omega arith) part-size

  pub keeps-part : {store : List ℤ} {used : ℕ} {stored : List Stored} → a ≡ start_of (length index) → Keeps store index used stored
      → Keeps store (put_mid a (length index - a) index ys) used stored
  keeps-part e K = keeps_same K length_part (λ j h. elim (below? j (length index)) [
    | inl k ↦ same-part j (rw e (start-cells (length index) j (rw K.size at h) k))
    | inr k ↦ outside (put_mid a (length index - a) index ys) j (omega (arith, length_part)) ∙ sym (outside index j k)
  ])

-- a store among the chains' first entries
key-changed : (sc : ℕ) (index : List ℕ) (h v : ℕ) → h < length index → Changed sc (bucket_of index) (bucket_of (set index h v)) h v
key-changed sc index h v b k c = elim (equal? k h) [
  | inl e ↦ inl (e, rw e (get_or-set_same index h v 0 b))
  | inr d ↦ inr (d, get_or-set_other index h k v 0 d)
]

-- An index of zeros, and more that is stored

covers-none : {sc : ℕ} {index : List ℕ} → Blank sc index → (r : ℕ) → r ≡ 0 → (stored : List Stored) → Covers sc index r stored
covers-none {sc} {index} b r z stored = record {
  front = [];
  back = stored;
  parts = refl;
  extent = z;
  near = omega arith;
  marks = λ x h m. absurd (omega (arith, b (sc + x) (omega arith)));
  chains = record {
    member = λ x k (e, p, h, a). absurd p;
    within = λ x k (e, p, h). absurd p;
    top = λ x k (e, p, h, a). absurd p;
    down = λ x y k (e, p, h, a) s l. absurd p;
    first = λ k p h e. absurd (omega (arith, b k (omega arith)));
    next = λ y k p (e, q, h) n. absurd q;
  };
}

-- so that they go with any store
pub keeps-blank : {store : List ℤ} {index : List ℕ} {used : ℕ} {stored : List Stored} → Holds store used stored → BlankIndex index
    → Keeps store index used stored
keeps-blank {index = index} {stored = stored} H b = record {
  holds = H;
  scale = scale_of (length index);
  size = refl;
  covers = covers-none b _ (b (covered_at (scale_of (length index))) (omega arith)) stored;
}

blank-zeros : (sc n : ℕ) → Blank sc (replicate n 0)
blank-zeros sc n j h = padded 0 [] n j

pub blank-index : (n : ℕ) → BlankIndex (replicate n 0)
blank-index n = blank-zeros _ n

pub covers_more : {sc : ℕ} {index : List ℕ} {r : ℕ} {stored : List Stored} (new : List Stored) → Covers sc index r stored → Covers sc index r (stored ++ new)
covers_more new C = record {
  front = C.front;
  back = C.back ++ new;
  parts = ap (λ (l : List Stored). l ++ new) C.parts ∙ append_assoc C.front C.back new;
  extent = C.extent;
  near = C.near;
  marks = C.marks;
  chains = C.chains;
}

-- One record more is entered

module _ (sc : ℕ) (index index' : List ℕ) (x h end : ℕ) (n : proved_cells sc ≤ length index) (xb : x < reach sc) (hb : h < sc) (E : Entered sc index index' x h end) where
  abbrev once : List ℕ
  once = set index (sc + x) (suc (get_or index h 0))

  abbrev twice : List ℕ
  twice = linked_in sc index x h

  pub entered-key : Changed sc (bucket_of index) (bucket_of index') h (suc x)
  entered-key k b =
      let e : get_or index' k 0 ≡ get_or twice k 0 = E k (omega arith) ∙ get_or-set_other twice (covered_at sc) k end 0 (λ q. omega arith) in
      elim (equal? k h) [
        | inl q ↦ inl (q, e ∙ rw q (get_or-set_same once h (suc x) 0 (simp length-set (omega arith))))
        | inr d ↦ inr (d, e ∙ get_or-set_other once h k (suc x) 0 d ∙ get_or-set_other index (sc + x) k (suc (get_or index h 0)) 0 (λ q. omega arith))
      ]

  entered-cell : Changed (reach sc) (λ j. get_or index (sc + j) 0) (λ j. get_or index' (sc + j) 0) x (suc (get_or index h 0))
  entered-cell j b =
      let e : get_or index' (sc + j) 0 ≡ get_or once (sc + j) 0 =
      E (sc + j) (omega arith) ∙ get_or-set_other twice (covered_at sc) (sc + j) end 0 (λ q. omega arith) ∙ get_or-set_other once h (sc + j) (suc x) 0 (λ q. omega arith) in
      elim (equal? j x) [
        | inl q ↦ inl (q, e ∙ rw q (get_or-set_same index (sc + x) (suc (get_or index h 0)) 0 (omega arith)))
        | inr d ↦ inr (d, e ∙ get_or-set_other index (sc + x) (sc + j) (suc (get_or index h 0)) 0 (λ q. d (omega arith)))
      ]

  pub entered-before : Changed (reach sc) (before_of sc index) (before_of sc index') x (bucket_of index h)
  entered-before j b = elim (entered-cell j b) [
    | inl q ↦ inl (q.0, omega (arith, q.1))
    | inr q ↦ inr (q.0, ap (λ (m : ℕ). m - 1) q.1)
  ]

  pub entered-extent : get_or index' (covered_at sc) 0 ≡ end
  entered-extent = E (covered_at sc) (omega arith) ∙ get_or-set_same twice (covered_at sc) end 0 (simp length-set (omega arith))

-- the front with one record more
module _ (sc : ℕ) (front : List Stored) (e : Stored) (x : ℕ) (is : x ≡ length (words_of front)) where
  abbrev more : List Stored
  more = front ++ (e ∷ [])

  abbrev key : ℕ
  key = key_of sc e.literals

  case : (y : ℕ) (f : Stored) → Placed 0 more y f → Placed 0 front y f ⊎ ((y ≡ x) × (e ≡ f))
  case y f p = elim (placed-append 0 front e y f p) [ inl q ↦ inl q | inr q ↦ inr (omega (arith, q.0), q.1) ]

  keyed : (f : Stored) (k : ℕ) → e ≡ f → key_of sc f.literals ≡ k → k ≡ key
  keyed f k q h = sym h ∙ sym (ap (λ (g : Stored). key_of sc g.literals) q)

  more-chains : (index index' : List ℕ) → Changed sc (bucket_of index) (bucket_of index') key (suc x) → Changed (reach sc) (before_of sc index) (before_of sc index') x (bucket_of index key) → x < reach sc
      → Descends sc (reach sc) (Member sc front) (Start sc front) (bucket_of index) (before_of sc index)
      → Descends sc (reach sc) (Member sc more) (Start sc more) (bucket_of index') (before_of sc index')
  more-chains index index' a b xb D =
      entered D x key
      (λ y k t. omega (arith, (above 0 front y t.0 t.1).1))
      (λ y k (f, p, h, l). elim (case y f p) [ inl q ↦ inl (f, q, h, l) | inr q ↦ inr (q.0, keyed f k q.1 h) ])
      (λ y k (f, p, h). (f, placed-left 0 front (e ∷ []) y f p, h))
      (e, placed-new 0 front e x (omega arith), refl)
      (λ y k (f, p, h). elim (case y f p) [ inl q ↦ inl (f, q, h) | inr q ↦ inr (q.0, keyed f k q.1 h) ])
      xb
      (key_below sc e.literals (omega arith))
      a
      b

  more-size : length (words_of more) ≡ past x e
  more-size = omega (arith, ap length (concat-append stored_words front (e ∷ [])), length-append (words_of front) (words_of (e ∷ [])), words_size e [])

-- the records from r on
module _ {store : List ℤ} {used : ℕ} {stored : List Stored} (H : Holds store used stored) {sc : ℕ} {index : List ℕ} {r : ℕ} (C : Covers sc index r stored) where
  split : Holds store used (C.front ++ C.back)
  split = rw C.parts at H

  pub behind : Segment stored_words store r used C.back
  behind =
      let z : 0 + length (words_of C.front) ≡ r = omega (arith, C.extent) in
      rw z at (after store 0 used C.front C.back (segment split) split.origins)

  originated : Originated C.back
  originated e u = split.origins e (Memᴰ.append_right C.front u)

  -- what stands at a place in front is read there
  pub front_read : (x : ℕ) (e : Stored) → Placed 0 C.front x e → (stored_at store x ≡ e) × (end_at store x ≤ used)
  front_read x e p = read split x e (placed-left 0 C.front C.back x e p)

  pub next-at : r < used → AtRecord store r used C.back
  next-at h = at-record behind originated h

  pub covers-next : (index' : List ℕ) → proved_cells sc ≤ length index → r < used → end_at store r ≤ reach sc → Entered sc index index' r (key_of sc (nogood_at store r)) (end_at store r)
      → Covers sc index' (end_at store r) stored
  covers-next index' n h b E =
      let t = next-at h in
      let e = stored_at store r in
      let k = key_below sc (nogood_at store r) (omega arith) in
      let xb : r < reach sc = omega arith in
      record {
        front = C.front ++ (e ∷ []);
        back = t.others;
        parts = C.parts ∙ ap (λ (l : List Stored). C.front ++ l) t.is ∙ sym (append_assoc C.front (e ∷ []) t.others);
        extent = t.size ∙ sym (more-size sc C.front e r C.extent);
        near = b;
        marks = λ x l m. elim (entered-cell sc index index' r (key_of sc (nogood_at store r)) (end_at store r) n xb k E x l) [
          | inl q ↦ (e, placed-new 0 C.front e x (omega (arith, C.extent, q.0)))
          | inr q ↦ let u = C.marks x l (rw q.1 at m) in (u.0, placed-left 0 C.front (e ∷ []) x u.0 u.1)
        ];
        chains = more-chains sc C.front e r C.extent index index' (entered-key sc index index' r (key_of sc (nogood_at store r)) (end_at store r) n xb k E)
            (entered-before sc index index' r (key_of sc (nogood_at store r)) (end_at store r) n xb k E) xb C.chains;
      }

-- what a chain starts with is small
pub entry-small : {sc : ℕ} {index : List ℕ} {r : ℕ} {stored : List Stored} (C : Covers sc index r stored) (k v : ℕ) → ((q : ℕ) → v ≡ suc q → Start sc C.front q k) → v ≤ reach sc
entry-small C k zero f = omega arith
entry-small C k (suc q) f = omega (arith, C.chains.within q k (f q refl))

module _ {store : List ℤ} {index : List ℕ} {used : ℕ} {stored : List Stored} (K : Keeps store index used stored) where
  -- chains start with small entries
  pub keeps-small : (k : ℕ) → k < K.scale → get_or index k 0 ≤ reach K.scale
  keeps-small k b = entry-small K.covers k (get_or index k 0) (λ q e. K.covers.chains.first k q b e)

  module _ (r : ℕ) (is : r ≡ get_or index (covered_at K.scale) 0) (h : r < used) where
    abbrev from-r : Covers K.scale index r stored
    from-r = subst (λ (n : ℕ). Covers K.scale index n stored) (sym is) K.covers

    pub keeps-room : end_at store r ≤ length store
    keeps-room = omega (arith, (next-at K.holds from-r h).room, K.holds.fits)

    pub keeps-next : (index' : List ℕ) → length index' ≡ length index → end_at store r ≤ reach K.scale
        → Entered K.scale index index' r (key_of K.scale (nogood_at store r)) (end_at store r) → Keeps store index' used stored × (end_at store r ≡ get_or index' (covered_at K.scale) 0)
    keeps-next index' n b E =
        let xb : r < reach K.scale = omega arith in
        let room = (roomy index K.scale K.size (omega arith)).0 in
        let e : get_or index' (covered_at K.scale) 0 ≡ end_at store r =
        entered-extent K.scale index index' r (key_of K.scale (nogood_at store r)) (end_at store r) room xb (key_below K.scale (nogood_at store r) (omega arith)) E in (
          record {
            holds = K.holds;
            scale = K.scale;
            size = K.size ∙ ap scale_of (sym n);
            covers = subst (λ (m : ℕ). Covers K.scale index' m stored) (sym e) (covers-next K.holds from-r index' room h b E);
          },
          sym e,
        )

-- Marks

-- a mark is at a record of the used words
pub marked : {store : List ℤ} {index : List ℕ} {used : ℕ} {stored : List Stored} (K : Keeps store index used stored) → Marked K.scale (take used store) index
marked {store} {index} {used} {stored} K x h m other E =
    let C = K.covers in
    let t = C.marks x h m in
    let D = used-words store used stored K.holds in
    let p : Placed 0 stored x t.0 = rw C.parts (placed-left 0 C.front C.back x t.0 t.1) in
    let r = reads (take used store) 0 (length (take used store)) stored (words-of D) D.origins x t.0 p in
    let same : other ≡ stored = decoded (take used store) 0 (length (take used store)) other stored (words-of E) E.origins (words-of D) D.origins in
    (rw (same, r.0) (placed-in 0 stored x t.0 p), r.1)

-- The walk

module _ {store : List ℤ} {index : List ℕ} {used : ℕ} {stored : List Stored} (K : Keeps store index used stored) where
  abbrev pub front : List Stored
  front = K.covers.front

  pub start-room : (x k : ℕ) → Start K.scale front x k → (end_at store x ≤ length store) × (x < reach K.scale)
  start-room x k t = (omega (arith, (front_read K.holds K.covers x t.0 t.1).1, K.holds.fits), (K.covers.chains.within x k (t.0, t.1, t.2)).0)

  -- the test at a place of the chain
  pub is-wanted : (L : List ℤ) (x k : ℕ) → Start K.scale front x k → is_target L (stored_at store x) ≡ true → Target front L x
  is-wanted L x k t e = (t.0, t.1, sym (ap (is_target L) (front_read K.holds K.covers x t.0 t.1).0) ∙ e)

  pub not-wanted : (L : List ℤ) (x : ℕ) → is_target L (stored_at store x) ≡ false → ¬ Target front L x
  not-wanted L x e (f, p, w) = true≢false (sym w ∙ sym (ap (is_target L) (front_read K.holds K.covers x f p).0) ∙ e)

pub target-member : (sc : ℕ) (es : List Stored) (L : List ℤ) (x : ℕ) → Target es L x → Member sc es x (key_of sc L)
target-member sc es L x (e, p, w) = let a = target-alive L e w in (e, p, ap (key_of sc) (if-true (same_list-decides e.literals L) a.1), a.0)

-- The walk's end

-- the entry that leads to what a walk found, and what led to it; 0 where nothing was found
abbrev pub found_entry : Option Spot → ℕ
found_entry None = 0
found_entry (Some s) = suc s.place

abbrev pub found_over : Option Spot → ℕ
found_over None = 0
found_over (Some s) = entry_of s.over

module _ {store : List ℤ} {index : List ℕ} {used : ℕ} {stored : List Stored} (K : Keeps store index used stored) (L : List ℤ) where
  -- what a walk to the chain's end found is the oldest
  pub walk-over : (t : Option Spot) (last : ℕ)
      → Walking (Member K.scale (front K)) (Start K.scale (front K)) (bucket_of index) (before_of K.scale index)
      (Target (front K) L) (key_of K.scale L) (found_entry t) (found_over t) last 0
      → Spotted K.scale (front K) L index t
  walk-over None last w = λ y t. elim (w.seen y (target-member K.scale (front K) L y t) t) [ inl h ↦ omega arith | inr h ↦ omega (arith, h.0) ]
  walk-over (Some s) last w =
      let g = w.good s.place refl in (
        g.1,
        λ y t. elim (w.seen y (target-member K.scale (front K) L y t) t) [ inl h ↦ absurd (omega arith) | inr h ↦ omega (arith, h.1) ],
        g.2,
      )

-- The oldest with the literals

module _ (L : List ℤ) where
  abbrev TargetFrom : ℕ → List Stored → ℕ → Type 0
  TargetFrom i es x = (e : Stored) × Placed i es x e × (is_target L e ≡ true)

  oldest-from : (i : ℕ) (es : List Stored) (x : ℕ) → TargetFrom i es x → ((y : ℕ) → TargetFrom i es y → x ≤ y) → found_at i L es ≡ Some x
  oldest-from i [] x (e, p, w) f = absurd p
  oldest-from i (g ∷ es) x (e, p, w) f = by (is_target L g) refl (λ t k. oldest-from (past i g) es x t k) p
    where
      by : (b : Bool) → is_target L g ≡ b
          → (TargetFrom (past i g) es x → ((y : ℕ) → TargetFrom (past i g) es y → x ≤ y) → found_at (past i g) L es ≡ Some x)
          → Placed i (g ∷ es) x e → cond b (Some i) (found_at (past i g) L es) ≡ Some x
      by true q r p =
          let l = f i (g, inl (refl, refl), q) in
          let a = above i (g ∷ es) x e p in
          let z : i ≡ x = omega (arith, a.0) in ap Some z
      by false q r (inl (z, k)) = absurd (true≢false (sym w ∙ ap (is_target L) (sym k) ∙ q))
      by false q r (inr p) = r (e, p, w) (λ y t. f y (t.0, inr t.1, t.2))

  none_from : (i : ℕ) (es : List Stored) → ((y : ℕ) → ¬ TargetFrom i es y) → found_at i L es ≡ None
  none_from i [] f = refl
  none_from i (g ∷ es) f = by (is_target L g) refl (none_from (past i g) es (λ y t. f y (t.0, inr t.1, t.2)))
    where
      by : (b : Bool) → is_target L g ≡ b → found_at (past i g) L es ≡ None → cond b (Some i) (found_at (past i g) L es) ≡ None
      by true q r = absurd (f i (g, inl (refl, refl), q))
      by false q r = r

  -- the list was found in front of others
  found_left : (i x : ℕ) (es back : List Stored) → found_at i L es ≡ Some x → found_at i L (es ++ back) ≡ Some x
  found_left i x [] back k = absurd (let z : ◌≡◌ {A = ℕ} 0 1 = cc in omega arith)
  found_left i x (g ∷ es) back k = by (is_target L g) (λ h. found_left (past i g) x es back h) k
    where
      by : (b : Bool) → (found_at (past i g) L es ≡ Some x → found_at (past i g) L (es ++ back) ≡ Some x)
          → cond b (Some i) (found_at (past i g) L es) ≡ Some x → cond b (Some i) (found_at (past i g) L (es ++ back)) ≡ Some x
      by true r h = h
      by false r h = r h

  killed-left : (i x : ℕ) (es back : List Stored) → found_at i L es ≡ Some x → killed L (es ++ back) ≡ killed L es ++ back
  killed-left i x [] back k = absurd (let z : ◌≡◌ {A = ℕ} 0 1 = cc in omega arith)
  killed-left i x (g ∷ es) back k = by (is_target L g) refl (λ h. killed-left (past i g) x es back h) k
    where
      by : (b : Bool) → is_target L g ≡ b → (found_at (past i g) L es ≡ Some x → killed L (es ++ back) ≡ killed L es ++ back)
          → cond b (Some i) (found_at (past i g) L es) ≡ Some x → killed L (g ∷ (es ++ back)) ≡ killed L (g ∷ es) ++ back
      by true q r h = killed-here L g (es ++ back) q ∙ sym (ap (λ (l : List Stored). l ++ back) (killed-here L g es q))
      by false q r h = killed-on L g (es ++ back) q ∙ ap (λ (l : List Stored). g ∷ l) (r h) ∙ sym (ap (λ (l : List Stored). l ++ back) (killed-on L g es q))

  -- it was not
  found_right : (i : ℕ) (es back : List Stored) → found_at i L es ≡ None → found_at i L (es ++ back) ≡ found_at (i + length (words_of es)) L back
  found_right i [] back k = let z : i + 0 ≡ i = omega arith in rw z refl
  found_right i (g ∷ es) back k = by (is_target L g) (λ h. found_right (past i g) es back h) k
    where
      n : past i g + length (words_of es) ≡ i + length (words_of (g ∷ es))
      n = omega (arith, words_size g es)

      by : (b : Bool) → (found_at (past i g) L es ≡ None → found_at (past i g) L (es ++ back) ≡ found_at (past i g + length (words_of es)) L back)
          → cond b (Some i) (found_at (past i g) L es) ≡ None → cond b (Some i) (found_at (past i g) L (es ++ back)) ≡ found_at (i + length (words_of (g ∷ es))) L back
      by true r h = absurd (let z : ◌≡◌ {A = ℕ} 0 1 = cc in omega arith)
      by false r h = r h ∙ ap (λ (m : ℕ). found_at m L back) n

  killed-right : (i : ℕ) (es back : List Stored) → found_at i L es ≡ None → killed L (es ++ back) ≡ es ++ killed L back
  killed-right i [] back k = refl
  killed-right i (g ∷ es) back k = by (is_target L g) refl (λ h. killed-right (past i g) es back h) k
    where
      by : (b : Bool) → is_target L g ≡ b → (found_at (past i g) L es ≡ None → killed L (es ++ back) ≡ es ++ killed L back)
          → cond b (Some i) (found_at (past i g) L es) ≡ None → killed L (g ∷ (es ++ back)) ≡ g ∷ (es ++ killed L back)
      by true q r h = absurd (let z : ◌≡◌ {A = ℕ} 0 1 = cc in omega arith)
      by false q r h = killed-on L g (es ++ back) q ∙ ap (λ (l : List Stored). g ∷ l) (r h)

  -- What stands where one is dead now

  killed→ : (i : ℕ) (es : List Stored) (y : ℕ) (f : Stored) → Placed i (killed L es) y f
      → (e : Stored) × Placed i es y e × (e.literals ≡ f.literals) × (f.dead ≡ false → e.dead ≡ false)
  killed→ i [] y f p = absurd (rw (killed-nil L) at p)
  killed→ i (g ∷ es) y f p = by_answer (is_target L g)
      (λ q. here q (rw (killed-here L g es q) at p))
      (λ q. there (λ u. killed→ (past i g) es y f u) (rw (killed-on L g es q) at p))
    where
      here : is_target L g ≡ true → Placed i (dead_of g ∷ es) y f → (e : Stored) × Placed i (g ∷ es) y e × (e.literals ≡ f.literals) × (f.dead ≡ false → e.dead ≡ false)
      here q (inl (z, k)) = (g, inl (z, refl), ap (λ (s : Stored). s.literals) k, λ a. (target-alive L g q).0)
      here q (inr p) = (f, inr p, refl, λ a. a)

      there : (Placed (past i g) (killed L es) y f → (e : Stored) × Placed (past i g) es y e × (e.literals ≡ f.literals) × (f.dead ≡ false → e.dead ≡ false))
          → Placed i (g ∷ killed L es) y f → (e : Stored) × Placed i (g ∷ es) y e × (e.literals ≡ f.literals) × (f.dead ≡ false → e.dead ≡ false)
      there r (inl (z, k)) = (g, inl (z, refl), ap (λ (s : Stored). s.literals) k, λ a. ap (λ (s : Stored). s.dead) k ∙ a)
      there r (inr p) = let t = r p in (t.0, inr t.1, t.2, t.3)

  killed← : (i : ℕ) (es : List Stored) (y : ℕ) (e : Stored) → Placed i es y e → (f : Stored) × Placed i (killed L es) y f × (f.literals ≡ e.literals)
  killed← i [] y e p = absurd p
  killed← i (g ∷ es) y e p = by_answer (is_target L g)
      (λ q. rw (killed-here L g es q) (here p))
      (λ q. rw (killed-on L g es q) (there (λ u. killed← (past i g) es y e u) p))
    where
      here : Placed i (g ∷ es) y e → (f : Stored) × Placed i (dead_of g ∷ es) y f × (f.literals ≡ e.literals)
      here (inl (z, k)) = (dead_of g, inl (z, refl), ap (λ (s : Stored). s.literals) k)
      here (inr p) = (e, inr p, refl)

      there : (Placed (past i g) es y e → (f : Stored) × Placed (past i g) (killed L es) y f × (f.literals ≡ e.literals))
          → Placed i (g ∷ es) y e → (f : Stored) × Placed i (g ∷ killed L es) y f × (f.literals ≡ e.literals)
      there r (inl (z, k)) = (g, inl (z, refl), ap (λ (s : Stored). s.literals) k)
      there r (inr p) = let t = r p in (t.0, inr t.1, t.2)

  found-above : (i x : ℕ) (es : List Stored) → found_at i L es ≡ Some x → i ≤ x
  found-above i x [] k = absurd (let z : ◌≡◌ {A = ℕ} 0 1 = cc in omega arith)
  found-above i x (g ∷ es) k = by (is_target L g) (λ h. found-above (past i g) x es h) k
    where
      by : (b : Bool) → (found_at (past i g) L es ≡ Some x → past i g ≤ x) → cond b (Some i) (found_at (past i g) L es) ≡ Some x → i ≤ x
      by true r h = let z : i ≡ x = cc in omega arith
      by false r h = omega (arith, r h)

  -- the one that was found is dead
  dead-now : (i x : ℕ) (es : List Stored) → found_at i L es ≡ Some x → (f : Stored) → Placed i (killed L es) x f → f.dead ≡ false → ⊥
  dead-now i x [] k f p a = absurd (let z : ◌≡◌ {A = ℕ} 0 1 = cc in omega arith)
  dead-now i x (g ∷ es) k f p a = by (is_target L g) refl (λ h u. dead-now (past i g) x es h f u a) k
    where
      here : i ≡ x → Placed i (dead_of g ∷ es) x f → ⊥
      here z (inl (y, q)) = true≢false (ap (λ (s : Stored). s.dead) q ∙ a)
      here z (inr p) = let u = above (past i g) es x f p in omega (arith, u.0)

      there : (found_at (past i g) L es ≡ Some x → Placed (past i g) (killed L es) x f → ⊥) → found_at (past i g) L es ≡ Some x → Placed i (g ∷ killed L es) x f → ⊥
      there r h (inl (y, q)) = omega (arith, found-above (past i g) x es h)
      there r h (inr p) = r h p

      by : (b : Bool) → is_target L g ≡ b → (found_at (past i g) L es ≡ Some x → Placed (past i g) (killed L es) x f → ⊥)
          → cond b (Some i) (found_at (past i g) L es) ≡ Some x → ⊥
      by true q r h = let z : i ≡ x = cc in here z (rw (killed-here L g es q) at p)
      by false q r h = there r h (rw (killed-on L g es q) at p)

  killed-size : (es : List Stored) → length (words_of (killed L es)) ≡ length (words_of es)
  killed-size [] = ap (λ (l : List Stored). length (words_of l)) (killed-nil L)
  killed-size (g ∷ es) = by_answer (is_target L g)
      (λ q. ap (λ (l : List Stored). length (words_of l)) (killed-here L g es q) ∙ words_size (dead_of g) es ∙ sym (words_size g es))
      (λ q. ap (λ (l : List Stored). length (words_of l)) (killed-on L g es q) ∙ words_size g (killed L es)
      ∙ ap (λ (n : ℕ). record_size g.literals + n) (killed-size es) ∙ sym (words_size g es))

  killed-chains : (sc : ℕ) (es : List Stored) {bucket before : ℕ → ℕ} → Descends sc (reach sc) (Member sc es) (Start sc es) bucket before
      → Descends sc (reach sc) (Member sc (killed L es)) (Start sc (killed L es)) bucket before
  killed-chains sc es D = same-places (fewer D members) starts← starts→
    where
      members : (x k : ℕ) → Member sc (killed L es) x k → Member sc es x k
      members x k (f, p, h, a) = let t = killed→ 0 es x f p in (t.0, t.1, ap (key_of sc) t.2 ∙ h, t.3 a)

      starts← : (x k : ℕ) → Start sc es x k → Start sc (killed L es) x k
      starts← x k (e, p, h) = let t = killed← 0 es x e p in (t.0, t.1, ap (key_of sc) t.2 ∙ h)

      starts→ : (x k : ℕ) → Start sc (killed L es) x k → Start sc es x k
      starts→ x k (f, p, h) = let t = killed→ 0 es x f p in (t.0, t.1, ap (key_of sc) t.2 ∙ h)

  killed-gone : (sc : ℕ) (es : List Stored) (x : ℕ) → found_at 0 L es ≡ Some x → (k : ℕ) → ¬ Member sc (killed L es) x k
  killed-gone sc es x h k (f, p, e, a) = dead-now 0 x es h f p a

  module _ {store : List ℤ} {index : List ℕ} {used : ℕ} {stored : List Stored} (K : Keeps store index used stored) where
    abbrev C : Covers K.scale index (get_or index (covered_at K.scale) 0) stored
    C = K.covers

    -- none in front
    pub covers-far : ((y : ℕ) → ¬ Target C.front L y) → Covers K.scale index (get_or index (covered_at K.scale) 0) (killed L stored)
    covers-far f = record {
      front = C.front;
      back = killed L C.back;
      parts = ap (killed L) C.parts ∙ killed-right 0 C.front C.back (none_from 0 C.front f);
      extent = C.extent;
      near = C.near;
      marks = C.marks;
      chains = C.chains;
    }

    pub skips : (from : ℕ) → from ≡ get_or index (covered_at (scale_of (length index))) 0 → ((y : ℕ) → ¬ Target C.front L y) → Skips from L stored
    skips from e f = record {
      older = C.front;
      newer = C.back;
      is = C.parts;
      size = e ∙ ap (λ (k : ℕ). get_or index (covered_at k) 0) (sym K.size) ∙ C.extent;
      none = none_from 0 C.front f;
    }

    -- one in front
    module _ (s : Spot) (t : Spotted K.scale C.front L index (Some s)) where
      abbrev x : ℕ
      x = s.place

      abbrev over : ℕ
      over = entry_of s.over

      in-front : found_at 0 L C.front ≡ Some x
      in-front = oldest-from 0 C.front x t.0 t.1

      pub near-found : found_at 0 L stored ≡ Some x
      near-found = ap (found_at 0 L) C.parts ∙ found_left 0 x C.front C.back in-front

      pub near-start : Start K.scale C.front x (key_of K.scale L)
      near-start = let m = target-member K.scale C.front L x t.0 in (m.0, m.1, m.2)

      pub near-over : over ≤ reach K.scale
      near-over = by over t.2
        where
          by : (o : ℕ) → Leads (Start K.scale C.front) (bucket_of index) (before_of K.scale index) (key_of K.scale L) o x → o ≤ reach K.scale
          by zero l = omega arith
          by (suc y) l = omega (arith, C.chains.within y (key_of K.scale L) (l.1 y refl).0)

      abbrev h : ℕ
      h = key_of K.scale L

      abbrev dead : Descends K.scale (reach K.scale) (Member K.scale (killed L C.front)) (Start K.scale (killed L C.front)) (bucket_of index) (before_of K.scale index)
      dead = killed-chains K.scale C.front C.chains

      hb : h < K.scale
      hb = (C.chains.within x h near-start).1

      room : proved_cells K.scale ≤ length index
      room = (roomy index K.scale K.size (omega (arith, hb))).0

      -- the cells by key, and by place, where what led to it is the chain's start
      module _ (index' : List ℕ) (z : over ≡ 0) (is : index' ≡ set index h (before_of K.scale index x)) where
        start-chains : Descends K.scale (reach K.scale) (Member K.scale (killed L C.front)) (Start K.scale (killed L C.front)) (bucket_of index') (before_of K.scale index')
        start-chains = rw is
            (same_entries
            (unlinked-first dead x (killed-gone K.scale C.front x in-front) {bucket' = bucket_of (set index h (before_of K.scale index x))} h hb (t.2.0 z) (key-changed K.scale index h (before_of K.scale index x) (omega (arith, room, hb))))
            (λ k b. refl)
            (λ j b. ap (λ (m : ℕ). m - 1) (unchanged index K.scale (reach K.scale) h (before_of K.scale index x) (inl hb) j b)))

      -- or where it is another place
      module _ (index' : List ℕ) (y : ℕ) (z : over ≡ suc y) (is : index' ≡ set index (K.scale + y) (get_or index (K.scale + x) 0)) where
        yb : y < reach K.scale
        yb = (C.chains.within y h (t.2.1 y z).0).0

        place-chains : Descends K.scale (reach K.scale) (Member K.scale (killed L C.front)) (Start K.scale (killed L C.front)) (bucket_of index') (before_of K.scale index')
        place-chains = rw is
            (same_entries
            (unlinked-next dead x (killed-gone K.scale C.front x in-front) {before' = before_of K.scale (set index (K.scale + y) (get_or index (K.scale + x) 0))} y (t.2.1 y z).1
            (λ j b. elim (changed index K.scale (reach K.scale) y (get_or index (K.scale + x) 0) (omega (arith, room, yb)) j b) [
              | inl q ↦ inl (q.0, ap (λ (m : ℕ). m - 1) q.1)
              | inr q ↦ inr (q.0, ap (λ (m : ℕ). m - 1) q.1)
            ]))
            (λ k b. get_or-set_other index (K.scale + y) k (get_or index (K.scale + x) 0) 0 (λ e. omega arith))
            (λ j b. refl))

      -- the marks are at starts still, and the other cells as they were
      unlinked-cell : (index' : List ℕ) → Unlinked K.scale index index' h x over → (j : ℕ) → j < reach K.scale → 0 < get_or index' (K.scale + j) 0
          → (e : Stored) × Placed 0 C.front j e
      unlinked-cell index' u j b m = by over refl
        where
          by : (o : ℕ) → over ≡ o → (e : Stored) × Placed 0 C.front j e
          by zero z = C.marks j b (rw (u.at_start z, get_or-set_other index h (K.scale + j) (before_of K.scale index x) 0 (λ e. omega (arith, hb))) at m)
          by (suc y) z = elim (equal? j y) [
            | inl q ↦ let l = (t.2.1 y z).0 in (l.0, rw q l.1)
            | inr d ↦ C.marks j b (rw (u.at_place y z, get_or-set_other index (K.scale + y) (K.scale + j) (get_or index (K.scale + x) 0) 0 (λ e. d (omega arith))) at m)
          ]

      unlinked-chains : (index' : List ℕ) → Unlinked K.scale index index' h x over
          → Descends K.scale (reach K.scale) (Member K.scale (killed L C.front)) (Start K.scale (killed L C.front)) (bucket_of index') (before_of K.scale index')
      unlinked-chains index' u = by over refl
        where
          by : (o : ℕ) → over ≡ o → Descends K.scale (reach K.scale) (Member K.scale (killed L C.front)) (Start K.scale (killed L C.front)) (bucket_of index') (before_of K.scale index')
          by zero z = start-chains index' z (u.at_start z)
          by (suc y) z = place-chains index' y z (u.at_place y z)

      unlinked-extent : (index' : List ℕ) → Unlinked K.scale index index' h x over → (get_or index' (covered_at K.scale) 0 ≡ get_or index (covered_at K.scale) 0) × (length index' ≡ length index)
      unlinked-extent index' u = by over refl
        where
          by : (o : ℕ) → over ≡ o → (get_or index' (covered_at K.scale) 0 ≡ get_or index (covered_at K.scale) 0) × (length index' ≡ length index)
          by zero z = rw (u.at_start z) (get_or-set_other index h (covered_at K.scale) (before_of K.scale index x) 0 (λ e. omega (arith, hb)), length-set index h (before_of K.scale index x))
          by (suc y) z = rw (u.at_place y z) (
            get_or-set_other index (K.scale + y) (covered_at K.scale) (get_or index (K.scale + x) 0) 0 (λ e. omega (arith, yb index' y z (u.at_place y z))),
            length-set index (K.scale + y) (get_or index (K.scale + x) 0),
          )

      -- and so the index is right when it is dead
      pub keeps-near : (store' : List ℤ) (index' : List ℕ) (k : ℕ) → k ≡ h → Unlinked K.scale index index' k x over → Holds store' used (killed L stored) → Keeps store' index' used (killed L stored)
      keeps-near store' index' k q w H =
          let u : Unlinked K.scale index index' h x over = rw q at w in
          let e = unlinked-extent index' u in
          record {
            holds = H;
            scale = K.scale;
            size = K.size ∙ ap scale_of (sym e.1);
            covers = record {
              front = killed L C.front;
              back = C.back;
              parts = ap (killed L) C.parts ∙ killed-left 0 x C.front C.back in-front;
              extent = e.0 ∙ C.extent ∙ sym (killed-size C.front);
              near = rw e.0 C.near;
              marks = λ j b m. let w = unlinked-cell index' u j b m in let f = killed← 0 C.front j w.0 w.1 in (f.0, f.1);
              chains = unlinked-chains index' u;
            };
          }

-- A search from a place on

pub skipped : {store : List ℤ} {used from : ℕ} {L : List ℤ} {stored : List Stored} → Holds store used stored → Skips from L stored
    → Rest (λ all left. found_at from L left ≡ found_at 0 L all) store used stored from
skipped {store} {used} {from} {L} {stored} H S =
    let G : Holds store used (S.older ++ S.newer) = rw S.is at H in
    let z : 0 + length (words_of S.older) ≡ from = omega (arith, S.size) in
    record {
      left = S.newer;
      seg = rw z at (after store 0 used S.older S.newer (segment G) G.origins);
      origins = λ e u. G.origins e (Memᴰ.append_right S.older u);
      tied = sym (ap (found_at 0 L) S.is ∙ found_right L 0 S.older S.newer S.none ∙ ap (λ (n : ℕ). found_at n L S.newer) z);
    }

-- what a walk said, by cases
pub spotted : (sc : ℕ) (front : List Stored) (L : List ℤ) (index : List ℕ) (r t : Option Spot) → r ≡ t → Spotted sc front L index r → Spotted sc front L index t
spotted sc front L index r t e k = rw e at k
