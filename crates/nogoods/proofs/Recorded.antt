-- Nogoods' records one after another: the record at a place, and what a loop from record to record knows.
-- Assumes nothing.
use mathlib.Core.Path.{◌≡◌, refl, sym, ap, subst, ◌∙◌}
use mathlib.Core.Bool.{Bool, true, false, cond}
use mathlib.Core.List.Memᴰ
use mathlib.Core.List.{List, [], ◌∷◌, ◌++◌, append-nil}
use Prim.Native.Nat.{ℕ, zero, suc, ◌+◌, ◌≤◌, ◌<◌}
use native.Mathlib.Omega.{arith}
use borrow.Author.Tests.{le-ltb}
use lib.IntN.{ℤ, pos, nat_abs, neg_ℤ}
use lib.Signed.{lt_z}
use lib.ListN.{length, take, drop, get_or}
use lib.Seq.{drop-drop, get_or-drop, take_at}
use Rattle.words.specs.Lists.{◌∈◌}
use Rattle.words.proofs.Segments.{Segment, at_front, next, none_left}
use Rattle.nogoods.specs.Store.{Stored, record_of, origin_word, record_header, header_size, stored_words, record_size, words_of}
use Rattle.nogoods.specs.Keeps.{Holds}
use Rattle.nogoods.specs.Records.{Encodes, origin_at, dead_at, count_at, end_at, nogood_at, stored_at, Readable, Stands}
use Rattle.nogoods.proofs.Live.{stored-size}

-- The header

-- of the literals a header has the count alone
pub header-same : (n : ℕ) (g h : List ℤ) → length g ≡ length h → record_header (record_of n g) ≡ record_header (record_of n h)
header-same n g h e = rw e

pub some_words : (e : Stored) → 0 < length (stored_words e)
some_words e = omega arith

-- The origin's word

-- its size and its sign
word_size : (b : Bool) (n : ℕ) → nat_abs (cond b (neg_ℤ (pos n)) (pos n)) ≡ n
word_size true zero = refl
word_size true (suc n) = refl
word_size false n = refl

-- 0 is no origin, so that the sign says whether it is dead
word-sign : (b : Bool) (n : ℕ) → 1 ≤ n → lt_z (cond b (neg_ℤ (pos n)) (pos n)) (pos 0) ≡ b
word-sign true zero h = absurd (omega arith)
word-sign true (suc n) h = refl
word-sign false n h = le-ltb n 0 (omega arith)

stored_same : (x : Stored) {o : ℕ} {d : Bool} {l : List ℤ} → o ≡ x.origin → d ≡ x.dead → l ≡ x.literals
    → record { origin = o; dead = d; literals = l } ≡ x
stored_same x p q r = rw (p, q, r)

-- each has an origin
abbrev pub Originated : List Stored → Type 0
Originated stored = (e : Stored) → e ∈ stored → 1 ≤ e.origin

-- The record at a place

-- the record at i is the first of those left
pub record AtRecord (s : List ℤ) (i e : ℕ) (left : List Stored) : Type 0 where
  pub others : List Stored
  pub is : left ≡ stored_at s i ∷ others
  pub count : count_at s i ≡ length (nogood_at s i)
  pub size : end_at s i ≡ i + record_size (nogood_at s i)
  pub rest : Segment stored_words s (end_at s i) e others
  pub room : end_at s i ≤ e

pub at-record : {s : List ℤ} {i e : ℕ} {left : List Stored} → Segment stored_words s i e left → Originated left → i < e → AtRecord s i e left
at-record {s} {i} {e} S some h =
    let t = next stored_words S h in
    let x = t.x in
    let g = x.literals in
    let w : drop i s ≡ record_header x ++ (g ++ drop (i + length (stored_words x)) s) = t.here in
    let word : (k : ℕ) → get_or s (i + k) (pos 0) ≡ get_or (stored_words x ++ drop (i + length (stored_words x)) s) k (pos 0) =
    λ k. sym (get_or-drop i s k (pos 0)) ∙ ap (λ (l : List ℤ). get_or l k (pos 0)) w in
    let z : i + 0 ≡ i = omega arith in
    let first : get_or s i (pos 0) ≡ origin_word x = rw z at (word 0) in
    let has : 1 ≤ x.origin = some x (subst (λ (l : List Stored). x ∈ l) (sym t.is) (Memᴰ.head refl)) in
    let origin : origin_at s i ≡ x.origin = ap nat_abs first ∙ word_size x.dead x.origin in
    let dead : dead_at s i ≡ x.dead = ap (λ (w : ℤ). lt_z w (pos 0)) first ∙ word-sign x.dead x.origin has in
    let n : count_at s i ≡ length g = ap nat_abs (word 1) in
    let m : i + length (stored_words x) ≡ end_at s i = omega (arith, stored-size x, n) in
    let after : drop (i + header_size) s ≡ g ++ drop (i + length (stored_words x)) s = sym (drop-drop header_size i s) ∙ ap (drop header_size) w in
    let literals : nogood_at s i ≡ g = ap (take (count_at s i)) after ∙ take_at g _ (count_at s i) (sym n) in
    record {
      others = t.xs;
      is = t.is ∙ ap (λ y. y ∷ t.xs) (sym (stored_same x origin dead literals));
      count = n ∙ ap length (sym literals);
      size = omega (arith, n, ap length literals);
      rest = rw m at t.rest;
      room = rw m at t.room;
    }

-- A loop from record to record

-- the records from i up to e are those left of what is stored, and Q ties the two
pub record Rest (Q : List Stored → List Stored → Type 0) (s : List ℤ) (e : ℕ) (stored : List Stored) (i : ℕ) : Type 0 where
  pub left : List Stored
  pub seg : Segment stored_words s i e left
  pub origins : Originated left
  pub tied : Q stored left

module _ {Q : List Stored → List Stored → Type 0} {s : List ℤ} {e : ℕ} {stored : List Stored} {i : ℕ} (w : Rest Q s e stored i) where
  module _ (h : i < e) where
    -- the record at i
    pub rest_at : AtRecord s i e w.left
    rest_at = at-record w.seg w.origins h

    pub rest-first : Q stored (stored_at s i ∷ rest_at.others)
    rest-first = rw rest_at.is at w.tied

    -- the record at i is passed: Q of it and the others gives R of the others
    pub rest-next : {R : List Stored → List Stored → Type 0} → ((es : List Stored) → Q stored (stored_at s i ∷ es) → R stored es) → Rest R s e stored (end_at s i)
    rest-next f = record { left = rest_at.others; seg = rest_at.rest; origins = λ x u. w.origins x (subst (λ (l : List Stored). x ∈ l) (sym rest_at.is) (Memᴰ.tail u)); tied = f rest_at.others rest-first }

  -- no record is left
  pub rest_over : e ≤ i → Q stored []
  rest_over h = rw (none_left stored_words some_words w.seg h) at w.tied

-- a loop over the store's used words
abbrev pub Ahead : (List Stored → List Stored → Type 0) → List ℤ → ℕ → ℕ → Type 0
Ahead Q store used i = (stored : List Stored) → Holds store used stored → Rest Q store used stored i

module _ {Q : List Stored → List Stored → Type 0} {store : List ℤ} {used : ℕ} where
  pub ahead : ((stored : List Stored) → Q stored stored) → Ahead Q store used 0
  ahead q stored H = record { left = stored; seg = at_front stored_words store _ used stored H.words (sym H.extent); origins = H.origins; tied = q stored }

  -- the record at i can be read, in a store that holds some nogoods
  pub ahead-room : {i : ℕ} → Ahead Q store used i → i < used → (stored : List Stored) × Holds store used stored → end_at store i ≤ length store
  ahead-room A h some = omega (arith, (rest_at (A some.0 some.1) h).room, some.1.fits)

-- The words of nogoods alone, as propagation has them

-- the first words of a store are those of its nogoods
pub used-words : (s : List ℤ) (used : ℕ) (stored : List Stored) → Holds s used stored → Encodes (take used s) stored
used-words s used stored h =
    record { words = ap (take used) h.words ∙ take_at (words_of stored) _ used (sym h.extent); literals = h.literals; origins = h.origins }

-- those left are stored
abbrev pub Inside : List Stored → List Stored → Type 0
Inside stored left = (e : Stored) → e ∈ left → e ∈ stored

pub inside-tail : {stored : List Stored} {e : Stored} (es : List Stored) → Inside stored (e ∷ es) → Inside stored es
inside-tail es f x u = f x (Memᴰ.tail u)

module _ (s : List ℤ) where
  pub encoded : {Q : List Stored → List Stored → Type 0} {stored : List Stored} → Encodes s stored → Q stored stored → Rest Q s (length s) stored 0
  encoded {stored} e q = record {
    left = stored;
    seg = at_front stored_words s [] (length s) stored (e.words ∙ sym (append-nil (words_of stored))) (sym (ap length e.words));
    origins = e.origins;
    tied = q;
  }

  pub readable : (r : ℕ) → (stored : List Stored) × Encodes s stored → Stands s r → Readable s r
  readable r p f =
      let w = f p.0 p.1 in
      record { room = w.1; literals = p.1.literals _ w.0 }
