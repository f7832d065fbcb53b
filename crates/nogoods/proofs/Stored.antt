-- The store with more nogoods, and without one.
-- Assumes nothing.
use mathlib.Core.Path.{◌≡◌, refl, sym, ap, ap₂, subst, ◌∙◌}
use mathlib.Core.Logic.{inl, inr}
use mathlib.Core.Bool.{Bool, true, false, cond}
use mathlib.Core.List.Memᴰ
use mathlib.Core.List.{List, [], ◌∷◌, ◌++◌, append_assoc}
use Prim.Native.Nat.{ℕ, ◌+◌, ◌-◌, ◌≤◌, ◌<◌}
use native.Mathlib.Omega.{arith}
use borrow.Author.Tests.{lt-leb}
use lib.Dec.{leb, leb→le}
use lib.IntN.{ℤ, pos, neg_ℤ}
use lib.ListN.{length, take, drop, get_or, set, replicate, length-append, length-replicate}
use lib.Seq.{drop-drop, drop_at, set_at, get_or_at}
use borrow.Rule.Slice.PartMut.{put_mid}
use Rattle.words.proofs.Laws.{drop-replicate}
use Rattle.words.specs.Lists.{◌∈◌}
use Rattle.words.proofs.Lists.{concat-append}
use Rattle.words.proofs.Segments.{Segment}
use Rattle.words.proofs.Parts.{put_next}
use Rattle.nogoods.specs.Store.{Stored, record_of, added_in, live, closed, killed, dead_of, is_target, origin_word, kept_for, kept_with, stored_words, record_size, words_of, words_for}
use Rattle.nogoods.specs.Keeps.{WrittenFront, Literals, Holds}
use Rattle.nogoods.specs.Finds.{found_at}
use Rattle.std.specs.declared.option.Option.TheVariants.{Some, None}
use Rattle.nogoods.specs.Records.{dead_at, end_at}
use Rattle.nogoods.proofs.Live.{stored-size, words-for, closed-append, closed-twice, killed-nil, killed-here, killed-on, target-alive}
use Rattle.nogoods.proofs.Recorded.{Originated, at-record}

-- The used words and the zeros after them

module _ {store : List ℤ} {used : ℕ} {stored : List Stored} where
  pub holds→ : Holds store used stored → store ≡ words_of stored ++ replicate (length store - used) (pos 0)
  holds→ H = H.words ∙ ap (λ (n : ℕ). words_of stored ++ replicate (length store - n) (pos 0)) (sym H.extent)

  pub holds← : (n : ℕ) → store ≡ words_of stored ++ replicate n (pos 0) → used ≡ length (words_of stored) → ((e : Stored) → e ∈ stored → Literals e.literals)
      → Originated stored → Holds store used stored
  holds← n w e lits some =
      let s : length store ≡ length (words_of stored) + n = ap length w ∙ simp (length-append, length-replicate) refl in
      let z : n ≡ length store - length (words_of stored) = omega arith in
      record { words = w ∙ ap (λ (m : ℕ). words_of stored ++ replicate m (pos 0)) z; extent = e; fits = omega arith; literals = lits; origins = some }

-- Writing

-- words at the front, and more words after them
pub written_next : (a b before s ys : List ℤ) (at : ℕ) → length a ≡ at → WrittenFront a before s → WrittenFront b (take (length s - at) (drop at s)) ys
    → WrittenFront (a ++ b) before (put_mid at (length s - at) s ys)
written_next a b before s ys at n w v =
    put_next a (drop (length a) before) b s ys at n w v
    ∙ ap (λ (t : List ℤ). a ++ (b ++ t)) (drop-drop (length b) (length a) before ∙ ap (λ (k : ℕ). drop k before) (sym (length-append a b)))
    ∙ sym (append_assoc a b (drop (length (a ++ b)) before))

-- What is kept for more words: all, where they fit; or what is live

module _ {store : List ℤ} {used : ℕ} {stored : List Stored} (H : Holds store used stored) (size : ℕ) where
  pub kept-live : length store - used < size → kept_for (length store) size stored ≡ closed stored
  kept-live h = rw (lt-leb (length (words_of stored) + size) (length store) (omega (arith, H.extent, H.fits)))

-- Adding

pub added-origins : (n : ℕ) → 1 ≤ n → (gs : List (List ℤ)) → Originated (added_in n gs)
added-origins n h gs e u = let r = Memᴰ.of_map (record_of n) gs u in rw (← r.2) h

module _ {store : List ℤ} {used : ℕ} {stored : List Stored} (H : Holds store used stored) (new : List Stored) {size : ℕ}
    (n : length (words_of new) ≡ size) where
  more-words : length (words_of (stored ++ new)) ≡ used + size
  more-words = omega (arith, n, H.extent, ap length (concat-append stored_words stored new), length-append (words_of stored) (words_of new))

  -- the new words are written at the front of the free tail
  pub added : ((e : Stored) → e ∈ new → Literals e.literals) → Originated new
      → (ys : List ℤ) → WrittenFront (words_of new) (take (length store - used) (drop used store)) ys
      → Holds (put_mid used (length store - used) store ys) (used + size) (stored ++ new)
  added lits some ys e =
      let free = length store - used in
      let zeros = replicate (free - length (words_of new)) (pos 0) in
      let w : put_mid used free store ys ≡ words_of (stored ++ new) ++ zeros =
      put_next (words_of stored) (replicate free (pos 0)) (words_of new) store ys used (sym H.extent) (holds→ H) e
      ∙ ap (λ (l : List ℤ). words_of stored ++ (words_of new ++ l)) (drop-replicate (length (words_of new)) free (pos 0))
      ∙ sym (append_assoc (words_of stored) (words_of new) zeros) ∙ ap (λ (l : List ℤ). l ++ zeros) (sym (concat-append stored_words stored new)) in
      holds← {stored = stored ++ new} (free - length (words_of new)) w (sym more-words)
      (λ x m. elim (Memᴰ.append_cases stored m) [ inl i ↦ H.literals x i | inr i ↦ lits x i ])
      (λ x m. elim (Memᴰ.append_cases stored m) [ inl i ↦ H.origins x i | inr i ↦ some x i ])

-- the new words do not fit, also where the store is closed up
module _ {s t : List ℤ} {used end : ℕ} {stored : List Stored} (H : Holds s used stored) (new : List Stored) {size : ℕ}
    (n : length (words_of new) ≡ size) (alive : closed new ≡ new) (same : length t ≡ length s) where
  pub full : Holds t end (kept_for (length s) (length (words_of new)) stored) → length t - end < size → length t < words_for (live (kept_with (length s) new stored))
  full K h = by (leb (length (words_of stored) + length (words_of new)) (length s)) refl K
    where
      by : (b : Bool) → leb (length (words_of stored) + length (words_of new)) (length s) ≡ b → Holds t end (cond b stored (closed stored))
          → length t < words_for (live (cond b stored (closed stored) ++ new))
      by true q K = absurd (omega (arith, K.extent, K.fits, n, leb→le (length (words_of stored) + length (words_of new)) (length s) (rw q tt)))
      by false q K =
          let l : closed (closed stored ++ new) ≡ closed stored ++ new =
          closed-append (closed stored) new ∙ ap₂ (λ a b. a ++ b) (closed-twice stored) alive in
          let w : words_for (live (closed stored ++ new)) ≡ end + size =
          sym (words-for (closed stored ++ new)) ∙ ap (λ (k : List Stored). length (words_of k)) l ∙ more-words K new n in
          omega (arith, w, K.fits)

-- Deleting

-- where the list was found, from i on
pub record Hit (i j : ℕ) (L : List ℤ) (stored : List Stored) : Type 0 where
  pub done : List Stored
  pub it : Stored
  pub rest : List Stored
  pub alive : it.dead ≡ false
  pub is : stored ≡ done ++ (it ∷ rest)
  pub place : i + length (words_of done) ≡ j
  pub gone : killed L stored ≡ done ++ (dead_of it ∷ rest)

pub hit : (i j : ℕ) (L : List ℤ) (stored : List Stored) → found_at i L stored ≡ Some j → Hit i j L stored
hit i j L [] e = absurd (let z : ◌≡◌ {A = ℕ} 0 1 = cc in omega arith)
hit i j L (x ∷ xs) e = by (is_target L x) refl (λ h. hit (i + record_size x.literals) j L xs h) e
  where
    by : (b : Bool) → is_target L x ≡ b
        → (found_at (i + record_size x.literals) L xs ≡ Some j → Hit (i + record_size x.literals) j L xs)
        → cond b (Some i) (found_at (i + record_size x.literals) L xs) ≡ Some j → Hit i j L (x ∷ xs)
    by true q r h =
        let z : i ≡ j = cc in
        record { done = []; it = x; rest = xs; alive = (target-alive L x q).0; is = refl; place = omega arith; gone = killed-here L x xs q }
    by false q r h =
        let t = r h in
        record {
          done = x ∷ t.done;
          it = t.it;
          rest = t.rest;
          alive = t.alive;
          is = ap (λ (l : List Stored). x ∷ l) t.is;
          place = omega (arith, t.place, stored-size x, length-append (stored_words x) (words_of t.done));
          gone = killed-on L x xs q ∙ ap (λ (l : List Stored). x ∷ l) t.gone;
        }

-- nothing is found: nothing is marked
pub miss : (i : ℕ) (L : List ℤ) (stored : List Stored) → found_at i L stored ≡ None → killed L stored ≡ stored
miss i L [] e = killed-nil L
miss i L (x ∷ xs) e = by (is_target L x) refl (λ h. miss (i + record_size x.literals) L xs h) e
  where
    by : (b : Bool) → is_target L x ≡ b
        → (found_at (i + record_size x.literals) L xs ≡ None → killed L xs ≡ xs)
        → cond b (Some i) (found_at (i + record_size x.literals) L xs) ≡ None → killed L (x ∷ xs) ≡ x ∷ xs
    by true q r h = absurd (let z : ◌≡◌ {A = ℕ} 0 1 = cc in omega arith)
    by false q r h = killed-on L x xs q ∙ ap (λ (l : List Stored). x ∷ l) (r h)

module _ {store : List ℤ} {used : ℕ} {stored : List Stored} (H : Holds store used stored) {j : ℕ} {L : List ℤ} (h : Hit 0 j L stored) where
  abbrev older : List ℤ
  older = words_of h.done

  abbrev newer : List ℤ
  newer = words_of h.rest

  abbrev unused : List ℤ
  unused = replicate (length store - used) (pos 0)

  -- the words used with one nogood in the place of the one found: the older nogoods', its own, and the newer ones'
  parts : (e : Stored) → words_of (h.done ++ (e ∷ h.rest)) ≡ older ++ (stored_words e ++ newer)
  parts e = concat-append stored_words h.done (e ∷ h.rest)

  whole : store ≡ older ++ ((stored_words h.it ++ newer) ++ unused)
  whole =
      holds→ H ∙ ap (λ (l : List Stored). words_of l ++ unused) h.is ∙ ap (λ (l : List ℤ). l ++ unused) (parts h.it)
      ∙ append_assoc older (stored_words h.it ++ newer) unused

  sized : (length older ≡ j) × (used ≡ j + length (stored_words h.it ++ newer))
  sized = (
    omega (arith, h.place),
    omega (
      arith,
      h.place,
      H.extent,
      ap (λ (l : List Stored). length (words_of l)) h.is,
      ap length (parts h.it),
      length-append older (stored_words h.it ++ newer),
    ),
  )

  found : Segment stored_words store j used (h.it ∷ h.rest)
  found = record {
    words = ap (drop j) whole ∙ drop_at older ((stored_words h.it ++ newer) ++ unused) j sized.0
        ∙ ap (λ (l : List ℤ). (stored_words h.it ++ newer) ++ l)
        (sym (ap (drop used) (holds→ H) ∙ drop_at (words_of stored) unused used (sym H.extent)));
    size = omega (arith, sized.1);
    within = H.fits;
  }

  among : (e : Stored) → e ∈ h.done ++ (h.it ∷ h.rest) → e ∈ stored
  among e u = rw h.is u

  -- the record that was found can be read, and is live
  pub hit-room : (end_at store j ≤ length store) × (dead_at store j ≡ false)
  hit-room =
      let b : j < used = omega (arith, sized.1, length-append (stored_words h.it) newer) in
      let r = at-record found (λ e u. H.origins e (among e (Memᴰ.append_right h.done u))) b in
      (omega (arith, r.room, H.fits), sym (ap dead-first r.is) ∙ h.alive)
    where
      dead-first : List Stored → Bool
      dead-first [] = false
      dead-first (e ∷ l) = e.dead

  -- its first word is negated: it is dead
  pub hit-killed : Holds (set store j (neg_ℤ (get_or store j (pos 0)))) used (killed L stored)
  hit-killed =
      let it = h.it in
      let ys : List ℤ = ((pos (length it.literals) ∷ it.literals) ++ newer) ++ unused in
      let u : store ≡ older ++ (origin_word it ∷ ys) = whole in
      let o : origin_word it ≡ pos it.origin = live-word it.dead it.origin h.alive in
      let g : get_or store j (pos 0) ≡ pos it.origin = ap (λ (l : List ℤ). get_or l j (pos 0)) u ∙ get_or_at older (origin_word it) ys (pos 0) j sized.0 ∙ o in
      let v = neg_ℤ (pos it.origin) in
      let w : set store j v ≡ words_of (h.done ++ (dead_of it ∷ h.rest)) ++ unused =
      ap (λ (l : List ℤ). set l j v) u ∙ set_at older (origin_word it) ys v j sized.0
      ∙ sym (append_assoc older (stored_words (dead_of it) ++ newer) unused) ∙ ap (λ (l : List ℤ). l ++ unused) (sym (parts (dead_of it))) in
      let k : used ≡ length (words_of (h.done ++ (dead_of it ∷ h.rest))) =
      omega (
        arith,
        sized,
        ap length (parts (dead_of it)),
        length-append older (stored_words (dead_of it) ++ newer),
        length-append (stored_words (dead_of it)) newer,
        length-append (stored_words it) newer,
      ) in
      rw (g, h.gone)
      (holds← (length store - used) w k
      (λ e m. changed (λ x. Literals x.literals) (λ x n. H.literals x (among x n)) (H.literals it (among it (Memᴰ.append_right h.done (Memᴰ.head refl)))) e m)
      (λ e m. changed (λ x. 1 ≤ x.origin) (λ x n. H.origins x (among x n)) (H.origins it (among it (Memᴰ.append_right h.done (Memᴰ.head refl)))) e m))
    where
      live-word : (b : Bool) (n : ℕ) → b ≡ false → cond b (neg_ℤ (pos n)) (pos n) ≡ pos n
      live-word b n e = rw e

      -- what holds of all, and of the dead one
      changed : (P : Stored → Type 0) → ((e : Stored) → e ∈ h.done ++ (h.it ∷ h.rest) → P e) → P (dead_of h.it)
          → (e : Stored) → e ∈ h.done ++ (dead_of h.it ∷ h.rest) → P e
      changed P f d e m = elim (Memᴰ.append_cases h.done m) [
        | inl i ↦ f e (Memᴰ.append_left (h.it ∷ h.rest) i)
        | inr i ↦ elim (Memᴰ.cases_cons i) [ inl q ↦ subst P (sym q) d | inr k ↦ f e (Memᴰ.append_right h.done (Memᴰ.tail k)) ]
      ]
