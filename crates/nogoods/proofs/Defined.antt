-- The nogoods of a definition: their literals, how many words they have, and these words written one nogood after another.
-- Assumes nothing.
use mathlib.Core.Path.{◌≡◌, refl, sym, ap, ap₂, subst, ◌∙◌}
use mathlib.Core.List.Memᴰ
use mathlib.Core.List.{List, [], ◌∷◌, ◌++◌, map, map-append, append-nil}
use Prim.Native.Nat.{ℕ, ◌+◌, ◌*◌, ◌-◌, ◌≤◌, ◌<◌}
use native.Mathlib.Omega.{arith}
use native.Mathlib.Numerals.{add-one}
use lib.IntN.{ℤ, pos}
use lib.ListN.{length, take, drop, get_or, set, length-append, length-drop}
use lib.Seq.{length-take-le, take-suc, take_at, drop_at}
use borrow.Rule.Slice.PartMut.{put_mid}
use Rattle.words.specs.Lists.{◌∈◌}
use Rattle.words.specs.Literals.{complement, ascending}
use Rattle.words.proofs.Lists.{concat-append, each-cons}
use Rattle.words.proofs.Literals.{ascending→}
use Rattle.words.proofs.Sorting.{length-ascending}
use Rattle.words.proofs.Parts.{tail_of, mid-put, length-put}
use Rattle.derivation.specs.Steps.{definition}
use Rattle.nogoods.specs.Store.{Stored, record_of, added_in, record_header, header_size, stored_words, record_size, words_of}
use Rattle.nogoods.specs.Keeps.{Literals, WrittenFront}
use Rattle.nogoods.specs.Definitions.{pair, pair_size, defined, defined_size}
use Rattle.nogoods.proofs.Live.{stored-size}
use Rattle.nogoods.proofs.Recorded.{header-same}
use Rattle.nogoods.proofs.Literals.{added-literals}
use Rattle.nogoods.proofs.Stored.{written_next}
use Rattle.nogoods.proofs.Literals.{literals-ascending, literals-pair, literals-complement-first}

-- A name and its literals, in one list of numbers

pub name-and-literals : (numbers : List ℤ) → 1 ≤ length numbers → Literals numbers → Literals (get_or numbers 0 (pos 0) ∷ drop 1 numbers)
name-and-literals [] h k = absurd (omega arith)
name-and-literals (x ∷ l) h k = k

-- in a record w the name's complement y is put in the name's place, and the literals are sorted
pub first-written : (o : ℕ) (numbers free w s : List ℤ) (y z : ℤ) (k : ℕ) → 1 ≤ length numbers → k ≡ length numbers → y ≡ z
    → WrittenFront (stored_words (record_of o numbers)) free w → s ≡ ascending (take k (drop header_size (set w header_size y)))
    → WrittenFront (stored_words (record_of o (ascending (z ∷ drop 1 numbers)))) free (put_mid header_size k (set w header_size y) s)
first-written o [] free w s y z k h e r p q = absurd (omega arith)
first-written o (x ∷ l) free w s y z k h e r p q =
    let old = record_of o (x ∷ l) in
    let new = record_of o (ascending (z ∷ l)) in
    let rest = drop (length (stored_words old)) free in
    let n : length (x ∷ l) ≡ length (ascending (z ∷ l)) = sym (length-ascending (z ∷ l)) in
    let m : length (stored_words old) ≡ length (stored_words new) = omega (arith, n) in
    let u : set w header_size y ≡ record_header old ++ (y ∷ l ++ rest) = ap (λ (t : List ℤ). set t header_size y) p in
    let sorted : s ≡ ascending (z ∷ l) =
    q ∙ ap (λ (t : List ℤ). ascending (take k (drop header_size t))) u ∙ ap ascending (take_at (y ∷ l) rest k (sym e) ∙ ap (λ (t : ℤ). t ∷ l) r) in
    ap (λ (t : List ℤ). put_mid header_size k t s) u ∙ ap₂ (λ a b. record_header old ++ (a ++ b)) sorted (drop_at (y ∷ l) rest k (sym e))
    ∙ ap₂ (λ a k. a ++ (ascending (z ∷ l) ++ drop k free)) (header-same o (x ∷ l) (ascending (z ∷ l)) n) m

-- the literals are sorted in their place
pub others-sorted : (numbers s : List ℤ) → 1 ≤ length numbers → s ≡ ascending (take (length numbers - 1) (drop 1 numbers))
    → (let t = put_mid 1 (length numbers - 1) numbers s in take (length t - 1) (drop 1 t)) ≡ ascending (drop 1 numbers)
others-sorted numbers s h e =
    let q : s ≡ ascending (drop 1 numbers) = e ∙ ap ascending (tail_of 1 numbers) in
    let n : length s ≡ length numbers - 1 = ap length q ∙ length-ascending (drop 1 numbers) ∙ length-drop 1 numbers in
    rw (length-put 1 (length numbers - 1) numbers s (omega arith) n) (mid-put 1 (length numbers - 1) numbers s (omega arith) n ∙ q)

module _ (o : ℕ) (n : ℤ) where
  pair-record : (x : ℤ) → length (stored_words (record_of o (pair n x))) ≡ pair_size
  pair-record x = omega (arith, stored-size (record_of o (pair n x)), length-ascending (n ∷ complement x ∷ []))

  pub pairs-size : (l : List ℤ) → length (words_of (added_in o (map (pair n) l))) ≡ pair_size * length l
  pairs-size [] = refl
  pairs-size (x ∷ l) =
      omega (arith, length-append (stored_words (record_of o (pair n x))) (words_of (added_in o (map (pair n) l))), pair-record x, pairs-size l)

  -- one more pair, after those of the first i literals
  pub pair-next : (l before free ys : List ℤ) (at i : ℕ) → i < length l → at ≡ pair_size * i
      → WrittenFront (words_of (added_in o (map (pair n) (take i l)))) before free
      → WrittenFront (stored_words (record_of o (pair n (get_or l i (pos 0))))) (take (length free - at) (drop at free)) ys
      → WrittenFront (words_of (added_in o (map (pair n) (take (i + 1) l)))) before (put_mid at (length free - at) free ys)
  pair-next l before free ys at i h k e w =
      let done = added_in o (map (pair n) (take i l)) in
      let it = record_of o (pair n (get_or l i (pos 0))) in
      let front : length (words_of done) ≡ at = omega (arith, pairs-size (take i l), length-take-le i l (omega arith)) in
      let more : added_in o (map (pair n) (take (i + 1) l)) ≡ done ++ (it ∷ []) =
      rw (add-one, take-suc l i (pos 0) h)
      (ap (added_in o) (map-append (pair n) (take i l) (get_or l i (pos 0) ∷ []))
      ∙ map-append (record_of o) (map (pair n) (take i l)) (pair n (get_or l i (pos 0)) ∷ [])) in
      let words : words_of (added_in o (map (pair n) (take (i + 1) l))) ≡ words_of done ++ stored_words it =
      ap words_of more ∙ concat-append stored_words done (it ∷ []) ∙ ap (λ (t : List ℤ). words_of done ++ t) (append-nil (stored_words it)) in
      rw words (written_next (words_of done) (stored_words it) before free ys at front e w)

  -- all pairs, after the first nogood
  pub definition-written : (L before f ys : List ℤ) (end : ℕ) → end ≡ record_size (n ∷ L)
      → WrittenFront (stored_words (record_of o (ascending (complement n ∷ L)))) before f
      → WrittenFront (words_of (added_in o (map (pair n) (ascending L)))) (take (length f - end) (drop end f)) ys
      → WrittenFront (words_of (added_in o (definition n L))) before (put_mid end (length f - end) f ys)
  definition-written L before f ys end k e w =
      let it = record_of o (ascending (complement n ∷ L)) in
      let front : length (stored_words it) ≡ end = omega (arith, stored-size it, length-ascending (complement n ∷ L)) in
      written_next (stored_words it) (words_of (added_in o (map (pair n) (ascending L)))) before f ys end front e w

  definition-size : (L : List ℤ) → length (words_of (added_in o (definition n L))) ≡ record_size (n ∷ L) + pair_size * length L
  definition-size L =
      let it = record_of o (ascending (complement n ∷ L)) in
      omega (
        arith,
        length-append (stored_words it) (words_of (added_in o (map (pair n) (ascending L)))),
        stored-size it,
        length-ascending (complement n ∷ L),
        pairs-size (ascending L),
        length-ascending L,
      )

definition-literals : (n : ℤ) (L : List ℤ) → Literals (n ∷ L) → (g : List ℤ) → g ∈ definition n L → Literals g
definition-literals n L h =
    each-cons {P = Literals} (literals-ascending (complement n ∷ L) (literals-complement-first n L h)) (λ g m.
    let r = Memᴰ.of_map (pair n) (ascending L) m in
    subst Literals r.2 (literals-ascending (n ∷ complement r.0 ∷ []) (literals-pair n L h r.0 (ascending→ L r.1))))

module _ (o : ℕ) (numbers : List ℤ) (some : 1 ≤ length numbers) where
  pub defined-size : length (words_of (added_in o (defined numbers))) ≡ defined_size (length numbers)
  defined-size = definition-size o (get_or numbers 0 (pos 0)) (drop 1 numbers) ∙ omega (arith, length-drop 1 numbers)

  pub defined-literals : Literals numbers → (e : Stored) → e ∈ added_in o (defined numbers) → Literals e.literals
  defined-literals h =
      added-literals o (defined numbers) (definition-literals (get_or numbers 0 (pos 0)) (drop 1 numbers) (name-and-literals numbers some h))
