-- The recursion over the pairs of a weight body that marks the names of its bodies: what each way out and each call of itself makes of
-- the marks, and what the calls ask. Assumes nothing.
use mathlib.Core.Path.{◌≡◌, refl, sym, ap, fun_ext, ◌∙◌}
use mathlib.Core.Bool.{Bool, cond, ◌||◌, or-false, or_comm, or_assoc}
use mathlib.Core.List.{List, [], ◌∷◌, ◌++◌, map, append-nil, append_assoc, map-append, map-map}
use Prim.Native.Nat.{ℕ, suc, ◌+◌, ◌<◌, ◌≤◌, min}
use native.Mathlib.Omega.{arith}
use native.Mathlib.Numerals.{add-one}
use lib.Dec.{eqb, ltb}
use lib.IntN.{ℤ, pos}
use lib.ListN.{length, take, drop, get_or, set, length-set}
use lib.Seq.{take-suc-set, take-take, take_at, length-take-le}
use Rattle.words.specs.Limits.{entries}
use Rattle.words.specs.Literals.{ascending}
use Rattle.words.proofs.Lists.{passed}
use Rattle.weights.specs.Weights.{Weighted, sum, paired}
use Rattle.weights.specs.Completing.{ends}
use Rattle.weights.proofs.Sublists.{any_append}
use Rattle.weights.proofs.Minimal.{ltb-decides}
use Rattle.weights.proofs.Completing.{ends_next, ends-short, ends-heavy, ends-reached}
use Rattle.weights.proofs.Matching.{pair-on}
use Rattle.marks.specs.Marks.{marked, listed}
use Rattle.marks.proofs.Sets.{marked-set}
use Rattle.names.specs.ByName.{Called}
use Rattle.names.specs.Minimal.{AlsoMarks, Choosing, MarksEnds}
use Rattle.names.proofs.Usable.{pair}

-- More marks

pub also-none : (m : List ℕ) → AlsoMarks m m []
also-none m = record { long = refl; has = λ v h. sym (or-false (marked m v)) }

pub also_one : {m m' : List ℕ} {x y : ℕ} → length m ≡ entries → m' ≡ set m x 1 → x ≡ y → AlsoMarks m m' (y ∷ [])
also_one {m} {m'} {x} {y} e p q = rw (p, q) (record {
  long = length-set m y 1;
  has = λ v h.
      marked-set m y v (λ i. omega (arith, e)) ∙ or_comm (eqb v y) (marked m v)
      ∙ ap (λ (t : Bool). marked m v || t) (sym (or-false (eqb v y)));
})

pub also-both : {a b c k l : List ℕ} → AlsoMarks a b k → AlsoMarks b c l → AlsoMarks a c (k ++ l)
also-both {a} {b} {c} {k} {l} p q = record {
  long = q.long ∙ p.long;
  has = λ v h.
      q.has v h ∙ ap (λ (t : Bool). t || listed l v) (p.has v h) ∙ or_assoc (marked a v) (listed k v) (listed l v)
      ∙ ap (λ (t : Bool). marked a v || t) (sym (any_append (eqb v) k l));
}

-- the same numbers, listed otherwise
pub also-as : {a b k l : List ℕ} → ((v : ℕ) → listed k v ≡ listed l v) → AlsoMarks a b k → AlsoMarks a b l
also-as {a} e p = record { long = p.long; has = λ v h. p.has v h ∙ ap (λ (t : Bool). marked a v || t) (e v) }

-- The recursion

-- the same marks, of numbers and words that are known by other names
pub ends_as : (body : List ℤ) (total least n : ℕ) {ps qs after bodies : List ℤ} {bound v w m : ℕ} {x y : ℤ} {found found' : List ℕ}
    → ps ≡ qs → m ≡ min least v → v ≡ w → x ≡ y
    → MarksEnds ps bound (total + v) m (n + 1) (set body n x) after bodies found found'
    → MarksEnds qs bound (total + w) (min least w) (n + 1) (set body n y) after bodies found found'
ends_as body total least n p q e f j = rw (p, q, e, f) at j

module _ {pairs body : List ℤ} {bound total least left n : ℕ} {found : List ℕ} (z : Choosing pairs bound total least left body n found) where
  -- the name of a body that starts with the chosen literals
  abbrev named : (List ℤ → ℕ) → List ℤ → ℕ
  named called t = called (ascending (take n body ++ t))

  -- the bound is reached without the lightest that is chosen
  pub too_much : {bodies : List ℤ} → bound + least ≤ total → MarksEnds pairs bound total least n body body bodies found found
  too_much h = record {
    keeps = refl;
    also = λ called C. rw (ends-heavy bound total least (paired pairs) (λ t i j. omega arith)) (also-none found);
  }

  -- never include after the bound is reached
  pub reached : {bodies : List ℤ} {found' : List ℕ} → bound ≤ total → total < bound + least
      → ((called : List ℤ → ℕ) → Called bodies called → AlsoMarks found found' (called (ascending (take n body)) ∷ []))
      → MarksEnds pairs bound total least n body body bodies found found'
  reached h k a = record { keeps = refl; also = λ called C. rw (one, append-nil (take n body)) (a called C) }
    where
      one : ends bound total least (paired pairs) ≡ [] ∷ []
      one =
          ends-reached bound total least (paired pairs) h
          ∙ ap (λ (t : Bool). cond t ([] ∷ []) []) ((passed (ltb total (bound + least))).to ((ltb-decides total (bound + least)).from k))

  -- otherwise there is a pair
  pub some_left : total < bound → 1 < length pairs
  some_left k = go pairs (omega (arith, z.sums, z.reaches))
    where
      go : (ws : List ℤ) → 0 < sum (paired ws) → 1 < length ws
      go [] i = absurd (omega arith)
      go (x ∷ []) i = absurd (omega arith)
      go (x ∷ w ∷ ws) i = omega arith

  module _ (l : 1 < length pairs) where
    abbrev x : Weighted
    x = pair (get_or pairs 0 (pos 0)) (get_or pairs 1 (pos 0))

    abbrev rest : List Weighted
    rest = paired (drop 2 pairs)

    split : paired pairs ≡ x ∷ rest
    split = pair-on pairs 0 l

    sums_next : left ≡ x.weight + sum rest
    sums_next = z.sums ∙ ap sum split

    room_next : n + suc (length rest) ≤ length body
    room_next = omega (arith, z.room, z.row, ap length split)

    in_body : n < length body
    in_body = omega (arith, room_next)

    -- with the literal and without it
    longer : take (n + 1) (set body n x.literal) ≡ take n body ++ (x.literal ∷ [])
    longer = rw add-one (take-suc-set body n x.literal in_body)

    further : (t : List ℤ) → take (n + 1) (set body n x.literal) ++ t ≡ take n body ++ (x.literal ∷ t)
    further t = ap (λ (l : List ℤ). l ++ t) longer ∙ append_assoc (take n body) (x.literal ∷ []) t

    abbrev taken : List (List ℤ)
    taken = ends bound (total + x.weight) (min least x.weight) rest

    with-and-without : (called : List ℤ → ℕ)
        → map (named called) (ends bound total least (paired pairs))
        ≡ map (λ t. called (ascending (take (n + 1) (set body n x.literal) ++ t))) taken ++ map (named called) (ends bound total least rest)
    with-and-without called =
        ap (map (named called)) (ap (ends bound total least) split ∙ ends_next bound total least x rest)
        ∙ map-append (named called) (map (λ t. x.literal ∷ t) taken) (ends bound total least rest)
        ∙ ap (λ (ns : List ℕ). ns ++ map (named called) (ends bound total least rest))
        (map-map (named called) (λ t. x.literal ∷ t) taken
        ∙ ap (λ (f : List ℤ → ℕ). map f taken)
        (fun_ext (λ t. ap (λ (l : List ℤ). called (ascending l)) (sym (further t)))))

    abbrev With : List ℤ → List ℤ → List ℕ → Type 0
    With bodies first found' =
        MarksEnds (drop 2 pairs) bound (total + x.weight) (min least x.weight) (n + 1) (set body n x.literal) first bodies found found'

    kept : {bodies first : List ℤ} {found' : List ℕ} → With bodies first found' → take n first ≡ take n body
    kept {first = first} j =
        sym (take-take n (n + 1) first (omega arith)) ∙ ap (take n) (j.keeps ∙ longer)
        ∙ take_at (take n body) (x.literal ∷ []) n (length-take-le n body (omega (arith, in_body)))

    -- stop where the weights left do not reach the bound
    pub stops : {bodies first : List ℤ} {found' : List ℕ} → total + left < bound + x.weight → With bodies first found'
        → MarksEnds pairs bound total least n body first bodies found found'
    stops h j = record {
      keeps = kept j;
      also = λ called C.
          rw (with-and-without called, ends-short bound total least rest (omega (arith, sums_next)), append-nil) (j.also called C);
    }

    pub goes_on : {bodies first after : List ℤ} {middle found' : List ℕ} → With bodies first middle
        → MarksEnds (drop 2 pairs) bound total least n first after bodies middle found'
        → MarksEnds pairs bound total least n body after bodies found found'
    goes_on j k = record {
      keeps = k.keeps ∙ kept j;
      also = λ called C.
          rw (with-and-without called) (also-both (j.also called C) (rw (kept j) at (k.also called C)));
    }
