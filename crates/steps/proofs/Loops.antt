-- The `l` step: questions 31 and 32 by marks, and its nogood, which is gathered in ascending order.
-- Assumes nothing.
use mathlib.Core.Path.{◌≡◌, refl, sym, ◌∙◌, ap, fun_ext}
use mathlib.Core.Logic.{◌⊎◌, inl, inr}
use mathlib.Core.Bool.{Bool, true, false, cond, not, ◌&&◌, ◌||◌, true≢false}
use mathlib.Core.List.Memᴰ
use mathlib.Core.List.{List, [], ◌∷◌, map}
use Prim.Native.Nat.{ℕ, zero, suc, ◌+◌, ◌≤◌, ◌<◌}
use native.Mathlib.Omega.{arith}
use borrow.Author.Tests.{eqb-true, eqb-false, ltb-true, ltb-false}
use lib.Dec.{T, eqb, ltb}
use lib.IntN.{ℤ, pos, neg_ℤ}
use lib.ListN.{length, get_or-eq_default}
use Rattle.words.specs.Limits.{largest}
use Rattle.words.specs.Lists.{◌∈◌, any, filter}
use Rattle.words.specs.Literals.{variable, complement, mentions, distinct, rising, same_list, has, top, ascending}
use Rattle.words.proofs.Lists.{Decides, itself, reworded, is_true, if-true, and-decides, any-decides, all-decides, eqb-decides, leb-decides, keep→, keep←, passed, failed, and_left, and_right, same_test}
use Rattle.words.proofs.Literals.{same_list-decides, has-decides, variable-complement, ascending→, ascending←}
use Rattle.words.proofs.Places.{equal?, mentions-decides}
use Rattle.words.proofs.Sorting.{rising-ascending, rising-before, same-members}
use Rattle.words.proofs.Tops.{top-decides}
use Rattle.aspif.specs.Rules.{Rule}
use Rattle.marks.specs.Marks.{listed, marked, Marks}
use Rattle.drupe.specs.Lines.{is_positive}
use Rattle.derivation.specs.States.{Named, State, is_atom}
use Rattle.derivation.specs.Steps.{is_external, external_names, all_atoms}
use Rattle.derivation.proofs.Questions.{positive-is}
use Rattle.names.specs.Queries.{is_inside, asks}
use Rattle.names.specs.declared.queries.Query.TheVariants.{External}
use Rattle.steps.specs.Held.{name_of, Proper, gathered}
use Rattle.steps.proofs.Names.{unlisted, name-found, name-of, Some, picked-decides}

-- Question 31

module _ (N : ℕ) (z : State) where
  -- the numbers of an `l` line are not 0
  pub all-atoms : (U : List ℤ) → ((x : ℤ) → x ∈ U → 1 ≤ variable x) → Decides (all_atoms N z U) (top U ≤ N)
  all-atoms U low = reworded (λ f. (top-decides N U).to ((all-decides (λ x. leb-decides (variable x) N) U).from (λ x i. (f x i).1)))
      (λ h x i. (low x i, (all-decides (λ x. leb-decides (variable x) N) U).to ((top-decides N U).from h) x i))
      (all-decides (λ x. and-decides (leb-decides 1 (variable x)) (leb-decides (variable x) N)) U)

-- Question 32: the set as marks

module _ (U : List ℤ) {m : List ℕ} (marks : Marks m (map variable U)) (good : (x : ℤ) → x ∈ U → T (is_positive x) × (variable x ≤ largest)) where
  marked-low : (v : ℕ) → T (marked m v) → v ≤ largest
  marked-low v t = by (ltb v (length m)) refl
    where
      by : (b : Bool) → ltb v (length m) ≡ b → v ≤ largest
      by true e = omega (arith, ltb-true v (length m) e, marks.long)
      by false e = absurd (rw (get_or-eq_default m 0 (ltb-false v (length m) e)) at t)

  inside : (x : ℤ) → is_inside m x ≡ has x U
  inside x = same_test (and-decides (itself (is_positive x)) (itself (marked m (variable x)))) (has-decides x U) to from
    where
      to : T (is_positive x) × T (marked m (variable x)) → x ∈ U
      to p =
          let q = (any-decides (eqb-decides (variable x)) (map variable U)).to (rw (← marks.has (variable x) (marked-low (variable x) p.1)) p.1) in
          let r = Memᴰ.of_map variable U q.1 in
          let e : r.0 ≡ x = positive-is r.0 (good r.0 r.1).0 ∙ ap pos (r.2 ∙ sym q.2) ∙ sym (positive-is x p.0) in
          Memᴰ.cast (sym e) r.1

      from : x ∈ U → T (is_positive x) × T (marked m (variable x))
      from i =
          let g = good x i in
          (g.0, rw (marks.has (variable x) g.1) ((any-decides (eqb-decides (variable x)) (map variable U)).from (variable x, Memᴰ.map variable i, refl)))

  pub external-by : asks External m ≡ is_external U
  external-by = fun_ext (λ r. rw (fun_ext inside))

-- The nogood

module _ (f : ℕ → Bool) (h : ℤ) where
  -- what the number w gives
  abbrev Gives : ℕ → ℤ → Type 0
  Gives w x = ((w ≡ variable h) × (x ≡ h)) ⊎ ((¬ (w ≡ variable h)) × (T (f w) × (x ≡ neg_ℤ (pos w))))

  gives-variable : {w : ℕ} {x : ℤ} → Gives w x → variable x ≡ w
  gives-variable (inl p) = ap variable p.1 ∙ sym p.0
  gives-variable {w} (inr p) = ap variable p.1.1 ∙ variable-complement (pos w)

  abbrev Gathered : ℕ → ℕ → ℤ → Type 0
  Gathered n v x = (w : ℕ) × (v ≤ w) × (w < v + n) × Gives w x

  gathered→ : (n v : ℕ) {x : ℤ} → x ∈ gathered f h n v → Gathered n v x
  gathered→ zero v m = elim m [ ]
  gathered→ (suc n) v {x} m = by (λ i. later (gathered→ n (suc v) i)) (eqb v (variable h)) refl (f v) refl m
    where
      later : Gathered n (suc v) x → Gathered (suc n) v x
      later g = (g.0, omega (arith, g.1), omega (arith, g.2), g.3)

      by : (x ∈ gathered f h n (suc v) → Gathered (suc n) v x) → (a : Bool) → eqb v (variable h) ≡ a → (b : Bool) → f v ≡ b
          → x ∈ cond a (h ∷ gathered f h n (suc v)) (cond b (neg_ℤ (pos v) ∷ gathered f h n (suc v)) (gathered f h n (suc v))) → Gathered (suc n) v x
      by on true e b q (Memᴰ.head p) = (v, omega arith, omega arith, inl (eqb-true v (variable h) e, p))
      by on true e b q (Memᴰ.tail i) = on i
      by on false e true q (Memᴰ.head p) = (v, omega arith, omega arith, inr (eqb-false v (variable h) e, ((passed (f v)).from q, p)))
      by on false e true q (Memᴰ.tail i) = on i
      by on false e false q i = on i

  gathered← : (n v : ℕ) {x : ℤ} → Gathered n v x → x ∈ gathered f h n v
  gathered← zero v g = absurd (omega (arith, g.1, g.2))
  gathered← (suc n) v {x} g = by (λ k. gathered← n (suc v) (g.0, k, omega (arith, g.2), g.3)) (eqb v (variable h)) refl (f v) refl
    where
      at : v ≡ g.0 → Gives v x
      at e = rw e g.3

      past : ¬ (v ≡ g.0) → suc v ≤ g.0
      past k = omega (arith, g.1)

      by : (suc v ≤ g.0 → x ∈ gathered f h n (suc v)) → (a : Bool) → eqb v (variable h) ≡ a → (b : Bool) → f v ≡ b
          → x ∈ cond a (h ∷ gathered f h n (suc v)) (cond b (neg_ℤ (pos v) ∷ gathered f h n (suc v)) (gathered f h n (suc v)))
      by on true e b q = elim (equal? v g.0) [
        | inl k ↦ elim (at k) [ inl p ↦ Memᴰ.head p.1 | inr p ↦ absurd (p.0 (eqb-true v (variable h) e)) ]
        | inr k ↦ Memᴰ.tail (on (past k))
      ]
      by on false e true q = elim (equal? v g.0) [
        | inl k ↦ elim (at k) [ inl p ↦ absurd (eqb-false v (variable h) e p.0) | inr p ↦ Memᴰ.head p.1.1 ]
        | inr k ↦ Memᴰ.tail (on (past k))
      ]
      by on false e false q = elim (equal? v g.0) [
        | inl k ↦ elim (at k) [ inl p ↦ absurd (eqb-false v (variable h) e p.0) | inr p ↦ absurd (rw q at p.1.0) ]
        | inr k ↦ on (past k)
      ]

  pub gathered-above : (n v : ℕ) (y : ℤ) → y ∈ gathered f h n v → v ≤ variable y
  gathered-above n v y i = let g = gathered→ n v i in omega (arith, g.1, gives-variable g.3)

  gathered-rising : (n v : ℕ) → rising (gathered f h n v) ≡ true
  gathered-rising zero v = refl
  gathered-rising (suc n) v = by (gathered-rising n (suc v)) (eqb v (variable h)) refl (f v)
    where
      by : rising (gathered f h n (suc v)) ≡ true → (a : Bool) → eqb v (variable h) ≡ a → (b : Bool)
          → rising (cond a (h ∷ gathered f h n (suc v)) (cond b (neg_ℤ (pos v) ∷ gathered f h n (suc v)) (gathered f h n (suc v)))) ≡ true
      by r true e b = rising-before h _ r (λ y i. omega (arith, gathered-above n (suc v) y i, eqb-true v (variable h) e))
      by r false e true = rising-before (neg_ℤ (pos v)) _ r (λ y i. omega (arith, gathered-above n (suc v) y i, variable-complement (pos v)))
      by r false e false = r

-- The nogood from a row of names, which rise and are above h
module _ (f : ℕ → Bool) (h : ℤ) (ns : List ℤ) (low : 1 ≤ variable h) (high : variable h ≤ largest) (rise : rising ns ≡ true)
    (good : (x : ℤ) → x ∈ ns → (x ≡ pos (variable x)) × (1 ≤ variable x) × (variable x ≤ largest)) (same : (v : ℕ) → v ≤ largest → mentions v ns ≡ f v)
    (above : (v : ℕ) → v ≤ largest → f v ≡ true → 1 ≤ v → variable h < v) where
  passes : (x : ℤ) → x ∈ ns → f (variable x) ≡ true
  passes x i = sym (same (variable x) (good x i).2) ∙ is_true (mentions-decides (variable x) ns) (x, i, refl)

  rising-complements : (l : List ℤ) → rising l ≡ true → rising (map complement l) ≡ true
  rising-complements [] e = refl
  rising-complements (x ∷ []) e = refl
  rising-complements (x ∷ y ∷ l) e = rw (variable-complement x, variable-complement y, and_left (ltb (variable x) (variable y)) (rising (y ∷ l)) e) (rising-complements (y ∷ l) (and_right (ltb (variable x) (variable y)) _ e))

  row-to : (x : ℤ) → x ∈ h ∷ map complement ns → x ∈ gathered f h largest 1
  row-to x (Memᴰ.head p) = gathered← f h largest 1 (variable h, low, omega arith, inl (refl, p))
  row-to x (Memᴰ.tail i) =
      let q = Memᴰ.of_map complement ns i in
      let y = q.0 in
      let g = good y q.1 in
      let t = passes y q.1 in
      let k = above (variable y) g.2 t g.1 in
      gathered← f h largest 1 (variable y, g.1, omega (arith, g.2), inr (λ e. omega arith, ((passed (f (variable y))).from t, sym q.2 ∙ ap complement g.0)))

  row_from : (x : ℤ) → x ∈ gathered f h largest 1 → x ∈ h ∷ map complement ns
  row_from x i = by (gathered→ f h largest 1 i)
    where
      by : Gathered f h largest 1 x → x ∈ h ∷ map complement ns
      by g = elim g.3 [
        | inl p ↦ Memᴰ.head p.1
        | inr p ↦
            let q = if-true (mentions-decides g.0 ns) (same g.0 (omega (arith, g.2)) ∙ (passed (f g.0)).to p.1.0) in
            let e : x ≡ complement q.0 = p.1.1 ∙ ap (λ (n : ℕ). neg_ℤ (pos n)) q.2 ∙ ap complement (sym (good q.0 q.1).0) in
            Memᴰ.tail (Memᴰ.cast e (Memᴰ.map complement q.1))
      ]

  pub row-gathered : h ∷ map complement ns ≡ gathered f h largest 1
  row-gathered =
      same-members _ _
      (rising-before h _ (rising-complements ns rise) (λ y i.
      let q = Memᴰ.of_map complement ns i in
      let g = good q.0 q.1 in
      let k = above (variable q.0) g.2 (passes q.0 q.1) g.1 in
      omega (arith, ap variable q.2, variable-complement q.0)))
      (gathered-rising f h largest 1) row-to row_from

-- distinct names, each with a minus, of those that pass
module _ (f : Named → Bool) where
  abbrev negated : List Named → List ℤ
  negated l = map (λ n. neg_ℤ (pos n)) (map (λ x. x.name) (filter f l))

  unmentioned : (v : ℕ) (l : List Named) → mentions v (map (λ x. pos x.name) l) ≡ false → mentions v (negated l) ≡ false
  unmentioned v [] e = refl
  unmentioned v (x ∷ l) e = by (eqb v x.name) refl (f x) (unmentioned v l) e
    where
      by : (a : Bool) → eqb v x.name ≡ a → (b : Bool) → (mentions v (map (λ x. pos x.name) l) ≡ false → mentions v (negated l) ≡ false)
          → (a || mentions v (map (λ x. pos x.name) l)) ≡ false
          → mentions v (map (λ n. neg_ℤ (pos n)) (map (λ x. x.name) (cond b (x ∷ filter f l) (filter f l)))) ≡ false
      by true q b on e = absurd (true≢false e)
      by false q true on e = rw (variable-complement (pos x.name), q) (on e)
      by false q false on e = on e

  negated-distinct : (l : List Named) → distinct (map (λ x. pos x.name) l) ≡ true → distinct (negated l) ≡ true
  negated-distinct [] e = refl
  negated-distinct (x ∷ l) e = by (f x) (negated-distinct l (and_right (not (mentions x.name (map (λ x. pos x.name) l))) _ e))
    where
      by : (b : Bool) → distinct (negated l) ≡ true → distinct (map (λ n. neg_ℤ (pos n)) (map (λ x. x.name) (cond b (x ∷ filter f l) (filter f l)))) ≡ true
      by true q =
          let u = unmentioned x.name l (failed _ ((passed (not (mentions x.name (map (λ x. pos x.name) l)))).from (and_left _ _ e))) in
          rw (variable-complement (pos x.name), u, q)
      by false q = q

module _ {N : ℕ} (P : List Rule) (z : State) (proper : Proper N z.introduced z.named) (h : ℤ) (U : List ℤ) (atom : T (is_atom N (variable h)))
    (high : N ≤ largest) where
  -- the names of the external bodies
  abbrev names : List ℕ
  names = map (λ r. name_of z.named r.body) (filter (is_external U) P)

  names-decides : (v : ℕ) → Decides (listed names v) (Some (is_external U) (λ r. name_of z.named r.body) P v)
  names-decides = picked-decides (is_external U) (λ r. name_of z.named r.body) P

  -- the body of the name is external
  abbrev test : Named → Bool
  test x = any (λ r. is_external U r && same_list x.body r.body) P

  test-decides : (x : Named) → Decides (test x) ((r : Rule) × (r ∈ P) × (T (is_external U r) × (x.body ≡ r.body)))
  test-decides x = any-decides (λ r. and-decides (itself (is_external U r)) (same_list-decides x.body r.body)) P

  abbrev nogood : List ℤ
  nogood = h ∷ map (λ n. neg_ℤ (pos n)) (external_names P z U)

  -- no name is h
  other : (x : Named) → x ∈ z.named → ¬ (x.name ≡ variable h)
  other x i e = proper.new x i (rw e atom)

  nogood-distinct : distinct nogood ≡ true
  nogood-distinct = rw (unmentioned test (variable h) z.named (unlisted (variable h) z.named other), negated-distinct test z.named proper.different)

  -- a listed number is the name of an external body
  to : (x : ℤ) → Gathered (listed names) h largest 1 x → x ∈ nogood
  to x g = elim g.3 [
    | inl p ↦ Memᴰ.head p.1
    | inr p ↦ named p
  ]
    where
      named : (¬ (g.0 ≡ variable h)) × (T (listed names g.0) × (x ≡ neg_ℤ (pos g.0))) → x ∈ nogood
      named p =
          let low = g.1 in
          let r = (names-decides g.0).to p.1.0 in
          let y = name-found z.named r.0.body (λ e. omega (arith, r.2.1)) in
          let k : T (test y.0) = (test-decides y.0).from (r.0, r.1, (r.2.0, y.2.1)) in
          let i : y.0.name ∈ external_names P z U = Memᴰ.map (λ (x : Named). x.name) (keep← test y.1 k) in
          Memᴰ.tail (Memᴰ.cast (p.1.1 ∙ ap (λ n. neg_ℤ (pos n)) (sym (y.2.0 ∙ r.2.1))) (Memᴰ.map (λ n. neg_ℤ (pos n)) i))

  from : (x : ℤ) → x ∈ nogood → Gathered (listed names) h largest 1 x
  from x (Memᴰ.head p) = let a = (and-decides (leb-decides 1 (variable h)) (leb-decides (variable h) N)).to atom in (variable h, a.0, omega (arith, a.1, high), inl (refl, p))
  from x (Memᴰ.tail i) =
      let q = Memᴰ.of_map (λ n. neg_ℤ (pos n)) (external_names P z U) i in
      let r = Memᴰ.of_map (λ (x : Named). x.name) (filter test z.named) q.1 in
      let k = keep→ test z.named r.1 in
      let y = r.0 in
      let b = (test-decides y).to k.1 in
      let e : name_of z.named b.0.body ≡ y.name = ap (name_of z.named) (sym b.2.1) ∙ name-of proper k.0 in
      let w = proper.high y k.0 in
      let t : T (listed names y.name) = (names-decides y.name).from (b.0, b.1, (b.2.0, e)) in
      (y.name, proper.low y k.0, omega arith, inr (other y k.0, (t, sym q.2 ∙ ap (λ n. neg_ℤ (pos n)) (sym r.2))))

  pub loop-nogood : gathered (listed names) h largest 1 ≡ ascending nogood
  loop-nogood =
      same-members _ _ (gathered-rising (listed names) h largest 1) (rising-ascending nogood ∙ nogood-distinct)
      (λ x i. ascending← nogood (to x (gathered→ (listed names) h largest 1 i)))
      (λ x i. gathered← (listed names) h largest 1 (from x (ascending→ nogood i)))
