-- The names of external bodies in a row: one more name, the rules of a chain, and all chains of a set.
-- Assumes nothing.
use mathlib.Core.Path.{◌≡◌, refl, sym, ap, subst, ◌∙◌}
use mathlib.Core.Logic.{◌⊎◌, inl, inr}
use mathlib.Core.Bool.{true, false, true≢false}
use mathlib.Core.List.Memᴰ
use mathlib.Core.List.{List, [], ◌∷◌, ◌++◌, map}
use Prim.Native.Nat.{ℕ, suc, ◌+◌, ◌≤◌, ◌<◌}
use native.Mathlib.Numerals.{add-one}
use native.Mathlib.Omega.{arith}
use borrow.Author.Tests.{lt-ltb}
use lib.IntN.{ℤ, pos}
use lib.Signed.{lt_z}
use lib.ListN.{length, take, get_or, set, length-set}
use lib.Seq.{take-suc-set, length-take-le, get_or-take}
use Rattle.words.specs.Limits.{largest, most_held}
use Rattle.words.specs.Lists.{◌∈◌, any, filter}
use Rattle.words.specs.Literals.{variable, has, distinct, ascending}
use Rattle.words.proofs.Lists.{Decides, reworded, passed, if-true, is_true, failed, same_test, not-decides, and_left, and_right, any-decides, eqb-decides, keep→, keep←}
use Rattle.words.proofs.Literals.{has-decides, ascending→, ascending←}
use Rattle.words.proofs.Places.{once-decides, distinct-last, in-at, place-of}
use Rattle.words.proofs.Sorting.{rising-ascending}
use Rattle.aspif.specs.Rules.{Rule, all_plain, expand}
use Rattle.aspif.specs.Tables.{heads_at, body_words_at, rules_at, sound_rules}
use Rattle.marks.specs.Marks.{listed, marked, Marks}
use Rattle.names.specs.Queries.{Kept, is_inside, asks, asked_names}
use Rattle.names.specs.declared.queries.Query.TheVariants.{External}
use Rattle.heads.specs.Heads.{words_from, HasHead, IsExternal, row_words, Row, Collected, InRow, Gathered, Externals}
use Rattle.std.specs.Prelude.{Some}
use Rattle.heads.proofs.Starts.{in-rules→, in-rules←, kept_at, heads-high, rule-here}

-- Different words, each of a number that is listed: no more than there are such numbers

-- one number off the list
taken-off : {v : ℕ} (N : List ℕ) → v ∈ N → (M : List ℕ) × (length N ≡ suc (length M)) × ((u : ℕ) → u ∈ N → ¬ (u ≡ v) → u ∈ M)
taken-off [] i = elim i [ ]
taken-off (y ∷ N) i = elim (Memᴰ.cases_cons i) [
  | inl e ↦ (N, refl, λ u j d. elim (Memᴰ.cases_cons j) [ inl q ↦ absurd (d (q ∙ sym e)) | inr k ↦ k ])
  | inr j ↦
      let r = taken-off N j in
      (y ∷ r.0, ap suc r.1, λ u k d. elim (Memᴰ.cases_cons k) [ inl q ↦ Memᴰ.head q | inr m ↦ Memᴰ.tail (r.2 u m d) ])
]

few-numbers : (l : List ℤ) (N : List ℕ) → distinct l ≡ true → ((x : ℤ) → x ∈ l → variable x ∈ N) → length l ≤ length N
few-numbers [] N o f = omega arith
few-numbers (x ∷ l) N o f =
    let r = taken-off N (f x (Memᴰ.head refl)) in
    let d = if-true (once-decides x l) o in
    let h = few-numbers l r.0 d.1 (λ y i. r.2 (variable y) (f y (Memᴰ.tail i)) (λ e. d.0 (y, i, sym e))) in
    omega (arith, h, r.1)

-- no more names are gathered than there are rules
pub collected-few : {t : List ℤ} {rules : ℕ} {names m : List ℕ} {row : List ℤ} {n : ℕ} → rules ≤ length names → Collected t rules names m row n → n ≤ rules
collected-few {rules = rules} {names} {row = row} {n} h C =
    let f = few-numbers (take n row) (take rules names) C.is.once (λ x i.
    let k = C.sound x i in
    subst (λ v. v ∈ take rules names) (get_or-take rules names k.0 0 k.1.0 ∙ k.2)
    (in-at 0 (take rules names) k.0 (omega (arith, length-take-le rules names h, k.1.0)))) in
    omega (arith, f, length-take-le n row (omega (arith, C.is.long, C.is.within)), length-take-le rules names h)

-- `note`: a name that is not in the row yet

module _ (row : List ℤ) (n name : ℕ) (w : ℤ) (R : Row row n) (room : n ≤ most_held) (low : 1 ≤ name) (high : name ≤ largest) (is : w ≡ pos name)
    (new : has (pos name) (take n row) ≡ false) where
  noted : take (n + 1) (set row n w) ≡ take n row ++ (pos name ∷ [])
  noted = rw (add-one, is) (take-suc-set row n (pos name) (omega (arith, R.long, room)))

  pub note-cases : (x : ℤ) → x ∈ take (n + 1) (set row n w) → (x ∈ take n row) ⊎ (x ≡ pos name)
  note-cases x i = elim (Memᴰ.append_cases (take n row) (subst (λ l. x ∈ l) noted i)) [
    | inl m ↦ inl m
    | inr m ↦ elim (Memᴰ.cases_cons m) [ inl e ↦ inr e | inr k ↦ elim k [ ] ]
  ]

  noted-good : (x : ℤ) → x ∈ take (n + 1) (set row n w) → (x ≡ pos (variable x)) × (1 ≤ variable x) × (variable x ≤ largest)
  noted-good x i = elim (note-cases x i) [ inl m ↦ R.good x m | inr e ↦ rw e (refl, low, high) ]

  noted-once : distinct (take (n + 1) (set row n w)) ≡ true
  noted-once = rw noted (distinct-last (take n row) (pos name) R.once (λ y i e.
      true≢false (sym (is_true (has-decides (pos name) (take n row)) (subst (λ z. z ∈ take n row) ((R.good y i).0 ∙ ap pos e) i)) ∙ new)))

  pub note-row : Row (set row n w) (n + 1)
  note-row = record {
    long = length-set row n w ∙ R.long;
    within = omega (arith, room);
    once = noted-once;
    good = noted-good;
  }

  pub note-in : InRow (set row n w) (n + 1) name
  note-in = (low, λ h. rw noted (Memᴰ.append_right (take n row) (Memᴰ.head refl)))

  pub note-keeps : (x : ℤ) → x ∈ take n row → x ∈ take (n + 1) (set row n w)
  note-keeps x i = rw noted (Memᴰ.append_left (pos name ∷ []) i)

-- `gather_rule`

module _ (t : List ℤ) (rules : ℕ) (names m : List ℕ) (before : List ℤ) (n k : ℕ) where
  pub rule-inside : Collected t rules names m before n → any (is_inside m) (body_words_at (words_from k t)) ≡ true
      → Gathered t rules names m (λ j. j ≡ k) before n before n
  rule-inside C e = record {
    collected = C;
    keeps = λ x i. i;
    all = λ j q X. absurd (true≢false (sym e ∙ subst (λ i. any (is_inside m) (body_words_at (words_from i t)) ≡ false) q X.2));
  }

  pub rule-noted : {row : List ℤ} {r name : ℕ} → IsExternal t rules m k → name ≡ get_or names k 0 → Collected t rules names m before n → Row row r × InRow row r name
      → ((x : ℤ) → x ∈ take n before → x ∈ take r row) × ((x : ℤ) → x ∈ take r row → (x ∈ take n before) ⊎ (x ≡ pos name))
      → Gathered t rules names m (λ j. j ≡ k) before n row r
  rule-noted {row} {r} {name} X e C R f = record {
    collected = record {
      is = R.0;
      sound = λ x i. elim (f.1 x i) [ inl o ↦ C.sound x o | inr q ↦ (k, X, sym e ∙ ap variable (sym q)) ];
    };
    keeps = f.0;
    all = λ j q Y. subst (InRow row r) (e ∙ ap (λ i. get_or names i 0) (sym q)) R.1;
  }

-- the name of rule k is in the row, if it is external
abbrev pub Got : List ℤ → ℕ → List ℕ → List ℕ → List ℤ → ℕ → ℕ → Type 0
Got t rules names m row count k = IsExternal t rules m k → InRow row count (get_or names k 0)

pub in-row-keeps : (row row' : List ℤ) (n n' : ℕ) → ((x : ℤ) → x ∈ take n row → x ∈ take n' row') → (v : ℕ) → InRow row n v → InRow row' n' v
in-row-keeps row row' n n' f v i = (i.0, λ h. f (pos v) (i.1 h))

-- a head of the set
pub head-inside : (m : List ℕ) (v : ℕ) (hs : List ℤ) → 1 ≤ v → marked m v ≡ true → has (pos v) hs ≡ true → any (is_inside m) hs ≡ true
head-inside m v hs l e h =
    is_true (any-decides (λ x. passed (is_inside m x)) hs) (pos v, if-true (has-decides (pos v) hs) h, rw (lt-ltb 0 v l) e)

-- `gather_all`: no name yet
pub none-collected : (t : List ℤ) (rules : ℕ) (names m : List ℕ) (row : List ℤ) → length row ≡ row_words → Collected t rules names m row 0
none-collected t rules names m row e = record {
  is = record { long = e; within = omega arith; once = refl; good = λ x i. elim i [ ] };
  sound = λ x i. elim i [ ];
}

-- an atom of the set is marked
pub atom-marked : (m : List ℕ) (atoms : List ℤ) → Marks m (map variable atoms) → (x : ℤ) → x ∈ atoms → variable x ≤ largest → marked m (variable x) ≡ true
atom-marked m atoms M x i h =
    M.has (variable x) h ∙ is_true (any-decides (eqb-decides (variable x)) (map variable atoms)) (variable x, Memᴰ.map variable i, refl)

-- an external rule has a head that is one of the atoms
pub external-head : (t : List ℤ) (rules : ℕ) (m : List ℕ) (atoms : List ℤ) → sound_rules rules t ≡ true → Marks m (map variable atoms)
    → (k : ℕ) → IsExternal t rules m k → (j : ℕ) × (j < length atoms) × HasHead t rules (variable (get_or atoms j (pos 0))) k
external-head t rules m atoms s M k X =
    let q = if-true (any-decides (λ x. passed (is_inside m x)) (heads_at (words_from k t))) X.1 in
    let g = heads-high (words_from k t) (rule-here t rules s k X.0).1 q.0 q.1 in
    let l : listed (map variable atoms) (variable q.0) ≡ true = sym (M.has (variable q.0) g.1) ∙ and_right (lt_z (pos 0) q.0) _ q.2 in
    let r = if-true (any-decides (eqb-decides (variable q.0)) (map variable atoms)) l in
    let o = Memᴰ.of_map variable atoms r.1 in
    let j = place-of (pos 0) o.1 in
    let e : q.0 ≡ pos (variable (get_or atoms j.0 (pos 0))) = g.0 ∙ ap pos (r.2 ∙ sym o.2 ∙ ap variable (sym j.2)) in
    (j.0, j.1, (X.0, is_true (has-decides _ (heads_at (words_from k t))) (subst (λ z. z ∈ heads_at (words_from k t)) e q.1)))

-- The names that are asked for, by rule

module _ (t : List ℤ) (n : ℕ) {names : List ℕ} {bodies : List ℤ} {called : List ℤ → ℕ} (s : sound_rules n t ≡ true) (p : all_plain (rules_at n t) ≡ true)
    (K : Kept names bodies called (rules_at n t)) (m : List ℕ) where
  abbrev Asked : List ℕ
  Asked = asked_names External m called (expand (rules_at n t))

  pub asked-decides : (v : ℕ) → Decides (listed Asked v) ((k : ℕ) × IsExternal t n m k × (get_or names k 0 ≡ v))
  asked-decides v = reworded to from (any-decides (eqb-decides v) Asked)
    where
      to : (x : ℕ) × (x ∈ Asked) × (v ≡ x) → (k : ℕ) × IsExternal t n m k × (get_or names k 0 ≡ v)
      to q =
          let r = Memᴰ.of_map (λ (x : Rule). called x.body) (filter (asks External m) (expand (rules_at n t))) q.1 in
          let f = keep→ (asks External m) (expand (rules_at n t)) r.1 in
          let k = in-rules→ n t p r.0 f.0 in
          let e = (passed (asks External m r.0)).to f.1 in
          let a = and_left (any (is_inside m) r.0.heads) _ e in
          let b = failed (any (is_inside m) r.0.body) ((passed _).from (and_right (any (is_inside m) r.0.heads) _ e)) in (
            k.0,
            (k.1, subst (λ (x : Rule). any (is_inside m) x.heads ≡ true) k.2 a, subst (λ (x : Rule). any (is_inside m) x.body ≡ false) k.2 b),
            kept_at t n s p K k.0 k.1 ∙ ap (λ (x : Rule). called x.body) (sym k.2) ∙ r.2 ∙ sym q.2,
          )

      from : (k : ℕ) × IsExternal t n m k × (get_or names k 0 ≡ v) → (x : ℕ) × (x ∈ Asked) × (v ≡ x)
      from q =
          let X = q.1 in
          (v, Memᴰ.cast (sym (kept-name q)) (Memᴰ.map (λ (x : Rule). called x.body) (keep← (asks External m) (in-rules← n t p q.0 X.0) (rw (X.1, X.2) tt))), refl)
        where
          kept-name : (q : (k : ℕ) × IsExternal t n m k × (get_or names k 0 ≡ v)) → called (body_words_at (words_from q.0 t)) ≡ v
          kept-name q = sym (kept_at t n s p K q.0 q.1.0) ∙ q.2

  -- some body has no name
  pub none_named : (k : ℕ) × IsExternal t n m k × (get_or names k 0 ≡ 0) → listed Asked 0 ≡ true
  none_named = is_true (asked-decides 0)

  -- all names, put in order
  pub all_told : {before row : List ℤ} (after : List ℤ) {r : ℕ} → Gathered t n names m (λ k. k < n) before 0 row r → take r after ≡ ascending (take r row)
      → Externals Asked after (Some r)
  all_told {row = row} after {r = r} G e = rw e (
    C.is.within,
    rising-ascending (take r row) ∙ C.is.once,
    (λ x i. C.is.good x (ascending→ (take r row) i)),
    (λ v l. same_test (any-decides (λ x. eqb-decides v (variable x)) (ascending (take r row))) (asked-decides v)
        (λ q. let k = C.sound q.0 (ascending→ (take r row) q.1) in (k.0, k.1, k.2 ∙ sym q.2))
        (λ q. let i = G.all q.0 q.1.0 q.1 in
        (pos v, ascending← (take r row) (subst (λ u. pos u ∈ take r row) q.2 (i.1 (omega (arith, q.2, l)))), refl))),
    failed _ ((not-decides (asked-decides 0)).from (λ q. omega (arith, (G.all q.0 q.1.0 q.1).0, q.2))),
  )
    where
      C : Collected t n names m row r
      C = G.collected
