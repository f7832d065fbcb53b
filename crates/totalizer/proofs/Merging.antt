-- One turn of merging: what `further` comes to from two places of a list of sums on. Assumes nothing.
use mathlib.Core.Path.{◌≡◌, refl, sym, ap, ◌∙◌}
use mathlib.Core.Bool.{Bool, true, false, cond}
use mathlib.Core.List.Memᴰ
use mathlib.Core.List.{List, [], ◌∷◌, ◌++◌, append_assoc, append-nil}
use mathlib.Core.Logic.{inl, inr}
use Prim.Native.Nat.{ℕ, zero, suc, ◌+◌, ◌*◌, ◌-◌, ◌≤◌, ◌<◌, min}
use native.Mathlib.Numerals.{add-one}
use native.Mathlib.Omega.{arith}
use borrow.Author.Tests.{le-ltb, ltb-true, ltb-false, eq-eqb, ne_eqb, eqb-true, eqb-false}
use lib.Dec.{ltb, eqb}
use lib.ListN.{length, take, drop, get_or, set, length-append, length-drop, length-set, drop_of_length-le, get_or-eq_default}
use lib.Seq.{drop-cons, drop-drop, take-suc-set, length-take-le}
use Rattle.words.specs.Lists.{◌∈◌}
use Rattle.words.proofs.Lists.{by-test, one_less}
use Rattle.words.proofs.Places.{in-at}
use Rattle.sums.specs.Levels.{Ascending, merge, raised, further}
use Rattle.sums.proofs.Attained.{further-ascends, further-of, raised_of, raised-short}
use Rattle.totalizer.specs.Lists.{SumsUpTo, head_or}

-- Lists of sums

-- none is above b
abbrev Low : ℕ → List ℕ → Type 0
Low b us = (u : ℕ) → u ∈ us → u ≤ b

-- so there are no more than b + 1
few-ascending : (low b : ℕ) (us : List ℕ) → Ascending low us → Low b us → low ≤ suc b → length us + low ≤ suc b
few-ascending low b [] a h k = omega arith
few-ascending low b (u ∷ us) a h k =
    let m = h u (Memᴰ.head refl) in
    let r = few-ascending (suc u) b us a.1 (λ v i. h v (Memᴰ.tail i)) (omega arith) in
    let l = a.0 in
    omega arith

pub few-sums : {b : ℕ} {us : List ℕ} → SumsUpTo b us → length us ≤ suc b
few-sums {b} {us} s = let r = few-ascending 0 b us s.ascend s.low (omega arith) in omega arith

pub further-up-to : {b : ℕ} (w : ℕ) {us : List ℕ} → SumsUpTo b us → SumsUpTo b (further b w us)
further-up-to {b} w {us} s = record {
  ascend = further-ascends b w us s.ascend;
  low = λ u i. elim (further-of b w us i) [ inl j ↦ s.low u j | inr j ↦ let e = j.2 in omega arith ];
}

-- a place that is there
pub at-any : (d e : ℕ) (us : List ℕ) (i : ℕ) → i < length us → get_or us i d ≡ get_or us i e
at-any d e [] i h = absurd (omega arith)
at-any d e (u ∷ us) zero h = refl
at-any d e (u ∷ us) (suc i) h = at-any d e us i (omega arith)

pub head-drop : (past : ℕ) (us : List ℕ) (i : ℕ) → get_or us i past ≡ head_or past (drop i us)
head-drop past [] zero = refl
head-drop past [] (suc i) = refl
head-drop past (u ∷ us) zero = refl
head-drop past (u ∷ us) (suc i) = head-drop past us i

-- One number

-- what is left where the first was taken, or not
abbrev Left : Bool → List ℕ → List ℕ
Left t us = cond t (drop 1 us) us

merge_none : (n : ℕ) (vs : List ℕ) → length vs ≤ n → merge n [] vs ≡ vs
unfolding merge
merge_none zero [] h = refl
merge_none zero (v ∷ vs) h = absurd (omega arith)
merge_none (suc n) vs h = refl

merge-done : (n : ℕ) (us : List ℕ) → length us ≤ n → merge n us [] ≡ us
unfolding merge
merge-done zero [] h = refl
merge-done zero (u ∷ us) h = absurd (omega arith)
merge-done (suc n) [] h = refl
merge-done (suc n) (u ∷ us) h = refl

module _ (b : ℕ) where
  -- the smaller of the two first numbers, and what is left of both
  merge-one : (n : ℕ) (us vs : List ℕ) → Low b us → Low b vs → 0 < length us + length vs → length us + length vs ≤ suc n
      → (let x = min (head_or (suc b) us) (head_or (suc b) vs) in
      merge (suc n) us vs ≡ x ∷ merge n (Left (eqb (head_or (suc b) us) x) us) (Left (eqb (head_or (suc b) vs) x) vs))
  unfolding merge
  merge-one n [] [] k l p h = absurd (omega arith)
  merge-one n [] (v ∷ vs) k l p h =
      let m = l v (Memᴰ.head refl) in
      let x : min (suc b) v ≡ v = omega arith in
      rw (x, ne_eqb (suc b) v (λ e. omega arith), eq-eqb v v refl) (ap (λ (t : List ℕ). v ∷ t) (sym (merge_none n vs (omega arith))))
  merge-one n (u ∷ us) [] k l p h =
      let m = k u (Memᴰ.head refl) in
      let x : min u (suc b) ≡ u = omega arith in
      rw (x, ne_eqb (suc b) u (λ e. omega arith), eq-eqb u u refl) (ap (λ (t : List ℕ). u ∷ t) (sym (merge-done n us (omega arith))))
  merge-one n (u ∷ us) (v ∷ vs) k l p h = by (ltb u v) (ltb v u) refl refl
    where
      x : ℕ
      x = min u v

      by : (s t : Bool) → ltb u v ≡ s → ltb v u ≡ t
          → cond s (u ∷ merge n us (v ∷ vs)) (cond t (v ∷ merge n (u ∷ us) vs) (u ∷ merge n us vs))
          ≡ x ∷ merge n (Left (eqb u x) (u ∷ us)) (Left (eqb v x) (v ∷ vs))
      by true t e f =
          let m = ltb-true u v e in
          let y : min u v ≡ u = omega arith in
          rw (y, eq-eqb u u refl, ne_eqb v u (λ e. omega arith))
      by false true e f =
          let m = ltb-true v u f in
          let y : min u v ≡ v = omega arith in
          rw (y, eq-eqb v v refl, ne_eqb u v (λ e. omega arith))
      by false false e f =
          let m = ltb-false u v e in
          let o = ltb-false v u f in
          let y : min u v ≡ u = omega arith in
          let z : v ≡ u = omega arith in
          rw (y, z, eq-eqb u u refl)

  -- the raised numbers from a place on
  module _ (w : ℕ) (us : List ℕ) where
    -- where the next one stands
    abbrev next_raised : ℕ → ℕ
    next_raised j = cond (ltb (head_or (suc b) (raised b w (drop j us))) b) (j + 1) (length us)

    pub raised-none : (j : ℕ) → length us ≤ j → raised b w (drop j us) ≡ []
    unfolding raised
    raised-none j h = rw (drop_of_length-le us {i = j} h)

    pub raised-first : (j : ℕ) → j < length us → head_or (suc b) (raised b w (drop j us)) ≡ min b (get_or us j 0 + w)
    unfolding raised
    raised-first j h =
        let u = get_or us j 0 in
        rw (drop-cons us j 0 h)
        (by-test (λ l. head_or (suc b) l ≡ min b (u + w)) (ltb (u + w) b)
        (λ e. let m = ltb-true (u + w) b e in omega arith) (λ e. let m = ltb-false (u + w) b e in omega arith))

    raised-on : (j : ℕ) → j < length us → drop 1 (raised b w (drop j us)) ≡ raised b w (drop (next_raised j) us)
    unfolding raised
    raised-on j h = rw (drop-cons us j 0 h) (by (ltb (get_or us j 0 + w) b) refl)
      where
        u : ℕ
        u = get_or us j 0

        by : (t : Bool) → ltb (u + w) b ≡ t
            → drop 1 (cond t ((u + w) ∷ raised b w (drop (suc j) us)) (b ∷ []))
            ≡ raised b w (drop (cond (ltb (head_or (suc b) (cond t ((u + w) ∷ raised b w (drop (suc j) us)) (b ∷ []))) b) (j + 1) (length us)) us)
        by true e = let f : j + 1 ≡ suc j = omega arith in rw (e, f)
        by false e = rw (le-ltb b b (omega arith)) (sym (raised-none (length us) (omega arith)))

    raised-low : (j : ℕ) → Low b (raised b w (drop j us))
    raised-low j u i = let r = raised_of b w (drop j us) i in let e = r.2 in omega arith

low-drop : (b : ℕ) (us : List ℕ) (i : ℕ) → Low b us → Low b (drop i us)
low-drop b us zero h = h
low-drop b [] (suc i) h = h
low-drop b (u ∷ us) (suc i) h = low-drop b us i (λ v j. h v (Memᴰ.tail j))

some_left : (b : ℕ) (us : List ℕ) → head_or (suc b) us ≤ b → 0 < length us
some_left b [] h = absurd (omega arith)
some_left b (u ∷ us) h = omega arith

-- one number more at the end of what is written
pub one_written : (to : List ℕ) (k x : ℕ) (rest : List ℕ) → k < length to → take (k + 1) (set to k x) ++ rest ≡ take k to ++ (x ∷ rest)
one_written to k x rest h =
    let e : take (k + 1) (set to k x) ≡ take k to ++ (x ∷ []) = rw add-one (take-suc-set to k x h) in
    ap (λ (l : List ℕ). l ++ rest) e ∙ append_assoc (take k to) (x ∷ []) rest

-- Where the loop stands

pub record Standing (b w : ℕ) (us to₀ to : List ℕ) (i j k : ℕ) : Type 0 where
  pub in_left : i ≤ length us
  pub in_right : j ≤ length us
  pub turns : ℕ
  pub enough : length us - i + (length us - j) ≤ turns
  pub whole : further b w us ≡ take k to ++ merge turns (drop i us) (raised b w (drop j us))
  pub long : length to ≡ length to₀
  pub within : k ≤ length to

pub stands-start : (b w : ℕ) (us to : List ℕ) → Standing b w us to to 0 0 0
unfolding further
stands-start b w us to = record {
  in_left = omega arith;
  in_right = omega arith;
  turns = length us + length us;
  enough = omega arith;
  whole = refl;
  long = refl;
  within = omega arith;
}

module _ {b w : ℕ} {us to₀ to : List ℕ} {i j k : ℕ} (g : SumsUpTo b us) (room : suc b ≤ length to₀) (S : Standing b w us to₀ to i j k)
    (more : i + j < 2 * length us) where
  abbrev pub first : ℕ
  first = get_or us i (suc b)

  abbrev pub second : ℕ
  second = head_or (suc b) (raised b w (drop j us))

  abbrev pub least : ℕ
  least = min first second

  first-low : i < length us → first ≤ b
  first-low h = g.low first (in-at (suc b) us i h)

  first_past : length us ≤ i → first ≡ suc b
  first_past h = get_or-eq_default us (suc b) h

  second-low : j < length us → second ≤ b
  second-low h = let e = raised-first b w us j h in omega arith

  second_past : length us ≤ j → second ≡ suc b
  second_past h = ap (head_or (suc b)) (raised-none b w us j h)

  -- one of the two is a sum
  least-low : least ≤ b
  least-low = by (ltb i (length us)) refl
    where
      by : (t : Bool) → ltb i (length us) ≡ t → least ≤ b
      by true e = let h = first-low (ltb-true i (length us) e) in omega arith
      by false e = let h = ltb-false i (length us) e in let l = second-low (let m = S.in_left in omega arith) in omega arith

  taken-left : eqb first least ≡ true → i < length us
  taken-left e = by (ltb i (length us)) refl
    where
      by : (t : Bool) → ltb i (length us) ≡ t → i < length us
      by true f = ltb-true i (length us) f
      by false f =
          let h = first_past (ltb-false i (length us) f) in
          let m = least-low in
          absurd (let q = eqb-true first least e in omega arith)

  taken-right : eqb second least ≡ true → j < length us
  taken-right e = by (ltb j (length us)) refl
    where
      by : (t : Bool) → ltb j (length us) ≡ t → j < length us
      by true f = ltb-true j (length us) f
      by false f =
          let h = second_past (ltb-false j (length us) f) in
          let m = least-low in
          absurd (let q = eqb-true second least e in omega arith)

  -- the places after it
  abbrev pub next_left : ℕ
  next_left = cond (eqb first least) (i + 1) i

  abbrev pub next_right : ℕ
  next_right = cond (eqb second least) (cond (ltb second b) (j + 1) (length us)) j

  left_is : Left (eqb (head_or (suc b) (drop i us)) (min (head_or (suc b) (drop i us)) second)) (drop i us) ≡ drop next_left us
  left_is = rw (sym (head-drop (suc b) us i)) (by (eqb first least))
    where
      by : (t : Bool) → Left t (drop i us) ≡ drop (cond t (i + 1) i) us
      by true = drop-drop 1 i us
      by false = refl

  right_is : Left (eqb second least) (raised b w (drop j us)) ≡ raised b w (drop next_right us)
  right_is = by (eqb second least) refl
    where
      by : (t : Bool) → eqb second least ≡ t → Left t (raised b w (drop j us)) ≡ raised b w (drop (cond t (cond (ltb second b) (j + 1) (length us)) j) us)
      by true e = raised-on b w us j (taken-right e)
      by false e = refl

  rest-turns : ℕ
  rest-turns = S.turns - 1

  turns-is : S.turns ≡ suc rest-turns
  unfolding rest-turns
  turns-is = one_less S.turns (let e = S.enough in let l = S.in_left in let r = S.in_right in omega arith)

  -- what is left has the least first
  left_over : merge S.turns (drop i us) (raised b w (drop j us)) ≡ least ∷ merge rest-turns (drop next_left us) (raised b w (drop next_right us))
  left_over =
      ap (λ n. merge n (drop i us) (raised b w (drop j us))) turns-is
      ∙ merge-one b rest-turns (drop i us) (raised b w (drop j us)) (low-drop b us i g.low) (raised-low b w us j) some few
      ∙ rw (left_is, ← head-drop (suc b) us i, right_is)
    where
      some : 0 < length (drop i us) + length (raised b w (drop j us))
      some = by (ltb i (length us)) refl
        where
          by : (t : Bool) → ltb i (length us) ≡ t → 0 < length (drop i us) + length (raised b w (drop j us))
          by true e = let h = ltb-true i (length us) e in let d = length-drop i us in omega arith
          by false e =
              let h = ltb-false i (length us) e in
              let m = S.in_left in
              let l = some_left b (raised b w (drop j us)) (second-low (omega arith)) in
              omega arith

      few : length (drop i us) + length (raised b w (drop j us)) ≤ suc rest-turns
      few =
          let d = length-drop i us in
          let f = length-drop j us in
          let r = raised-short b w (drop j us) in
          let e = S.enough in
          let t = turns-is in
          omega arith

  pub place : (k ≤ b) × (k < length to)
  place =
      let u = few-sums (further-up-to w g) in
      let e = ap length S.whole in
      let a = length-append (take k to) (merge S.turns (drop i us) (raised b w (drop j us))) in
      let t = length-take-le k to S.within in
      let m = ap length left_over in
      let l = S.long in
      (omega arith, omega arith)

  left-moves : (i ≤ next_left) × (next_left ≤ length us)
  left-moves =
      by-test (λ n. (i ≤ n) × (n ≤ length us)) (eqb first least) (λ e. let h = taken-left e in (omega arith, omega arith)) (λ e. (omega arith, S.in_left))

  abbrev pub after_right : ℕ
  after_right = cond (ltb second b) (j + 1) (length us)

  after-moves : j < length us → (j < after_right) × (after_right ≤ length us)
  after-moves h = by-test (λ n. (j < n) × (n ≤ length us)) (ltb second b) (λ e. (omega arith, omega arith)) (λ e. (omega arith, omega arith))

  right-moves : (j ≤ next_right) × (next_right ≤ length us)
  right-moves =
      by-test (λ n. (j ≤ n) × (n ≤ length us)) (eqb second least)
      (λ e. let h = after-moves (taken-right e) in (omega (arith, h), h.1)) (λ e. (omega arith, S.in_right))

  pub forward : i + j < next_left + next_right
  forward = by (eqb first least) refl
    where
      by : (t : Bool) → eqb first least ≡ t → i + j < next_left + next_right
      by true e = let n : next_left ≡ i + 1 = rw e in let r = right-moves in omega (arith, n, r)
      by false e =
          let q = eqb-false first least e in
          let f : eqb second least ≡ true = eq-eqb second least (omega (arith, q)) in
          let n : next_right ≡ after_right = rw f in
          let h = after-moves (taken-right f) in
          omega (arith, n, h, left-moves)

  pub stands_on : Standing b w us to₀ (set to k least) next_left next_right (k + 1)
  stands_on = record {
    in_left = left-moves.1;
    in_right = right-moves.1;
    turns = rest-turns;
    enough = omega (arith, forward, S.enough, turns-is, left-moves, right-moves, S.in_left, S.in_right);
    whole = S.whole ∙ ap (λ (l : List ℕ). take k to ++ l) left_over ∙ sym (one_written to k least _ place.1);
    long = length-set to k least ∙ S.long;
    within = let p = place.1 in let l = length-set to k least in omega arith;
  }

  -- the turn as the code takes it
  pub stepped : {u v x next after other : ℕ} → u ≡ get_or us i (b + 1) → v ≡ second → x ≡ min u v → next ≡ cond (eqb u x) (i + 1) i
      → after ≡ cond (ltb v b) (j + 1) (length us) → other ≡ cond (eqb v x) after j
      → Standing b w us to₀ (set to k x) next other (k + 1) × (i + j < next + other)
  stepped eu ev ex en ea eo = let e : b + 1 ≡ suc b = omega arith in rw (eo, ea, en, ex, ev, eu, e) (stands_on, forward)

-- after the last turn all is written
pub stands-whole : {b w : ℕ} {us to₀ to : List ℕ} {i j k : ℕ} → Standing b w us to₀ to i j k → 2 * length us ≤ i + j → take k to ≡ further b w us
unfolding raised
stands-whole {b} {w} {us} {to = to} {i = i} {j = j} {k = k} S h =
    let l = S.in_left in
    let r = S.in_right in
    let d = drop_of_length-le us {i = i} (omega arith) in
    let e = drop_of_length-le us {i = j} (omega arith) in
    sym (S.whole ∙ rw (d, e, merge-done S.turns [] (omega arith), append-nil (take k to)))
