-- What is stored beside the state: its literals are the live nogoods, and its origins rise from 1 to the steps done.
-- Assumes nothing.
use mathlib.Core.Path.{◌≡◌, refl, sym, ◌∙◌, ap, subst}
use mathlib.Core.Logic.{◌⊎◌, inl, inr}
use mathlib.Core.Bool.{Bool, true, false, cond}
use mathlib.Core.List.Memᴰ
use mathlib.Core.List.{List, [], ◌∷◌, ◌++◌}
use Prim.Native.Nat.{ℕ, ◌+◌, ◌≤◌}
use native.Mathlib.Omega.{arith}
use lib.Dec.{leb}
use lib.IntN.{ℤ}
use lib.ListN.{length, drop}
use Rattle.words.proofs.Lists.{zero_one}
use Rattle.words.specs.Lists.{◌∈◌}
use Rattle.words.specs.Literals.{ascending}
use Rattle.text.specs.declared.Letter.{Letter}
use Rattle.text.specs.declared.Letter.TheVariants.{Addition, Body, Completion, Deletion, Extension, Loop, Support}
use Rattle.aspif.specs.Rules.{Rule, expand, atoms}
use Rattle.drupe.specs.Texts.{Step, StepsRead, steps, refused, steps_within}
use Rattle.derivation.specs.States.{State, start}
use Rattle.derivation.specs.Steps.{next, step}
use Rattle.nogoods.specs.Store.{Stored, record_of, added_in, closed, live, killed, is_target, words_of, store_words}
use Rattle.nogoods.proofs.Live.{live-nil, by_answer}
use Rattle.nogoods.proofs.Live.{closed-nil, closed-cons, closed-past, closed-from, killed-nil, killed-here, killed-on}
use Rattle.steps.specs.After.{new_in, with_added, stored_after}
use Rattle.runs.specs.Course.{Course, stopped, through, then_stopped, run_steps, run_read, course_within}
use Rattle.checker.specs.Check.{saying, judged, check_within, Checked}
use Rattle.checker.specs.Claims.{LiveStored, Bounded, OriginsBounded, Rising, OriginsRise, OriginsService}
use Rattle.checker.specs.declared.Counts.{Counts}
use Rattle.checker.specs.declared.Verdict.TheVariants.{Inconsistent, Open}
use Rattle.runs.proofs.Lines.{stored_next}
use Rattle.checker.proofs.Whole.{run-first, said, ended-course}
use Rattle.runs.proofs.Live.{step-live}
use Rattle.drupe.specs.declared.ProofFault.{ProofFault}

-- All steps

-- what every step keeps holds after all of them
module _ (N : ℕ) (P : List Rule) (size : ℕ) (I : ℕ → State → List Stored → Type 0)
    (keeps : (n : ℕ) (z : State) (b : List Stored) (t : Step) (z' : State) → I n z b → step N P z t ≡ next z'
    → I (n + 1) z' (stored_next size n b t z')) where
  run-keeps : (n m : ℕ) (z w : State) (b l : List Stored) (ts : List Step) → I n z b
      → run_steps N P size n z b ts ≡ through m w l → I m w l
  run-keeps n m z w b l [] i e =
      let p : n ≡ m = cc in
      let q : z ≡ w = cc in
      let r : b ≡ l = cc in
      rw (p, q, r) at i
  run-keeps n m z w b l (t ∷ ts) i e =
      let r = run-first N P size n m z w b l t ts e in
      let b' = stored_next size n b t r.left in
      run-keeps (n + 1) m r.left w b' l ts (keeps n z b t r.left i r.is) r.later

pub live-stored : LiveStored
live-stored N P size ts n z stored e =
    run-keeps N P size (λ m w b. live b ≡ w.live) (λ m w b t w' i s. step-live N P (m + 1) size w b i t w' s)
    0 n start z [] stored ts live-nil e

-- also after the steps of a text
pub course-live : (limit N : ℕ) (P : List Rule) (size : ℕ) (text : List ℕ) {n : ℕ} {z : State} {stored : List Stored}
    → course_within limit N P size text ≡ through n z stored → live stored ≡ z.live
unfolding course_within
course-live limit N P size text {n} {z} {stored} e = by (steps_within limit text) e
  where
    unread : (k : ProofFault) (m : ℕ) (c : Course) → then_stopped k m c ≡ through n z stored → live stored ≡ z.live
    unread k m (stopped j i) e = absurd (zero_one (cc))
    unread k m (through i w b) e = absurd (zero_one (cc))

    by : (r : StepsRead) → run_read N P size 0 start [] r ≡ through n z stored → live stored ≡ z.live
    by (steps ts) e = live-stored N P size ts n z stored e
    by (refused ts k m) e = unread k m (run_steps N P size 0 start [] ts) e

-- Origins

-- what rises goes on with a number that is no less
rising-on : (m k : ℕ) (gs : List (List ℤ)) → m ≤ k → Rising m (added_in k gs)
rising-on m k [] h = tt
rising-on m k (g ∷ gs) h = (h, rising-on k k gs (omega arith))

rising-append : (m k : ℕ) (b : List Stored) (gs : List (List ℤ)) → m ≤ k → Rising m b → ((e : Stored) → e ∈ b → e.origin ≤ k)
    → Rising m (b ++ added_in k gs)
rising-append m k [] gs h r u = rising-on m k gs h
rising-append m k (e ∷ b) gs h r u =
    (r.0, rising-append e.origin k b gs (u e (Memᴰ.head refl)) r.1 (λ x i. u x (Memᴰ.tail i)))

rising-weaker : (m k : ℕ) (b : List Stored) → m ≤ k → Rising k b → Rising m b
rising-weaker m k [] h r = tt
rising-weaker m k (e ∷ b) h r = (omega (arith, r.0), r.1)

rising-closed : (m : ℕ) (b : List Stored) → Rising m b → Rising m (closed b)
rising-closed m [] r = rw closed-nil tt
rising-closed m (e ∷ b) r =
    by_answer e.dead
    (λ d. rw (closed-past e b d) (rising-closed m b (rising-weaker m e.origin b r.0 r.1)))
    (λ a. rw (closed-cons e b a) (r.0, rising-closed e.origin b r.1))

rising-killed : (L : List ℤ) (m : ℕ) (b : List Stored) → Rising m b → Rising m (killed L b)
rising-killed L m [] r = rw (killed-nil L) tt
rising-killed L m (e ∷ b) r =
    by_answer (is_target L e) (λ q. rw (killed-here L e b q) r) (λ q. rw (killed-on L e b q) (r.0, rising-killed L e.origin b r.1))

-- a nogood that is dead now has the origin that it had
killed-from : (L : List ℤ) (b : List Stored) (e : Stored) → e ∈ killed L b → (x : Stored) × (x ∈ b) × (x.origin ≡ e.origin)
killed-from L [] e u = absurd (elim (rw (killed-nil L) at u) [ ])
killed-from L (x ∷ b) e u =
    by_answer (is_target L x)
    (λ q. elim (Memᴰ.cases_cons (rw (killed-here L x b q) at u)) [
      | inl p ↦ (x, Memᴰ.head refl, sym (ap (λ (s : Stored). s.origin) p))
      | inr v ↦ (e, Memᴰ.tail v, refl)
    ])
    (λ q. elim (Memᴰ.cases_cons (rw (killed-on L x b q) at u)) [
      | inl p ↦ (x, Memᴰ.head refl, sym (ap (λ (s : Stored). s.origin) p))
      | inr v ↦ let r = killed-from L b e v in (r.0, Memᴰ.tail r.1, r.2)
    ])

-- of the origins after n steps
record Origins (n : ℕ) (b : List Stored) : Type 0 where
  bounded : Bounded n b
  rising : Rising 1 b

module _ (n : ℕ) (b : List Stored) (o : Origins n b) where
  origins-added : (gs : List (List ℤ)) → Origins (n + 1) (b ++ added_in (n + 1) gs)
  origins-added gs = record {
    bounded = λ e i. elim (Memᴰ.append_cases b i) [
      | inl u ↦ ((o.bounded e u).0, omega (arith, (o.bounded e u).1))
      | inr u ↦ let r = Memᴰ.of_map (record_of (n + 1)) gs u in rw (← r.2) (omega arith, omega arith)
    ];
    rising = rising-append 1 (n + 1) b gs (omega arith) o.rising (λ e u. omega (arith, (o.bounded e u).1));
  }

  origins-closed : Origins n (closed b)
  origins-closed = record { bounded = λ e i. o.bounded e (closed-from b i).0; rising = rising-closed 1 b o.rising }

  origins-killed : (L : List ℤ) → Origins (n + 1) (killed L b)
  origins-killed L = record {
    bounded = λ e i. let r = killed-from L b e i in let u = o.bounded r.0 r.1 in rw (← r.2) (u.0, omega (arith, u.1));
    rising = rising-killed L 1 b o.rising;
  }

module _ (size n : ℕ) (b : List Stored) (o : Origins n b) where
  origins-with : (z : State) → Origins (n + 1) (with_added (n + 1) size b z)
  origins-with z = by (leb (length (words_of b) + length (words_of (new_in (n + 1) b z))) size)
    where
      gs : List (List ℤ)
      gs = drop (length (live b)) z.live

      by : (t : Bool) → Origins (n + 1) (cond t b (closed b) ++ new_in (n + 1) b z)
      by true = origins-added n b o gs
      by false = origins-added n (closed b) (origins-closed n b o) gs

  origins-after : (x : Letter) (zs : List ℤ) (z : State) → Origins (n + 1) (stored_after (n + 1) size x zs b z)
  origins-after Addition zs z = origins-with z
  origins-after Body zs z = origins-with z
  origins-after Completion zs z = origins-with z
  origins-after Deletion zs z = origins-killed n b o (ascending zs)
  origins-after Extension zs z = origins-with z
  origins-after Loop zs z = origins-with z
  origins-after Support zs z = origins-with z

origins : (N : ℕ) (P : List Rule) (size : ℕ) (ts : List Step) (n : ℕ) (z : State) (stored : List Stored)
    → run_steps N P size 0 start [] ts ≡ through n z stored → Origins n stored
origins N P size ts n z stored e =
    run-keeps N P size (λ m w b. Origins m b) (λ m w b t w' o s. origins-after size m b o t.letter t.numbers w')
    0 n start z [] stored ts (record { bounded = λ x i. elim i [ ]; rising = tt }) e

pub origins-bounded : OriginsBounded
origins-bounded N P size ts n z stored e = (origins N P size ts n z stored e).bounded

pub origins-rise : OriginsRise
origins-rise N P size ts n z stored e = (origins N P size ts n z stored e).rising

-- the store that is left, where the steps went through
left : (limit : ℕ) (text proof : List ℕ) (t s : ℕ) (b : Bool) (c : Counts) → (check_within limit text proof t s).verdict ≡ saying b c
    → (stored : List Stored) × ((check_within limit text proof t s).store ≡ store_words s stored) × (length (live stored) ≡ c.nogoods)
    × Bounded c.steps stored × Rising 1 stored
unfolding check_within
left limit text proof t s b c e =
    let r = said limit text proof t s b c e in
    let ws = r.0 in
    let E = r.2 in
    let k = E.6 in
    let words : (check_within limit text proof t s).store ≡ store_words s E.2 =
    rw r.1 (ap (λ (o : Course). (judged t s ws o).store) (ended-course limit proof t s ws b c E)) in
    let same = live-stored (atoms ws) (expand ws) s E.0 (length E.0) E.1 E.2 E.4 in
    let o = origins (atoms ws) (expand ws) s E.0 (length E.0) E.1 E.2 E.4 in (
      E.2,
      words,
      ap length same ∙ sym (ap (λ (d : Counts). d.nogoods) k),
      subst (λ m. Bounded m E.2) (sym (ap (λ (d : Counts). d.steps) k)) o.bounded,
      o.rising,
    )

pub origins-service : OriginsService
origins-service limit text proof table store table' store' r e c v =
    let w = which v in
    let found = left limit text proof (length table) (length store) w.0 c (sym (ap (λ (x : Checked). x.verdict) e) ∙ w.1) in
    (found.0, ap (λ (x : Checked). x.store) e ∙ found.1, found.2, found.3, found.4)
  where
    which : (r ≡ Inconsistent c) ⊎ (r ≡ Open c) → (b : Bool) × (r ≡ saying b c)
    which (inl p) = (true, p)
    which (inr p) = (false, p)
