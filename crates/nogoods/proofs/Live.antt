-- What is live of what is stored: the laws of `live`, of `closed` and of `killed`, and how many words the live nogoods take.
-- Assumes nothing.
use mathlib.Core.Path.{◌≡◌, refl, sym, ap, ap₂, ◌∙◌}
use mathlib.Core.Logic.{◌⊎◌, inl, inr}
use mathlib.Core.Bool.{Bool, true, false, cond, not, ◌&&◌}
use mathlib.Core.List.Memᴰ
use mathlib.Core.List.{List, [], ◌∷◌, ◌++◌}
use Prim.Native.Nat.{ℕ, ◌+◌, ◌≤◌}
use native.Mathlib.Omega.{arith}
use lib.Dec.{leb}
use lib.IntN.{ℤ}
use lib.ListN.{length, length-append}
use Rattle.words.specs.Lists.{◌∈◌, drop_first}
use Rattle.words.specs.Literals.{same_list}
use Rattle.nogoods.specs.Store.{Stored, record_of, added_in, closed, live, dead_of, is_target, killed, kept_for, stored_words, record_size, words_of, words_for}

-- The first of what is stored

pub live-nil : live [] ≡ []
unfolding live
live-nil = refl

pub live-cons : (e : Stored) (stored : List Stored) → e.dead ≡ false → live (e ∷ stored) ≡ e.literals ∷ live stored
unfolding live
live-cons e stored h = rw h

pub live-past : (e : Stored) (stored : List Stored) → e.dead ≡ true → live (e ∷ stored) ≡ live stored
unfolding live
live-past e stored h = rw h

pub closed-nil : closed [] ≡ []
unfolding closed
closed-nil = refl

pub closed-cons : (e : Stored) (stored : List Stored) → e.dead ≡ false → closed (e ∷ stored) ≡ e ∷ closed stored
unfolding closed
closed-cons e stored h = rw h

pub closed-past : (e : Stored) (stored : List Stored) → e.dead ≡ true → closed (e ∷ stored) ≡ closed stored
unfolding closed
closed-past e stored h = rw h

-- by what a test answers
pub by_answer : {A : Type 0} (b : Bool) → (b ≡ true → A) → (b ≡ false → A) → A
by_answer true f g = f refl
by_answer false f g = g refl

-- One list after another

pub live-append : (a b : List Stored) → live (a ++ b) ≡ live a ++ live b
live-append [] b = sym (ap (λ (l : List (List ℤ)). l ++ live b) live-nil)
live-append (e ∷ a) b =
    by_answer e.dead
    (λ h. live-past e (a ++ b) h ∙ live-append a b ∙ sym (ap (λ (l : List (List ℤ)). l ++ live b) (live-past e a h)))
    (λ h. live-cons e (a ++ b) h ∙ ap (λ l. e.literals ∷ l) (live-append a b) ∙ sym (ap (λ (l : List (List ℤ)). l ++ live b) (live-cons e a h)))

pub closed-append : (a b : List Stored) → closed (a ++ b) ≡ closed a ++ closed b
closed-append [] b = sym (ap (λ (l : List Stored). l ++ closed b) closed-nil)
closed-append (e ∷ a) b =
    by_answer e.dead
    (λ h. closed-past e (a ++ b) h ∙ closed-append a b ∙ sym (ap (λ (l : List Stored). l ++ closed b) (closed-past e a h)))
    (λ h. closed-cons e (a ++ b) h ∙ ap (λ l. e ∷ l) (closed-append a b) ∙ sym (ap (λ (l : List Stored). l ++ closed b) (closed-cons e a h)))

pub live-added : (n : ℕ) (gs : List (List ℤ)) → live (added_in n gs) ≡ gs
live-added n [] = live-nil
live-added n (g ∷ gs) = live-cons (record_of n g) (added_in n gs) refl ∙ ap (λ l. g ∷ l) (live-added n gs)

pub closed-added : (n : ℕ) (gs : List (List ℤ)) → closed (added_in n gs) ≡ added_in n gs
closed-added n [] = closed-nil
closed-added n (g ∷ gs) = closed-cons (record_of n g) (added_in n gs) refl ∙ ap (λ l. record_of n g ∷ l) (closed-added n gs)

-- What stands in them

pub closed-from : (stored : List Stored) {e : Stored} → e ∈ closed stored → (e ∈ stored) × (e.dead ≡ false)
closed-from [] u = absurd (elim (rw closed-nil at u) [ ])
closed-from (x ∷ stored) {e} u =
    by_answer x.dead
    (λ h. let r = closed-from stored (rw (closed-past x stored h) at u) in (Memᴰ.tail r.0, r.1))
    (λ h. elim (Memᴰ.cases_cons (rw (closed-cons x stored h) at u)) [
      | inl q ↦ (Memᴰ.head q, ap (λ (s : Stored). s.dead) q ∙ h)
      | inr v ↦ let r = closed-from stored v in (Memᴰ.tail r.0, r.1)
    ])

pub live-first : (e : Stored) (stored : List Stored) {g : List ℤ} → g ∈ live (e ∷ stored)
    → ((e.dead ≡ false) × (g ≡ e.literals)) ⊎ (g ∈ live stored)
live-first e stored u =
    by_answer e.dead
    (λ h. inr (rw (live-past e stored h) at u))
    (λ h. elim (Memᴰ.cases_cons (rw (live-cons e stored h) at u)) [ inl q ↦ inl (h, q) | inr v ↦ inr v ])

pub live-from : (stored : List Stored) {g : List ℤ} → g ∈ live stored → (e : Stored) × (e ∈ stored) × (e.literals ≡ g)
live-from [] u = absurd (elim (rw live-nil at u) [ ])
live-from (x ∷ stored) u = elim (live-first x stored u) [
  | inl q ↦ (x, Memᴰ.head refl, sym q.1)
  | inr v ↦ let r = live-from stored v in (r.0, Memᴰ.tail r.1, r.2)
]

pub live_in : (stored : List Stored) {e : Stored} → e.dead ≡ false → e ∈ stored → e.literals ∈ live stored
live_in [] a u = absurd (elim u [ ])
live_in (x ∷ stored) {e} a u = elim (Memᴰ.cases_cons u) [
  | inl q ↦ rw (live-cons x stored (ap (λ (s : Stored). s.dead) (sym q) ∙ a)) (Memᴰ.head (ap (λ (s : Stored). s.literals) q))
  | inr v ↦ by_answer x.dead
      (λ h. rw (live-past x stored h) (live_in stored a v))
      (λ h. rw (live-cons x stored h) (Memᴰ.tail (live_in stored a v)))
]

-- Closing up

pub closed-twice : (stored : List Stored) → closed (closed stored) ≡ closed stored
closed-twice [] = ap closed closed-nil
closed-twice (e ∷ stored) =
    by_answer e.dead
    (λ h. ap closed (closed-past e stored h) ∙ closed-twice stored ∙ sym (closed-past e stored h))
    (λ h. ap closed (closed-cons e stored h) ∙ closed-cons e (closed stored) h ∙ ap (λ l. e ∷ l) (closed-twice stored) ∙ sym (closed-cons e stored h))

pub live-closed : (stored : List Stored) → live (closed stored) ≡ live stored
live-closed [] = ap live closed-nil
live-closed (e ∷ stored) =
    by_answer e.dead
    (λ h. ap live (closed-past e stored h) ∙ live-closed stored ∙ sym (live-past e stored h))
    (λ h. ap live (closed-cons e stored h) ∙ live-cons e (closed stored) h ∙ ap (λ l. e.literals ∷ l) (live-closed stored) ∙ sym (live-cons e stored h))

-- what is kept for more words has all that is live
pub closed-kept : (size n : ℕ) (stored : List Stored) → closed (kept_for size n stored) ≡ closed stored
closed-kept size n stored = by (leb (length (words_of stored) + n) size)
  where
    by : (b : Bool) → closed (cond b stored (closed stored)) ≡ closed stored
    by true = refl
    by false = closed-twice stored

pub live-kept : (size n : ℕ) (stored : List Stored) → live (kept_for size n stored) ≡ live stored
live-kept size n stored =
    sym (live-closed (kept_for size n stored)) ∙ ap live (closed-kept size n stored) ∙ live-closed stored

-- Deleting

pub killed-nil : (L : List ℤ) → killed L [] ≡ []
unfolding killed
killed-nil L = refl

pub killed-here : (L : List ℤ) (e : Stored) (stored : List Stored) → is_target L e ≡ true → killed L (e ∷ stored) ≡ dead_of e ∷ stored
unfolding killed
killed-here L e stored h = rw h

pub killed-on : (L : List ℤ) (e : Stored) (stored : List Stored) → is_target L e ≡ false → killed L (e ∷ stored) ≡ e ∷ killed L stored
unfolding killed
killed-on L e stored h = rw h

-- what a test of a live one says
pub target-alive : (L : List ℤ) (e : Stored) → is_target L e ≡ true → (e.dead ≡ false) × (same_list e.literals L ≡ true)
target-alive L e h = by e.dead refl h
  where
    by : (b : Bool) → e.dead ≡ b → (not b && same_list e.literals L) ≡ true → (e.dead ≡ false) × (same_list e.literals L ≡ true)
    by true q h = absurd (let z : ◌≡◌ {A = ℕ} 0 1 = cc in omega arith)
    by false q h = (q, h)

drop_first-here : {A : Type 0} (f : A → Bool) (x : A) (l : List A) → f x ≡ true → drop_first f (x ∷ l) ≡ l
drop_first-here f x l h = rw h

drop_first-on : {A : Type 0} (f : A → Bool) (x : A) (l : List A) → f x ≡ false → drop_first f (x ∷ l) ≡ x ∷ drop_first f l
drop_first-on f x l h = rw h

-- of what is kept of a list when the oldest live one with the literals is dead: F is `live` or `closed`
module _ (L : List ℤ) where
  abbrev is_list : List ℤ → Bool
  is_list g = same_list g L

  abbrev of_list : Stored → Bool
  of_list e = same_list e.literals L

  alive-target : (e : Stored) → e.dead ≡ false → is_target L e ≡ of_list e
  alive-target e h = rw h

  dead-target : (e : Stored) → e.dead ≡ true → is_target L e ≡ false
  dead-target e h = rw h

  -- "Deletion still takes the oldest equal set", of those that are live
  pub live-killed : (stored : List Stored) → live (killed L stored) ≡ drop_first is_list (live stored)
  live-killed [] = ap live (killed-nil L) ∙ live-nil ∙ sym (ap (drop_first is_list) live-nil)
  live-killed (e ∷ stored) =
      by_answer e.dead
      (λ d. ap live (killed-on L e stored (dead-target e d)) ∙ live-past e (killed L stored) d ∙ live-killed stored
      ∙ sym (ap (drop_first is_list) (live-past e stored d)))
      (λ a. by_answer (of_list e)
      (λ t. ap live (killed-here L e stored (alive-target e a ∙ t)) ∙ live-past (dead_of e) stored refl
      ∙ sym (ap (drop_first is_list) (live-cons e stored a) ∙ drop_first-here is_list e.literals (live stored) t))
      (λ t. ap live (killed-on L e stored (alive-target e a ∙ t)) ∙ live-cons e (killed L stored) a ∙ ap (λ l. e.literals ∷ l) (live-killed stored)
      ∙ sym (ap (drop_first is_list) (live-cons e stored a) ∙ drop_first-on is_list e.literals (live stored) t)))

  -- and closing up then is taking it out
  pub closed-killed : (stored : List Stored) → closed (killed L stored) ≡ drop_first of_list (closed stored)
  closed-killed [] = ap closed (killed-nil L) ∙ closed-nil ∙ sym (ap (drop_first of_list) closed-nil)
  closed-killed (e ∷ stored) =
      by_answer e.dead
      (λ d. ap closed (killed-on L e stored (dead-target e d)) ∙ closed-past e (killed L stored) d ∙ closed-killed stored
      ∙ sym (ap (drop_first of_list) (closed-past e stored d)))
      (λ a. by_answer (of_list e)
      (λ t. ap closed (killed-here L e stored (alive-target e a ∙ t)) ∙ closed-past (dead_of e) stored refl
      ∙ sym (ap (drop_first of_list) (closed-cons e stored a) ∙ drop_first-here of_list e (closed stored) t))
      (λ t. ap closed (killed-on L e stored (alive-target e a ∙ t)) ∙ closed-cons e (killed L stored) a ∙ ap (λ l. e ∷ l) (closed-killed stored)
      ∙ sym (ap (drop_first of_list) (closed-cons e stored a) ∙ drop_first-on of_list e (closed stored) t)))

-- The words

pub stored-size : (e : Stored) → length (stored_words e) ≡ record_size e.literals
stored-size e = omega arith

-- after closing up the used words are the live ones
pub words-for : (stored : List Stored) → length (words_of (closed stored)) ≡ words_for (live stored)
words-for [] = ap (λ (l : List Stored). length (words_of l)) closed-nil ∙ sym (ap words_for live-nil)
words-for (e ∷ stored) =
    by_answer e.dead
    (λ h. ap (λ (l : List Stored). length (words_of l)) (closed-past e stored h) ∙ words-for stored ∙ sym (ap words_for (live-past e stored h)))
    (λ h. ap (λ (l : List Stored). length (words_of l)) (closed-cons e stored h) ∙ length-append (stored_words e) (words_of (closed stored))
    ∙ ap₂ (λ a b. a + b) (stored-size e) (words-for stored) ∙ sym (ap words_for (live-cons e stored h)))

-- the live words are among those that are used
pub live-few : (stored : List Stored) → words_for (live stored) ≤ length (words_of stored)
live-few [] = rw live-nil (omega arith)
live-few (e ∷ stored) =
    let n = length-append (stored_words e) (words_of stored) in
    by_answer e.dead (λ h. rw (live-past e stored h) (omega (arith, live-few stored, n)))
    (λ h. rw (live-cons e stored h) (omega (arith, live-few stored, n, stored-size e)))
