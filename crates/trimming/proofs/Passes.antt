-- What trimming leaves is accepted, in its old order, and minimal. Assumes nothing.
use mathlib.Core.Path.{◌≡◌, refl, sym, ◌∙◌, ap, subst}
use mathlib.Core.Bool.{Bool, true, false, cond, true≢false}
use mathlib.Core.List.{List, [], ◌∷◌, ◌++◌, append_assoc, head-eq_of_cons-eq, tail-eq_of_cons-eq, nil≢cons}
use Prim.Native.Nat.{ℕ, zero, suc, ◌≤◌}
use native.Mathlib.Omega.{arith}
use lib.Dec.{eqb}
use lib.ListN.{length}
use Rattle.words.proofs.Lists.{passed, eqb-decides, is_true}
use Rattle.weights.specs.Claims.{none, with_it, without}
use Rattle.weights.proofs.Sublists.{sublist-short, itself, through}
use Rattle.trimming.specs.Trims.{pass, passes, trimmed, Sublist}
use Rattle.trimming.specs.Claims.{TrimmedOrder, TrimmedMinimal, TrimmedAgain}

module _ {A : Type 0} (accepted : List A → Bool) where
  pass-accepted : (front ts : List A) → accepted (front ++ ts) ≡ true → accepted (front ++ pass accepted front ts) ≡ true
  unfolding pass
  pass-accepted front [] e = e
  pass-accepted front (t ∷ ts) e =
      go (accepted (front ++ rest)) refl (subst (λ (l : List A). accepted l ≡ true) (append_assoc front (t ∷ []) rest)
      (pass-accepted (front ++ (t ∷ [])) ts (subst (λ (l : List A). accepted l ≡ true) (sym (append_assoc front (t ∷ []) ts)) e)))
    where
      rest : List A
      rest = pass accepted (front ++ (t ∷ [])) ts

      go : (b : Bool) → accepted (front ++ rest) ≡ b → accepted (front ++ (t ∷ rest)) ≡ true → accepted (front ++ cond b rest (t ∷ rest)) ≡ true
      go true p q = p
      go false p q = q

  pub pass-order : (front ts : List A) → Sublist (pass accepted front ts) ts
  unfolding pass
  pass-order front [] = none
  pass-order front (t ∷ ts) = go (accepted (front ++ pass accepted (front ++ (t ∷ [])) ts)) (pass-order (front ++ (t ∷ [])) ts)
    where
      go : (b : Bool) {rest : List A} → Sublist rest ts → Sublist (cond b rest (t ∷ rest)) (t ∷ ts)
      go true a = without a
      go false a = with_it a

  -- a pass that removes nothing has tried every step in vain
  pub pass-whole : (front ts : List A) → length (pass accepted front ts) ≡ length ts → (pass accepted front ts ≡ ts) × ((a : List A) (t : A) (b : List A) → ts ≡ a ++ (t ∷ b) → accepted (front ++ (a ++ b)) ≡ false)
  unfolding pass
  pass-whole front [] e = (refl, λ a t b p. absurd (empty a t b p))
    where
      empty : (a : List A) (t : A) (b : List A) → [] ≡ a ++ (t ∷ b) → ⊥
      empty [] t b p = nil≢cons p
      empty (x ∷ a) t b p = nil≢cons p
  pass-whole front (t ∷ ts) e = go (accepted (front ++ rest)) refl e (λ h. pass-whole (front ++ (t ∷ [])) ts h)
    where
      rest : List A
      rest = pass accepted (front ++ (t ∷ [])) ts

      Tells : Bool → Type 0
      Tells b = (cond b rest (t ∷ rest) ≡ t ∷ ts) × ((a : List A) (u : A) (c : List A) → t ∷ ts ≡ a ++ (u ∷ c) → accepted (front ++ (a ++ c)) ≡ false)

      go : (b : Bool) → accepted (front ++ rest) ≡ b → length (cond b rest (t ∷ rest)) ≡ length (t ∷ ts)
          → (length rest ≡ length ts → (rest ≡ ts) × ((a : List A) (u : A) (c : List A) → ts ≡ a ++ (u ∷ c) → accepted ((front ++ (t ∷ [])) ++ (a ++ c)) ≡ false)) → Tells b
      go true p h below = absurd (omega (arith, h, sublist-short (pass-order (front ++ (t ∷ [])) ts)))
      go false p h below = let r = below (omega (arith, h)) in (ap (λ (l : List A). t ∷ l) r.0, single r.0 r.1)
        where
          single : rest ≡ ts → ((a : List A) (u : A) (c : List A) → ts ≡ a ++ (u ∷ c) → accepted ((front ++ (t ∷ [])) ++ (a ++ c)) ≡ false)
              → (a : List A) (u : A) (c : List A) → t ∷ ts ≡ a ++ (u ∷ c) → accepted (front ++ (a ++ c)) ≡ false
          single q f [] u c s = subst (λ (l : List A). accepted (front ++ l) ≡ false) (q ∙ tail-eq_of_cons-eq s) p
          single q f (x ∷ a) u c s =
              subst (λ (y : A). accepted (front ++ (y ∷ (a ++ c))) ≡ false) (head-eq_of_cons-eq s)
              (subst (λ (l : List A). accepted l ≡ false) (append_assoc front (t ∷ []) (a ++ c)) (f a u c (tail-eq_of_cons-eq s)))

  -- what passes leave is accepted, and a further pass removes nothing of it
  pub record Settled (ts : List A) : Type 0 where
    pub good : accepted ts ≡ true
    pub again : length (pass accepted [] ts) ≡ length ts

  pub passes-settle : (turns : ℕ) (ts : List A) → length ts ≤ turns → accepted ts ≡ true → Settled (passes accepted turns ts)
  unfolding passes pass
  passes-settle zero [] h e = record { good = e; again = refl }
  passes-settle zero (t ∷ ts) h e = absurd (omega (arith, h))
  passes-settle (suc turns) ts h e =
      go (eqb (length (pass accepted [] ts)) (length ts)) refl (λ k. passes-settle turns (pass accepted [] ts) k (pass-accepted [] ts e))
    where
      go : (b : Bool) → eqb (length (pass accepted [] ts)) (length ts) ≡ b
          → (length (pass accepted [] ts) ≤ turns → Settled (passes accepted turns (pass accepted [] ts)))
          → Settled (cond b ts (passes accepted turns (pass accepted [] ts)))
      go true p below = record { good = e; again = (eqb-decides _ _).to ((passed _).from p) }
      go false p below =
          let s = sublist-short (pass-order [] ts) in
          let d : ¬ (length (pass accepted [] ts) ≡ length ts) = λ q. true≢false (sym (is_true (eqb-decides _ _) q) ∙ p) in
          below (omega (arith, s, h, d))

  pub trimmed-settles : (ts : List A) → accepted ts ≡ true → Settled (trimmed accepted ts)
  trimmed-settles ts e = passes-settle (length ts) ts (omega arith) e

  passes-order : (turns : ℕ) (ts : List A) → Sublist (passes accepted turns ts) ts
  unfolding passes
  passes-order zero ts = itself ts
  passes-order (suc turns) ts = by (eqb (length (pass accepted [] ts)) (length ts)) (passes-order turns (pass accepted [] ts))
    where
      by : (b : Bool) → Sublist (passes accepted turns (pass accepted [] ts)) (pass accepted [] ts) → Sublist (cond b ts (passes accepted turns (pass accepted [] ts))) ts
      by true below = itself ts
      by false below = through below (pass-order [] ts)

  -- a settled list stays
  settled-stays : (turns : ℕ) (ts : List A) → Settled ts → passes accepted turns ts ≡ ts
  unfolding passes
  settled-stays zero ts S = refl
  settled-stays (suc turns) ts S = rw (is_true (eqb-decides (length (pass accepted [] ts)) (length ts)) S.again)

  pub trimmed-stays : (ts : List A) → accepted ts ≡ true → trimmed accepted (trimmed accepted ts) ≡ trimmed accepted ts
  trimmed-stays ts e = settled-stays (length (trimmed accepted ts)) (trimmed accepted ts) (trimmed-settles ts e)

pub trimmed-order : TrimmedOrder
trimmed-order A test ts = passes-order test (length ts) ts

pub trimmed-minimal : TrimmedMinimal
trimmed-minimal A test ts e front t back p = (pass-whole test [] (trimmed test ts) (trimmed-settles test ts e).again).1 front t back p

pub trimmed-again : TrimmedAgain
trimmed-again A test ts e = trimmed-stays test ts e
