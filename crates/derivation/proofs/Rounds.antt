-- Rounds that add what is new, as `rounds` of specs/Loops.antt and `saturate` of specs/Propagation.antt do: with as many rounds as
-- there are candidates they end where nothing is left to add, unless they stop before. Assumes nothing.
use mathlib.Core.Path.{◌≡◌, refl}
use mathlib.Core.Logic.{◌⊎◌, inl, inr}
use mathlib.Core.Bool.{Bool, true, false, not}
use mathlib.Core.List.Memᴰ
use mathlib.Core.List.{List, [], ◌∷◌, ◌++◌}
use Prim.Native.Nat.{ℕ, zero, suc, ◌≤◌, ◌<◌}
use native.Mathlib.Omega.{arith}
use lib.Dec.{T}
use lib.IntN.{ℤ}
use lib.ListN.{length}
use Rattle.words.specs.Lists.{◌∈◌, filter}
use Rattle.words.specs.Literals.{has}
use Rattle.words.proofs.Lists.{Decides, passed, answered, not-decides, keep←, length-keep, keep-lt, none_in}
use Rattle.words.proofs.Literals.{has-decides}

-- `run n` is at most n rounds, which end where they may stop or nothing is fresh; fresh is what a list gives and does not have;
-- what it gives is a candidate, and P holds of it where P holds of each in the list
pub record Rounds (P : ℤ → Type 0) (Gives : List ℤ → ℤ → Type 0) (candidates : List ℤ) (fresh : List ℤ → List ℤ) (stop : List ℤ → Bool) (run : ℕ → List ℤ → List ℤ) : Type 0 where
  pub none : (A : List ℤ) → run zero A ≡ A
  pub turn : (n : ℕ) (A : List ℤ) → run (suc n) A ≡ elim (stop A) [ true ↦ A | false ↦ elim (fresh A) [ [] ↦ A | x ∷ xs ↦ run n (x ∷ xs ++ A) ] ]
  pub fresh→ : (A : List ℤ) (x : ℤ) → x ∈ fresh A → Gives A x × (¬ (x ∈ A))
  pub fresh← : (A : List ℤ) (x : ℤ) → Gives A x → ¬ (x ∈ A) → x ∈ fresh A
  pub among : (A : List ℤ) (x : ℤ) → Gives A x → x ∈ candidates
  pub keeps : (A : List ℤ) → ((x : ℤ) → x ∈ A → P x) → (x : ℤ) → Gives A x → P x

-- what rounds from A come to: nothing but what P holds of, all of A, and all that is given unless they stopped
pub record Ended (P : ℤ → Type 0) (Gives : List ℤ → ℤ → Type 0) (stop : List ℤ → Bool) (A found : List ℤ) : Type 0 where
  pub within : (x : ℤ) → x ∈ found → P x
  pub start : (x : ℤ) → x ∈ A → x ∈ found
  pub closed : T (stop found) ⊎ ((x : ℤ) → Gives found x → x ∈ found)

module _ {P : ℤ → Type 0} {Gives : List ℤ → ℤ → Type 0} {candidates : List ℤ} {fresh : List ℤ → List ℤ} {stop : List ℤ → Bool} {run : ℕ → List ℤ → List ℤ}
    (r : Rounds P Gives candidates fresh stop run) where
  abbrev lacks : List ℤ → ℤ → Bool
  lacks A x = not (has x A)

  lacks-decides : (A : List ℤ) (x : ℤ) → Decides (lacks A x) (¬ (x ∈ A))
  lacks-decides A x = not-decides (has-decides x A)

  -- how many candidates are still to be found
  abbrev missing : List ℤ → ℕ
  missing A = length (filter (lacks A) candidates)

  fewer : (A : List ℤ) (x : ℤ) (xs : List ℤ) → x ∈ fresh A → missing (x ∷ xs ++ A) < missing A
  fewer A x xs m = let d = r.fresh→ A x m in keep-lt (lacks B) (lacks A) sub (r.among A x d.0) here ((lacks-decides A x).from d.1)
    where
      B : List ℤ
      B = x ∷ xs ++ A

      sub : (y : ℤ) → T (lacks B y) → T (lacks A y)
      sub y t = (lacks-decides A y).from (λ n. (lacks-decides B y).to t (Memᴰ.append_right (x ∷ xs) n))

      here : T (not (lacks B x))
      here = (not-decides (lacks-decides B x)).from (λ k. k (Memᴰ.head refl))

  -- where A lacks nothing that it gives
  whole : (A : List ℤ) → ((x : ℤ) → x ∈ A → P x) → ((x : ℤ) → Gives A x → ¬ (¬ (x ∈ A))) → Ended P Gives stop A A
  whole A w f = record { within = w; start = λ x m. m; closed = inr (λ x g. by x g (answered (has x A))) }
    where
      by : (x : ℤ) → Gives A x → T (has x A) ⊎ T (lacks A x) → x ∈ A
      by x g (inl t) = (has-decides x A).to t
      by x g (inr t) = absurd (f x g ((lacks-decides A x).to t))

  ends : (n : ℕ) (A : List ℤ) → missing A ≤ n → ((x : ℤ) → x ∈ A → P x) → Ended P Gives stop A (run n A)
  ends zero A h w = rw (r.none A) (whole A w (λ x g d. none_in h (keep← (lacks A) (r.among A x g) ((lacks-decides A x).from d))))
  ends (suc n) A h w = rw (r.turn n A) (go (λ B k v. ends n B k v) (stop A) refl (fresh A) refl)
    where
      go : ((B : List ℤ) → missing B ≤ n → ((x : ℤ) → x ∈ B → P x) → Ended P Gives stop B (run n B)) → (b : Bool) → stop A ≡ b → (xs : List ℤ) → fresh A ≡ xs
          → Ended P Gives stop A (elim b [ true ↦ A | false ↦ elim xs [ [] ↦ A | x ∷ xs ↦ run n (x ∷ xs ++ A) ] ])
      go below true e xs p = record { within = w; start = λ x m. m; closed = inl ((passed (stop A)).from e) }
      go below false e [] p = whole A w (λ x g d. elim (rw p at (r.fresh← A x g d)) [ ])
      go below false e (x ∷ xs) p =
          let d = below (x ∷ xs ++ A) (omega (arith, fewer A x xs (rw p (Memᴰ.head refl)))) each in
          record { within = d.within; start = λ y m. d.start y (Memᴰ.append_right (x ∷ xs) m); closed = d.closed }
        where
          each : (y : ℤ) → y ∈ x ∷ xs ++ A → P y
          each y m = elim (Memᴰ.append_cases (x ∷ xs) m) [ inl u ↦ r.keeps A w y (r.fresh→ A y (rw p u)).0 | inr u ↦ w y u ]

  pub rounds-end : (n : ℕ) (A : List ℤ) → length candidates ≤ n → ((x : ℤ) → x ∈ A → P x) → Ended P Gives stop A (run n A)
  rounds-end n A h w = ends n A (omega (arith, length-keep (lacks A) candidates)) w
