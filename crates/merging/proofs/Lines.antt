-- Questions 22 to 25 of a line under new names, and how a question that is passed is used. Assumes nothing.
use mathlib.Core.Path.{◌≡◌, refl, sym, ap, ◌∙◌}
use mathlib.Core.Bool.{Bool, true, false, cond, not}
use mathlib.Core.List.Memᴰ
use mathlib.Core.List.{List, [], ◌∷◌, ◌++◌, map}
use Prim.Native.Nat.{ℕ, zero, suc, ◌≤◌}
use native.Mathlib.Omega.{arith}
use lib.Dec.{T}
use lib.IntN.{ℤ, pos, negsuc}
use Rattle.words.specs.Lists.{◌∈◌}
use Rattle.words.specs.Literals.{variable, has, distinct}
use Rattle.words.proofs.Lists.{zero_one, Decides, passed, itself, and-decides, not-decides, if-decides, all-decides}
use Rattle.words.proofs.Places.{once-decides}
use Rattle.words.proofs.Literals.{has-decides}
use Rattle.text.specs.declared.Letter.{Letter}
use Rattle.drupe.specs.Lines.{is_positive, signs_of, signed}
use Rattle.aspif.specs.Rules.{Rule}
use Rattle.derivation.specs.States.{State}
use Rattle.drupe.specs.Texts.{Step}
use Rattle.derivation.specs.Steps.{Outcome, refused, next, by_letter, step, steps}
use Rattle.derivation.proofs.Questions.{pos-positive}
use Rattle.derivation.proofs.Outcomes.{is_beyond, step-asks}
use Rattle.merging.specs.Merge.{renamed, fits, all_fit}
use Rattle.merging.proofs.Propagates.{renamed-variable}
use Rattle.drupe.specs.declared.ProofFault.TheVariants.{Malformed, OutOfRange, WrongSigns, RepeatedVariable}

-- Questions that are passed

pub cond_cases : {A : Type 0} (F : A → Type 0) (b : Bool) {a c : A} → (T b → F a) → (T (not b) → F c) → F (cond b a c)
cond_cases F true f g = f tt
cond_cases F false f g = g tt

-- a line that passes them is the step of its letter
pub line-passes : (N : ℕ) (P : List Rule) (w : State) (c : Letter) (zs : List ℤ) → ¬ (pos 0 ∈ zs) → T (fits (record { letter = c; numbers = zs }))
    → T (signed (signs_of c) zs) → T (distinct zs) → step N P w (record { letter = c; numbers = zs }) ≡ by_letter N P w c zs
line-passes N P w c zs nz s t u =
    step-asks N P w (record { letter = c; numbers = zs })
    ∙ go (has (pos 0) zs) (is_beyond zs) (signed (signs_of c) zs) (distinct zs) ((not-decides (has-decides (pos 0) zs)).from nz) s t u
  where
    go : (a b d e : Bool) → T (not a) → T (not b) → T d → T e
        → cond a (refused Malformed) (cond b (refused OutOfRange) (cond d (cond e (by_letter N P w c zs) (refused RepeatedVariable)) (refused WrongSigns))) ≡ by_letter N P w c zs
    go true b d e p q r s = absurd p
    go false true d e p q r s = absurd q
    go false false true true p q r s = refl
    go false false true false p q r s = absurd s
    go false false false e p q r s = absurd r

-- Signs

module _ (f : ℕ → ℕ) (positive-stays : (v : ℕ) → 1 ≤ v → 1 ≤ f v) where
  pub renamed-positive : (y : ℤ) → T (is_positive y) → T (is_positive (renamed f y))
  renamed-positive (pos zero) t = absurd t
  renamed-positive (pos (suc n)) t = pos-positive (f (suc n)) (positive-stays (suc n) (omega arith))
  renamed-positive (negsuc n) t = absurd t

  pub signed-renamed : (c : Letter) (zs : List ℤ) → T (signed (signs_of c) zs) → T (signed (signs_of c) (map (renamed f) zs))
  signed-renamed c [] t = t
  signed-renamed c (z ∷ zs) t =
      let r = (asks z zs).to t in
      (asks (renamed f z) (map (renamed f) zs)).from (λ a. renamed-positive z (r.0 a), λ a y m. later (r.1 a) y (Memᴰ.of_map (renamed f) zs m))
    where
      asks : (z : ℤ) (zs : List ℤ) → Decides (signed (signs_of c) (z ∷ zs)) ((T (signs_of c).first → T (is_positive z)) × (T (signs_of c).later → (y : ℤ) → y ∈ zs → T (is_positive y)))
      asks z zs = and-decides (if-decides (itself (signs_of c).first) (itself (is_positive z))) (if-decides (itself (signs_of c).later) (all-decides (λ y. itself (is_positive y)) zs))

      later : ((y : ℤ) → y ∈ zs → T (is_positive y)) → (y : ℤ) → (u : ℤ) × (u ∈ zs) × (renamed f u ≡ y) → T (is_positive y)
      later a y q = rw (← q.2) (renamed-positive q.0 (a q.0 q.1))

  pub renamed-nonzero : (L : List ℤ) → ¬ (pos 0 ∈ L) → ¬ (pos 0 ∈ map (renamed f) L)
  renamed-nonzero L nz m = let r = Memᴰ.of_map (renamed f) L m in go r.0 r.1 r.2
    where
      go : (y : ℤ) → y ∈ L → renamed f y ≡ pos 0 → ⊥
      go (pos zero) u p = nz u
      go (pos (suc n)) u p =
          let a : f (suc n) ≡ 0 = ap variable p in
          let b = positive-stays (suc n) (omega arith) in
          omega (arith, a, b)
      go (negsuc n) u p =
          let a : f (suc n) ≡ 0 = sym (renamed-variable f (negsuc n)) ∙ ap variable p in
          let b = positive-stays (suc n) (omega arith) in
          omega (arith, a, b)

-- No variable twice

pub distinct-renamed : (f : ℕ → ℕ) (L : List ℤ) → ((a b : ℤ) → a ∈ L → b ∈ L → f (variable a) ≡ f (variable b) → variable a ≡ variable b)
    → T (distinct L) → T (distinct (map (renamed f) L))
distinct-renamed f [] a t = tt
distinct-renamed f (y ∷ L) a t =
    let r = (once-decides y L).to t in
    (once-decides (renamed f y) (map (renamed f) L)).from (apart r.0, (passed _).to (distinct-renamed f L (λ i j m n. a i j (Memᴰ.tail m) (Memᴰ.tail n)) ((passed _).from r.1)))
  where
    apart : (¬ ((k : ℤ) × (k ∈ L) × (variable y ≡ variable k))) → ¬ ((k : ℤ) × (k ∈ map (renamed f) L) × (variable (renamed f y) ≡ variable k))
    apart d q = let r = Memᴰ.of_map (renamed f) L q.1 in
        d (
          r.0,
          r.1,
          a y r.0 (Memᴰ.head refl) (Memᴰ.tail r.1)
              (sym (renamed-variable f y) ∙ (q.2 ∙ (sym (ap variable r.2) ∙ renamed-variable f r.0))),
        )

-- Lists of steps

pub steps-append : (N : ℕ) (P : List Rule) (ks ls : List Step) (w w' : State) → steps N P w ks ≡ next w' → steps N P w (ks ++ ls) ≡ steps N P w' ls
steps-append N P [] ls w w' e = let p : w ≡ w' = cc in rw p refl
steps-append N P (t ∷ ks) ls w w' e = go (λ v d. steps-append N P ks ls v w' d) (step N P w t) e
  where
    go : ((v : State) → steps N P v ks ≡ next w' → steps N P v (ks ++ ls) ≡ steps N P w' ls) → (o : Outcome) → elim o [ refused k ↦ refused k | next v ↦ steps N P v ks ] ≡ next w'
        → elim o [ refused k ↦ refused k | next v ↦ steps N P v (ks ++ ls) ] ≡ steps N P w' ls
    go below (refused k) d = absurd (zero_one (cc))
    go below (next v) d = below v d

pub fit_append : (ks ls : List Step) → T (all_fit (ks ++ ls)) → T (all_fit ks) × T (all_fit ls)
fit_append ks ls t =
    let a = (all-decides (λ s. itself (fits s)) (ks ++ ls)).to t in
    ((all-decides (λ s. itself (fits s)) ks).from (λ s m. a s (Memᴰ.append_left ls m)), (all-decides (λ s. itself (fits s)) ls).from (λ s m. a s (Memᴰ.append_right ks m)))
