-- What is left of the halves once both are checked. Assumes nothing.
use mathlib.Core.Path.{◌≡◌, refl, sym, ◌∙◌, ap, subst}
use mathlib.Core.Bool.{Bool, true, false, and-true, and-false, true≢false}
use mathlib.Core.List.{List}
use Prim.Native.Nat.{ℕ}
use lib.IntN.{ℤ, pos, neg_ℤ}
use Rattle.words.specs.Literals.{variable, complement}
use Rattle.words.proofs.Lists.{passed}
use Rattle.words.proofs.Literals.{complement-twice, variable-complement}
use Rattle.aspif.specs.Rules.{InputRule, expand, atoms}
use Rattle.derivation.specs.States.{State, is_atom}
use Rattle.nogoods.specs.Store.{Stored}
use Rattle.runs.specs.Course.{Course, stopped, through, course, ends_empty, is_accepted}
use Rattle.steps.specs.Held.{Tracks}
use Rattle.runs.specs.Held.{Ended}
use Rattle.merging.specs.Claims.{demanding_as_written}
use Rattle.merging.proofs.AsWritten.{demanding-same-atoms}
use Rattle.splits.specs.Service.{are_halves}
use Rattle.splits.specs.Halves.{HalfChecked, HalvesLeft, HalvesChecked}

-- a course that ends with the empty nogood went through, and the arrays hold the state that it left
module _ (N : ℕ) (ws : List InputRule) (known names : List ℕ) (bodies : List ℤ) where
  ended-left : (c : Course) → ends_empty c ≡ true → Ended N ws known names bodies c
      → (n : ℕ) × (z : State) × (stored : List Stored) × (c ≡ through n z stored) × Tracks N ws known names bodies z.introduced z.named
  ended-left (stopped k n) e t = absurd (true≢false (sym e))
  ended-left (through n z stored) e t = (n, z, stored, refl, t)

module _ (size : ℕ) (ws : List InputRule) (v : ℕ) (first second : List ℕ) {N : ℕ} (top : N ≡ atoms ws) where
  -- the halves are none
  none : are_halves size ws v first second ≡ false → {known₁ known₂ names : List ℕ} {bodies : List ℤ}
      → HalvesChecked N size ws v first second known₁ known₂ names bodies false
  none e = record { answer = sym e; left = λ p. absurd (true≢false (sym p)) }

  -- a foreign atom
  pub no-atom : is_atom N v ≡ false → {known₁ known₂ names : List ℕ} {bodies : List ℤ}
      → HalvesChecked N size ws v first second known₁ known₂ names bodies false
  no-atom e = let q : is_atom (atoms ws) v ≡ false = rw (← top) e in none (rw q)

  module _ (atom : is_atom N v ≡ true) where
    abbrev half : ℤ → List InputRule
    half x = demanding_as_written ws x

    -- the atom is one of the program's, whatever its sign
    same-atoms : (x : ℤ) → variable x ≡ v → N ≡ atoms (half x)
    same-atoms x e = top ∙ sym (demanding-same-atoms ws x ((passed (is_atom (atoms ws) (variable x))).from (rw (e, ← top) atom)))

    accepted : (x : ℤ) → variable x ≡ v → {text known names : List ℕ} {bodies : List ℤ} {r : Bool}
        → HalfChecked N (half x) size text known names bodies r → r ≡ is_accepted size (half x) text
    accepted x e {text} c = c.answer ∙ ap (λ (n : ℕ). ends_empty (course n (expand (half x)) size text)) (same-atoms x e)

    atom-is : is_atom (atoms ws) v ≡ true
    atom-is = rw (← top) atom

    -- the second half was checked with the atom in the constraint's body
    module _ {a : ℤ} (a-is : a ≡ pos v) {known₂ names₂ : List ℕ} {bodies₂ : List ℤ} {r₂ : Bool}
        (checked : HalfChecked N (half (complement a)) size second known₂ names₂ bodies₂ r₂) where
      two : HalfChecked N (half (neg_ℤ (pos v))) size second known₂ names₂ bodies₂ r₂
      two = subst (λ x. HalfChecked N (half (complement x)) size second known₂ names₂ bodies₂ r₂) a-is checked

      other : r₂ ≡ is_accepted size (half (neg_ℤ (pos v))) second
      other = accepted (complement (pos v)) (variable-complement (pos v)) two

      -- it is not accepted
      pub no-half : r₂ ≡ false → {known₁ names₁ : List ℕ} {bodies₁ : List ℤ}
          → HalvesChecked N size ws v first second known₁ known₂ names₁ bodies₁ false
      no-half e =
          let q : is_accepted size (half (neg_ℤ (pos v))) second ≡ false = sym other ∙ e in
          none (rw (atom-is, q) (and-false (is_accepted size (half (pos v)) first)))

      -- it is, and the first half was checked after it, with the atom's complement there
      pub halves-checked : r₂ ≡ true → {b : ℤ} → b ≡ complement (pos v) → {known₁ names₁ : List ℕ} {bodies₁ : List ℤ} {r₁ : Bool}
          → HalfChecked N (half (complement b)) size first known₁ names₁ bodies₁ r₁
          → HalvesChecked N size ws v first second known₁ known₂ names₁ bodies₁ r₁
      halves-checked e b-is {known₁} {names₁} {bodies₁} {r₁} c =
          let one = subst (λ x. HalfChecked N (half x) size first known₁ names₁ bodies₁ r₁) (ap complement b-is ∙ complement-twice (pos v)) c in
          record { answer = answer one; left = left one }
        where
          answer : HalfChecked N (half (pos v)) size first known₁ names₁ bodies₁ r₁ → r₁ ≡ are_halves size ws v first second
          answer one =
              let q : is_accepted size (half (neg_ℤ (pos v))) second ≡ true = sym other ∙ e in
              rw (atom-is, q) (accepted (pos v) refl one ∙ sym (and-true (is_accepted size (half (pos v)) first)))

          left : HalfChecked N (half (pos v)) size first known₁ names₁ bodies₁ r₁ → r₁ ≡ true
              → HalvesLeft N size ws v first second known₁ known₂ names₁ bodies₁
          left one p =
              let x = ended-left N (half (pos v)) known₁ names₁ bodies₁ _ (sym one.answer ∙ p) one.ended in
              let y = ended-left N (half (neg_ℤ (pos v))) known₂ names₂ bodies₂ _ (sym two.answer ∙ e) two.ended in
              record {
                one = record { done = x.0; state = x.1; stored = x.2; is = x.3 };
                two = record { done = y.0; state = y.1; stored = y.2; is = y.3 };
                tracks = x.4;
                knows = y.4.knows;
              }
