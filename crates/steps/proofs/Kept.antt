-- What the steps add to the store: question 34, and the first number of a line with the complements of the others.
-- Assumes nothing.
use mathlib.Core.Path.{◌≡◌, refl, sym, ap, subst, ◌∙◌}
use mathlib.Core.List.{List, [], ◌∷◌, ◌++◌, map}
use Prim.Native.Nat.{ℕ, ◌-◌, ◌≤◌}
use native.Mathlib.Omega.{arith}
use lib.IntN.{ℤ, pos}
use lib.ListN.{length, drop, take, get_or, length-drop, length-map}
use lib.Seq.{drop-append_seam}
use borrow.Rule.Slice.PartMut.{put_mid}
use Rattle.words.specs.Literals.{complement, ascending}
use Rattle.words.proofs.Parts.{tail_of, put-tail}
use Rattle.words.proofs.Sorting.{length-ascending}
use Rattle.derivation.specs.States.{State}
use Rattle.derivation.specs.Steps.{add}
use Rattle.nogoods.specs.Store.{Stored, added_in, live, kept_with}
use Rattle.nogoods.specs.Keeps.{Literals}
use Rattle.nogoods.specs.Index.{Fits}
use Rattle.std.specs.declared.option.Option.{Option}
use Rattle.std.specs.declared.option.Option.TheVariants.{Some, None}
use Rattle.nogoods.proofs.Literals.{literals-ascending, literals-complement-others}
use Rattle.nogoods.proofs.Defined.{name-and-literals}
use Rattle.steps.specs.After.{with_added}
use Rattle.steps.specs.Held.{fitted, Fitted, HoldsState}
use Rattle.std.specs.Prelude.{Result}
use Rattle.drupe.specs.declared.ProofFault.{ProofFault}

-- what is added fits, or the step is refused
pub kept-fits : (stored : List Stored) (store : List ℤ) (index : List ℕ) (a : Option ℕ) → Fits stored store index a
    → Fitted stored store index (fitted a)
kept-fits stored store index (Some n) h = h
kept-fits stored store index None h = (refl, h)

-- one nogood more, which is g
pub kept-one : (stored : List Stored) (n size : ℕ) (store : List ℤ) (index : List ℕ) {l g : List ℤ} (a : Option ℕ) {r : Result ℕ ProofFault} → r ≡ fitted a → l ≡ g
    → Fits (kept_with size (added_in n (l ∷ [])) stored) store index a → Fitted (kept_with size (added_in n (g ∷ [])) stored) store index r
kept-one stored n size store index {l} a e p h = rw (e, ← p) (kept-fits (kept_with size (added_in n (l ∷ [])) stored) store index a h)

-- what the step added to the live nogoods
pub new-only : (stored : List Stored) (l gs : List (List ℤ)) → live stored ≡ l → drop (length (live stored)) (l ++ gs) ≡ gs
new-only stored l gs e = ap (λ (k : List (List ℤ)). drop (length k) (l ++ gs)) e ∙ drop-append_seam l gs

-- nogoods that are added to those stored are added to the state that these are of
pub kept_more : {store : List ℤ} {index : List ℕ} {used : ℕ} {z : State} {stored : List Stored} → HoldsState store index used z stored
    → (n size : ℕ) (gs : List (List ℤ)) (after : List ℤ) (index' : List ℕ) (r : Result ℕ ProofFault)
    → Fitted (kept_with size (added_in n gs) stored) after index' r → Fitted (with_added n size stored (add z gs)) after index' r
kept_more {z = z} {stored = stored} K n size gs after index' r f =
    subst (λ (hs : List (List ℤ)). Fitted (kept_with size (added_in n hs) stored) after index' r) (sym (new-only stored z.live gs K.same)) f

-- `join`: s is the first number with the complements of the others, sorted
pub record Joined (numbers s : List ℤ) : Type 0 where
  pub is : s ≡ ascending (get_or numbers 0 (pos 0) ∷ map complement (drop 1 numbers))
  pub literals : Literals s
  pub size : length s ≡ length numbers

first-kept : (l u : List ℤ) → 1 ≤ length l → take 1 l ++ u ≡ get_or l 0 (pos 0) ∷ u
first-kept [] u h = absurd (omega arith)
first-kept (x ∷ l) u h = refl

-- t are the complements, put in place of the numbers after the first
pub joined : (numbers t s : List ℤ) → Literals numbers → 1 ≤ length numbers → t ≡ map complement (take (length numbers - 1) (drop 1 numbers))
    → s ≡ ascending (put_mid 1 (length numbers - 1) numbers t) → Joined numbers s
joined numbers t s h some put sorted =
    let x = get_or numbers 0 (pos 0) in
    let turned = x ∷ map complement (drop 1 numbers) in
    let e : s ≡ ascending turned =
    sorted
    ∙ ap ascending (put-tail 1 numbers t some ∙ first-kept numbers t some ∙ ap (λ (u : List ℤ). x ∷ u) (put ∙ ap (map complement) (tail_of 1 numbers))) in
    record {
      is = e;
      literals = rw e (literals-ascending turned (literals-complement-others x (drop 1 numbers) (name-and-literals numbers some h)));
      size = ap length e ∙ length-ascending turned ∙ omega (arith, length-map (drop 1 numbers) complement, length-drop 1 numbers);
    }
