-- Which letters an arm of a `match` is for, where it is for several: by the tags that it tests.
-- Assumes nothing.
use mathlib.Core.Path.{◌≡◌, refl, sym, ap, ◌∙◌, subst}
use mathlib.Core.Bool.{not}
use mathlib.Core.Logic.{◌⊎◌, inl, inr}
use mathlib.Core.List.{List, [], ◌∷◌}
use Prim.Native.Nat.{ℕ, zero, suc}
use lib.Dec.{T}
use types.Run.{OneOf, miss}
use mir.Val.{has_key}
use denote.Enum.Declared.{tag_of}
use Rattle.text.specs.declared.Letter.{Letter}
use Rattle.text.specs.declared.Letter.TheVariants.{Addition, Body, Completion, Deletion, Extension, Loop, Support}
use Rattle.text.specs.contracts.Letter.{the_type}

abbrev tag : Letter → ℕ
tag x = tag_of the_type x

abbrev letter_at : ℕ → Letter
letter_at zero = Addition
letter_at (suc zero) = Body
letter_at (suc (suc zero)) = Completion
letter_at (suc (suc (suc zero))) = Deletion
letter_at (suc (suc (suc (suc zero)))) = Extension
letter_at (suc (suc (suc (suc (suc zero))))) = Loop
letter_at (suc (suc (suc (suc (suc (suc n)))))) = Support

told : (x : Letter) → letter_at (tag x) ≡ x
told Addition = refl
told Body = refl
told Completion = refl
told Deletion = refl
told Extension = refl
told Loop = refl
told Support = refl

same_tag : (x y : Letter) → tag x ≡ tag y → x ≡ y
same_tag x y e = sym (told x) ∙ ap letter_at e ∙ told y

-- an arm for two letters
pub of_two : (x y z : Letter) → OneOf (tag y ∷ tag z ∷ []) (tag x) → (x ≡ y) ⊎ (x ≡ z)
of_two x y z (inl e) = inl (same_tag x y e)
of_two x y z (inr e) = inr (same_tag x z e)

-- the arm for all other letters, where there can be two
pub second : {x y z : Letter} → (x ≡ y) ⊎ (x ≡ z) → (ks : List ℕ) → T (not (has_key ks (tag y))) → OneOf ks (tag x) → x ≡ z
second {x} {y} {z} (inl e) ks apart o = absurd (miss ks (tag y) apart (subst (λ (a : Letter). OneOf ks (tag a)) e o))
second {x} {y} {z} (inr e) ks apart o = e
