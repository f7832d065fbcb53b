-- New names that agree on the variables of a text leave the same lines of it: what an array of names up to the largest variable is for.
-- Assumes nothing.
use mathlib.Core.Path.{◌≡◌, refl, ap, ap₂}
use mathlib.Core.Logic.{∥∥₁_elim}
use mathlib.Core.Bool.{cond}
use mathlib.Core.List.Memᴰ
use mathlib.Core.List.{List, [], ◌∷◌, ◌++◌, map, map_congr_left}
use Prim.Native.Nat.{ℕ, suc, ◌≤◌}
use native.Mathlib.Bridge.{le_prop}
use lib.IntN.{ℤ, pos, negsuc, neg_ℤ}
use Rattle.words.specs.Lists.{◌∈◌}
use Rattle.words.specs.Limits.{longest, largest}
use Rattle.words.specs.Literals.{variable, ascending}
use Rattle.text.specs.declared.Letter.{Letter}
use Rattle.text.specs.declared.Letter.TheVariants.{Addition, Body, Completion, Deletion, Extension, Loop, Support}
use Rattle.aspif.specs.Rules.{Rule}
use Rattle.drupe.specs.Texts.{Step, steps_of}
use Rattle.drupe.specs.Texts as Texts
use Rattle.drupe.proofs.Texts.{AllPass, steps-exact}
use Rattle.derivation.specs.States.{Named}
use Rattle.derivation.specs.Steps.{is_completion}
use Rattle.steps.proofs.Turns.{good-line}
use Rattle.merging.specs.Merge.{renamed, named_by, is_body, is_among, addition, one, kept, half}

module _ (f g : ℕ → ℕ) (same : (v : ℕ) → v ≤ largest → f v ≡ g v) where
  renamed-same : (y : ℤ) → variable y ≤ largest → renamed f y ≡ renamed g y
  renamed-same (pos n) h = ap pos (same n h)
  renamed-same (negsuc n) h = ap (λ (v : ℕ). neg_ℤ (pos v)) (same (suc n) h)

  map_same : (zs : List ℤ) → ((y : ℤ) → y ∈ zs → variable y ≤ largest) → map (renamed f) zs ≡ map (renamed g) zs
  map_same zs h = map_congr_left {l = zs} (λ y i. renamed-same y (∥∥₁_elim i le_prop (h y)))

  module _ (P : List Rule) (x : ℤ) (bodies : List (List ℤ)) where
    kept_same : (named : List Named) (c : Letter) (zs : List ℤ) → map (renamed f) zs ≡ map (renamed g) zs → kept P x f bodies named c zs ≡ kept P x g bodies named c zs
    kept_same named Addition zs e = ap (addition x) e
    kept_same named Body [] e = refl
    kept_same named Body (n ∷ L) e = ap (λ (l : List ℤ). cond (is_among bodies (ascending L)) [] (one (cond (is_body P (ascending L)) Body Extension) l)) e
    kept_same named Completion [] e = refl
    kept_same named Completion (n ∷ hs) e = ap (λ (l : List ℤ). cond (is_completion P (record { live = []; introduced = []; named = named }) n hs) (one Completion l) []) e
    kept_same named Deletion zs e = refl
    kept_same named Extension zs e = ap (one Extension) e
    kept_same named Loop zs e = ap (one Loop) e
    kept_same named Support zs e = ap (one Support) e

    half-same : (named : List Named) (ts : List Step) → AllPass ts → half P x f bodies named ts ≡ half P x g bodies named ts
    half-same named [] p = refl
    half-same named (t ∷ ts) p =
        let q = p t (Memᴰ.head refl) in
        ap₂ (λ (k l : List Step). k ++ l) (kept_same named t.letter t.numbers (map_same t.numbers (good-line t.letter t.numbers q.0 q.1).literals.high))
        (half-same (named_by t named) ts (λ u i. p u (Memᴰ.tail i)))

    -- of a text that is read
    pub same_half : (text : List ℕ) (ts : List Step) → steps_of text ≡ Texts.steps ts → half P x f bodies [] ts ≡ half P x g bodies [] ts
    same_half text ts e = half-same [] ts ((steps-exact longest text ts).0 e).2
