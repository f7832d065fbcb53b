-- The first place at which the name stands, or that no number is the name.
use mathlib.Core.Path.{◌≡◌, refl, sym, ◌∙◌}
use mathlib.Core.Bool.{Bool, true, false, ◌||◌}
use mathlib.Core.List.{List, [], ◌∷◌}
use Prim.Native.Nat.{ℕ, ◌+◌, ◌<◌}
use borrow.Author.Tests.{ne_eqb, eqb-true, eqb-false}
use lib.Dec.{eqb}
use lib.IntN.{ℤ, pos}
use lib.ListN.{length, get_or}
use Rattle.std.proofs.Common.{rules, tests}
use Rattle.std.proofs.lemmas.Iterator.{YieldsList-from_slice}
use Rattle.std.proofs.lemmas.Iterator.Search.{position_from_yields_List}
use Rattle.std.proofs.lemmas.Iterator.Adapters.{position_from-zero}
use Rattle.std.proofs.lemmas.List.Quantifiers.{position-Some}
use Rattle.std.proofs.lemmas.Option.{none-some}
use Rattle.std.specs.List.{position, position_from}
use Rattle.std.specs.Prelude.{Option, Some, None, MatchOption}
use Rattle.words.specs.Literals.{variable, mentions}
use Rattle.heads.proofs.place_of.Goals as goal

unlisted : (v i : ℕ) (l : List ℤ) → position_from (λ x. eqb (variable x) v) i l ≡ None → mentions v l ≡ false
unlisted v i [] e = refl
unlisted v i (x ∷ l) e = by (eqb (variable x) v) refl (unlisted v (i + 1) l)
  where
    by : (b : Bool) → eqb (variable x) v ≡ b → (position_from (λ x. eqb (variable x) v) (i + 1) l ≡ None → mentions v l ≡ false)
        → (eqb v (variable x) || mentions v l) ≡ false
    by true k rest = absurd (none-some i (sym (rw k at e)))
    by false k rest = rw (ne_eqb v (variable x) (λ q. eqb-false (variable x) v k (sym q))) (rest (rw k at e))

found : (v : ℕ) (l : List ℤ) (o : Option ℕ) → position (λ x. eqb (variable x) v) l ≡ o
    → MatchOption o (mentions v l ≡ false) (λ j. (j < length l) × (variable (get_or l j (pos 0)) ≡ v))
found v l None e = unlisted v 0 l (sym (position_from-zero (λ x. eqb (variable x) v) l) ∙ e)
found v l (Some j) e = let q = position-Some (λ x. eqb (variable x) v) l j (pos 0) e in (q.0, eqb-true _ v q.1)

pub returns : goal.returns
returns c =
    let v = c.args.name in
    let told : c.position.result ≡ position (λ x. eqb (variable x) v) c.args.listed.now =
    position_from_yields_List (λ x. eqb (variable x) v) _ _ c.position.result c.position.ensures.ran (YieldsList-from_slice _ c.iter.ensures.rest)
    (λ x b q k. search (rules, tests)) in
    found v c.args.listed.now c.position.result (sym told)
