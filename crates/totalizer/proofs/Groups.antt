-- The rules of a group of pairs, one for each level. Assumes nothing.
use mathlib.Core.Path.{◌≡◌, sym, ap, ap₂, subst, ◌∙◌}
use mathlib.Core.Bool.{true}
use mathlib.Core.List.{List, [], ◌∷◌, ◌++◌, map, map-append}
use Prim.Native.Nat.{ℕ, zero, suc, ◌+◌, ◌/◌, ◌<◌}
use native.Mathlib.Nat.{div-add-mod'}
use native.Mathlib.Omega.{arith}
use lib.IntN.{ℤ, pos}
use lib.ListN.{length, take, get_or}
use Rattle.weights.specs.Weights.{Weighted, paired}
use Rattle.aspif.specs.Rules.{InputRule}
use Rattle.aspif.specs.Reading.{all_weights}
use Rattle.aspif.specs.Text.{rule_numbers}
use Rattle.aspif.proofs.PairWords.{words-paired, length-paired}
use Rattle.sums.specs.Plans.{Definition, numbered, group_rule}
use Rattle.totalizer.specs.declared.texts.Place.{Place}
use Rattle.totalizer.specs.Emitting.{sum_numbers, Emits}
use Rattle.totalizer.proofs.Emitted.{emits-on}

-- the numbers of such a rule
pub sum-numbers : (atom level : ℕ) (ws : List ℤ) → all_weights ws ≡ true
    → rule_numbers (group_rule (record { atom = atom; pairs = paired ws; bound = level })) ≡ sum_numbers atom level ws
sum-numbers atom level ws e =
    let d = div-add-mod' (length ws) 2 in
    let n : length (paired ws) ≡ length ws / 2 = omega (arith, length-paired ws e, d) in
    ap₂ (λ (k : ℕ) (l : List ℤ). pos 0 ∷ pos 1 ∷ pos atom ∷ pos 1 ∷ pos level ∷ pos k ∷ l) n (words-paired ws e)

-- one level more
pub level-more : (n : ℕ) (l : List Weighted) (ts : List ℕ) (i : ℕ) → i < length ts
    → numbered n l (take (i + 1) ts) ≡ numbered n l (take i ts) ++ (record { atom = n + i; pairs = l; bound = get_or ts i 0 } ∷ [])
level-more n l [] i h = absurd (omega arith)
level-more n l (t ∷ ts) zero h = let e : n ≡ n + 0 = omega arith in ap (λ (a : ℕ). record { atom = a; pairs = l; bound = t } ∷ []) e
level-more n l (t ∷ ts) (suc i) h =
    let e : suc n + i ≡ n + suc i = omega arith in
    let f : suc i + 1 ≡ suc (i + 1) = omega arith in
    ap (λ (k : ℕ). numbered n l (take k (t ∷ ts))) f
    ∙ ap (λ (ds : List Definition). record { atom = n; pairs = l; bound = t } ∷ ds)
    (level-more (suc n) l ts i (omega arith) ∙ ap (λ (a : ℕ). numbered (suc n) l (take i ts) ++ (record { atom = a; pairs = l; bound = get_or ts i 0 } ∷ [])) e)

pub group-more : (n : ℕ) (l : List Weighted) (ts : List ℕ) (i : ℕ) → i < length ts → {before between after : List ℕ} {p q s : Place}
    → Emits (map group_rule (numbered n l (take i ts))) before between p q
    → Emits (group_rule (record { atom = n + i; pairs = l; bound = get_or ts i 0 }) ∷ []) between after q s
    → Emits (map group_rule (numbered n l (take (i + 1) ts))) before after p s
group-more n l ts i h {before} {after = after} {p = p} {s = s} e f =
    let d : Definition = record { atom = n + i; pairs = l; bound = get_or ts i 0 } in
    subst (λ (rs : List InputRule). Emits rs before after p s)
    (sym (ap (map group_rule) (level-more n l ts i h) ∙ map-append group_rule (numbered n l (take i ts)) (d ∷ [])))
    (emits-on e f)
