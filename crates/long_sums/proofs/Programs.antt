-- The text of the split program, and question 66 of it. Assumes nothing.
use mathlib.Core.Path.{◌≡◌, refl, sym, ap, subst, ◌∙◌}
use mathlib.Core.List.{List, [], ◌∷◌, ◌++◌, append_assoc}
use Prim.Native.Nat.{ℕ, ◌+◌, ◌-◌}
use native.Mathlib.Omega.{arith}
use Rattle.text.specs.Writing.{Put}
use Rattle.text.proofs.Puts.{put_on}
use Rattle.aspif.specs.Rules.{InputRule, atoms}
use Rattle.aspif.specs.Reading.{header}
use Rattle.aspif.specs.Text.{rule_text, rules_text, program_text}
use Rattle.sums.specs.Plans.{split_item, in_turn, first_new}
use Rattle.sums.specs.Levels.{planned, split_program, sorted_groups}
use Rattle.sums.proofs.Levels.{planned-is, program-atoms}
use Rattle.sums.proofs.Sorted.{sorted-groups}
use Rattle.totalizer.specs.Emitting.{texts_of, Emits}
use Rattle.joins.specs.declared.chains.Numbered.{Numbered}
use Rattle.long_sums.specs.Program.{ItemsEmitted, ProgramWritten}

rules-texts : (rs : List InputRule) → rules_text rs ≡ texts_of rs ++ (48 ∷ 10 ∷ [])
unfolding rules_text
rules-texts [] = refl
rules-texts (r ∷ rs) = ap (λ (l : List ℕ). rule_text r ++ l) (rules-texts rs) ∙ sym (append_assoc (rule_text r) (texts_of rs) (48 ∷ 10 ∷ []))

program-texts : (rs : List InputRule) → program_text rs ≡ header ++ (texts_of rs ++ (48 ∷ 10 ∷ []))
unfolding program_text
program-texts rs = ap (λ (l : List ℕ). header ++ l) (rules-texts rs)

module _ (g : ℕ) (ws : List InputRule) {n : ℕ} (top : n ≡ atoms ws + 1) {before first between after : List ℕ} {p at : ℕ} {end : Numbered}
    (h : Put header before first 0 p) (e : ItemsEmitted (planned (sorted_groups (g - 1)) ws) first between (record { at = p; rules = 0 }) n end)
    (l : Put (48 ∷ 10 ∷ []) between after end.place.at at) where
  new : n ≡ first_new (planned (sorted_groups (g - 1)) ws)
  new = omega (arith, top, ap atoms (planned-is (sorted_groups (g - 1)) (sorted-groups (g - 1)) ws))

  lines : Emits (split_program (sorted_groups (g - 1)) ws) first between (record { at = p; rules = 0 }) end.place
  lines = subst (λ (k : ℕ). Emits (in_turn split_item k (planned (sorted_groups (g - 1)) ws)) first between (record { at = p; rules = 0 }) end.place) new e.rules

  pub program-emitted : ProgramWritten (split_program (sorted_groups (g - 1)) ws) before after (record { place = record { at = at; rules = end.place.rules }; atom = end.atom })
  program-emitted =
      let rs = split_program (sorted_groups (g - 1)) ws in
      record {
        rules = omega (arith, lines.rules);
        text = λ k. subst (λ (t : List ℕ). Put t before after 0 at) (sym (program-texts rs)) (put_on h (put_on (lines.text k) l));
        atom = λ k. omega (arith, e.atom k, top, program-atoms (sorted_groups (g - 1)) (sorted-groups (g - 1)) ws);
      }
