-- A program with a constraint of one literal behind its rules, in the words of a table. Assumes nothing.
use mathlib.Core.Path.{◌≡◌, refl, sym, ◌∙◌, ap}
use mathlib.Core.Bool.{true, and-true}
use mathlib.Core.List.Memᴰ
use mathlib.Core.List.{List, [], ◌∷◌, ◌++◌}
use Prim.Native.Nat.{ℕ, ◌+◌, ◌≤◌}
use native.Mathlib.Omega.{arith}
use borrow.Author.Tests.{le-ltb}
use lib.IntN.{ℤ, pos}
use lib.ListN.{replicate}
use Rattle.words.specs.Limits.{largest}
use Rattle.words.specs.Literals.{variable, complement}
use Rattle.words.proofs.Lists.{passed, failed, not-decides, and-decides, leb-decides}
use Rattle.words.proofs.Literals.{has-decides, complement-twice, variable-complement}
use Rattle.weights.proofs.Sublists.{all_append}
use Rattle.aspif.specs.Rules.{InputRule, plain, is_plain, all_plain, atoms, program_words}
use Rattle.aspif.specs.Tables.{rules_at}
use Rattle.aspif.specs.declared.Kind.TheVariants.{Normal}
use Rattle.aspif.proofs.Formed.{Formed}
use Rattle.derivation.specs.States.{is_atom}
use Rattle.names.proofs.Appended.{appended-holds}
use Rattle.steps.specs.Held.{Program, NoBodies}
use Rattle.merging.specs.Claims.{demanding_as_written}
use Rattle.merging.proofs.AsWritten.{demanding-same-atoms}
use Rattle.splits.specs.Halves.{demand_words}

-- The constraint behind the rules

module _ (ws : List InputRule) (x : ℤ) where
  abbrev demand : InputRule
  demand = record { kind = Normal; heads = []; body = plain (complement x ∷ []) }

  demand-formed : 1 ≤ variable x → variable x ≤ largest → Formed demand
  demand-formed l h =
      record {
        heads-few = omega arith;
        body-few = omega arith;
        headed = refl;
        positive = refl;
        heads-rise = refl;
        nonzero = failed _ ((not-decides (has-decides (pos 0) (complement x ∷ []))).from (λ i. absent (Memᴰ.eq_of_singleton i)));
        body-rise = refl;
        heads-in = refl;
        body-in = rw (variable-complement x, le-ltb largest (variable x) h);
        weighing = tt;
      }
    where
      absent : ¬ (pos 0 ≡ complement x)
      absent e = omega (arith, l, ap variable e, variable-complement x)

  pub demanding-plain : all_plain (demanding_as_written ws x) ≡ all_plain ws
  demanding-plain = all_append is_plain ws (demand ∷ []) ∙ and-true (all_plain ws)

  -- the wider table holds the program with the constraint, where its atom is one of the program's
  pub demanding-program : {table : List ℤ} {rules N : ℕ} → Program table rules N ws → is_atom N (variable x) ≡ true → {wide : List ℤ} (k : ℕ)
      → wide ≡ (program_words ws ++ demand_words (complement x)) ++ replicate k (pos 0) → Program wide (rules + 1) N (demanding_as_written ws x)
  demanding-program {table} {rules} {N} p a k e =
      let t = (and-decides (leb-decides 1 (variable x)) (leb-decides (variable x) N)).to ((passed _).from a) in
      let same = demanding-same-atoms ws x ((passed (is_atom (atoms ws) (variable x))).from (rw (← p.top) a)) in
      record { holds = appended-holds p.holds demand (demand-formed t.0 (omega (arith, t.1, p.high))) k e; top = p.top ∙ sym same; high = p.high }

-- the same with the literal of its body
module _ {table : List ℤ} {rules N : ℕ} {ws : List InputRule} (p : Program table rules N ws) (y : ℤ) (atom : is_atom N (variable y) ≡ true) where
  pub demanded : {wide : List ℤ} (k : ℕ) → wide ≡ (program_words (rules_at rules table) ++ demand_words y) ++ replicate k (pos 0)
      → Program wide (rules + 1) N (demanding_as_written ws (complement y))
  demanded k e = demanding-program ws (complement y) p (rw (variable-complement y) atom) k (rw (complement-twice y, ← p.holds.are) e)

  -- no body has a name
  pub demanded-bodies : {wide : List ℤ} → Program wide (rules + 1) N (demanding_as_written ws (complement y)) → {bodies : List ℤ}
      → NoBodies (rules_at rules table) bodies → NoBodies (rules_at (rules + 1) wide) bodies
  demanded-bodies d b w =
      b (ap all_plain p.holds.are ∙ sym (demanding-plain ws (complement y)) ∙ ap all_plain (sym d.holds.are) ∙ w)
