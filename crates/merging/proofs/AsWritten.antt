-- The merge for programs as they are written: the plain rules of the program with the constraint are those of the program with the
-- constraint's own, and N stays. Assumes nothing.
use mathlib.Core.Path.{◌≡◌, subst₂}
use mathlib.Core.Bool.{Bool, true}
use mathlib.Core.List.{List, [], ◌∷◌}
use Prim.Native.Nat.{ℕ}
use native.Mathlib.Omega.{arith}
use lib.Dec.{T}
use lib.IntN.{ℤ, pos, neg_ℤ}
use Rattle.words.specs.Literals.{variable, complement}
use Rattle.words.proofs.Lists.{passed, and-decides, leb-decides}
use Rattle.words.proofs.Literals.{variable-complement}
use Rattle.aspif.specs.Rules.{Rule, plain, InputRule, bodies_of, expand_rule, expand, atoms, rule_top}
use Rattle.aspif.specs.declared.Kind.TheVariants.{Normal}
use Rattle.aspif.proofs.RuleTests.{greatest-more}
use Rattle.aspif.proofs.Expansion.{expand-append, plain-atoms}
use Rattle.drupe.specs.Texts.{Step}
use Rattle.derivation.specs.States.{State, is_atom}
use Rattle.derivation.proofs.AsWritten.{soundness-as-written}
use Rattle.merging.specs.Merge.{demanding, all_fit}
use Rattle.merging.specs.Claims.{Accepted, AcceptedIn, demanding_as_written, AcceptedAsWritten, merged_as_written, MergedAsWritten}
use Rattle.merging.proofs.Merged.{merged-accepted}
use Rattle.merging.proofs.Sized.{unsized, merged-in}

pub demanding-expanded : (ws : List InputRule) (x : ℤ) → expand (demanding_as_written ws x) ≡ demanding (expand ws) x
unfolding expand expand_rule bodies_of
demanding-expanded ws x = expand-append ws (record { kind = Normal; heads = []; body = plain (complement x ∷ []) } ∷ [])

-- the split atom is one of the program's
pub demanding-same-atoms : (ws : List InputRule) (x : ℤ) → T (is_atom (atoms ws) (variable x)) → atoms (demanding_as_written ws x) ≡ atoms ws
demanding-same-atoms ws x t =
    let h = ((and-decides (leb-decides 1 (variable x)) (leb-decides (variable x) (atoms ws))).to t).1 in
    let e = greatest-more rule_top ws (record { kind = Normal; heads = []; body = plain (complement x ∷ []) }) in
    let v = variable-complement x in
    omega (arith, h, e, v)

-- a half for the program as written is one for its plain rules
half-plain : (room : State → Bool) (ws : List InputRule) (x : ℤ) (ts : List Step) → T (is_atom (atoms ws) (variable x))
    → AcceptedAsWritten room (demanding_as_written ws x) ts → AcceptedIn room (atoms ws) (demanding (expand ws) x) ts
half-plain room ws x ts t a =
    subst₂ (λ (N : ℕ) (P : List Rule). AcceptedIn room N P ts) (demanding-same-atoms ws x t) (demanding-expanded ws x) a

module _ (room : State → Bool) (ws : List InputRule) (v : ℕ) (atom : is_atom (atoms ws) v ≡ true) (first second : List Step)
    (a : AcceptedAsWritten room (demanding_as_written ws (pos v)) first) (b : AcceptedAsWritten room (demanding_as_written ws (neg_ℤ (pos v))) second)
    (fit : all_fit (merged_as_written ws v first second) ≡ true) where
  is-atom : T (is_atom (atoms ws) v)
  is-atom = (passed _).from atom

  first_plain : AcceptedIn room (atoms ws) (demanding (expand ws) (pos v)) first
  first_plain = half-plain room ws (pos v) first is-atom a

  second_plain : AcceptedIn room (atoms ws) (demanding (expand ws) (neg_ℤ (pos v))) second
  second_plain = half-plain room ws (neg_ℤ (pos v)) second (rw (variable-complement (pos v)) is-atom) b

  -- question 34 aside
  pub unsized-as-written : Accepted (atoms ws) (expand ws) (merged_as_written ws v first second)
  unsized-as-written =
      (merged-accepted (atoms ws) (expand ws) (plain-atoms ws) v atom first second
      (unsized room (atoms ws) (demanding (expand ws) (pos v)) first first_plain)
      (unsized room (atoms ws) (demanding (expand ws) (neg_ℤ (pos v))) second second_plain) fit).0

pub merged-as-written : MergedAsWritten
merged-as-written room ws v atom first second a b fit =
    let z = unsized-as-written room ws v atom first second a b fit in (
      (merged-in room (atoms ws) (expand ws) (plain-atoms ws) v atom first second
          (first_plain room ws v atom first second a b fit) (second_plain room ws v atom first second a b fit) fit).0,
      soundness-as-written ws (merged_as_written ws v first second) z.0 z.1 z.2,
    )
