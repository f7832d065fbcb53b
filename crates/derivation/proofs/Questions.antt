-- What the questions put to a line and to a state say, as facts that the soundness of the steps uses. Assumes nothing.
use mathlib.Core.Path.{◌≡◌, refl}
use mathlib.Core.Logic.{◌⊎◌, inl, ◌≢◌}
use mathlib.Core.Bool.{not}
use mathlib.Core.List.Memᴰ
use mathlib.Core.List.{List}
use Prim.Native.Nat.{ℕ, ◌≤◌, max}
use native.Mathlib.Omega.{arith}
use lib.Dec.{T}
use lib.IntN.{ℤ, pos}
use Rattle.words.specs.Lists.{◌∈◌}
use Rattle.words.specs.Literals.{variable, top, ascending}
use Rattle.words.proofs.Lists.{Decides, itself, reworded, and-decides, or-decides, if-decides, any-decides, all-decides, eqb-decides, leb-decides}
use Rattle.words.proofs.Literals.{same_list-decides, has-decides, variable-positive, positive}
use Rattle.words.proofs.Tops.{top-le}
use Rattle.aspif.specs.Rules.{Rule, plain_atoms}
use Rattle.aspif.specs.declared.Kind.TheVariants.{Normal}
use Rattle.drupe.specs.Lines.{is_positive}
use Rattle.derivation.specs.States.{Named, State, is_atom, is_known, is_name, has_name}
use Rattle.derivation.specs.Steps.{is_external, all_known, all_atoms, is_unnamed_body, is_completion, all_named, is_support}
use Rattle.aspif.proofs.RuleTests.{normal-decides, in-greatest}

-- Lines

pub positive-nonzero : (x : ℤ) → T (is_positive x) → x ≢ pos 0
positive-nonzero x t p = let u : T (is_positive (pos 0)) = rw p at t in u

pub positive-is : (x : ℤ) → T (is_positive x) → x ≡ pos (variable x)
positive-is x t = (positive x t).0

pub pos-positive : (n : ℕ) → 1 ≤ n → T (is_positive (pos n))
pos-positive n h = (leb-decides 1 n).from h

-- Atoms

pub atom-decides : (N v : ℕ) → Decides (is_atom N v) ((1 ≤ v) × (v ≤ N))
atom-decides N v = and-decides (leb-decides 1 v) (leb-decides v N)

-- what a rule names, and is not 0, is an atom
module _ (N : ℕ) (P : List Rule) (fits : plain_atoms P ≤ N) where
  atom-le : (x : ℤ) → x ≢ pos 0 → variable x ≤ plain_atoms P → T (is_atom N (variable x))
  atom-le x f h = (atom-decides N (variable x)).from (variable-positive x f, omega arith)

  pub head-atom : {r : Rule} → r ∈ P → {x : ℤ} → x ∈ r.heads → x ≢ pos 0 → T (is_atom N (variable x))
  head-atom {r} m {x} u f = atom-le x f (omega (arith, in-greatest (λ (r : Rule). max (top r.heads) (top r.body)) m, top-le u))

  pub body-atom : {r : Rule} → r ∈ P → {x : ℤ} → x ∈ r.body → x ≢ pos 0 → T (is_atom N (variable x))
  body-atom {r} m {x} u f = atom-le x f (omega (arith, in-greatest (λ (r : Rule). max (top r.heads) (top r.body)) m, top-le u))

-- States

module _ (N : ℕ) (z : State) (v : ℕ) where
  pub known-decides : Decides (is_known N z v) (T (is_atom N v) ⊎ (v ∈ z.introduced))
  known-decides =
      or-decides (itself (is_atom N v))
      (reworded (λ r. Memᴰ.cast r.2 r.1) (λ m. (v, m, refl)) (any-decides (eqb-decides v) z.introduced))

  pub atom-known : T (is_atom N v) → T (is_known N z v)
  atom-known t = known-decides.from (inl t)

pub all_known-decides : (N : ℕ) (z : State) (L : List ℤ) → Decides (all_known N z L) ((y : ℤ) → y ∈ L → T (is_known N z (variable y)))
all_known-decides N z L = all-decides (λ y. itself (is_known N z (variable y))) L

pub name-decides : (z : State) (n : ℕ) (body : List ℤ) → Decides (is_name z n body) ((x : Named) × (x ∈ z.named) × ((x.name ≡ n) × (x.body ≡ body)))
name-decides z n body = any-decides (λ x. and-decides (eqb-decides x.name n) (same_list-decides x.body body)) z.named

pub has_name-decides : (z : State) (body : List ℤ) → Decides (has_name z body) ((x : Named) × (x ∈ z.named) × (x.body ≡ body))
has_name-decides z body = any-decides (λ x. same_list-decides x.body body) z.named

-- Questions by letter

-- 28
pub unnamed-decides : (P : List Rule) (z : State) (L : List ℤ)
    → Decides (is_unnamed_body P z L) (((r : Rule) × (r ∈ P) × (r.body ≡ ascending L)) × T (not (has_name z (ascending L))))
unnamed-decides P z L = and-decides (any-decides (λ r. same_list-decides r.body (ascending L)) P) (itself (not (has_name z (ascending L))))

-- 29: a rule that a `c` line names
abbrev pub Completes : List Rule → State → ℤ → List ℤ → Type 0
Completes P z n hs = (r : Rule) × (r ∈ P) × ((r.kind ≡ Normal) × ((r.heads ≡ hs) × T (is_name z (variable n) r.body)))

pub completion-decides : (P : List Rule) (z : State) (n : ℤ) (hs : List ℤ) → Decides (is_completion P z n hs) (Completes P z n hs)
completion-decides P z n hs =
    any-decides (λ r. and-decides (normal-decides r.kind) (and-decides (same_list-decides r.heads hs) (itself (is_name z (variable n) r.body)))) P

-- 30: each rule of h has its body's name among those given, and each of these is one of such a body
abbrev pub Supports : List Rule → State → ℤ → List ℤ → Type 0
Supports P z h ns =
    ((r : Rule) → r ∈ P → h ∈ r.heads → (n : ℤ) × (n ∈ ns) × T (is_name z (variable n) r.body))
    × ((n : ℤ) → n ∈ ns → (r : Rule) × (r ∈ P) × ((h ∈ r.heads) × T (is_name z (variable n) r.body)))

pub support-decides : (N : ℕ) (P : List Rule) (z : State) (h : ℤ) (ns : List ℤ)
    → Decides (is_support N P z h ns) (T (is_atom N (variable h)) × Supports P z h ns)
support-decides N P z h ns =
    and-decides (itself (is_atom N (variable h)))
    (and-decides (all-decides (λ r. if-decides (has-decides h r.heads) (any-decides (λ n. itself (is_name z (variable n) r.body)) ns)) P)
    (all-decides (λ n. any-decides (λ r. and-decides (has-decides h r.heads) (itself (is_name z (variable n) r.body))) P) ns))

-- 31
pub all_atoms-decides : (N : ℕ) (z : State) (U : List ℤ) → Decides (all_atoms N z U) ((x : ℤ) → x ∈ U → T (is_atom N (variable x)))
all_atoms-decides N z U = all-decides (λ x. itself (is_atom N (variable x))) U

-- 32
pub all_named-decides : (P : List Rule) (z : State) (U : List ℤ)
    → Decides (all_named P z U) ((r : Rule) → r ∈ P → T (is_external U r) → T (has_name z r.body))
all_named-decides P z U = all-decides (λ r. if-decides (itself (is_external U r)) (itself (has_name z r.body))) P
