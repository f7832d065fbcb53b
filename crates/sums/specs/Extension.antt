-- A program with definitions added: new atoms that say of sums of old literals that they reach a bound. That it is a conservative extension,
-- proofs/Extension.antt proves.
-- Assumes nothing.
use Rattle.std.specs.Prelude.{◌≡◌, ◌⊎◌, ◌↔◌, List, [], ◌∷◌, ℕ, suc, ◌≤◌, ◌<◌, ℤ, pos, negsuc}
use Rattle.words.specs.Lists.{◌∈◌}
use Rattle.words.specs.Literals.{variable}
use Rattle.weights.specs.Weights.{Weighted, sum, bodies}
use Rattle.weights.specs.Claims.{◌⊑◌, Reorder}
use Rattle.aspif.specs.Rules.{Rule}
use Rattle.aspif.specs.AnswerSets.{Taken, Gives, AnswerSet}
use Rattle.sums.specs.Plans.{Definition}

-- what a literal says where the atoms are those of X and the negated ones are read in M
abbrev pub Holding : (X M : ℕ → Type 0) → ℤ → Type 0
Holding X M (pos v) = X v
Holding X M (negsuc n) = ¬ M (suc n)

-- the weights of literals that hold add up to the bound or more: some of the literals all hold and weigh enough
pub record SumReaches (H : ℤ → Type 0) (l : List Weighted) (bound : ℕ) : Type 0 where
  pub part : List Weighted
  pub of : part ⊑ l
  pub hold : (x : Weighted) → x ∈ part → H x.literal
  pub enough : bound ≤ sum part

-- what a new atom says
abbrev pub Says : (H : ℤ → Type 0) → Definition → Type 0
Says H e = SumReaches H e.pairs e.bound

-- Y has what the reduct by M gives from it
abbrev pub Closed : (M Y : ℕ → Type 0) → List Rule → Type 0
Closed M Y P = (r : Rule) → r ∈ P → Taken M r → (h : ℕ) → Gives M r h → ((a : ℕ) → pos a ∈ r.body → Y a) → Y h

abbrev pub with_literals : Rule → List ℤ → Rule
with_literals r ls = record { kind = r.kind; heads = r.heads; body = ls }

-- where a rule of the program with definitions comes from: it was there; it has an atom in place of a sum, in any order of its literals; or it
-- defines an atom, and gives it only where what the atom says holds
pub data Origin (P : List Rule) (D : List Definition) (r : Rule) : Type 1 where
  kept : r ∈ P → Origin P D r
  used : (d : Definition) → d ∈ D → r.body ≡ pos d.atom ∷ [] → (l : List Weighted) → Reorder l d.pairs
      → ((ls : List ℤ) → ls ∈ bodies d.bound l → with_literals r ls ∈ P) → Origin P D r
  defining : (d : Definition) → d ∈ D → r.heads ≡ pos d.atom ∷ []
      → ((X M : ℕ → Type 0) → ((e : Definition) → e ∈ D → X e.atom → Says (Holding X M) e)
      → ((z : ℤ) → z ∈ r.body → Holding X M z) → Says (Holding X M) d)
      → Origin P D r

-- a rule of P is still there, or an atom stands for the sum that its body is of
abbrev pub Carried : (Q : List Rule) (D : List Definition) → Rule → Type 0
Carried Q D r =
    (r ∈ Q)
    ⊎ ((d : Definition) × (d ∈ D) × (with_literals r (pos d.atom ∷ []) ∈ Q)
    × ((l : List Weighted) × Reorder l d.pairs × (r.body ∈ bodies d.bound l)))

-- Q is P with the definitions D, over atoms above N
pub record Extends (N : ℕ) (P Q : List Rule) (D : List Definition) : Type 1 where
  pub old_heads : (r : Rule) → r ∈ P → (z : ℤ) → z ∈ r.heads → variable z ≤ N
  pub old_body : (r : Rule) → r ∈ P → (z : ℤ) → z ∈ r.body → variable z ≤ N
  pub old_pairs : (d : Definition) → d ∈ D → (x : Weighted) → x ∈ d.pairs → variable x.literal ≤ N
  pub new : (d : Definition) → d ∈ D → N < d.atom
  pub once : (d e : Definition) → d ∈ D → e ∈ D → d.atom ≡ e.atom → d ≡ e
  pub each : (r : Rule) → r ∈ Q → Origin P D r
  pub carried : (r : Rule) → r ∈ P → Carried Q D r
  -- what a new atom says is enough to derive it
  pub derived : (M Y : ℕ → Type 0) → Closed M Y Q → (d : Definition) → d ∈ D → Says (Holding Y M) d → Y d.atom

-- what K has of the atoms up to N
abbrev pub UpTo : (N : ℕ) (K : ℕ → Type 0) → ℕ → Type 0
UpTo N K a = (a ≤ N) × K a

-- X on the atoms up to N, and on the new ones what they say
abbrev pub Extended : (N : ℕ) (D : List Definition) (M X : ℕ → Type 0) → ℕ → Type 0
Extended N D M X a = UpTo N X a ⊎ ((d : Definition) × (d ∈ D) × (d.atom ≡ a) × Says (Holding X M) d)

-- an answer set, with the new atoms that it makes true, is one of the program with definitions
abbrev pub ExtensionKeeps : Type 1
ExtensionKeeps =
    (N : ℕ) (P Q : List Rule) (D : List Definition) → Extends N P Q D
    → (M : ℕ → Type 0) → AnswerSet M P → AnswerSet (Extended N D M M) Q

-- which has the same old atoms
abbrev pub ExtensionAgrees : Type 1
ExtensionAgrees =
    (N : ℕ) (P Q : List Rule) (D : List Definition) → Extends N P Q D
    → (M : ℕ → Type 0) → AnswerSet M P → (a : ℕ) → M a ↔ UpTo N (Extended N D M M) a

-- and what an answer set of that has of the old atoms is one of the program without
abbrev pub ExtensionConserves : Type 1
ExtensionConserves =
    (N : ℕ) (P Q : List Rule) (D : List Definition) → Extends N P Q D
    → (K : ℕ → Type 0) → AnswerSet K Q → AnswerSet (UpTo N K) P

-- of which it is the only extension: a new atom is in it just where what it says holds
abbrev pub ExtensionDetermines : Type 1
ExtensionDetermines =
    (N : ℕ) (P Q : List Rule) (D : List Definition) → Extends N P Q D
    → (K : ℕ → Type 0) → AnswerSet K Q → (a : ℕ) → K a ↔ Extended N D (UpTo N K) (UpTo N K) a
