-- Loops: sets of atoms in which every atom reaches every atom (Change 5; `loop(P)` of source document 000, sections 2.1 and 3.1).
-- As a relation, and as a computation that contracts cite; proofs/Loops.antt shows that the two agree.
-- The numbers of a set are positive, so that `has` asks for positive literals and for heads.
-- Assumes nothing.
use Rattle.std.specs.Prelude.{Bool, true, not, ◌&&◌, List, [], ◌∷◌, ◌++◌, ℕ, zero, suc, T, ℤ, length}
use Rattle.words.specs.Lists.{◌∈◌, any, all, filter}
use Rattle.words.specs.Literals.{has}
use Rattle.aspif.specs.Rules.{Rule}

-- "An edge runs from a positive body atom to a head of the same rule"
abbrev pub is_edge : List Rule → ℤ → ℤ → Bool
is_edge P a b = any (λ r. has a r.body && has b r.heads) P

-- a reaches b "by one or more positive dependency edges inside the set"
pub data Reaches (P : List Rule) (U : List ℤ) : ℤ → ℤ → Type 0 where
  one : {a b : ℤ} → a ∈ U → b ∈ U → T (is_edge P a b) → Reaches P U a b
  more : {a b c : ℤ} → a ∈ U → b ∈ U → T (is_edge P a b) → Reaches P U b c → Reaches P U a c

-- "a set in which every atom reaches every atom, itself included"
abbrev pub Loop : List Rule → List ℤ → Type 0
Loop P U = (a b : ℤ) → a ∈ U → b ∈ U → Reaches P U a b

-- The computation: what the first atom reaches and what reaches it, each in rounds until nothing is new.

-- edges as f says, inside U
module _ (f : ℤ → ℤ → Bool) (U : List ℤ) where
  -- the members of U that are not found and have an edge from one that is
  abbrev pub neighbours : List ℤ → List ℤ
  neighbours A = filter (λ b. not (has b A) && any (λ a. f a b) A) U

  -- at most n rounds
  abbrev pub rounds : ℕ → List ℤ → List ℤ
  rounds zero A = A
  rounds (suc n) A = elim (neighbours A) [ [] ↦ A | x ∷ xs ↦ rounds n (x ∷ xs ++ A) ]

  -- from those with an edge from h; h itself is found only where an edge leads back. Every round but the last finds a
  -- member of U
  abbrev pub reached : ℤ → List ℤ
  reached h = rounds (length U) (filter (f h) U)

  -- h reaches every member of U
  abbrev pub reaches_all : ℤ → Bool
  reaches_all h = all (λ b. has b (reached h)) U

-- the first atom reaches all, and backwards too
unfoldable pub is_loop : List Rule → List ℤ → Bool
is_loop P [] = true
is_loop P (h ∷ hs) = reaches_all (is_edge P) (h ∷ hs) h && reaches_all (λ a b. is_edge P b a) (h ∷ hs) h
