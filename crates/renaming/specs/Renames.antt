-- What the functions that make the second half's new names leave. No reader of the contract of a public service needs it.
-- Assumes nothing.
use Rattle.std.specs.Prelude.{◌≡◌, ◌⊎◌, Bool, true, false, cond, ◌||◌, List, [], map, ℕ, ◌+◌, ◌≤◌, ◌<◌, ltb, ℤ, pos, neg_ℤ, get_or, set, drop}
use Rattle.words.specs.Limits.{largest, entries}
use Rattle.words.specs.Lists.{◌∈◌, any}
use Rattle.words.specs.Literals.{variable, same_list, ascending}
use Rattle.aspif.specs.Rules.{Rule, InputRule, expand}
use Rattle.marks.specs.Marks.{marked}
use Rattle.text.specs.declared.Letter.{Letter}
use Rattle.text.specs.declared.Letter.TheVariants.{Addition, Body, Completion, Deletion, Extension, Loop, Support}
use Rattle.drupe.specs.Lines.{LineAt, end, line}
use Rattle.drupe.specs.Lines as Lines
use Rattle.drupe.specs.Texts.{Step, steps, steps_of}
use Rattle.derivation.specs.States.{Named, State, start, is_atom, is_known}
use Rattle.derivation.specs.Steps.{next}
use Rattle.derivation.specs.Steps as Steps
use Rattle.names.specs.Queries.{HoldsRules, Kept}
use Rattle.steps.specs.Held.{name_of}
use Rattle.merging.specs.Merge.{demanding, named_in, second_names, is_among, half, all_fit}
use Rattle.renaming.specs.declared.renames.RenameTurn.{RenameTurn}
use Rattle.renaming.specs.declared.renames.RenameTurn.TheVariants.{Ends, Over, Goes}

-- The halves of a split at v: the table holds the rules, the text's steps are the second half's, each half passes for its program; what is
-- known at the end of each is marked, and the first half's names of bodies are kept.
pub record Halves (text : List ℕ) (table : List ℤ) (rules N : ℕ) (known₁ known₂ names : List ℕ) (bodies : List ℤ)
    (ws : List InputRule) (v : ℕ) (one two : List Step) (z₁ z₂ : State) : Type 0 where
  pub holds : HoldsRules table rules ws
  pub atom : is_atom N v ≡ true
  pub read : steps_of text ≡ steps two
  pub first : Steps.steps N (demanding (expand ws) (pos v)) start one ≡ next z₁
  pub second : Steps.steps N (demanding (expand ws) (neg_ℤ (pos v))) start two ≡ next z₂
  pub knows₁ : (u : ℕ) → u ≤ largest → marked known₁ u ≡ is_known N z₁ u
  pub knows₂ : (u : ℕ) → u ≤ largest → marked known₂ u ≡ is_known N z₂ u
  pub kept : Kept names bodies (name_of (named_in [] one)) ws

-- the bodies that a half names
abbrev pub bodies_in : List Step → List (List ℤ)
bodies_in ts = map (λ y. y.body) (named_in [] ts)

-- the new names by variable, and marks of those names of the second half whose bodies the first half names
pub record NewNames (N : ℕ) (one two : List Step) (new shared : List ℕ) : Type 0 where
  pub names : (u : ℕ) → u ≤ largest → get_or new u 0 ≡ second_names N one two u
  pub within : (u : ℕ) → get_or new u 0 ≤ largest
  pub marks : (y : Named) → y ∈ named_in [] two → marked shared y.name ≡ is_among (bodies_in one) y.body

-- true with the new names; false where some line of the second half would hold a number over its limit
abbrev pub RenamedAll : ℕ → List Rule → (v : ℕ) → (one two : List Step) → (new shared : List ℕ) → Bool → Type 0
RenamedAll N P v one two new shared true = NewNames N one two new shared
RenamedAll N P v one two new shared false =
    all_fit (half P (neg_ℤ (pos v)) (second_names N one two) (bodies_in one) [] two) ≡ false

-- One line

-- the next number from n on that neither half knows, 8,192 where there is none
pub record NextFree (known₁ known₂ : List ℕ) (n r : ℕ) : Type 0 where
  pub above : n ≤ r
  pub within : r ≤ entries
  pub free : r ≤ largest → (marked known₁ r || marked known₂ r) ≡ false
  pub taken : (k : ℕ) → n ≤ k → k < r → (marked known₁ k || marked known₂ k) ≡ true

-- Numbers below c are given out or taken, and r is c afterwards; 8,193 where no number was left.
module _ (known₁ known₂ : List ℕ) (c : ℕ) (new new' : List ℕ) (r : ℕ) where
  -- the name n stays where the first half does not know it, and becomes the next free number where it does
  abbrev pub OtherNamed : ℕ → Type 0
  OtherNamed n =
      ((marked known₁ n ≡ false) × (new' ≡ new) × (r ≡ c))
      ⊎ ((marked known₁ n ≡ true) × ((k : ℕ) × NextFree known₁ known₂ c k × ((new' ≡ set new n k) × (r ≡ k + 1))))

  module _ (shared shared' : List ℕ) where
    -- the name n is that of a body which the first half calls k, where k is a variable
    abbrev pub BodyNamed : (k n : ℕ) → Type 0
    BodyNamed k n =
        ((1 ≤ k) × (k ≤ largest) × ((new' ≡ set new n k) × (shared' ≡ set shared n 1) × (r ≡ c)))
        ⊎ ((1 ≤ k → largest < k) × (OtherNamed n × (shared' ≡ shared)))

    abbrev pub Unrenamed : Type 0
    Unrenamed = (new' ≡ new) × (shared' ≡ shared) × (r ≡ c)

    -- by letter; `called` gives the first half's name of a body
    abbrev pub LineRenamed : List Rule → (List ℤ → ℕ) → Letter → List ℤ → Type 0
    LineRenamed P called Addition zs = Unrenamed
    LineRenamed P called Body zs =
        BodyNamed (cond (any (λ x. same_list (ascending (drop 1 zs)) x.body) P) (called (ascending (drop 1 zs))) entries)
        (variable (get_or zs 0 (pos 0)))
    LineRenamed P called Completion zs = Unrenamed
    LineRenamed P called Deletion zs = Unrenamed
    LineRenamed P called Extension zs = OtherNamed (variable (get_or zs 0 (pos 0))) × (shared' ≡ shared)
    LineRenamed P called Loop zs = Unrenamed
    LineRenamed P called Support zs = Unrenamed

-- a position and where new names are looked for from there on, unless a new name is above the largest variable
abbrev pub rename_turn : (at cursor : ℕ) → RenameTurn
rename_turn at c = cond (ltb entries c) Over (Goes at c)

-- what the line at a position comes to
module _ (known₁ known₂ : List ℕ) (c : ℕ) (new new' shared shared' : List ℕ) (P : List Rule) (called : List ℤ → ℕ) where
  abbrev pub TurnRenamed : LineAt → RenameTurn → Type 0
  TurnRenamed end r = (r ≡ Ends) × (new' ≡ new) × (shared' ≡ shared)
  TurnRenamed (Lines.refused k) r = r ≡ Over
  TurnRenamed (line x zs at) r =
      (c' : ℕ) × (r ≡ rename_turn at c') × LineRenamed known₁ known₂ c new new' c' shared shared' P called x zs

-- a turn that goes on is past the position, within a text of so many bytes
abbrev pub TurnBounds : (at size : ℕ) → RenameTurn → Type 0
TurnBounds at size Ends = Unit {0}
TurnBounds at size Over = Unit {0}
TurnBounds at size (Goes n c) = (at < n) × (n ≤ size) × (c ≤ entries)
