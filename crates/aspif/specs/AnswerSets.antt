-- Reduct, least model and answer set: document 01, 'Answer sets'. A set is any predicate on numbers; nothing is assumed
-- decidable. Programs are lists of rules over any numbers, read or not.
-- Assumes nothing.
use Rattle.std.specs.Prelude.{◌≡◌, ◌↔◌, List, [], ℕ, suc, pos, negsuc}
use Rattle.words.specs.Lists.{◌∈◌}
use Rattle.aspif.specs.Rules.{Rule}
use Rattle.aspif.specs.declared.Kind.{Kind}
use Rattle.aspif.specs.declared.Kind.TheVariants.{Normal, Choice}

-- "A normal rule has 0 or 1 heads; with 0 it is a constraint"
abbrev pub Constraint : Rule → Type 0
Constraint r = (r.kind ≡ Normal) × (r.heads ≡ [])

module _ (M : ℕ → Type 0) where
  -- "the reduct takes each rule whose negated atoms are all outside M"
  abbrev pub Taken : Rule → Type 0
  Taken r = (n : ℕ) → negsuc n ∈ r.body → ¬ M (suc n)

  -- a choice rule gives a head only if it is in M
  abbrev pub Chosen : Kind → ℕ → Type 0
  Chosen Normal h = Unit {0}
  Chosen Choice h = M h

  -- "A normal rule gives its head .. a choice rule does so for each head that is in M; constraints give nothing"
  abbrev pub Gives : Rule → ℕ → Type 0
  Gives r h = (pos h ∈ r.heads) × Chosen r.kind h

  -- the least model of the reduct of P: a rule that is taken gives its head "from its positive atoms"
  pub data LeastModel (P : List Rule) : ℕ → Type 0 where
    derive : {h : ℕ} (r : Rule) → r ∈ P → Taken r → Gives r h → ((a : ℕ) → pos a ∈ r.body → LeastModel P a) → LeastModel P h

  -- "has its positive atoms all in M and its negated atoms all outside"
  abbrev pub Met : Rule → Type 0
  Met r = ((a : ℕ) → pos a ∈ r.body → M a) × Taken r

  -- "M is an answer set when it equals the least model of this reduct and no constraint has .."
  pub record AnswerSet (P : List Rule) : Type 0 where
    pub least : (a : ℕ) → M a ↔ LeastModel P a
    pub kept : (r : Rule) → r ∈ P → Constraint r → ¬ Met r
