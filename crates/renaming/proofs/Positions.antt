-- The steps of a text from a position on, for a walk over its lines. Assumes nothing.
use mathlib.Core.Path.{◌≡◌, refl}
use mathlib.Core.Bool.{Bool, true, false, cond}
use mathlib.Core.List.{List, [], ◌∷◌}
use Prim.Native.Nat.{ℕ, zero, suc, ◌+◌}
use lib.Dec.{ltb}
use lib.ListN.{length}
use Rattle.words.specs.Limits.{longest}
use Rattle.words.proofs.Lists.{zero_one}
use Rattle.drupe.specs.Lines.{LineAt, end, line, line_at}
use Rattle.drupe.specs.Lines as Lines
use Rattle.drupe.specs.Texts.{Step, StepsRead, steps, refused, after, steps_at, steps_within, steps_of}
use Rattle.drupe.specs.declared.ProofFault.TheVariants.{TooLong}

module _ (text : List ℕ) where
  -- the steps from the position on
  pub record Left (at : ℕ) (ts : List Step) : Type 0 where
    pub turns : ℕ
    pub done : ℕ
    pub read : steps_at text turns at done ≡ steps ts

  -- what the line at the position tells of them
  abbrev pub LeftBy : List Step → LineAt → Type 0
  LeftBy ts end = ts ≡ []
  LeftBy ts (Lines.refused k) = ⊥
  LeftBy ts (line x zs next) = (us : List Step) × (ts ≡ record { letter = x; numbers = zs } ∷ us) × Left next us

  pub left-start : {ts : List Step} → steps_of text ≡ steps ts → Left 0 ts
  unfolding steps_within
  left-start {ts} e = by (ltb longest (length text)) e
    where
      by : (b : Bool) → cond b (refused [] TooLong 0) (steps_at text (suc (length text)) 0 0) ≡ steps ts → Left 0 ts
      by true e = absurd (zero_one (cc))
      by false e = record { turns = suc (length text); done = 0; read = e }

  pub left_by : {at : ℕ} {ts : List Step} → Left at ts → LeftBy ts (line_at text at)
  unfolding steps_at
  left_by {at} {ts} l = by l.turns l.read
    where
      first : (t : Step) (n m : ℕ) (next : ℕ) (r : StepsRead) → steps_at text n next m ≡ r → after t r ≡ steps ts → (us : List Step) × (ts ≡ t ∷ us) × Left next us
      first t n m next (steps us) q e = (us, cc, record { turns = n; done = m; read = q })
      first t n m next (refused us k j) q e = absurd (zero_one (cc))

      turn : (n : ℕ) (o : LineAt) → elim o as (λ x. StepsRead) [
        | end ↦ steps []
        | Lines.refused k ↦ refused [] k (l.done + 1)
        | line x zs next ↦ after (record { letter = x; numbers = zs }) (steps_at text n next (l.done + 1))
      ] ≡ steps ts → LeftBy ts o
      turn n end e = cc
      turn n (Lines.refused k) e = absurd (zero_one (cc))
      turn n (line x zs next) e = first (record { letter = x; numbers = zs }) n (l.done + 1) next (steps_at text n next (l.done + 1)) refl e

      by : (n : ℕ) → steps_at text n at l.done ≡ steps ts → LeftBy ts (line_at text at)
      by zero e = absurd (zero_one (cc))
      by (suc n) e = turn n (line_at text at) e
