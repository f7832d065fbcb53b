-- What the functions of src/lib.rt, src/units.rt and src/replay.rt promise of the assignment. Only private
-- functions cite this file; the contract of `refutes` names the derivation's `refuted` alone.
-- Assumes nothing.
use Rattle.std.specs.Prelude.{◌≡◌, ◌⊎◌, Bool, true, false, Option, Some, None, List, [], ◌∷◌, ℕ, zero, suc, ◌+◌, ◌≤◌, ◌<◌, ℤ, pos, negsuc, length, get_or, set}
use Rattle.words.specs.Limits.{entries}
use Rattle.words.specs.Lists.{◌∈◌}
use Rattle.words.specs.Literals.{variable, complement}
use Rattle.derivation.specs.Propagation.{Closure, Conflict}
use Rattle.nogoods.specs.Store.{Stored, live}
use Rattle.nogoods.specs.Records.{Encodes, dead_at, nogood_at}
use Rattle.propagation.specs.declared.units.Value.{Value}
use Rattle.propagation.specs.declared.units.Value.TheVariants.{True, False, Free}
use Rattle.propagation.specs.declared.units.Look.{Look}
use Rattle.propagation.specs.declared.units.Look.TheVariants.{All, Unit, Idle}
use Rattle.propagation.specs.declared.units.Derived.{Derived}
use Rattle.propagation.specs.declared.units.Derived.TheVariants.{Conflicting, Assigned, Nothing}
use Rattle.propagation.specs.declared.Swept.{Swept}
use Rattle.propagation.specs.declared.Swept.TheVariants.{Refuted, Changed, Same}

-- Assignments: an entry for each variable, 0 free, 1 true, 2 false

-- the entry of its variable that makes a literal true
abbrev pub entry : ℤ → ℕ
entry (pos n) = 1
entry (negsuc n) = 2

-- the assignment makes the literal true
abbrev pub Assigns : List ℕ → ℤ → Type 0
Assigns m z = get_or m (variable z) 0 ≡ entry z

-- what a literal's value says
abbrev pub Valued : List ℕ → ℤ → Value → Type 0
Valued m z True = Assigns m z
Valued m z False = Assigns m (complement z)
Valued m z Free = (¬ Assigns m z) × (¬ Assigns m (complement z))

-- every entry from `end` on is 0
abbrev pub BlankFrom : ℕ → List ℕ → Type 0
BlankFrom end m = (j : ℕ) → end ≤ j → get_or m j 0 ≡ 0

-- how many variables are free
abbrev pub free : List ℕ → ℕ
free [] = 0
free (zero ∷ m) = suc (free m)
free (suc zero ∷ m) = free m
free (suc (suc zero) ∷ m) = free m
free (suc (suc (suc n)) ∷ m) = suc (free m)

-- One nogood under an assignment

-- nothing follows: some literal is false, or two are not true
abbrev pub Settled : List ℕ → List ℤ → Type 0
Settled m g =
    ((z : ℤ) × (z ∈ g) × Assigns m (complement z))
    ⊎ ((y z : ℤ) × (y ∈ g) × (z ∈ g) × (¬ (y ≡ z)) × (¬ Assigns m y) × (¬ Assigns m z))

-- z is the one literal of g that is not true, and it is free
pub record Last (m : List ℕ) (g : List ℤ) (z : ℤ) : Type 0 where
  pub here : z ∈ g
  pub left : Valued m z Free
  pub others : (y : ℤ) → y ∈ g → ¬ (y ≡ z) → Assigns m y

-- every literal of g is true
abbrev pub AllTrue : List ℕ → List ℤ → Type 0
AllTrue m g = (z : ℤ) → z ∈ g → Assigns m z

-- what a look at g says
abbrev pub Looked : List ℕ → List ℤ → Look → Type 0
Looked m g All = AllTrue m g
Looked m g (Unit j) = (j < length g) × Last m g (get_or g j (pos 0))
Looked m g Idle = Settled m g

-- what is derived from g, and the assignment afterwards
abbrev pub Derives : List ℤ → List ℕ → List ℕ → Derived → Type 0
Derives g m m' Conflicting = (m' ≡ m) × AllTrue m g
Derives g m m' (Assigned v) = (z : ℤ) × (Last m g z) × (variable z ≡ v) × (m' ≡ set m v (entry (complement z)))
Derives g m m' Nothing = (m' ≡ m) × Settled m g

-- the same of the record at r: nothing follows from a dead one
abbrev pub DerivesAt : List ℤ → ℕ → List ℕ → List ℕ → Derived → Type 0
DerivesAt s r m m' Conflicting = (dead_at s r ≡ false) × Derives (nogood_at s r) m m' Conflicting
DerivesAt s r m m' (Assigned v) = (dead_at s r ≡ false) × Derives (nogood_at s r) m m' (Assigned v)
DerivesAt s r m m' Nothing = (m' ≡ m) × (dead_at s r ≡ false → Settled m (nogood_at s r))

-- Propagation

-- what the assignment makes true is in the closure
abbrev pub InClosure : List (List ℤ) → List ℤ → List ℕ → Type 0
InClosure gs L m = (z : ℤ) → Assigns m z → Closure gs L z

-- from m to m' the assignment grew by what follows from the nogoods
pub record Grows (s : List ℤ) (m m' : List ℕ) : Type 0 where
  pub sound : (stored : List Stored) (L : List ℤ) → Encodes s stored → InClosure (live stored) L m → InClosure (live stored) L m'
  pub kept : (z : ℤ) → Assigns m z → Assigns m' z
  pub size : length m' ≡ length m
  pub fewer : free m' ≤ free m

-- the nogoods and what the assignment makes true contradict each other
abbrev pub Clashes : List ℤ → List ℕ → Type 0
Clashes s m = (stored : List Stored) (L : List ℤ) → Encodes s stored → InClosure (live stored) L m → Conflict (live stored) L

-- nothing follows from any live nogood
abbrev pub AllSettled : List ℤ → List ℕ → Type 0
AllSettled s m = (stored : List Stored) → Encodes s stored → (g : List ℤ) → g ∈ live stored → Settled m g

-- what one pass over the nogoods says, and the assignment afterwards
abbrev pub Sweeps : List ℤ → List ℕ → List ℕ → Swept → Type 0
Sweeps s m m' Refuted = Clashes s m
Sweeps s m m' Changed = Grows s m m' × (free m' < free m)
Sweeps s m m' Same = (m' ≡ m) × AllSettled s m

-- after at most so many sweeps
abbrev pub Settles : List ℤ → ℕ → List ℕ → List ℕ → Swept → Type 0
Settles s rounds m m' Refuted = Clashes s m
Settles s rounds m m' Changed = Grows s m m' × (rounds + free m' ≤ free m)
Settles s rounds m m' Same = Grows s m m' × AllSettled s m'

-- a path came to a conflict, and the entries from an end on are free; or the assignment grew
abbrev pub Replays : List ℤ → List ℕ → List ℕ → Option ℕ → Type 0
Replays s m m' (Some end) = Clashes s m × ((end ≤ entries) × BlankFrom end m')
Replays s m m' None = Grows s m m'

-- a conflict was found, or the assignment can grow so that there is none
abbrev pub Ends : List ℤ → List ℕ → Bool → Type 0
Ends s m true = Clashes s m
Ends s m false = (m' : List ℕ) × Grows s m m' × AllSettled s m'
