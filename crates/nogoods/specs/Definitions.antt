-- What the private functions of src/definitions.rt write: the nogoods that define a name by its literals.
-- Assumes nothing.
use Rattle.std.specs.Prelude.{List, [], ◌∷◌, ℕ, ◌+◌, ◌*◌, ◌-◌, ℤ, pos, drop, get_or}
use Rattle.words.specs.Literals.{complement, ascending}
use Rattle.derivation.specs.Steps.{definition}
use Rattle.nogoods.specs.Store.{header_size}

-- the name with a literal's complement
abbrev pub pair : ℤ → ℤ → List ℤ
pair n x = ascending (n ∷ complement x ∷ [])

-- how many words its record has
abbrev pub pair_size : ℕ
pair_size = header_size + 2

-- the definition of the first number by the others
abbrev pub defined : List ℤ → List (List ℤ)
defined numbers = definition (get_or numbers 0 (pos 0)) (drop 1 numbers)

-- how many words the records of a definition by so many numbers have
abbrev pub defined_size : ℕ → ℕ
defined_size n = header_size + n + pair_size * (n - 1)
