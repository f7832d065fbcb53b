-- "The steps work on three things: the live nogoods oldest first, the known variables, and which rule body has which name."
-- Assumes nothing.
use Rattle.std.specs.Prelude.{Bool, ◌&&◌, ◌||◌, List, [], ℕ, eqb, leb, ℤ}
use Rattle.words.specs.Lists.{any}
use Rattle.words.specs.Literals.{same_list}

-- a rule body with its name
pub record Named : Type 0 where
  pub name : ℕ
  pub body : List ℤ

-- The three things: the live nogoods, each a set of literals kept ascending by variable; the names that `b` and `e` introduced,
-- which with the atoms are the known variables; and the rule bodies that have names.
pub record State : Type 0 where
  pub live : List (List ℤ)
  pub introduced : List ℕ
  pub named : List Named

-- "At the start there are no nogoods and no names, and the atoms alone are known."
abbrev pub start : State
start = record { live = []; introduced = []; named = [] }

-- "the atoms are 1 to N". N, the program's largest atom, is given beside the rules: a program as written can name atoms that
-- stand in no plain rule.
abbrev pub is_atom : ℕ → ℕ → Bool
is_atom N v = leb 1 v && leb v N

-- "Known are the atoms, and the names that earlier `b` and `e` steps introduced."
abbrev pub is_known : ℕ → State → ℕ → Bool
is_known N z v = is_atom N v || any (eqb v) z.introduced

-- n is the name of the rule body
abbrev pub is_name : State → ℕ → List ℤ → Bool
is_name z n body = any (λ x. eqb x.name n && same_list x.body body) z.named

-- the rule body has a name
abbrev pub has_name : State → List ℤ → Bool
has_name z body = any (λ x. same_list x.body body) z.named
