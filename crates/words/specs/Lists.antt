-- Tests over a list, and what they keep of it.
-- Assumes nothing.
use Rattle.std.specs.Prelude.{Bool, true, cond, ◌&&◌, ℕ, ltb, leb}
-- `any f l`: some element passes; `all f l`: every element does; `filter f l`: those that pass, in their order
pub use Rattle.std.specs.List.{list_any as any, list_all as all, filter}
use mathlib.Core.List.{List, [], ◌∷◌, ◌++◌, Memᴰ}

infix 4 ◌∈◌
-- x stands in the list
abbrev pub ◌∈◌ : {A : Type 0} → A → List A → Type 0
x ∈ l = Memᴰ x l

module _ {A : Type 0} where
  -- all but the first that passes
  abbrev pub drop_first : (A → Bool) → List A → List A
  drop_first f [] = []
  drop_first f (x ∷ l) = cond (f x) l (x ∷ drop_first f l)

-- the lists one after another
abbrev pub concat : {A : Type 0} → List (List A) → List A
concat [] = []
concat (l ∷ ls) = l ++ concat ls

-- each number is above the one before, the first above `low`, and none is above `high`
abbrev pub ascends : ℕ → ℕ → List ℕ → Bool
ascends low high [] = true
ascends low high (n ∷ ns) = ltb low n && (leb n high && ascends n high ns)
