-- Descending chains: places of one key, newest first. A chain's entry is one more than a place, and 0 at its end, so that entries of zeros are
-- empty chains. Nothing is said of what can be reached. The chains of nogoods by their literals, and of rules by a head, are such.
-- No reader of a public contract needs it.
-- Assumes nothing.
use Rattle.std.specs.Prelude.{◌≡◌, ◌⊎◌, ℕ, suc, ◌<◌}

-- `S x k`: there is a place x of key k; `M x k`: it is a member, which a walk must not miss. `bucket k` is the first entry of the chain of k, and
-- `before x` the entry that follows the place x. The numbers say how many keys and places there are.
pub record Descends (keys places : ℕ) (M S : ℕ → ℕ → Type 0) (bucket before : ℕ → ℕ) : Type 0 where
  pub member : (x k : ℕ) → M x k → S x k
  pub within : (x k : ℕ) → S x k → (x < places) × (k < keys)
  -- no member of a key stands above its chain's first place
  pub top : (x k : ℕ) → M x k → x < bucket k
  -- no member of a place's key stands between it and the one before it
  pub down : (x y k : ℕ) → M x k → S y k → x < y → x < before y
  -- what a chain has are places of its key, and they descend
  pub first : (k p : ℕ) → k < keys → bucket k ≡ suc p → S p k
  pub next : (y k p : ℕ) → S y k → before y ≡ suc p → S p k × (p < y)

-- what led to the place d: the chain's start, at 0; or the place before `over`
abbrev pub Leads : (ℕ → ℕ → Type 0) → (ℕ → ℕ) → (ℕ → ℕ) → ℕ → ℕ → ℕ → Type 0
Leads S bucket before k over d = (over ≡ 0 → bucket k ≡ suc d) × ((y : ℕ) → over ≡ suc y → S y k × (before y ≡ suc d))

-- among the first n entries, the one at i is v, and the others are as they were
abbrev pub Changed : ℕ → (ℕ → ℕ) → (ℕ → ℕ) → ℕ → ℕ → Type 0
Changed n f f' i v = (j : ℕ) → j < n → ((j ≡ i) × (f' j ≡ v)) ⊎ ((¬ (j ≡ i)) × (f' j ≡ f j))

-- the first n entries are as they were
abbrev pub Unchanged : ℕ → (ℕ → ℕ) → (ℕ → ℕ) → Type 0
Unchanged n f f' = (j : ℕ) → j < n → f' j ≡ f j
