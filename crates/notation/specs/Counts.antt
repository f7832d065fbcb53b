-- What the contracts of the program's readers cite. Assumes nothing.
use Rattle.std.specs.Prelude.{◌≡◌, List, ℕ, ◌≤◌, length, take}

-- n counts elements at the front of xs. The second part follows from the first, and is what a part `&xs[..n]` asks.
abbrev pub Counts : {A : Type 0} → ℕ → List A → Type 0
Counts n xs = (n ≤ length xs) × (n ≡ length (take n xs))
