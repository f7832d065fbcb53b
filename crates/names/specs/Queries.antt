-- What private functions of the checker cite, and no reader of a public contract needs: how the names of bodies are kept, which plain
-- rules a query asks for, and the names of their bodies. The steps' own definitions are derivation's; crate steps shows that what is
-- found here is what they ask for.
-- Assumes nothing.
use Rattle.std.specs.Prelude.{◌≡◌, ◌⊎◌, Bool, true, false, not, ◌&&◌, List, [], map, ℕ, ◌≤◌, eqb, ℤ, pos, length, take}
use Rattle.std.specs.Int.Signed.{lt_z}
use Rattle.words.specs.Lists.{any, filter}
use Rattle.words.specs.Literals.{variable, same_list, has}
use Rattle.aspif.specs.Rules.{Rule, Body, plain, weights, InputRule, all_plain, is_normal}
use Rattle.aspif.specs.Tables.{rules_at, sound_rules}
use Rattle.marks.specs.Marks.{listed, marked, Marks}
use Rattle.names.specs.ByName.{Called}
use Rattle.names.specs.declared.queries.Query.{Query}
use Rattle.names.specs.declared.queries.Query.TheVariants.{Head, External}

-- the table holds so many rules, which are sound and are those of ws
pub record HoldsRules (table : List ℤ) (rules : ℕ) (ws : List InputRule) : Type 0 where
  pub sound : sound_rules rules table ≡ true
  pub are : rules_at rules table ≡ ws

-- Names. `called` gives a body's name, 0 where it has none.

-- what is kept by rule: the name of a plain body; those of a weight body's bodies are kept by name alone, and where there is no weight
-- body nothing is kept by name
abbrev pub entry : (List ℤ → ℕ) → Body → ℕ
entry called (plain ls) = called ls
entry called (weights b l) = 0

pub record Kept (names : List ℕ) (bodies : List ℤ) (called : List ℤ → ℕ) (ws : List InputRule) : Type 0 where
  pub rules : length ws ≤ length names
  pub by_rule : take (length ws) names ≡ map (λ r. entry called r.body) ws
  pub by_name : all_plain ws ≡ false → Called bodies called

-- Queries

-- a positive literal whose atom is marked
abbrev pub is_inside : List ℕ → ℤ → Bool
is_inside m x = lt_z (pos 0) x && marked m (variable x)

-- the query asks for rules with these heads: with the head h, or with a head in the set that is marked
abbrev pub asks_heads : Query → List ℕ → List ℤ → Bool
asks_heads (Head h) m hs = has h hs
asks_heads External m hs = any (is_inside m) hs

-- the plain rule is asked for: by its heads, and no positive atom of its body is in the set
abbrev pub asks : Query → List ℕ → Rule → Bool
asks q m r = asks_heads q m r.heads && not (any (is_inside m) r.body)

-- the names of the bodies of those that are asked for
abbrev pub asked_names : Query → List ℕ → (List ℤ → ℕ) → List Rule → List ℕ
asked_names q m called P = map (λ r. called r.body) (filter (asks q m) P)

-- what is told of names by marks: they are those listed; or 0 is marked and listed, as some body has no name
abbrev pub MarksNames : List ℕ → List ℕ → Type 0
MarksNames m l = Marks m l ⊎ ((marked m 0 ≡ true) × (listed l 0 ≡ true))

-- question 29 of a plain rule: it is normal, has just the heads, and its body has the name
abbrev pub completing : (List ℤ → ℕ) → List ℤ → ℕ → Rule → Bool
completing called hs n r = is_normal r.kind && (same_list r.heads hs && eqb (called r.body) n)

-- a plain rule that is normal, has no heads and has the body
abbrev pub constraining : List ℤ → Rule → Bool
constraining B r = is_normal r.kind && (same_list r.heads [] && same_list B r.body)
