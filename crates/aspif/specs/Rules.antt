-- Rules as they are written, the plain rules that they stand for, and the words that hold them: document 01, 'Program text', with the
-- weight bodies of Change 3.
-- Assumes nothing.
use Rattle.std.specs.Prelude.{Bool, true, false, ◌&&◌, List, [], ◌∷◌, ◌++◌, map, ℕ, ◌-◌, max, leb, ℤ, pos, length, replicate}
use Rattle.std.specs.Int.Signed.{le_z}
use Rattle.words.specs.Lists.{concat, all}
use Rattle.words.specs.Limits.{most_literals}
use Rattle.words.specs.Literals.{variable, top}
use Rattle.weights.specs.Weights.{Weighted, literals, bodies, pair_words, most_weight}
use Rattle.aspif.specs.declared.Kind.{Kind}
use Rattle.aspif.specs.declared.Kind.TheVariants.{Normal, Choice}

-- A plain rule. Heads are atoms, as the literals that say them true; "a negative literal is a default-negated atom".
pub record Rule : Type 0 where
  pub kind : Kind
  pub heads : List ℤ
  pub body : List ℤ

-- The body of a rule as it is written: "body kind 0", its literals, or "the ASPIF weight body (kind 1, bound, literals each with a
-- weight)". A body that is read has its literals ascending by atom.
pub data Body : Type 0 where
  plain : (literals : List ℤ) → Body
  weights : (bound : ℕ) (pairs : List Weighted) → Body

-- A rule as it is written. One that is read has its heads ascending.
pub record InputRule : Type 0 where
  pub kind : Kind
  pub heads : List ℤ
  pub body : Body

-- the literals that a body names, those of weight 0 and those that reach no bound included
abbrev pub literals_of : Body → List ℤ
literals_of (plain ls) = ls
literals_of (weights b l) = literals l

-- no weight body, of one rule and of all
abbrev pub is_plain_body : Body → Bool
is_plain_body (plain ls) = true
is_plain_body (weights b l) = false

abbrev pub is_plain : InputRule → Bool
is_plain r = is_plain_body r.body

abbrev pub all_plain : List InputRule → Bool
all_plain rs = all is_plain rs

-- The bodies of the plain rules: "such a rule stands for one plain rule of the same head for each subset-minimal set of literals that
-- reaches the bound"
unfoldable pub bodies_of : Body → List (List ℤ)
bodies_of (plain ls) = ls ∷ []
bodies_of (weights b l) = bodies b l

-- the plain rule with a rule's kind and heads and one of its bodies
abbrev pub with_body : InputRule → List ℤ → Rule
with_body r ls = record { kind = r.kind; heads = r.heads; body = ls }

unfoldable pub expand_rule : InputRule → List Rule
expand_rule r = map (with_body r) (bodies_of r.body)

-- the plain rules that a program stands for: "this expansion, which is what the answer sets are of"
unfoldable pub expand : List InputRule → List Rule
expand rs = concat (map expand_rule rs)

abbrev pub is_normal : Kind → Bool
is_normal Normal = true
is_normal Choice = false

-- "A normal rule has 0 or 1 heads; with 0 it is a constraint. A choice rule has 1 to 64.": whether the head count suits the kind
abbrev pub suits : Kind → ℕ → Bool
suits Normal heads = leb heads 1
suits Choice heads = leb 1 heads

-- "Are both counts .. 0 to 64", of a word that stands for a count
abbrev pub is_count : ℤ → Bool
is_count w = le_z (pos 0) w && leb (variable w) most_literals

abbrev pub is_empty : List ℤ → Bool
is_empty [] = true
is_empty (z ∷ zs) = false

-- "Bound and weights are 0 to 4,095", of a word that stands for one
abbrev pub is_weight : ℤ → Bool
is_weight w = le_z (pos 0) w && leb (variable w) most_weight

-- the largest number that f gives an element, 0 where there is none
abbrev pub greatest : {A : Type 0} → (A → ℕ) → List A → ℕ
greatest f [] = 0
greatest f (x ∷ l) = max (f x) (greatest f l)

-- the largest atom that a rule names
abbrev pub rule_top : InputRule → ℕ
rule_top r = max (top r.heads) (top (literals_of r.body))

-- "N is the largest atom named, 0 if none; the atoms are 1 to N": N counts "the rules as written"
abbrev pub atoms : List InputRule → ℕ
atoms rs = greatest rule_top rs

-- the largest atom of plain rules, which may be less: a literal of weight 0, or of a bound that is not reached, is in no body
abbrev pub plain_atoms : List Rule → ℕ
plain_atoms rs = greatest (λ (r : Rule). max (top r.heads) (top r.body)) rs

-- "head kind (0 normal, 1 choice)"
abbrev pub kind_word : Kind → ℤ
kind_word Normal = pos 0
kind_word Choice = pos 1

-- "its body kind after the head count"
abbrev pub body_kind_word : Body → ℤ
body_kind_word (plain ls) = pos 0
body_kind_word (weights b l) = pos 1

-- "with kind 1 the bound after the body count"
abbrev pub bound_words : Body → List ℤ
bound_words (plain ls) = []
bound_words (weights b l) = pos b ∷ []

-- "and a weight after each literal"
abbrev pub body_words : Body → List ℤ
body_words (plain ls) = ls
body_words (weights b l) = pair_words l

-- "in signed 32-bit words: head kind, head count," body kind, "body count," with kind 1 the bound, "heads ascending, body literals
-- ascending by atom", with kind 1 each with its weight behind it
abbrev pub rule_words : InputRule → List ℤ
rule_words r =
    kind_word r.kind ∷ pos (length r.heads) ∷ body_kind_word r.body ∷ pos (length (literals_of r.body))
    ∷ (bound_words r.body ++ (r.heads ++ body_words r.body))

-- "The lent table" (document 01's term for the words that the caller lends for the rules) "holds the rules in order"
abbrev pub program_words : List InputRule → List ℤ
program_words rs = concat (map rule_words rs)

-- a table of the length given: "All later words are 0"
abbrev pub table_words : ℕ → List InputRule → List ℤ
table_words size rs = program_words rs ++ replicate (size - length (program_words rs)) (pos 0)
