-- An index of a program without weight bodies, made once for a check and lent to the steps: where each rule starts in the table, chains of the heads
-- by atom, and chains of the rules by their bodies. What private functions of the checker cite.
-- Assumes nothing.
use Rattle.std.specs.Prelude.{Option, Some, None, ◌≡◌, Bool, true, false, cond, not, ◌&&◌, ◌||◌, List, [], ◌∷◌, ◌++◌, map, ℕ, zero, suc, ◌+◌, ◌*◌, ◌%◌, ◌≤◌, ◌<◌, eqb, ℤ, pos, length, take, drop, get_or}
use Rattle.std.specs.Int.Signed.{lt_z}
use Rattle.words.specs.Limits.{largest, entries, most_held}
use Rattle.words.specs.Lists.{◌∈◌, any, all}
use Rattle.words.specs.Literals.{variable, has, mentions, same_list, distinct, rising}
use Rattle.words.specs.Descending.{Descends}
use Rattle.aspif.specs.Rules.{Rule, all_plain, is_normal}
use Rattle.marks.specs.Marks.{listed}
use Rattle.names.specs.Queries.{is_inside}
use Rattle.aspif.specs.Tables.{size_at, heads_at, body_words_at, rule_at, rules_at}

-- Rules by their numbers, from 0 on

-- where rule k starts in the words
unfoldable pub start_of : ℕ → List ℤ → ℕ
start_of zero ws = 0
start_of (suc k) ws = size_at ws + start_of k (drop (size_at ws) ws)

-- the words from there on
abbrev pub words_from : ℕ → List ℤ → List ℤ
words_from k ws = drop (start_of k ws) ws

-- The regions of the index: whether it covers the program; where each rule starts; the first entry of each atom's chain; the entry that follows each
-- head, and its rule; the first entry of each chain of bodies; the entry that follows each rule. Heads are counted through all rules.

-- the most heads of a program that is covered, and how many chains of bodies there are
abbrev pub most_heads : ℕ
most_heads = 8192

abbrev pub hashes : ℕ
hashes = 2048

abbrev pub starts_at : ℕ
starts_at = 1

abbrev pub first_at : ℕ
first_at = starts_at + most_held

abbrev pub next_at : ℕ
next_at = first_at + entries

abbrev pub owner_at : ℕ
owner_at = next_at + most_heads

abbrev pub bucket_at : ℕ
bucket_at = owner_at + most_heads

abbrev pub before_at : ℕ
before_at = bucket_at + hashes

abbrev pub index_words : ℕ
index_words = before_at + most_held

-- The words that hold the names of bodies: one for each rule, and behind these the hints, of which nothing is said.
abbrev pub hints : ℕ
hints = 1024

abbrev pub name_words : ℕ
name_words = most_held + hints

-- where the hint for a name stands
abbrev pub hint_of : ℕ → ℕ
hint_of name = most_held + name % hints

-- a rule as it stands in the index and in the hints: one more than its number, 0 for none
abbrev pub linked : Option ℕ → ℕ
linked None = 0
linked (Some k) = suc k

-- Heads

-- a head with its rule
pub record Headed : Type 0 where
  pub rule : ℕ
  pub head : ℕ

abbrev pub headed_by : ℕ → ℤ → Headed
headed_by k h = record { rule = k; head = variable h }

-- those of the first rules, in their order
unfoldable pub headed_to : ℕ → List ℤ → List Headed
headed_to zero t = []
headed_to (suc k) t = headed_to k t ++ map (headed_by k) (heads_at (words_from k t))

-- the one at a place
abbrev pub headed_at : List Headed → ℕ → Headed
headed_at es x = get_or es x (record { rule = 0; head = 0 })

abbrev pub Place : List Headed → ℕ → ℕ → Type 0
Place es x v = (x < length es) × ((headed_at es x).head ≡ v)

-- the index has these heads: each one's rule, and the chains by atom
pub record HeadChains (index : List ℕ) (es : List Headed) : Type 0 where
  pub few : length es ≤ most_heads
  pub owner : (x : ℕ) → x < length es → get_or index (owner_at + x) 0 ≡ (headed_at es x).rule
  pub chains : Descends entries most_heads (Place es) (Place es) (λ v. get_or index (first_at + v) 0) (λ x. get_or index (next_at + x) 0)

-- Bodies

-- the key of a list of literals, of which one is known: the order of the literals counts, and their signs
unfoldable pub mixed : ℕ → ℤ → ℕ
mixed h z = (h * 1567 + variable z + cond (lt_z z (pos 0)) 1024 0) % hashes

unfoldable pub hash_from : ℕ → List ℤ → ℕ
hash_from h [] = h
hash_from h (z ∷ zs) = hash_from (mixed h z) zs

-- rule k is one of the first n, and its body has the key
abbrev pub BodyPlace : List ℤ → ℕ → ℕ → ℕ → Type 0
BodyPlace t n k h = (k < n) × (hash_from 0 (body_words_at (words_from k t)) ≡ h)

-- The index

-- it has the first n rules of the table
pub record Entered (index : List ℕ) (table : List ℤ) (n : ℕ) : Type 0 where
  pub starts : (k : ℕ) → k < n → get_or index (starts_at + k) 0 ≡ start_of k table
  pub heads : HeadChains index (headed_to n table)
  pub bodies : Descends hashes most_held (BodyPlace table n) (BodyPlace table n) (λ h. get_or index (bucket_at + h) 0) (λ k. get_or index (before_at + k) 0)

-- it has all of them, and none has a weight body
pub record Covers (index : List ℕ) (table : List ℤ) (rules : ℕ) : Type 0 where
  pub entered : Entered index table rules
  pub plain : all_plain (rules_at rules table) ≡ true

abbrev pub covered : List ℕ → Bool
covered index = eqb (get_or index 0 0) 1

-- what is asked of an index that is lent: where it says that it covers the program, it does. An index of one 0 says that it does not.
abbrev pub Indexed : List ℕ → List ℤ → ℕ → Type 0
Indexed index table rules = covered index ≡ true → Covers index table rules

-- Answers

-- question 30 but for h being an atom: each rule with the head h has a listed name, and each listed name is that of such a rule's body
abbrev pub is_just_names : (List ℤ → ℕ) → ℤ → List ℤ → List Rule → Bool
is_just_names called h ns P =
    all (λ r. not (has h r.heads) || mentions (called r.body) ns) P
    && all (λ n. any (λ r. has h r.heads && eqb (called r.body) (variable n)) P) ns

-- rule k has the head v
abbrev pub HasHead : List ℤ → ℕ → ℕ → ℕ → Type 0
HasHead t rules v k = (k < rules) × (has (pos v) (heads_at (words_from k t)) ≡ true)

-- the name of rule k's body is the listed number at a place that was hit
abbrev pub Hit : List ℕ → List ℤ → List Bool → ℕ → Type 0
Hit names ns hits k = (j : ℕ) × (j < length ns) × ((variable (get_or ns j (pos 0)) ≡ get_or names k 0) × (get_or hits j false ≡ true))

-- the listed numbers that the rules with the head v hit, where each hits one; or such a rule that hits none
abbrev pub Listed : List ℤ → ℕ → List ℕ → ℕ → List ℤ → List Bool → Bool → Type 0
Listed t rules names v ns hits true =
    ((k : ℕ) → HasHead t rules v k → Hit names ns hits k)
    × ((j : ℕ) → get_or hits j false ≡ true → (k : ℕ) × HasHead t rules v k × (get_or names k 0 ≡ variable (get_or ns j (pos 0))))
Listed t rules names v ns hits false = (k : ℕ) × HasHead t rules v k × (mentions (get_or names k 0) ns ≡ false)

-- a rule with the body, or that there is none
abbrev pub RuleWith : List ℤ → ℕ → List ℤ → Option ℕ → Type 0
RuleWith t rules body None = (k : ℕ) → k < rules → same_list body (body_words_at (words_from k t)) ≡ false
RuleWith t rules body (Some k) = (k < rules) × (same_list body (body_words_at (words_from k t)) ≡ true)

-- the rule at the front is normal with just these heads, and what is kept of it is the name
abbrev pub Completes : List ℤ → List ℤ → ℕ → ℕ → Type 0
Completes ws hs name kept = ((is_normal (rule_at ws).kind && same_list (heads_at ws) hs) ≡ true) × (kept ≡ name)

-- The names of the external bodies of an `l` step's set, which is marked

-- rule k is external: some head of it is in the set, and no positive atom of its body is
abbrev pub IsExternal : List ℤ → ℕ → List ℕ → ℕ → Type 0
IsExternal t rules m k =
    (k < rules) × (any (is_inside m) (heads_at (words_from k t)) ≡ true) × (any (is_inside m) (body_words_at (words_from k t)) ≡ false)

-- the words of a row for names: one for each rule that there may be, and one more
abbrev pub row_words : ℕ
row_words = most_held + 1

-- the first n words of such a row are variables, and no one stands twice
pub record Row (row : List ℤ) (n : ℕ) : Type 0 where
  pub long : length row ≡ row_words
  pub within : n ≤ row_words
  pub once : distinct (take n row) ≡ true
  pub good : (x : ℤ) → x ∈ take n row → (x ≡ pos (variable x)) × (1 ≤ variable x) × (variable x ≤ largest)

-- they are names of external bodies
pub record Collected (t : List ℤ) (rules : ℕ) (names m : List ℕ) (row : List ℤ) (n : ℕ) : Type 0 where
  pub is : Row row n
  pub sound : (x : ℤ) → x ∈ take n row → (k : ℕ) × IsExternal t rules m k × (get_or names k 0 ≡ variable x)

-- a name is among them, as far as it is a variable
abbrev pub InRow : List ℤ → ℕ → ℕ → Type 0
InRow row n v = (1 ≤ v) × (v ≤ largest → pos v ∈ take n row)

-- after n words of a row, the rules that P is of and that are external have their names among the r words there are then
pub record Gathered (t : List ℤ) (rules : ℕ) (names m : List ℕ) (P : ℕ → Type 0) (before : List ℤ) (n : ℕ) (row : List ℤ) (r : ℕ) : Type 0 where
  pub collected : Collected t rules names m row r
  pub keeps : (x : ℤ) → x ∈ take n before → x ∈ take r row
  pub all : (k : ℕ) → P k → IsExternal t rules m k → InRow row r (get_or names k 0)

-- what is gathered: these names; or some external body has none
abbrev pub Gathers : List ℤ → ℕ → List ℕ → List ℕ → (ℕ → Type 0) → List ℤ → ℕ → List ℤ → Option ℕ → Type 0
Gathers t rules names m P before n row (Some r) = Gathered t rules names m P before n row r
Gathers t rules names m P before n row None = (k : ℕ) × IsExternal t rules m k × (get_or names k 0 ≡ 0)

-- what is told of the names of the external bodies: the first n words of the row are those that are variables, ascending, each once; or some body
-- has none
abbrev pub Externals : List ℕ → List ℤ → Option ℕ → Type 0
Externals l row (Some n) =
    (n ≤ row_words) × (rising (take n row) ≡ true)
    × ((x : ℤ) → x ∈ take n row → (x ≡ pos (variable x)) × (1 ≤ variable x) × (variable x ≤ largest))
    × ((v : ℕ) → v ≤ largest → mentions v (take n row) ≡ listed l v) × (listed l 0 ≡ false)
Externals l row None = listed l 0 ≡ true
