-- How a long sum is split: a tree of partial sums, a new atom for each level of each of them, and the rules that define the new atoms. For
-- propositional clauses this is known as the generalized totalizer.
-- Assumes nothing.
use Rattle.std.specs.Prelude.{Bool, ◌&&◌, ◌||◌, List, [], ◌∷◌, ◌++◌, map, ℕ, suc, ◌+◌, leb, ltb, ℤ, pos, length}
use Rattle.words.specs.Lists.{concat, all, filter}
use Rattle.weights.specs.Weights.{Weighted}
use Rattle.aspif.specs.Rules.{Body, plain, weights, InputRule, atoms}
use Rattle.aspif.specs.declared.Kind.{Kind}
use Rattle.aspif.specs.declared.Kind.TheVariants.{Normal}

-- Literals with their weights in groups, added up two by two. At each node stand the levels that have an atom, which is to say that the
-- node's sum is at least the level.
pub data Plan : Type 0 where
  group : (levels : List ℕ) (pairs : List Weighted) → Plan
  joined : (levels : List ℕ) (left right : Plan) → Plan

-- what a node adds up
abbrev pub pairs_of : Plan → List Weighted
pairs_of (group ts l) = l
pairs_of (joined ts p q) = pairs_of p ++ pairs_of q

abbrev pub levels_of : Plan → List ℕ
levels_of (group ts l) = ts
levels_of (joined ts p q) = ts

-- how many new atoms a node has with those below it
abbrev pub size : Plan → ℕ
size (group ts l) = length ts
size (joined ts p q) = size p + (size q + length ts)

-- the definition of a new atom: true where the weights of the true literals among the pairs add up to the bound or more
pub record Definition : Type 0 where
  pub atom : ℕ
  pub pairs : List Weighted
  pub bound : ℕ

-- the levels of one node, numbered from n on
abbrev pub numbered : ℕ → List Weighted → List ℕ → List Definition
numbered n l [] = []
numbered n l (t ∷ ts) = record { atom = n; pairs = l; bound = t } ∷ numbered (suc n) l ts

-- a node's own new atoms: those of the left side come first, then those of the right, then its own
abbrev pub own : ℕ → Plan → List Definition
own n (group ts l) = numbered n l ts
own n (joined ts p q) = numbered (n + (size p + size q)) (pairs_of p ++ pairs_of q) ts

-- the new atoms of a node and of those below it
unfoldable pub definitions : ℕ → Plan → List Definition
definitions n (group ts l) = own n (group ts l)
definitions n (joined ts p q) = definitions n p ++ (definitions (n + size p) q ++ own n (joined ts p q))

-- the share of one side in a sum: a level, and the literal that says that it is reached, none for level 0
pub record Share : Type 0 where
  pub level : ℕ
  pub said : List ℤ

abbrev pub share : Definition → Share
share e = record { level = e.bound; said = pos e.atom ∷ [] }

abbrev pub shares : List Definition → List Share
shares es = record { level = 0; said = [] } ∷ map share es

-- what two shares come to together
abbrev pub reach : Share → Share → ℕ
reach x y = x.level + y.level

-- two shares are enough together, and with a lower one of either side in place of its own they are not
abbrev pub is_just_enough : (bound : ℕ) → (lefts rights : List Share) → Share → Share → Bool
is_just_enough b xs ys x y =
    leb b (reach x y)
    && (all (λ v. leb x.level v.level || ltb (reach v y) b) xs && all (λ v. leb y.level v.level || ltb (reach x v) b) ys)

-- the bodies of a joined node's rules
unfoldable pub join_bodies : (bound : ℕ) → (lefts rights : List Share) → List (List ℤ)
join_bodies b xs ys = concat (map (λ x. map (λ y. x.said ++ y.said) (filter (is_just_enough b xs ys x) ys)) xs)

-- the rule that gives a new atom from a body
abbrev pub define : Definition → Body → InputRule
define e b = record { kind = Normal; heads = pos e.atom ∷ []; body = b }

-- a group's atom has the group's sum as its body
abbrev pub group_rule : Definition → InputRule
group_rule e = define e (weights e.bound e.pairs)

-- a joined node's atom has a rule for each two shares that are just enough
abbrev pub join_rules : List Share → List Share → Definition → List InputRule
join_rules xs ys e = map (λ ls. define e (plain ls)) (join_bodies e.bound xs ys)

-- the rules of a node and of those below it
unfoldable pub node_rules : ℕ → Plan → List InputRule
node_rules n (group ts l) = map group_rule (own n (group ts l))
node_rules n (joined ts p q) =
    node_rules n p ++ (node_rules (n + size p) q ++ concat (map (join_rules (shares (own n p)) (shares (own (n + size p) q))) (own n (joined ts p q))))

-- A rule as it is to be split: left as it is, or its sum added up, in any order, by a plan whose last node has the bound alone as its
-- level.
pub data Item : Type 0 where
  whole : (rule : InputRule) → Item
  divided : (kind : Kind) (heads : List ℤ) (bound : ℕ) (pairs : List Weighted) (left right : Plan) → Item

-- the rule as written
abbrev pub written : Item → InputRule
written (whole r) = r
written (divided k hs b l p q) = record { kind = k; heads = hs; body = weights b l }

-- the last node
abbrev pub root : ℕ → Plan → Plan → Plan
root b p q = joined (b ∷ []) p q

-- how many new atoms an item has
abbrev pub needs : Item → ℕ
needs (whole r) = 0
needs (divided k hs b l p q) = size (root b p q)

-- and how many all items have
abbrev pub all_needs : List Item → ℕ
all_needs [] = 0
all_needs (i ∷ is) = needs i + all_needs is

-- the heads from an atom
abbrev pub head_rule : Kind → (heads : List ℤ) → (atom : ℕ) → InputRule
head_rule k hs a = record { kind = k; heads = hs; body = plain (pos a ∷ []) }

-- what stands for the rule, with new atoms from n on: what defines the atom of the last node, and the head from it
abbrev pub split_item : ℕ → Item → List InputRule
split_item n (whole r) = r ∷ []
split_item n (divided k hs b l p q) = node_rules n (root b p q) ++ (head_rule k hs (n + (size p + size q)) ∷ [])

-- what items give one after another, with new atoms from n on
unfoldable pub in_turn : {A : Type 0} → (ℕ → Item → List A) → ℕ → List Item → List A
in_turn f n [] = []
in_turn f n (i ∷ is) = f n i ++ in_turn f (n + needs i) is

-- the program as written
abbrev pub program : List Item → List InputRule
program is = map written is

-- the first new atom stands above all atoms as written
abbrev pub first_new : List Item → ℕ
first_new is = suc (atoms (program is))

-- the program split
abbrev pub split : List Item → List InputRule
split is = in_turn split_item (first_new is) is

-- the new atoms of an item, and those of all items
abbrev pub item_definitions : ℕ → Item → List Definition
item_definitions n (whole r) = []
item_definitions n (divided k hs b l p q) = definitions n (root b p q)

abbrev pub all_definitions : List Item → List Definition
all_definitions is = in_turn item_definitions (first_new is) is
