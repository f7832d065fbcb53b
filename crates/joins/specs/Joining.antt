-- What the private functions say of the shares of two sides and the rules they give. No reader of the public contract
-- needs it.
-- Assumes nothing.
use Rattle.std.specs.Prelude.{◌≡◌, List, [], ◌∷◌, ◌++◌, map, ℕ, zero, suc, ◌+◌, ℤ, pos, length, get_or, Option, Some, None}
use Rattle.words.specs.Lists.{concat, filter}
use Rattle.aspif.specs.Rules.{plain, InputRule}
use Rattle.sums.specs.Plans.{numbered, Share, shares, is_just_enough, define, join_rules}

-- the literal that says that share i is reached, none for the first: atoms are numbered from n on
abbrev pub said_at : (n i : ℕ) → List ℤ
said_at n zero = []
said_at n (suc k) = pos (n + k) ∷ []

-- share i of levels
abbrev pub share_at : (n : ℕ) → (ts : List ℕ) → (i : ℕ) → Share
share_at n ts i = record { level = get_or (0 ∷ ts) i 0; said = said_at n i }

-- all of them; what the levels' pairs are makes no difference
abbrev pub shares_of : (n : ℕ) → (ts : List ℕ) → List Share
shares_of n ts = shares (numbered n [] ts)

-- a share alone, where there is one
abbrev pub only_share : (n : ℕ) → (ts : List ℕ) → Option ℕ → List Share
only_share n ts (Some i) = share_at n ts i ∷ []
only_share n ts None = []

-- share r of the right side is the one that is just enough with share i of the left, or there is none
unfoldable pub Partner : (t : ℕ) → (us vs : List ℕ) → (i : ℕ) → Option ℕ → Type 0
Partner t us vs i r =
    (n m : ℕ) → filter (is_just_enough t (shares_of n us) (shares_of m vs) (share_at n us i)) (shares_of m vs) ≡ only_share m vs r

-- the rule that gives an atom from literals
abbrev pub plain_rule : (atom : ℕ) → List ℤ → InputRule
plain_rule atom ls = define (record { atom = atom; pairs = []; bound = 0 }) (plain ls)

-- the numbers of its line
abbrev pub plain_numbers : (atom : ℕ) → List ℤ → List ℤ
plain_numbers atom ls = pos 0 ∷ pos 1 ∷ pos atom ∷ pos 0 ∷ pos (length ls) ∷ ls

-- the rules of one share of the left side
abbrev pub share_rules : (atom t : ℕ) → (xs ys : List Share) → Share → List InputRule
share_rules atom t xs ys x = map (plain_rule atom) (map (λ y. x.said ++ y.said) (filter (is_just_enough t xs ys x) ys))

-- the rules of some levels of a node, of which the levels of the left side and of the right are us and vs
unfoldable pub node_joins : (atom : ℕ) → (ts : List ℕ) → (first : ℕ) → (us : List ℕ) → (second : ℕ) → (vs : List ℕ) → List InputRule
node_joins atom ts first us second vs = concat (map (join_rules (shares_of first us) (shares_of second vs)) (numbered atom [] ts))
