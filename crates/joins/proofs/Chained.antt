-- Where the chain of a long sum stands: what is written is the node of the groups so far, and further groups are left.
-- Assumes nothing.
use mathlib.Core.Path.{◌≡◌, refl, sym, ap, ap₂, subst, ◌∙◌}
use mathlib.Core.Bool.{true}
use mathlib.Core.List.{List, [], ◌∷◌, ◌++◌, map, append_assoc, append-nil}
use Prim.Native.Nat.{ℕ, zero, suc, ◌+◌, ◌*◌, ◌-◌, ◌/◌, ◌≤◌, ◌<◌}
use native.Mathlib.Nat.{div-add-mod'}
use native.Mathlib.Omega.{arith}
use lib.IntN.{ℤ}
use lib.ListN.{length, take, drop, take-append-drop, length-drop, drop_of_length-le}
use lib.Seq.{drop-drop, take_all, take-add}
use Rattle.words.specs.Limits.{most_rules}
use Rattle.words.specs.Lists.{concat}
use Rattle.words.proofs.Lists.{one_less}
use Rattle.weights.specs.Weights.{Weighted, paired, most_weight, most_weighted}
use Rattle.aspif.specs.Rules.{InputRule}
use Rattle.aspif.specs.Reading.{all_weights}
use Rattle.aspif.proofs.PairWords.{length-paired}
use Rattle.sums.specs.Plans.{Plan, group, joined, pairs_of, levels_of, size, numbered, own, Share, share, shares, group_rule, join_rules, node_rules}
use Rattle.sums.specs.Levels.{SumShape, few, both, pairs_in, levels_for, levelled, chain, chained, chunks, in_groups}
use Rattle.sums.proofs.Levels.{chunks-are}
use Rattle.totalizer.specs.declared.texts.Place.{Place}
use Rattle.totalizer.specs.Emitting.{Emits}
use Rattle.totalizer.proofs.Emitted.{emits-on, emits-full}
use Rattle.joins.specs.Joining.{shares_of, node_joins}
use Rattle.joins.specs.declared.chains.Node.{Node}
use Rattle.joins.specs.declared.chains.Numbered.{Numbered}
use Rattle.joins.specs.Chaining.{pairs_to, pairs_from, pairs_within, group_levels, prefix_levels, first_rules, turn_rules, after, sum_plan, long_plan, Written}
use Rattle.joins.proofs.Linked.{few-group, few-prefix, count-is, pairs-take, pairs-drop}

-- The rules of a joined node

-- where a node's own atoms begin
abbrev pub first_of : ℕ → Plan → ℕ
first_of n (group ts l) = n
first_of n (joined ts p q) = n + (size p + size q)

own_is : (n : ℕ) (p : Plan) → own n p ≡ numbered (first_of n p) (pairs_of p) (levels_of p)
own_is n (group ts l) = refl
own_is n (joined ts p q) = refl

after-own : (n : ℕ) (p : Plan) → first_of n p + length (levels_of p) ≡ n + size p
after-own n (group ts l) = refl
after-own n (joined ts p q) = omega arith

-- the pairs of the definitions make no difference
shares-any : (n : ℕ) (l : List Weighted) (ts : List ℕ) → map share (numbered n l ts) ≡ map share (numbered n [] ts)
shares-any n l [] = refl
shares-any n l (t ∷ ts) = ap (λ (xs : List Share). share (record { atom = n; pairs = []; bound = t }) ∷ xs) (shares-any (suc n) l ts)

joins_any : (xs ys : List Share) (n : ℕ) (l : List Weighted) (ts : List ℕ)
    → concat (map (join_rules xs ys) (numbered n l ts)) ≡ concat (map (join_rules xs ys) (numbered n [] ts))
joins_any xs ys n l [] = refl
joins_any xs ys n l (t ∷ ts) =
    ap (λ (rs : List InputRule). join_rules xs ys (record { atom = n; pairs = []; bound = t }) ++ rs) (joins_any xs ys (suc n) l ts)

own-shares : (n : ℕ) (p : Plan) → shares (own n p) ≡ shares_of (first_of n p) (levels_of p)
own-shares n p = ap shares (own_is n p) ∙ ap (λ (xs : List Share). record { level = 0; said = [] } ∷ xs) (shares-any (first_of n p) (pairs_of p) (levels_of p))

-- a node and a group
node-rules : (n : ℕ) (p : Plan) (l : List Weighted) (vs ts : List ℕ)
    → node_rules n (joined ts p (group vs l)) ≡ node_rules n p ++ turn_rules (first_of n p) (levels_of p) (n + size p) l vs ts
unfolding node_rules turn_rules node_joins
node-rules n p l vs ts =
    let m = n + size p in
    let e : n + (size p + length vs) ≡ m + length vs = omega arith in
    ap (λ (rs : List InputRule). node_rules n p ++ (map group_rule (numbered m l vs) ++ rs))
    (ap (λ (k : ℕ). concat (map (join_rules (shares (own n p)) (shares (numbered m l vs))) (numbered k (pairs_of p ++ l) ts))) e
    ∙ joins_any (shares (own n p)) (shares (numbered m l vs)) (m + length vs) (pairs_of p ++ l) ts
    ∙ ap₂ (λ (xs ys : List Share). concat (map (join_rules xs ys) (numbered (m + length vs) [] ts))) (own-shares n p) (own-shares m (group vs l)))

levels-of : (b : ℕ) (rest : List Weighted) (s : SumShape) → levels_of (levelled b rest s) ≡ levels_for b rest (pairs_in s)
unfolding levelled
levels-of b rest (few l) = refl
levels-of b rest (both s t) = refl

-- Pairs by their places

module _ (ws : List ℤ) (n : ℕ) where
  module _ (g : ℕ) where
    pub within-is : pairs_within n (n + g) ws ≡ take g (pairs_from n ws)
    within-is =
        let e : 2 * (n + g) - 2 * n ≡ 2 * g = omega arith in
        ap (λ (k : ℕ). paired (take k (drop (2 * n) ws))) e ∙ pairs-take g (drop (2 * n) ws)

    pub from_is : pairs_from (n + g) ws ≡ drop g (pairs_from n ws)
    from_is =
        pairs-drop (n + g) ws ∙ sym (drop-drop g n (paired ws)) ∙ ap (drop g) (sym (pairs-drop n ws))

    -- a group and what is behind it, and what is before it with the group
    pub within-from : pairs_within n (n + g) ws ++ pairs_from (n + g) ws ≡ pairs_from n ws
    within-from = ap₂ (λ (k l : List Weighted). k ++ l) within-is from_is ∙ take-append-drop g (pairs_from n ws)

    pub to-within : pairs_to n ws ++ pairs_within n (n + g) ws ≡ pairs_to (n + g) ws
    to-within =
        ap₂ (λ (k l : List Weighted). k ++ l) (pairs-take n ws) (within-is ∙ ap (take g) (pairs-drop n ws))
        ∙ sym (take-add n g (paired ws)) ∙ sym (pairs-take (n + g) ws)

  module _ (e : all_weights ws ≡ true) where
    -- how many there are from one on
    pub from-long : 2 * length (pairs_from n ws) ≡ length ws - 2 * n
    from-long =
        let d = length-drop n (paired ws) in
        omega (arith, ap (λ (l : List Weighted). length l) (pairs-drop n ws), d, length-paired ws e)

    -- the last group is what is left
    abbrev all : ℕ
    all = length ws / 2

    twice-all : 2 * all ≡ length ws
    twice-all = let d = div-add-mod' (length ws) 2 in omega (arith, d, length-paired ws e)

    pub within_all : pairs_within n all ws ≡ pairs_from n ws
    within_all =
        let d = length-drop (2 * n) ws in
        ap paired (take_all (2 * all - 2 * n) (drop (2 * n) ws) (omega (arith, d, twice-all)))

    pub from_all : pairs_from all ws ≡ []
    from_all = ap paired (drop_of_length-le ws {i = 2 * all} (omega (arith, twice-all)))

-- Groups one after another

chunks-on : (f k : ℕ) (l : List Weighted) → 0 < length l → chunks (suc f) k l ≡ take (suc k) l ∷ chunks f k (drop (suc k) l)
unfolding chunks
chunks-on f k [] h = absurd (omega arith)
chunks-on f k (x ∷ l) h = refl

chunks-none : (f k : ℕ) → chunks f k [] ≡ []
unfolding chunks
chunks-none zero k = refl
chunks-none (suc f) k = refl

-- with fuel left, and g for k + 1
chunks-next : (f g : ℕ) (l : List Weighted) → 0 < length l → length l ≤ f → 0 < g → chunks f (g - 1) l ≡ take g l ∷ chunks (f - 1) (g - 1) (drop g l)
chunks-next f g l h m p =
    ap (λ (n : ℕ). chunks n (g - 1) l) (one_less f (omega arith))
    ∙ chunks-on (f - 1) (g - 1) l h
    ∙ ap (λ (n : ℕ). take n l ∷ chunks (f - 1) (g - 1) (drop n l)) (sym (one_less g p))

-- What stands before the last node's rules

pub record Begins (rs all : List InputRule) : Type 0 where
  pub rest : List InputRule
  pub is : all ≡ rs ++ rest

begins-more : (rs ss : List InputRule) {all : List InputRule} → Begins (rs ++ ss) all → Begins rs all
begins-more rs ss b = record { rest = ss ++ b.rest; is = b.is ∙ append_assoc rs ss b.rest }

chain-begins : (n b : ℕ) (s : SumShape) (g : List Weighted) (gs : List (List Weighted))
    → Begins (node_rules n (levelled b (g ++ concat gs) s)) (node_rules n (sum_plan b (chain s (g ∷ gs))))
unfolding node_rules levelled
chain-begins n b s g [] = record { rest = _; is = refl }
chain-begins n b s g (h ∷ gs) = begins-more (node_rules n (levelled b (g ++ (h ++ concat gs)) s)) _ (chain-begins n b (both s (few g)) h gs)

-- Where the chain stands: all pairs before `from` are joined

pub record Chained (g b : ℕ) (ws : List ℤ) (n : ℕ) (before after : List ℕ) (p : Place) (node : Node) (left : List ℕ) (from : ℕ) : Type 0 where
  pub shape : SumShape
  pub fuel : ℕ
  pub so_far : pairs_in shape ≡ pairs_to from ws
  pub enough : length (pairs_from from ws) ≤ fuel
  pub whole : in_groups (g - 1) (paired ws) ≡ chain shape (chunks fuel (g - 1) (pairs_from from ws))
  pub rules : Emits (node_rules n (levelled b (pairs_from from ws) shape)) before after p node.place
  pub first : node.first ≡ first_of n (levelled b (pairs_from from ws) shape)
  pub levels : take node.count left ≡ prefix_levels b from ws
  pub within : node.count ≤ length left
  pub low : node.first + node.count ≤ n + 8192 * from
  pub there : 2 * from < length ws

-- a shape joined to a group, as a plan
joined_is : (b : ℕ) (s : SumShape) (l rest all before to : List Weighted) → l ++ rest ≡ all → pairs_in s ≡ before → before ++ l ≡ to
    → levelled b rest (both s (few l)) ≡ joined (levels_for b rest to) (levelled b all s) (group (levels_for b (before ++ rest) l) l)
unfolding levelled
joined_is b s l rest all before to ea eb et = rw (ea, eb, et)

module _ {g b : ℕ} {ws : List ℤ} {n : ℕ} {before between : List ℕ} {p : Place} {node : Node} {left : List ℕ} {from : ℕ}
    (weighed : all_weights ws ≡ true) (C : Chained g b ws n before between p node left from) (some : 2 ≤ g) (light : b ≤ most_weight) where
  abbrev P : Plan
  P = levelled b (pairs_from from ws) C.shape

  P-levels : levels_of P ≡ prefix_levels b from ws
  P-levels = levels-of b (pairs_from from ws) C.shape ∙ ap (levels_for b (pairs_from from ws)) C.so_far

  -- the next new atom
  P-after : n + size P ≡ after node
  P-after =
      let k = count-is left C.within C.levels in
      let e = ap (λ (l : List ℕ). length l) P-levels in
      omega (arith, after-own n P, k, e, C.first)

  -- the rules so far, and those of a turn
  turn_is : (l : List Weighted) (vs ts : List ℕ)
      → node_rules n (joined ts P (group vs l)) ≡ node_rules n P ++ turn_rules node.first (prefix_levels b from ws) (after node) l vs ts
  turn_is l vs ts =
      node-rules n P l vs ts
      ∙ ap (λ (rs : List InputRule). node_rules n P ++ rs)
      (ap (λ (k : ℕ). turn_rules k (levels_of P) (n + size P) l vs ts) (sym C.first)
      ∙ ap₂ (λ (us : List ℕ) (k : ℕ). turn_rules node.first us k l vs ts) P-levels P-after)

  -- one turn
  module _ (more : 2 * (from + g) < length ws) where
    abbrev to : ℕ
    to = from + g

    abbrev l : List Weighted
    l = pairs_within from to ws

    next-is : levelled b (pairs_from to ws) (both C.shape (few l)) ≡ joined (prefix_levels b to ws) P (group (group_levels b from to ws) l)
    next-is =
        joined_is b C.shape l (pairs_from to ws) (pairs_from from ws) (pairs_to from ws) (pairs_to to ws) (within-from ws from g) C.so_far (to-within ws from g)

    next-whole : in_groups (g - 1) (paired ws) ≡ chain (both C.shape (few l)) (chunks (C.fuel - 1) (g - 1) (pairs_from to ws))
    next-whole =
        C.whole
        ∙ ap (chain C.shape) (chunks-next C.fuel g (pairs_from from ws) (omega (arith, from-long ws from weighed)) C.enough (omega arith))
        ∙ ap₂ (λ (k m : List Weighted). chain (both C.shape (few k)) (chunks (C.fuel - 1) (g - 1) m)) (sym (within-is ws from g)) (sym (from_is ws from g))

    pub chained-on : (node' : Node) (left' : List ℕ) {after' : List ℕ}
        → Emits (turn_rules node.first (prefix_levels b from ws) (after node) l (group_levels b from to ws) (prefix_levels b to ws)) between after' node.place node'.place
        → take node'.count left' ≡ prefix_levels b to ws → node'.first ≡ after node + length (group_levels b from to ws) → node'.count ≤ length left'
        → Chained g b ws n before after' p node' left' to
    chained-on node' left' {after'} e lv f w =
        let k = count-is left' w lv in
        let few1 = few-group b from to ws in
        let few2 = few-prefix b to ws in
        let d = from-long ws from weighed in
        let d' = from-long ws to weighed in
        record {
          shape = both C.shape (few l);
          fuel = C.fuel - 1;
          so_far = ap (λ (m : List Weighted). m ++ l) C.so_far ∙ to-within ws from g;
          enough = omega (arith, C.enough, d, d');
          whole = next-whole;
          rules = subst (λ (rs : List InputRule). Emits rs before after' p node'.place)
              (sym (ap (node_rules n) next-is ∙ turn_is l (group_levels b from to ws) (prefix_levels b to ws))) (emits-on C.rules e);
          first = f ∙ omega (arith, P-after) ∙ sym (ap (first_of n) next-is);
          levels = lv;
          within = w;
          low = omega (arith, C.low, f, k, few1, few2);
          there = more;
        }

  -- too many rules already
  pub chained-full : length ws ≤ 128 → most_rules < node.place.rules → Written g b ws n before between p (record { place = node.place; atom = after node })
  unfolding long_plan
  chained-full short full =
      let l = pairs_from from ws in
      let c = chunks-next C.fuel g l (omega (arith, from-long ws from weighed, C.there)) C.enough (omega arith) in
      let q = chain-begins n b C.shape (take g l) (chunks (C.fuel - 1) (g - 1) (drop g l)) in
      let e : concat (take g l ∷ chunks (C.fuel - 1) (g - 1) (drop g l)) ≡ l = ap concat (sym c) ∙ chunks-are C.fuel (g - 1) l C.enough in
      let w = C.whole ∙ ap (chain C.shape) c in
      record {
        rules = subst (λ (rs : List InputRule). Emits rs before between p node.place)
            (sym (ap (λ s. node_rules n (sum_plan b s)) w ∙ q.is ∙ ap (λ (m : List Weighted). node_rules n (levelled b m C.shape) ++ q.rest) e))
            (emits-on C.rules (emits-full between node.place C.rules.bounded q.rest full));
        atoms = λ h. absurd (omega (arith, h, full));
        low = omega (arith, C.low, C.there);
      }

  -- the last turn
  module _ (less : length ws ≤ 2 * (from + g)) where
    abbrev end : ℕ
    end = length ws / 2

    abbrev last : List Weighted
    last = pairs_from from ws

    last-whole : in_groups (g - 1) (paired ws) ≡ both C.shape (few last)
    last-whole =
        let d = from-long ws from weighed in
        C.whole
        ∙ ap (chain C.shape)
        (chunks-next C.fuel g last (omega (arith, d, C.there)) C.enough (omega arith)
        ∙ ap₂ (λ (k : List Weighted) (ks : List (List Weighted)). k ∷ ks) (take_all g last (omega (arith, d)))
        (ap (chunks (C.fuel - 1) (g - 1)) (drop_of_length-le last {i = g} (omega (arith, d))) ∙ chunks-none (C.fuel - 1) (g - 1)))

    last-is : long_plan g b (paired ws) ≡ joined (b ∷ []) P (group (group_levels b from end ws) (pairs_within from end ws))
    unfolding long_plan levelled
    last-is =
        ap (sum_plan b) last-whole
        ∙ ap (λ (m : List Weighted). joined (b ∷ []) (levelled b m C.shape) (group (levels_for b (pairs_in C.shape ++ []) last) last)) (append-nil last)
        ∙ ap₂ (λ (k m : List Weighted). joined (b ∷ []) P (group (levels_for b (k ++ m) last) last)) C.so_far (sym (from_all ws from weighed))
        ∙ ap (λ (m : List Weighted). joined (b ∷ []) P (group (levels_for b (pairs_to from ws ++ pairs_from end ws) m) m)) (sym (within_all ws from weighed))

    pub chained-last : length ws ≤ 128 → (r : Numbered) {after' : List ℕ}
        → Emits (turn_rules node.first (prefix_levels b from ws) (after node) (pairs_within from end ws) (group_levels b from end ws) (b ∷ [])) between after' node.place r.place
        → r.atom ≡ after node + length (group_levels b from end ws) + 1 → Written g b ws n before after' p r
    chained-last short r {after'} e f =
        let few1 = few-group b from end ws in
        record {
          rules = subst (λ (rs : List InputRule). Emits rs before after' p r.place)
              (sym (ap (node_rules n) last-is ∙ turn_is (pairs_within from end ws) (group_levels b from end ws) (b ∷ []))) (emits-on C.rules e);
          atoms = λ h. f ∙ omega (arith, P-after) ∙ sym (ap (λ (q : Plan). n + size q) last-is);
          low = omega (arith, C.low, C.there, f, few1);
        }

-- the first group
pub chained-start : {g b : ℕ} {ws : List ℤ} {n : ℕ} {before after' : List ℕ} {p : Place} (node : Node) (left : List ℕ) → all_weights ws ≡ true → 2 ≤ g → 2 * g < length ws
    → b ≤ most_weight → Emits (first_rules g b ws n) before after' p node.place
    → take node.count left ≡ group_levels b 0 g ws → node.first ≡ n → node.count ≤ length left → Chained g b ws n before after' p node left g
unfolding node_rules levelled
chained-start {g} {b} {ws} {n} {before} {after'} {p} node left weighed some more light e lv f w =
    let X = paired ws in
    let z : 2 * g - 2 * 0 ≡ 2 * g = omega arith in
    let t : pairs_within 0 g ws ≡ pairs_to g ws = ap (λ (k : ℕ). paired (take k ws)) z in
    let long = length-paired ws weighed in
    record {
      shape = few (pairs_to g ws);
      fuel = length X - 1;
      so_far = refl;
      enough = omega (arith, from-long ws g weighed, long);
      whole = ap chained (chunks-next (length X) g X (omega (arith, long)) (omega arith) (omega arith))
          ∙ ap₂ (λ (k m : List Weighted). chain (few k) (chunks (length X - 1) (g - 1) m)) (sym (pairs-take g ws)) (sym (pairs-drop g ws));
      rules = subst (λ (m : List Weighted). Emits (map group_rule (numbered n m (levels_for b (pairs_from g ws) m))) before after' p node.place) t e;
      first = f;
      levels = lv ∙ ap (levels_for b (pairs_from g ws)) t;
      within = w;
      low = omega (arith, f, count-is left w lv, few-group b 0 g ws);
      there = more;
    }

-- the first group's rules, where the number of its first atom has two names
pub first-at : (g b : ℕ) (ws : List ℤ) {n m : ℕ} {before between : List ℕ} {p q : Place} → m ≡ n → Emits (first_rules g b ws n) before between p q
    → Emits (first_rules g b ws m) before between p q
first-at g b ws {n} {m} {before} {between} {p} {q} e = subst (λ (k : ℕ). Emits (first_rules g b ws k) before between p q) (sym e)

-- all of the sum is written where it is behind the first group
pub from_first : (g b : ℕ) (ws : List ℤ) {n m : ℕ} {before between after' : List ℕ} {p q : Place} {r : Numbered} → m ≡ n
    → ((start : List ℕ) (s : Place) → Emits (first_rules g b ws m) start between s q → Written g b ws m start after' s r)
    → Emits (first_rules g b ws n) before between p q → Written g b ws n before after' p r
from_first g b ws {n} {m} {before} {between} {after'} {p} {q} {r} e f =
    subst (λ (k : ℕ). Emits (first_rules g b ws k) before between p q → Written g b ws k before after' p r) e (f before p)

-- What the turns keep: the chain, whatever it began with, and the lengths of the lists
pub record Turned (g b : ℕ) (ws : List ℤ) (n : ℕ) (output₀ inside₀ outside₀ spare₀ left₀ right₀ next₀ : List ℕ) (node₀ : Node) (from₀ : ℕ)
    (output inside outside spare left right next : List ℕ) (node : Node) (from : ℕ) : Type 0 where
  pub linked : (before : List ℕ) (p : Place) → Chained g b ws n before output₀ p node₀ left₀ from₀ → Chained g b ws n before output p node left from
  pub inside-long : length inside ≡ length inside₀
  pub outside-long : length outside ≡ length outside₀
  pub spare-long : length spare ≡ length spare₀
  pub left-long : length left ≡ length left₀
  pub right-long : length right ≡ length right₀
  pub next-long : length next ≡ length next₀

-- What is written, by the two sides of the shape

module _ {g b : ℕ} {ws : List ℤ} {n : ℕ} {before after' : List ℕ} {p : Place} {r : Numbered} (W : Written g b ws n before after' p r)
    (s t : SumShape) (e : in_groups (g - 1) (paired ws) ≡ both s t) where
  pub written-rules : Emits (node_rules n (sum_plan b (both s t))) before after' p r.place
  unfolding long_plan
  written-rules = subst (λ q. Emits (node_rules n (sum_plan b q)) before after' p r.place) e W.rules

  pub written-atoms : r.place.rules ≤ most_rules → r.atom ≡ n + size (sum_plan b (both s t))
  unfolding long_plan
  written-atoms h = subst (λ q. r.atom ≡ n + size (sum_plan b q)) e (W.atoms h)

-- Long sums have two sides

chain-both : (s t : SumShape) (gs : List (List Weighted)) → (k : SumShape) × (l : SumShape) × (chain (both s t) gs ≡ both k l)
chain-both s t [] = (s, t, refl)
chain-both s t (g ∷ gs) = chain-both (both s t) (few g) gs

pub two-sides : (k : ℕ) → k < most_weighted → (l : List Weighted) → most_weighted < length l → (s : SumShape) × (t : SumShape) × (in_groups k l ≡ both s t)
two-sides k h l m =
    let f = length l - 2 in
    let d = drop (suc k) l in
    let e : length l ≡ suc (suc f) = omega arith in
    let p = ap (λ (n : ℕ). chunks n k l) e ∙ chunks-on (suc f) k l (omega arith) in
    let q = chunks-on f k d (omega (arith, length-drop (suc k) l)) in
    let r = chain-both (few (take (suc k) l)) (few (take (suc k) d)) (chunks f k (drop (suc k) d)) in
    (r.0, r.1, ap chained (p ∙ ap (λ (ks : List (List Weighted)). take (suc k) l ∷ ks) q) ∙ r.2)
