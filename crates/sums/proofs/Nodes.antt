-- The nodes of a plan: their rules give each new atom where the sum is reached, and nowhere else.
-- Assumes nothing.
use mathlib.Core.Path.{◌≡◌, refl, sym, ap, subst, ◌∙◌}
use mathlib.Core.Logic.{◌⊎◌, inl, inr}
use mathlib.Core.Bool.{not}
use mathlib.Core.List.Memᴰ
use mathlib.Core.List.{List, [], ◌∷◌, ◌++◌, map}
use Prim.Native.Nat.{ℕ, suc, ◌+◌, ◌≤◌, ◌<◌}
use native.Mathlib.Omega.{arith}
use lib.Dec.{T, leb}
use lib.IntN.{ℤ, pos, negsuc}
use Rattle.words.specs.Lists.{◌∈◌, concat, filter}
use Rattle.words.proofs.Lists.{Decides, answered, leb-decides, and-decides, or-decides, all-decides, not-decides, keep→, keep←, join_all→, join_all←}
use Rattle.weights.specs.Weights.{Weighted, sum}
use Rattle.weights.specs.Claims.{◌⊑◌, none, with_it, without}
use Rattle.weights.proofs.Sublists as sub
use Rattle.weights.proofs.Minimal.{ltb-decides}
use Rattle.aspif.specs.Rules.{Body, plain, weights, InputRule, bodies_of, with_body, expand}
use Rattle.aspif.proofs.Expansion.{expand←}
use Rattle.sums.specs.Plans.{Plan, group, joined, pairs_of, levels_of, size, Definition, numbered, own, definitions, Share, share, shares, reach, is_just_enough, join_bodies, define, group_rule, join_rules, node_rules}
use Rattle.sums.specs.Extension.{Holding, SumReaches, Says, Closed}
use Rattle.sums.specs.Claims.{ReachedByLevels, EnoughLevels}
use Rattle.sums.proofs.Extension.{body-reaches, reaches-body}
use Rattle.sums.proofs.Lowest.{Lowest, lowest-at}

-- Sums of two lists

pub both-parts : {A : Type 0} {s l u k : List A} → s ⊑ l → u ⊑ k → s ++ u ⊑ l ++ k
both-parts none h = h
both-parts (with_it g) h = with_it (both-parts g h)
both-parts (without g) h = without (both-parts g h)

pub sum_both : (s u : List Weighted) → sum (s ++ u) ≡ sum s + sum u
sum_both [] u = omega arith
sum_both (x ∷ s) u = omega (arith, sum_both s u)

-- a sublist of both is one of each
pub record Cut {A : Type 0} (s l k : List A) : Type 0 where
  pub first : List A
  pub second : List A
  pub of-first : first ⊑ l
  pub of-second : second ⊑ k
  pub is : s ≡ first ++ second

pub cut : {A : Type 0} {s : List A} (l k : List A) → s ⊑ l ++ k → Cut s l k
cut {s = s} [] k h = record { first = []; second = s; of-first = none; of-second = h; is = refl }
cut (x ∷ l) k (with_it h) =
    let c = cut l k h in
    record { first = x ∷ c.first; second = c.second; of-first = with_it c.of-first; of-second = c.of-second; is = ap (λ t. x ∷ t) c.is }
cut (x ∷ l) k (without h) =
    let c = cut l k h in record { first = c.first; second = c.second; of-first = without c.of-first; of-second = c.of-second; is = c.is }

module _ {H : ℤ → Type 0} where
  nothing-reaches : (l : List Weighted) → SumReaches H l 0
  nothing-reaches l = record { part = []; of = sub.none_of l; hold = λ x i. elim i [ ]; enough = omega arith }

  both-reach : {l k : List Weighted} {a b : ℕ} (t : ℕ) → SumReaches H l a → SumReaches H k b → t ≤ a + b → SumReaches H (l ++ k) t
  both-reach t r s h =
      let d = r.enough in
      let e = s.enough in
      let f = sum_both r.part s.part in
      record { part = r.part ++ s.part; of = both-parts r.of s.of; hold = λ x i. go x (Memᴰ.append_cases r.part i); enough = omega arith }
    where
      go : (x : Weighted) → (x ∈ r.part) ⊎ (x ∈ s.part) → H x.literal
      go x (inl i) = r.hold x i
      go x (inr i) = s.hold x i

-- The new atoms of one node

numbered-says : (n : ℕ) (l : List Weighted) (ts : List ℕ) {d : Definition} → d ∈ numbered n l ts → (d.pairs ≡ l) × (d.bound ∈ ts)
numbered-says n l [] i = elim i [ ]
numbered-says n l (t ∷ ts) (Memᴰ.head e) = (ap (λ d. d.pairs) e, Memᴰ.head (ap (λ d. d.bound) e))
numbered-says n l (t ∷ ts) (Memᴰ.tail i) = let r = numbered-says (suc n) l ts i in (r.0, Memᴰ.tail r.1)

pub own-says : (n : ℕ) (p : Plan) {d : Definition} → d ∈ own n p → (d.pairs ≡ pairs_of p) × (d.bound ∈ levels_of p)
own-says n (group ts l) i = numbered-says n l ts i
own-says n (joined ts p q) i = numbered-says (n + (size p + size q)) (pairs_of p ++ pairs_of q) ts i

pub own_in : (n : ℕ) (p : Plan) {d : Definition} → d ∈ own n p → d ∈ definitions n p
unfolding definitions
own_in n (group ts l) i = i
own_in n (joined ts p q) i = Memᴰ.append_right (definitions n p) (Memᴰ.append_right (definitions (n + size p) q) i)

numbered-levels : (n : ℕ) (l : List Weighted) (ts : List ℕ) → map (λ c. c.level) (map share (numbered n l ts)) ≡ ts
numbered-levels n l [] = refl
numbered-levels n l (t ∷ ts) = ap (λ (us : List ℕ). t ∷ us) (numbered-levels (suc n) l ts)

own-levels : (n : ℕ) (p : Plan) → map (λ c. c.level) (shares (own n p)) ≡ 0 ∷ levels_of p
own-levels n (group ts l) = ap (λ (us : List ℕ). 0 ∷ us) (numbered-levels n l ts)
own-levels n (joined ts p q) = ap (λ (us : List ℕ). 0 ∷ us) (numbered-levels (n + (size p + size q)) (pairs_of p ++ pairs_of q) ts)

-- Shares

-- what is said of a share, by what is said of its definition
share_holds : (X M : ℕ → Type 0) (a : ℕ) (es : List Definition) → ((e : Definition) → e ∈ es → e.bound ≤ a → X e.atom)
    → {x : Share} → x ∈ shares es → x.level ≤ a → (z : ℤ) → z ∈ x.said → Holding X M z
share_holds X M a es f (Memᴰ.head e) h z i = elim (subst (λ c. z ∈ c.said) e i) [ ]
share_holds X M a es f {x} (Memᴰ.tail j) h z i =
    let r = Memᴰ.of_map share es j in
    let le : (share r.0).level ≤ a = subst (λ c. c.level ≤ a) (sym r.2) h in
    subst (Holding X M) (sym (Memᴰ.eq_of_singleton (subst (λ c. z ∈ c.said) (sym r.2) i))) (f r.0 r.1 le)

share-reaches : (X M : ℕ → Type 0) (l : List Weighted) (es : List Definition) → ((e : Definition) → e ∈ es → X e.atom → SumReaches (Holding X M) l e.bound)
    → {x : Share} → x ∈ shares es → ((z : ℤ) → z ∈ x.said → Holding X M z) → SumReaches (Holding X M) l x.level
share-reaches X M l es f (Memᴰ.head e) h = subst (λ c. SumReaches (Holding X M) l c.level) (sym e) (nothing-reaches l)
share-reaches X M l es f {x} (Memᴰ.tail j) h =
    let r = Memᴰ.of_map share es j in
    subst (λ c. SumReaches (Holding X M) l c.level) r.2
    (f r.0 r.1 (h (pos r.0.atom) (subst (λ c. pos r.0.atom ∈ c.said) r.2 (Memᴰ.head refl))))

-- The bodies of a joined node

-- two shares are enough together, and with a lower one of either side they are not
abbrev JustEnough : (t : ℕ) (xs ys : List Share) (x y : Share) → Type 0
JustEnough t xs ys x y =
    (t ≤ reach x y)
    × (((v : Share) → v ∈ xs → (x.level ≤ v.level) ⊎ (reach v y < t)) × ((v : Share) → v ∈ ys → (y.level ≤ v.level) ⊎ (reach x v < t)))

just-enough-decides : (t : ℕ) (xs ys : List Share) (x y : Share) → Decides (is_just_enough t xs ys x y) (JustEnough t xs ys x y)
just-enough-decides t xs ys x y =
    and-decides (leb-decides t (reach x y))
    (and-decides (all-decides (λ v. or-decides (leb-decides x.level v.level) (ltb-decides (reach v y) t)) xs)
    (all-decides (λ v. or-decides (leb-decides y.level v.level) (ltb-decides (reach x v) t)) ys))

pub record Taking (t : ℕ) (xs ys : List Share) (ls : List ℤ) : Type 0 where
  pub left : Share
  pub right : Share
  pub of_left : left ∈ xs
  pub of_right : right ∈ ys
  pub enough : t ≤ left.level + right.level
  pub is : ls ≡ left.said ++ right.said

pub join-body→ : (t : ℕ) (xs ys : List Share) (ls : List ℤ) → ls ∈ join_bodies t xs ys → Taking t xs ys ls
unfolding join_bodies
join-body→ t xs ys ls i =
    let r = join_all→ (map (λ x. map (λ y. x.said ++ y.said) (filter (is_just_enough t xs ys x) ys)) xs) i in
    go (Memᴰ.of_map (λ x. map (λ y. x.said ++ y.said) (filter (is_just_enough t xs ys x) ys)) xs r.1) r.2
  where
    found : (x : Share) → x ∈ xs → (y : Share) × (y ∈ filter (is_just_enough t xs ys x) ys) × (x.said ++ y.said ≡ ls) → Taking t xs ys ls
    found x k (y, j, e) =
        let f = keep→ (is_just_enough t xs ys x) ys j in
        record {
          left = x;
          right = y;
          of_left = k;
          of_right = f.0;
          enough = ((just-enough-decides t xs ys x y).to f.1).0;
          is = sym e;
        }

    go : {l : List (List ℤ)} → (x : Share) × (x ∈ xs) × (map (λ y. x.said ++ y.said) (filter (is_just_enough t xs ys x) ys) ≡ l) → ls ∈ l → Taking t xs ys ls
    go (x, k, e) j = found x k (Memᴰ.of_map (λ y. x.said ++ y.said) (filter (is_just_enough t xs ys x) ys) (subst (λ l. ls ∈ l) (sym e) j))

-- two shares whose literals are a body, the one within a and the other within b
record Joint (t : ℕ) (xs ys : List Share) (a b : ℕ) : Type 0 where
  left : Share
  right : Share
  of_left : left ∈ xs
  of_right : right ∈ ys
  within-left : left.level ≤ a
  within-right : right.level ≤ b
  body : left.said ++ right.said ∈ join_bodies t xs ys

abbrev height : Share → ℕ
height c = c.level

-- below two shares that are enough there are two that are just enough
module _ (t : ℕ) (xs ys : List Share) (x : Share) (d : Lowest height (λ v. leb t (x.level + v.level)) ys) (c : Lowest height (λ v. leb t (v.level + d.one.level)) xs) where
  enough : (v w : Share) → Decides (leb t (v.level + w.level)) (t ≤ v.level + w.level)
  enough v w = leb-decides t (v.level + w.level)

  lefts : (v : Share) → v ∈ xs → (c.one.level ≤ v.level) ⊎ (v.level + d.one.level < t)
  lefts v m = pick (answered (leb t (v.level + d.one.level)))
    where
      pick : T (leb t (v.level + d.one.level)) ⊎ T (not (leb t (v.level + d.one.level))) → (c.one.level ≤ v.level) ⊎ (v.level + d.one.level < t)
      pick (inl p) = inl (c.least v m p)
      pick (inr p) = inr (let n = (not-decides (enough v d.one)).to p in omega arith)

  rights : c.one.level ≤ x.level → (v : Share) → v ∈ ys → (d.one.level ≤ v.level) ⊎ (c.one.level + v.level < t)
  rights l v m = pick (answered (leb t (x.level + v.level)))
    where
      pick : T (leb t (x.level + v.level)) ⊎ T (not (leb t (x.level + v.level))) → (d.one.level ≤ v.level) ⊎ (c.one.level + v.level < t)
      pick (inl p) = inl (d.least v m p)
      pick (inr p) = inr (let n = (not-decides (enough x v)).to p in omega arith)

  is-just-enough : c.one.level ≤ x.level → T (is_just_enough t xs ys c.one d.one)
  is-just-enough l = (just-enough-decides t xs ys c.one d.one).from ((enough c.one d.one).to c.passes, (lefts, rights l))

  lowest-joint : (a b : ℕ) → x ∈ xs → x.level ≤ a → d.one.level ≤ b → Joint t xs ys a b
  unfolding join_bodies
  lowest-joint a b i h k =
      let l = c.least x i d.passes in
      record {
        left = c.one;
        right = d.one;
        of_left = c.among;
        of_right = d.among;
        within-left = omega arith;
        within-right = k;
        body = join_all← (Memᴰ.map (λ x. map (λ y. x.said ++ y.said) (filter (is_just_enough t xs ys x) ys)) c.among)
            (Memᴰ.map (λ y. c.one.said ++ y.said) (keep← (is_just_enough t xs ys c.one) d.among (is-just-enough l)));
      }

join-body← : (t : ℕ) (xs ys : List Share) (a b : ℕ) (x y : Share) → x ∈ xs → y ∈ ys → x.level ≤ a → y.level ≤ b → t ≤ x.level + y.level → Joint t xs ys a b
join-body← t xs ys a b x y i j h k e = go (lowest-at height (λ v. leb t (x.level + v.level)) ys y j p)
  where
    p : T (leb t (x.level + y.level))
    p = (leb-decides t (x.level + y.level)).from e

    go : Lowest height (λ v. leb t (x.level + v.level)) ys → Joint t xs ys a b
    go d =
        let m = d.least y j p in
        lowest-joint t xs ys x d (lowest-at height (λ v. leb t (v.level + d.one.level)) xs x i d.passes) a b i h (omega arith)

joint : (t n m : ℕ) (p q : Plan) (a b : ℕ) → ReachedByLevels t (levels_of p) (levels_of q) a b → Joint t (shares (own n p)) (shares (own m q)) a b
joint t n m p q a b (i, o, h, (j, f, g, e)) =
    found (Memᴰ.of_map (λ c. c.level) (shares (own n p)) (subst (λ l. i ∈ l) (sym (own-levels n p)) o))
    (Memᴰ.of_map (λ c. c.level) (shares (own m q)) (subst (λ l. j ∈ l) (sym (own-levels m q)) f))
  where
    found : (x : Share) × (x ∈ shares (own n p)) × (x.level ≡ i) → (y : Share) × (y ∈ shares (own m q)) × (y.level ≡ j)
        → Joint t (shares (own n p)) (shares (own m q)) a b
    found (x, k, c) (y, l, d) = join-body← t (shares (own n p)) (shares (own m q)) a b x y k l (omega arith) (omega arith) (omega arith)

-- Where a sum is reached its atom is derived

module _ (ws : List InputRule) (M Y : ℕ → Type 0) (c : Closed M Y (expand ws)) where
  given : (e : Definition) (b : Body) (ls : List ℤ) → define e b ∈ ws → ls ∈ bodies_of b → ((z : ℤ) → z ∈ ls → Holding Y M z) → Y e.atom
  given e b ls i j h = c (with_body (define e b) ls) (expand← i j) (λ n k. h (negsuc n) k) e.atom (Memᴰ.head refl, tt) (λ a k. h (pos a) k)

  abbrev Derives : List Definition → Type 0
  Derives E = (d : Definition) → d ∈ E → Says (Holding Y M) d → Y d.atom

  -- levels of one side that are reached, of a part that holds
  side : (n : ℕ) (p : Plan) → Derives (own n p) → (s : List Weighted) → s ⊑ pairs_of p → ((x : Weighted) → x ∈ s → Holding Y M x.literal)
      → (x : Share) → x ∈ shares (own n p) → x.level ≤ sum s → (z : ℤ) → z ∈ x.said → Holding Y M z
  side n p f s o h x i =
      share_holds Y M (sum s) (own n p)
      (λ e i b. f e i (record { part = s; of = subst (λ l. s ⊑ l) (sym (own-says n p i).0) o; hold = h; enough = b })) i

  joined-derived : (n : ℕ) (ts : List ℕ) (p q : Plan)
      → ((t : ℕ) → t ∈ ts → (s u : List Weighted) → s ⊑ pairs_of p → u ⊑ pairs_of q → t ≤ sum s + sum u → ReachedByLevels t (levels_of p) (levels_of q) (sum s) (sum u))
      → ((w : InputRule) → w ∈ concat (map (join_rules (shares (own n p)) (shares (own (n + size p) q))) (own n (joined ts p q))) → w ∈ ws)
      → Derives (own n p) → Derives (own (n + size p) q) → Derives (own n (joined ts p q))
  unfolding bodies_of
  joined-derived n ts p q enough f left right d i s =
      let o = own-says n (joined ts p q) i in
      parted o.1 (cut (pairs_of p) (pairs_of q) (subst (λ l. s.part ⊑ l) o.0 s.of))
    where
      m : ℕ
      m = n + size p

      body : (k : Cut s.part (pairs_of p) (pairs_of q)) → Joint d.bound (shares (own n p)) (shares (own m q)) (sum k.first) (sum k.second) → Y d.atom
      body k j =
          given d (plain (j.left.said ++ j.right.said)) (j.left.said ++ j.right.said)
          (f _ (join_all← (Memᴰ.map (join_rules (shares (own n p)) (shares (own m q))) i) (Memᴰ.map (λ t. define d (plain t)) j.body)))
          (Memᴰ.head refl) (λ z i. holds z (Memᴰ.append_cases j.left.said i))
        where
          one : (v : Weighted) → v ∈ k.first ++ k.second → Holding Y M v.literal
          one v l = s.hold v (subst (λ t. v ∈ t) (sym k.is) l)

          holds : (z : ℤ) → (z ∈ j.left.said) ⊎ (z ∈ j.right.said) → Holding Y M z
          holds z (inl i) = side n p left k.first k.of-first (λ v l. one v (Memᴰ.append_left k.second l)) j.left j.of_left j.within-left z i
          holds z (inr i) = side m q right k.second k.of-second (λ v l. one v (Memᴰ.append_right k.first l)) j.right j.of_right j.within-right z i

      parted : d.bound ∈ ts → Cut s.part (pairs_of p) (pairs_of q) → Y d.atom
      parted o k =
          let a = s.enough in
          let b : sum s.part ≡ sum k.first + sum k.second = ap sum k.is ∙ sum_both k.first k.second in
          body k (joint d.bound n m p q (sum k.first) (sum k.second) (enough d.bound o k.first k.second k.of-first k.of-second (omega arith)))

  pub node-derived : (n : ℕ) (p : Plan) → EnoughLevels p → ((w : InputRule) → w ∈ node_rules n p → w ∈ ws) → Derives (definitions n p)
  unfolding definitions node_rules bodies_of
  node-derived n (group ts l) k f d i s =
      let b = reaches-body s in given d (weights d.bound d.pairs) b.0 (f (group_rule d) (Memᴰ.map group_rule i)) b.1 b.2
  node-derived n (joined ts p q) k f d i s =
      go (node-derived n p k.0 (λ w j. f w (Memᴰ.append_left _ j)))
      (node-derived (n + size p) q k.1 (λ w j. f w (Memᴰ.append_right (node_rules n p) (Memᴰ.append_left _ j))))
      (Memᴰ.append_cases (definitions n p) i)
    where
      go : Derives (definitions n p) → Derives (definitions (n + size p) q) → (d ∈ definitions n p) ⊎ (d ∈ definitions (n + size p) q ++ own n (joined ts p q)) → Y d.atom
      go left right (inl j) = left d j s
      go left right (inr j) = inner (Memᴰ.append_cases (definitions (n + size p) q) j)
        where
          inner : (d ∈ definitions (n + size p) q) ⊎ (d ∈ own n (joined ts p q)) → Y d.atom
          inner (inl j) = right d j s
          inner (inr j) =
              joined-derived n ts p q k.2 (λ w j. f w (Memᴰ.append_right (node_rules n p) (Memᴰ.append_right (node_rules (n + size p) q) j)))
              (λ e j t. left e (own_in n p j) t) (λ e j t. right e (own_in (n + size p) q j) t) d j s

-- The rules of a plan

-- a group's rule, or one of a node that joins two sides
pub data RuleOf : ℕ → Plan → InputRule → Type 0 where
  summed : {n : ℕ} {ts : List ℕ} {l : List Weighted} (d : Definition) → d ∈ own n (group ts l) → RuleOf n (group ts l) (group_rule d)
  paired : {n : ℕ} {ts : List ℕ} {p q : Plan} (d : Definition) (ls : List ℤ) → d ∈ own n (joined ts p q)
      → ls ∈ join_bodies d.bound (shares (own n p)) (shares (own (n + size p) q)) → RuleOf n (joined ts p q) (define d (plain ls))
  on-left : {n : ℕ} {ts : List ℕ} {p q : Plan} {r : InputRule} → RuleOf n p r → RuleOf n (joined ts p q) r
  on-right : {n : ℕ} {ts : List ℕ} {p q : Plan} {r : InputRule} → RuleOf (n + size p) q r → RuleOf n (joined ts p q) r

pub rule-of : (n : ℕ) (p : Plan) {r : InputRule} → r ∈ node_rules n p → RuleOf n p r
unfolding node_rules
rule-of n (group ts l) i = let x = Memᴰ.of_map group_rule (own n (group ts l)) i in subst (RuleOf n (group ts l)) x.2 (summed x.0 x.1)
rule-of n (joined ts p q) {r} i =
    go (λ j. rule-of n p j) (λ j. rule-of (n + size p) q j) (Memᴰ.append_cases (node_rules n p) i)
  where
    join : Definition → List InputRule
    join = join_rules (shares (own n p)) (shares (own (n + size p) q))

    own-rule : r ∈ concat (map join (own n (joined ts p q))) → RuleOf n (joined ts p q) r
    own-rule j =
        let x = join_all→ (map join (own n (joined ts p q))) j in
        let d = Memᴰ.of_map join (own n (joined ts p q)) x.1 in
        let t = Memᴰ.of_map (λ ls. define d.0 (plain ls)) (join_bodies d.0.bound (shares (own n p)) (shares (own (n + size p) q))) (subst (λ ws. r ∈ ws) (sym d.2) x.2) in
        subst (RuleOf n (joined ts p q)) t.2 (paired d.0 t.0 d.1 t.1)

    go : (r ∈ node_rules n p → RuleOf n p r) → (r ∈ node_rules (n + size p) q → RuleOf (n + size p) q r)
        → (r ∈ node_rules n p) ⊎ (r ∈ node_rules (n + size p) q ++ concat (map join (own n (joined ts p q)))) → RuleOf n (joined ts p q) r
    go left right (inl j) = on-left (left j)
    go left right (inr j) = elim (Memᴰ.append_cases (node_rules (n + size p) q) j) [ inl k ↦ on-right (right k) | inr k ↦ own-rule k ]

-- A rule gives its atom only where the sum is reached

pub record Defines (E : List Definition) (w : InputRule) (ls : List ℤ) : Type 1 where
  pub definition : Definition
  pub among : definition ∈ E
  pub heads : w.heads ≡ pos definition.atom ∷ []
  pub only : (X M : ℕ → Type 0) → ((e : Definition) → e ∈ E → X e.atom → Says (Holding X M) e)
      → ((z : ℤ) → z ∈ ls → Holding X M z) → Says (Holding X M) definition

pub widened : {E F : List Definition} {w : InputRule} {ls : List ℤ} → ((e : Definition) → e ∈ E → e ∈ F) → Defines E w ls → Defines F w ls
widened f d = record { definition = d.definition; among = f d.definition d.among; heads = d.heads; only = λ X M g h. d.only X M (λ e i. g e (f e i)) h }

-- a body of a joined node says enough of both sides
join-body-reaches : (X M : ℕ → Type 0) (n m : ℕ) (p q : Plan) → ((e : Definition) → e ∈ own n p → X e.atom → Says (Holding X M) e)
    → ((e : Definition) → e ∈ own m q → X e.atom → Says (Holding X M) e) → (t : ℕ) (ls : List ℤ) → ls ∈ join_bodies t (shares (own n p)) (shares (own m q))
    → ((z : ℤ) → z ∈ ls → Holding X M z) → SumReaches (Holding X M) (pairs_of p ++ pairs_of q) t
join-body-reaches X M n m p q f g t ls i h = go (join-body→ t (shares (own n p)) (shares (own m q)) ls i)
  where
    side-reaches : (n : ℕ) (p : Plan) → ((e : Definition) → e ∈ own n p → X e.atom → Says (Holding X M) e)
        → {x : Share} → x ∈ shares (own n p) → ((z : ℤ) → z ∈ x.said → Holding X M z) → SumReaches (Holding X M) (pairs_of p) x.level
    side-reaches n p f = share-reaches X M (pairs_of p) (own n p) (λ e i a. subst (λ l. SumReaches (Holding X M) l e.bound) (own-says n p i).0 (f e i a))

    go : Taking t (shares (own n p)) (shares (own m q)) ls → SumReaches (Holding X M) (pairs_of p ++ pairs_of q) t
    go y =
        both-reach t (side-reaches n p f y.of_left (λ z j. h z (subst (λ l. z ∈ l) (sym y.is) (Memᴰ.append_left y.right.said j))))
        (side-reaches m q g y.of_right (λ z j. h z (subst (λ l. z ∈ l) (sym y.is) (Memᴰ.append_right y.left.said j)))) y.enough

pub node-defines : {n : ℕ} {p : Plan} {w : InputRule} → RuleOf n p w → (ls : List ℤ) → ls ∈ bodies_of w.body → Defines (definitions n p) w ls
unfolding definitions bodies_of
node-defines (summed d k) ls j = record { definition = d; among = k; heads = refl; only = λ X M f h. body-reaches j h }
node-defines (paired {n = n} {ts = ts} {p = p} {q = q} d ks k l) ls j =
    let m = n + size p in
    let o : ls ≡ ks = Memᴰ.eq_of_singleton j in
    record {
      definition = d;
      among = own_in n (joined ts p q) k;
      heads = refl;
      only = λ X M f h. subst (λ ps. SumReaches (Holding X M) ps d.bound) (sym (own-says n (joined ts p q) k).0)
          (join-body-reaches X M n m p q (λ c u. f c (Memᴰ.append_left _ (own_in n p u))) (λ c u. f c (Memᴰ.append_right (definitions n p) (Memᴰ.append_left _ (own_in m q u)))) d.bound ls (subst (λ t. t ∈ join_bodies d.bound (shares (own n p)) (shares (own m q))) (sym o) l) h);
    }
node-defines (on-left r) ls j = widened (λ e k. Memᴰ.append_left _ k) (node-defines r ls j)
node-defines (on-right {n = n} {p = p} r) ls j = widened (λ e k. Memᴰ.append_right (definitions n p) (Memᴰ.append_left _ k)) (node-defines r ls j)
