-- `SplitKeeps`, `SplitConserves`, `SplitDetermines` and `SplitSound` of specs/Claims.antt: the program split is the program with definitions added.
-- Assumes nothing.
use mathlib.Core.Path.{◌≡◌, refl, sym, ap, subst, ◌∙◌}
use mathlib.Core.Logic.{◌⊎◌, inl, inr}
use mathlib.Core.List.Memᴰ
use mathlib.Core.List.{List, [], ◌∷◌, ◌++◌}
use Prim.Native.Nat.{ℕ, suc, ◌+◌, ◌≤◌, ◌<◌, max}
use native.Mathlib.Omega.{arith}
use lib.IntN.{ℤ}
use lib.ListN.{length}
use Rattle.words.specs.Lists.{◌∈◌}
use Rattle.words.specs.Literals.{variable, top}
use Rattle.words.proofs.Tops.{top-le, top_within}
use Rattle.weights.specs.Weights.{Weighted, literals}
use Rattle.weights.proofs.Reordered.{and-back, reorder-in}
use Rattle.aspif.specs.Rules.{Rule, InputRule, bodies_of, with_body, expand, rule_top, atoms}
use Rattle.aspif.specs.AnswerSets.{AnswerSet}
use Rattle.aspif.proofs.Expansion.{expand→, expand←, expand-append, plain-atoms}
use Rattle.aspif.proofs.RuleTests.{in-greatest, greatest-within}
use Rattle.derivation.proofs.Sound.{answer-set-without}
use Rattle.derivation.proofs.AsWritten.{constraints}
use Rattle.sums.specs.Plans.{Plan, group, joined, pairs_of, size, Definition, numbered, own, definitions, Share, share, shares, node_rules, Item, whole, divided, written, root, needs, all_needs, head_rule, split_item, in_turn, program, first_new, split, item_definitions, all_definitions}
use Rattle.sums.specs.Extension.{Holding, Says, Closed, Origin, kept, used, defining, Carried, Extends, Extended}
use Rattle.sums.specs.Claims.{WellPlanned, SplitKeeps, SplitConserves, SplitDetermines, SplitSound}
use Rattle.sums.proofs.Extension.{extension-keeps, extension-conserves, extension-determines}
use Rattle.sums.proofs.Nodes.{own-says, own_in, Taking, join-body→, node-derived, RuleOf, summed, paired, on-left, on-right, rule-of, node-defines}

-- The numbers of the new atoms

pub record Run (n m : ℕ) (D : List Definition) : Type 0 where
  pub up : n ≤ m
  pub low : (d : Definition) → d ∈ D → n ≤ d.atom
  pub high : (d : Definition) → d ∈ D → d.atom < m
  pub once : (d e : Definition) → d ∈ D → e ∈ D → d.atom ≡ e.atom → d ≡ e

no_run : (n : ℕ) → Run n n []
no_run n = record { up = omega arith; low = λ d i. elim i [ ]; high = λ d i. elim i [ ]; once = λ d e i. elim i [ ] }

one-run : (n : ℕ) (d : Definition) → d.atom ≡ n → Run n (suc n) (d ∷ [])
one-run n d p =
    record {
      up = omega arith;
      low = λ e i. let q = ap (λ x. x.atom) (Memᴰ.eq_of_singleton i) in omega arith;
      high = λ e i. let q = ap (λ x. x.atom) (Memᴰ.eq_of_singleton i) in omega arith;
      once = λ e f i j q. Memᴰ.eq_of_singleton i ∙ sym (Memᴰ.eq_of_singleton j);
    }

both_runs : {n m k : ℕ} {D E : List Definition} → Run n m D → Run m k E → Run n k (D ++ E)
both_runs {n} {m} {k} {D} {E} r s =
    record {
      up = let a = r.up in let b = s.up in omega arith;
      low = λ d i. low d (Memᴰ.append_cases D i);
      high = λ d i. high d (Memᴰ.append_cases D i);
      once = λ d e i j q. once d e q (Memᴰ.append_cases D i) (Memᴰ.append_cases D j);
    }
  where
    low : (d : Definition) → (d ∈ D) ⊎ (d ∈ E) → n ≤ d.atom
    low d (inl i) = r.low d i
    low d (inr i) = let a = r.up in let b = s.low d i in omega arith

    high : (d : Definition) → (d ∈ D) ⊎ (d ∈ E) → d.atom < k
    high d (inl i) = let a = s.up in let b = r.high d i in omega arith
    high d (inr i) = s.high d i

    once : (d e : Definition) → d.atom ≡ e.atom → (d ∈ D) ⊎ (d ∈ E) → (e ∈ D) ⊎ (e ∈ E) → d ≡ e
    once d e q (inl i) (inl j) = r.once d e i j q
    once d e q (inl i) (inr j) = absurd (let a = r.high d i in let b = s.low e j in omega arith)
    once d e q (inr i) (inl j) = absurd (let a = r.high e j in let b = s.low d i in omega arith)
    once d e q (inr i) (inr j) = s.once d e i j q

ending : {n m k : ℕ} {D : List Definition} → m ≡ k → Run n m D → Run n k D
ending {n} {D = D} e r = subst (λ k. Run n k D) e r

starting : {n m k : ℕ} {D : List Definition} → n ≡ m → Run n k D → Run m k D
starting {k = k} {D = D} e r = subst (λ n. Run n k D) e r

numbered-run : (n : ℕ) (l : List Weighted) (ts : List ℕ) → Run n (n + length ts) (numbered n l ts)
numbered-run n l [] = ending (omega arith) (no_run n)
numbered-run n l (t ∷ ts) =
    ending (omega arith) (both_runs (one-run n (record { atom = n; pairs = l; bound = t }) refl) (numbered-run (suc n) l ts))

pub definitions-run : (n : ℕ) (p : Plan) → Run n (n + size p) (definitions n p)
unfolding definitions
definitions-run n (group ts l) = numbered-run n l ts
definitions-run n (joined ts p q) =
    ending (omega arith)
    (both_runs (definitions-run n p)
    (both_runs (definitions-run (n + size p) q) (starting (omega arith) (numbered-run (n + (size p + size q)) (pairs_of p ++ pairs_of q) ts))))

item-run : (n : ℕ) (i : Item) → Run n (n + needs i) (item_definitions n i)
item-run n (whole r) = ending (omega arith) (no_run n)
item-run n (divided k hs b l p q) = definitions-run n (root b p q)

items-run : (n : ℕ) (is : List Item) → Run n (n + all_needs is) (in_turn item_definitions n is)
unfolding in_turn
items-run n [] = ending (omega arith) (no_run n)
items-run n (i ∷ is) = ending (omega arith) (both_runs (item-run n i) (items-run (n + needs i) is))

-- Where the rules and the new atoms of an item stand

pub record Placed (n : ℕ) (is : List Item) (i : Item) : Type 0 where
  pub among : i ∈ is
  pub place : ℕ
  pub later : n ≤ place
  pub rules : (w : InputRule) → w ∈ split_item place i → w ∈ in_turn split_item n is
  pub defs : (e : Definition) → e ∈ item_definitions place i → e ∈ in_turn item_definitions n is

first-placed : (n : ℕ) (i : Item) (is : List Item) → Placed n (i ∷ is) i
unfolding in_turn
first-placed n i is =
    record { among = Memᴰ.head refl; place = n; later = omega arith; rules = λ w j. Memᴰ.append_left _ j; defs = λ e j. Memᴰ.append_left _ j }

later-placed : (n : ℕ) (j : Item) (is : List Item) {i : Item} → Placed (n + needs j) is i → Placed n (j ∷ is) i
unfolding in_turn
later-placed n j is p =
    record {
      among = Memᴰ.tail p.among;
      place = p.place;
      later = let l = p.later in omega arith;
      rules = λ w k. Memᴰ.append_right (split_item n j) (p.rules w k);
      defs = λ e k. Memᴰ.append_right (item_definitions n j) (p.defs e k);
    }

placed : (n : ℕ) (is : List Item) (i : Item) → i ∈ is → Placed n is i
placed n [] i m = elim m [ ]
placed n (j ∷ is) i (Memᴰ.head e) = subst (Placed n (j ∷ is)) (sym e) (first-placed n j is)
placed n (j ∷ is) i (Memᴰ.tail m) = later-placed n j is (placed (n + needs j) is i m)

pub in-turn : {A : Type 0} (f : ℕ → Item → List A) (n : ℕ) (is : List Item) {x : A} → x ∈ in_turn f n is → (i : Item) × (p : Placed n is i) × (x ∈ f p.place i)
unfolding in_turn
in-turn f n [] m = elim m [ ]
in-turn {A} f n (j ∷ is) {x} m = go (in-turn f (n + needs j) is) (Memᴰ.append_cases (f n j) m)
  where
    go : (x ∈ in_turn f (n + needs j) is → (i : Item) × (p : Placed (n + needs j) is i) × (x ∈ f p.place i))
        → (x ∈ f n j) ⊎ (x ∈ in_turn f (n + needs j) is) → (i : Item) × (p : Placed n (j ∷ is) i) × (x ∈ f p.place i)
    go rest (inl k) = (j, first-placed n j is, unfold first-placed in k)
    go rest (inr k) = let r = rest k in (r.0, later-placed n j is r.1, unfold later-placed in r.2)

-- The literals of a definition are among those of its plan

definition-pairs : (n : ℕ) (p : Plan) (d : Definition) → d ∈ definitions n p → (x : Weighted) → x ∈ d.pairs → x ∈ pairs_of p
unfolding definitions
definition-pairs n (group ts l) d i x j = subst (λ k. x ∈ k) (own-says n (group ts l) i).0 j
definition-pairs n (joined ts p q) d i x j = go (definition-pairs n p d) (definition-pairs (n + size p) q d) (Memᴰ.append_cases (definitions n p) i)
  where
    last : (d ∈ definitions (n + size p) q) ⊎ (d ∈ own n (joined ts p q))
        → (d ∈ definitions (n + size p) q → (x : Weighted) → x ∈ d.pairs → x ∈ pairs_of q) → x ∈ pairs_of p ++ pairs_of q
    last (inl k) right = Memᴰ.append_right (pairs_of p) (right k x j)
    last (inr k) right = subst (λ k. x ∈ k) (own-says n (joined ts p q) k).0 j

    go : (d ∈ definitions n p → (x : Weighted) → x ∈ d.pairs → x ∈ pairs_of p)
        → (d ∈ definitions (n + size p) q → (x : Weighted) → x ∈ d.pairs → x ∈ pairs_of q)
        → (d ∈ definitions n p) ⊎ (d ∈ definitions (n + size p) q ++ own n (joined ts p q)) → x ∈ pairs_of p ++ pairs_of q
    go left right (inl k) = Memᴰ.append_left (pairs_of q) (left k x j)
    go left right (inr k) = last (Memᴰ.append_cases (definitions (n + size p) q) k) right

-- the atom of the last node
abbrev last-definition : (n b : ℕ) (p q : Plan) → Definition
last-definition n b p q = record { atom = n + (size p + size q); pairs = pairs_of p ++ pairs_of q; bound = b }

last-in : (n b : ℕ) (p q : Plan) → last-definition n b p q ∈ definitions n (root b p q)
last-in n b p q = own_in n (root b p q) (Memᴰ.head refl)

-- a rule of an item that is divided is the head's, the last, or one of its plan
pub last-or-before : {A : Type 0} (l : List A) {x y : A} → x ∈ l ++ (y ∷ []) → (x ≡ y) ⊎ (x ∈ l)
last-or-before {A} l {x} {y} i = go (Memᴰ.append_cases l i)
  where
    go : (x ∈ l) ⊎ (x ∈ y ∷ []) → (x ≡ y) ⊎ (x ∈ l)
    go (inl j) = inr j
    go (inr j) = inl (Memᴰ.eq_of_singleton j)

-- The program split is the program with definitions added

module _ (is : List Item) (well-planned : (i : Item) → i ∈ is → WellPlanned i) where
  abbrev N : ℕ
  N = atoms (program is)

  abbrev P : List Rule
  P = expand (program is)

  abbrev Q : List Rule
  Q = expand (split is)

  abbrev D : List Definition
  D = all_definitions is

  largest : (r : Rule) → r ∈ P → max (top r.heads) (top r.body) ≤ N
  largest r i =
      let a = in-greatest (λ (r : Rule). max (top r.heads) (top r.body)) i in
      let b = plain-atoms (program is) in
      omega arith

  heads-old : (r : Rule) → r ∈ P → (z : ℤ) → z ∈ r.heads → variable z ≤ N
  heads-old r i z j = let a = largest r i in let b = top-le j in omega arith

  body-old : (r : Rule) → r ∈ P → (z : ℤ) → z ∈ r.body → variable z ≤ N
  body-old r i z j = let a = largest r i in let b = top-le j in omega arith

  pairs-old : (d : Definition) → d ∈ D → (x : Weighted) → x ∈ d.pairs → variable x.literal ≤ N
  pairs-old d i x j = let r = in-turn item_definitions (first_new is) is i in go r.0 r.1 r.2
    where
      go : (i : Item) (p : Placed (first_new is) is i) → d ∈ item_definitions p.place i → variable x.literal ≤ N
      go (whole r) p k = elim k [ ]
      go (divided k hs b l p q) m i =
          let o = (well-planned (divided k hs b l p q) m.among).0 in
          let a = top-le (Memᴰ.map (λ (y : Weighted). y.literal) (reorder-in (and-back o) (definition-pairs m.place (root b p q) d i x j))) in
          let c = in-greatest rule_top (Memᴰ.map written m.among) in
          omega arith

  origin : (i : Item) (p : Placed (first_new is) is i) (w : InputRule) → w ∈ split_item p.place i → (ls : List ℤ) → ls ∈ bodies_of w.body → Origin P D (with_body w ls)
  unfolding bodies_of
  origin (whole r) p w i ls j =
      let e = Memᴰ.eq_of_singleton i in
      kept (subst (λ v. with_body v ls ∈ P) (sym e) (expand← (Memᴰ.map written p.among) (subst (λ v. ls ∈ bodies_of v.body) e j)))
  origin (divided k hs b l p q) m w i ls j = go (last-or-before (node_rules m.place (root b p q)) i)
    where
      go : (w ≡ head_rule k hs (m.place + (size p + size q))) ⊎ (w ∈ node_rules m.place (root b p q)) → Origin P D (with_body w ls)
      go (inl e) =
          used (last-definition m.place b p q) (m.defs (last-definition m.place b p q) (last-in m.place b p q))
          (Memᴰ.eq_of_singleton (subst (λ v. ls ∈ bodies_of v.body) e j)) l (well-planned (divided k hs b l p q) m.among).0
          (λ ks i. subst (λ (v : InputRule). with_body v ks ∈ P) (sym e) (expand← {w = written (divided k hs b l p q)} (Memᴰ.map written m.among) i))
      go (inr i) =
          let d = node-defines (rule-of m.place (root b p q) i) ls j in
          defining d.definition (m.defs d.definition d.among) d.heads (λ X M f h. d.only X M (λ e u. f e (m.defs e u)) h)

  each : (r : Rule) → r ∈ Q → Origin P D r
  each r i =
      let x = expand→ (split is) i in
      let y = in-turn split_item (first_new is) is x.among in
      subst (Origin P D) x.is (origin y.0 y.1 x.rule y.2 x.body x.one)

  item-carried : (i : Item) → Placed (first_new is) is i → (ls : List ℤ) → ls ∈ bodies_of (written i).body → Carried Q D (with_body (written i) ls)
  unfolding bodies_of
  item-carried (whole r) p ls j = inl (expand← (p.rules r (Memᴰ.head refl)) j)
  item-carried (divided k hs b l p q) m ls j =
      inr (
        last-definition m.place b p q,
        m.defs (last-definition m.place b p q) (last-in m.place b p q),
        expand← {w = head_rule k hs (m.place + (size p + size q))} (m.rules _ (Memᴰ.append_right (node_rules m.place (root b p q)) (Memᴰ.head refl))) (Memᴰ.head refl),
        (l, (well-planned (divided k hs b l p q) m.among).0, j),
      )

  carried : (r : Rule) → r ∈ P → Carried Q D r
  carried r i =
      let x = expand→ (program is) i in
      let y = Memᴰ.of_map written is x.among in
      let c = item-carried y.0 (placed (first_new is) is y.0 y.1) x.body (subst (λ v. x.body ∈ bodies_of v.body) (sym y.2) x.one) in
      subst (Carried Q D) x.is (subst (λ v. Carried Q D (with_body v x.body)) y.2 c)

  derived : (M Y : ℕ → Type 0) → Closed M Y Q → (d : Definition) → d ∈ D → Says (Holding Y M) d → Y d.atom
  derived M Y c d i s = let r = in-turn item_definitions (first_new is) is i in go r.0 r.1 r.2
    where
      go : (i : Item) (p : Placed (first_new is) is i) → d ∈ item_definitions p.place i → Y d.atom
      go (whole r) p k = elim k [ ]
      go (divided k hs b l p q) m i =
          node-derived (split is) M Y c m.place (root b p q) (well-planned (divided k hs b l p q) m.among).1 (λ w j. m.rules w (Memᴰ.append_left _ j)) d i s

  pub extends : Extends N P Q D
  extends =
      let r = items-run (first_new is) is in
      record {
        old_heads = heads-old;
        old_body = body-old;
        old_pairs = pairs-old;
        new = r.low;
        once = r.once;
        each = each;
        carried = carried;
        derived = derived;
      }

-- The largest atom

module _ (is : List Item) (well-planned : (i : Item) → i ∈ is → WellPlanned i) where
  abbrev highest : ℕ
  highest = atoms (program is) + all_needs is

  new-within : (d : Definition) → d ∈ all_definitions is → d.atom ≤ highest
  new-within d i = let h = (items-run (first_new is) is).high d i in omega arith

  -- what a share says is a new atom
  share-within : (es : List Definition) → ((d : Definition) → d ∈ es → d ∈ all_definitions is) → (x : Share) → x ∈ shares es → (z : ℤ) → z ∈ x.said → variable z ≤ highest
  share-within es f x (Memᴰ.head e) z i = elim (subst (λ c. z ∈ c.said) e i) [ ]
  share-within es f x (Memᴰ.tail j) z i =
      let r = Memᴰ.of_map share es j in
      subst (λ y. variable y ≤ highest) (sym (Memᴰ.eq_of_singleton (subst (λ c. z ∈ c.said) (sym r.2) i))) (new-within r.0 (f r.0 r.1))

  plan-within : {n : ℕ} {p : Plan} {w : InputRule} → RuleOf n p w → ((d : Definition) → d ∈ definitions n p → d ∈ all_definitions is) → rule_top w ≤ highest
  unfolding definitions
  plan-within (summed {n = n} {ts = ts} {l = l} d k) f =
      let a = new-within d (f d k) in
      let b = top_within highest (literals d.pairs) (λ z i. let x = Memᴰ.of_map (λ (x : Weighted). x.literal) d.pairs i in
      let o = pairs-old is well-planned d (f d k) x.0 x.1 in
      subst (λ y. variable y ≤ highest) x.2 (omega arith)) in
      omega arith
  plan-within (paired {n = n} {ts = ts} {p = p} {q = q} d ls k l) f =
      let a = new-within d (f d (own_in n (joined ts p q) k)) in
      let b = top_within highest ls (λ z i. each (join-body→ d.bound (shares (own n p)) (shares (own (n + size p) q)) ls l) z i) in
      omega arith
    where
      each : Taking d.bound (shares (own n p)) (shares (own (n + size p) q)) ls → (z : ℤ) → z ∈ ls → variable z ≤ highest
      each t z i = elim (Memᴰ.append_cases t.left.said (subst (λ (l : List ℤ). z ∈ l) t.is i)) [
        | inl j ↦ share-within (own n p) (λ e u. f e (Memᴰ.append_left _ (own_in n p u))) t.left t.of_left z j
        | inr j ↦ share-within (own (n + size p) q) (λ e u. f e (Memᴰ.append_right (definitions n p) (Memᴰ.append_left _ (own_in (n + size p) q u)))) t.right t.of_right z j
      ]
  plan-within (on-left r) f = plan-within r (λ d i. f d (Memᴰ.append_left _ i))
  plan-within (on-right {n = n} {p = p} r) f = plan-within r (λ d i. f d (Memᴰ.append_right (definitions n p) (Memᴰ.append_left _ i)))

  rule-within : (i : Item) (p : Placed (first_new is) is i) (w : InputRule) → w ∈ split_item p.place i → rule_top w ≤ highest
  rule-within (whole r) p w j =
      let a = in-greatest rule_top (Memᴰ.map written p.among) in
      subst (λ v. rule_top v ≤ highest) (sym (Memᴰ.eq_of_singleton j)) (omega arith)
  rule-within (divided k hs b l p q) m w j = go (last-or-before (node_rules m.place (root b p q)) j)
    where
      go : (w ≡ head_rule k hs (m.place + (size p + size q))) ⊎ (w ∈ node_rules m.place (root b p q)) → rule_top w ≤ highest
      go (inl e) =
          let a = in-greatest rule_top (Memᴰ.map written m.among) in
          let c = new-within (last-definition m.place b p q) (m.defs (last-definition m.place b p q) (last-in m.place b p q)) in
          subst (λ v. rule_top v ≤ highest) (sym e) (omega arith)
      go (inr i) = plan-within (rule-of m.place (root b p q) i) (λ d i. m.defs d i)

  pub split-within : atoms (split is) ≤ highest
  split-within = greatest-within rule_top highest (split is) (λ w i. let y = in-turn split_item (first_new is) is i in rule-within y.0 y.1 w y.2)

-- nothing is divided, and so nothing is changed; or a rule names the last new atom
data LastNamed (n : ℕ) (is : List Item) : Type 0 where
  unchanged : all_needs is ≡ 0 → in_turn split_item n is ≡ program is → LastNamed n is
  named : (w : InputRule) → w ∈ in_turn split_item n is → n + all_needs is ≤ suc (rule_top w) → LastNamed n is

last-named : (n : ℕ) (is : List Item) → LastNamed n is
unfolding in_turn
last-named n [] = unchanged refl refl
last-named n (whole r ∷ is) = go (last-named (n + 0) is)
  where
    go : LastNamed (n + 0) is → LastNamed n (whole r ∷ is)
    go (unchanged e f) = unchanged (omega arith) (ap (λ (l : List InputRule). r ∷ l) f)
    go (named w i h) = named w (Memᴰ.tail i) (omega arith)
last-named n (divided k hs b l p q ∷ is) = go (last-named (n + size (root b p q)) is)
  where
    head : InputRule
    head = head_rule k hs (n + (size p + size q))

    go : LastNamed (n + size (root b p q)) is → LastNamed n (divided k hs b l p q ∷ is)
    go (unchanged e f) =
        named head (Memᴰ.append_left _ (Memᴰ.append_right (node_rules n (root b p q)) (Memᴰ.head refl))) (omega (arith, e))
    go (named w i h) = named w (Memᴰ.append_right (split_item n (divided k hs b l p q)) i) (omega arith)

pub split-reaches : (is : List Item) → atoms (program is) + all_needs is ≤ atoms (split is)
split-reaches is = go (last-named (first_new is) is)
  where
    go : LastNamed (first_new is) is → atoms (program is) + all_needs is ≤ atoms (split is)
    go (unchanged e f) = omega (arith, e, ap atoms f)
    go (named w i h) = omega (arith, h, in-greatest rule_top i)

pub split-keeps : SplitKeeps
split-keeps is c M s = extension-keeps (atoms (program is)) (expand (program is)) (expand (split is)) (all_definitions is) (extends is c) M s

pub split-conserves : SplitConserves
split-conserves is c K s = extension-conserves (atoms (program is)) (expand (program is)) (expand (split is)) (all_definitions is) (extends is c) K s

pub split-determines : SplitDetermines
split-determines is c K s = extension-determines (atoms (program is)) (expand (program is)) (expand (split is)) (all_definitions is) (extends is c) K s

-- further constraints only take answer sets away
pub split-sound : SplitSound
split-sound is c none =
    (first, λ further f M s. first M (answer-set-without (expand (program is)) (expand further) M (constraints further f) (subst (AnswerSet M) (expand-append (program is) further) s)))
  where
    first : (M : ℕ → Type 0) → AnswerSet M (expand (program is)) → ⊥
    first M s = none.0 (Extended (atoms (program is)) (all_definitions is) M M) (split-keeps is c M s)
