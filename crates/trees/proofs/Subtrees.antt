-- The tree at the front of the numbers, its two sides, and what they take of the texts and the lengths. Assumes nothing.
use mathlib.Core.Path.{◌≡◌, refl, sym, ap, ap₂, ◌∙◌, subst}
use mathlib.Core.Logic.{◌⊎◌, inl, inr}
use mathlib.Core.Bool.{Bool, true, false, cond, not, ◌&&◌}
use mathlib.Core.List.{List, [], ◌∷◌, ◌++◌}
use Prim.Native.Nat.{ℕ, zero, suc, ◌+◌, ◌-◌, ◌≤◌}
use native.Mathlib.Omega.{arith}
use borrow.Author.Tests.{eqb-true, eqb-false}
use lib.Dec.{eqb}
use lib.ListN.{length, drop, get_or, length-drop}
use lib.Seq.{drop-drop}
use Rattle.words.specs.Limits.{largest_size}
use Rattle.words.specs.Lists.{any}
use Rattle.words.proofs.Lists.{and_left}
use Rattle.derivation.specs.States.{is_atom}
use Rattle.splits.specs.declared.MergeFault.{MergeFault}
use Rattle.shapes.specs.Tree.{Shape, end, split, Parsed, bad, found, and_then, tree_of, leaves, sum, ends}
use Rattle.trees.specs.Sides.{Subtree, Takes, Countable, both_taken}
use Rattle.trees.specs.declared.sides.Pending.{Pending}

-- The numbers

-- what is found
abbrev shape_of : Parsed → Shape
shape_of bad = end
shape_of (found t rest) = t

abbrev rest_of : Parsed → List ℕ
rest_of bad = []
rest_of (found t rest) = rest

abbrev IsFound : Parsed → Type 0
IsFound bad = ⊥
IsFound (found t rest) = Unit {0}

none : {t : Shape} {rest : List ℕ} → bad ≡ found t rest → ⊥
none e = subst IsFound (sym e) tt

-- a split that was found, on the first number
pub record Halved (depth : ℕ) (path : List ℕ) (N v : ℕ) (numbers : List ℕ) (t : Shape) (rest : List ℕ) : Type 0 where
  pub left : Shape
  pub right : Shape
  pub between : List ℕ
  pub is : t ≡ split v left right
  pub deep : 1 ≤ depth
  pub atom : is_atom N v ≡ true
  pub first : tree_of (depth - 1) (path ++ (v ∷ [])) N numbers ≡ found left between
  pub second : tree_of (depth - 1) (path ++ (v ∷ [])) N between ≡ found right rest

module _ (path : List ℕ) (N : ℕ) (t : Shape) (rest : List ℕ) where
  -- an end, or a split
  abbrev pub Begins : (depth : ℕ) → List ℕ → Type 0
  Begins depth [] = ⊥
  Begins depth (v ∷ numbers) = ((v ≡ 0) × (t ≡ end) × (rest ≡ numbers)) ⊎ ((¬ (v ≡ 0)) × Halved depth path N v numbers t rest)

  at-end : (v : ℕ) (numbers : List ℕ) → eqb v 0 ≡ true → found end numbers ≡ found t rest → (v ≡ 0) × (t ≡ end) × (rest ≡ numbers)
  at-end v numbers z e = (eqb-true v 0 z, sym (ap shape_of e), sym (ap rest_of e))

  second-side : (d v : ℕ) (numbers : List ℕ) → is_atom N v ≡ true → (l : Shape) (between : List ℕ)
      → tree_of d (path ++ (v ∷ [])) N numbers ≡ found l between → (q : Parsed) → tree_of d (path ++ (v ∷ [])) N between ≡ q
      → and_then q (λ r rest'. found (split v l r) rest') ≡ found t rest → Halved (suc d) path N v numbers t rest
  second-side d v numbers a l between f bad s e = absurd (none e)
  second-side d v numbers a l between f (found r rest') s e =
      let n : suc d - 1 ≡ d = omega arith in
      record {
        left = l;
        right = r;
        between = between;
        is = sym (ap shape_of e);
        deep = omega arith;
        atom = a;
        first = rw n f;
        second = rw (n, ← ap rest_of e) s;
      }

  first-side : (d v : ℕ) (numbers : List ℕ) → is_atom N v ≡ true → (p : Parsed) → tree_of d (path ++ (v ∷ [])) N numbers ≡ p
      → and_then p (λ l between. and_then (tree_of d (path ++ (v ∷ [])) N between) (λ r rest'. found (split v l r) rest')) ≡ found t rest
      → Halved (suc d) path N v numbers t rest
  first-side d v numbers a bad f e = absurd (none e)
  first-side d v numbers a (found l between) f e =
      second-side d v numbers a l between f (tree_of d (path ++ (v ∷ [])) N between) refl e

  pub begins : (depth : ℕ) (tree : List ℕ) → tree_of depth path N tree ≡ found t rest → Begins depth tree
  unfolding tree_of
  begins zero [] e = none e
  begins (suc d) [] e = none e
  begins zero (v ∷ numbers) e = by (eqb v 0) refl e
    where
      by : (b : Bool) → eqb v 0 ≡ b → cond b (found end numbers) bad ≡ found t rest → Begins zero (v ∷ numbers)
      by true z e = inl (at-end v numbers z e)
      by false z e = absurd (none e)
  begins (suc d) (v ∷ numbers) e = by (eqb v 0) refl (is_atom N v && not (any (eqb v) path)) refl e
    where
      below : Parsed
      below = and_then (tree_of d (path ++ (v ∷ [])) N numbers) (λ l between. and_then (tree_of d (path ++ (v ∷ [])) N between) (λ r rest'. found (split v l r) rest'))

      by : (b : Bool) → eqb v 0 ≡ b → (a : Bool) → (is_atom N v && not (any (eqb v) path)) ≡ a
          → cond b (found end numbers) (cond a below bad) ≡ found t rest → Begins (suc d) (v ∷ numbers)
      by true z a g e = inl (at-end v numbers z e)
      by false z true g e = inr (eqb-false v 0 z, first-side d v numbers (and_left (is_atom N v) _ g) (tree_of d (path ++ (v ∷ [])) N numbers) refl e)
      by false z false g e = absurd (none e)

-- What is taken

-- an end takes one number, one length and the bytes of its text
pub takes-end : (tree texts lengths : List ℕ) → 1 ≤ length tree → 1 ≤ length lengths → sum lengths ≡ length texts → (k : ℕ) (j : MergeFault)
    → Takes end (drop 1 tree) tree texts lengths (record { size = k; refusal = j; numbers = 1; bytes = get_or lengths 0 0; ends = 1 })
takes-end tree texts [] h l e k j = absurd (omega (arith, l))
takes-end tree texts (n ∷ ns) h l e k j =
    record { numbers = refl; counted = refl; later = refl; added = omega (arith, e, length-drop n texts); within = (h, omega (arith, e)) }

-- both sides, one after the other
module _ (tree : List ℕ) {texts lengths : List ℕ} {left right : Shape} {between rest : List ℕ} {a b : Pending} (some : 1 ≤ length tree)
    (one : Takes left between (drop 1 tree) texts lengths a)
    (two : Takes right rest (drop (1 + a.numbers) tree) (drop a.bytes texts) (drop a.ends lengths) b) where
  pub taken-first : 1 + a.numbers ≤ length tree
  taken-first = omega (arith, some, one.within.0, length-drop 1 tree)

  taken-both : (1 + a.numbers + b.numbers ≤ length tree) × (a.bytes + b.bytes ≤ length texts)
  taken-both = (
    let f = taken-first in omega (arith, f, two.within.0, length-drop (1 + a.numbers) tree),
    omega (arith, one.within.1, two.within.1, length-drop a.bytes texts),
  )

  pub takes-both : (v n : ℕ) → Takes (split v left right) rest tree texts lengths (both_taken n a b)
  takes-both v n =
      record {
        numbers = two.numbers ∙ drop-drop b.numbers (1 + a.numbers) tree;
        counted = ap₂ (λ (x y : ℕ). x + y) one.counted two.counted;
        later =
            ap₂ ends (sym (drop-drop b.bytes a.bytes texts)) (sym (drop-drop b.ends a.ends lengths))
            ∙ (two.later ∙ (ap (drop (leaves right)) one.later ∙ drop-drop (leaves right) (leaves left) (ends texts lengths)));
        added = ap sum (sym (drop-drop b.ends a.ends lengths)) ∙ (two.added ∙ ap length (drop-drop b.bytes a.bytes texts));
        within = taken-both;
      }

  pub both-counted : length tree ≤ largest_size → length texts ≤ largest_size → length lengths ≤ largest_size → leaves left + leaves right ≤ length lengths → Countable a b
  both-counted h k l m =
      let t = taken-both in
      record { numbers = omega (arith, h, t.0); bytes = omega (arith, k, t.1); ends = omega (arith, l, m, one.counted, two.counted) }

-- A tree with its ends

module _ {depth N : ℕ} {tree texts lengths : List ℕ} {t : Shape} {rest : List ℕ} (T : Subtree depth N tree texts lengths t rest) where
  -- there is a first number
  pub some_number : 1 ≤ length tree
  some_number = by tree (begins T.path N t rest depth tree T.parsed)
    where
      by : (l : List ℕ) → Begins T.path N t rest depth l → 1 ≤ length l
      by [] b = absurd b
      by (v ∷ ns) b = omega arith

  pub tree-end : get_or tree 0 0 ≡ 0 → (t ≡ end) × (rest ≡ drop 1 tree)
  tree-end z = by tree (begins T.path N t rest depth tree T.parsed) z
    where
      by : (l : List ℕ) → Begins T.path N t rest depth l → get_or l 0 0 ≡ 0 → (t ≡ end) × (rest ≡ drop 1 l)
      by [] b z = absurd b
      by (v ∷ ns) (inl e) z = (e.1, e.2)
      by (v ∷ ns) (inr e) z = absurd (e.0 z)

  pub tree-split : ¬ (get_or tree 0 0 ≡ 0) → Halved depth T.path N (get_or tree 0 0) (drop 1 tree) t rest
  tree-split z = by tree (begins T.path N t rest depth tree T.parsed) z
    where
      by : (l : List ℕ) → Begins T.path N t rest depth l → ¬ (get_or l 0 0 ≡ 0) → Halved depth T.path N (get_or l 0 0) (drop 1 l) t rest
      by [] b z = absurd b
      by (v ∷ ns) (inl e) z = absurd (z e.0)
      by (v ∷ ns) (inr e) z = e.1

  -- it has an end, and so there is a length
  pub some-length : 1 ≤ length lengths
  some-length = let m = has_end t in omega (arith, m, T.enough)
    where
      has_end : (t : Shape) → 1 ≤ leaves t
      has_end end = omega arith
      has_end (split v l r) = let m = has_end l in omega (arith, m)

  module _ {v : ℕ} (s : Halved depth T.path N v (drop 1 tree) t rest) where
    pub split-leaves : leaves s.left + leaves s.right ≤ length lengths
    split-leaves = subst (λ (u : Shape). leaves u ≤ length lengths) s.is T.enough

    pub side-first : Subtree (depth - 1) N (drop 1 tree) texts lengths s.left s.between
    side-first =
        record { path = T.path ++ (v ∷ []); parsed = s.first; enough = let m = split-leaves in omega (arith, m); added = T.added }

    pub side-second : {a : Pending} → Takes s.left s.between (drop 1 tree) texts lengths a
        → Subtree (depth - 1) N (drop (1 + a.numbers) tree) (drop a.bytes texts) (drop a.ends lengths) s.right rest
    side-second {a} k =
        record {
          path = T.path ++ (v ∷ []);
          parsed = ap (tree_of (depth - 1) (T.path ++ (v ∷ [])) N) (sym (drop-drop a.numbers 1 tree) ∙ sym k.numbers) ∙ s.second;
          enough = let m = split-leaves in omega (arith, m, k.counted, length-drop a.ends lengths);
          added = k.added;
        }
