-- What a side comes to, from what its parts leave. Assumes nothing.
use mathlib.Core.Path.{◌≡◌, refl, sym, ap, ap₂, ◌∙◌, subst}
use mathlib.Core.Logic.{inl, inr}
use mathlib.Core.Bool.{Bool, true, false, cond, ◌&&◌, true≢false}
use mathlib.Core.List.{List, [], ◌∷◌}
use Prim.Native.Nat.{ℕ, ◌+◌, ◌-◌, ◌≤◌, ◌<◌}
use native.Mathlib.Omega.{arith}
use borrow.Author.Tests.{lt-leb, le-leb}
use lib.Dec.{leb}
use lib.IntN.{ℤ, pos, neg_ℤ}
use lib.ListN.{length, take, drop, get_or}
use lib.Seq.{length-take-le}
use Rattle.words.specs.Limits.{longest, largest_size}
use Rattle.words.proofs.Lists.{zero_one, if-true, leb-decides, and_left, and_right}
use Rattle.aspif.specs.Rules.{InputRule, expand, atoms}
use Rattle.drupe.specs.Texts.{text_of}
use Rattle.derivation.specs.States.{is_atom}
use Rattle.runs.specs.Course.{ends_empty, is_accepted}
use Rattle.checker.proofs.Verdicts.{too_long}
use Rattle.merging.specs.Merge.{all_fit}
use Rattle.merging.specs.Claims.{demanding_as_written}
use Rattle.splits.specs.Service.{are_halves, merged_steps, is_writable}
use Rattle.splits.specs.Joined.{WrittenBy}
use Rattle.splits.proofs.Answers.{text_in}
use Rattle.shapes.specs.Tree.{Shape, end, split, leaves, sum, ends}
use Rattle.trees.specs.Service.{Side, fails, gives, first_end, merge_outcome, tree_outcome}
use Rattle.trees.specs.Sides.{Standing, Subtree, Takes, both_taken, pending, joined_sides, side_of, EndTaken, AddsTo, Joinable, Took, Merged, Sided}
use Rattle.trees.specs.declared.sides.Place.{Place}
use Rattle.trees.specs.declared.sides.Pending.{Pending}
use Rattle.trees.proofs.OverTrees.{at_split}
use Rattle.trees.proofs.Subtrees.{Halved, takes-end, takes-both, both-counted, some_number, some-length, tree-end, split-leaves}
use Rattle.splits.specs.declared.MergeFault.TheVariants.{NotAccepted, NotWritable, StoreFull}
use Rattle.splits.specs.declared.MergeFault.{MergeFault}
use Rattle.std.specs.Prelude.{Result, Ok, Err, IsErrAnd}

-- An end

first-end : (texts lengths : List ℕ) → 1 ≤ length lengths → first_end (ends texts lengths) ≡ take (get_or lengths 0 0) texts
first-end texts [] h = absurd (omega (arith, h))
first-end texts (n ∷ ns) h = refl

-- the bytes are there
pub first-length : (texts lengths : List ℕ) → 1 ≤ length lengths → sum lengths ≡ length texts → get_or lengths 0 0 ≤ length texts
first-length texts [] h e = absurd (omega (arith, h))
first-length texts (n ∷ ns) h e = omega (arith, e)

module _ (s o : ℕ) (ws : List InputRule) where
  outcome-end : (texts : List (List ℕ)) → tree_outcome s o ws end texts ≡ pending s ws (first_end texts) NotAccepted
  unfolding tree_outcome
  outcome-end texts = refl

  module _ {depth N : ℕ} {tree texts lengths : List ℕ} {t : Shape} {rest : List ℕ} (T : Subtree depth N tree texts lengths t rest) where
    end-text : tree_outcome s o ws end (ends texts lengths) ≡ pending s ws (take (get_or lengths 0 0) texts) NotAccepted
    end-text = outcome-end (ends texts lengths) ∙ ap (λ (l : List ℕ). pending s ws l NotAccepted) (first-end texts lengths (some-length T))

    pub end-merged : get_or tree 0 0 ≡ 0 → (output : List ℕ) (r : Sided) → EndTaken texts lengths output r → Merged s o ws t rest tree texts lengths output r
    end-merged z output r e = let q = tree-end T z in rw (q.0, q.1) (by r e)
      where
        by : (r : Sided) → EndTaken texts lengths output r → Merged s o ws end (drop 1 tree) tree texts lengths output r
        by (Ok p) (a, b, c) =
            subst (λ (q : Pending). Merged s o ws end (drop 1 tree) tree texts lengths output (Ok q)) (sym a)
            (record { outcome = end-text ∙ ap (λ (l : List ℕ). pending s ws l NotAccepted) (sym c); took = (b, takes-end tree texts lengths (some_number T) (some-length T) T.added _ NotAccepted) })
        by (Err j) (a, b) =
            let l : length (take (get_or lengths 0 0) texts) ≡ get_or lengths 0 0 = length-take-le (get_or lengths 0 0) texts (first-length texts lengths (some-length T) T.added) in
            let no : is_accepted s ws (take (get_or lengths 0 0) texts) ≡ false =
            ap ends_empty (too_long longest (atoms ws) (expand ws) s (take (get_or lengths 0 0) texts) (omega (arith, l, b))) in
            record { outcome = end-text ∙ (ap (λ (x : Bool). cond x (gives (take (get_or lengths 0 0) texts)) (fails NotAccepted)) no ∙ ap fails (sym a)); took = tt }

-- A split: the first refusal met decides, the demanding side before the other

module _ (s o : ℕ) (ws : List InputRule) (v : ℕ) (l r : Shape) (texts : List (List ℕ)) where
  pub first-fails : (k : MergeFault) → tree_outcome s o (demanding_as_written ws (pos v)) l texts ≡ fails k → tree_outcome s o ws (split v l r) texts ≡ fails k
  first-fails k e = at_split s o ws v l r texts ∙ rw e refl

  both-sides : {x y : Side} → tree_outcome s o (demanding_as_written ws (pos v)) l texts ≡ x
      → tree_outcome s o (demanding_as_written ws (neg_ℤ (pos v))) r (drop (leaves l) texts) ≡ y
      → tree_outcome s o ws (split v l r) texts ≡ joined_sides s o ws v x y
  both-sides a b = at_split s o ws v l r texts ∙ ap₂ (λ (x y : Side). joined_sides s o ws v x y) a b

-- the other side is refused
pub other-refused : (s o : ℕ) (ws : List InputRule) (v : ℕ) (first : List ℕ) (j k : MergeFault)
    → joined_sides s o ws v (pending s (demanding_as_written ws (pos v)) first j) (fails k) ≡ fails (cond (is_accepted s (demanding_as_written ws (pos v)) first) k j)
other-refused s o ws v first j k = by (is_accepted s (demanding_as_written ws (pos v)) first)
  where
    by : (b : Bool) → joined_sides s o ws v (cond b (gives first) (fails j)) (fails k) ≡ fails (cond b k j)
    by true = refl
    by false = refl

-- the demanding side's text stands in its buffer
pub joinable-first : (one : Pending) (other : Sided) (first second : List ℕ) → Joinable one other first second → one.size ≤ length first
joinable-first one (Ok two) first second j = j.0
joinable-first one (Err k) first second j = j

-- what `?` answers of a side that is refused
pub handed-up : {s o : ℕ} {ws : List InputRule} {t : Shape} {rest tree texts lengths output : List ℕ} (r : Sided) {k : MergeFault} → IsErrAnd r (λ e. e ≡ k)
    → tree_outcome s o ws t (ends texts lengths) ≡ fails k → Merged s o ws t rest tree texts lengths output r
handed-up (Ok p) h e = absurd h
handed-up (Err j) h e = record { outcome = e ∙ ap fails (sym h); took = tt }

-- The same, from what the sides leave

module _ (s o : ℕ) (ws : List InputRule) {depth N : ℕ} {tree texts lengths : List ℕ} {t : Shape} {rest : List ℕ} (T : Subtree depth N tree texts lengths t rest) {v : ℕ}
    (H : Halved depth T.path N v (drop 1 tree) t rest) {first : List ℕ} {one : Sided}
    (M : Merged s o (demanding_as_written ws (pos v)) H.left H.between (drop 1 tree) texts lengths first one) where
  outcome-is : tree_outcome s o ws t (ends texts lengths) ≡ tree_outcome s o ws (split v H.left H.right) (ends texts lengths)
  outcome-is = ap (λ (u : Shape). tree_outcome s o ws u (ends texts lengths)) H.is

  pub first-refused : (k : MergeFault) → one ≡ Err k → tree_outcome s o ws t (ends texts lengths) ≡ fails k
  first-refused k e =
      outcome-is ∙ first-fails s o ws v H.left H.right (ends texts lengths) k (M.outcome ∙ ap (side_of s (demanding_as_written ws (pos v)) first) e)

  module _ (p : Pending) (is : one ≡ Ok p) where
    pub first-took : (p.size ≤ longest) × Takes H.left H.between (drop 1 tree) texts lengths p
    first-took = subst (Took H.left H.between (drop 1 tree) texts lengths) is M.took

    module _ {second : List ℕ} {two : Sided}
        (L : Merged s o (demanding_as_written ws (neg_ℤ (pos v))) H.right rest (drop (1 + p.numbers) tree) (drop p.bytes texts) (drop p.ends lengths) second two) where
      later : tree_outcome s o (demanding_as_written ws (neg_ℤ (pos v))) H.right (drop (leaves H.left) (ends texts lengths))
          ≡ side_of s (demanding_as_written ws (neg_ℤ (pos v))) second two
      later = ap (tree_outcome s o (demanding_as_written ws (neg_ℤ (pos v))) H.right) (sym first-took.1.later) ∙ L.outcome

      -- both can be joined
      pub sides-joinable : length first ≡ longest → length second ≡ longest
          → length tree ≤ largest_size → length texts ≤ largest_size → length lengths ≤ largest_size → Joinable p two first second
      sides-joinable f g x y z = by two L.took
        where
          fits : p.size ≤ length first
          fits = omega (arith, first-took.0, f)

          by : (w : Sided) → Took H.right rest (drop (1 + p.numbers) tree) (drop p.bytes texts) (drop p.ends lengths) w → Joinable p w first second
          by (Ok q) (m, k) = (fits, omega (arith, m, g), both-counted tree (some_number T) first-took.1 k x y z (split-leaves T H))
          by (Err i) k = fits

      -- what is made of them
      pub sides-joined : {output : List ℕ} {r : Sided}
          → joined_sides s o ws v (pending s (demanding_as_written ws (pos v)) (take p.size first) p.refusal) (side_of s (demanding_as_written ws (neg_ℤ (pos v))) second two)
          ≡ side_of s ws output r
          → AddsTo p two r → Merged s o ws t rest tree texts lengths output r
      sides-joined {output} {r} e a =
          record {
            outcome =
                outcome-is
                ∙ (both-sides s o ws v H.left H.right (ends texts lengths) (M.outcome ∙ ap (side_of s (demanding_as_written ws (pos v)) first) is) later ∙ e);
            took = by two L.took r a;
          }
        where
          by : (w : Sided) → Took H.right rest (drop (1 + p.numbers) tree) (drop p.bytes texts) (drop p.ends lengths) w
              → (x : Sided) → AddsTo p w x → Took t rest tree texts lengths x
          by (Ok q) (m, k) (Ok x) (b, e) = (
            b,
            subst (Takes t rest tree texts lengths) (sym e)
                (subst (λ (u : Shape). Takes u rest tree texts lengths (both_taken x.size p q)) (sym H.is) (takes-both tree (some_number T) first-took.1 k v x.size)),
          )
          by (Ok q) k (Err j) a = tt
          by (Err i) k (Ok x) a = absurd a
          by (Err i) k (Err j) a = tt

-- What a call for a side tells, of every program and every tree, by the names that the caller knows

abbrev pub Tells : (table : List ℤ) → (output : List ℕ) → Sided → (s : ℕ) → Place → (tree texts lengths : List ℕ) → Type 0
Tells table output r s q tree texts lengths =
    (ws : List InputRule) → Standing q.depth q table ws → (t : Shape) (rest : List ℕ) → Subtree q.depth q.atoms tree texts lengths t rest
    → Merged s q.limit ws t rest tree texts lengths output r

pub tells_as : (table : List ℤ) (output : List ℕ) (r : Sided) {s s' : ℕ} {q q' : Place} {tree tree' texts texts' lengths lengths' : List ℕ} → s ≡ s' → q ≡ q' → tree ≡ tree'
    → texts ≡ texts' → lengths ≡ lengths' → Tells table output r s q tree texts lengths → Tells table output r s' q' tree' texts' lengths'
tells_as table output r a b c d e f = rw (← a, ← b, ← c, ← d, ← e) f

pub subtree-as : {t : Shape} {rest : List ℕ} {q q' : Place} {tree tree' texts texts' lengths lengths' : List ℕ} → q ≡ q' → tree ≡ tree' → texts ≡ texts' → lengths ≡ lengths'
    → Subtree q.depth q.atoms tree texts lengths t rest → Subtree q'.depth q'.atoms tree' texts' lengths' t rest
subtree-as b c d e f = rw (← b, ← c, ← d, ← e) f

-- A merge into a buffer of 65,535 bytes, held to the output's length afterwards

module _ (s limit : ℕ) (ws : List InputRule) (v : ℕ) (first second output : List ℕ) (one two : MergeFault) (atom : is_atom (atoms ws) v ≡ true)
    (long : length output ≡ longest) where
  abbrev good_first : Bool
  good_first = is_accepted s (demanding_as_written ws (pos v)) first

  abbrev good_second : Bool
  good_second = is_accepted s (demanding_as_written ws (neg_ℤ (pos v))) second

  abbrev merging : Side
  merging = joined_sides s limit ws v (pending s (demanding_as_written ws (pos v)) first one) (pending s (demanding_as_written ws (neg_ℤ (pos v))) second two)

  abbrev merged-text : List ℕ
  merged-text = text_of (merged_steps ws v first second)

  both-good : are_halves s ws v first second ≡ true → merging ≡ merge_outcome s limit ws v first second
  both-good e =
      let b = and_right (is_atom (atoms ws) v) _ e in
      rw (and_left good_first good_second b, and_right good_first good_second b) refl

  one-bad : are_halves s ws v first second ≡ false → merging ≡ fails (cond good_first two one)
  one-bad e = by good_first good_second (subst (λ (a : Bool). (a && (good_first && good_second)) ≡ false) atom e)
    where
      by : (a b : Bool) → (a && b) ≡ false
          → joined_sides s limit ws v (cond a (gives first) (fails one)) (cond b (gives second) (fails two)) ≡ fails (cond a two one)
      by true true e = absurd (true≢false e)
      by true false e = refl
      by false b e = refl

  module _ {w : Result ℕ MergeFault} (n : ℕ) (e : w ≡ Ok n) (W : WrittenBy s ws v first second output w) where
    wrote : WrittenBy s ws v first second output (Ok n)
    wrote = subst (WrittenBy s ws v first second output) e W

    pub text-size : n ≤ longest
    text-size =
        let t = and_right (leb (length merged-text) longest) _ (and_right (all_fit (merged_steps ws v first second)) _ wrote.1) in
        let h : length merged-text ≤ length output = if-true (leb-decides (length merged-text) (length output)) t in
        omega (arith, h, wrote.2.0, long)

    writable : is_writable limit (merged_steps ws v first second) ≡ leb (length merged-text) limit
    writable =
        held (all_fit (merged_steps ws v first second)) (leb (length merged-text) longest) (leb (length merged-text) limit)
        (subst (λ (m : ℕ). is_writable m (merged_steps ws v first second) ≡ true) long wrote.1)
      where
        held : (f b c : Bool) → (f && (b && b)) ≡ true → (f && (b && c)) ≡ c
        held true true c e = refl
        held true false c e = absurd (true≢false (sym e))
        held false b c e = absurd (true≢false (sym e))

    -- 58
    pub over-limit : limit < n → merging ≡ fails NotWritable
    over-limit h = both-good wrote.0 ∙ rw (writable, lt-leb (length merged-text) limit (omega (arith, h, wrote.2.0))) refl

    pub text-pending : n ≤ limit → merging ≡ pending s ws (take n output) StoreFull
    text-pending h =
        both-good wrote.0
        ∙ rw (writable, le-leb (length merged-text) limit (omega (arith, h, wrote.2.0)), text_in merged-text (length output - n) wrote.2.0 wrote.2.1) refl
