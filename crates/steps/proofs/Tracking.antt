-- The arrays through the steps: at the start, what is known, and with a new name.
-- Assumes nothing.
use mathlib.Core.Path.{◌≡◌, refl, sym, ◌∙◌, ap, ap₂}
use mathlib.Core.Logic.{◌⊎◌, inl, inr}
use mathlib.Core.Bool.{false, ◌&&◌, ◌||◌}
use mathlib.Core.List.Memᴰ
use mathlib.Core.List.{List, [], ◌∷◌, map}
use Prim.Native.Nat.{ℕ, zero, suc, ◌-◌, ◌≤◌}
use native.Mathlib.Omega.{arith}
use lib.Dec.{T, eqb}
use lib.IntN.{ℤ, pos}
use lib.ListN.{length, take, set, replicate, length-set, length-replicate}
use Rattle.words.specs.Limits.{largest}
use Rattle.words.specs.Lists.{◌∈◌, any, all}
use Rattle.words.specs.Literals.{variable}
use Rattle.words.proofs.Lists.{Decides, itself, reworded, and-decides, or-decides, eqb-decides, leb-decides, same_test, each-cons, or_swap}
use Rattle.words.proofs.Places.{equal?}
use Rattle.aspif.specs.Rules.{Body, plain, weights, InputRule}
use Rattle.aspif.proofs.Readable.{rules-count}
use Rattle.marks.specs.Marks.{listed, marked, Marks, up_to}
use Rattle.derivation.specs.States.{Named, State, start, is_atom, is_known}
use Rattle.derivation.specs.Steps.{all_known}
use Rattle.derivation.proofs.Questions.{known-decides}
use Rattle.nogoods.specs.Index.{BlankIndex}
use Rattle.nogoods.specs.Keeps.{Holds}
use Rattle.nogoods.proofs.Live.{live-nil}
use Rattle.nogoods.proofs.Indexing.{keeps-blank}
use Rattle.names.specs.Queries.{HoldsRules, entry, Kept}
use Rattle.names.proofs.Called.{none-called}
use Rattle.marks.proofs.Sets.{marked-set}
use Rattle.steps.specs.Held.{name_of, Proper, Program, Tracks, Tracked, NoBodies, HoldsState}
use Rattle.heads.specs.Heads.{name_words}
use Rattle.steps.proofs.Names.{unlisted, name-of, name-found}

-- Question 26

pub all_known_lem : {N : ℕ} {ws : List InputRule} {known names : List ℕ} {bodies : List ℤ} (z : State) → Tracks N ws known names bodies z.introduced z.named
    → (L : List ℤ) → ((x : ℤ) → x ∈ L → variable x ≤ largest) → all (λ x. marked known (variable x)) L ≡ all_known N z L
all_known_lem z tracks [] high = refl
all_known_lem z tracks (x ∷ L) high = ap₂ (λ a b. a && b) (tracks.knows (variable x) (high x (Memᴰ.head refl))) (all_known_lem z tracks L (λ y i. high y (Memᴰ.tail i)))

-- The rules in the table

pub same-rules : {table : List ℤ} {rules : ℕ} {P Q : List InputRule} → HoldsRules table rules P → HoldsRules table rules Q → P ≡ Q
same-rules h k = sym h.are ∙ k.are

pub rules-held : {table : List ℤ} {rules : ℕ} {ws : List InputRule} → HoldsRules table rules ws → length ws ≡ rules
rules-held {table} {rules} h = rw (← h.are) (rules-count rules table)

-- what a state that is held tells of the program
pub program-of : {table : List ℤ} {rules N : ℕ} {known names : List ℕ} {bodies : List ℤ} → Tracked table rules N known names bodies
    → ((ws : List InputRule) × Program table rules N ws) × (rules ≤ length names)
program-of t = ((t.0, t.2), omega (arith, t.3.kept.rules, rules-held t.2.holds))

-- The start

listed-up_to : (n v : ℕ) → Decides (listed (up_to n) v) ((1 ≤ v) × (v ≤ n))
listed-up_to zero v = record { to = λ t. absurd t; from = λ p. absurd (omega (arith, p.0, p.1)) }
listed-up_to (suc n) v = reworded to from (or-decides (eqb-decides v (suc n)) (listed-up_to n v))
  where
    to : (v ≡ suc n) ⊎ ((1 ≤ v) × (v ≤ n)) → (1 ≤ v) × (v ≤ suc n)
    to (inl e) = (omega arith, omega arith)
    to (inr p) = (p.0, omega (arith, p.1))

    from : (1 ≤ v) × (v ≤ suc n) → (v ≡ suc n) ⊎ ((1 ≤ v) × (v ≤ n))
    from p = elim (equal? v (suc n)) [ inl e ↦ inl e | inr f ↦ inr (p.0, omega (arith, p.1)) ]

no_names : (ws : List InputRule) (n : ℕ) → length ws ≤ n → take {A = ℕ} (length ws) (replicate n 0) ≡ map (λ r. entry (λ L. 0) r.body) ws
no_names [] n h = refl
no_names (r ∷ ws) zero h = absurd (omega arith)
no_names (r ∷ ws) (suc n) h = ap₂ (λ (x : ℕ) (l : List ℕ). x ∷ l) (sym (none r.body)) (no_names ws n (omega arith))
  where
    none : (b : Body) → entry (λ L. 0) b ≡ 0
    none (plain ls) = refl
    none (weights b l) = refl

pub start-tracks : {N : ℕ} {ws : List InputRule} {known : List ℕ} {bodies : List ℤ} → Marks known (up_to N) → length ws ≤ name_words → NoBodies ws bodies
    → Tracks N ws known (replicate name_words 0) bodies [] []
start-tracks {N} {ws} {known} marks few none =
    record {
      entries = marks.long;
      knows = λ v h. marks.has v h ∙ same_test (listed-up_to N v) (or-decides (and-decides (leb-decides 1 v) (leb-decides v N)) (itself false))
          (λ p. inl p) (λ s. elim s [ inl p ↦ p | inr t ↦ absurd t ]);
      kept = record { rules = omega (arith, few, length-replicate {A = ℕ} name_words 0); by_rule = no_names ws name_words few; by_name = λ w. rw (none w) none-called };
      proper = record {
        low = λ x i. elim i [ ];
        high = λ x i. elim i [ ];
        new = λ x i. elim i [ ];
        old = λ x i. elim i [ ];
        once = λ x y i. elim i [ ];
        different = refl;
      };
    }

-- an empty store
pub holds-none : (store : List ℤ) → store ≡ replicate (length store) (pos 0) → Holds store 0 []
holds-none store e =
    let n : length store - 0 ≡ length store = omega arith in
    record { words = rw n e; extent = refl; fits = omega arith; literals = λ x i. elim i [ ]; origins = λ x i. elim i [ ] }

pub holds-start : (store : List ℤ) (index : List ℕ) → store ≡ replicate (length store) (pos 0) → BlankIndex index → HoldsState store index 0 start []
holds-start store index e b = record { keeps = keeps-blank (holds-none store e) b; same = live-nil }

-- A new name

module _ {N : ℕ} {ws : List InputRule} {known names : List ℕ} {bodies : List ℤ} (z : State) (tracks : Tracks N ws known names bodies z.introduced z.named) (n : ℕ) (low : 1 ≤ n) (high : n ≤ largest)
    (fresh : is_known N z n ≡ false) where
  abbrev proper : Proper N z.introduced z.named
  proper = tracks.proper

  unknown : ¬ T (is_known N z n)
  unknown t = rw fresh at t

  knows-new : (v : ℕ) → v ≤ largest → marked (set known n 1) v ≡ (is_atom N v || (eqb v n || any (eqb v) z.introduced))
  knows-new v h = marked-set known n v (λ k. omega (arith, tracks.entries)) ∙ rw (tracks.knows v h) (or_swap (eqb v n) (is_atom N v) (any (eqb v) z.introduced))

  -- `e`
  pub extended : Tracks N ws (set known n 1) names bodies (n ∷ z.introduced) z.named
  extended =
      record {
        entries = length-set known n 1 ∙ tracks.entries;
        knows = knows-new;
        kept = tracks.kept;
        proper = record {
          low = proper.low;
          high = proper.high;
          new = proper.new;
          old = λ x i. Memᴰ.tail (proper.old x i);
          once = proper.once;
          different = proper.different;
        };
      }

  module _ (body : List ℤ) (unnamed : name_of z.named body ≡ 0) where
    abbrev new-one : Named
    new-one = record { name = n; body = body }

    -- no body that has a name already is the new one
    other : (x : Named) → x ∈ z.named → ¬ (x.body ≡ body)
    other x i e = let q : x.name ≡ 0 = sym (name-of proper i) ∙ ap (name_of z.named) e ∙ unnamed in omega (arith, proper.low x i)

    not-older : (x : Named) → x ∈ z.named → ¬ (x.name ≡ n)
    not-older x i e = unknown ((known-decides N z n).from (inr (Memᴰ.cast (sym e) (proper.old x i))))

    new-proper : Proper N (n ∷ z.introduced) (new-one ∷ z.named)
    new-proper = record {
      low = each-cons low proper.low;
      high = each-cons high proper.high;
      new = each-cons (λ t. unknown ((known-decides N z n).from (inl t))) proper.new;
      old = each-cons (Memᴰ.head refl) (λ x i. Memᴰ.tail (proper.old x i));
      once = once;
      different = rw (unlisted n z.named not-older, proper.different);
    }
      where
        once : (x y : Named) → x ∈ new-one ∷ z.named → y ∈ new-one ∷ z.named → x.body ≡ y.body → x.name ≡ y.name
        once x y (Memᴰ.head p) (Memᴰ.head q) e = rw (p, q)
        once x y (Memᴰ.head p) (Memᴰ.tail j) e = absurd (other y j (sym e ∙ ap (λ (a : Named). a.body) p))
        once x y (Memᴰ.tail i) (Memᴰ.head q) e = absurd (other x i (e ∙ ap (λ (a : Named). a.body) q))
        once x y (Memᴰ.tail i) (Memᴰ.tail j) e = proper.once x y i j e

    -- no body has the new name
    pub nothing-older : (L : List ℤ) → ¬ (name_of z.named L ≡ n)
    nothing-older L e = let r = name-found z.named L (λ k. omega arith) in not-older r.0 r.1 (r.2.0 ∙ e)

    -- `b`
    pub named : {names' : List ℕ} {bodies' : List ℤ} → Kept names' bodies' (name_of (new-one ∷ z.named)) ws
        → Tracks N ws (set known n 1) names' bodies' (n ∷ z.introduced) (new-one ∷ z.named)
    named K = record { entries = extended.entries; knows = knows-new; kept = K; proper = new-proper }
