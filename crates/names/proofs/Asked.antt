-- What is asked of the plain rules of a program: rule by rule as written, and of one such rule body by body.
-- Assumes nothing.
use mathlib.Core.Path.{◌≡◌, refl, sym, ap, ◌∙◌}
use mathlib.Core.Logic.{inl, inr}
use mathlib.Core.Bool.{Bool, true, false, cond, not, ◌&&◌, ◌||◌, or_assoc, true≢false}
use mathlib.Core.List.{List, [], ◌∷◌, ◌++◌, map, map-append, map-map}
use Prim.Native.Nat.{ℕ, ◌≤◌}
use native.Mathlib.Omega.{arith}
use lib.Dec.{eqb}
use lib.IntN.{ℤ}
use lib.ListN.{length, take, replicate, length-map}
use Rattle.words.specs.Limits.{entries}
use Rattle.words.specs.Lists.{◌∈◌, any, filter}
use Rattle.words.specs.Literals.{same_list}
use Rattle.words.proofs.Lists.{if-true, failed, not-decides, any-decides}
use Rattle.words.proofs.Literals.{same_list-decides}
use Rattle.weights.specs.Weights.{bodies, paired, most_weighted}
use Rattle.weights.proofs.Sublists.{filter-append, filter_map, filter_none, any_append, any-map, any_same, none_pass, sublist-short}
use Rattle.weights.proofs.Minimal.{body→}
use Rattle.aspif.specs.Rules.{Rule, InputRule, is_normal, bodies_of, with_body, expand_rule, expand}
use Rattle.aspif.specs.Tables.{is_weighted, body_words_at, bound_at, body_at}
use Rattle.aspif.proofs.SoundWeights.{Weighing}
use Rattle.marks.specs.Marks.{listed, marked, Marks, mark_all, same_marks}
use Rattle.marks.proofs.Sets.{MarkedSoFar, found_none, found-on, found_all, same-marks}
use Rattle.names.specs.ByName.{Called, Told}
use Rattle.names.specs.Minimal.{AlsoMarks}
use Rattle.names.specs.Queries.{entry, is_inside, asks_heads, asks, asked_names, MarksNames, completing}
use Rattle.names.specs.declared.queries.Query.{Query}
use Rattle.std.specs.Prelude.{Option, Some, None}

-- One rule more

module _ (r : InputRule) (ws : List InputRule) where
  pub any-more : (f : Rule → Bool) → any f (expand (r ∷ ws)) ≡ (any f (expand_rule r) || any f (expand ws))
  unfolding expand
  any-more f = any_append f (expand_rule r) (expand ws)

  pub asked-more : (q : Query) (m : List ℕ) (called : List ℤ → ℕ)
      → asked_names q m called (expand (r ∷ ws)) ≡ asked_names q m called (expand_rule r) ++ asked_names q m called (expand ws)
  unfolding expand
  asked-more q m called =
      ap (map (λ x. called x.body)) (filter-append (asks q m) (expand_rule r) (expand ws))
      ∙ map-append (λ x. called x.body) (filter (asks q m) (expand_rule r)) (filter (asks q m) (expand ws))

-- a loop that marks, after the names of one rule more
pub found-more : {m after l left whole : List ℕ} → MarkedSoFar m (l ++ left) whole → AlsoMarks m after l → MarkedSoFar after left whole
found-more {m} {after} {l} {left} f a = record {
  long = a.long ∙ f.long;
  has = λ v h.
      ap (λ (t : Bool). t || listed left v) (a.has v h) ∙ or_assoc (marked m v) (listed l v) (listed left v)
      ∙ ap (λ (t : Bool). marked m v || t) (sym (any_append (eqb v) l left)) ∙ f.has v h;
}

-- Marks that are of all names, or have 0 as some body has none

-- a loop that marks may end where 0 is marked
pub zero-found : {m left whole : List ℕ} → MarkedSoFar m left whole → marked m 0 ≡ true → MarksNames m whole
zero-found {left = left} f e = inr (e, sym (f.has 0 (omega arith)) ∙ ap (λ (t : Bool). t || listed left 0) e)

pub names-all : {m l : List ℕ} → MarksNames m l → marked m 0 ≡ false → Marks m l
names-all (inl M) e = M
names-all (inr q) e = absurd (true≢false (sym q.0 ∙ e))

pub name-missing : {m l : List ℕ} → MarksNames m l → marked m 0 ≡ true → listed l 0 ≡ true
name-missing (inl M) e = sym (M.has 0 (omega arith)) ∙ e
name-missing (inr q) e = q.1

-- the marks of a list
all_found : (l : List ℕ) {m whole : List ℕ} → MarkedSoFar m l whole → Marks (mark_all l m) whole
all_found [] f = found_all f
all_found (x ∷ l) f = all_found l (found-on f)

-- a set without 0 is the same as the marks just where it is the same as those of all names
module _ (a : List ℕ) (z : marked a 0 ≡ false) where
  differ : (b : List ℕ) → marked b 0 ≡ true → same_marks entries a b ≡ false
  differ b e = failed _ ((not-decides (same-marks entries a b)).from (λ f. true≢false (sym e ∙ sym (f 0 (omega arith)) ∙ z)))

  pub names_same : {m l : List ℕ} → MarksNames m l → (n : List ℕ) × Marks n l × (same_marks entries a m ≡ same_marks entries a n)
  names_same {m} (inl M) = (m, M, refl)
  names_same {m} {l} (inr q) =
      let M = all_found l (found_none l) in
      (mark_all l (replicate entries 0), M, differ m q.0 ∙ sym (differ _ (M.has 0 (omega arith) ∙ q.1)))

-- The plain rules of one rule

module _ (r : InputRule) where
  pub any-bodies : (f : List ℤ → Bool) → any (λ x. f x.body) (expand_rule r) ≡ any f (bodies_of r.body)
  unfolding expand_rule
  any-bodies f = any-map (with_body r) (λ x. f x.body) (bodies_of r.body)

  -- a test that asks for kind and heads, and then for the body
  pub normal-bodies : (hs : List ℤ) (f : List ℤ → Bool)
      → any (λ x. is_normal x.kind && (same_list x.heads hs && f x.body)) (expand_rule r)
      ≡ ((is_normal r.kind && same_list r.heads hs) && any f (bodies_of r.body))
  unfolding expand_rule
  normal-bodies hs f =
      any-map (with_body r) (λ x. is_normal x.kind && (same_list x.heads hs && f x.body)) (bodies_of r.body)
      ∙ by (is_normal r.kind) (same_list r.heads hs) (bodies_of r.body)
    where
      by : (a b : Bool) (l : List (List ℤ)) → any (λ ls. a && (b && f ls)) l ≡ ((a && b) && any f l)
      by true true l = refl
      by true false l = none_pass (λ ls. false) l (λ ls i. refl)
      by false b l = none_pass (λ ls. false) l (λ ls i. refl)

  pub completing-bodies : (called : List ℤ → ℕ) (hs : List ℤ) (n : ℕ)
      → any (completing called hs n) (expand_rule r)
      ≡ ((is_normal r.kind && same_list r.heads hs) && any (λ ls. eqb (called ls) n) (bodies_of r.body))
  completing-bodies called hs n = normal-bodies hs (λ ls. eqb (called ls) n)

  pub asked-bodies : (q : Query) (m : List ℕ) (called : List ℤ → ℕ)
      → asked_names q m called (expand_rule r)
      ≡ cond (asks_heads q m r.heads) (map called (filter (λ ls. not (any (is_inside m) ls)) (bodies_of r.body))) []
  unfolding expand_rule
  asked-bodies q m called =
      ap (map (λ x. called x.body)) (filter_map (with_body r) (asks q m) (bodies_of r.body))
      ∙ map-map (λ x. called x.body) (with_body r) (filter (λ ls. asks q m (with_body r ls)) (bodies_of r.body))
      ∙ by (asks_heads q m r.heads) (bodies_of r.body)
    where
      by : (t : Bool) (l : List (List ℤ))
          → map called (filter (λ ls. t && not (any (is_inside m) ls)) l) ≡ cond t (map called (filter (λ ls. not (any (is_inside m) ls)) l)) []
      by true l = refl
      by false l = ap (map called) (filter_none (λ ls. false) l (λ ls i. refl))

-- The bodies of the rule at the front

module _ (ws : List ℤ) where
  module _ (e : is_weighted ws ≡ true) where
    pub weight-bodies : bodies_of (body_at ws) ≡ bodies (bound_at ws) (paired (body_words_at ws))
    unfolding bodies_of body_at
    weight-bodies = rw e

    pub weight-entry : (called : List ℤ → ℕ) → entry called (body_at ws) ≡ 0
    unfolding body_at
    weight-entry called = rw e

  module _ (e : is_weighted ws ≡ false) where
    pub plain-bodies : bodies_of (body_at ws) ≡ body_words_at ws ∷ []
    unfolding bodies_of body_at
    plain-bodies = rw e

    pub plain_entry : (called : List ℤ → ℕ) → entry called (body_at ws) ≡ called (body_words_at ws)
    unfolding body_at
    plain_entry called = rw e

-- a body of a weight rule has few literals
pub body-short : {ws : List ℤ} (L : List ℤ) → Weighing ws → L ∈ bodies (bound_at ws) (paired (body_words_at ws)) → length L ≤ most_weighted
body-short {ws} L w i =
    let s = body→ (bound_at ws) (paired (body_words_at ws)) i in
    rw (← s.3) (omega (arith, length-map s.0 (λ x. x.literal), sublist-short s.1, w.few))

-- the literals are one of the bodies
pub one_of : {B : List ℤ} {l : List (List ℤ)} → any (same_list B) l ≡ true → B ∈ l
one_of {B} {l} e = let m = if-true (any-decides (λ L. same_list-decides B L) l) e in rw m.2 m.1

-- What is recorded of the body with a name

pub told-few : (m row : List ℤ) (name : ℕ) {n : ℕ} {r : Option ℕ} → r ≡ Some n → Told m name row r → n ≤ most_weighted
told-few m row name {n} e t = let told : Told m name row (Some n) = rw e at t in told.0

-- and whether a weight rule has that body
module _ {ws m : List ℤ} {name : ℕ} {called : List ℤ → ℕ} (w : Weighing ws) (C : Called m called) (above : 1 ≤ name) where
  pub named-body : (row : List ℤ) {r : Option ℕ} {n : ℕ} → r ≡ Some n → Told m name row r
      → (let bs = bodies (bound_at ws) (paired (body_words_at ws)) in any (λ ls. eqb (called ls) name) bs ≡ any (same_list (take n row)) bs)
  named-body row {n = n} e t =
      let told : Told m name row (Some n) = rw e at t in
      any_same _ _ (bodies (bound_at ws) (paired (body_words_at ws))) (λ L i. told.1 called C above L (body-short L w i))

  pub named_none : (row : List ℤ) {r : Option ℕ} → r ≡ None → Told m name row r
      → any (λ ls. eqb (called ls) name) (bodies (bound_at ws) (paired (body_words_at ws))) ≡ false
  named_none row e t =
      let told : Told m name row None = rw e at t in
      none_pass _ (bodies (bound_at ws) (paired (body_words_at ws))) (λ L i. told called C above L (body-short L w i))

-- Question 28: a name that is 0 is that of a body which some rule has
pub no_name : (b : Bool) (n : ℕ) → eqb (cond b n entries) 0 ≡ (b && eqb n 0)
no_name true n = refl
no_name false n = refl
