-- Rules by the keys of their bodies, and names that they get.
-- Assumes nothing.
use mathlib.Core.Path.{◌≡◌, refl, sym, ap, subst, ◌∙◌}
use mathlib.Core.Logic.{inl, inr}
use mathlib.Core.Bool.{Bool, true, false, cond, true≢false}
use mathlib.Core.List.{List, map}
use Prim.Native.Nat.{ℕ, zero, suc, ◌+◌, ◌≤◌, ◌<◌}
use native.Mathlib.Omega.{arith}
use lib.IntN.{ℤ}
use lib.ListN.{length, take, get_or, set}
use lib.Seq.{get_or-set_same, get_or-set_other, take-set-le}
use Rattle.words.specs.Limits.{entries, most_held}
use Rattle.words.specs.Lists.{any}
use Rattle.words.specs.Literals.{same_list}
use Rattle.words.proofs.Lists.{Decides, passed, if-true, is_true, and_left, and_right, and-decides, eqb-decides}
use Rattle.words.proofs.Literals.{same_list-decides}
use Rattle.words.proofs.Places.{equal?}
use Rattle.aspif.specs.Rules.{all_plain, expand, is_normal}
use Rattle.aspif.specs.Tables.{body_words_at, body_at, rule_at, rules_at, sound_rules}
use Rattle.names.specs.Queries.{entry, Kept, completing}
use Rattle.heads.specs.Heads.{words_from, before_at, hash_from, BodyPlace, Covers, RuleWith, Completes}
use Rattle.names.proofs.Asked.{plain_entry}
use Rattle.names.proofs.ByRule.{ByRule}
use Rattle.heads.proofs.Starts.{any-rule, rule-turn, plain-rule, kept_at, all-kept}
use Rattle.heads.proofs.Walks.{Walk, walk_end}
use Rattle.std.specs.Prelude.{Option, Some, None, IfSome}

-- other keys are of other bodies
pub other-body : (body ws : List ℤ) → ¬ (hash_from 0 ws ≡ hash_from 0 body) → same_list body ws ≡ false
other-body body ws n = by (same_list body ws) refl
  where
    by : (b : Bool) → same_list body ws ≡ b → b ≡ false
    by true e = absurd (n (ap (hash_from 0) (sym (if-true (same_list-decides body ws) e))))
    by false e = refl

-- A walk that looks for the body

-- rule k has another
abbrev pub Other : List ℤ → List ℤ → ℕ → Type 0
Other t body k = same_list body (body_words_at (words_from k t)) ≡ false

pub none-with : (t : List ℤ) (n : ℕ) (body : List ℤ) (p : ℕ) → p ≤ 0 → Walk (BodyPlace t n) (BodyPlace t n) (hash_from 0 body) (Other t body) p → RuleWith t n body None
none-with t n body p e W k h = elim (equal? (hash_from 0 (body_words_at (words_from k t))) (hash_from 0 body)) [
  | inl q ↦ walk_end W e k (h, q)
  | inr d ↦ other-body body (body_words_at (words_from k t)) d
]

module _ (t : List ℤ) (n : ℕ) {names : List ℕ} {bodies : List ℤ} {called : List ℤ → ℕ} (s : sound_rules n t ≡ true) (p : all_plain (rules_at n t) ≡ true)
    (K : Kept names bodies called (rules_at n t)) (body : List ℤ) where
  -- what the body is called
  abbrev Name : ℕ
  Name = cond (any (λ x. same_list body x.body) (expand (rules_at n t))) (called body) entries

  has_body : Decides (any (λ x. same_list body x.body) (expand (rules_at n t))) ((k : ℕ) × (k < n) × (same_list body (body_words_at (words_from k t)) ≡ true))
  has_body = any-rule (λ r. passed (same_list body r.body)) n t p

  pub no_body : RuleWith t n body None → entries ≡ Name
  no_body f = by (any (λ x. same_list body x.body) (expand (rules_at n t))) refl
    where
      by : (b : Bool) → any (λ x. same_list body x.body) (expand (rules_at n t)) ≡ b → entries ≡ cond b (called body) entries
      by true e = let q = if-true has_body e in absurd (true≢false (sym q.2 ∙ f q.0 q.1))
      by false e = refl

  pub one-body : (k m : ℕ) → RuleWith t n body (Some k) → m ≡ get_or names k 0 → m ≡ Name
  one-body k m q e =
      let same : body ≡ body_words_at (words_from k t) = if-true (same_list-decides body (body_words_at (words_from k t))) q.1 in
      e ∙ kept_at t n s p K k q.0 ∙ ap called (sym same) ∙ ap (λ (b : Bool). cond b (called body) entries) (sym (is_true has_body (k, q.0, q.1)))

-- A walk that names the body

module _ (t : List ℤ) (n : ℕ) (body : List ℤ) (name : ℕ) (called : List ℤ → ℕ) where
  abbrev renamed : List ℤ → ℕ
  renamed L = cond (same_list body L) name (called L)

  -- what is kept of rule k is as before, or as it is to be
  abbrev Old : List ℕ → ℕ → Type 0
  Old names k = get_or names k 0 ≡ entry called (body_at (words_from k t))

  abbrev New : List ℕ → ℕ → Type 0
  New names k = get_or names k 0 ≡ entry renamed (body_at (words_from k t))

  pub record Naming (names : List ℕ) (p : ℕ) : Type 0 where
    pub walk : Walk (BodyPlace t n) (BodyPlace t n) (hash_from 0 body) (New names) p
    pub old : (k : ℕ) → k < n → k < p → Old names k
    pub others : (k : ℕ) → k < n → ¬ (hash_from 0 (body_words_at (words_from k t)) ≡ hash_from 0 body) → New names k

  -- the others keep theirs
  pub naming-start : {names : List ℕ} {p : ℕ} → sound_rules n t ≡ true → all_plain (rules_at n t) ≡ true → ByRule called (rules_at n t) names
      → Walk (BodyPlace t n) (BodyPlace t n) (hash_from 0 body) (New names) p → Naming names p
  naming-start {names} s p B W = record {
    walk = W;
    old = λ k h l. (rule-turn t n names k h).kept called B;
    others = λ k h d.
        let q = plain-rule n t p k h in
        (rule-turn t n names k h).kept called B ∙ plain_entry (words_from k t) q called
        ∙ sym (plain_entry (words_from k t) q renamed ∙ ap (λ (b : Bool). cond b name (called (body_words_at (words_from k t)))) (other-body body _ d));
  }

  -- one more rule
  pub new-kept : (names : List ℕ) (q x : ℕ) → q < length names → x ≡ entry renamed (body_at (words_from q t)) → (k : ℕ) → New names k → New (set names q x) k
  new-kept names q x h e k f = elim (equal? k q) [
    | inl i ↦ rw i (get_or-set_same names q x 0 h ∙ e)
    | inr d ↦ get_or-set_other names q k x 0 d ∙ f
  ]

  pub naming-on : {names : List ℕ} {p r : ℕ} (q x : ℕ) → p ≡ suc q → r ≤ q → q < length names → x ≡ entry renamed (body_at (words_from q t)) → Naming names p
      → Walk (BodyPlace t n) (BodyPlace t n) (hash_from 0 body) (New (set names q x)) r → Naming (set names q x) r
  naming-on {names} q x e l h f N W = record {
    walk = W;
    old = λ k b c. get_or-set_other names q k x 0 (λ i. omega arith) ∙ N.old k b (omega arith);
    others = λ k b d. get_or-set_other names q k x 0 (λ i. d (subst (λ j. hash_from 0 (body_words_at (words_from j t)) ≡ hash_from 0 body) (sym i) (N.walk.ahead q e).1)) ∙ N.others k b d;
  }

  pub naming-end : (names : List ℕ) (p : ℕ) → n ≤ length names → p ≤ 0 → Naming names p
      → take n names ≡ map (λ r. entry (λ L. cond (same_list body L) name (called L)) r.body) (rules_at n t)
  naming-end names p h e N = all-kept (λ r. entry renamed r.body) n t names h (λ k b. elim (equal? (hash_from 0 (body_words_at (words_from k t))) (hash_from 0 body)) [
    | inl q ↦ walk_end N.walk e k (b, q)
    | inr d ↦ N.others k b d
  ])

-- A rule that completes

pub one-completes : (t : List ℤ) (n : ℕ) {names : List ℕ} {bodies : List ℤ} {called : List ℤ → ℕ} (s : sound_rules n t ≡ true) (p : all_plain (rules_at n t) ≡ true)
    (K : Kept names bodies called (rules_at n t)) (hs : List ℤ) (name k : ℕ) → k < n → Completes (words_from k t) hs name (get_or names k 0)
    → any (completing called hs name) (expand (rules_at n t)) ≡ true
one-completes t n {called = called} s p K hs name k h q =
    is_true (any-rule (λ r. and-decides (passed (is_normal r.kind)) (and-decides (passed (same_list r.heads hs)) (eqb-decides (called r.body) name))) n t p)
    (k, h, (and_left (is_normal (rule_at (words_from k t)).kind) _ q.0, (and_right (is_normal (rule_at (words_from k t)).kind) _ q.0, sym (kept_at t n s p K k h) ∙ q.1)))

-- a program that is covered has no more rules than may be held
pub covers-few : {index : List ℕ} {t : List ℤ} {rules : ℕ} → Covers index t rules → rules ≤ most_held
covers-few {rules = zero} C = omega arith
covers-few {t = t} {rules = suc n} C = omega (arith, (C.entered.bodies.within n (hash_from 0 (body_words_at (words_from n t))) (omega arith, refl)).0)

-- a chain's entry after a rule is lower
pub before-less : {index : List ℕ} {t : List ℤ} {rules : ℕ} → Covers index t rules → (k : ℕ) → k < rules → get_or index (before_at + k) 0 ≤ k
before-less {index} {t} {rules} C k h = by (get_or index (before_at + k) 0) refl
  where
    by : (r : ℕ) → get_or index (before_at + k) 0 ≡ r → r ≤ k
    by zero e = omega arith
    by (suc r) e = omega (arith, (C.entered.bodies.next k (hash_from 0 (body_words_at (words_from k t))) r (h, refl) e).1)

-- the number of a rule that has the body
pub found-few : (t : List ℤ) (rules : ℕ) (body : List ℤ) (r : Option ℕ) → rules ≤ most_held → RuleWith t rules body r → IfSome r (λ k. k < most_held)
found-few t rules body None h f = tt
found-few t rules body (Some k) h f = omega (arith, f.0)

-- a store behind what is kept by rule
pub kept-front : (names after : List ℕ) (rules at x m : ℕ) (l : List ℕ) → m ≡ rules → rules ≤ at → after ≡ set names at x → take rules names ≡ l → take m after ≡ l
kept-front names after rules at x m l e h f g = rw (e, f) (take-set-le rules names at x h ∙ g)
