-- A loop over the table beside what is kept by rule: the rule at hand with its entry, and what is left.
-- Assumes nothing.
use mathlib.Core.Path.{◌≡◌, refl, sym, ap, ◌∙◌}
use mathlib.Core.Bool.{Bool, true, false, not, true≢false}
use mathlib.Core.List.{List, [], ◌∷◌, ◌++◌, map, append_assoc, append-nil, nil≢cons, head-eq_of_cons-eq, tail-eq_of_cons-eq}
use Prim.Native.Nat.{ℕ, ◌+◌, ◌<◌}
use native.Mathlib.Nat.{add-zero}
use native.Mathlib.Numerals.{add-one}
use native.Mathlib.Omega.{arith}
use lib.IntN.{ℤ}
use lib.ListN.{length, take, drop, get_or, set}
use lib.Seq.{get_or-drop, drop-drop, take-suc-set, drop-set-lt}
use Rattle.words.specs.Lists.{any}
use Rattle.words.proofs.Lists.{and_left, and_right}
use Rattle.aspif.specs.Rules.{Rule, InputRule, is_plain, all_plain, expand_rule, expand}
use Rattle.aspif.specs.Tables.{is_weighted, body_at, rule_at, rules_at, starts_at}
use Rattle.aspif.proofs.Readable.{rules-count}
use Rattle.aspif.proofs.Cursors.{plain_at, starts-length, rules_from_starts}
use Rattle.names.specs.Queries.{entry}
use Rattle.names.proofs.Asked.{any-more}

-- the names begin with what is kept by rule
abbrev pub ByRule : (List ℤ → ℕ) → List InputRule → List ℕ → Type 0
ByRule called ws ns = take (length ws) ns ≡ map (λ r. entry called r.body) ws

by-rule-on : (called : List ℤ → ℕ) (r : InputRule) (ws : List InputRule) (k : ℕ) (ns : List ℕ) → ByRule called (r ∷ ws) (drop k ns)
    → (get_or ns k 0 ≡ entry called r.body) × ByRule called ws (drop (k + 1) ns)
by-rule-on called r ws k ns e = rw (get_or-drop k ns 0 0, add-zero k, drop-drop 1 k ns) at (first (drop k ns) e)
  where
    first : (l : List ℕ) → ByRule called (r ∷ ws) l → (get_or l 0 0 ≡ entry called r.body) × ByRule called ws (drop 1 l)
    first [] p = absurd (nil≢cons p)
    first (n ∷ l) p = (head-eq_of_cons-eq p, tail-eq_of_cons-eq p)

-- The loop stands at rule k, and the rules that begin at `starts` are left; `names` is what is kept by rule, and `first` what was at the
-- start.
pub record Course (table : List ℤ) (rules : ℕ) (first names : List ℕ) (k : ℕ) (starts : List (List ℤ)) : Type 0 where
  pub count : k + length starts ≡ rules
  pub kept : (called : List ℤ → ℕ) → ByRule called (rules_at rules table) first → ByRule called (map rule_at starts) (drop k names)
  pub plain : all_plain (rules_at rules table) ≡ true → all_plain (map rule_at starts) ≡ true

abbrev pub course-start : (table : List ℤ) (rules : ℕ) (names : List ℕ) → Course table rules names names 0 (starts_at rules table)
course-start table rules names = record {
  count = omega (arith, starts-length rules table);
  kept = λ called e. rw (← rules_from_starts rules table) e;
  plain = λ e. rw (← rules_from_starts rules table) e;
}

-- the rule at hand, which begins the words `ws`
pub record Turn (table : List ℤ) (rules : ℕ) (first names : List ℕ) (k : ℕ) (ws : List ℤ) (after : List (List ℤ)) : Type 0 where
  pub below : k < rules
  pub next : Course table rules first names (k + 1) after
  pub kept : (called : List ℤ → ℕ) → ByRule called (rules_at rules table) first → get_or names k 0 ≡ entry called (body_at ws)
  pub weighted : is_weighted ws ≡ true → all_plain (rules_at rules table) ≡ false

-- a test that would ask for another, which fails
not_plain : (a : Bool) {b : Bool} → (a ≡ true → b ≡ true) → b ≡ false → a ≡ false
not_plain true f e = absurd (true≢false (sym (f refl) ∙ e))
not_plain false f e = refl

pub turn : {table : List ℤ} {rules : ℕ} {first names : List ℕ} {k : ℕ} {starts : List (List ℤ)} {ws : List ℤ} {after : List (List ℤ)}
    → Course table rules first names k starts → starts ≡ ws ∷ after → Turn table rules first names k ws after
turn {table} {rules} {first} {names} {k} {starts} {ws} {after} c e =
    let r = rule_at ws in
    let on : (called : List ℤ → ℕ) → ByRule called (rules_at rules table) first
    → (get_or names k 0 ≡ entry called r.body) × ByRule called (map rule_at after) (drop (k + 1) names)
    = λ called h. by-rule-on called r (map rule_at after) k names (rw e at (c.kept called h)) in
    let plain : all_plain (rules_at rules table) ≡ true → all_plain (r ∷ map rule_at after) ≡ true = λ h. rw e at (c.plain h) in
    record {
      below = omega (arith, c.count, ap length e);
      next = record { count = omega (arith, c.count, ap length e); kept = λ called h. (on called h).1; plain = λ h. and_right (is_plain r) _ (plain h) };
      kept = λ called h. (on called h).0;
      weighted = λ h. not_plain (all_plain (rules_at rules table)) (λ p. and_left (is_plain r) _ (plain p)) (plain_at ws ∙ ap not h);
    }

-- A test of the plain rules, for a loop that stops where one passes

module _ {starts after : List (List ℤ)} {ws : List ℤ} (e : starts ≡ ws ∷ after) (f : Rule → Bool) where
  pub one_passes : any f (expand_rule (rule_at ws)) ≡ true → any f (expand (map rule_at starts)) ≡ true
  one_passes p = rw (e, any-more (rule_at ws) (map rule_at after) f, p)

  pub none_passes : any f (expand_rule (rule_at ws)) ≡ false → any f (expand (map rule_at starts)) ≡ any f (expand (map rule_at after))
  none_passes p = rw (e, any-more (rule_at ws) (map rule_at after) f, p)

-- no rule is left
pub no-plain-rules : {starts : List (List ℤ)} → starts ≡ [] → expand (map rule_at starts) ≡ []
unfolding expand
no-plain-rules e = rw e

-- New entries

-- a store at a rule that is done
abbrev pub course-set : {table : List ℤ} {rules : ℕ} {first names : List ℕ} {starts : List (List ℤ)} (k x : ℕ)
    → Course table rules first names (k + 1) starts → Course table rules first (set names k x) (k + 1) starts
course-set {names = names} k x c = record {
  count = c.count;
  kept = λ called e. rw (drop-set-lt (k + 1) names k x (omega arith)) (c.kept called e);
  plain = c.plain;
}

module _ {k : ℕ} {starts : List (List ℤ)} (g : InputRule → ℕ) where
  -- one more
  pub entered_on : (names : List ℕ) {after : List (List ℤ)} {ws : List ℤ} {x : ℕ} → starts ≡ ws ∷ after → k < length names → x ≡ g (rule_at ws)
      → take k names ++ map g (map rule_at starts) ≡ take (k + 1) (set names k x) ++ map g (map rule_at after)
  entered_on names {after} {ws} {x} s h e =
      rw (s, add-one, take-suc-set names k x h, e)
      (sym (append_assoc (take k names) (g (rule_at ws) ∷ []) (map g (map rule_at after))))

  -- and all
  pub entered_all : {table : List ℤ} {rules : ℕ} {first names : List ℕ} → Course table rules first names k starts → starts ≡ []
      → take k names ++ map g (map rule_at starts) ≡ map g (rules_at rules table)
      → take (length (rules_at rules table)) names ≡ map g (rules_at rules table)
  entered_all {table} {rules} {names = names} c s e =
      let n : length (rules_at rules table) ≡ k = rules-count rules table ∙ omega (arith, c.count, ap length s) in
      rw (n, ← append-nil (take k names)) (rw s at e)
