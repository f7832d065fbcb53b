-- Rules by their numbers: where a rule starts, what is known of it there, and tests of the plain rules of a program without weight bodies.
-- Assumes nothing.
use mathlib.Core.Path.{◌≡◌, refl, sym, ap, ap₂, subst, ◌∙◌}
use mathlib.Core.Logic.{◌⊎◌, inl, inr}
use mathlib.Core.Bool.{Bool, true, false, not, true≢false}
use mathlib.Core.List.Memᴰ
use mathlib.Core.List.{List, [], ◌∷◌, map, head-eq_of_cons-eq, tail-eq_of_cons-eq}
use Prim.Native.Nat.{ℕ, zero, suc, ◌+◌, ◌-◌, ◌≤◌, ◌<◌}
use native.Mathlib.Numerals.{add-one}
use native.Mathlib.Omega.{arith}
use lib.IntN.{ℤ, pos, negsuc}
use lib.Signed.{lt_z}
use lib.ListN.{length, take, drop, get_or, length-drop}
use lib.Seq.{drop-drop, length-take-le}
use Rattle.words.specs.Limits.{largest, most_literals}
use Rattle.words.specs.Lists.{◌∈◌, any, all}
use Rattle.words.specs.Literals.{variable, has}
use Rattle.words.proofs.Literals.{has-decides}
use Rattle.words.proofs.Places.{equal?, in-at, place-of}
use Rattle.words.proofs.Ascending.{ascends-words}
use Rattle.words.proofs.Lists.{Decides, reworded, passed, if-true, is_true, or-decides, any-decides, all-decides, and_left, and_right}
use Rattle.aspif.specs.Rules.{Rule, InputRule, is_plain, all_plain, with_body, expand_rule, expand}
use Rattle.aspif.specs.Tables.{is_weighted, starts_at, head_count, head_start, size_at, heads_at, body_words_at, rule_at, rules_at, heads_sound, shape_sound, sound_at, sound_rules}
use Rattle.aspif.proofs.Cursors.{plain_at, shaped, shape_of, starts-on, starts-length}
use Rattle.names.specs.Queries.{Kept}
use Rattle.heads.specs.Heads.{start_of, words_from, Headed, headed_by, headed_to, headed_at, Place, HasHead}
use Rattle.names.proofs.Asked.{plain-bodies, plain_entry}
use Rattle.names.proofs.ByRule.{Course, course-start, Turn, turn}
use Rattle.heads.proofs.Walks.{Walk, walk_end}

-- the words of a rule after the first
later : (k : ℕ) (t : List ℤ) → words_from (suc k) t ≡ words_from k (drop (size_at t) t)
unfolding start_of
later k t = sym (drop-drop (start_of k (drop (size_at t) t)) (size_at t) t)

pub start_first : (t : List ℤ) → start_of 0 t ≡ 0
unfolding start_of
start_first t = refl

first-words : (t : List ℤ) → words_from 0 t ≡ t
first-words t = ap (λ i. drop i t) (start_first t)

-- the next rule starts after the words of this one
pub start-on : (k : ℕ) (t : List ℤ) → start_of (suc k) t ≡ start_of k t + size_at (words_from k t)
unfolding start_of
start-on zero t = omega arith
start-on (suc k) t =
    let e = start-on k (drop (size_at t) t) in
    let w : size_at (words_from (suc k) t) ≡ size_at (words_from k (drop (size_at t) t)) = ap size_at (later k t) in
    omega (arith, e, w)

-- the words after those of rule k are those of the next
words-on : (k : ℕ) (t : List ℤ) → drop (size_at (words_from k t)) (words_from k t) ≡ words_from (k + 1) t
words-on k t = rw (add-one, start-on k t) (drop-drop (size_at (words_from k t)) (start_of k t) t)

-- the rules from rule k on
pub starts-next : (n k : ℕ) (t : List ℤ) → k < n → starts_at (n - k) (words_from k t) ≡ words_from k t ∷ starts_at (n - (k + 1)) (words_from (k + 1) t)
starts-next n k t h =
    let e : n - k - 1 ≡ n - (k + 1) = omega arith in
    starts-on (n - k) (words_from k t) (omega arith) ∙ ap₂ (λ m ws. words_from k t ∷ starts_at m ws) e (words-on k t)

-- a loop over the rules that stands at rule k
pub At : List ℤ → ℕ → ℕ → List (List ℤ) → Type 0
At t n k starts = (k ≤ n) × (starts ≡ starts_at (n - k) (words_from k t))

pub at_first : (t : List ℤ) (n : ℕ) → At t n 0 (starts_at n t)
unfolding At
at_first t n = let e : n - 0 ≡ n = omega arith in (omega arith, rw (e, first-words t) refl)

pub at-end : (t : List ℤ) (n k : ℕ) {starts : List (List ℤ)} → At t n k starts → starts ≡ [] → k ≡ n
unfolding At
at-end t n k a e = omega (arith, a.0, starts-length (n - k) (words_from k t), ap length (sym a.1 ∙ e))

pub at-next : (t : List ℤ) (n k : ℕ) {starts after : List (List ℤ)} {ws : List ℤ} → At t n k starts → starts ≡ ws ∷ after
    → (k < n) × (ws ≡ words_from k t) × At t n (k + 1) after
unfolding At
at-next t n k a e =
    let h : k < n = omega (arith, a.0, starts-length (n - k) (words_from k t), ap length (sym a.1 ∙ e)) in
    let q = sym e ∙ a.1 ∙ starts-next n k t h in
    (h, head-eq_of_cons-eq q, (omega arith, tail-eq_of_cons-eq q))

module _ (t : List ℤ) (n : ℕ) (names : List ℕ) where
  course-at : (k : ℕ) → k ≤ n → Course t n names names k (starts_at (n - k) (words_from k t))
  course-at zero h = let e : n - 0 ≡ n = omega arith in rw (e, first-words t) (course-start t n names)
  course-at (suc k) h = rw (← add-one) (turn (course-at k (omega arith)) (starts-next n k t (omega arith))).next

  pub rule-turn : (k : ℕ) → k < n → Turn t n names names k (words_from k t) (starts_at (n - (k + 1)) (words_from (k + 1) t))
  rule-turn k h = turn (course-at k (omega arith)) (starts-next n k t h)

-- what is known of rule k
pub rule-here : (t : List ℤ) (n : ℕ) → sound_rules n t ≡ true → (k : ℕ) → k < n
    → (start_of k t ≤ length t) × (sound_at (words_from k t) ≡ true)
unfolding start_of size_at
rule-here t zero s k h = absurd (omega arith)
rule-here t (suc n) s zero h = (omega arith, rw (first-words t) (and_left (sound_at t) _ s))
rule-here t (suc n) s (suc k) h =
    let r = rule-here (drop (size_at t) t) n (and_right (sound_at t) _ s) k (omega arith) in
    let f = (shaped t (shape_of t (and_left (sound_at t) _ s))).fits in
    (omega (arith, r.0, f, length-drop (size_at t) t), rw (later k t) r.1)

-- some rule as written passes: some rule by its number does
pub any-written : (f : InputRule → Bool) (n : ℕ) (t : List ℤ) → Decides (any f (rules_at n t)) ((k : ℕ) × (k < n) × (f (rule_at (words_from k t)) ≡ true))
any-written f zero t = record { to = λ a. absurd a; from = λ q. absurd (omega (arith, q.1)) }
any-written f (suc n) t = reworded to from (or-decides (passed (f (rule_at t))) (any-written f n (drop (size_at t) t)))
  where
    to : (f (rule_at t) ≡ true) ⊎ ((k : ℕ) × (k < n) × (f (rule_at (words_from k (drop (size_at t) t))) ≡ true)) → (k : ℕ) × (k < suc n) × (f (rule_at (words_from k t)) ≡ true)
    to (inl e) = (0, omega arith, rw (first-words t) e)
    to (inr q) = (suc q.0, omega (arith, q.1), ap (λ ws. f (rule_at ws)) (later q.0 t) ∙ q.2)

    from : (k : ℕ) × (k < suc n) × (f (rule_at (words_from k t)) ≡ true) → (f (rule_at t) ≡ true) ⊎ ((k : ℕ) × (k < n) × (f (rule_at (words_from k (drop (size_at t) t))) ≡ true))
    from (zero, h, e) = inl (ap (λ ws. f (rule_at ws)) (sym (first-words t)) ∙ e)
    from (suc k, h, e) = inr (k, omega arith, ap (λ ws. f (rule_at ws)) (sym (later k t)) ∙ e)

-- Programs without weight bodies

-- the rule at the front as a plain rule
abbrev pub plain_rule_at : List ℤ → Rule
plain_rule_at ws = with_body (rule_at ws) (body_words_at ws)

not-weighted : (ws : List ℤ) → is_plain (rule_at ws) ≡ true → is_weighted ws ≡ false
not-weighted ws p = by (is_weighted ws) (sym (plain_at ws) ∙ p)
  where
    by : (t : Bool) → not t ≡ true → t ≡ false
    by true e = sym e
    by false e = refl

-- no rule has a weight body
pub plain-rule : (n : ℕ) (t : List ℤ) → all_plain (rules_at n t) ≡ true → (k : ℕ) → k < n → is_weighted (words_from k t) ≡ false
unfolding start_of
plain-rule zero t p k h = absurd (omega arith)
plain-rule (suc n) t p zero h = not-weighted t (and_left (is_plain (rule_at t)) _ p)
plain-rule (suc n) t p (suc k) h = rw (later k t) (plain-rule n (drop (size_at t) t) (and_right (is_plain (rule_at t)) _ p) k (omega arith))

-- the plain rules: one for each rule
rules-expanded : (n : ℕ) (t : List ℤ) → all_plain (rules_at (suc n) t) ≡ true → expand (rules_at (suc n) t) ≡ plain_rule_at t ∷ expand (rules_at n (drop (size_at t) t))
unfolding expand expand_rule
rules-expanded n t p = rw (plain-bodies t (not-weighted t (and_left (is_plain (rule_at t)) _ p)))

no-rule : {r : Rule} (t : List ℤ) → r ∈ expand (rules_at 0 t) → ⊥
unfolding expand
no-rule t i = elim i [ ]

pub in-rules→ : (n : ℕ) (t : List ℤ) → all_plain (rules_at n t) ≡ true → (r : Rule) → r ∈ expand (rules_at n t) → (k : ℕ) × (k < n) × (r ≡ plain_rule_at (words_from k t))
in-rules→ zero t p r i = absurd (no-rule t i)
in-rules→ (suc n) t p r i =
    go (in-rules→ n (drop (size_at t) t) (and_right (is_plain (rule_at t)) _ p) r) (Memᴰ.cases_cons (rw (rules-expanded n t p) at i))
  where
    go : (r ∈ expand (rules_at n (drop (size_at t) t)) → (k : ℕ) × (k < n) × (r ≡ plain_rule_at (words_from k (drop (size_at t) t))))
        → (r ≡ plain_rule_at t) ⊎ (r ∈ expand (rules_at n (drop (size_at t) t))) → (k : ℕ) × (k < suc n) × (r ≡ plain_rule_at (words_from k t))
    go f (inl e) = (0, omega arith, e ∙ ap plain_rule_at (sym (first-words t)))
    go f (inr m) = let q = f m in (suc q.0, omega (arith, q.1), q.2 ∙ ap plain_rule_at (sym (later q.0 t)))

pub in-rules← : (n : ℕ) (t : List ℤ) → all_plain (rules_at n t) ≡ true → (k : ℕ) → k < n → plain_rule_at (words_from k t) ∈ expand (rules_at n t)
in-rules← zero t p k h = absurd (omega arith)
in-rules← (suc n) t p zero h = rw (rules-expanded n t p, first-words t) (Memᴰ.head refl)
in-rules← (suc n) t p (suc k) h =
    rw (rules-expanded n t p, later k t) (Memᴰ.tail (in-rules← n (drop (size_at t) t) (and_right (is_plain (rule_at t)) _ p) k (omega arith)))

-- some plain rule passes: some rule by its number does; and all pass
module _ {f : Rule → Bool} {F : Rule → Type 0} (i : (r : Rule) → Decides (f r) (F r)) (n : ℕ) (t : List ℤ) (p : all_plain (rules_at n t) ≡ true) where
  pub any-rule : Decides (any f (expand (rules_at n t))) ((k : ℕ) × (k < n) × F (plain_rule_at (words_from k t)))
  any-rule = reworded to from (any-decides i (expand (rules_at n t)))
    where
      to : (r : Rule) × (r ∈ expand (rules_at n t)) × F r → (k : ℕ) × (k < n) × F (plain_rule_at (words_from k t))
      to q = let m = in-rules→ n t p q.0 q.1 in (m.0, m.1, subst F m.2 q.2)

      from : (k : ℕ) × (k < n) × F (plain_rule_at (words_from k t)) → (r : Rule) × (r ∈ expand (rules_at n t)) × F r
      from q = (plain_rule_at (words_from q.0 t), in-rules← n t p q.0 q.1, q.2)

  pub all-rules : Decides (all f (expand (rules_at n t))) ((k : ℕ) → k < n → F (plain_rule_at (words_from k t)))
  all-rules = reworded to from (all-decides i (expand (rules_at n t)))
    where
      to : ((r : Rule) → r ∈ expand (rules_at n t) → F r) → (k : ℕ) → k < n → F (plain_rule_at (words_from k t))
      to g k h = g (plain_rule_at (words_from k t)) (in-rules← n t p k h)

      from : ((k : ℕ) → k < n → F (plain_rule_at (words_from k t))) → (r : Rule) → r ∈ expand (rules_at n t) → F r
      from g r m = let q = in-rules→ n t p r m in subst F (sym q.2) (g q.0 q.1)

-- what is kept of rule k is the name of its body
pub kept_at : (t : List ℤ) (n : ℕ) {names : List ℕ} {bodies : List ℤ} {called : List ℤ → ℕ} → sound_rules n t ≡ true → all_plain (rules_at n t) ≡ true
    → Kept names bodies called (rules_at n t) → (k : ℕ) → k < n → get_or names k 0 ≡ called (body_words_at (words_from k t))
kept_at t n {names} {called = called} s p K k h =
    (rule-turn t n names k h).kept called K.by_rule ∙ plain_entry (words_from k t) (plain-rule n t p k h) called

-- Heads are atoms

pub heads-high : (ws : List ℤ) → sound_at ws ≡ true → (h : ℤ) → h ∈ heads_at ws → (h ≡ pos (variable h)) × (variable h ≤ largest)
unfolding sound_at
heads-high ws e h i =
    let f = and_left (heads_sound (heads_at ws)) _ (and_right (shape_sound ws) _ e) in
    let p = if-true (all-decides (λ x. passed (lt_z (pos 0) x)) (heads_at ws)) (and_left (all (λ x. lt_z (pos 0) x) (heads_at ws)) _ f) h i in
    (positive h p, (ascends-words 0 largest (heads_at ws) (and_right (all (λ x. lt_z (pos 0) x) (heads_at ws)) _ f) h i).1)
  where
    positive : (x : ℤ) → lt_z (pos 0) x ≡ true → x ≡ pos (variable x)
    positive (pos n) q = refl
    positive (negsuc n) q = absurd (true≢false (sym q))

pub heads-few : (ws : List ℤ) → shape_sound ws ≡ true → length (heads_at ws) ≤ most_literals
unfolding heads_at
heads-few ws e =
    let f = shaped ws e in
    omega (arith, length-take-le (head_count ws) (drop (head_start ws) ws) (omega (arith, f.fits, length-drop (head_start ws) ws)), f.heads)

-- Heads by their places: each head of each rule has one, and each is a head of its rule

module _ (t : List ℤ) where
  headed-in : (n k h : ℕ) → k < n → has (pos h) (heads_at (words_from k t)) ≡ true → record { rule = k; head = h } ∈ headed_to n t
  unfolding headed_to
  headed-in zero k h b e = absurd (omega arith)
  headed-in (suc n) k h b e = elim (equal? k n) [
    | inl i ↦ rw i (Memᴰ.append_right (headed_to n t) (Memᴰ.map (headed_by n) (if-true (has-decides (pos h) (heads_at (words_from n t))) (rw i at e))))
    | inr d ↦ Memᴰ.append_left (map (headed_by n) (heads_at (words_from n t))) (headed-in n k h (omega (arith, b, d)) e)
  ]

  head-place : (n k h : ℕ) → k < n → has (pos h) (heads_at (words_from k t)) ≡ true
      → (x : ℕ) × Place (headed_to n t) x h × ((headed_at (headed_to n t) x).rule ≡ k)
  head-place n k h b e =
      let p = place-of (record { rule = 0; head = 0 }) (headed-in n k h b e) in
      (p.0, (p.1, ap (λ a. a.head) p.2), ap (λ a. a.rule) p.2)

  headed-of : (n rules : ℕ) → sound_rules rules t ≡ true → n ≤ rules → (e : Headed) → e ∈ headed_to n t → HasHead t n e.head e.rule
  unfolding headed_to
  headed-of zero rules s b e i = elim i [ ]
  headed-of (suc n) rules s b e i = go (headed-of n rules s (omega arith) e) (Memᴰ.append_cases (headed_to n t) i)
    where
      go : (e ∈ headed_to n t → HasHead t n e.head e.rule) → (e ∈ headed_to n t) ⊎ (e ∈ map (headed_by n) (heads_at (words_from n t))) → HasHead t (suc n) e.head e.rule
      go f (inl m) = let r = f m in (omega (arith, r.0), r.1)
      go f (inr m) =
          let r = Memᴰ.of_map (headed_by n) (heads_at (words_from n t)) m in
          let g = (heads-high (words_from n t) (rule-here t rules s n (omega arith)).1 r.0 r.1).0 in
          subst (λ a. HasHead t (suc n) a.head a.rule) r.2 (omega arith, is_true (has-decides (pos (variable r.0)) (heads_at (words_from n t))) (subst (λ z. z ∈ heads_at (words_from n t)) g r.1))

  pub head_of : (rules v x : ℕ) → sound_rules rules t ≡ true → Place (headed_to rules t) x v → HasHead t rules v (headed_at (headed_to rules t) x).rule
  head_of rules v x s p =
      let h = headed-of rules rules s (omega arith) (headed_at (headed_to rules t) x) (in-at (record { rule = 0; head = 0 }) (headed_to rules t) x p.0) in
      (h.0, rw (← p.1) h.1)

  -- a walk along the chain of an atom that is over has seen each rule with that head
  pub all_seen : (rules v : ℕ) (Q : ℕ → Type 0) (p : ℕ) → p ≤ 0
      → Walk (Place (headed_to rules t)) (Place (headed_to rules t)) v (λ x. Q (headed_at (headed_to rules t) x).rule) p
      → (k : ℕ) → HasHead t rules v k → Q k
  all_seen rules v Q p e W k H = let r = head-place rules k v H.0 H.1 in subst Q r.2 (walk_end W e r.0 r.1)

-- An entry for each rule

pub all-kept : (g : InputRule → ℕ) (n : ℕ) (t : List ℤ) (names : List ℕ) → n ≤ length names → ((k : ℕ) → k < n → get_or names k 0 ≡ g (rule_at (words_from k t)))
    → take n names ≡ map g (rules_at n t)
all-kept g zero t names h f = refl
all-kept g (suc n) t [] h f = absurd (omega arith)
all-kept g (suc n) t (x ∷ names) h f =
    ap₂ (λ a l. a ∷ l) (f 0 (omega arith) ∙ ap (λ ws. g (rule_at ws)) (first-words t))
    (all-kept g n (drop (size_at t) t) names (omega arith) (λ k b. f (suc k) (omega arith) ∙ ap (λ ws. g (rule_at ws)) (later k t)))
