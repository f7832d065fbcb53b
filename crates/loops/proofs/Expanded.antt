-- The edges of a rule as written are those of its plain rules, and of a weight body those of its relevant literals.
-- Assumes nothing.
use mathlib.Core.Path.{◌≡◌, refl, sym, ◌∙◌, ap, subst, fun_ext}
use mathlib.Core.Bool.{Bool, true, false, cond, ◌&&◌, or-false, true≢false}
use mathlib.Core.List.Memᴰ
use mathlib.Core.List.{List, [], ◌∷◌, map, nil≢cons, head-eq_of_cons-eq, tail-eq_of_cons-eq}
use Prim.Native.Nat.{ℕ, suc, ◌<◌, ◌≤◌}
use native.Mathlib.Omega.{arith}
use lib.Dec.{T, eqb}
use lib.IntN.{ℤ, pos}
use lib.ListN.{length, get_or, take, drop}
use Rattle.words.specs.Limits.{most_numbers}
use Rattle.words.specs.Lists.{◌∈◌, any}
use Rattle.words.specs.Literals.{same, has}
use Rattle.words.proofs.Lists.{Decides, itself, same_test, and-decides, any-decides, eqb-decides, and_left, and_right}
use Rattle.words.proofs.Literals.{same-decides, has-decides}
use Rattle.weights.specs.Weights.{Weighted, literals, bodies, paired, most_weighted}
use Rattle.weights.proofs.Sublists.{in_whole}
use Rattle.weights.proofs.Minimal.{body→}
use Rattle.aspif.specs.Rules.{Rule, Body, plain, weights, InputRule, is_plain_body, is_plain, all_plain, bodies_of, with_body, expand}
use Rattle.aspif.specs.Tables.{is_weighted, bound_at, heads_at, body_words_at, body_at, rule_at}
use Rattle.aspif.proofs.Expansion.{Expanded, expand→, expand←}
use Rattle.derivation.specs.Loops.{is_edge}
use Rattle.loops.specs.Relevance.{is_relevant, RelevantPairs, RelevantRule, Relevant}
use Rattle.loops.specs.Edges.{place_by, Placed, is_place, is_at, edge_at, More, any_marked, rule_edge, Edges}
use Rattle.loops.proofs.EdgeMarks.{more_same}

-- Rules as written

module _ (ws : List InputRule) (a b : ℤ) where
  abbrev edge_of : InputRule → Bool
  edge_of r = any (has a) (bodies_of r.body) && has b r.heads

  abbrev EdgeOf : InputRule → Type 0
  EdgeOf r = ((ls : List ℤ) × (ls ∈ bodies_of r.body) × (a ∈ ls)) × (b ∈ r.heads)

  edge-of : (r : InputRule) → Decides (edge_of r) (EdgeOf r)
  edge-of r = and-decides (any-decides (λ ls. has-decides a ls) (bodies_of r.body)) (has-decides b r.heads)

  abbrev PlainEdge : Rule → Type 0
  PlainEdge r = (a ∈ r.body) × (b ∈ r.heads)

  expanded-edge : any edge_of ws ≡ is_edge (expand ws) a b
  expanded-edge =
      same_test (any-decides edge-of ws)
      (any-decides (λ r. and-decides (has-decides a r.body) (has-decides b r.heads)) (expand ws))
      (λ p. (with_body p.0 p.2.0.0, expand← p.1 p.2.0.1, (p.2.0.2, p.2.1)))
      (λ q. back (expand→ ws q.1) q.2)
    where
      back : {r : Rule} → Expanded ws r → PlainEdge r → (w : InputRule) × (w ∈ ws) × EdgeOf w
      back x e =
          let f : PlainEdge (with_body x.rule x.body) = subst PlainEdge (sym x.is) e in
          (x.rule, x.among, ((x.body, x.one, f.0), f.1))

-- Places and atoms

module _ {U : List ℤ} {m : List ℕ} (p : Placed m U) where
  at-is : (i : ℕ) → i < length U → is_at m i ≡ same (get_or U i (pos 0))
  at-is i h =
      fun_ext (λ x. same_test (eqb-decides (place_by m x) (suc i)) (same-decides (get_or U i (pos 0)) x)
      (λ e. (p.to x i e).1) (λ e. rw (← e) (p.from i h)))

  pub edge-is : {ws : List InputRule} {e : List ℕ} → length U ≤ most_numbers → Edges m ws e → (i j : ℕ) → i < length U
      → j < length U
      → edge_at e i j ≡ is_edge (expand ws) (get_or U i (pos 0)) (get_or U j (pos 0))
  edge-is {ws} {e} few E i j g h =
      E.has i j (omega arith) (omega arith)
      ∙ ap (λ (f : InputRule → Bool). any f ws) (fun_ext (λ r. rw (at-is i g, at-is j h) refl))
      ∙ expanded-edge ws (get_or U i (pos 0)) (get_or U j (pos 0))

-- Plain bodies and weight bodies

pub plain-edge : (f : ℤ → Bool) (ws : List ℤ) → is_weighted ws ≡ false → any (any f) (bodies_of (body_at ws)) ≡ any f (body_words_at ws)
unfolding bodies_of body_at
plain-edge f ws e = rw e (or-false (any f (body_words_at ws)))

-- the literals that stand in some body
module _ (f : ℤ → Bool) (b : ℕ) (l : List Weighted) where
  relevant-edge : any (λ x. is_relevant b l x.literal && f x.literal) l ≡ any (any f) (bodies b l)
  relevant-edge =
      same_test
      (any-decides (λ x. and-decides (any-decides (λ ls. has-decides x.literal ls) (bodies b l)) (itself (f x.literal))) l)
      (any-decides (λ ls. any-decides (λ y. itself (f y)) ls) (bodies b l))
      (λ p. (p.2.0.0, p.2.0.1, (p.0.literal, p.2.0.2, p.2.1)))
      (λ q. back q.1 q.2.1 q.2.2)
    where
      back : {ls : List ℤ} {y : ℤ} → ls ∈ bodies b l → y ∈ ls → T (f y)
          → (x : Weighted) × (x ∈ l) × (((ls : List ℤ) × (ls ∈ bodies b l) × (x.literal ∈ ls)) × T (f x.literal))
      back {ls} {y} n i t =
          let s = body→ b l n in
          let j : y ∈ literals s.0 = rw s.3 i in
          let x = Memᴰ.of_map (λ (x : Weighted). x.literal) s.0 j in
          (x.0, in_whole x.1 s.1, ((ls, n, rw x.2 i), rw x.2 t))

shifted : (f : ℤ → Bool) (n : ℕ) (m : List ℕ) (k : ℕ) (l : List Weighted) → any_marked f (n ∷ m) (suc k) l ≡ any_marked f m k l
shifted f n m k [] = refl
shifted f n m k (x ∷ l) = rw (shifted f n m (suc k) l) refl

-- the entries say which
entries-say : (f : ℤ → Bool) (g : Weighted → Bool) (m : List ℕ) (l : List Weighted)
    → take (length l) m ≡ map (λ x. cond (g x) 1 0) l
    → any_marked f m 0 l ≡ any (λ x. g x && f x.literal) l
entries-say f g m [] e = refl
entries-say f g [] (x ∷ l) e = absurd (nil≢cons e)
entries-say f g (n ∷ m) (x ∷ l) e =
    rw (head-eq_of_cons-eq e, is (g x), shifted f n m 0 l, entries-say f g m l (tail-eq_of_cons-eq e)) refl
  where
    is : (t : Bool) → eqb (cond t 1 0) 1 ≡ t
    is true = refl
    is false = refl

weight-edge : (f : ℤ → Bool) (m : List ℕ) (ws : List ℤ) → is_weighted ws ≡ true → RelevantPairs m (body_at ws)
    → any (any f) (bodies_of (body_at ws)) ≡ any_marked f m 0 (paired (body_words_at ws))
unfolding bodies_of body_at
weight-edge f m ws e r =
    let l = paired (body_words_at ws) in
    let q : RelevantPairs m (weights (bound_at ws) l) = rw e at r in
    rw e (sym (relevant-edge f (bound_at ws) l) ∙ sym (entries-say f (λ x. is_relevant (bound_at ws) l x.literal) m l q))

-- the edges of the rule at the front, from the words of its body and the places of its heads
module _ (places : List ℕ) (ws : List ℤ) (heads : List ℕ) {e after : List ℕ} {body : List ℤ} (b : body ≡ body_words_at ws)
    (h : (j : ℕ) → any (is_place j) heads ≡ any (is_at places j) (heads_at ws)) where
  pub plain_more : More (λ i j. any (is_at places i) body && any (is_place j) heads) e after → is_weighted ws ≡ false
      → More (λ i j. rule_edge places i j (rule_at ws)) e after
  plain_more M t = more_same M (λ i j. rw (b, h j, plain-edge (is_at places i) ws t) refl)

  pub weight-more : (relevant : List ℕ)
      → More (λ i j. any_marked (is_at places i) relevant 0 (paired body) && any (is_place j) heads) e after
      → is_weighted ws ≡ true
      → RelevantPairs relevant (body_at ws) → More (λ i j. rule_edge places i j (rule_at ws)) e after
  weight-more relevant M t r = more_same M (λ i j. rw (b, h j, weight-edge (is_at places i) relevant ws t r) refl)

-- What is known of the entries

-- one rule more
pub relevant-on : (m : List ℕ) (r : InputRule) (ws : List InputRule) → Relevant m (r ∷ ws)
    → RelevantRule m r × Relevant (drop most_weighted m) ws
unfolding Relevant
relevant-on m r ws R = R

-- no entries are read where there is no weight body
pub relevant-plain : (m : List ℕ) (ws : List InputRule) → all_plain ws ≡ true → Relevant m ws
unfolding Relevant
relevant-plain m [] e = tt
relevant-plain m (r ∷ ws) e =
    (λ h. plain-pairs r.body (and_left (is_plain r) _ e), relevant-plain (drop most_weighted m) ws (and_right (is_plain r) _ e))
  where
    plain-pairs : (b : Body) → is_plain_body b ≡ true → RelevantPairs m b
    plain-pairs (plain ls) p = tt
    plain-pairs (weights n l) p = absurd (true≢false (sym p))
