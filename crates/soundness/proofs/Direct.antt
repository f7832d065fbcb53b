-- The answer sets of rules as they are written are those of the plain rules that they stand for: `same-answer-sets`.
-- Assumes nothing.
use mathlib.Core.Path.{◌≡◌, refl, sym, subst}
use mathlib.Core.List.Memᴰ
use mathlib.Core.List.{List, []}
use Prim.Native.Nat.{ℕ}
use native.Mathlib.Omega.{arith}
use lib.Dec.{T}
use lib.IntN.{ℤ, pos, negsuc}
use Rattle.words.specs.Lists.{◌∈◌}
use Rattle.words.proofs.Lists.{zero_one}
use Rattle.weights.specs.Weights.{literals, is_minimal}
use Rattle.weights.proofs.Minimal.{parts, body→, body←}
use Rattle.weights.proofs.Reached.{trim}
use Rattle.weights.proofs.Sublists.{through, in_whole, sublist-map}
use Rattle.aspif.specs.Rules.{Rule, Body, plain, weights, InputRule, bodies_of, with_body, expand}
use Rattle.aspif.specs.AnswerSets.{Chosen, LeastModel, AnswerSet}
use Rattle.aspif.specs.AnswerSets as Plain
use Rattle.aspif.specs.declared.Kind.{Kind}
use Rattle.aspif.specs.declared.Kind.TheVariants.{Normal, Choice}
use Rattle.aspif.proofs.Expansion.{expand→, expand←}
use Rattle.soundness.specs.Page.{Enough, every, weighing, Outside, Least, derive, IsAnswerSet, SameAnswerSets}

-- the body of a plain rule is enough
enough-of : (b : Body) {t : List ℤ} → t ∈ bodies_of b → Enough b t
unfolding bodies_of
enough-of (plain ls) i = subst (Enough (plain ls)) (sym (Memᴰ.eq_of_singleton i)) every
enough-of (weights b ps) i =
    let s = body→ b ps i in
    subst (Enough (weights b ps)) s.3 (weighing s.1 ((parts b s.0).to s.2).0)

-- and what is enough has such a body's literals
body-in : (b : Body) {ls : List ℤ} → Enough b ls → (t : List ℤ) × (t ∈ bodies_of b) × ((x : ℤ) → x ∈ t → x ∈ ls)
unfolding bodies_of
body-in (plain ls) every = (ls, Memᴰ.head refl, λ x i. i)
body-in (weights b ps) (weighing {s = s} h e) =
    let r = trim b 0 s (omega arith) in
    let m : T (is_minimal b r.part) = (parts b r.part).from (omega (arith, r.reaches), λ x n. omega (arith, r.needed x n)) in
    (literals r.part, body← b ps (through r.of h) m, λ x i. in_whole i (sublist-map (λ p. p.literal) r.of))

module _ (M : ℕ → Type 0) (ws : List InputRule) where
  chosen : (k : Kind) {h : ℕ} → (k ≡ Choice → M h) → Chosen M k h
  chosen Normal f = tt
  chosen Choice f = f refl

  if-choice : (k : Kind) {h : ℕ} → Chosen M k h → k ≡ Choice → M h
  if-choice Normal c e = absurd (zero_one (cc))
  if-choice Choice c e = c

  least→ : {a : ℕ} → LeastModel M (expand ws) a → Least M ws a
  least→ (Plain.derive {h = h} r i t g f) =
      let x = expand→ ws i in
      let w = x.rule in
      let u = x.body in
      let e : r ≡ with_body w u = sym x.is in
      derive w u x.among (subst (λ (q : Rule). pos h ∈ q.heads) e g.0) (if-choice w.kind (subst (λ (q : Rule). Chosen M q.kind h) e g.1))
      (enough-of w.body x.one) (subst (λ (q : Rule). Outside M q.body) e t)
      (λ a j. least→ (f a (subst (λ (q : Rule). pos a ∈ q.body) x.is j)))

  least← : {a : ℕ} → Least M ws a → LeastModel M (expand ws) a
  least← (derive w ls i d c e o f) =
      let q = body-in w.body e in
      Plain.derive (with_body w q.0) (expand← i q.1) (λ n j. o n (q.2 (negsuc n) j)) (d, chosen w.kind c) (λ a j. least← (f a (q.2 (pos a) j)))

  pub plain-set : IsAnswerSet M ws → AnswerSet M (expand ws)
  plain-set S =
      record {
        least = λ a. (λ m. least← ((S.least a).0 m), λ l. (S.least a).1 (least→ l));
        kept = λ r i c m.
            let x = expand→ ws i in
            let e : r ≡ with_body x.rule x.body = sym x.is in
            let d = subst (λ (q : Rule). (q.kind ≡ Normal) × (q.heads ≡ [])) e c in
            let n = subst (λ (q : Rule). ((a : ℕ) → pos a ∈ q.body → M a) × Outside M q.body) e m in
            S.kept x.rule x.body x.among d (enough-of x.rule.body x.one) n.1 n.0;
      }

  pub direct-set : AnswerSet M (expand ws) → IsAnswerSet M ws
  direct-set S =
      record {
        least = λ a. (λ m. least→ ((S.least a).0 m), λ l. (S.least a).1 (least← l));
        kept = λ w ls i c e o p.
            let q = body-in w.body e in
            S.kept (with_body w q.0) (expand← i q.1) c (λ a j. p a (q.2 (pos a) j), λ n j. o n (q.2 (negsuc n) j));
      }

pub same-answer-sets : SameAnswerSets
same-answer-sets M ws = (plain-set M ws, direct-set M ws)
