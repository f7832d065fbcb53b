-- What the restriction means: a set breaks it exactly where its cost is C or more. Assumes nothing.
use mathlib.Core.Path.{◌≡◌, refl, sym, subst}
use mathlib.Core.List.Memᴰ
use mathlib.Core.List.{List, [], ◌∷◌}
use Prim.Native.Nat.{ℕ, ◌≤◌}
use native.Mathlib.Omega.{arith}
use lib.IntN.{ℤ, pos, negsuc}
use Rattle.words.specs.Lists.{◌∈◌}
use Rattle.weights.specs.Weights.{literals, bodies}
use Rattle.weights.proofs.Sublists.{in_whole}
use Rattle.weights.proofs.Sublists as sub
use Rattle.weights.proofs.Minimal.{parts, body→, body←}
use Rattle.weights.proofs.Reached.{Trimmed, trim}
use Rattle.weights.proofs.Reordered.{and-back}
use Rattle.aspif.specs.Rules.{Rule, bodies_of, with_body, expand}
use Rattle.aspif.specs.Reading.{arranged}
use Rattle.aspif.specs.AnswerSets.{Met}
use Rattle.aspif.proofs.Expansion.{expand→, expand←}
use Rattle.costs.specs.Costs.{Cost, Holds, Costs, restriction}
use Rattle.costs.specs.Claims.{RestrictionMeans}
use Rattle.costs.proofs.Sums.{cost-reordered, paid, Held, held}
use Rattle.costs.proofs.Order.{arranged-reorder}

-- a rule is met where every literal of its body holds
module _ (M : ℕ → Type 0) (r : Rule) where
  met→ : Met M r → (z : ℤ) → z ∈ r.body → Holds M z
  met→ m (pos v) i = m.0 v i
  met→ m (negsuc n) i = m.1 n i

  met← : ((z : ℤ) → z ∈ r.body → Holds M z) → Met M r
  met← h = (λ v i. h (pos v) i, λ n i. h (negsuc n) i)

-- the bodies of the restriction are the minimal sets of the cost literals that reach the bound
module _ (M : ℕ → Type 0) (ks : List Cost) (C c : ℕ) (p : Costs M (arranged ks) c) where
  -- one that is met costs C or more
  breaks→ : {ls : List ℤ} → ls ∈ bodies C (arranged ks) → ((z : ℤ) → z ∈ ls → Holds M z) → C ≤ c
  breaks→ {ls} i h =
      let s = body→ C (arranged ks) i in
      omega (arith, ((parts C s.0).to s.2).0, paid M c s.1 (λ k j. h k.literal (subst (λ t. k.literal ∈ t) s.3 (Memᴰ.map (λ x. x.literal) j))) p)

  -- and where the set costs that much, one of them is met
  breaks← : C ≤ c → (ls : List ℤ) × (ls ∈ bodies C (arranged ks)) × ((z : ℤ) → z ∈ ls → Holds M z)
  breaks← h =
      let a = held M (arranged ks) c p in
      let e = a.cost in
      let t = trim C 0 a.part (omega arith) in
      let minimal = (parts C t.part).from (omega (arith, t.reaches), λ x i. omega (arith, t.needed x i)) in
      (literals t.part, body← C (arranged ks) (sub.through t.of a.of) minimal, λ z i. holds a t (Memᴰ.of_map (λ x. x.literal) t.part i))
    where
      holds : (a : Held M (arranged ks) c) (t : Trimmed C 0 a.part) {z : ℤ} → (x : Cost) × (x ∈ t.part) × (x.literal ≡ z) → Holds M z
      holds a t q = subst (Holds M) q.2 (a.hold q.0 (in_whole q.1 t.of))

pub restriction-means : RestrictionMeans
unfolding bodies_of
restriction-means M ks C c d p = (to, from)
  where
    q : Costs M (arranged ks) c
    q = cost-reordered M ks (arranged ks) c (and-back (arranged-reorder ks d)) p

    to : (r : Rule) × (r ∈ expand (restriction ks C ∷ [])) × Met M r → C ≤ c
    to x =
        let e = expand→ (restriction ks C ∷ []) x.1 in
        let one = Memᴰ.eq_of_singleton e.among in
        breaks→ M ks C c q (subst (λ w. e.body ∈ bodies_of w.body) one e.one)
        (met→ M (with_body e.rule e.body) (subst (Met M) (sym e.is) x.2))

    from : C ≤ c → (r : Rule) × (r ∈ expand (restriction ks C ∷ [])) × Met M r
    from h =
        let b = breaks← M ks C c q h in
        let r = with_body (restriction ks C) b.0 in
        (r, expand← {w = restriction ks C} (Memᴰ.head refl) b.1, met← M r b.2)
