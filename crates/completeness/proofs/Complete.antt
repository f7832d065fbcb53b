-- Every program has an answer set or a derivation: over the tree of assignments, children first, each node's literals are refuted by `a`, unless a
-- leaf is an answer set; at the root these are none, so that the empty nogood is live. Assumes nothing.
use mathlib.Core.Path.{◌≡◌, refl, sym, ◌∙◌, ap, subst}
use mathlib.Core.Logic.{◌⊎◌, inl, inr}
use mathlib.Core.Bool.{true}
use mathlib.Core.List.Memᴰ
use mathlib.Core.List.{List, [], ◌∷◌, map}
use Prim.Native.Nat.{ℕ, zero, suc, ◌+◌}
use native.Mathlib.Omega.{arith}
use lib.Dec.{T}
use lib.IntN.{ℤ, pos, negsuc}
use Rattle.words.specs.Lists.{◌∈◌, filter, ascends}
use Rattle.words.specs.Literals.{variable, complement, insert_all, ascending}
use Rattle.words.proofs.Lists.{is_true, keep→, keep←}
use Rattle.words.proofs.Literals.{ascending→, ascending←}
use Rattle.words.proofs.Sorting.{rising-ascending}
use Rattle.words.proofs.Ascending.{rising-ascends}
use Rattle.aspif.specs.Rules.{Rule}
use Rattle.aspif.specs.AnswerSets.{AnswerSet}
use Rattle.drupe.specs.Lines.{is_positive}
use Rattle.derivation.specs.Propagation.{Closure, given, unit}
use Rattle.derivation.specs.States.{State}
use Rattle.derivation.proofs.Closure.{empty-decides}
use Rattle.derivation.proofs.Questions.{positive-is, pos-positive}
use Rattle.derivation.proofs.SameSet.{answer-under}
use Rattle.completeness.specs.Claims.{WellFormed, Answer, Refutation, Complete}
use Rattle.completeness.proofs.Totals.{Total, total-none, total-more, distinct_filter}
use Rattle.completeness.proofs.Leaves.{Bad, leaf}
use Rattle.completeness.proofs.Naming.{Names, all_named}
use Rattle.completeness.proofs.Deriving.{Standing, Further, addition-step, refute}

-- A literal and its complement, each with the others refuted

pub refuted-next : {live : List (List ℤ)} {L : List ℤ} (x y : ℤ) → x ≡ complement y → ascending (x ∷ L) ∈ live → Closure live L y
refuted-next {L = L} x y e m =
    unit (ascending (x ∷ L)) m (Memᴰ.cast (sym e) (ascending← (x ∷ L) (Memᴰ.head refl)))
    (λ k i f. elim (Memᴰ.cases_cons (ascending→ (x ∷ L) i)) [ inl p ↦ absurd (f (p ∙ e)) | inr j ↦ given j ])

module _ (N : ℕ) (P : List Rule) (wf : WellFormed N P) where
  -- a leaf that is an answer set
  abbrev Found : Type 0
  Found = (L : List ℤ) × Total N L × AnswerSet (λ n. pos n ∈ L) P

  abbrev tree : (d k : ℕ) → d + k ≡ N → (L : List ℤ) → Total k L → (z : State) → Standing N P wf z → Found ⊎ Further N P wf z (ascending L)
  tree zero k e L t z s = by (leaf N P wf L whole)
    where
      whole : Total N L
      whole = subst (λ n. Total n L) (let h : k ≡ N = omega arith in h) t

      by : AnswerSet (λ n. pos n ∈ L) P ⊎ Bad P L → Found ⊎ Further N P wf z (ascending L)
      by (inl a) = inl (L, whole, a)
      by (inr b) = inr (refute N P wf z s L whole b)
  tree (suc d) k e L t z s =
      left (tree d (suc k) (omega arith) (pos (suc k) ∷ L) (total-more k L (pos (suc k)) refl t) z s)
      (λ z' s'. tree d (suc k) (omega arith) (negsuc k ∷ L) (total-more k L (negsuc k) refl t) z' s')
    where
      join : (u : Further N P wf z (ascending (pos (suc k) ∷ L))) → Further N P wf u.state (ascending (negsuc k ∷ L))
          → Further N P wf z (ascending L)
      join u v =
          let true-next = refuted-next (negsuc k) (pos (suc k)) refl v.live in
          let false-next = refuted-next (pos (suc k)) (negsuc k) refl (v.later _ u.live) in
          let w = addition-step N P wf v.state v.standing L k (omega arith) t (inl (pos (suc k), true-next, false-next)) in
          record { state = w.state; standing = w.standing; later = λ g i. w.later g (v.later g (u.later g i)); live = w.live }

      right : (u : Further N P wf z (ascending (pos (suc k) ∷ L))) → Found ⊎ Further N P wf u.state (ascending (negsuc k ∷ L))
          → Found ⊎ Further N P wf z (ascending L)
      right u (inl a) = inl a
      right u (inr v) = inr (join u v)

      left : Found ⊎ Further N P wf z (ascending (pos (suc k) ∷ L))
          → ((z' : State) → Standing N P wf z' → Found ⊎ Further N P wf z' (ascending (negsuc k ∷ L)))
          → Found ⊎ Further N P wf z (ascending L)
      left (inl a) f = inl a
      left (inr u) f = right u (f u.state u.standing)

-- an assignment as an ascending list of numbers
module _ (N : ℕ) (P : List Rule) (L : List ℤ) (t : Total N L) where
  abbrev atoms : List ℤ
  atoms = ascending (filter is_positive L)

  pub atom-in : (x : ℤ) → x ∈ atoms → (x ∈ L) × T (is_positive x)
  atom-in x i = keep→ is_positive L (ascending→ (filter is_positive L) i)

  abbrev listed : AnswerSet (λ n. pos n ∈ L) P → Answer N P
  listed S = (map variable atoms, order, answer-under P (λ n. pos n ∈ L) (λ n. n ∈ map variable atoms) to from S)
    where
      order : ascends 0 N (map variable atoms) ≡ true
      order =
          rising-ascends 0 N atoms (rising-ascending (filter is_positive L) ∙ distinct_filter is_positive L t.once)
          (λ x i. t.within x (atom-in x i).0)

      to : (n : ℕ) → pos n ∈ L → n ∈ map variable atoms
      to n i = Memᴰ.map variable (ascending← (filter is_positive L) (keep← is_positive i (pos-positive n (t.within (pos n) i).0)))

      from : (n : ℕ) → n ∈ map variable atoms → pos n ∈ L
      from n i =
          let q = Memᴰ.of_map variable atoms i in
          let a = atom-in q.0 q.1 in
          Memᴰ.cast (ap pos (sym q.2) ∙ sym (positive-is q.0 a.1)) a.0

abbrev pub complete : Complete
unfolding insert_all
complete N P wf = by (tree N P wf N 0 (omega arith) [] total-none names.state (record { reached = names.reached; ready = names.ready; all = names.all }))
  where
    names : Names N P wf P
    names = all_named N P wf

    by : Found N P wf ⊎ Further N P wf names.state (ascending []) → Answer N P ⊎ Refutation N P
    by (inl f) = inl (listed N P f.0 f.1 f.2)
    by (inr w) = let r = w.standing.reached in inr (record {
      lines = r.0;
      refutes = (w.state, r.1, is_true (empty-decides w.state.live) w.live);
      sized = r.2;
    })
