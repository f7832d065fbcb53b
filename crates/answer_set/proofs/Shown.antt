-- The atom that is shown is the lowest that lies in just one of the set and the least model: `lowest-shown`.
-- Assumes nothing.
use mathlib.Core.Path.{◌≡◌, ap}
use mathlib.Core.Logic.{◌↔◌, ◌⊎◌, inl, inr}
use mathlib.Core.Bool.{Bool, true, false, cond}
use mathlib.Core.Option.{Option, none, some}
use mathlib.Core.List.{List, [], ◌∷◌}
use Prim.Native.Nat.{ℕ, ◌+◌, ◌≤◌, ◌<◌}
use native.Mathlib.Omega.{arith}
use lib.IntN.{ℤ}
use Rattle.std.specs.Prelude.{Ok}
use Rattle.words.proofs.Lists.{Decides}
use Rattle.words.proofs.Lists as Lists
use Rattle.words.proofs.Ascending.{ascends-in}
use Rattle.aspif.specs.Rules.{InputRule, expand, atoms}
use Rattle.aspif.specs.AnswerSets.{LeastModel}
use Rattle.marks.specs.Marks.{listed}
use Rattle.answer_set.specs.SetTest.{is_broken, lowest_from, just_one, SetVerdict, yes, differs, breaks, shown, broken_from, verdict_of, passed, said_of, set_answer}
use Rattle.answer_set.specs.Claims.{Listed, Ready, JustOne, LowestShown}
use Rattle.answer_set.specs.declared.SetAnswer.TheVariants.{Differs}
use Rattle.answer_set.proofs.Marking.{lowest-some, lowest-is}
use Rattle.answer_set.proofs.Service.{same_answer}
use Rattle.answer_set.proofs.Answered.{listed-decides, model, differing, least-small, same-there, same_back}

-- a test of just one of two things
just-decides : {a b : Bool} {A B : Type 0} → Decides a A → Decides b B → Decides (just_one a b) ((A × ¬ B) ⊎ (B × ¬ A))
just-decides {a = true} {b = true} i j = record {
  to = λ t. absurd t;
  from = λ s. elim s [ inl p ↦ absurd (p.1 (j.to tt)) | inr p ↦ absurd (p.1 (i.to tt)) ];
}
just-decides {a = true} {b = false} i j = record { to = λ t. inl (i.to tt, λ x. j.from x); from = λ s. tt }
just-decides {a = false} {b = true} i j = record { to = λ t. inr (j.to tt, λ x. i.from x); from = λ s. tt }
just-decides {a = false} {b = false} i j = record { to = λ t. absurd t; from = λ s. elim s [ inl p ↦ i.from p.0 | inr p ↦ j.from p.0 ] }

said-differs : (v : SetVerdict) {a : ℕ} → said_of v ≡ Differs a → v ≡ differs a
said-differs yes e = absurd (let z : ◌≡◌ {A = ℕ} 0 1 = cc in omega arith)
said-differs (differs b) e = cc
said-differs (breaks k) e = absurd (let z : ◌≡◌ {A = ℕ} 0 1 = cc in omega arith)

module _ (table : List ℤ) (rules : ℕ) (l : List ℕ) (rs : List InputRule) (ready : Ready table rules l rs) (v : ℕ) where
  abbrev Model : ℕ → Type 0
  Model = LeastModel (Listed l) (expand rs)

  abbrev g : ℕ → Bool
  g = differing table rules l rs ready

  tells : (u : ℕ) → Decides (g u) (JustOne (Listed l) (Model) u)
  tells u = just-decides (listed-decides l u) (model table rules l rs ready u)

  lowest : verdict_of (listed l) rs ≡ differs v → lowest_from g (atoms rs + 1) 0 ≡ some v
  unfolding verdict_of
  lowest = by (lowest_from g (atoms rs + 1) 0)
    where
      from-broken : (k : ℕ) (P : List InputRule) → broken_from (listed l) k P ≡ differs v → ⊥
      from-broken k [] e = let z : ◌≡◌ {A = ℕ} 0 1 = cc in omega arith
      from-broken k (r ∷ P) e = each (is_broken (listed l) r) e (from-broken (k + 1) P)
        where
          each : (b : Bool) → cond b (breaks k) (broken_from (listed l) (k + 1) P) ≡ differs v → (broken_from (listed l) (k + 1) P ≡ differs v → ⊥) → ⊥
          each true e h = let z : ◌≡◌ {A = ℕ} 0 1 = cc in omega arith
          each false e h = h e

      by : (o : Option ℕ) → shown o (broken_from (listed l) 1 rs) ≡ differs v → o ≡ some v
      by none e = absurd (from-broken 1 rs e)
      by (some w) e = cc

  is-lowest : lowest_from g (atoms rs + 1) 0 ≡ some v → verdict_of (listed l) rs ≡ differs v
  unfolding verdict_of
  is-lowest e = ap (λ (o : Option ℕ). shown o (broken_from (listed l) 1 rs)) e

  -- v is an atom, wherever it lies
  small : JustOne (Listed l) (Model) v → v ≤ atoms rs
  small (inl p) = (ascends-in 0 (atoms rs) ready.ascending p.0).1
  small (inr p) = least-small table rules l rs ready p.0

  shown-lowest : (set_answer l (passed rs) ≡ Ok (Differs v)) ↔ (JustOne (Listed l) (Model) v × ((u : ℕ) → u < v → Listed l u ↔ Model u))
  shown-lowest = (there, back)
    where
      there : set_answer l (passed rs) ≡ Ok (Differs v) → JustOne (Listed l) (Model) v × ((u : ℕ) → u < v → Listed l u ↔ Model u)
      there e =
          let w = lowest-some g (atoms rs + 1) 0 v (lowest (said-differs _ (same_answer e))) in
          ((tells v).to ((Lists.passed _).from w.here), λ u h. same-there table rules l rs ready u (w.below u (omega arith) h))

      back : JustOne (Listed l) (Model) v × ((u : ℕ) → u < v → Listed l u ↔ Model u) → set_answer l (passed rs) ≡ Ok (Differs v)
      back p =
          ap (λ w. Ok (said_of w))
          (is-lowest (lowest-is g (atoms rs + 1) 0 v (record {
            low = omega arith;
            high = omega (arith, small p.0);
            here = (Lists.passed _).to ((tells v).from p.0);
            below = λ u h k. same_back table rules l rs ready u (p.1 u k);
          })))

pub lowest-shown : LowestShown
lowest-shown table rules l rs ready v = shown-lowest table rules l rs ready v
