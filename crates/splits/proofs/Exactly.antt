-- When the service writes a merge, and when it answers 59. Assumes nothing.
use mathlib.Core.Path.{◌≡◌, refl, sym, ap, ◌∙◌}
use mathlib.Core.Logic.{inl, inr}
use mathlib.Core.Bool.{Bool, true, false, cond, true≢false}
use mathlib.Core.List.{List, ◌++◌}
use Prim.Native.Nat.{ℕ, ◌-◌, ◌≤◌}
use lib.Dec.{leb}
use lib.ListN.{length, replicate}
use Rattle.words.specs.Limits.{longest}
use Rattle.words.proofs.Lists.{zero_one, if-true, leb-decides, and_left, and_right}
use Rattle.aspif.specs.Rules.{InputRule, expand, atoms}
use Rattle.drupe.specs.Texts.{Step, text_of}
use Rattle.runs.specs.Course.{Course, stopped, through, course, ends_empty, is_accepted}
use Rattle.merging.specs.Merge.{all_fit}
use Rattle.splits.specs.Service.{are_halves, merged_steps, is_writable, MergeLeft, leaves_nothing, judged_text, merge, MergeAnswer}
use Rattle.splits.specs.Claims.{PastStore, Joins, Exactly, MergedExactly}
use Rattle.splits.proofs.OverTexts.{merged-ends}
use Rattle.drupe.specs.declared.ProofFault.TheVariants as Fault
use Rattle.splits.specs.declared.MergeFault.TheVariants.{NotAccepted, NotWritable, StoreFull}
use Rattle.splits.specs.declared.MergeFault.{MergeFault}
use Rattle.aspif.specs.declared.Refusal.TheVariants.{Service}
use Rattle.std.specs.Prelude.{Ok, Err}

-- a text whose check ends empty is written
pub accepted-written : (t s o : ℕ) (ws : List InputRule) (text : List ℕ) (c : Course) → ends_empty c ≡ true
    → ((judged_text t s o ws text c).answer ≡ Ok (length text)) × ((judged_text t s o ws text c).output ≡ text ++ replicate (o - length text) 0)
accepted-written t s o ws text (stopped k n) e = absurd (true≢false (sym e))
accepted-written t s o ws text (through n z stored) e = (rw e refl, rw e refl)

-- a writable text keeps to its limits
pub writable-short : (o : ℕ) (ts : List Step) → is_writable o ts ≡ true → (all_fit ts ≡ true) × (length (text_of ts) ≤ longest)
writable-short o ts w =
    (and_left (all_fit ts) _ w, if-true (leb-decides _ longest) (and_left (leb (length (text_of ts)) longest) _ (and_right (all_fit ts) _ w)))

-- the two answers differ
apart : {n : ℕ} {k : MergeFault} {r : MergeAnswer} → r ≡ Ok n → r ≡ Err (Service k) → ⊥
apart a b = let i : ◌≡◌ {A = MergeAnswer} (Ok _) (Err (Service _)) = sym a ∙ b in zero_one (cc)

module _ (t s o : ℕ) (ws : List InputRule) (v : ℕ) (first second output' : List ℕ) (r : MergeAnswer) where
  abbrev ts : List Step
  ts = merged_steps ws v first second

  abbrev judgement : MergeLeft
  judgement = judged_text t s o ws (text_of ts) (course (atoms ws) (expand ws) s (text_of ts))

  abbrev Is : MergeLeft → Type 0
  Is x = (r ≡ x.answer) × (output' ≡ x.output)

  -- 57 and 58
  otherwise : (k : MergeFault) → r ≡ Err (Service k) → ¬ (k ≡ StoreFull) → ¬ (Joins s o ws v first second) → Exactly s o ws v first second output' r
  otherwise k is not none = record {
    merged = (λ q. absurd (apart q.1 is), λ q. absurd (none q.0));
    text = λ n q. absurd (apart q is);
    full = (λ q. absurd (not (let i : ◌≡◌ {A = MergeAnswer} (Err (Service k)) (Err (Service StoreFull)) = sym is ∙ q in cc)), λ q. absurd (none q.0));
    number = refl;
  }

  module _ (j : Joins s o ws v first second) (l : Is judgement) where
    written : ¬ (PastStore s ws ts) → is_accepted s ws (text_of ts) ≡ true → Exactly s o ws v first second output' r
    written never a = record {
      merged = (λ q. (j, never), λ q. (length (text_of ts), is));
      text = λ n q. let i : ◌≡◌ {A = MergeAnswer} (Ok (length (text_of ts))) (Ok n) = sym is ∙ q in
          let e : length (text_of ts) ≡ n = cc in (sym e, l.1 ∙ (w.1 ∙ ap (λ (m : ℕ). text_of ts ++ replicate (o - m) 0) e));
      full = (λ q. absurd (apart is q), λ q. absurd (never q.1));
      number = refl;
    }
      where
        w : (judgement.answer ≡ Ok (length (text_of ts))) × (judgement.output ≡ text_of ts ++ replicate (o - length (text_of ts)) 0)
        w = accepted-written t s o ws (text_of ts) (course (atoms ws) (expand ws) s (text_of ts)) a

        is : r ≡ Ok (length (text_of ts))
        is = l.0 ∙ w.0

    stopped-full : PastStore s ws ts → (n : ℕ) × (course (atoms ws) (expand ws) s (text_of ts) ≡ stopped Fault.StoreFull n) → Exactly s o ws v first second output' r
    stopped-full past (n, c) = record {
      merged = (λ q. absurd (apart q.1 is), λ q. absurd (q.1 past));
      text = λ m q. absurd (apart q is);
      full = (λ q. (j, past), λ q. is);
      number = refl;
    }
      where
        is : r ≡ Err (Service StoreFull)
        is = l.0 ∙ ap (λ (x : Course). (judged_text t s o ws (text_of ts) x).answer) c

    joined : Exactly s o ws v first second output' r
    joined =
        let f = writable-short o ts j.1 in
        elim (merged-ends s ws v first second j.0 f.0 f.1).1.1 [ inl a ↦ written a.0 a.1 | inr a ↦ stopped-full a.0 a.1 ]

  cases : (a : Bool) → are_halves s ws v first second ≡ a → (b : Bool) → is_writable o ts ≡ b
      → Is (cond a (cond b judgement (leaves_nothing t s o (Err (Service NotWritable)))) (leaves_nothing t s o (Err (Service NotAccepted)))) → Exactly s o ws v first second output' r
  cases true e true f l = joined (e, f) l
  cases true e false f l = otherwise NotWritable l.0 (λ i. zero_one (cc)) (λ j. true≢false (sym j.1 ∙ f))
  cases false e b f l = otherwise NotAccepted l.0 (λ i. zero_one (cc)) (λ j. true≢false (sym j.0 ∙ e))

pub merged-exactly : MergedExactly
unfolding merge
merged-exactly text v first second table store table' store' output output' r e ws q =
    let l = rw q at e in
    cases (length table) (length store) (length output) ws v first second output' r (are_halves (length store) ws v first second) refl
    (is_writable (length output) (merged_steps ws v first second)) refl (ap (λ (x : MergeLeft). x.answer) l, ap (λ (x : MergeLeft). x.output) l)
