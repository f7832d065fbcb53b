-- The least total of a program that was read: the sets of its atoms are tried one by one. Assumes nothing.
use mathlib.Core.Path.{◌≡◌, refl, sym, ◌∙◌}
use mathlib.Core.Logic.{◌↔◌, ◌⊎◌, inl, inr}
use mathlib.Core.Bool.{Bool, true, false}
use mathlib.Core.Option.{some}
use mathlib.Core.List.Memᴰ
use mathlib.Core.List.{List, [], ◌∷◌}
use Prim.Native.Nat.{ℕ, zero, suc, ◌+◌, ◌≤◌, ◌<◌}
use native.Mathlib.Omega.{arith}
use borrow.Author.Tests.{leb-true, leb-false, lt-ltb, le-leb}
use lib.Dec.{leb}
use lib.IntN.{ℤ, pos, negsuc}
use Rattle.words.specs.Lists.{◌∈◌, ascends}
use Rattle.words.proofs.Lists.{each-cons}
use Rattle.words.proofs.Places.{equal?}
use Rattle.weights.specs.Weights.{sublists}
use Rattle.weights.specs.Claims.{◌⊑◌, none, with_it, without}
use Rattle.weights.proofs.Sublists as sub
use Rattle.aspif.specs.Rules.{InputRule, expand, atoms}
use Rattle.aspif.specs.AnswerSets.{AnswerSet}
use Rattle.aspif.specs.Tables.{rules_of}
use Rattle.marks.specs.Marks.{listed}
use Rattle.answer_set.specs.SetTest.{SetVerdict, yes, differs, breaks, verdict_of}
use Rattle.answer_set.specs.Claims.{Listed, Ready}
use Rattle.answer_set.proofs.Answered.{listed-decides, model-within, no-differs, no-breaks, yes-answer-set}
use Rattle.derivation.proofs.Valuations.{shift}
use Rattle.derivation.proofs.SameSet.{answer-under}
use Rattle.costs.specs.Costs.{Cost, total, Holds, Costs}
use Rattle.costs.specs.OneRate.{Least, LeastFound}
use Rattle.costs.proofs.Sums.{costs-total, cost-listed}

-- One of least cost

module _ {A : Type 0} (F : A → Type 0) (cost : A → ℕ) where
  pub record Best (l : List A) : Type 0 where
    pub one : A
    pub is : F one
    pub least : (y : A) → y ∈ l → F y → cost one ≤ cost y

  abbrev pub best : (l : List A) → ((x : A) → x ∈ l → F x ⊎ (¬ F x)) → Best l ⊎ ((x : A) → x ∈ l → ¬ F x)
  best [] d = inr (λ x i. elim i [ ])
  best (x ∷ l) d = by (d x (Memᴰ.head refl)) (best l (λ y i. d y (Memᴰ.tail i)))
    where
      pick : F x → (b : Best l) → (t : Bool) → leb (cost x) (cost b.one) ≡ t → Best (x ∷ l)
      pick u b true e = let h = leb-true (cost x) (cost b.one) e in record {
        one = x;
        is = u;
        least = each-cons (λ _. omega arith) (λ y i v. omega (arith, h, b.least y i v));
      }
      pick u b false e = let h = leb-false (cost x) (cost b.one) e in record {
        one = b.one;
        is = b.is;
        least = each-cons (λ _. omega (arith, h)) b.least;
      }

      by : F x ⊎ (¬ F x) → Best l ⊎ ((x : A) → x ∈ l → ¬ F x) → Best (x ∷ l) ⊎ ((y : A) → y ∈ x ∷ l → ¬ F y)
      by (inl u) (inl b) = inl (pick u b (leb (cost x) (cost b.one)) refl)
      by (inl u) (inr f) = inl (record { one = x; is = u; least = each-cons (λ _. omega arith) (λ y i v. absurd (f y i v)) })
      by (inr n) (inl b) = inl (record { one = b.one; is = b.is; least = each-cons (λ u. absurd (n u)) b.least })
      by (inr n) (inr f) = inr (each-cons n f)

-- The sets of atoms

-- the numbers from v on, n of them
abbrev pub numbers : (n v : ℕ) → List ℕ
numbers zero v = []
numbers (suc n) v = v ∷ numbers n (suc v)

in-numbers : (n v u : ℕ) → v ≤ u → u < v + n → u ∈ numbers n v
in-numbers zero v u h k = absurd (omega arith)
in-numbers (suc n) v u h k = elim (equal? u v) [
  | inl e ↦ Memᴰ.head e
  | inr f ↦ Memᴰ.tail (in-numbers n (suc v) u (omega (arith, f)) (omega arith))
]

part_ascends : (n low v high : ℕ) → low < v → v + n ≤ high + 1 → {s : List ℕ} → s ⊑ numbers n v → ascends low high s ≡ true
part_ascends zero low v high h k none = refl
part_ascends (suc n) low v high h k (with_it p) =
    let m : v ≤ high = omega arith in
    rw (lt-ltb low v h, le-leb v high m) (part_ascends n v (suc v) high (omega arith) (omega arith) p)
part_ascends (suc n) low v high h k (without p) = part_ascends n low (suc v) high (omega arith) (omega arith) p

-- of a list each of whose numbers is in a set or outside, those that are in it
record Part (M : ℕ → Type 0) (l : List ℕ) : Type 0 where
  part : List ℕ
  of : part ⊑ l
  in-set : (x : ℕ) → x ∈ part → M x
  all : (x : ℕ) → x ∈ l → M x → x ∈ part

part_of : (M : ℕ → Type 0) (l : List ℕ) → ((x : ℕ) → x ∈ l → M x ⊎ (¬ M x)) → Part M l
part_of M [] d = record { part = []; of = none; in-set = λ x i. elim i [ ]; all = λ x i. elim i [ ] }
part_of M (x ∷ l) d = by (d x (Memᴰ.head refl)) (part_of M l (λ y i. d y (Memᴰ.tail i)))
  where
    by : M x ⊎ (¬ M x) → Part M l → Part M (x ∷ l)
    by (inl m) p = record {
      part = x ∷ p.part;
      of = with_it p.of;
      in-set = each-cons m p.in-set;
      all = each-cons (λ _. Memᴰ.head refl) (λ y i u. Memᴰ.tail (p.all y i u));
    }
    by (inr f) p = record { part = p.part; of = without p.of; in-set = p.in-set; all = each-cons (λ u. absurd (f u)) p.all }

-- The same set under another name

module _ (M W : ℕ → Type 0) (same : (v : ℕ) → M v ↔ W v) where
  holds-under : (z : ℤ) → Holds M z ↔ Holds W z
  holds-under (pos v) = same v
  holds-under (negsuc n) = (λ f w. f ((same (suc n)).1 w), λ f m. f ((same (suc n)).0 m))

  pub costs-under : (ks : List Cost) (c : ℕ) → Costs M ks c → Costs W ks c
  costs-under [] c p = p
  costs-under (k ∷ ks) c (inl p) = inl ((holds-under k.literal).0 p.0, (p.1.0, p.1.1, costs-under ks p.1.0 p.1.2))
  costs-under (k ∷ ks) c (inr p) = inr (λ h. p.0 ((holds-under k.literal).1 h), costs-under ks c p.1)

-- The search

module _ (table : List ℤ) (rules : ℕ) (ws : List InputRule) (read : rules_of table rules ≡ some ws) where
  abbrev pub sets : List (List ℕ)
  sets = sublists (numbers (atoms ws) 1)

  abbrev pub Answers : List ℕ → Type 0
  Answers l = AnswerSet (Listed l) (expand ws)

  pub ready : (l : List ℕ) → l ∈ sets → Ready table rules l ws
  ready l i = record { readable = read; ascending = part_ascends (atoms ws) 0 1 (atoms ws) (omega arith) (omega arith) (sub.is-sublist (numbers (atoms ws) 1) i) }

  abbrev pub decided : (l : List ℕ) → l ∈ sets → Answers l ⊎ (¬ Answers l)
  decided l i = by (verdict_of (listed l) ws) refl
    where
      no : {v : SetVerdict} → verdict_of (listed l) ws ≡ v → ¬ (v ≡ yes) → Answers l ⊎ (¬ Answers l)
      no e f = inr (λ s. f (sym e ∙ (yes-answer-set table rules l ws (ready l i)).1 s))

      by : (v : SetVerdict) → verdict_of (listed l) ws ≡ v → Answers l ⊎ (¬ Answers l)
      by yes e = inl ((yes-answer-set table rules l ws (ready l i)).0 e)
      by (differs a) e = no e no-differs
      by (breaks k) e = no e no-breaks

  -- an answer set is, not not, one of them
  pub record Seen (M : ℕ → Type 0) : Type 0 where
    pub set : List ℕ
    pub tried : set ∈ sets
    pub same : (v : ℕ) → M v ↔ Listed set v

  -- and one of them where of each atom it is decided
  pub seen_by : (M : ℕ → Type 0) → AnswerSet M (expand ws) → ((v : ℕ) → v ∈ numbers (atoms ws) 1 → M v ⊎ (¬ M v)) → Seen M
  seen_by M S d =
      let p = part_of M (numbers (atoms ws) 1) d in
      record { set = p.part; tried = sub.listed p.of; same = λ v. (λ m. p.all v (atom v m) m, p.in-set v) }
    where
      atom : (v : ℕ) → M v → v ∈ numbers (atoms ws) 1
      atom v m = let w = model-within table rules ws read M ((S.least v).0 m) in in-numbers (atoms ws) 1 v w.0 (omega (arith, w.1))

  pub seen : (M : ℕ → Type 0) → AnswerSet M (expand ws) → ¬ (¬ Seen M)
  seen M S f = shift (λ v. M v ⊎ (¬ M v)) (numbers (atoms ws) 1) (λ v i g. g (inr (λ m. g (inl m)))) (λ d. f (seen_by M S d))

  pub answers-seen : (M : ℕ → Type 0) → AnswerSet M (expand ws) → (s : Seen M) → Answers s.set
  answers-seen M S s = answer-under (expand ws) M (Listed s.set) (λ v. (s.same v).0) (λ v. (s.same v).1) S

abbrev pub least-found : LeastFound
least-found table rules ws read ks M S = by (best (Answers table rules ws read) (λ l. total (listed l) ks) (sets table rules ws read) (decided table rules ws read))
  where
    not-less : (a b : ℕ) → ¬ (b < a) → a ≤ b
    not-less a b f = omega (arith, f)

    least : (b : Best (Answers table rules ws read) (λ l. total (listed l) ks) (sets table rules ws read))
        → (W : ℕ → Type 0) → AnswerSet W (expand ws) → (c : ℕ) → Costs W ks c → total (listed b.one) ks ≤ c
    least b W U c k =
        not-less _ c (λ h. seen table rules ws read W U (λ s.
        omega (arith, h, b.least s.set s.tried (answers-seen table rules ws read W U s), (cost-listed s.set ks c).0 (costs-under W (Listed s.set) s.same ks c k))))

    by : Best (Answers table rules ws read) (λ l. total (listed l) ks) (sets table rules ws read) ⊎ ((l : List ℕ) → l ∈ sets table rules ws read → ¬ Answers table rules ws read l)
        → (C : ℕ) × Least (expand ws) ks C
    by (inl b) = (total (listed b.one) ks, ((Listed b.one, (b.is, costs-total (listed b.one) (Listed b.one) (listed-decides b.one) ks)), least b))
    by (inr f) = absurd (seen table rules ws read M S (λ s. f s.set s.tried (answers-seen table rules ws read M S s)))
