-- The marks and the answer of specs/SetTest.antt are those of crates/aspif/specs/AnswerSets.antt: `marks-least` and `yes-answer-set`.
-- Assumes nothing.
use mathlib.Core.Path.{◌≡◌, refl, sym, ◌∙◌, subst}
use mathlib.Core.Logic.{◌↔◌, inl}
use mathlib.Core.Bool.{Bool, true, false, cond, true≢false}
use mathlib.Core.Option.{Option, none, some}
use mathlib.Core.List.Memᴰ
use mathlib.Core.List.{List, [], ◌∷◌}
use Prim.Native.Nat.{ℕ, zero, suc, ◌+◌, ◌≤◌, ◌<◌}
use native.Mathlib.Omega.{arith}
use lib.Dec.{T}
use lib.IntN.{ℤ, pos}
use lib.Signed.{lt_z}
use lib.ListN.{length, drop, replicate, length-replicate}
use Rattle.words.specs.Limits.{largest, entries}
use Rattle.words.specs.Lists.{◌∈◌, all}
use Rattle.words.proofs.Lists.{Decides, itself, passed, failed, reworded, and-decides, not-decides, eqb-decides, any-decides, all-decides, same_test, and_left, and_right}
use Rattle.aspif.specs.Rules.{InputRule, with_body, expand, rule_top, atoms}
use Rattle.words.proofs.Tops.{top-le}
use Rattle.aspif.specs.AnswerSets.{Constraint, LeastModel, derive, Met, AnswerSet}
use Rattle.aspif.specs.Tables.{heads_sound, size_at, heads_at, shape_sound, sound_at, rules_at, sound_rules, rules_of}
use Rattle.marks.specs.Marks.{listed, marked}
use Rattle.answer_set.specs.SetTest.{rounds, least, is_broken, lowest_from, just_one, SetVerdict, yes, differs, breaks, broken_from, differs_at, verdict_of, shown}
use Rattle.answer_set.specs.Claims.{Listed, Ready, MarksLeast, YesAnswerSet}
use Rattle.words.proofs.Ascending.{ascends-in}
use Rattle.aspif.specs.declared.Kind.TheVariants.{Normal}
use Rattle.aspif.proofs.Expansion.{expand→, expand←}
use Rattle.aspif.proofs.Cursors.{sound-rules, atoms-small, rules-of}
use Rattle.marks.proofs.Sets.{none-marked}
use Rattle.answer_set.proofs.Marking.{lowest-none, none-lowest}
use Rattle.answer_set.proofs.LeastModels.{Bits, Head, SomeMet, met-decides, rounds-decide, rounds-bits, rounds-length}
use Rattle.words.proofs.Literals.{positive}
use Rattle.aspif.proofs.RuleTests.{normal-decides, in-greatest, empty-decides}

-- Heads of the rules of a table

-- every rule of sound words has such heads
pub sound-heads : (n : ℕ) (ws : List ℤ) → sound_rules n ws ≡ true → {r : InputRule} → r ∈ rules_at n ws → heads_sound r.heads ≡ true
unfolding sound_at
sound-heads zero ws e i = elim i [ ]
sound-heads (suc n) ws e (Memᴰ.head p) = rw p (and_left (heads_sound (heads_at ws)) _ (and_right (shape_sound ws) _ (and_left (sound_at ws) _ e)))
sound-heads (suc n) ws e (Memᴰ.tail i) = sound-heads n (drop (size_at ws) ws) (and_right (sound_at ws) _ e) i

pub head_of : (rs : List InputRule) (r : InputRule) → r ∈ rs → heads_sound r.heads ≡ true → (z : ℤ) → z ∈ r.heads → Head (atoms rs) z
head_of rs r i e z j =
    let p = positive z ((all-decides (λ h. itself (lt_z (pos 0) h)) r.heads).to ((passed _).from (and_left (all (λ h. lt_z (pos 0) h) r.heads) _ e)) z j) in
    record { is = p.0; low = p.1; high = omega (arith, in-greatest rule_top i, top-le j) }

-- The set as listed, and the marks

pub listed-decides : (l : List ℕ) (v : ℕ) → Decides (listed l v) (Listed l v)
listed-decides l v = reworded (λ r. Memᴰ.cast r.2 r.1) (λ m. (v, m, refl)) (any-decides (eqb-decides v) l)

pub no_bits : (n : ℕ) → Bits (replicate n 0)
no_bits zero v = inl refl
no_bits (suc n) zero = inl refl
no_bits (suc n) (suc v) = no_bits n v

module _ (table : List ℤ) (rules : ℕ) (rs : List InputRule) (readable : rules_of table rules ≡ some rs) where
  sound : sound_rules rules table ≡ true
  sound = sound-rules table rules (rules-of table rules rs readable).0

  are : rules_at rules table ≡ rs
  are = (rules-of table rules rs readable).1

  heads-of : (r : InputRule) → r ∈ rs → (z : ℤ) → z ∈ r.heads → Head (atoms rs) z
  heads-of r i = head_of rs r i (sound-heads rules table sound {r = r} (rw are i))

  few : atoms rs ≤ largest
  few = rw (← are) (atoms-small rules table sound)

  -- what is in the least model of any set's reduct is an atom
  pub model-within : (M : ℕ → Type 0) {v : ℕ} → LeastModel M (expand rs) v → (1 ≤ v) × (v ≤ atoms rs)
  model-within M (derive {h = h} r i taken g below) =
      let x = expand→ rs i in
      let p = heads-of x.rule x.among (pos h) (subst (λ s. pos h ∈ s.heads) (sym x.is) g.0) in
      (p.low, p.high)

module _ (table : List ℤ) (rules : ℕ) (l : List ℕ) (rs : List InputRule) (ready : Ready table rules l rs) where
  heads : (r : InputRule) → r ∈ rs → (z : ℤ) → z ∈ r.heads → Head (atoms rs) z
  heads = heads-of table rules rs ready.readable

  module _ (n : ℕ) (h : atoms rs < n) where
    abbrev m : List ℕ
    m = rounds (listed l) (atoms rs) rs (replicate n 0)

    in-model : (v : ℕ) → Decides (marked m v) (LeastModel (Listed l) (expand rs) v)
    in-model =
        rounds-decide (listed l) (Listed l) (listed-decides l) rs (atoms rs) heads (replicate n 0) (rw (length-replicate n) h)
        (λ v t. true≢false (sym ((passed _).to t) ∙ none-marked n v))

    marks-of : length m ≡ n
    marks-of = rounds-length (listed l) (Listed l) (listed-decides l) rs (atoms rs) heads (atoms rs) (replicate n 0) ∙ length-replicate n 0

    bits_of : Bits m
    bits_of = rounds-bits (listed l) (Listed l) (listed-decides l) rs (atoms rs) heads (atoms rs) (replicate n 0) (no_bits n)

  fits : atoms rs < entries
  fits = let h = few table rules rs ready.readable in omega arith

  pub model : (v : ℕ) → Decides (marked (least (listed l) rs) v) (LeastModel (Listed l) (expand rs) v)
  unfolding least
  model = in-model entries fits

pub marks-least : MarksLeast
unfolding least
marks-least table rules l rs h =
    record {
      count = marks-of table rules l rs h entries (fits table rules l rs h);
      bytes = bits_of table rules l rs h entries (fits table rules l rs h);
      ones = λ v.
          let d = model table rules l rs h v in
          (λ e. d.to ((eqb-decides _ 1).from e), λ k. (eqb-decides _ 1).to (d.from k));
    }

-- The answer

pub just-one : (a b : Bool) → just_one a b ≡ false → a ≡ b
just-one true true e = refl
just-one true false e = e
just-one false b e = sym e

pub same-both : (b : Bool) → just_one b b ≡ false
same-both true = refl
same-both false = refl

-- no other verdict is yes
pub no-differs : {a : ℕ} → ¬ (differs a ≡ yes)
no-differs p = let z : ◌≡◌ {A = ℕ} 0 1 = cc in omega arith

pub no-breaks : {k : ℕ} → ¬ (breaks k ≡ yes)
no-breaks p = let z : ◌≡◌ {A = ℕ} 0 1 = cc in omega arith

module _ (M : ℕ → Bool) where
  no-broken : (k : ℕ) (rs : List InputRule) → broken_from M k rs ≡ yes → {r : InputRule} → r ∈ rs → is_broken M r ≡ false
  no-broken k [] e i = elim i [ ]
  no-broken k (s ∷ rs) e {r} i = by (is_broken M s) refl e (λ f j. no-broken (k + 1) rs f j) i
    where
      by : (b : Bool) → is_broken M s ≡ b → cond b (breaks k) (broken_from M (k + 1) rs) ≡ yes → (broken_from M (k + 1) rs ≡ yes → r ∈ rs → is_broken M r ≡ false) → r ∈ s ∷ rs → is_broken M r ≡ false
      by true p q f j = absurd (no-breaks q)
      by false p q f (Memᴰ.head t) = rw t p
      by false p q f (Memᴰ.tail j) = f q j

  none-broken : (k : ℕ) (rs : List InputRule) → ((r : InputRule) → r ∈ rs → is_broken M r ≡ false) → broken_from M k rs ≡ yes
  none-broken k [] g = refl
  none-broken k (s ∷ rs) g = rw (g s (Memᴰ.head refl)) (none-broken (k + 1) rs (λ r i. g r (Memᴰ.tail i)))

-- one of the plain rules of a rule as written is a constraint that is met
abbrev pub SomeBroken : List ℕ → InputRule → Type 0
SomeBroken l r = ((r.kind ≡ Normal) × (r.heads ≡ [])) × SomeMet (listed l) (Listed l) (listed-decides l) (Listed l) r.body

pub broken-decides : (l : List ℕ) (r : InputRule) → Decides (is_broken (listed l) r) (SomeBroken l r)
broken-decides l r =
    and-decides (and-decides (normal-decides r.kind) (empty-decides r.heads))
    (met-decides (listed l) (Listed l) (listed-decides l) (listed l) (Listed l) (listed-decides l) r.body)

module _ (table : List ℤ) (rules : ℕ) (l : List ℕ) (rs : List InputRule) (ready : Ready table rules l rs) where
  abbrev pub differing : ℕ → Bool
  differing = differs_at (listed l) (least (listed l) rs)

  pub least-small : {v : ℕ} → LeastModel (Listed l) (expand rs) v → v ≤ atoms rs
  least-small d = (model-within table rules rs ready.readable (Listed l) d).1

  -- a number that does not differ is in both or in neither
  pub same-there : (v : ℕ) → differing v ≡ false → Listed l v ↔ LeastModel (Listed l) (expand rs) v
  same-there v e =
      let p = just-one (listed l v) (marked (least (listed l) rs) v) e in
      (λ i. (model table rules l rs ready v).to (subst T p ((listed-decides l v).from i)), λ d. (listed-decides l v).to (subst T (sym p) ((model table rules l rs ready v).from d)))

  pub same_back : (v : ℕ) → Listed l v ↔ LeastModel (Listed l) (expand rs) v → differing v ≡ false
  same_back v e = rw (same_test (listed-decides l v) (model table rules l rs ready v) e.0 e.1) (same-both (marked (least (listed l) rs) v))

  -- where none differs the set equals the least model
  pub equal : lowest_from differing (atoms rs + 1) 0 ≡ none → (v : ℕ) → Listed l v ↔ LeastModel (Listed l) (expand rs) v
  equal e v = (λ i. (same-there v (below (ascends-in 0 (atoms rs) ready.ascending i).1)).0 i, λ d. (same-there v (below (least-small d))).1 d)
    where
      below : v ≤ atoms rs → differing v ≡ false
      below h = lowest-none differing (atoms rs + 1) 0 e v (omega arith) (omega arith)

  pub equal-back : ((v : ℕ) → Listed l v ↔ LeastModel (Listed l) (expand rs) v) → lowest_from differing (atoms rs + 1) 0 ≡ none
  equal-back s = none-lowest differing (atoms rs + 1) 0 (λ v h k. same_back v (s v))

  -- a verdict that shows no atom: none differs, and the constraints decide
  pub verdict : (x : SetVerdict) → ((a : ℕ) → ¬ (differs a ≡ x)) → verdict_of (listed l) rs ≡ x
      → (lowest_from differing (atoms rs + 1) 0 ≡ none) × (broken_from (listed l) 1 rs ≡ x)
  unfolding verdict_of
  verdict x other = by (lowest_from differing (atoms rs + 1) 0) refl
    where
      by : (o : Option ℕ) → lowest_from differing (atoms rs + 1) 0 ≡ o → shown o (broken_from (listed l) 1 rs) ≡ x → (lowest_from differing (atoms rs + 1) 0 ≡ none) × (broken_from (listed l) 1 rs ≡ x)
      by (some v) e p = absurd (other v p)
      by none e p = (e, p)

  answers : verdict_of (listed l) rs ≡ yes → AnswerSet (Listed l) (expand rs)
  answers e =
      let w = verdict yes (λ a. no-differs) e in
      record {
        least = equal w.0;
        kept = λ r i c met.
            let x = expand→ rs i in
            let e = sym x.is in
            let b = (broken-decides l x.rule).from (subst Constraint e c, (x.body, x.one, subst (Met (Listed l)) e met)) in
            true≢false (sym ((passed _).to b) ∙ no-broken (listed l) 1 rs w.1 x.among);
      }

  answered-yes : AnswerSet (Listed l) (expand rs) → verdict_of (listed l) rs ≡ yes
  unfolding verdict_of
  answered-yes s =
      rw (
        equal-back s.least,
        none-broken (listed l) 1 rs (λ r i.
            failed _ ((not-decides (broken-decides l r)).from (λ p. s.kept (with_body r p.1.0) (expand← i p.1.1) p.0 p.1.2))),
      )

pub yes-answer-set : YesAnswerSet
yes-answer-set table rules l rs h = (answers table rules l rs h, answered-yes table rules l rs h)
