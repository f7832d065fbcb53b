-- An assignment of all atoms is an answer set, or it goes against a rule, against the support of an atom, or against a loop: a supported model
-- that is not the least model of its reduct has a loop whose external bodies are all false (Lin and Zhao). Assumes nothing.
use mathlib.Core.Path.{◌≡◌, refl, sym, ◌∙◌}
use mathlib.Core.Logic.{◌⊎◌, inl, inr}
use mathlib.Core.Bool.{Bool, true, not}
use mathlib.Core.List.Memᴰ
use mathlib.Core.List.{List, [], ◌∷◌}
use Prim.Native.Nat.{ℕ, zero, suc, ◌≤◌}
use native.Mathlib.Omega.{arith}
use lib.Dec.{T}
use lib.IntN.{ℤ, pos, negsuc}
use lib.ListN.{length}
use Rattle.words.specs.Lists.{◌∈◌, filter}
use Rattle.words.specs.Literals.{variable, complement, same, has, distinct}
use Rattle.words.proofs.Lists.{answered, itself, and-decides, not-decides, any-decides, keep→, keep←, length-keep}
use Rattle.words.proofs.Literals.{same-decides, has-decides}
use Rattle.aspif.specs.Rules.{Rule}
use Rattle.aspif.specs.declared.Kind.{Kind}
use Rattle.aspif.specs.declared.Kind.TheVariants.{Normal, Choice}
use Rattle.aspif.specs.AnswerSets.{Chosen, LeastModel, derive, Met, AnswerSet}
use Rattle.aspif.proofs.RuleTests.{normal-decides}
use Rattle.drupe.specs.Lines.{is_positive}
use Rattle.derivation.specs.Loops.{is_edge, Loop}
use Rattle.derivation.specs.Steps.{is_external}
use Rattle.derivation.proofs.Questions.{positive-is, pos-positive}
use Rattle.completeness.specs.Claims.{WellFormed}
use Rattle.completeness.proofs.Components.{either-all, Component, component}
use Rattle.completeness.proofs.Totals.{Total, distinct_filter, shorter}

-- every literal of a body is in the assignment; or the complement of one is
abbrev pub Holds : List ℤ → List ℤ → Type 0
Holds L B = (x : ℤ) → x ∈ B → x ∈ L

abbrev pub Fails : List ℤ → List ℤ → Type 0
Fails L B = (y : ℤ) × (y ∈ B) × (complement y ∈ L)

-- what an assignment can go against
module _ (P : List Rule) (L : List ℤ) where
  -- a normal rule whose body holds and whose head, if any, is denied
  pub record BadRule : Type 0 where
    pub rule : Rule
    pub among : rule ∈ P
    pub normal : rule.kind ≡ Normal
    pub holds : Holds L rule.body
    pub denied : (h : ℤ) → h ∈ rule.heads → complement h ∈ L

  -- an atom that no rule supports
  pub record BadAtom : Type 0 where
    pub atom : ℤ
    pub positive : T (is_positive atom)
    pub listed : atom ∈ L
    pub without : (r : Rule) → r ∈ P → atom ∈ r.heads → Fails L r.body

  -- a loop that no external body supports
  pub record BadLoop : Type 0 where
    pub set : List ℤ
    pub some : (h : ℤ) × (h ∈ set)
    pub once : distinct set ≡ true
    pub few : length set ≤ length L
    pub positive : (x : ℤ) → x ∈ set → T (is_positive x)
    pub listed : (x : ℤ) → x ∈ set → x ∈ L
    pub loop : Loop P set
    pub without : (r : Rule) → r ∈ P → T (is_external set r) → Fails L r.body

  pub data Bad : Type 0 where
    rule : BadRule → Bad
    atom : BadAtom → Bad
    loop : BadLoop → Bad

module _ (N : ℕ) (P : List Rule) (wf : WellFormed N P) (L : List ℤ) (total : Total N L) where
  abbrev pub body-cases : (r : Rule) → r ∈ P → Holds L r.body ⊎ Fails L r.body
  body-cases r m = either-all r.body (λ x i. go x i (let w = wf.literals r m x i in total.covers x w.0 w.1))
    where
      go : (x : ℤ) → x ∈ r.body → (x ∈ L) ⊎ (complement x ∈ L) → (x ∈ L) ⊎ Fails L r.body
      go x i (inl u) = inl u
      go x i (inr u) = inr (x, i, u)

  abbrev M : ℕ → Type 0
  M n = pos n ∈ L

  met : (r : Rule) → Holds L r.body → Met M r
  met r h = (λ a i. h (pos a) i, λ n i u. total.consistent (negsuc n) (h (negsuc n) i) u)

  holds : (r : Rule) → r ∈ P → Met M r → Holds L r.body
  holds r m t (pos a) i = t.0 a i
  holds r m t (negsuc n) i = let w = wf.literals r m (negsuc n) i in elim (total.covers (negsuc n) w.0 w.1) [ inl u ↦ u | inr u ↦ absurd (t.1 n i u) ]

  -- Rules

  abbrev Heeded : Rule → Type 0
  Heeded r = r.kind ≡ Normal → Holds L r.body → (h : ℤ) × (h ∈ r.heads) × (h ∈ L)

  abbrev heeded : (r : Rule) → r ∈ P → Heeded r ⊎ BadRule P L
  heeded r m = by r.kind refl (body-cases r m)
    where
      head-cases : ((h : ℤ) → h ∈ r.heads → complement h ∈ L) ⊎ ((h : ℤ) × (h ∈ r.heads) × (h ∈ L))
      head-cases = either-all r.heads (λ h i. go h i (let w = wf.heads r m h i in total.covers h (head-positive h w.0) w.1))
        where
          head-positive : (h : ℤ) → T (is_positive h) → 1 ≤ variable h
          head-positive h t = (Rattle.words.proofs.Literals.positive h t).1

          go : (h : ℤ) → h ∈ r.heads → (h ∈ L) ⊎ (complement h ∈ L) → (complement h ∈ L) ⊎ ((h : ℤ) × (h ∈ r.heads) × (h ∈ L))
          go h i (inl u) = inr (h, i, u)
          go h i (inr u) = inl u

      by : (k : Kind) → r.kind ≡ k → Holds L r.body ⊎ Fails L r.body → Heeded r ⊎ BadRule P L
      by Normal e (inl h) = elim head-cases [
        | inl d ↦ inr (record { rule = r; among = m; normal = e; holds = h; denied = d })
        | inr g ↦ inl (λ _ _. g)
      ]
      by Normal e (inr f) = inl (λ _ h. absurd (total.consistent f.0 (h f.0 f.1) f.2))
      by Choice e s = inl (λ p _. absurd ((normal-decides Choice).from (sym e ∙ p)))

  -- Atoms

  abbrev Supported : ℤ → Type 0
  Supported x = T (is_positive x) → (r : Rule) × (r ∈ P) × (x ∈ r.heads) × Holds L r.body

  abbrev supported : (x : ℤ) → x ∈ L → Supported x ⊎ BadAtom P L
  supported x i = by (answered (is_positive x))
    where
      each : (r : Rule) → r ∈ P → (x ∈ r.heads → Fails L r.body) ⊎ ((r : Rule) × (r ∈ P) × (x ∈ r.heads) × Holds L r.body)
      each r m = go (answered (has x r.heads)) (body-cases r m)
        where
          go : T (has x r.heads) ⊎ T (not (has x r.heads)) → Holds L r.body ⊎ Fails L r.body
              → (x ∈ r.heads → Fails L r.body) ⊎ ((r : Rule) × (r ∈ P) × (x ∈ r.heads) × Holds L r.body)
          go (inl t) (inl h) = inr (r, m, (has-decides x r.heads).to t, h)
          go (inl t) (inr f) = inl (λ _. f)
          go (inr t) s = inl (λ u. absurd ((not-decides (has-decides x r.heads)).to t u))

      by : T (is_positive x) ⊎ T (not (is_positive x)) → Supported x ⊎ BadAtom P L
      by (inl p) = elim (either-all P each) [
        | inl f ↦ inr (record { atom = x; positive = p; listed = i; without = f })
        | inr g ↦ inl (λ _. g)
      ]
      by (inr p) = inl (λ t. absurd ((not-decides (itself (is_positive x))).to p t))

  -- Unfounded atoms

  -- what is not in X is in the least model
  pub record Pending (X : List ℤ) : Type 0 where
    pub part : (x : ℤ) → x ∈ X → (x ∈ L) × T (is_positive x)
    pub once : distinct X ≡ true
    pub few : length X ≤ length L
    pub rest : (x : ℤ) → x ∈ L → T (is_positive x) → (x ∈ X) ⊎ LeastModel M P (variable x)

  -- a rule that holds leans on X for a head in X
  abbrev Leans : List ℤ → ℤ → Rule → Type 0
  Leans X h r = h ∈ r.heads → Holds L r.body → (x : ℤ) × (x ∈ r.body) × (x ∈ X)

  pub record Founded (X : List ℤ) : Type 0 where
    pub head : ℤ
    pub pending : head ∈ X
    pub rule : Rule
    pub among : rule ∈ P
    pub gives : head ∈ rule.heads
    pub holds : Holds L rule.body
    pub free : (x : ℤ) → x ∈ rule.body → ¬ (x ∈ X)

  abbrev leans : (X : List ℤ) (h : ℤ) → h ∈ X → (r : Rule) → r ∈ P → Leans X h r ⊎ Founded X
  leans X h i r m = go (answered (has h r.heads)) (body-cases r m) (either-all r.body each)
    where
      Meets : Type 0
      Meets = (x : ℤ) × (x ∈ r.body) × (x ∈ X)

      each : (x : ℤ) → x ∈ r.body → (¬ (x ∈ X)) ⊎ Meets
      each x j = elim (answered (has x X)) [ inl t ↦ inr (x, j, (has-decides x X).to t) | inr t ↦ inl ((not-decides (has-decides x X)).to t) ]

      go : T (has h r.heads) ⊎ T (not (has h r.heads)) → Holds L r.body ⊎ Fails L r.body
          → ((x : ℤ) → x ∈ r.body → ¬ (x ∈ X)) ⊎ Meets → Leans X h r ⊎ Founded X
      go (inl t) (inl b) (inl f) = inr (record { head = h; pending = i; rule = r; among = m; gives = (has-decides h r.heads).to t; holds = b; free = f })
      go (inl t) (inl b) (inr g) = inl (λ _ _. g)
      go (inl t) (inr f) s = inl (λ _ b. absurd (total.consistent f.0 (b f.0 f.1) f.2))
      go (inr t) b s = inl (λ u _. absurd ((not-decides (has-decides h r.heads)).to t u))

  chosen : (k : Kind) (a : ℕ) → pos a ∈ L → Chosen M k a
  chosen Normal a i = tt
  chosen Choice a i = i

  -- a rule that does not lean on X gives its head
  pub given : (X : List ℤ) → Pending X → (f : Founded X) → LeastModel M P (variable f.head)
  given X p f =
      let w = p.part f.head f.pending in
      let e : f.head ≡ pos (variable f.head) = positive-is f.head w.1 in
      derive f.rule f.among (met f.rule f.holds).1
      (Memᴰ.cast (sym e) f.gives, chosen f.rule.kind (variable f.head) (Memᴰ.cast (sym e) w.0)) below
    where
      below : (a : ℕ) → pos a ∈ f.rule.body → LeastModel M P a
      below a i = elim (p.rest (pos a) (f.holds (pos a) i) (pos-positive a (wf.literals f.rule f.among (pos a) i).0)) [
        | inl u ↦ absurd (f.free (pos a) i u)
        | inr d ↦ d
      ]

  pub record Unfounded : Type 0 where
    pub X : List ℤ
    pub pending : Pending X
    pub leaning : (h : ℤ) → h ∈ X → (r : Rule) → r ∈ P → Leans X h r

  abbrev unfounded : (n : ℕ) (X : List ℤ) → length X ≤ n → Pending X → Unfounded
  unfounded zero [] h p = record { X = []; pending = p; leaning = λ x i. elim i [ ] }
  unfounded zero (x ∷ X) h p = absurd (omega arith)
  unfounded (suc n) X h p = go (λ Y k q. unfounded n Y k q) (either-all X (λ x i. either-all P (leans X x i)))
    where
      go : ((Y : List ℤ) → length Y ≤ n → Pending Y → Unfounded) → ((x : ℤ) → x ∈ X → (r : Rule) → r ∈ P → Leans X x r) ⊎ Founded X → Unfounded
      go below (inl f) = record { X = X; pending = p; leaning = f }
      go below (inr f) = below Y (omega (arith, shorter f.head f.pending)) (record {
        part = λ x i. p.part x (keep→ other X i).0;
        once = distinct_filter other X p.once;
        few = omega (arith, shorter f.head f.pending, p.few);
        rest = rest;
      })
        where
          other : ℤ → Bool
          other y = not (same f.head y)

          Y : List ℤ
          Y = filter other X

          rest : (x : ℤ) → x ∈ L → T (is_positive x) → (x ∈ Y) ⊎ LeastModel M P (variable x)
          rest x i t = by (p.rest x i t) (answered (same f.head x))
            where
              by : (x ∈ X) ⊎ LeastModel M P (variable x) → T (same f.head x) ⊎ T (not (same f.head x)) → (x ∈ Y) ⊎ LeastModel M P (variable x)
              by (inr d) s = inr d
              by (inl u) (inl s) = inr (rw (← (same-decides f.head x).to s) (given X p f))
              by (inl u) (inr s) = inl (keep← other u s)

  abbrev first-pending : Pending (filter is_positive L)
  first-pending = record {
    part = λ x i. keep→ is_positive L i;
    once = distinct_filter is_positive L total.once;
    few = length-keep is_positive L;
    rest = λ x i t. inl (keep← is_positive i t);
  }

  abbrev last : Unfounded
  last = unfounded (length (filter is_positive L)) (filter is_positive L) (omega arith) first-pending

  -- where all rules are heeded and all atoms supported

  module _ (rules : (r : Rule) → r ∈ P → Heeded r) (atoms : (x : ℤ) → x ∈ L → Supported x) where
    one-head : {h k : ℤ} (hs : List ℤ) → length hs ≤ 1 → h ∈ hs → k ∈ hs → h ≡ k
    one-head [] l i j = elim i [ ]
    one-head (x ∷ []) l (Memᴰ.head p) (Memᴰ.head q) = p ∙ sym q
    one-head (x ∷ []) l (Memᴰ.head p) (Memᴰ.tail j) = elim j [ ]
    one-head (x ∷ []) l (Memᴰ.tail i) j = elim i [ ]
    one-head (x ∷ y ∷ hs) l i j = absurd (omega arith)

    no-head : {h : ℤ} {hs : List ℤ} → hs ≡ [] → h ∈ hs → ⊥
    no-head e i = elim (rw e at i) [ ]

    in-least : {a : ℕ} → LeastModel M P a → M a
    in-least (derive {h = a} r m t g b) = by r.kind refl g.1 (holds r m (λ c i. in-least (b c i), t))
      where
        by : (k : Kind) → r.kind ≡ k → Chosen M k a → Holds L r.body → M a
        by Normal e c h = let y = rules r m e h in Memᴰ.cast (one-head r.heads (wf.single r m e) g.0 y.1) y.2
        by Choice e c h = c

    pub answer : ((x : ℤ) → ¬ (x ∈ last.X)) → AnswerSet M P
    answer f = record {
      least = λ a. (λ i. elim (last.pending.rest (pos a) i (pos-positive a (total.within (pos a) i).0)) [ inl u ↦ absurd (f (pos a) u) | inr d ↦ d ], in-least);
      kept = λ r m c t. let y = rules r m c.0 (holds r m t) in no-head c.1 y.1;
    }

    pub edge : {a x : ℤ} (r : Rule) → r ∈ P → a ∈ r.body → x ∈ r.heads → T (is_edge P a x)
    edge {a} {x} r m i j = (any-decides (λ r. and-decides (has-decides a r.body) (has-decides x r.heads)) P).from (r, m, (i, j))

    pub before : (x : ℤ) → x ∈ last.X → (a : ℤ) × (a ∈ last.X) × T (is_edge P a x)
    before x i =
        let p = last.pending.part x i in
        let s = atoms x p.0 p.1 in
        let y = last.leaning x i s.0 s.1 s.2 s.3 in
        (y.0, y.2, edge s.0 s.1 y.1 s.2)

    abbrev bad : (x : ℤ) → x ∈ last.X → BadLoop P L
    bad x i = let c = component P last.X before x i in record {
      set = filter c.0 last.X;
      some = c.1.some;
      once = distinct_filter c.0 last.X last.pending.once;
      few = omega (arith, length-keep c.0 last.X, last.pending.few);
      positive = λ y j. (last.pending.part y (keep→ c.0 last.X j).0).1;
      listed = λ y j. (last.pending.part y (keep→ c.0 last.X j).0).0;
      loop = c.1.loop;
      without = λ r m t. without c.0 c.1 r m t;
    }
      where
        without : (f : ℤ → Bool) → Component P last.X (filter f last.X) → (r : Rule) → r ∈ P → T (is_external (filter f last.X) r)
            → Fails L r.body
        without f c r m t = by (body-cases r m)
          where
            U : List ℤ
            U = filter f last.X

            by : Holds L r.body ⊎ Fails L r.body → Fails L r.body
            by (inr g) = g
            by (inl h) =
                let d = (and-decides (any-decides (λ x. has-decides x U) r.heads) (not-decides (any-decides (λ x. has-decides x U) r.body))).to t in
                let k = d.0.0 in
                let y = last.leaning k (keep→ f last.X d.0.2).0 r m d.0.1 h in
                absurd (d.1 (y.0, y.1, c.closed y.0 k d.0.2 y.2 (edge r m y.1 d.0.1)))

    abbrev found : AnswerSet M P ⊎ Bad P L
    found = by last.X refl
      where
        by : (X : List ℤ) → last.X ≡ X → AnswerSet M P ⊎ Bad P L
        by [] e = inl (answer (λ x i. elim (rw e at i) [ ]))
        by (x ∷ X) e = inr (loop (bad x (rw e (Memᴰ.head refl))))

  -- an assignment is an answer set, or it goes against something
  abbrev pub leaf : AnswerSet M P ⊎ Bad P L
  leaf = by (either-all P heeded) (either-all L supported)
    where
      by : ((r : Rule) → r ∈ P → Heeded r) ⊎ BadRule P L → ((x : ℤ) → x ∈ L → Supported x) ⊎ BadAtom P L → AnswerSet M P ⊎ Bad P L
      by (inl f) (inl g) = found f g
      by (inl f) (inr b) = inr (atom b)
      by (inr b) s = inr (rule b)
