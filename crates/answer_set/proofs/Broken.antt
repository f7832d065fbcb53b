-- The number of a broken constraint that is answered is the lowest, by the rules as written: `lowest-broken`.
-- Assumes nothing.
use mathlib.Core.Path.{◌≡◌, refl, sym, ◌∙◌, ap, subst}
use mathlib.Core.Logic.{◌↔◌}
use mathlib.Core.Bool.{Bool, true, false, cond, true≢false}
use mathlib.Core.List.Memᴰ
use mathlib.Core.List.{List, [], ◌∷◌, ◌++◌}
use Prim.Native.Nat.{ℕ, ◌+◌}
use native.Mathlib.Omega.{arith}
use lib.IntN.{ℤ}
use lib.ListN.{length}
use Rattle.std.specs.Prelude.{Ok}
use Rattle.words.specs.Limits.{entries}
use Rattle.words.specs.Lists.{◌∈◌, ascends}
use Rattle.words.proofs.Lists.{Decides, failed, if-true, is_true, reworded, not-decides, each-cons}
use Rattle.aspif.specs.Rules.{InputRule, bodies_of, with_body, expand_rule, expand, atoms}
use Rattle.aspif.specs.AnswerSets.{Constraint, LeastModel, Met}
use Rattle.aspif.specs.Tables.{ReadAs, rules_of}
use Rattle.aspif.proofs.Readable.{table-read}
use Rattle.marks.specs.Marks.{listed}
use Rattle.answer_set.specs.SetTest.{is_broken, SetVerdict, yes, differs, breaks, broken_from, verdict_of, asked, said_of}
use Rattle.answer_set.specs.Claims.{Listed, Ready, Breaks, LowestRule, LowestBroken}
use Rattle.answer_set.specs.declared.SetAnswer.TheVariants.{Broken}
use Rattle.answer_set.proofs.Answered.{SomeBroken, broken-decides, equal, equal-back, verdict}
use Rattle.answer_set.proofs.Service.{passes, readies, says}

module _ (l : List ℕ) where
  breaks-decides : (w : InputRule) → Decides (is_broken (listed l) w) (Breaks (Listed l) w)
  unfolding expand_rule
  breaks-decides w = reworded to from (broken-decides l w)
    where
      to : SomeBroken l w → Breaks (Listed l) w
      to p = (with_body w p.1.0, Memᴰ.map (with_body w) p.1.1, p.0, p.1.2)

      from : Breaks (Listed l) w → SomeBroken l w
      from b =
          let o = Memᴰ.of_map (with_body w) (bodies_of w.body) b.1 in
          (subst Constraint (sym o.2) b.2, (o.0, o.1, subst (Met (Listed l)) (sym o.2) b.3))

  -- of rules of which the first has the number k + 1
  broken-lowest : (k j : ℕ) (rs : List InputRule) → broken_from (listed l) (k + 1) rs ≡ breaks j → (i : ℕ) × (j ≡ k + i) × LowestRule (Listed l) rs i
  broken-lowest k j [] e = absurd (let z : ◌≡◌ {A = ℕ} 0 1 = cc in omega arith)
  broken-lowest k j (w ∷ rs) e = by (is_broken (listed l) w) refl e (broken-lowest (k + 1) j rs)
    where
      by : (b : Bool) → is_broken (listed l) w ≡ b → cond b (breaks (k + 1)) (broken_from (listed l) (k + 1 + 1) rs) ≡ breaks j
          → (broken_from (listed l) (k + 1 + 1) rs ≡ breaks j → (i : ℕ) × (j ≡ k + 1 + i) × LowestRule (Listed l) rs i) → (i : ℕ) × (j ≡ k + i) × LowestRule (Listed l) (w ∷ rs) i
      by true p q f =
          let s : k + 1 ≡ j = cc in
          (1, sym s, record { before = []; rule = w; after = rs; are = refl; number = refl; broken = if-true (breaks-decides w) p; lowest = λ u i. elim i [ ] })
      by false p q f =
          let r = f q in
          let a = r.2 in (
            r.0 + 1,
            omega (arith, r.1),
            record {
              before = w ∷ a.before;
              rule = a.rule;
              after = a.after;
              are = ap (λ (t : List InputRule). w ∷ t) a.are;
              number = omega (arith, a.number);
              broken = a.broken;
              lowest = each-cons (λ b. true≢false (sym (is_true (breaks-decides w) b) ∙ p)) a.lowest;
            },
          )

  lowest-breaks : (k : ℕ) (before : List InputRule) (w : InputRule) (after : List InputRule) → Breaks (Listed l) w → ((u : InputRule) → u ∈ before → ¬ Breaks (Listed l) u)
      → broken_from (listed l) (k + 1) (before ++ (w ∷ after)) ≡ breaks (k + (length before + 1))
  lowest-breaks k [] w after b f = rw (is_true (breaks-decides w) b) (ap breaks (omega arith))
  lowest-breaks k (u ∷ before) w after b f =
      rw (failed (is_broken (listed l) u) ((not-decides (breaks-decides u)).from (f u (Memᴰ.head refl))))
      (lowest-breaks (k + 1) before w after b (λ x i. f x (Memᴰ.tail i)) ∙ ap breaks (omega arith))

module _ (table : List ℤ) (rules : ℕ) (l : List ℕ) (rs : List InputRule) (ready : Ready table rules l rs) (k : ℕ) where
  abbrev pub Holds : Type 0
  Holds = ((v : ℕ) → Listed l v ↔ LeastModel (Listed l) (expand rs) v) × LowestRule (Listed l) rs k

  pub breaks-lowest : verdict_of (listed l) rs ≡ breaks k → Holds
  breaks-lowest e =
      let w = verdict table rules l rs ready (breaks k) (λ a p. let z : ◌≡◌ {A = ℕ} 0 1 = cc in omega arith) e in
      let r = broken-lowest l 0 k rs w.1 in
      (equal table rules l rs ready w.0, subst (LowestRule (Listed l) rs) (let q : r.0 ≡ k = omega (arith, r.1) in q) r.2)

  breaks-back : Holds → verdict_of (listed l) rs ≡ breaks k
  unfolding verdict_of
  breaks-back p =
      let a = p.1 in
      rw (equal-back table rules l rs ready p.0, a.are, a.number) (lowest-breaks l 0 a.before a.rule a.after a.broken a.lowest ∙ ap breaks (omega arith))

said-broken : (v : SetVerdict) {k : ℕ} → Broken k ≡ said_of v → v ≡ breaks k
said-broken yes e = absurd (let z : ◌≡◌ {A = ℕ} 0 1 = cc in omega arith)
said-broken (differs a) e = absurd (let z : ◌≡◌ {A = ℕ} 0 1 = cc in omega arith)
said-broken (breaks k) e = cc

pub lowest-broken : LowestBroken
unfolding asked
lowest-broken table rules l before after r t k = (there, back)
  where
    Broke : Type 0
    Broke =
        (rs : List InputRule) × ReadAs table rules rs × (ascends 0 (atoms rs) l ≡ true) × (length before ≡ entries)
        × ((v : ℕ) → Listed l v ↔ LeastModel (Listed l) (expand rs) v) × LowestRule (Listed l) rs k

    there : r ≡ Ok (Broken k) → Broke
    there e =
        let p = passes (rules_of table rules) l (length before) (Broken k) (rw e at t.answer) in
        let h = breaks-lowest table rules l p.rs (record { readable = p.is; ascending = p.ascending }) k (said-broken _ p.verdict) in
        (p.rs, (table-read table rules p.rs).0 p.is, p.ascending, p.marks, h.0, h.1)

    back : Broke → r ≡ Ok (Broken k)
    back p = t.answer ∙ says table rules l (length before) p.0 p.1 p.2 p.3 (breaks-back table rules l p.0 (readies table rules l (length before) p.0 p.1 p.2) k (p.4, p.5))
