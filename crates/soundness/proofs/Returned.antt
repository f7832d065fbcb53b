-- What the services for C say of a program over its text: each returns 0 of its passing answer and of no other, and the
-- numbers at the front of the lent buffer are that answer's. `sound-returned`, `sound-long-returned`, `yes-returned`,
-- `sound-split-returned`, `yes-split-returned`, `cheapest-returned`, and of no other text do they: `only-returned`,
-- `only-long-returned`, `only-cheapest-returned`.
-- Assumes nothing.
use mathlib.Core.Path.{◌≡◌, refl, sym, ◌∙◌, ap, subst}
use mathlib.Core.Option.{Option, none, some}
use mathlib.Core.List.{List, [], ◌∷◌}
use Prim.Native.Nat.{ℕ, ◌-◌}
use native.Mathlib.Omega.{arith}
use lib.Dec.{eqb, leb}
use lib.IntN.{ℤ}
use lib.ListN.{length, take}
use lib.Seq.{sets}
use Rattle.words.specs.Limits.{entries, most_literals}
use Rattle.words.specs.Lists.{ascends}
use Rattle.words.proofs.Lists.{zero_one, by-test}
use Rattle.weights.specs.Weights.{most_weight}
use Rattle.aspif.specs.Rules.{InputRule, atoms}
use Rattle.aspif.specs.Reading.{Reading, refused, program, read_text_within, read_text, program_answer, ProgramRead}
use Rattle.aspif.specs.Tables.{rules_of}
use Rattle.aspif.specs.Text.{program_text}
use Rattle.marks.specs.Marks.{listed}
use Rattle.answer_set.specs.SetTest.{SetVerdict, yes, differs, breaks, verdict_of, asked_of, asked, said_of, set_answer}
use Rattle.answer_set.specs.declared.SetAnswer.{SetAnswer}
use Rattle.answer_set.specs.declared.SetAnswer.TheVariants.{Yes}
use Rattle.answer_set.specs.declared.SetFault.{SetFault}
use Rattle.derivation.specs.Steps.{empty_live}
use Rattle.runs.specs.Course.{Course, stopped, through}
use Rattle.checker.specs.Check.{CheckedTexts, CheckedLong}
use Rattle.checker.specs.declared.Counts.{Counts}
use Rattle.checker.specs.declared.Verdict.{Verdict}
use Rattle.checker.specs.declared.Verdict.TheVariants.{Inconsistent, Open, RefusedProgram, RefusedProof}
use Rattle.costs.specs.Costs.{Cost, costs_of, good_costs, total}
use Rattle.cheapest.specs.Service.{CheapestAnswer, is_yes, restricted_course, CheapestLeft, leaves_nothing, judged_proof, with_cost, with_costs, cheapest_reading, cheapest, CheckedCheapest}
use Rattle.aspif.specs.declared.Refusal.TheVariants.{Service}
use Rattle.cheapest.specs.declared.CheapestFault.{CheapestFault}
use Rattle.cheapest.specs.declared.CheapestFault.TheVariants.{WrongSet, WrongCosts, NotCertified}
use Rattle.sums.specs.Levels.{split_program, sorted_groups}
use Rattle.long_sums.specs.Service.{split_into, SplitLeft, is_group_size, is_writable, split_reading, split_text, SplitSums}
use Rattle.exports.specs.Services.{ProgramService, CheapestService, SplitService}
use Rattle.exports.specs.Codes.{Told, program_code, program_numbers, set_code, verdict_code, verdict_numbers, cheapest_code, cheapest_numbers, split_code, split_numbers}
use Rattle.soundness.specs.Page.{IsCheapest, SoundReturned, OnlyReturned, SoundLongReturned, OnlyLongReturned, YesReturned, SoundSplitReturned, SoundSplitLongReturned, YesSplitReturned, FoundSplitReturned, OnlySplitReturned, CheapestReturned, OnlyCheapestReturned}
use Rattle.aspif.specs.Numbers.{number_of}
use Rattle.soundness.proofs.Numbers.{numbered}
use Rattle.soundness.proofs.Printed.{sound-printed, only-printed, sound-long, only-long, yes-printed}
use Rattle.soundness.proofs.Split.{sound-split, sound-split-long, yes-split, only-split, found-split}
use Rattle.soundness.proofs.Cheapest.{cheapest-printed, only-cheapest}
use Rattle.std.specs.Prelude.{Result, Ok, Err}

-- The whole check

is-inconsistent : (v : Verdict) → 0 ≡ verdict_code v → (c : Counts) × (v ≡ Inconsistent c)
is-inconsistent (Inconsistent c) e = (c, refl)
is-inconsistent (Open c) e = absurd (zero_one e)
is-inconsistent (RefusedProgram r) e = absurd (omega arith)
is-inconsistent (RefusedProof r) e = absurd (omega arith)

-- where 0 is returned, the check said "inconsistent", whatever it says of a verdict
checked-so : (A : Verdict → Type 0) {answer answer' : List ℕ} (v : Verdict) → A v → Told (verdict_code v) (verdict_numbers v) answer answer' 0
    → (c : Counts) × A (Inconsistent c)
checked-so A v a t = let w = is-inconsistent v t.returned in (w.0, subst A w.1 a)

pub sound-returned : SoundReturned
sound-returned ws proof table store table' store' answer answer' s =
    let c = checked-so (CheckedTexts (program_text ws) proof table store table' store') s.verdict s.checked s.told in
    sound-printed ws proof table store table' store' c.0 c.1

pub only-returned : OnlyReturned
only-returned text proof table store table' store' answer answer' s =
    let c = checked-so (CheckedTexts text proof table store table' store') s.verdict s.checked s.told in
    only-printed text proof table store table' store' c.0 c.1

pub sound-long-returned : SoundLongReturned
sound-long-returned ws proof table store table' store' memory memory' answer answer' s =
    let c = checked-so (CheckedLong (program_text ws) proof table store table' store' memory memory') s.verdict s.checked s.told in
    sound-long ws proof table store table' store' memory memory' c.0 c.1

pub only-long-returned : OnlyLongReturned
only-long-returned text proof table store table' store' memory memory' answer answer' s =
    let c = checked-so (CheckedLong text proof table store table' store' memory memory') s.verdict s.checked s.told in
    only-long text proof table store table' store' memory memory' c.0 c.1

-- The set test

-- what is written at the front of a buffer that then begins with these
front-one : {x y : ℕ} (before : List ℕ) {more : List ℕ} → y ∷ more ≡ sets before 0 (x ∷ []) → y ≡ x
front-one [] e = absurd (zero_one (cc))
front-one (b ∷ before) e = cc

front-two : {x y u v : ℕ} (before : List ℕ) {more : List ℕ} → u ∷ v ∷ more ≡ sets before 0 (x ∷ y ∷ []) → (u ≡ x) × (v ≡ y)
front-two [] e = absurd (zero_one (cc))
front-two (b ∷ []) e = absurd (zero_one (cc))
front-two (b ∷ c ∷ before) e = (cc, cc)

-- the program that was read is told by 0, N and R
is_read : (x : Reading) → 0 ≡ program_code (program_answer x) → (before : List ℕ) {more : List ℕ} {N R : ℕ}
    → N ∷ R ∷ more ≡ sets before 0 (program_numbers (program_answer x)) → program_answer x ≡ Ok (record { atoms = N; rules = R })
is_read (refused k n) e before w = absurd (let q : 0 ≡ number_of k = e in omega (arith, q, numbered k))
is_read (program rs) e before w = let f = front-two before w in rw (f.0, f.1) refl

-- an answer of which 0 is returned is yes
abbrev OnlyYes : Result SetAnswer SetFault → Type 0
OnlyYes a = set_code a ≡ 0 → a ≡ Ok Yes

said-only : (v : SetVerdict) → OnlyYes (Ok (said_of v))
said-only yes e = refl
said-only (differs v) e = absurd (omega arith)
said-only (breaks k) e = absurd (omega arith)

asked-only : (o : Option (List InputRule)) (l : List ℕ) (n : ℕ) → OnlyYes (set_answer l (asked_of o l n))
asked-only none l n = λ e. absurd (omega arith)
asked-only (some rs) l n =
    by-test (λ a. OnlyYes (set_answer l a)) (ascends 0 (atoms rs) l)
    (λ p. by-test (λ a. OnlyYes (set_answer l a)) (eqb n entries) (λ q. said-only (verdict_of (listed l) rs)) (λ q e. absurd (omega arith)))
    (λ p e. absurd (omega arith))

answer-only : (table : List ℤ) (R : ℕ) (l : List ℕ) (n : ℕ) → OnlyYes (set_answer l (asked table R l n))
unfolding asked
answer-only table R l n = asked-only (rules_of table R) l n

-- where 0 is returned, the numbers at the front of the buffer are those of the program that was read
read-so : {text : List ℕ} {table table' : List ℤ} {before more : List ℕ} {N R : ℕ}
    → ProgramService text table table' before (N ∷ R ∷ more) 0 → ProgramRead text table table' (Ok (record { atoms = N; rules = R }))
read-so {text} {table} {table'} {before} {N = N} {R = R} s =
    let x = read_text (length table) text in
    let q : program_answer x ≡ s.reading = sym s.read.answer in
    let taken : program_answer x ≡ Ok (record { atoms = N; rules = R }) =
    is_read x (s.told.returned ∙ ap program_code (sym q)) before (s.told.written ∙ ap (λ r. sets before 0 (program_numbers r)) (sym q)) in
    subst (ProgramRead text table table') (sym q ∙ taken) s.read

pub yes-returned : YesReturned
yes-returned ws table table' before more N R s l marks marks' answer answer' code t =
    let a = set_answer l (asked table' R l (length marks)) in
    let y = yes-printed ws table table' N R (read-so s) l marks marks' a (record { answer = refl; marks = t.left }) in
    (λ e. y.0 (answer-only table' R l (length marks) (sym t.told.returned ∙ e)), λ m. t.told.returned ∙ ap set_code (y.1 m))

-- Sums of up to 64 literals

-- an outcome of which 0 is returned is a text that was written
abbrev WrittenOnly : SplitLeft → Type 0
WrittenOnly x = 0 ≡ split_code x.answer → (b : ℕ) × (a : ℕ) × (r : ℕ) × (n : ℕ) × (x.answer ≡ split_into b a r n)

module _ (t o g : ℕ) where
  reading-split : (x : Reading) → WrittenOnly (split_reading t o g x)
  reading-split (refused k n) = λ e. absurd (let q : 0 ≡ number_of k = e in omega (arith, q, numbered k))
  reading-split (program rs) =
      by-test WrittenOnly (is_group_size g)
      (λ q.
      by-test WrittenOnly (is_writable o (split_program (sorted_groups (g - 1)) rs)) (λ w e. (_, _, _, _, refl)) (λ w e. absurd (omega arith)))
      (λ q e. absurd (omega arith))

  split-only : (text : List ℕ) → WrittenOnly (split_text t o text g)
  unfolding split_text
  split-only text = reading-split (read_text_within most_literals t text)

front-four : {a b c d x y z w : ℕ} (before : List ℕ) {more : List ℕ} → x ∷ y ∷ z ∷ w ∷ more ≡ sets before 0 (a ∷ b ∷ c ∷ d ∷ []) → split_into a b c d ≡ split_into x y z w
front-four [] e = absurd (zero_one (cc))
front-four (_ ∷ []) e = absurd (zero_one (cc))
front-four (_ ∷ _ ∷ []) e = absurd (zero_one (cc))
front-four (_ ∷ _ ∷ _ ∷ []) e = absurd (zero_one (cc))
front-four (_ ∷ _ ∷ _ ∷ _ ∷ before) e = cc

-- where 0 is returned, the numbers at the front of the buffer are the answer's
split-so : {text : List ℕ} {g : ℕ} {table table' : List ℤ} {output output' before more : List ℕ} {b a r n : ℕ}
    → SplitService text g table table' output output' before (b ∷ a ∷ r ∷ n ∷ more) 0 → SplitSums text g table table' output output' (split_into b a r n)
split-so {text} {g} {table} {table'} {output} {output'} {before} s =
    let q : s.answered ≡ (split_text (length table) (length output) text g).answer = ap (λ (x : SplitLeft). x.answer) s.split in
    let p = split-only (length table) (length output) g text (s.told.returned ∙ ap split_code q) in
    let i = q ∙ p.4 in
    subst (SplitSums text g table table' output output') (i ∙ front-four before (s.told.written ∙ ap (λ x. sets before 0 (split_numbers x)) i)) s.split

pub sound-split-returned : SoundSplitReturned
sound-split-returned ws g table table' output output' before more b a r N s proof words store words' store' answer answer' e =
    let c = checked-so (CheckedTexts (take b output') proof words store words' store') e.verdict e.checked e.told in
    sound-split ws g table table' output output' b a r N (split-so s) proof words store words' store' c.0 c.1

pub sound-split-long-returned : SoundSplitLongReturned
sound-split-long-returned ws g table table' output output' before more b a r N s proof words store words' store' memory memory' answer answer' e =
    let c = checked-so (CheckedLong (take b output') proof words store words' store' memory memory') e.verdict e.checked e.told in
    sound-split-long ws g table table' output output' b a r N (split-so s) proof words store words' store' memory memory' c.0 c.1

pub yes-split-returned : YesSplitReturned
yes-split-returned ws g table table' output output' before more b a r N s words words' first rest A R p l marks marks' answer answer' t =
    let y = answer-only words' R l (length marks) (sym t.told.returned) in
    yes-split ws g table table' output output' b a r N (split-so s) words words' A R (read-so p) l marks marks' (record { answer = sym y; marks = t.left })

pub found-split-returned : FoundSplitReturned
found-split-returned ws g table table' output output' before more b a r N s words words' first rest A R p l S =
    let f = found-split ws g table table' output output' b a r N (split-so s) words words' A R (read-so p) l S in (
      f.0,
      f.1,
      λ marks marks' answer answer' code e t.
          t.told.returned
          ∙ ap set_code (f.2 marks marks' (set_answer f.0 (asked words' R f.0 (length marks))) e (record { answer = refl; marks = t.left })),
    )

pub only-split-returned : OnlySplitReturned
only-split-returned text g table table' output output' before more b a r N s = only-split text g table table' output output' b a r N (split-so s)

-- The cheapest answer set

-- an outcome of which 0 is returned passes
abbrev OnlyCheap : CheapestLeft → Type 0
OnlyCheap x = 0 ≡ cheapest_code x.answer → (C : ℕ) × (x.answer ≡ Ok C)

module _ (t s : ℕ) where
  nothing : (k : CheapestFault) → OnlyCheap (leaves_nothing t s (Err (Service k)))
  nothing WrongSet e = absurd (omega arith)
  nothing WrongCosts e = absurd (omega arith)
  nothing NotCertified e = absurd (omega arith)

  judged : (ws : List InputRule) (C : ℕ) (o : Course) → OnlyCheap (judged_proof t s ws C o)
  judged ws C (stopped k n) = nothing NotCertified
  judged ws C (through n z stored) = by-test OnlyCheap (empty_live z) (λ p e. (C, refl)) (λ p. nothing NotCertified)

  with-cost : (ws : List InputRule) (set : List ℕ) (ks : List Cost) (C : ℕ) (proof : List ℕ) → OnlyCheap (with_cost t s ws set ks C proof)
  with-cost ws set ks C proof =
      by-test OnlyCheap (leb C most_weight)
      (λ p. by-test OnlyCheap (is_yes (verdict_of (listed set) ws)) (λ p. by-test OnlyCheap (eqb C 0) (λ p e. (0, refl)) (λ p. judged ws C (restricted_course s ws ks C proof))) (λ p. nothing NotCertified))
      (λ p. nothing WrongCosts)

  with-costs : (ws : List InputRule) (set : List ℕ) (o : Option (List Cost)) (proof : List ℕ) → OnlyCheap (with_costs t s ws set o proof)
  with-costs ws set none proof = nothing WrongCosts
  with-costs ws set (some ks) proof =
      by-test OnlyCheap (good_costs (atoms ws) ks) (λ p. with-cost ws set ks (total (listed set) ks) proof) (λ p. nothing WrongCosts)

  reading-only : (set : List ℕ) (costs : List ℤ) (proof : List ℕ) (x : Reading) → OnlyCheap (cheapest_reading t s set costs proof x)
  reading-only set costs proof (refused k n) = λ e. absurd (let q : 0 ≡ number_of k = e in omega (arith, q, numbered k))
  reading-only set costs proof (program ws) =
      by-test OnlyCheap (ascends 0 (atoms ws) set) (λ p. with-costs ws set (costs_of costs) proof) (λ p. nothing WrongSet)

  cheap-only : (text set : List ℕ) (costs : List ℤ) (proof : List ℕ) → OnlyCheap (cheapest t s text set costs proof)
  unfolding cheapest
  cheap-only text set costs proof = reading-only set costs proof (read_text t text)

-- where 0 is returned, the answer was a cost, and its number stands at the front of the buffer
module _ {text l : List ℕ} {costs : List ℤ} {proof : List ℕ} {table store table' store' : List ℤ} {answer answer' : List ℕ}
    (s : CheapestService text l costs proof table store table' store' answer answer' 0) where
  is-cost : (C : ℕ) × (s.answered ≡ Ok C)
  is-cost =
      let q : s.answered ≡ (cheapest (length table) (length store) text l costs proof).answer = ap (λ (x : CheapestLeft). x.answer) s.checked in
      let p = cheap-only (length table) (length store) text l costs proof (s.told.returned ∙ ap cheapest_code q) in
      (p.0, q ∙ p.1)

  cheapest-so : CheckedCheapest text l costs proof table store table' store' (Ok is-cost.0)
  cheapest-so = subst (λ (r : CheapestAnswer). CheckedCheapest text l costs proof table store table' store' r) is-cost.1 s.checked

  in-front : answer' ≡ sets answer 0 (is-cost.0 ∷ [])
  in-front = s.told.written ∙ ap (λ r. sets answer 0 (cheapest_numbers r)) is-cost.1

pub cheapest-returned : CheapestReturned
cheapest-returned ws l ks proof table store table' store' answer more C s =
    subst (IsCheapest ws ks l) (sym (front-one answer (in-front s))) (cheapest-printed ws l ks proof table store table' store' (is-cost s).0 (cheapest-so s))

pub only-cheapest-returned : OnlyCheapestReturned
only-cheapest-returned text l costs proof table store table' store' answer answer' s =
    only-cheapest text l costs proof table store table' store' (is-cost s).0 (cheapest-so s)
