-- What a program whose long sums were split says of the program as written: `sound-split`, `sound-split-long`,
-- `yes-split`, `found-split`, `extends-split`; and that what was written is read, `read-split`.
-- Assumes nothing.
use mathlib.Core.Path.{◌≡◌, refl, sym, ◌∙◌, ap, ap₂, subst}
use mathlib.Core.Bool.{Bool, true, false, cond, ◌&&◌}
use mathlib.Core.Logic.{◌↔◌, ◌⊎◌, inl, inr}
use mathlib.Core.List.{List, [], ◌∷◌, ◌++◌}
use Prim.Native.Nat.{ℕ, ◌+◌, ◌-◌, ◌≤◌, ◌<◌}
use native.Mathlib.Omega.{arith}
use borrow.Author.Tests.{leb-true, le-leb}
use lib.Dec.{eqb, leb}
use lib.IntN.{ℤ, pos, negsuc}
use lib.ListN.{length, take, length-append}
use lib.Seq.{take-append_seam}
use Rattle.words.specs.Limits.{largest, longest, widest, most_literals, most_rules}
use Rattle.words.specs.Lists.{◌∈◌, any, ascends}
use Rattle.words.proofs.Lists.{zero_one, and_left, and_right, Decides, reworded, and-decides, or-decides, eqb-decides, leb-decides, any-decides}
use Rattle.text.specs.Decimals.{number_bytes, spaced}
use Rattle.weights.specs.Weights.{pair_words, most_weighted}
use Rattle.marks.specs.Marks.{listed}
use Rattle.aspif.specs.Rules.{Body, plain, weights, InputRule, expand, atoms, bound_words, body_words, rule_words, program_words}
use Rattle.aspif.specs.AnswerSets.{AnswerSet}
use Rattle.aspif.specs.Reading.{Reading, refused, program, read_text_within, read_lines, read_text, program_answer, ProgramRead}
use Rattle.aspif.specs.Claims.{FormedWithin}
use Rattle.aspif.specs.Text.{body_numbers, rule_numbers, rule_text, rules_text, program_text}
use Rattle.aspif.proofs.Formed.{within-fits}
use Rattle.aspif.proofs.Spelled.{within-spelled}
use Rattle.answer_set.specs.declared.SetAnswer.TheVariants.{Yes}
use Rattle.answer_set.proofs.Answered.{listed-decides}
use Rattle.costs.specs.Costs.{total, Holds, Costs}
use Rattle.costs.proofs.Sums.{costs-total, paid, held}
use Rattle.costs.proofs.Found.{ready, seen_by, answers-seen}
use Rattle.derivation.specs.Claims.{NoneAsWritten}
use Rattle.checker.specs.Check.{CheckedWithin}
use Rattle.checker.specs.declared.Counts.{Counts}
use Rattle.checker.specs.declared.Verdict.TheVariants.{Inconsistent}
use Rattle.sums.specs.Levels.{planned, split_program, sorted_groups}
use Rattle.sums.specs.Extension.{Holding, Says, UpTo, Extended}
use Rattle.sums.specs.Plans.{Definition, all_definitions}
use Rattle.sums.proofs.Levels.{program-sound, program-keeps, program-agrees, program-conserves}
use Rattle.sums.proofs.Sorted.{sorted-groups}
use Rattle.sums.proofs.Formed.{split-read}
use Rattle.long_sums.proofs.Answers.{past_first}
use Rattle.long_sums.specs.Service.{split_into, SplitLeft, is_group_size, is_writable, zeroed, written, split_to, split_reading, split_text, SplitSums}
use Rattle.aspif.specs.declared.Refusal.TheVariants.{Service}
use Rattle.long_sums.specs.declared.SplitFault.TheVariants.{WrongGroupSize, TooLarge}
use Rattle.soundness.specs.Page.{IsAnswerSet, HasNone, SoundSplit, SoundSplitLong, YesSplit, FoundSplit, ExtendsSplit, ReadSplit, OnlySplit}
use Rattle.soundness.proofs.Printed.{InOrder, within-in-order, none_within, has-none, kept, as_written, as_read, yes-printed}
use Rattle.soundness.proofs.Direct.{plain-set, direct-set}
use Rattle.std.specs.Prelude.{Result, Ok, Err}
use Rattle.aspif.specs.declared.ProgramCounts.{ProgramCounts}
use Rattle.aspif.specs.declared.ProgramRefusal.{ProgramRefusal}
use Rattle.long_sums.specs.declared.SplitCounts.{SplitCounts}
use Rattle.aspif.specs.declared.ProgramFault.TheVariants.{TooLong}

-- Rules that can be written, as question 66 asks
pub record Writable (vs : List InputRule) : Type 0 where
  pub few : length vs ≤ most_rules
  pub low : atoms vs ≤ largest
  pub short : length (program_text vs) ≤ longest

writable : (o : ℕ) (vs : List InputRule) → is_writable o vs ≡ true → Writable vs
writable o vs e =
    let a = leb (length vs) most_rules in
    let b = leb (atoms vs) largest in
    let c = leb (length (program_text vs)) longest in
    let f = and_right a (b && (c && leb (length (program_text vs)) o)) e in
    let g = and_right b (c && leb (length (program_text vs)) o) f in
    record {
      few = leb-true (length vs) most_rules (and_left a (b && (c && leb (length (program_text vs)) o)) e);
      low = leb-true (atoms vs) largest (and_left b (c && leb (length (program_text vs)) o) f);
      short = leb-true (length (program_text vs)) longest (and_left c (leb (length (program_text vs)) o) g);
    }

-- What the answer tells of the rules that were read and of those that were written
pub record Told (text : List ℕ) (b a r N : ℕ) (rs vs : List InputRule) : Type 0 where
  pub is : text ≡ program_text vs
  pub bytes : b ≡ length (program_text vs)
  pub atoms_are : a ≡ atoms vs
  pub rules : r ≡ length vs
  pub old : N ≡ atoms rs
  pub can : Writable vs

-- The text is that of the rules read with their sums split
pub record Wrote (ws : List InputRule) (text : List ℕ) (b a r N : ℕ) : Type 0 where
  pub rs : List InputRule
  pub order : InOrder ws rs
  pub formed : (r : InputRule) → r ∈ rs → FormedWithin most_literals r
  pub k : ℕ
  pub small : k < most_weighted
  pub told : Told text b a r N rs (split_program (sorted_groups k) rs)

same-split : {b a r n b' a' r' n' : ℕ} → split_into b a r n ≡ split_into b' a' r' n' → (b ≡ b') × (a ≡ a') × (r ≡ r') × (n ≡ n')
same-split {b} {a} {r} {n} {b'} {a'} {r'} {n'} e =
    let c : ◌≡◌ {A = SplitCounts} (record { bytes = b; atoms = a; rules = r; old_atoms = n }) (record { bytes = b'; atoms = a'; rules = r'; old_atoms = n' }) = cc in
    (ap (λ (x : SplitCounts). x.bytes) c, ap (λ (x : SplitCounts). x.atoms) c, ap (λ (x : SplitCounts). x.rules) c, ap (λ (x : SplitCounts). x.old_atoms) c)

module _ (ws : List InputRule) (g : ℕ) (table table' : List ℤ) (output output' : List ℕ) (b a r N : ℕ) where
  abbrev t : ℕ
  t = length table

  abbrev o : ℕ
  o = length output

  abbrev Left : SplitLeft → Type 0
  Left x = record { answer = split_into b a r N; table = table'; output = output' } ≡ x

  abbrev reading : Reading
  reading = read_text_within most_literals t (program_text ws)

  wrote : SplitSums (program_text ws) g table table' output output' (split_into b a r N) → Wrote ws (take b output') b a r N
  unfolding split_text
  wrote = by reading refl
    where
      split-to : (c : Bool) (rs vs : List InputRule) → is_writable o vs ≡ c → Left (cond c (written t o rs vs) (zeroed t o (Err (Service TooLarge)))) → Told (take b output') b a r N rs vs
      split-to true rs vs w e =
          let s = same-split (ap (λ (x : SplitLeft). x.answer) e) in
          record {
            is = ap₂ (λ (n : ℕ) (l : List ℕ). take n l) s.0 (ap (λ (x : SplitLeft). x.output) e) ∙ take-append_seam (program_text vs) _;
            bytes = s.0;
            atoms_are = s.1;
            rules = s.2;
            old = s.3;
            can = writable o vs w;
          }
      split-to false rs vs w e = absurd (zero_one (let q = ap (λ (x : SplitLeft). x.answer) e in cc))

      by_size : (rs : List InputRule) → InOrder ws rs → ((r : InputRule) → r ∈ rs → FormedWithin most_literals r)
          → (c : Bool) → is_group_size g ≡ c → Left (cond c (split_to t o rs (split_program (sorted_groups (g - 1)) rs)) (zeroed t o (Err (Service WrongGroupSize))))
          → Wrote ws (take b output') b a r N
      by_size rs i f true q e =
          let vs = split_program (sorted_groups (g - 1)) rs in
          record {
            rs = rs;
            order = i;
            formed = f;
            k = g - 1;
            small = omega (arith, leb-true 2 g (and_left (leb 2 g) (leb g most_weighted) q), leb-true g most_weighted (and_right (leb 2 g) (leb g most_weighted) q));
            told = split-to (is_writable o vs) rs vs refl e;
          }
      by_size rs i f false q e = absurd (zero_one (let q = ap (λ (x : SplitLeft). x.answer) e in cc))

      by : (x : Reading) → reading ≡ x → Left (split_reading t o g x) → Wrote ws (take b output') b a r N
      by (refused k n) q e = absurd (zero_one (let q = ap (λ (x : SplitLeft). x.answer) e in cc))
      by (program rs) q e =
          by_size rs (within-in-order most_literals t ws rs q) (within-fits most_literals t (program_text ws) rs (past_first most_literals t (program_text ws) rs q)).formed
          (is_group_size g) refl e

-- No rule has more words than bytes

spaced-long : (zs : List ℤ) → length zs ≤ length (spaced zs)
unfolding spaced
spaced-long [] = omega arith
spaced-long (z ∷ zs) = omega (arith, length-append (number_bytes z) (spaced zs), spaced-long zs)

as_many : (hs : List ℤ) (b : Body) → length (bound_words b ++ (hs ++ body_words b)) + 2 ≡ length (hs ++ body_numbers b)
as_many hs (plain ls) = omega (arith, length-append hs ls, length-append hs (pos 0 ∷ pos (length ls) ∷ ls))
as_many hs (weights b ps) = omega (arith, length-append hs (pair_words ps), length-append hs (pos 1 ∷ pos b ∷ pos (length ps) ∷ pair_words ps))

rule-long : (r : InputRule) → length (rule_words r) ≤ length (rule_text r)
unfolding rule_text
rule-long r = omega (arith, as_many r.heads r.body, spaced-long (rule_numbers r), length-append (spaced (rule_numbers r)) (10 ∷ []))

rules-long : (rs : List InputRule) → length (program_words rs) ≤ length (rules_text rs)
unfolding rules_text
rules-long [] = omega arith
rules-long (r ∷ rs) = omega (arith, length-append (rule_words r) (program_words rs), length-append (rule_text r) (rules_text rs), rule-long r, rules-long rs)

text-long : (rs : List InputRule) → length (program_words rs) ≤ length (program_text rs)
unfolding program_text
text-long rs = omega (arith, rules-long rs)

module _ {ws : List InputRule} {text : List ℕ} {b a r N : ℕ} (w : Wrote ws text b a r N) where
  abbrev vs : List InputRule
  vs = split_program (sorted_groups w.k) w.rs

  -- What was written is read, where the table has room for it

  lines : (size : ℕ) → length text ≤ size → read_lines size (program_text vs) ≡ program vs
  lines size h =
      let c = w.told.can in
      split-read w.k w.small w.rs w.formed size c.low c.few (omega (arith, text-long vs, ap length w.told.is))

  pub reads : (size : ℕ) → length text ≤ size → read_text size (program_text vs) ≡ program vs
  unfolding read_text
  reads size h = ap (λ c. cond c (read_lines size (program_text vs)) (refused TooLong 0)) (le-leb (length (program_text vs)) longest w.told.can.short) ∙ lines size h

  -- The whole check

  none-split : NoneAsWritten vs → HasNone ws
  none-split n = has-none w.order (program-sound (sorted_groups w.k) (sorted-groups w.k) w.rs n)

  pub sound-wrote : (limit : ℕ) (proof : List ℕ) (table store table' store' : List ℤ) (c : Counts)
      → CheckedWithin limit text proof table store table' store' (Inconsistent c) → HasNone ws
  sound-wrote limit proof table store table' store' c e =
      none-split (none_within limit vs proof table store table' store' c (subst (λ (l : List ℕ). CheckedWithin limit l proof table store table' store' (Inconsistent c)) w.told.is e))

  -- Answer sets

  pub down_to : (K : ℕ → Type 0) → IsAnswerSet K vs → IsAnswerSet (UpTo N K) ws
  down_to K S =
      let a = program-conserves (sorted_groups w.k) (sorted-groups w.k) w.rs K (plain-set K vs S) in
      as_written w.order (UpTo N K) (subst (λ (n : ℕ). AnswerSet (UpTo n K) (expand w.rs)) (sym w.told.old) a)

  -- an answer set with the new atoms that it makes true
  abbrev with-new : (ℕ → Type 0) → ℕ → Type 0
  with-new M = Extended (atoms w.rs) (all_definitions (planned (sorted_groups w.k) w.rs)) M M

  up_from : (M : ℕ → Type 0) → IsAnswerSet M ws → IsAnswerSet (with-new M) vs × ((a : ℕ) → M a ↔ UpTo N (with-new M) a)
  up_from M S =
      let a = as_read w.order M S in (
        direct-set (with-new M) vs (program-keeps (sorted_groups w.k) (sorted-groups w.k) w.rs M a),
        subst (λ (n : ℕ). (a : ℕ) → M a ↔ UpTo n (with-new M) a) (sym w.told.old) (program-agrees (sorted_groups w.k) (sorted-groups w.k) w.rs M a),
      )

-- Of a set that is listed it is decided which new atoms it makes true

module _ (l : List ℕ) where
  abbrev L : ℕ → Type 0
  L v = v ∈ l

  same-literal : (z : ℤ) → Holds L z ↔ Holding L L z
  same-literal (pos v) = (λ h. h, λ h. h)
  same-literal (negsuc n) = (λ h. h, λ h. h)

  -- what the true literals of a sum weigh
  abbrev weight : Definition → ℕ
  weight d = total (listed l) d.pairs

  weighed : (d : Definition) → Costs L d.pairs (weight d)
  weighed d = costs-total (listed l) L (listed-decides l) d.pairs

  says-decides : (d : Definition) → Decides (leb d.bound (weight d)) (Says (Holding L L) d)
  says-decides d = reworded to from (leb-decides d.bound (weight d))
    where
      to : d.bound ≤ weight d → Says (Holding L L) d
      to h =
          let p = held L d.pairs (weight d) (weighed d) in
          record { part = p.part; of = p.of; hold = λ x i. (same-literal x.literal).0 (p.hold x i); enough = omega (arith, p.cost) }

      from : Says (Holding L L) d → d.bound ≤ weight d
      from r = omega (arith, r.enough, paid L (weight d) r.of (λ x i. (same-literal x.literal).1 (r.hold x i)) (weighed d))

  -- one of the new atoms that holds
  abbrev New : List Definition → ℕ → Type 0
  New D a = (d : Definition) × (d ∈ D) × (d.atom ≡ a) × Says (Holding L L) d

  new-decides : (D : List Definition) (a : ℕ) → Decides (any (λ d. eqb d.atom a && leb d.bound (weight d)) D) (New D a)
  new-decides D a =
      reworded (λ p. (p.0, p.1, p.2.0, p.2.1)) (λ p. (p.0, p.1, (p.2, p.3)))
      (any-decides (λ d. and-decides (eqb-decides d.atom a) (says-decides d)) D)

  decided : (N : ℕ) (D : List Definition) (a : ℕ) → Extended N D L L a ⊎ (¬ Extended N D L L a)
  decided N D a = by _ (or-decides (and-decides (leb-decides a N) (listed-decides l a)) (new-decides D a))
    where
      by : (b : Bool) → Decides b (Extended N D L L a) → Extended N D L L a ⊎ (¬ Extended N D L L a)
      by true i = inl (i.to tt)
      by false i = inr (λ x. i.from x)

pub read-split : ReadSplit
read-split ws g table table' output output' b a r N s words words' c h p =
    let w = wrote ws g table table' output output' b a r N s in
    let q = subst (λ (x : List ℕ). ProgramRead x words words' c) w.told.is p in
    let n : length (take b output') ≤ length words = omega (arith, h, w.told.bytes, ap length w.told.is) in
    let counts : (m k : ℕ) → Result ProgramCounts ProgramRefusal = λ m k. Ok (record { atoms = m; rules = k }) in
    q.answer ∙ ap program_answer (reads w (length words) n) ∙ ap₂ counts (sym w.told.atoms_are) (sym w.told.rules)

pub sound-split : SoundSplit
sound-split ws g table table' output output' b a r N s = sound-wrote (wrote ws g table table' output output' b a r N s) longest

pub sound-split-long : SoundSplitLong
sound-split-long ws g table table' output output' b a r N s proof words store words' store' memory memory' c e =
    sound-wrote (wrote ws g table table' output output' b a r N s) widest proof words store words' store' c e.checked

pub yes-split : YesSplit
yes-split ws g table table' output output' b a r N s words words' A R p l marks marks' t =
    let w = wrote ws g table table' output output' b a r N s in
    let q = subst (λ (x : List ℕ). ProgramRead x words words' (Ok (record { atoms = A; rules = R }))) w.told.is p in
    down_to w (λ v. v ∈ l) ((yes-printed (vs w) words words' A R q l marks marks' (Ok Yes) t).0 refl).2

pub found-split : FoundSplit
found-split ws g table table' output output' b a r N s words words' A R p l S =
    let w = wrote ws g table table' output output' b a r N s in
    let q = subst (λ (x : List ℕ). ProgramRead x words words' (Ok (record { atoms = A; rules = R }))) w.told.is p in
    let h = kept (vs w) words words' A R q in
    let u = up_from w (λ v. v ∈ l) S in
    let T = as_read h.order (with-new w (λ v. v ∈ l)) u.0 in
    let k = seen_by words' R h.rs h.held (with-new w (λ v. v ∈ l)) T
    (λ v i. decided l (atoms w.rs) (all_definitions (planned (sorted_groups w.k) w.rs)) v) in (
      k.set,
      λ v. (λ m. let x = (u.1 v).0 m in (x.0, (k.same v).0 x.1), λ x. (u.1 v).1 (x.0, (k.same v).1 x.1)),
      λ marks marks' c e t.
          (yes-printed (vs w) words words' A R q k.set marks marks' c t).1 (
            subst (λ (n : ℕ). ascends 0 n k.set ≡ true) (sym h.largest) (ready words' R h.rs h.held k.set k.tried).ascending,
            e,
            as_written h.order (λ v. v ∈ k.set) (answers-seen words' R h.rs h.held (with-new w (λ v. v ∈ l)) T k),
          ),
    )

pub extends-split : ExtendsSplit
extends-split ws g table table' output output' b a r N s =
    let w = wrote ws g table table' output output' b a r N s in (vs w, w.told.is, λ M S. let u = up_from w M S in (with-new w M, u.0, u.1))

-- a text whose sums are split was read
pub only-split : OnlySplit
unfolding split_text
only-split text g table table' output output' b a r N = by (read_text_within most_literals (length table) text) refl
  where
    by : (x : Reading) → read_text_within most_literals (length table) text ≡ x
        → record { answer = split_into b a r N; table = table'; output = output' } ≡ split_reading (length table) (length output) g x
        → (ws : List InputRule) × (text ≡ program_text ws)
    by (refused k n) q e = absurd (zero_one (let q = ap (λ (x : SplitLeft). x.answer) e in cc))
    by (program rs) q e = let s = within-spelled most_literals (length table) text rs q in (s.ws, s.is)
