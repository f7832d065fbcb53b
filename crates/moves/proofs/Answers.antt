-- What the first walk tells of a pair, and what the services then answer.
-- Assumes nothing.
use mathlib.Core.Path.{◌≡◌, refl, sym, ◌∙◌, ap, ap₂}
use mathlib.Core.Bool.{Bool, true, false, ◌&&◌}
use mathlib.Core.Option.{some}
use Rattle.std.specs.Prelude.{Option as Answer, Some, None}
use mathlib.Core.List.{List, [], ◌∷◌}
use Prim.Native.Nat.{ℕ, ◌+◌, ◌-◌, ◌*◌, ◌<◌, ◌≤◌, max}
use native.Mathlib.Omega.{arith}
use borrow.Author.Tests.{le-leb, lt-leb}
use lib.Dec.{leb}
use lib.IntN.{ℤ}
use lib.ListN.{length, replicate, length-append}
use lib.Seq.{sets}
use Rattle.words.specs.Limits.{longest, most_rules}
use Rattle.words.specs.Lists.{all}
use Rattle.words.proofs.Lists.{and_left, and_right, zero_one}
use Rattle.text.specs.Decimals.{number_bytes, spaced}
use Rattle.text.specs.Writing.{farthest}
use Rattle.aspif.specs.Rules.{InputRule, all_plain, rule_words, program_words}
use Rattle.drupe.specs.Texts.{Step, step_text, text_of}
use Rattle.packets.specs.Bytes.{numbers_from}
use Rattle.packets.specs.Packets.{limit, has_words, packet_rule, packet_words, step_bytes, steps_bytes, packet_of, pair_top, fits, fills, fewer, rules_in, steps_from, steps_in, PacketRead, refused, pair, paired, if_fits, parts_read, pair_in, held, up}
use Rattle.packets.specs.Parts.{most_words, TableTold, TextTold, Zeros}
use Rattle.packets.specs.Writes.{last_rule_end}
use Rattle.packets.specs.Claims.{Bytes}
use Rattle.packets.specs.declared.Version.{Version}
use Rattle.packets.specs.declared.Version.TheVariants.{One, Two}
use Rattle.packets.specs.declared.PacketWriting.{PacketWriting}
use Rattle.packets.specs.declared.PacketWriting.TheVariants as Writing
use Rattle.packets.specs.declared.reader.Part.{Part}
use Rattle.packets.specs.declared.reader.RulesPart.{RulesPart}
use Rattle.packets.proofs.Littles.{length-bytes}
use Rattle.packets.proofs.StepParts.{StepsThere, steps-there}
use Rattle.packets.proofs.RuleParts.{all-worded, words_more, some_words, RulesThere, rules-there, words-few}
use Rattle.packets.proofs.Given.{zeros-front, table-some, text-some}
use Rattle.packets.proofs.Writes.{packet-length}
use Rattle.packets.proofs.Claims.{fits-pair, both-there, short-steps, taken}
use Rattle.packets.proofs.Moves.{one-two}
use Rattle.moves.specs.Moves.{Holds, PairTold, Movable, PairWritten, Moved}
use Rattle.moves.specs.declared.Measured.{Measured}

-- What a version can hold

module _ {v : Version} (largest n : ℕ) (plain : Bool) (l : n ≡ limit v) where
  pub holds-one : v ≡ One → Holds v largest plain (plain && leb largest n)
  holds-one e P ts p q = rw (l, e, p, q)

  pub holds-two : v ≡ Two → Holds v largest plain (leb largest n)
  holds-two e P ts p q = rw (l, e, p, all-worded P)

-- How many words the rules take

-- in the table they have one more for each, or none
more-words : (w : Version) (P : List InputRule) → all (has_words w) P ≡ true → length (program_words P) ≡ length (packet_words w P) + fewer w * length P
more-words One [] e = refl
more-words One (r ∷ P) e =
    omega (arith, words_more One r (and_left _ _ e), more-words One P (and_right (has_words One r) _ e), length-append (rule_words r) (program_words P), length-append (packet_rule One r) (packet_words One P))
more-words Two P e = omega arith

-- so many words are there, since each has some
pub fewer-within : (w : Version) (P : List InputRule) → fewer w * length P ≤ length (program_words P)
fewer-within Two P = omega arith
fewer-within One [] = omega arith
fewer-within One (r ∷ P) = omega (arith, some_words Two r, fewer-within One P, length-append (rule_words r) (program_words P))

-- What is told of a pair

abbrev measured : ℕ → Bool → Answer Measured
measured n b = Some (record { words = n; fits = b })

-- a packet's parts are refused
pub not-told : (w : Version) {read : PacketRead} → read ≡ refused 53 → PairTold w read None
not-told w e = rw e (refl, refl)

-- both parts are read, with so many rules and words of the table, the largest variable, and whether no rule has a weight body
pub record BothRead (v : Version) (count : ℕ) (part : List ℕ) (steps : ℕ) (bytes : List ℕ) (rules size largest : ℕ) (plain : Bool) : Type 0 where
  pub P : List InputRule
  pub ts : List Step
  pub rules-read : rules_in v (numbers_from 4 count part) ≡ some P
  pub steps-read : steps_in steps bytes ≡ some ts
  pub rules-of : rules ≡ length P
  pub words-of : size ≡ length (program_words P)
  pub top_of : largest ≡ pair_top P ts
  pub plainly : plain ≡ all_plain P

pub both_read : (v : Version) (count : ℕ) (part : List ℕ) (steps : ℕ) (bytes : List ℕ) (table filled : List ℤ) (proof after : List ℕ) {r : Answer RulesPart} {s : Answer Part} {x : RulesPart} {y : Part} {largest : ℕ}
    → r ≡ Some x → TableTold (rules_in v (numbers_from 4 count part)) table filled r → s ≡ Some y → TextTold (steps_in steps bytes) proof after s → largest ≡ max x.top y.top
    → BothRead v count part steps bytes x.rules x.words largest x.plain
both_read v count part steps bytes table filled proof after p c q t o =
    let a = table-some (rules_in v (numbers_from 4 count part)) table filled p c in
    let b = text-some (steps_in steps bytes) proof after q t in
    record {
      P = a.P;
      ts = b.0;
      rules-read = a.there;
      steps-read = b.1.0;
      rules-of = a.count;
      words-of = a.size;
      top_of = omega (arith, o, a.atom, b.1.1.1.1);
      plainly = a.plainly;
    }

module _ (w : Version) {v : Version} {count : ℕ} {part : List ℕ} {steps : ℕ} {bytes : List ℕ} {rules size largest : ℕ} {plain : Bool}
    (a : BothRead v count part steps bytes rules size largest plain) where
  there : RulesThere v most_rules (numbers_from 4 count part) a.P
  unfolding rules_in
  there = rules-there v most_rules (numbers_from 4 count part) a.P a.rules-read

  pub too_large : limit v < largest → PairTold w (parts_read v count part steps bytes) None
  unfolding parts_read
  too_large h = rw (a.rules-read, a.steps-read, there.worded, lt-leb (pair_top a.P a.ts) (limit v) (omega (arith, a.top_of))) (refl, refl)

  module _ {less : ℕ} (l : less ≡ fewer w) where
    fewer-all : less * rules ≡ fewer w * length a.P
    fewer-all = ap₂ (λ (a b : ℕ). a * b) l a.rules-of

    -- the words that the rules take can be counted
    pub words-room : (less * rules ≤ size) × (size ≤ most_words * most_rules)
    words-room = (omega (arith, fewer-all, fewer-within w a.P, a.words-of), omega (arith, a.words-of, words-few Two a.P there.formed, there.few))

    pub pair-told : {b : Bool} → largest ≤ limit v → Holds w largest plain b → PairTold w (parts_read v count part steps bytes) (Some (record { words = size - less * rules; fits = b }))
    unfolding parts_read
    pair-told k f =
        rw (a.rules-read, a.steps-read, there.worded, le-leb (pair_top a.P a.ts) (limit v) (omega (arith, a.top_of)))
        (size - less * rules, (ap (measured (size - less * rules)) (f a.P a.ts a.top_of a.plainly), λ g. omega (arith, fewer-all, a.words-of, more-words w a.P (and_left _ _ g))))

-- What is answered

-- the packet is refused before it is known what the other version can hold
pub moved-early : (w : Version) (read : PacketRead) (k : ℕ) {output after : List ℕ} → read ≡ refused k → after ≡ replicate (length output) 0
    → Moved w read output after (Writing.Refused k)
moved-early w read k e p = rw e (record { answer = refl; bytes = p })

-- only the output's length counts
pub moved-kept : (w : Version) (read : PacketRead) {output output₁ after : List ℕ} {r : PacketWriting} → length output₁ ≡ length output
    → Moved w read output₁ after r → Moved w read output after r
moved-kept w read p m = record { answer = rw p at m.answer; bytes = rw p at m.bytes }

pub told-refused : (w : Version) (read : PacketRead) {r : Answer Measured} → r ≡ None → PairTold w read r → read ≡ refused 53
told-refused w (refused k) e t = ap refused t.0
told-refused w (pair P ts) e t = absurd (zero_one (let q = sym e ∙ t.1.0 in cc))

-- a pair was read
pub record PairTaken (w : Version) (read : PacketRead) (n : ℕ) (b : Bool) : Type 0 where
  pub P : List InputRule
  pub ts : List Step
  pub is : read ≡ pair P ts
  pub fitting : b ≡ fits w P ts
  pub words : b ≡ true → n ≡ length (packet_words w P)

pub told-taken : (w : Version) (read : PacketRead) {r : Answer Measured} {x : Measured} → r ≡ Some x → PairTold w read r → PairTaken w read x.words x.fits
told-taken w (refused k) e t = absurd (zero_one (let q = sym e ∙ t.1 in cc))
told-taken w (pair P ts) {x = x} e t =
    let q = sym e ∙ t.1.0 in
    let m : x.words ≡ t.0 = cc in
    let f : x.fits ≡ fits w P ts = cc in
    record { P = P; ts = ts; is = refl; fitting = f; words = λ g. m ∙ t.1.1 (sym f ∙ g) }

-- the other version cannot hold it
pub moved-61 : (w : Version) (read : PacketRead) {n : ℕ} {b : Bool} (output : List ℕ) → PairTaken w read n b → b ≡ false → Zeros 0 output
    → Moved w read output output (Writing.Refused 61)
moved-61 w read output a e z = let f = sym a.fitting ∙ e in rw (a.is, f) (record { answer = refl; bytes = z })

-- The steps' bytes are few, since their text is short

numbers-short : (zs : List ℤ) → length zs ≤ length (spaced zs)
unfolding spaced
numbers-short [] = omega arith
numbers-short (z ∷ zs) = omega (arith, numbers-short zs, length-append (number_bytes z) (spaced zs))

step-short : (t : Step) → length (step_bytes t) ≤ 2 * length (step_text t)
unfolding step_text
step-short t = omega (arith, numbers-short t.numbers, length-bytes 2 t.numbers, length-append (spaced t.numbers) (32 ∷ 48 ∷ 10 ∷ []))

steps-short : (ts : List Step) → length (steps_bytes ts) ≤ 2 * length (text_of ts)
unfolding text_of
steps-short [] = omega arith
steps-short (t ∷ ts) = omega (arith, step-short t, steps-short ts, length-append (step_bytes t) (steps_bytes ts), length-append (step_text t) (text_of ts))

-- The other version can hold it
module _ (v w : Version) (count : ℕ) (part : List ℕ) (steps : ℕ) (bytes : List ℕ) {n : ℕ} {b : Bool} (B : Bytes bytes) (f : fills steps bytes ≡ true)
    (a : PairTaken w (parts_read v count part steps bytes) n b) (g : b ≡ true) where
  abbrev ws : List ℤ
  ws = numbers_from 4 count part

  held-there : fits w a.P a.ts ≡ true
  held-there = sym a.fitting ∙ g

  both-parts : (rules_in v ws ≡ some a.P) × (steps_in steps bytes ≡ some a.ts)
  unfolding parts_read
  both-parts = both-there (rules_in v ws) (steps_in steps bytes) a.P a.ts (fits-pair v 53 (paired (rules_in v ws) (steps_in steps bytes)) a.P a.ts a.is).0

  rules-are : RulesThere v most_rules ws a.P
  unfolding rules_in
  rules-are = rules-there v most_rules ws a.P both-parts.0

  short : (steps_from steps bytes ≡ some a.ts) × (length (text_of a.ts) ≤ longest)
  unfolding steps_in
  short = short-steps (steps_from steps bytes) a.ts both-parts.1

  steps-are : StepsThere steps bytes a.ts
  steps-are = steps-there steps bytes a.ts f short.0

  bytes-are : bytes ≡ steps_bytes a.ts
  bytes-are = steps-are.bytes B

  pub movable : Movable v w ws
  movable = (a.P, (both-parts.0, and_left _ _ held-there))

  pub few_bytes : last_rule_end + length bytes ≤ farthest
  few_bytes = omega (arith, ap length bytes-are, steps-short a.ts, short.1)

  pub few_words : n ≤ most_words * most_rules
  few_words = omega (arith, a.words g, words-few w a.P rules-are.formed, rules-are.few)

  pub size_is : 13 + 4 * n + length bytes ≡ length (packet_of w a.P a.ts)
  size_is = omega (arith, packet-length w a.P a.ts, a.words g, ap length bytes-are)

  module _ (output : List ℕ) (z : Zeros 0 output) where
    pub moved-52 : length output < 13 + 4 * n + length bytes → Moved w (parts_read v count part steps bytes) output output (Writing.Refused 52)
    moved-52 h = rw (a.is, held-there, lt-leb (length (packet_of w a.P a.ts)) (length output) (omega (arith, size_is))) (record { answer = refl; bytes = z })

    pub moved_all : {after : List ℕ} → 13 + 4 * n + length bytes ≤ length output → PairWritten v w ws bytes steps n output after
        → Moved w (parts_read v count part steps bytes) output after (Writing.Written (13 + 4 * n + length bytes))
    unfolding packet_of
    moved_all {after} h p =
        let k : length (packet_of w a.P a.ts) ≤ length output = omega (arith, size_is) in
        let e : after ≡ sets output 0 (packet_of w a.P a.ts) = p a.P both-parts.0 ∙ rw (a.words g, ← steps-are.count, bytes-are) in
        rw (a.is, held-there, le-leb (length (packet_of w a.P a.ts)) (length output) k) (record {
          answer = ap Writing.Written size_is;
          bytes = e ∙ ap (λ (l : List ℕ). sets l 0 (packet_of w a.P a.ts)) z ∙ zeros-front 0 (length output) (packet_of w a.P a.ts) k;
        })

-- what version 1 holds goes up
pub goes-up : (packet : List ℕ) (size : ℕ) → held Two size (if_fits Two 61 (pair_in One packet)) ≡ up packet size
unfolding up
goes-up packet size = ap (held Two size) (by (pair_in One packet) refl)
  where
    by : (x : PacketRead) → pair_in One packet ≡ x → if_fits Two 61 x ≡ x
    by (refused k) e = refl
    by (pair P ts) e = rw (one-two P ts (taken One packet P ts e).fitting)
