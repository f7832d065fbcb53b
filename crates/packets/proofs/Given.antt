-- What the reader gives, and what stands in its outputs.
-- Assumes nothing.
use mathlib.Core.Path.{◌≡◌, refl, sym, ◌∙◌, ap, ap₂, subst}
use mathlib.Core.Bool.{Bool, true, false, and-false}
use mathlib.Core.Option.{Option, none, some}
use Rattle.std.specs.Prelude.{Option as Answer, Some, None}
use mathlib.Core.List.{List, ◌++◌}
use Prim.Native.Nat.{ℕ, ◌+◌, ◌<◌, ◌≤◌, max}
use native.Mathlib.Omega.{arith}
use borrow.Author.Tests.{le-leb, lt-leb, ne_eqb}
use lib.Dec.{leb}
use lib.IntN.{ℤ, pos}
use lib.ListN.{length, replicate, length-replicate}
use lib.Seq.{sets, sets-eq}
use Rattle.words.proofs.Laws.{drop-replicate}
use Rattle.words.specs.Limits.{most_rules}
use Rattle.words.proofs.Lists.{zero_one}
use Rattle.words.specs.Lists.{all}
use Rattle.aspif.specs.Rules.{InputRule, all_plain, atoms, program_words}
use Rattle.text.specs.Strings.{starts_with}
use Rattle.drupe.specs.Texts.{Step, text_of}
use Rattle.packets.specs.Bytes.{numbers_from}
use Rattle.packets.specs.Packets.{limit, has_words, mark, steps_top, pair_top, fits, version_of, word_count, step_count, word_part, step_part, lengths_fit, rules_in, steps_in, PacketRead, refused, pair, paired, if_fits, parts_read, pair_in, if_held, reading, reading_of, filled, ReadLeaves}
use Rattle.packets.specs.Parts.{TableTold, TextTold, Parts, Given, Zeros}
use Rattle.packets.specs.declared.PacketReading.{PacketReading}
use Rattle.packets.specs.declared.Version.{Version}
use Rattle.packets.specs.declared.Version.TheVariants.{One, Two}
use Rattle.packets.specs.declared.reader.Part.{Part}
use Rattle.packets.specs.declared.reader.RulesPart.{RulesPart}
use Rattle.packets.proofs.RuleParts.{rules-there}

-- elements written at the front of zeros that hold them
pub zeros-front : {A : Type 0} (z : A) (n : ℕ) (l : List A) → length l ≤ n → sets (replicate n z) 0 l ≡ filled z n l
zeros-front z n l h =
    sets-eq l (replicate n z) 0 (omega (arith, length-replicate n z)) ∙ ap (λ t. l ++ t) (let e : 0 + length l ≡ length l = omega arith in rw e (drop-replicate (length l) n z))

-- elements written onto zeros
onto-zeros : {A : Type 0} (z : A) (l : List A) {before after : List A} → length after ≡ length before → Zeros z before → after ≡ sets before 0 l
    → after ≡ sets (replicate (length after) z) 0 l
onto-zeros z l e y p = p ∙ ap (λ k. sets k 0 l) (y ∙ ap (λ n. replicate n z) (sym e))

-- The largest variable, and the outputs' lengths

module _ (v : Version) (P : List InputRule) (ts : List Step) (worded : all (has_words v) P ≡ true) where
  fitting : pair_top P ts ≤ limit v → fits v P ts ≡ true
  fitting k = rw (worded, le-leb (pair_top P ts) (limit v) k)

  module _ (table_size text_size : ℕ) where
    pub too_large : limit v < pair_top P ts → if_held table_size text_size (if_fits v 53 (pair P ts)) ≡ refused 53
    too_large k = rw (worded, lt-leb (pair_top P ts) (limit v) k)

    module _ (k : pair_top P ts ≤ limit v) where
      pub table-short : table_size < length (program_words P) → if_held table_size text_size (if_fits v 53 (pair P ts)) ≡ refused 52
      table-short h = rw (fitting k, lt-leb (length (program_words P)) table_size h)

      pub text-short : text_size < length (text_of ts) → if_held table_size text_size (if_fits v 53 (pair P ts)) ≡ refused 52
      text-short h = rw (fitting k, lt-leb (length (text_of ts)) text_size h, and-false (leb (length (program_words P)) table_size))

      both-held : length (program_words P) ≤ table_size → length (text_of ts) ≤ text_size
          → if_held table_size text_size (if_fits v 53 (pair P ts)) ≡ pair P ts
      both-held h l = rw (fitting k, le-leb (length (program_words P)) table_size h, le-leb (length (text_of ts)) text_size l)

-- the words and the text stand
pub given : (v : Version) (size rules bytes largest : ℕ) (table : List ℤ) (proof : List ℕ) (P : List InputRule) (ts : List Step)
    → Parts v size rules bytes largest table proof P ts → largest ≤ limit v → size ≤ length table → bytes ≤ length proof
    → ReadLeaves (if_held (length table) (length proof) (if_fits v 53 (pair P ts))) table table proof proof (PacketReading.Read rules bytes)
given v size rules bytes largest table proof P ts k f h l =
    let n : length (program_words P) ≤ length table = omega (arith, k.size_of) in
    let m : length (text_of ts) ≤ length proof = omega (arith, k.bytes_of) in
    rw (both-held v P ts k.worded (length table) (length proof) (rw k.top_of at f) n m) (record {
      answer = ap₂ PacketReading.Read k.rules-of k.bytes_of;
      words = k.table_of ∙ zeros-front (pos 0) (length table) (program_words P) n;
      text = k.text-of ∙ zeros-front 0 (length proof) (text_of ts) m;
    })

-- Both parts

pub table_none : (o : Option (List InputRule)) (before after : List ℤ) {r : Answer RulesPart} → r ≡ None → TableTold o before after r → o ≡ none
table_none none before after e t = refl
table_none (some P) before after e t = absurd (zero_one (let q = sym e ∙ t.0 in cc))

-- what is told of rules that are taken
pub record TableTaken (o : Option (List InputRule)) (before after : List ℤ) (rules words largest : ℕ) (plain : Bool) : Type 0 where
  pub P : List InputRule
  pub there : o ≡ some P
  pub count : rules ≡ length P
  pub size : words ≡ length (program_words P)
  pub atom : largest ≡ atoms P
  pub plainly : plain ≡ all_plain P
  pub stands : after ≡ sets before 0 (program_words P)

pub table-some : (o : Option (List InputRule)) (before after : List ℤ) {r : Answer RulesPart} {x : RulesPart} → r ≡ Some x → TableTold o before after r
    → TableTaken o before after x.rules x.words x.top x.plain
table-some none before after e t = absurd (zero_one (let q = sym e ∙ t in cc))
table-some (some P) before after e t =
    let q = sym e ∙ t.0 in
    record { P = P; there = refl; count = cc; size = cc; atom = cc; plainly = cc; stands = t.1 }

pub text-none : (o : Option (List Step)) (before after : List ℕ) {r : Answer Part} → r ≡ None → TextTold o before after r → o ≡ none
text-none none before after e t = refl
text-none (some ts) before after e t = absurd (zero_one (let q = sym e ∙ t.0 in cc))

pub text-some : (o : Option (List Step)) (before after : List ℕ) {r : Answer Part} {x : Part} → r ≡ Some x → TextTold o before after r
    → (ts : List Step) × ((o ≡ some ts) × ((x.count ≡ length (text_of ts)) × ((after ≡ sets before 0 (text_of ts)) × (x.top ≡ steps_top ts))))
text-some none before after e t = absurd (zero_one (let q = sym e ∙ t in cc))
text-some (some ts) before after {x = x} e t =
    let q = sym e ∙ t.0 in
    let m : x.count ≡ length (text_of ts) = cc in
    let k : x.top ≡ steps_top ts = cc in
    (ts, (refl, (m, (t.1, k))))

-- only the outputs' lengths count
pub read_kept : {read : PacketRead} {table table₁ table' : List ℤ} {proof proof₁ proof' : List ℕ} {r : PacketReading} → length table₁ ≡ length table → length proof₁ ≡ length proof
    → ReadLeaves read table₁ table' proof₁ proof' r → ReadLeaves read table table' proof proof' r
read_kept {read} p q a = record { answer = a.answer; words = rw p at a.words; text = rw q at a.text }

module _ (v : Version) (count : ℕ) (part : List ℕ) (steps : ℕ) (bytes : List ℕ) where
  abbrev ws : List ℤ
  ws = numbers_from 4 count part

  pub no-rules : (before after : List ℤ) {r : Answer RulesPart} → r ≡ None → TableTold (rules_in v ws) before after r → parts_read v count part steps bytes ≡ refused 53
  unfolding parts_read
  no-rules before after e c = rw (table_none (rules_in v ws) before after e c)

  pub no_steps : (before after : List ℕ) {r : Answer Part} → r ≡ None → TextTold (steps_in steps bytes) before after r → parts_read v count part steps bytes ≡ refused 53
  unfolding parts_read
  no_steps before after e c = rw (text-none (steps_in steps bytes) before after e c) (by (rules_in v ws))
    where
      by : (o : Option (List InputRule)) → if_fits v 53 (paired o none) ≡ refused 53
      by none = refl
      by (some P) = refl

  pub both : (table filled table' : List ℤ) (proof after proof' : List ℕ) {x : RulesPart} {y : Part} {top : ℕ} {r : Answer RulesPart} {s : Answer Part} {answer : PacketReading}
      → Zeros (pos 0) table → Zeros 0 proof → length filled ≡ length table → length after ≡ length proof
      → r ≡ Some x → TableTold (rules_in v ws) table filled r → s ≡ Some y → TextTold (steps_in steps bytes) proof after s
      → top ≡ max x.top y.top → Given v x.words x.rules y.count top filled table' after proof' answer
      → ReadLeaves (if_held (length table) (length proof) (parts_read v count part steps bytes)) table table' proof proof' answer
  unfolding parts_read rules_in
  both table filled table' proof after proof' {x} {y} {top} {r} {s} {answer} z w j l p c q t o g =
      let a = table-some (rules_in v ws) table filled p c in
      let b = text-some (steps_in steps bytes) proof after q t in
      let P = a.P in
      let ts = b.0 in
      let k : Parts v x.words x.rules y.count top filled after P ts = record {
        size_of = a.size;
        rules-of = a.count;
        bytes_of = b.1.1.0;
        worded = (rules-there v most_rules ws P a.there).worded;
        top_of = omega (arith, o, a.atom, b.1.1.1.1);
        table_of = onto-zeros (pos 0) (program_words P) j z a.stands;
        text-of = onto-zeros 0 (text_of ts) l w b.1.1.1.0;
      } in
      let u = subst (λ (m : ℕ). ReadLeaves (if_held (length filled) m (if_fits v 53 (pair P ts))) filled table' after proof' answer) l (g P ts k) in
      let e = subst (λ (m : ℕ). ReadLeaves (if_held m (length proof) (if_fits v 53 (pair P ts))) filled table' after proof' answer) j u in
      rw (a.there, b.1.0) (read_kept {table = table} {proof = proof} j l e)

-- The whole packet

module _ (v : Version) (packet : List ℕ) where
  pub no-mark : starts_with (mark v) packet ≡ false → pair_in v packet ≡ refused 51
  unfolding pair_in
  no-mark e = rw e

  module _ (m : starts_with (mark v) packet ≡ true) where
    pub no_lengths : lengths_fit packet ≡ false → pair_in v packet ≡ refused 52
    unfolding pair_in
    no_lengths e = rw (m, e)

    pub parts-left : lengths_fit packet ≡ true → (count : ℕ) (part : List ℕ) (steps : ℕ) (bytes : List ℕ) → count ≡ word_count packet → part ≡ word_part packet
        → steps ≡ step_count packet → bytes ≡ step_part packet → pair_in v packet ≡ parts_read v count part steps bytes
    unfolding pair_in
    parts-left e count part steps bytes a b c d = rw (m, e, a, b, c, d)

-- the packet is refused before the outputs are asked
pub early : (v : Version) (packet : List ℕ) (k : ℕ) {table : List ℤ} {proof : List ℕ} → pair_in v packet ≡ refused k → Zeros (pos 0) table → Zeros 0 proof
    → ReadLeaves (reading v packet (length table) (length proof)) table table proof proof (PacketReading.Refused k)
unfolding reading
early v packet k e z w = rw e (record { answer = refl; words = z; text = w })

-- the parts are read
pub parts-given : (v : Version) (packet : List ℕ) {table table' : List ℤ} {proof proof' : List ℕ} {r : PacketReading} (count : ℕ) (part : List ℕ) (steps : ℕ) (bytes : List ℕ)
    → pair_in v packet ≡ parts_read v count part steps bytes
    → ReadLeaves (if_held (length table) (length proof) (parts_read v count part steps bytes)) table table' proof proof' r
    → ReadLeaves (reading v packet (length table) (length proof)) table table' proof proof' r
unfolding reading
parts-given v packet count part steps bytes e q = rw e q

-- The version that is told

pub told-one : {n : ℕ} → n ≡ 1 → version_of n ≡ some One
told-one e = rw e

pub told-two : {n : ℕ} → n ≡ 2 → version_of n ≡ some Two
told-two e = rw e

pub told-other : {n : ℕ} → (n ≡ 1 → ⊥) → (n ≡ 2 → ⊥) → version_of n ≡ none
told-other {n} p q = rw (ne_eqb n 1 p, ne_eqb n 2 q)

-- what is left by the reader of that version, of outputs of the same lengths
pub told-read : (o : Option Version) (v : Version) (packet : List ℕ) {table table₁ table' : List ℤ} {proof proof₁ proof' : List ℕ} {r : PacketReading} → o ≡ some v
    → length table₁ ≡ length table → length proof₁ ≡ length proof → ReadLeaves (reading v packet (length table₁) (length proof₁)) table₁ table' proof₁ proof' r
    → ReadLeaves (reading_of o packet (length table) (length proof)) table table' proof proof' r
told-read o v packet {table} {proof = proof} e p q l = rw e (read_kept {table = table} {proof = proof} p q (rw (p, q) at l))

-- no version
pub told-nothing : (o : Option Version) (packet : List ℕ) {table table' : List ℤ} {proof proof' : List ℕ} → o ≡ none
    → table' ≡ replicate (length table) (pos 0) → proof' ≡ replicate (length proof) 0
    → ReadLeaves (reading_of o packet (length table) (length proof)) table table' proof proof' (PacketReading.Refused 51)
told-nothing o packet e p q = rw e (record { answer = refl; words = p; text = q })
