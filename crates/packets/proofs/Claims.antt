-- The claims of specs/Claims.antt: `reads-back`, `one_form`, `read-sound`, `written-again`; Moves.antt has those of moves.
-- Assumes nothing.
use mathlib.Core.Path.{◌≡◌, refl, sym, ◌∙◌, ap, ap₂, subst}
use mathlib.Core.Bool.{Bool, true, false, cond, ◌&&◌, true≢false}
use mathlib.Core.Option.{Option, none, some, some-injective, none-ne-some}
use mathlib.Core.List.{List, [], ◌∷◌, ◌++◌, append-nil, append_assoc}
use Prim.Native.Nat.{ℕ, ◌+◌, ◌*◌, ◌≤◌}
use native.Mathlib.Omega.{arith}
use borrow.Author.Tests.{le-leb, leb-true, eqb-true}
use lib.Dec.{leb, eqb}
use lib.IntN.{ℤ}
use lib.ListN.{length, take, drop, length-append, length-drop, take-append-drop}
use lib.Seq.{take_at, drop_at, drop-drop, length-take-le}
use Rattle.words.specs.Limits.{longest, most_rules}
use Rattle.words.specs.Lists.{all}
use Rattle.words.proofs.Lists.{and_left, and_right, zero_one}
use Rattle.aspif.specs.Rules.{InputRule, program_words, table_words}
use Rattle.text.specs.Strings.{starts_with}
use Rattle.aspif.specs.Tables.{rules_of}
use Rattle.aspif.proofs.Cursors.{rules-of}
use Rattle.aspif.proofs.Formed.{FitsTable}
use Rattle.aspif.proofs.Readable.{rules-count, table-back, table_fits, table-words}
use Rattle.drupe.specs.Texts.{Step, StepsRead, steps, step_text, text_of, steps_of}
use Rattle.drupe.specs.Texts as Texts
use Rattle.drupe.proofs.Texts.{AllPass, some_byte, steps-exact, read_back}
use Rattle.packets.specs.Bytes.{little, value, bytes_of, numbers_from}
use Rattle.packets.specs.Packets.{has_words, mark, packet_words, steps_bytes, packet_of, fits, word_count, step_count, word_part, step_part, fills, lengths_fit, rules_from, rules_in, steps_from, if_short, steps_in, PacketRead, refused, pair, paired, if_fits, parts_read, pair_in, if_held, reading, unwritten, written, steps_taken, held, writing}
use Rattle.packets.specs.Claims.{WrittenAgain, Bytes, PairOf, ReadsBack, OneForm, ReadSound}
use Rattle.packets.specs.declared.Version.{Version}
use Rattle.packets.specs.declared.Version.TheVariants.{One, Two}
use Rattle.packets.proofs.Littles.{bytes-part, value-little, little-value, length-bytes, numbers-back, length-numbers, numbers-whole}
use Rattle.packets.proofs.StepParts.{fills-back, steps_back, steps-there}
use Rattle.packets.proofs.Decoded.{fit_parts}
use Rattle.packets.proofs.Writes.{packet-length}
use Rattle.packets.proofs.RuleParts.{AllFormed, rules-back, rules-there, words-range, words-few}

-- The mark

mark-size : (v : Version) → length (mark v) ≡ 5
mark-size One = refl
mark-size Two = refl

mark-off : (v : Version) (l : List ℕ) → drop 5 (mark v ++ l) ≡ l
mark-off One l = refl
mark-off Two l = refl

mark-starts : (v : Version) (l : List ℕ) → starts_with (mark v) (mark v ++ l) ≡ true
mark-starts One l = refl
mark-starts Two l = refl

-- The bytes of a pair that passes are read

pub record Sound (v : Version) (P : List InputRule) (ts : List Step) : Type 0 where
  pub few : length P ≤ most_rules
  pub formed : AllFormed P
  pub fitting : fits v P ts ≡ true
  pub passes : AllPass ts
  pub short : length (text_of ts) ≤ longest

-- each step's line has a byte at least
steps-few : (ts : List Step) → length ts ≤ length (text_of ts)
unfolding text_of
steps-few [] = omega arith
steps-few (t ∷ ts) = omega (arith, some_byte t, length-append (step_text t) (text_of ts), steps-few ts)

module _ (v : Version) (P : List InputRule) (ts : List Step) (s : Sound v P ts) where
  abbrev ws : List ℤ
  ws = packet_words v P

  abbrev packet : List ℕ
  packet = packet_of v P ts

  abbrev body : List ℕ
  body = bytes_of 4 ws ++ steps_bytes ts

  abbrev counts : List ℕ
  counts = little 4 (length ws) ++ little 4 (length ts)

  whole : packet ≡ mark v ++ (counts ++ body)
  unfolding packet_of
  whole = append_assoc (mark v) counts body

  marked : starts_with (mark v) packet ≡ true
  marked = rw whole (mark-starts v (counts ++ body))

  off : drop 5 packet ≡ counts ++ body
  off = rw whole (mark-off v (counts ++ body))

  words-stated : word_count packet ≡ length ws
  unfolding little
  words-stated = rw off (value-little 4 (length ws) (omega (arith, words-few v P s.formed, s.few)))

  steps-stated : step_count packet ≡ length ts
  unfolding little
  steps-stated = rw (← drop-drop 4 5 packet, off) (value-little 4 (length ts) (omega (arith, steps-few ts, s.short)))

  after : drop 13 packet ≡ body
  unfolding little
  after = sym (drop-drop 8 5 packet) ∙ ap (drop 8) off

  word-part : word_part packet ≡ bytes_of 4 ws
  word-part = rw (words-stated, after) (take_at (bytes_of 4 ws) (steps_bytes ts) (4 * length ws) (length-bytes 4 ws))

  step_part_lem : step_part packet ≡ steps_bytes ts
  step_part_lem = rw words-stated (sym (drop-drop (4 * length ws) 13 packet) ∙ rw after (drop_at (bytes_of 4 ws) (steps_bytes ts) (4 * length ws) (length-bytes 4 ws)))

  lengths : lengths_fit packet ≡ true
  unfolding lengths_fit
  lengths =
      let n = packet-length v P ts in
      rw (step_part_lem, words-stated, steps-stated, le-leb 13 (length packet) (omega arith), le-leb (13 + 4 * length ws) (length packet) (omega arith)) (fills-back ts)

  rules-read : rules_in v (numbers_from 4 (word_count packet) (word_part packet)) ≡ some P
  unfolding rules_in
  rules-read =
      let e : numbers_from 4 (length ws) (bytes_of 4 ws) ≡ ws = ap (numbers_from 4 (length ws)) (sym (append-nil (bytes_of 4 ws))) ∙ numbers-back 3 ws [] (words-range v P s.formed) in
      rw (word-part, words-stated, e) (rules-back v most_rules P s.formed (and_left (all (has_words v) P) _ s.fitting) s.few)

  steps-read : steps_in (step_count packet) (step_part packet) ≡ some ts
  unfolding steps_in
  steps-read = rw (step_part_lem, steps-stated, steps_back ts s.passes, le-leb (length (text_of ts)) longest s.short)

  pub packet-pair : pair_in v packet ≡ pair P ts
  unfolding pair_in parts_read
  packet-pair = rw (marked, lengths, rules-read, steps-read, s.fitting)

  pub packet-read : (table_size text_size : ℕ) → length (program_words P) ≤ table_size → length (text_of ts) ≤ text_size → reading v packet table_size text_size ≡ pair P ts
  unfolding reading
  packet-read table_size text_size h k = rw (packet-pair, le-leb (length (program_words P)) table_size h, le-leb (length (text_of ts)) text_size k)

-- What the reader takes

-- a pair that is given is the one that was read, and the outputs hold it
held-pair : (table_size text_size : ℕ) (x : PacketRead) (P : List InputRule) (ts : List Step) → if_held table_size text_size x ≡ pair P ts
    → (x ≡ pair P ts) × (length (program_words P) ≤ table_size)
held-pair table_size text_size (refused k) P ts e = absurd (zero_one (cc))
held-pair table_size text_size (pair Q us) P ts e = by (leb (length (program_words Q)) table_size && leb (length (text_of us)) text_size) refl e
  where
    by : (b : Bool) → (leb (length (program_words Q)) table_size && leb (length (text_of us)) text_size) ≡ b → cond b (pair Q us) (refused 52) ≡ pair P ts
        → (pair Q us ≡ pair P ts) × (length (program_words P) ≤ table_size)
    by false k e = absurd (zero_one (cc))
    by true k e =
        let p : Q ≡ P = cc in
        (e, subst (λ (R : List InputRule). length (program_words R) ≤ table_size) p (leb-true (length (program_words Q)) table_size (and_left _ _ k)))

-- of a pair that fits likewise
pub fits-pair : (v : Version) (number : ℕ) (x : PacketRead) (P : List InputRule) (ts : List Step) → if_fits v number x ≡ pair P ts
    → (x ≡ pair P ts) × (fits v P ts ≡ true)
fits-pair v number (refused k) P ts e = absurd (zero_one (cc))
fits-pair v number (pair Q us) P ts e = by (fits v Q us) refl e
  where
    by : (b : Bool) → fits v Q us ≡ b → cond b (pair Q us) (refused number) ≡ pair P ts → (pair Q us ≡ pair P ts) × (fits v P ts ≡ true)
    by false f e = absurd (zero_one (cc))
    by true f e =
        let p : Q ≡ P = cc in
        let q : us ≡ ts = cc in
        (e, sym (ap₂ (fits v) p q) ∙ f)

pub both-there : (o : Option (List InputRule)) (q : Option (List Step)) (P : List InputRule) (ts : List Step) → paired o q ≡ pair P ts
    → (o ≡ some P) × (q ≡ some ts)
both-there none q P ts e = absurd (zero_one (cc))
both-there (some Q) none P ts e = absurd (zero_one (cc))
both-there (some Q) (some us) P ts e =
    let p : Q ≡ P = cc in
    let q : us ≡ ts = cc in
    (ap some p, ap some q)

pub short-steps : (q : Option (List Step)) (ts : List Step) → if_short q ≡ some ts → (q ≡ some ts) × (length (text_of ts) ≤ longest)
short-steps none ts e = absurd (none-ne-some ts e)
short-steps (some us) ts e = by (leb (length (text_of us)) longest) refl e
  where
    by : (b : Bool) → leb (length (text_of us)) longest ≡ b → cond b (some us) none ≡ some ts → (some us ≡ some ts) × (length (text_of ts) ≤ longest)
    by false k e = absurd (none-ne-some ts e)
    by true k e = (e, subst (λ (l : List Step). length (text_of l) ≤ longest) (some-injective _ _ e) (leb-true (length (text_of us)) longest k))

pub record Taken (v : Version) (packet : List ℕ) (P : List InputRule) (ts : List Step) : Type 0 where
  pub marked : starts_with (mark v) packet ≡ true
  pub lengths : lengths_fit packet ≡ true
  pub rules : rules_from v most_rules (numbers_from 4 (word_count packet) (word_part packet)) ≡ some P
  pub steps : steps_from (step_count packet) (step_part packet) ≡ some ts
  pub short : length (text_of ts) ≤ longest
  pub fitting : fits v P ts ≡ true

pub taken : (v : Version) (packet : List ℕ) (P : List InputRule) (ts : List Step) → pair_in v packet ≡ pair P ts → Taken v packet P ts
unfolding pair_in parts_read rules_in steps_in
taken v packet P ts e = by (starts_with (mark v) packet) (lengths_fit packet) refl refl e
  where
    R : PacketRead
    R = parts_read v (word_count packet) (word_part packet) (step_count packet) (step_part packet)

    by : (a b : Bool) → starts_with (mark v) packet ≡ a → lengths_fit packet ≡ b → cond a (cond b R (refused 52)) (refused 51) ≡ pair P ts → Taken v packet P ts
    by false b p q e = absurd (zero_one (cc))
    by true false p q e = absurd (zero_one (cc))
    by true true p q e =
        let o = rules_in v (numbers_from 4 (word_count packet) (word_part packet)) in
        let f = fits-pair v 53 (paired o (steps_in (step_count packet) (step_part packet))) P ts e in
        let h = both-there o (steps_in (step_count packet) (step_part packet)) P ts f.0 in
        let s = short-steps (steps_from (step_count packet) (step_part packet)) ts h.1 in
        record { marked = p; lengths = q; rules = h.0; steps = s.0; short = s.1; fitting = f.1 }

-- what a text starts with
front-is : (front text : List ℕ) → starts_with front text ≡ true → text ≡ front ++ drop (length front) text
front-is [] text e = refl
front-is (x ∷ front) [] e = absurd (true≢false (sym e))
front-is (x ∷ front) (b ∷ text) e =
    ap₂ (λ (a : ℕ) (l : List ℕ). a ∷ l) (eqb-true b x (and_left _ _ e)) (front-is front text (and_right (eqb b x) _ e))

module _ (v : Version) (packet : List ℕ) (P : List InputRule) (ts : List Step) (t : Taken v packet P ts) where
  long : (13 ≤ length packet) × ((13 + 4 * word_count packet ≤ length packet) × (fills (step_count packet) (step_part packet) ≡ true))
  long = fit_parts packet t.lengths

  pub sound : Sound v P ts
  sound =
      let r = rules-there v most_rules _ P t.rules in
      let s = steps-there (step_count packet) (step_part packet) ts long.1.1 t.steps in
      record { few = r.few; formed = r.formed; fitting = t.fitting; passes = s.passes; short = t.short }

  module _ (f : Bytes packet) where
    abbrev w : ℕ
    w = word_count packet

    -- a count is stated by its 4 low bytes
    stated : (at n : ℕ) → at + 4 ≤ length packet → n ≡ value (take 4 (drop at packet)) → little 4 n ≡ take 4 (drop at packet)
    stated at n h e =
        let l : length (take 4 (drop at packet)) ≡ 4 = length-take-le 4 (drop at packet) (omega (arith, length-drop at packet)) in
        let g = (bytes-part 4 (drop at packet) (bytes-part at packet f).1).0 in
        rw e (ap (λ (k : ℕ). little k (value (take 4 (drop at packet)))) (sym l) ∙ little-value (take 4 (drop at packet)) g)

    next : (at n : ℕ) → drop at packet ≡ take n (drop at packet) ++ drop (at + n) packet
    next at n = sym (take-append-drop n (drop at packet)) ∙ ap (λ (l : List ℕ). take n (drop at packet) ++ l) (drop-drop n at packet)

    pub form : packet ≡ packet_of v P ts
    unfolding packet_of
    form =
        let r = rules-there v most_rules _ P t.rules in
        let s = steps-there (step_count packet) (step_part packet) ts long.1.1 t.steps in
        let n : length (packet_words v P) ≡ w = ap length (sym r.words) ∙ length-numbers 4 w (word_part packet) in
        let l : length (word_part packet) ≡ 4 * w = length-take-le (4 * w) (drop 13 packet) (omega (arith, long.1.0, length-drop 13 packet)) in
        let g = (bytes-part 13 packet f).1 in
        let whole : bytes_of 4 (packet_words v P) ≡ word_part packet =
        ap (bytes_of 4) (sym r.words) ∙ numbers-whole 4 w (word_part packet) (omega arith) (bytes-part (4 * w) (drop 13 packet) g).0 ∙ take-all-of (4 * w) (word_part packet) l in
        let a = stated 5 (length (packet_words v P)) (omega (arith, long.0)) n in
        let b = stated 9 (length ts) (omega (arith, long.0)) s.count in
        let c = s.bytes (bytes-part (13 + 4 * w) packet f).1 in
        let A = take 4 (drop 5 packet) in
        let B = take 4 (drop 9 packet) in
        let R = word_part packet ++ step_part packet in
        front-is (mark v) packet t.marked
        ∙ ap (λ (k : ℕ). mark v ++ drop k packet) (mark-size v)
        ∙ ap (λ (l : List ℕ). mark v ++ l) (next 5 4 ∙ ap (λ (l : List ℕ). A ++ l) (next 9 4 ∙ ap (λ (l : List ℕ). B ++ l) (next 13 (4 * w))) ∙ sym (append_assoc A B R))
        ∙ sym (append_assoc (mark v) (A ++ B) R)
        ∙ rw (a, b, whole, ← c)
      where
        take-all-of : (n : ℕ) (l : List ℕ) → length l ≡ n → take n l ≡ l
        take-all-of n l e = ap (take n) (sym (append-nil l)) ∙ take_at l [] n e

-- the reader takes what stands in the packet, where the outputs hold it
pub read-pair : (v : Version) (packet : List ℕ) (table_size text_size : ℕ) (P : List InputRule) (ts : List Step) → reading v packet table_size text_size ≡ pair P ts
    → (pair_in v packet ≡ pair P ts) × (length (program_words P) ≤ table_size)
unfolding reading
read-pair v packet table_size text_size P ts e = held-pair table_size text_size (pair_in v packet) P ts e

pub one_form : OneForm
one_form v packet table_size text_size P ts f e = form v packet P ts (taken v packet P ts (read-pair v packet table_size text_size P ts e).0) f

pub read-sound : ReadSound
read-sound v packet table_size text_size P ts e =
    let r = read-pair v packet table_size text_size P ts e in
    let s = sound v packet P ts (taken v packet P ts r.0) in
    (table-back table_size P (record { formed = s.formed; few = s.few; room = r.1 }), read_back longest ts s.passes s.short, s.fitting)

-- What the writer takes

-- the bytes written are those of the pair that was read
pub held_bytes : (v : Version) (size : ℕ) (x : PacketRead) (packet : List ℕ) → held v size x ≡ written packet
    → (P : List InputRule) × ((ts : List Step) × ((x ≡ pair P ts) × (packet ≡ packet_of v P ts)))
held_bytes v size (refused k) packet e = absurd (zero_one (cc))
held_bytes v size (pair P ts) packet e = by (leb (length (packet_of v P ts)) size) e
  where
    by : (b : Bool) → cond b (written (packet_of v P ts)) (unwritten 52) ≡ written packet
        → (Q : List InputRule) × ((us : List Step) × ((pair P ts ≡ pair Q us) × (packet ≡ packet_of v Q us)))
    by false e = absurd (zero_one (cc))
    by true e = (P, (ts, (refl, cc)))

steps-taken : (o : StepsRead) (ts : List Step) → steps_taken o ≡ some ts → o ≡ steps ts
steps-taken (steps us) ts e = ap steps (some-injective _ _ e)
steps-taken (Texts.refused before k n) ts e = absurd (none-ne-some ts e)

pair-back : (v : Version) (table : List ℤ) (rules : ℕ) (proof bs : List ℕ) (P : List InputRule) (ts : List Step) → rules_of table rules ≡ some P → fits v P ts ≡ true → steps_of proof ≡ steps ts
    → bs ≡ packet_of v P ts
    → PairOf v table rules proof bs
pair-back v table rules proof bs P ts p a q e =
    let r = rules-of table rules P p in
    let s = (steps-exact longest proof ts).0 q in
    let f = subst (FitsTable (length table)) r.1 (table_fits table rules r.0) in
    let sound : Sound v P ts = record { few = f.few; formed = f.formed; fitting = a; passes = s.2; short = rw (sym s.0) s.1 } in
    record {
      P = P;
      ts = ts;
      reads = λ table_size text_size h k. rw e (packet-read v P ts sound table_size text_size h (rw s.0 at k));
      count = ap length (sym r.1) ∙ rules-count rules table;
      words = subst (λ (Q : List InputRule). table ≡ table_words (length table) Q) r.1 (table-words table rules r.0);
      text = s.0;
    }

pub reads-back : ReadsBack
unfolding writing
reads-back v table rules proof room bs e =
    let o = rules_of table rules in
    let q = steps_taken (steps_of proof) in
    let h = held_bytes v room (if_fits v 53 (paired o q)) bs e in
    let P = h.0 in
    let ts = h.1.0 in
    let f = fits-pair v 53 (paired o q) P ts h.1.1.0 in
    let b = both-there o q P ts f.0 in
    pair-back v table rules proof bs P ts b.0 f.1 (steps-taken (steps_of proof) ts b.1) h.1.1.1

pub written-again : WrittenAgain
unfolding writing
written-again v packet table_size text_size size P ts f e h =
    let s = read-sound v packet table_size text_size P ts e in
    let o = one_form v packet table_size text_size P ts f e in
    rw (s.0, s.1, s.2, le-leb (length (packet_of v P ts)) size (rw o at h)) (ap written (sym o))
