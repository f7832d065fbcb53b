-- What the loops of the writer cite: bytes put one after another.
-- Assumes nothing.
use mathlib.Core.Path.{◌≡◌, refl, sym, ◌∙◌, ap, ap₂}
use mathlib.Core.Bool.{Bool, true, false, cond, ◌&&◌, true≢false}
use mathlib.Core.Option.{Option, none, some}
use mathlib.Core.List.{List, [], ◌∷◌, ◌++◌, map, append-nil}
use Prim.Native.Nat.{ℕ, zero, suc, ◌+◌, ◌-◌, ◌*◌, ◌/◌, ◌%◌, ◌<◌, ◌≤◌, max}
use native.Mathlib.Omega.{arith}
use borrow.Author.Tests.{ltb-true, leb-true}
use lib.Dec.{leb}
use lib.IntN.{ℤ, pos, negsuc}
use lib.Signed.{lt_z}
use lib.ListN.{length, set, drop, get_or, replicate, drop_of_length-le, length-append}
use lib.Seq.{drop-cons, set_comm, sets, sets-eq, length-sets}
use Rattle.words.proofs.Laws.{drop-replicate}
use Rattle.words.specs.Limits.{longest}
use Rattle.words.specs.Lists.{all}
use Rattle.words.specs.Literals.{variable, top}
use Rattle.words.proofs.Lists.{zero_one, concat-append}
use Rattle.weights.specs.Weights.{paired}
use Rattle.text.specs.declared.Letter.{Letter}
use Rattle.text.specs.Writing.{Put}
use Rattle.text.proofs.Puts.{put_on, put_one, put-none}
use Rattle.aspif.specs.Rules.{plain, weights, InputRule, is_plain_body, is_plain, literals_of, kind_word}
use Rattle.aspif.proofs.RuleTests.{greatest-more}
use Rattle.aspif.specs.Tables.{is_weighted, body_words_at, bound_at, body_at, rule_at, rules_at, sound_table}
use Rattle.drupe.specs.Lines.{LineAt, line, line_at, line_answer, numbers_of, AnswerBounds, ProofLineRead}
use Rattle.drupe.specs.Lines as Lines
use Rattle.drupe.specs.Texts.{Step, StepsRead, steps, steps_of}
use Rattle.drupe.specs.Texts as Texts
use Rattle.drupe.proofs.Lines.{passed-line}
use Rattle.drupe.proofs.Texts.{Walked, walked_start, walked_on, walked_end, walked-refused, short-steps, long-steps}
use Rattle.packets.specs.Bytes.{little, flip_if, signed_bytes, bytes_of}
use Rattle.packets.specs.Packets as Packets
use Rattle.packets.specs.Packets.{limit, mark, packet_rule, has_words, packet_words, step_bytes, steps_bytes, packet_of, steps_top, pair_top, if_fits, PacketWritten, unwritten, written, steps_taken, held, writing, writing_of, writing_answer, packet_left, WritingLeaves}
use Rattle.packets.specs.declared.Version.{Version}
use Rattle.packets.specs.declared.Version.TheVariants.{One, Two}
use Rattle.packets.specs.Writes.{step_room, is_read, steps_read, StepsPutAs, writing_told}
use Rattle.packets.specs.declared.PacketWriting.{PacketWriting}
use Rattle.packets.specs.declared.PacketWriting.TheVariants as Writing
use Rattle.packets.proofs.Littles.{plain-bytes, length-bytes}
use Rattle.drupe.specs.declared.ProofFault.{ProofFault}

-- Of some bytes that are put from `at` on, those before `end` stand in the buffer, and `left` are yet to be put.
pub record Going (whole left before now : List ℕ) (at end : ℕ) : Type 0 where
  pub rest : (after : List ℕ) (next : ℕ) → Put left now after end next → Put whole before after at next

pub going_start : (whole before : List ℕ) (at : ℕ) → Going whole whole before before at at
going_start whole before at = record { rest = λ after next p. p }

-- the first of them are put
pub going_on : {whole xs left before now after : List ℕ} {at end next : ℕ}
    → Going whole (xs ++ left) before now at end → Put xs now after end next → Going whole left before after at next
going_on g p = record { rest = λ after next q. g.rest after next (put_on p q) }

-- none is left
pub going_end : {whole before after : List ℕ} {at end : ℕ} → Going whole [] before after at end → Put whole before after at end
going_end {after = after} {end = end} g = g.rest after end (put-none after end)

pub put-length : {vs before after : List ℕ} {at next : ℕ} → Put vs before after at next → length after ≡ length before
put-length {vs} {before} {at = at} p = ap length p.stands ∙ length-sets before at vs

-- two bytes
pub put_two : (x y : ℕ) {before between after : List ℕ} {at : ℕ} → between ≡ set before at x → after ≡ set between (at + 1) y → Put (x ∷ y ∷ []) before after at (at + 2)
put_two x y {at = at} p q = let e : at + 1 + 1 ≡ at + 2 = omega arith in rw (← e) (put_on {xs = x ∷ []} (put_one x p) (put_one y q))

-- One byte more of a number's

pub little-on : (k n : ℕ) → 0 < k → little k n ≡ n % 256 ∷ little (k - 1) (n / 256)
unfolding little
little-on zero n h = absurd (omega arith)
little-on (suc k) n h = let e : suc k - 1 ≡ k = omega arith in rw e

pub little-end : (k n : ℕ) → k ≤ 0 → little k n ≡ []
unfolding little
little-end zero n h = refl
little-end (suc k) n h = absurd (omega arith)

module _ (t : Bool) (k i n : ℕ) {at : ℕ} {whole before now after : List ℕ} where
  pub byte-on : Going whole (map (flip_if t) (little (k - i) n)) before now at (at + i) → i < k → after ≡ set now (at + i) (flip_if t (n % 256))
      → Going whole (map (flip_if t) (little (k - (i + 1)) (n / 256))) before after at (at + (i + 1))
  byte-on g h e =
      let d : k - i - 1 ≡ k - (i + 1) = omega arith in
      let f : at + i + 1 ≡ at + (i + 1) = omega arith in
      rw (← d, ← f) (going_on {xs = flip_if t (n % 256) ∷ []} (rw (little-on (k - i) n (omega arith)) at g) (put_one (flip_if t (n % 256)) e))

-- the bytes of a word, by its sign
pub negative-bytes : (k : ℕ) (z : ℤ) → lt_z z (pos 0) ≡ true → (0 < variable z) × (signed_bytes k z ≡ map (flip_if true) (little k (variable z - 1)))
unfolding signed_bytes
negative-bytes k (pos n) e = absurd (omega (arith, ltb-true n 0 e))
negative-bytes k (negsuc n) e = let d : suc n - 1 ≡ n = omega arith in (omega arith, rw d)

pub positive-bytes : (k : ℕ) (z : ℤ) → lt_z z (pos 0) ≡ false → signed_bytes k z ≡ map (flip_if false) (little k (variable z))
unfolding signed_bytes
positive-bytes k (pos n) e = refl
positive-bytes k (negsuc n) e = absurd (true≢false e)

-- One number more

pub numbers_on : (k : ℕ) (zs : List ℤ) (i : ℕ) → i < length zs → bytes_of k (drop i zs) ≡ signed_bytes k (get_or zs i (pos 0)) ++ bytes_of k (drop (suc i) zs)
unfolding bytes_of
numbers_on k zs i h = rw (drop-cons zs i (pos 0) h)

pub numbers-none : (k : ℕ) (zs : List ℤ) (i : ℕ) → length zs ≤ i → bytes_of k (drop i zs) ≡ []
unfolding bytes_of
numbers-none k zs i h = rw (drop_of_length-le zs {i = i} h)

pub bytes-append : (k : ℕ) (xs ys : List ℤ) → bytes_of k (xs ++ ys) ≡ bytes_of k xs ++ bytes_of k ys
unfolding bytes_of
bytes-append k xs ys = concat-append (signed_bytes k) xs ys

-- a count is a word that is not negative
pub count-bytes : (k n : ℕ) → signed_bytes k (pos n) ≡ little k n
unfolding signed_bytes
count-bytes k n = plain-bytes (little k n)

-- Rules

-- the words of the body of a rule without a weight body are its literals
pub plain-literals : (ws : List ℤ) → is_plain (rule_at ws) ≡ true → body_words_at ws ≡ literals_of (body_at ws)
unfolding body_at
plain-literals ws = by (is_weighted ws)
  where
    by : (t : Bool) → is_plain_body (cond t (weights (bound_at ws) (paired (body_words_at ws))) (plain (body_words_at ws))) ≡ true
        → body_words_at ws ≡ literals_of (cond t (weights (bound_at ws) (paired (body_words_at ws))) (plain (body_words_at ws)))
    by true e = absurd (true≢false (sym e))
    by false e = refl

module _ {b₀ b₁ b₂ b₃ : List ℕ} {at₀ at₁ at₂ at₃ : ℕ} where
  -- a kind and two counts
  pub counts-put : (w : ℤ) (k h n : ℕ) → w ≡ pos k → Put (little 4 k) b₀ b₁ at₀ at₁ → Put (little 4 h) b₁ b₂ at₁ at₂ → Put (little 4 n) b₂ b₃ at₂ at₃
      → Put (bytes_of 4 (w ∷ pos h ∷ pos n ∷ [])) b₀ b₃ at₀ at₃
  unfolding bytes_of
  counts-put w k h n e p q r = rw (e, count-bytes 4 k, count-bytes 4 h, count-bytes 4 n) (put_on p (put_on q (put_on r (put-none _ _))))

  -- then the heads and the body
  pub rule-put : (r : InputRule) → (let ls = literals_of r.body in Put (bytes_of 4 (kind_word r.kind ∷ pos (length r.heads) ∷ pos (length ls) ∷ [])) b₀ b₁ at₀ at₁
      → Put (bytes_of 4 r.heads) b₁ b₂ at₁ at₂ → Put (bytes_of 4 ls) b₂ b₃ at₂ at₃ → Put (bytes_of 4 (packet_rule One r)) b₀ b₃ at₀ at₃)
  rule-put r p q t =
      let ls = literals_of r.body in
      rw (bytes-append 4 (kind_word r.kind ∷ pos (length r.heads) ∷ pos (length ls) ∷ []) (r.heads ++ ls), bytes-append 4 r.heads ls) (put_on p (put_on q t))

pub rule-on : {whole before now after : List ℕ} {at end next : ℕ} (v : Version) (r : InputRule) (P Q : List InputRule) → P ≡ r ∷ Q
    → Going whole (bytes_of 4 (packet_words v P)) before now at end → Put (bytes_of 4 (packet_rule v r)) now after end next
    → Going whole (bytes_of 4 (packet_words v Q)) before after at next
rule-on v r P Q e g p = going_on (rw (e, bytes-append 4 (packet_rule v r) (packet_words v Q)) at g) p

-- Steps

-- The loop over the proof text stands at a position after n steps, which are put.
pub record Stepping (text before now : List ℕ) (at position n largest end : ℕ) : Type 0 where
  pub done : List Step
  pub walked : Walked text position n done
  pub short : length text ≤ longest
  pub put : Put (steps_bytes done) before now at end
  pub tops : largest ≡ steps_top done
  pub near : end ≤ at + step_room * position
  pub within : position ≤ length text
  pub few : n ≤ position

pub stepping-start : {text : List ℕ} (before : List ℕ) (at : ℕ) → length text ≤ longest → Stepping text before before at 0 0 0 at
stepping-start before at h =
    record { done = []; walked = walked_start; short = h; put = put-none before at; tops = refl; near = omega arith; within = omega arith; few = omega arith }

module _ {text before now : List ℕ} {at position n largest end : ℕ} (S : Stepping text before now at position n largest end) where
  -- one step more
  pub stepping-on : {x : Letter} {zs : List ℤ} {place next most : ℕ} {after : List ℕ} → line_at text position ≡ line x zs place
      → Put (step_bytes (record { letter = x; numbers = zs })) now after end next → next ≤ end + step_room → most ≡ max largest (top zs)
      → Stepping text before after at place (n + 1) most next
  stepping-on {x} {zs} e p h m =
      let t : Step = record { letter = x; numbers = zs } in
      let u = passed-line text position e in
      let a : steps_bytes (S.done ++ (t ∷ [])) ≡ steps_bytes S.done ++ step_bytes t =
      concat-append step_bytes S.done (t ∷ []) ∙ ap (λ (l : List ℕ). steps_bytes S.done ++ l) (append-nil (step_bytes t)) in
      record {
        done = S.done ++ (t ∷ []);
        walked = walked_on S.walked e;
        short = S.short;
        put = rw a (put_on S.put p);
        tops = omega (arith, m, S.tops, greatest-more (λ (t : Step). top t.numbers) S.done t);
        near = omega (arith, S.near, u.0);
        within = u.1;
        few = omega (arith, S.few, u.0);
      }

  pub stepping-end : line_at text position ≡ Lines.end → StepsPutAs (steps_of text) before now at (record { good = true; steps = n; top = largest; end = end })
  stepping-end e = rw (short-steps longest text S.short ∙ walked_end S.walked e) (record { good = refl; count = S.walked.count; largest = S.tops; put = S.put })

  pub stepping-refused : (k : ProofFault) → line_at text position ≡ Lines.refused k → StepsPutAs (steps_of text) before now at (record { good = false; steps = n; top = largest; end = end })
  stepping-refused k e = rw (short-steps longest text S.short ∙ walked-refused S.walked k e) (record { good = refl; count = S.walked.count; largest = S.tops; put = S.put })

-- the text is too long
pub stepping-long : (text before : List ℕ) (at : ℕ) → longest < length text → StepsPutAs (steps_of text) before before at (record { good = false; steps = 0; top = 0; end = at })
stepping-long text before at h =
    rw (long-steps longest text h) (record { good = refl; count = refl; largest = refl; put = put-none before at })

-- The whole packet

-- bytes put before others that stand already
sets-under : (ys l : List ℕ) (i k x : ℕ) → i < k → set (sets l k ys) i x ≡ sets (set l i x) k ys
sets-under [] l i k x h = refl
sets-under (y ∷ ys) l i k x h =
    sets-under ys (set l k y) i (suc k) x (omega arith) ∙ ap (λ (m : List ℕ). sets m (suc k) ys) (set_comm l k i y x (λ e. omega arith))

sets_first : (xs ys l : List ℕ) (i k : ℕ) → i + length xs ≤ k → sets (sets l k ys) i xs ≡ sets (sets l i xs) k ys
sets_first [] ys l i k h = refl
sets_first (x ∷ xs) ys l i k h =
    ap (λ (m : List ℕ). sets m (suc i) xs) (sets-under ys l i k x (omega arith)) ∙ sets_first xs ys (set l i x) (suc i) k (omega arith)

put_first : {xs ys before between after : List ℕ} {at from next : ℕ}
    → Put ys before between from next → Put xs between after at from → Put (xs ++ ys) before after at next
put_first {xs} {ys} {before} {at = at} {from} p q =
    put_on {xs = xs} {ys = ys} {between = sets before at xs} (record { stands = refl; ends = q.ends })
    (record { stands = q.stands ∙ rw p.stands (sets_first xs ys before at from (omega (arith, q.ends))); ends = p.ends })

-- how many bytes a packet has
pub packet-length : (v : Version) (P : List InputRule) (ts : List Step) → length (packet_of v P ts) ≡ 13 + 4 * length (packet_words v P) + length (steps_bytes ts)
unfolding packet_of little
packet-length One P ts = omega (arith, length-append (bytes_of 4 (packet_words One P)) (steps_bytes ts), length-bytes 4 (packet_words One P))
packet-length Two P ts = omega (arith, length-append (bytes_of 4 (packet_words Two P)) (steps_bytes ts), length-bytes 4 (packet_words Two P))

-- the rules, the steps, and the header last, with the words counted by the bytes that they take
pub packet-put : (v : Version) (P : List InputRule) (ts : List Step) (n : ℕ) {b₀ b₁ b₂ b₃ : List ℕ} {middle next : ℕ}
    → Put (bytes_of 4 (packet_words v P)) b₀ b₁ 13 middle → Put (steps_bytes ts) b₁ b₂ middle next → n ≡ length ts
    → Put (mark v ++ (little 4 ((middle - 13) / 4) ++ little 4 n)) b₂ b₃ 0 13 → Put (packet_of v P ts) b₀ b₃ 0 next
unfolding packet_of
packet-put v P ts n {middle = middle} p q e h =
    let w : (middle - 13) / 4 ≡ length (packet_words v P) = omega (arith, p.ends, length-bytes 4 (packet_words v P)) in
    put_first (put_on p q) (rw (w, e) at h)

pub packet-ends : (v : Version) (P : List InputRule) (ts : List Step) {b₀ b₁ b₂ : List ℕ} {middle next : ℕ}
    → Put (bytes_of 4 (packet_words v P)) b₀ b₁ 13 middle → Put (steps_bytes ts) b₁ b₂ middle next → next ≡ length (packet_of v P ts)
packet-ends v P ts p q = omega (arith, p.ends, q.ends, length-bytes 4 (packet_words v P), packet-length v P ts)

-- What the writer comes to

-- of the bytes of a packet, whether its text passes and the version has room for its variables, and whether it fits
abbrev pub by_questions : Bool → Bool → List ℕ → PacketWritten
by_questions good fits bs = cond good (cond fits (written bs) (unwritten 52)) (unwritten 53)

module _ (v : Version) (table : List ℤ) (rules : ℕ) (proof : List ℕ) (size : ℕ) where
  pub no_table : sound_table table rules ≡ false → writing v table rules proof size ≡ unwritten 53
  unfolding writing
  no_table e = rw e

  abbrev pub bytes : List ℕ
  bytes = packet_of v (rules_at rules table) (steps_read (steps_of proof))

  pub no-packet : sound_table table rules ≡ true → all (has_words v) (rules_at rules table) ≡ false → writing v table rules proof size ≡ unwritten 53
  unfolding writing
  no-packet e p = rw e (by (steps_of proof))
    where
      by : (o : StepsRead) → held v size (if_fits v 53 (Packets.paired (some (rules_at rules table)) (steps_taken o))) ≡ unwritten 53
      by (steps us) = rw p
      by (Texts.refused us k n) = refl

  -- the text passes, and there is room for the variables
  abbrev pub good : Bool
  good = is_read (steps_of proof) && leb (pair_top (rules_at rules table) (steps_read (steps_of proof))) (limit v)

  -- the questions that are left of a table that passed
  pub asked : sound_table table rules ≡ true → all (has_words v) (rules_at rules table) ≡ true → writing v table rules proof size ≡ by_questions good (leb (length bytes) size) bytes
  unfolding writing
  asked e p = rw e (by (steps_of proof))
    where
      P : List InputRule
      P = rules_at rules table

      room : (t : Bool) (us : List Step)
          → held v size (cond t (Packets.pair P us) (Packets.refused 53)) ≡ by_questions t (leb (length (packet_of v P us)) size) (packet_of v P us)
      room true us = refl
      room false us = refl

      by : (o : StepsRead) → held v size (if_fits v 53 (Packets.paired (some P) (steps_taken o)))
          ≡ by_questions (is_read o && leb (pair_top P (steps_read o)) (limit v)) (leb (length (packet_of v P (steps_read o))) size) (packet_of v P (steps_read o))
      by (steps us) = rw p (room (leb (pair_top P us) (limit v)) us)
      by (Texts.refused us k n) = refl

pub answer-told : {r : PacketWriting} (good good' : Bool) (size size' room room' : ℕ) → r ≡ writing_told good size (leb size room) → good ≡ good' → size ≡ size' → room ≡ room'
    → r ≡ writing_told good' size' (leb size' room')
answer-told good good' size size' room room' e p q t = rw (← p, ← q, ← t) e

-- a refusal, with zeros
pub refusal-written : {w : PacketWritten} {k : ℕ} (packet after : List ℕ) {r : PacketWriting} → w ≡ unwritten k → r ≡ Writing.Refused k
    → after ≡ replicate (length packet) 0 → WritingLeaves w packet after r
refusal-written packet after e p q = rw e (record { answer = p; bytes = q })

module _ (good fits : Bool) (bs packet after : List ℕ) {w : PacketWritten} {r : PacketWriting} (e : w ≡ by_questions good fits bs) (a : r ≡ writing_told good (length bs) fits) where
  pub zeros-left : (k : ℕ) → r ≡ Writing.Refused k → after ≡ replicate (length packet) 0 → WritingLeaves w packet after r
  zeros-left k q z = rw e (by good fits (sym a ∙ q) a)
    where
      by : (g f : Bool) → writing_told g (length bs) f ≡ Writing.Refused k → r ≡ writing_told g (length bs) f → WritingLeaves (by_questions g f bs) packet after r
      by true true n a = absurd (zero_one (cc))
      by true false n a = record { answer = a; bytes = z }
      by false f n a = record { answer = a; bytes = z }

  pub packet-left : (m : ℕ) {next : ℕ} → r ≡ Writing.Written m → fits ≡ leb (length bs) (length packet) → packet ≡ replicate (length packet) 0
      → Put bs packet after 0 next → WritingLeaves w packet after r
  packet-left m q h z p = rw e (by good fits (sym a ∙ q) a h)
    where
      by : (g f : Bool) → writing_told g (length bs) f ≡ Writing.Written m → r ≡ writing_told g (length bs) f → f ≡ leb (length bs) (length packet)
          → WritingLeaves (by_questions g f bs) packet after r
      by true true n a h =
          let l = leb-true (length bs) (length packet) (sym h) in
          let o : 0 + length bs ≡ length bs = omega arith in
          record {
            answer = a;
            bytes = p.stands ∙ sets-eq bs packet 0 (omega arith) ∙ ap (λ (l : List ℕ). bs ++ l) (ap₂ (λ (n : ℕ) (l : List ℕ). drop n l) o z ∙ drop-replicate (length bs) (length packet) 0);
          }
      by true false n a h = absurd (zero_one (cc))
      by false f n a h = absurd (zero_one (cc))

-- what is left by the writer of the version that is told, of an output of the same length
pub told-written : (o : Option Version) (v : Version) (table : List ℤ) (rules : ℕ) (proof packet zeros : List ℕ) {after : List ℕ} {r : PacketWriting} → o ≡ some v
    → length zeros ≡ length packet → WritingLeaves (writing v table rules proof (length zeros)) zeros after r
    → WritingLeaves (writing_of o table rules proof (length packet)) packet after r
told-written o v table rules proof packet zeros e n l = rw e (record {
  answer = l.answer ∙ ap (λ (k : ℕ). writing_answer (writing v table rules proof k)) n;
  bytes = l.bytes ∙ ap (λ (k : ℕ). packet_left k (writing v table rules proof k)) n;
})

-- no version
pub told-unwritten : (o : Option Version) (table : List ℤ) (rules : ℕ) (proof packet : List ℕ) {after : List ℕ} → o ≡ none → after ≡ replicate (length packet) 0
    → WritingLeaves (writing_of o table rules proof (length packet)) packet after (Writing.Refused 51)
told-unwritten o table rules proof packet e z = rw e (record { answer = refl; bytes = z })
