-- What the reader's loops over steps cite: the lengths, and one step off the front.
-- Assumes nothing.
use mathlib.Core.Path.{◌≡◌, refl, sym, ◌∙◌, ap, ap₂}
use mathlib.Core.Bool.{Bool, true, false, cond, not, ◌&&◌, ◌||◌, true≢false}
use mathlib.Core.Option.{Option, none, some}
use Rattle.std.specs.Prelude.{Option as Answer, Some, None}
use mathlib.Core.Logic.{inr}
use mathlib.Core.List.{List, [], ◌∷◌, ◌++◌, append-nil}
use Prim.Native.Nat.{ℕ, zero, suc, ◌+◌, ◌-◌, ◌*◌, ◌<◌, ◌≤◌, max}
use native.Mathlib.Omega.{arith}
use borrow.Author.Tests.{le-leb, lt-leb, leb-true, lt-ltb, eq-eqb, ne_eqb}
use lib.Dec.{leb, ltb, eqb}
use lib.IntN.{ℤ, pos}
use lib.ListN.{length, drop, get_or, length-append, length-drop}
use lib.Seq.{drop-drop, length-sets}
use Rattle.words.specs.Limits.{longest, most_numbers}
use Rattle.words.specs.Literals.{has, top}
use Rattle.words.proofs.Lists.{passed, is_true, or-decides, and_left, and_right, zero_one}
use Rattle.text.specs.Bytes.{class_of}
use Rattle.text.specs.Line.{any_outside}
use Rattle.text.specs.Writing.{Put}
use Rattle.text.specs.declared.Letter.{Letter}
use Rattle.text.specs.declared.Class.{Class}
use Rattle.text.proofs.Puts.{put_on, put-none}
use Rattle.aspif.proofs.RuleTests.{greatest-more}
use Rattle.drupe.specs.Lines.{all_passed, line_refusal}
use Rattle.drupe.specs.Texts.{Step, step_text, text_of}
use Rattle.drupe.proofs.Texts.{text-append}
use Rattle.packets.specs.Bytes.{numbers_from}
use Rattle.packets.specs.Packets.{steps_top, word_count, step_count, step_part, fills, lengths_fit, prepend, letter_in, step_passes, step_with, steps_from, if_short, steps_in}
use Rattle.packets.specs.Parts.{step_size, if_passes, step_at, StepTold, TextTold}
use Rattle.packets.specs.declared.reader.Part.{Part}
use Rattle.packets.proofs.RulesRead.{onto, onto-one, onto-none, onto-some}
use Rattle.drupe.specs.declared.ProofFault.TheVariants.{OutOfRange}
use Rattle.drupe.specs.declared.ProofFault.{ProofFault}

-- Steps: lengths

pub size_none : (bs : List ℕ) → length bs < 2 → step_size bs ≡ 0
unfolding step_size
size_none [] h = refl
size_none (x ∷ []) h = refl
size_none (x ∷ c ∷ bs) h = absurd (omega arith)

pub size-short : (bs : List ℕ) → 2 ≤ length bs → length bs < 2 + 2 * get_or bs 1 0 → step_size bs ≡ 0
unfolding step_size
size-short [] h l = absurd (omega arith)
size-short (x ∷ []) h l = absurd (omega arith)
size-short (x ∷ c ∷ bs) h l = rw (lt-leb (2 * c) (length bs) (omega arith))

pub size-there : (bs : List ℕ) → 2 ≤ length bs → 2 + 2 * get_or bs 1 0 ≤ length bs → step_size bs ≡ 2 + 2 * get_or bs 1 0
unfolding step_size
size-there [] h l = absurd (omega arith)
size-there (x ∷ []) h l = absurd (omega arith)
size-there (x ∷ c ∷ bs) h l = rw (le-leb (2 * c) (length bs) (omega arith))

pub size-bytes : (bs : List ℕ) → 0 < step_size bs → (2 ≤ length bs) × (2 + 2 * get_or bs 1 0 ≤ length bs)
unfolding step_size
size-bytes [] h = absurd (omega arith)
size-bytes (x ∷ []) h = absurd (omega arith)
size-bytes (x ∷ c ∷ bs) h = by (leb (2 * c) (length bs)) refl h
  where
    by : (t : Bool) → leb (2 * c) (length bs) ≡ t → 0 < cond t (2 + 2 * c) 0 → (2 ≤ suc (suc (length bs))) × (2 + 2 * c ≤ suc (suc (length bs)))
    by true e h = (omega arith, omega (arith, leb-true (2 * c) (length bs) e))
    by false e h = absurd (omega arith)

pub fills-none : (n : ℕ) (bs : List ℕ) → 0 < n → step_size bs ≡ 0 → fills n bs ≡ false
unfolding fills step_size
fills-none zero bs h e = absurd (omega arith)
fills-none (suc n) [] h e = refl
fills-none (suc n) (x ∷ []) h e = refl
fills-none (suc n) (x ∷ c ∷ bs) h e = by (leb (2 * c) (length bs)) e
  where
    by : (t : Bool) → cond t (2 + 2 * c) 0 ≡ 0 → (t && fills n (drop (2 * c) bs)) ≡ false
    by true e = absurd (omega arith)
    by false e = refl

pub fills-on : (n : ℕ) (bs : List ℕ) → 0 < n → (step_size bs ≡ 0 → ⊥) → fills n bs ≡ fills (n - 1) (drop (step_size bs) bs)
unfolding fills step_size
fills-on zero bs h e = absurd (omega arith)
fills-on (suc n) [] h e = absurd (e refl)
fills-on (suc n) (x ∷ []) h e = absurd (e refl)
fills-on (suc n) (x ∷ c ∷ bs) h e = by (leb (2 * c) (length bs)) e
  where
    by : (t : Bool) → (cond t (2 + 2 * c) 0 ≡ 0 → ⊥) → (t && fills n (drop (2 * c) bs)) ≡ fills (suc n - 1) (drop (cond t (2 + 2 * c) 0) (x ∷ c ∷ bs))
    by true e =
        let p : suc n - 1 ≡ n = omega arith in
        let q : 2 + 2 * c ≡ suc (suc (2 * c)) = omega arith in
        rw (p, q)
    by false e = absurd (e refl)

pub size-within : (bs : List ℕ) → step_size bs ≤ length bs
size-within bs = by (step_size bs) refl
  where
    by : (k : ℕ) → step_size bs ≡ k → k ≤ length bs
    by zero e = omega arith
    by (suc k) e =
        let s = size-bytes bs (omega (arith, e)) in
        omega (arith, e, size-there bs s.0 s.1, s.1)

-- no step is left, and all bytes are passed, or some are left
pub fills-end : (left at : ℕ) (bs : List ℕ) → left ≤ 0 → at ≤ length bs → eqb at (length bs) ≡ fills left (drop at bs)
unfolding fills
fills-end (suc left) at bs z h = absurd (omega arith)
fills-end zero at bs z h = by (drop at bs) (length-drop at bs)
  where
    by : (l : List ℕ) → length l ≡ length bs - at → eqb at (length bs) ≡ fills 0 l
    by [] e = eq-eqb at (length bs) (omega arith)
    by (b ∷ l) e = ne_eqb at (length bs) (λ p. omega arith)

module _ (packet : List ℕ) where
  pub no_header : length packet < 13 → lengths_fit packet ≡ false
  unfolding lengths_fit
  no_header h = rw (lt-leb 13 (length packet) h)

  pub no_words : 13 ≤ length packet → length packet < 13 + 4 * word_count packet → lengths_fit packet ≡ false
  unfolding lengths_fit
  no_words h k = rw (le-leb 13 (length packet) h, lt-leb (13 + 4 * word_count packet) (length packet) k)

  pub steps-left : 13 ≤ length packet → 13 + 4 * word_count packet ≤ length packet → lengths_fit packet ≡ fills (step_count packet) (step_part packet)
  unfolding lengths_fit
  steps-left h k = rw (le-leb 13 (length packet) h, le-leb (13 + 4 * word_count packet) (length packet) k)

  -- what lengths that fit tell
  pub fit_parts : lengths_fit packet ≡ true → (13 ≤ length packet) × ((13 + 4 * word_count packet ≤ length packet) × (fills (step_count packet) (step_part packet) ≡ true))
  unfolding lengths_fit
  fit_parts l =
      let m = and_right (leb 13 (length packet)) _ l in
      (leb-true 13 (length packet) (and_left _ _ l), (leb-true _ (length packet) (and_left _ _ m), and_right (leb (13 + 4 * word_count packet) (length packet)) _ m))

-- Steps: questions 22 to 25

module _ (x : Letter) (zs : List ℤ) where
  pub has-zero : has (pos 0) zs ≡ true → if_passes (some x) zs ≡ none
  unfolding step_passes
  has-zero e = rw e

  pub not_good : all_passed (line_refusal x zs) ≡ false → if_passes (some x) zs ≡ none
  unfolding step_passes
  not_good e = rw e (by (not (has (pos 0) zs)))
    where
      by : (t : Bool) → cond {A = Option Step} (t && false) (some (record { letter = x; numbers = zs })) none ≡ none
      by true = refl
      by false = refl

  pub good : has (pos 0) zs ≡ false → all_passed (line_refusal x zs) ≡ true → if_passes (some x) zs ≡ some (record { letter = x; numbers = zs })
  unfolding step_passes
  good e f = rw (e, f)

  pub too_many : most_numbers < length zs → if_passes (some x) zs ≡ none
  too_many h =
      let d = or-decides (passed (any_outside zs)) (passed (ltb most_numbers (length zs))) in
      not_good (by (any_outside zs || ltb most_numbers (length zs)) _ (is_true d (inr (lt-ltb most_numbers (length zs) h))))
    where
      by : (t : Bool) (o : Answer ProofFault) → t ≡ true → all_passed (cond t (Some OutOfRange) o) ≡ false
      by true o e = refl
      by false o e = absurd (true≢false (sym e))

abbrev taken : ℕ → ℕ → Answer Part
taken n m = Some (record { count = n; top = m })

-- a step that is put is told
pub step-told : (t : Step) {before after : List ℕ} {at end : ℕ} → Put (step_text t) before after at end → StepTold (some t) before after at (Some (record { count = end; top = top t.numbers }))
step-told t p = (ap (λ (n : ℕ). taken n (top t.numbers)) p.ends, record { stands = p.stands; ends = refl })

module _ (bs : List ℕ) (h : 2 ≤ length bs) where
  step-at : step_at bs ≡ if_passes (letter_in (class_of (get_or bs 0 0))) (numbers_from 2 (get_or bs 1 0) (drop 2 bs))
  unfolding step_at
  step-at = by bs h
    where
      by : (l : List ℕ) → 2 ≤ length l → step_at l ≡ if_passes (letter_in (class_of (get_or l 0 0))) (numbers_from 2 (get_or l 1 0) (drop 2 l))
      by [] h = absurd (omega arith)
      by (x ∷ []) h = absurd (omega arith)
      by (x ∷ c ∷ l) h = refl

  pub step-letter : (x : Letter) → class_of (get_or bs 0 0) ≡ Class.Step x → step_at bs ≡ if_passes (some x) (numbers_from 2 (get_or bs 1 0) (drop 2 bs))
  step-letter x e = step-at ∙ ap (λ c. if_passes (letter_in c) (numbers_from 2 (get_or bs 1 0) (drop 2 bs))) e

  pub no-letter : letter_in (class_of (get_or bs 0 0)) ≡ none → step_at bs ≡ none
  no-letter e = step-at ∙ ap (λ o. if_passes o (numbers_from 2 (get_or bs 1 0) (drop 2 bs))) e

-- Steps one after another

pub fills-size : (n : ℕ) (bs : List ℕ) → 0 < n → fills n bs ≡ true → 0 < step_size bs
fills-size n bs h e = by (step_size bs) refl
  where
    by : (k : ℕ) → step_size bs ≡ k → 0 < k
    by zero p = absurd (true≢false (sym e ∙ fills-none n bs h p))
    by (suc k) p = omega arith

-- a step, where there is one, before others
abbrev followed : Option Step → Option (List Step) → Option (List Step)
followed none o = none
followed (some t) o = prepend t o

steps_on : (n : ℕ) (bs : List ℕ) → 0 < n → 0 < step_size bs → steps_from n bs ≡ followed (step_at bs) (steps_from (n - 1) (drop (step_size bs) bs))
unfolding steps_from step_at step_size
steps_on zero bs h s = absurd (omega arith)
steps_on (suc n) [] h s = absurd (omega arith)
steps_on (suc n) (x ∷ []) h s = absurd (omega arith)
steps_on (suc n) (x ∷ c ∷ bs) h s = by (leb (2 * c) (length bs)) s
  where
    ahead : (l : Option Letter) (zs : List ℤ) (o : Option (List Step)) → step_with l zs o ≡ followed (if_passes l zs) o
    ahead none zs o = refl
    ahead (some y) zs o = over (step_passes (record { letter = y; numbers = zs }))
      where
        over : (t : Bool) → cond t (prepend (record { letter = y; numbers = zs }) o) none ≡ followed (cond t (some (record { letter = y; numbers = zs })) none) o
        over true = refl
        over false = refl

    by : (t : Bool) → 0 < cond t (2 + 2 * c) 0
        → step_with (letter_in (class_of x)) (numbers_from 2 c bs) (steps_from n (drop (2 * c) bs))
        ≡ followed (if_passes (letter_in (class_of x)) (numbers_from 2 c bs)) (steps_from (suc n - 1) (drop (cond t (2 + 2 * c) 0) (x ∷ c ∷ bs)))
    by false s = absurd (omega arith)
    by true s =
        let p : suc n - 1 ≡ n = omega arith in
        let q : 2 + 2 * c ≡ suc (suc (2 * c)) = omega arith in
        rw (p, q) (ahead (letter_in (class_of x)) (numbers_from 2 c bs) (steps_from n (drop (2 * c) bs)))

-- After some steps the loop stands at byte i, with so many steps left; their text stands in the output.
pub record Going (bytes : List ℕ) (count : ℕ) (proof₀ proof : List ℕ) (left i end largest : ℕ) : Type 0 where
  pub before : List Step
  pub within : i ≤ length bytes
  pub fits : fills left (drop i bytes) ≡ true
  pub whole : steps_from count bytes ≡ onto before (steps_from left (drop i bytes))
  pub text : Put (text_of before) proof₀ proof 0 end
  pub short : end ≤ longest
  pub tops : largest ≡ steps_top before

pub going_start : (bytes : List ℕ) (count : ℕ) (proof : List ℕ) → fills count bytes ≡ true → Going bytes count proof proof count 0 0 0
unfolding text_of
going_start bytes count proof f = record { before = []; within = omega arith; fits = f; whole = refl; text = put-none proof 0; short = omega arith; tops = refl }

-- what is told of a step
told_none : (o : Option Step) (before after : List ℕ) (at : ℕ) {r : Answer Part} → r ≡ None → StepTold o before after at r → o ≡ none
told_none none before after at e t = refl
told_none (some s) before after at e t = absurd (zero_one (let q = sym e ∙ t.0 in cc))

told-some : (o : Option Step) (before after : List ℕ) (at : ℕ) {r : Answer Part} {x : Part} → r ≡ Some x → StepTold o before after at r
    → (s : Step) × ((o ≡ some s) × (Put (step_text s) before after at x.count × (x.top ≡ top s.numbers)))
told-some none before after at e t = absurd (zero_one (let q = sym e ∙ t in cc))
told-some (some s) before after at {x = x} e t =
    let q = sym e ∙ t.0 in
    let n : x.count ≡ at + length (step_text s) = cc in
    let m : x.top ≡ top s.numbers = cc in
    (s, (refl, (record { stands = t.1.stands; ends = n }, m)))

module _ {bytes : List ℕ} {count : ℕ} {proof₀ proof : List ℕ} {left i end largest : ℕ} (g : Going bytes count proof₀ proof left i end largest) where
  module _ (h : 0 < left) where
    abbrev rest : List ℕ
    rest = drop i bytes

    pub going-size : 0 < step_size rest
    going-size = fills-size left rest h g.fits

    ahead : steps_from count bytes ≡ onto g.before (followed (step_at rest) (steps_from (left - 1) (drop (step_size rest) rest)))
    ahead = g.whole ∙ ap (onto g.before) (steps_on left rest h going-size)

    pub going-refused : (after : List ℕ) {r : Answer Part} → r ≡ None → StepTold (step_at rest) proof after end r → steps_in count bytes ≡ none
    unfolding steps_in
    going-refused after e t =
        ap if_short (ahead ∙ ap (λ o. onto g.before (followed o (steps_from (left - 1) (drop (step_size rest) rest)))) (told_none (step_at rest) proof after end e t) ∙ onto-none g.before)

    -- a step is taken
    module _ (after : List ℕ) {r : Answer Part} {x : Part} (e : r ≡ Some x) (t : StepTold (step_at rest) proof after end r) where
      abbrev s : Step
      s = (told-some (step_at rest) proof after end e t).0

      abbrev more : List Step
      more = g.before ++ (s ∷ [])

      more-text : text_of more ≡ text_of g.before ++ step_text s
      unfolding text_of
      more-text = text-append g.before (s ∷ []) ∙ ap (λ (l : List ℕ). text_of g.before ++ l) (append-nil (step_text s))

      put-more : Put (text_of more) proof₀ after 0 x.count
      put-more = rw more-text (put_on g.text (told-some (step_at rest) proof after end e t).1.1.0)

      on : steps_from count bytes ≡ onto more (steps_from (left - 1) (drop (step_size rest) rest))
      on =
          ahead ∙ ap (λ o. onto g.before (followed o (steps_from (left - 1) (drop (step_size rest) rest)))) (told-some (step_at rest) proof after end e t).1.0
          ∙ onto-one g.before s (steps_from (left - 1) (drop (step_size rest) rest))

      pub going-long : longest < x.count → steps_in count bytes ≡ none
      unfolding steps_in
      going-long k = ap if_short on ∙ by (steps_from (left - 1) (drop (step_size rest) rest))
        where
          by : (o : Option (List Step)) → if_short (onto more o) ≡ none
          by none = ap if_short (onto-none more)
          by (some us) =
              let l : longest < length (text_of (more ++ us)) = omega (arith, put-more.ends, ap length (text-append more us), length-append (text_of more) (text_of us)) in
              ap if_short (onto-some more us) ∙ rw (lt-leb (length (text_of (more ++ us))) longest l)

      pub going_on : {most : ℕ} → most ≡ max largest x.top → x.count ≤ longest → Going bytes count proof₀ after (left - 1) (i + step_size rest) x.count most
      going_on m k = record {
        before = more;
        within = omega (arith, g.within, size-within rest, length-drop i bytes);
        fits = rw (← drop-drop (step_size rest) i bytes) (sym (fills-on left rest h (λ z. omega (arith, going-size, z))) ∙ g.fits);
        whole = on ∙ rw (drop-drop (step_size rest) i bytes);
        text = put-more;
        short = k;
        tops = omega (arith, m, g.tops, (told-some (step_at rest) proof after end e t).1.1.1, greatest-more (λ (t : Step). top t.numbers) g.before s);
      }

  pub going-kept : length proof ≡ length proof₀
  going-kept = rw g.text.stands (length-sets proof₀ 0 (text_of g.before))

  pub going_end : left ≤ 0 → TextTold (steps_in count bytes) proof₀ proof (Some (record { count = end; top = largest }))
  unfolding steps_in steps_from
  going_end z = rw (all, le-leb (length (text_of g.before)) longest (omega (arith, g.short, g.text.ends))) (ap₂ taken (omega (arith, g.text.ends)) g.tops, g.text.stands)
    where
      last : (n : ℕ) (bs : List ℕ) → n ≤ 0 → steps_from n bs ≡ some []
      last zero bs h = refl
      last (suc n) bs h = absurd (omega arith)

      all : steps_from count bytes ≡ some g.before
      all = g.whole ∙ ap (onto g.before) (last left (drop i bytes) z) ∙ onto-some g.before [] ∙ ap some (append-nil g.before)
