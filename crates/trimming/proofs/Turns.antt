-- A pass over a text, line by line from its end, and passes one after another: what stands in the text is what the definitions leave.
-- Assumes nothing.
use mathlib.Core.Path.{◌≡◌, refl, sym, ◌∙◌, ap, ap₂, subst}
use mathlib.Core.Bool.{Bool, true, false, cond, true≢false}
use mathlib.Core.List.{List, [], ◌∷◌, ◌++◌, append-nil}
use Prim.Native.Nat.{ℕ, zero, suc, ◌+◌, ◌-◌, ◌<◌, ◌≤◌}
use native.Mathlib.Omega.{arith}
use lib.Dec.{eqb}
use lib.IntN.{ℤ, pos}
use Rattle.text.proofs.Puts.{front-put}
use lib.ListN.{length, take, drop, replicate, length-append, length-drop}
use lib.Seq.{length-take-le, take-length, take-take, take-add, take_at, drop_at, append_snoc}
use Rattle.words.specs.Limits.{longest}
use Rattle.words.proofs.Lists.{passed, eqb-decides, is_true}
use Rattle.weights.specs.Claims.{none, with_it}
use Rattle.weights.specs.Claims as Sublists
use Rattle.weights.proofs.Sublists.{sublist-short, itself, through, in_whole}
use Rattle.aspif.specs.Rules.{InputRule, expand, atoms}
use Rattle.text.specs.Writing.{Put}
use Rattle.drupe.specs.Texts.{Step, steps, step_text, text_of, steps_of}
use Rattle.drupe.proofs.Texts.{AllPass, some_byte, text-append, read_back, steps-exact, spelled}
use Rattle.runs.specs.Course.{course, ends_empty, is_accepted}
use Rattle.steps.specs.Held.{Program}
use Rattle.checker.proofs.Whole.{course-written}
use Rattle.trimming.specs.Trims.{pass, passes, trimmed, Sublist}
use Rattle.trimming.specs.Service.{course_of, accepted}
use Rattle.trimming.specs.Passing.{Reads, LastLine, without, tried_text}
use Rattle.trimming.proofs.Passes.{pass-order, pass-whole, trimmed-order}
use Rattle.trimming.proofs.Newlines.{text-last, last_step}

-- Steps struck out

module _ {A : Type 0} where
  pub sub-append : (front : List A) {ks ls : List A} → Sublist ks ls → Sublist (front ++ ks) (front ++ ls)
  sub-append [] a = a
  sub-append (x ∷ front) a = with_it (sub-append front a)

-- each that is struck out makes the text shorter
sub-text : {ks ls : List Step} → Sublist ks ls → length (text_of ks) + length ls ≤ length (text_of ls) + length ks
unfolding text_of
sub-text none = omega arith
sub-text (Sublists.without {x = x} {l = ls} a) = omega (arith, sub-text a, some_byte x, length-append (step_text x) (text_of ls))
sub-text (with_it {x = x} {s = ks} {l = ls} a) = omega (arith, sub-text a, length-append (step_text x) (text_of ls), length-append (step_text x) (text_of ks))

pub sub-shorter : {ks ls : List Step} → Sublist ks ls → length (text_of ks) ≤ length (text_of ls)
sub-shorter a = omega (arith, sub-text a, sublist-short a)

-- of steps that pass, in a text that is short enough
module _ {ts : List Step} (good : AllPass ts) (short : length (text_of ts) ≤ longest) where
  pub sub_read : {us : List Step} → Sublist us ts → steps_of (text_of us) ≡ steps us
  sub_read {us} a = read_back longest us (λ t i. good t (in_whole i a)) (omega (arith, sub-shorter a, short))

  pub sub-course : (size : ℕ) (ws : List InputRule) {us : List Step} → Sublist us ts → course (atoms ws) (expand ws) size (text_of us) ≡ course_of size ws us
  sub-course size ws {us} a = course-written longest (atoms ws) (expand ws) size us (λ t i. good t (in_whole i a)) (omega (arith, sub-shorter a, short))

  pub sub-accepted : (size : ℕ) (ws : List InputRule) {us : List Step} → Sublist us ts → is_accepted size ws (text_of us) ≡ accepted size ws us
  sub-accepted size ws a = ap ends_empty (sub-course size ws a)

-- A trial

-- what was put at the front of a buffer that holds it
pub front-taken : (vs before after : List ℕ) (r : ℕ) → Put vs before after 0 r → length vs ≤ length before → (r ≡ length vs) × (take r after ≡ vs)
front-taken vs before after r p h =
    let n : r ≡ length vs = omega (arith, p.ends) in
    (n, ap (take r) (front-put vs before after p h) ∙ take_at vs (drop (length vs) before) r (sym n))

pub without-size : (text : List ℕ) (a e n : ℕ) → a ≤ e → e ≤ n → n ≤ length text → length (without text a e n) ≡ a + (n - e)
without-size text a e n h k l =
    let s = length-take-le a text (omega (arith, h, k, l)) in
    let d : n - e ≤ length (drop e text) = omega (arith, length-drop e text, l) in
    length-append (take a text) (take (n - e) (drop e text)) ∙ ap₂ ◌+◌ s (length-take-le (n - e) (drop e text) d)

module _ (size : ℕ) (ws : List InputRule) (text : List ℕ) (a e n : ℕ) where
  pub goes-out : {l : List ℕ} → l ≡ without text a e n → is_accepted size ws l ≡ true → l ≡ tried_text size ws text a e n
  goes-out p q = let t : is_accepted size ws (without text a e n) ≡ true = rw (← p) q in rw t p

  pub stays-in : {l : List ℕ} → l ≡ without text a e n → is_accepted size ws l ≡ false → take n text ≡ tried_text size ws text a e n
  stays-in p q = let t : is_accepted size ws (without text a e n) ≡ false = rw (← p) q in rw t refl

-- One pass

module _ (size : ℕ) (ws : List InputRule) (ts : List Step) where
  -- the lines before `at` are still to be tried, and what follows them was
  pub record Trying (text : List ℕ) (at left : ℕ) : Type 0 where
    pub front : List Step
    pub done : List Step
    pub split : ts ≡ front ++ done
    pub place : at ≡ length (text_of front)
    pub stands : take left text ≡ text_of (front ++ pass (accepted size ws) front done)

  pub try-start : {text : List ℕ} {len : ℕ} → len ≤ length text → take len text ≡ text_of ts → Trying text len len
  unfolding pass
  try-start {text} {len} h e =
      record {
        front = ts;
        done = [];
        split = sym (append-nil ts);
        place = sym (length-take-le len text h) ∙ ap length e;
        stands = e ∙ ap text_of (sym (append-nil ts));
      }

  pub try-end : {text : List ℕ} {at left : ℕ} → Trying text at left → at ≡ 0 → take left text ≡ text_of (pass (accepted size ws) [] ts)
  unfolding text_of
  try-end {text} {at} {left} T z = by T.front T.split T.place T.stands
    where
      by : (front : List Step) → ts ≡ front ++ T.done → at ≡ length (text_of front)
          → take left text ≡ text_of (front ++ pass (accepted size ws) front T.done) → take left text ≡ text_of (pass (accepted size ws) [] ts)
      by [] s p e = e ∙ ap (λ (l : List Step). text_of (pass (accepted size ws) [] l)) (sym s)
      by (t ∷ front) s p e = absurd (omega (arith, z, p, some_byte t, length-append (step_text t) (text_of front)))

  module _ (good : AllPass ts) (short : length (text_of ts) ≤ longest) (text text' : List ℕ) (at left start r : ℕ) (some : 0 < at) (inside : (at ≤ left) × (left ≤ length text))
      (line : LastLine text at start) (tells : take r text' ≡ tried_text size ws text start at left) where
    turn : (front : List Step) (t : Step) (done : List Step) → ts ≡ (front ++ (t ∷ [])) ++ done → at ≡ length (text_of (front ++ (t ∷ [])))
        → take left text ≡ text_of ((front ++ (t ∷ [])) ++ pass (accepted size ws) (front ++ (t ∷ [])) done) → Trying text' start r
    unfolding pass
    turn front t done s p e =
        record { front = front; done = t ∷ done; split = s ∙ append_snoc front t done; place = b; stands = tells ∙ rw (f, d, e) (by (accepted size ws (front ++ rest))) }
      where
        rest : List Step
        rest = pass (accepted size ws) (front ++ (t ∷ [])) done

        parts : take left text ≡ text_of (front ++ (t ∷ [])) ++ text_of rest
        parts = e ∙ text-append (front ++ (t ∷ [])) rest

        a : take at text ≡ text_of (front ++ (t ∷ []))
        a = sym (take-take at left text inside.0) ∙ ap (take at) parts ∙ take_at (text_of (front ++ (t ∷ []))) (text_of rest) at (sym p)

        b : start ≡ length (text_of front)
        b = line front t a

        before : take start text ≡ text_of front
        before =
            let h : start ≤ at = omega (arith, b, p, ap length (text-last front t), length-append (text_of front) (step_text t)) in
            sym (take-take start at text h) ∙ ap (take start) (a ∙ text-last front t) ∙ take_at (text_of front) (step_text t) start (sym b)

        behind : take (left - at) (drop at text) ≡ text_of rest
        behind =
            let n : left ≡ at + (left - at) = omega (arith, inside.0) in
            let q : take left text ≡ take at text ++ take (left - at) (drop at text) = ap (λ (k : ℕ). take k text) n ∙ take-add at (left - at) text in
            let l : length (take at text) ≡ at = length-take-le at text (omega (arith, inside.0, inside.1)) in
            sym (drop_at (take at text) (take (left - at) (drop at text)) at l) ∙ ap (drop at) (sym q ∙ parts)
            ∙ drop_at (text_of (front ++ (t ∷ []))) (text_of rest) at (sym p)

        d : without text start at left ≡ text_of (front ++ rest)
        d = ap₂ ◌++◌ before behind ∙ sym (text-append front rest)

        sub : Sublist (front ++ rest) ts
        sub =
            subst (Sublist (front ++ rest)) (sym (s ∙ append_snoc front t done))
            (sub-append front (Sublists.without (pass-order (accepted size ws) (front ++ (t ∷ [])) done)))

        f : is_accepted size ws (without text start at left) ≡ accepted size ws (front ++ rest)
        f = ap (is_accepted size ws) d ∙ sub-accepted good short size ws sub

        by : (x : Bool) → cond x (text_of (front ++ rest)) (text_of ((front ++ (t ∷ [])) ++ rest)) ≡ text_of (front ++ cond x rest (t ∷ rest))
        by true = refl
        by false = ap text_of (append_snoc front t rest)

    pub try-on : Trying text at left → Trying text' start r
    unfolding text_of
    try-on T = by T.front T.split T.place T.stands
      where
        by : (front : List Step) → ts ≡ front ++ T.done → at ≡ length (text_of front)
            → take left text ≡ text_of (front ++ pass (accepted size ws) front T.done) → Trying text' start r
        by [] s p e = absurd (omega (arith, some, p))
        by (t ∷ front) s p e =
            let l = last_step t front in
            turn l.0 l.1 T.done (rw (← l.2) s) (rw (← l.2) p) (rw (← l.2) e)

  -- what a pass leaves is read back
  pub try-reads : (text₀ : List ℕ) (len : ℕ) → Reads text₀ len ts → (text : List ℕ) (left : ℕ) → take left text ≡ text_of (pass (accepted size ws) [] ts)
      → Reads text left (pass (accepted size ws) [] ts)
  try-reads text₀ len r text left e =
      let x = (steps-exact longest (take len text₀) ts).0 r in
      ap steps_of e ∙ sub_read x.2 (rw (← x.0) x.1) (pass-order (accepted size ws) [] ts)

-- Passes

module _ (size : ℕ) (ws : List InputRule) (ts : List Step) where
  -- passes over what the text holds come to what they come to from the start
  pub record Repeating (text : List ℕ) (len : ℕ) : Type 0 where
    pub steps : List Step
    pub turns : ℕ
    pub from : Sublist steps ts
    pub stands : take len text ≡ text_of steps
    pub enough : length steps ≤ turns
    pub same : passes (accepted size ws) turns steps ≡ trimmed (accepted size ws) ts

  pub repeat-start : {text : List ℕ} {len : ℕ} → take len text ≡ text_of ts → Repeating text len
  repeat-start e = record { steps = ts; turns = length ts; from = itself ts; stands = e; enough = omega arith; same = refl }

  module _ {text : List ℕ} {len : ℕ} (R : Repeating text len) (inside : len ≤ length text) (text' : List ℕ) (r : ℕ) (inside' : r ≤ length text')
      (pass-leaves : take r text' ≡ text_of (pass (accepted size ws) [] R.steps)) where
    abbrev us : List Step
    us = pass (accepted size ws) [] R.steps

    size-before : len ≡ length (text_of R.steps)
    size-before = sym (length-take-le len text inside) ∙ ap length R.stands

    size-after : r ≡ length (text_of us)
    size-after = sym (length-take-le r text' inside') ∙ ap length pass-leaves

    -- a pass that leaves the length as it was removed nothing
    pub repeat-end : r ≡ len → take r text' ≡ text_of (trimmed (accepted size ws) ts)
    unfolding passes
    repeat-end e = pass-leaves ∙ ap text_of ((pass-whole (accepted size ws) [] R.steps l).0 ∙ by R.turns R.same)
      where
        l : length us ≡ length R.steps
        l = omega (arith, sub-text (pass-order (accepted size ws) [] R.steps), sublist-short (pass-order (accepted size ws) [] R.steps), e, size-before, size-after)

        by : (n : ℕ) → passes (accepted size ws) n R.steps ≡ trimmed (accepted size ws) ts → R.steps ≡ trimmed (accepted size ws) ts
        by zero p = p
        by (suc n) p = rw (is_true (eqb-decides (length us) (length R.steps)) l) at p

    -- one that does not is followed by another
    pub repeat-on : ¬ (r ≡ len) → Repeating text' r
    unfolding passes
    repeat-on d = by R.turns R.enough R.same
      where
        fewer : length us < length R.steps
        fewer = go (eqb (length us) (length R.steps)) refl
          where
            go : (b : Bool) → eqb (length us) (length R.steps) ≡ b → length us < length R.steps
            go true q =
                let l = (eqb-decides (length us) (length R.steps)).to ((passed _).from q) in
                absurd (d (size-after ∙ ap (λ (x : List Step). length (text_of x)) (pass-whole (accepted size ws) [] R.steps l).0 ∙ sym size-before))
            go false q =
                let n : ¬ (length us ≡ length R.steps) = λ p. true≢false (sym (is_true (eqb-decides _ _) p) ∙ q) in
                omega (arith, n, sublist-short (pass-order (accepted size ws) [] R.steps))

        differ : eqb (length us) (length R.steps) ≡ false
        differ = go (eqb (length us) (length R.steps)) refl
          where
            go : (b : Bool) → eqb (length us) (length R.steps) ≡ b → b ≡ false
            go true q = absurd (let l = (eqb-decides (length us) (length R.steps)).to ((passed _).from q) in omega (arith, l, fewer))
            go false q = refl

        by : (n : ℕ) → length R.steps ≤ n → passes (accepted size ws) n R.steps ≡ trimmed (accepted size ws) ts → Repeating text' r
        by zero h p = absurd (omega (arith, h, fewer))
        by (suc n) h p = record {
          steps = us;
          turns = n;
          from = through (pass-order (accepted size ws) [] R.steps) R.from;
          stands = pass-leaves;
          enough = omega (arith, fewer, h);
          same = rw differ at p;
        }

-- the same of what is read
module _ (size : ℕ) (ws : List InputRule) (ts : List Step) (text₀ : List ℕ) (read : steps_of text₀ ≡ steps ts) where
  good : AllPass ts
  good = ((steps-exact longest text₀ ts).0 read).2

  short : length (text_of ts) ≤ longest
  short = let x = (steps-exact longest text₀ ts).0 read in rw (← x.0) x.1

  pub reads-start : Repeating size ws ts text₀ (length text₀)
  reads-start = repeat-start size ws ts (take-length text₀ ∙ spelled longest text₀ ts read)

  module _ (text : List ℕ) (len : ℕ) (R : Repeating size ws ts text len) where
    pub reads_now : Reads text len R.steps
    reads_now = ap steps_of R.stands ∙ sub_read good short R.from

    module _ (inside : len ≤ length text) (text' : List ℕ) (r : ℕ) (inside' : r ≤ length text') (after : Reads text' r (pass (accepted size ws) [] R.steps)) where
      pub reads_end : r ≡ len → Reads text' r (trimmed (accepted size ws) ts)
      reads_end e =
          ap steps_of (repeat-end size ws ts R inside text' r inside' (spelled longest (take r text') _ after) e)
          ∙ sub_read good short (trimmed-order Step (accepted size ws) ts)

      pub reads_on : ¬ (r ≡ len) → Repeating size ws ts text' r
      reads_on d = repeat-on size ws ts R inside text' r inside' (spelled longest (take r text') _ after) d

-- The loops

-- between two turns of a pass
pub record Passing (text₀ : List ℕ) (len : ℕ) (trial₀ : List ℕ) (table : List ℤ) (rules N : ℕ) (store₀ : List ℤ) (text trial : List ℕ) (store : List ℤ) (at left : ℕ) : Type 0 where
  pub same_text : length text ≡ length text₀
  pub same-trial : length trial ≡ length trial₀
  pub same_store : length store ≡ length store₀
  pub zeros : store ≡ replicate (length store₀) (pos 0)
  pub ahead : at ≤ left
  pub within : left ≤ len
  pub trying : (ws : List InputRule) (ts : List Step) → Program table rules N ws → Reads text₀ len ts → Trying (length store₀) ws ts text at left

-- between two passes
pub record Repeated (text₀ : List ℕ) (table : List ℤ) (rules N : ℕ) (store₀ : List ℤ) (text : List ℕ) (store : List ℤ) (trial : List ℕ) (len : ℕ) : Type 0 where
  pub same_text : length text ≡ length text₀
  pub same_store : length store ≡ length store₀
  pub zeros : store ≡ replicate (length store₀) (pos 0)
  pub room : length trial ≡ longest
  pub within : len ≤ length text
  pub repeating : (ws : List InputRule) (ts : List Step) → Program table rules N ws → steps_of text₀ ≡ steps ts → Repeating (length store₀) ws ts text len
