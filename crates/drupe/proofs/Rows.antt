-- Laws of lent rows: what a line that is read leaves in them, and what the answer then says.
-- Assumes nothing.
use mathlib.Core.Path.{◌≡◌, refl, sym, ap, ◌∙◌, subst}
use mathlib.Core.Bool.{Bool, true, false}
use Rattle.std.specs.Prelude.{Option, None, Some}
use mathlib.Core.List.{List, [], ◌∷◌, ◌++◌}
use Prim.Native.Nat.{ℕ, ◌+◌, ◌-◌, ◌<◌, ◌≤◌}
use native.Mathlib.Omega.{arith}
use lib.IntN.{ℤ, pos}
use lib.ListN.{length, take, drop, get_or, set, replicate, length-replicate}
use lib.Seq.{sets, sets-eq, set-get_or, take-set-le, take-append_seam, length-take-le, get_or-append-add}
use Rattle.words.specs.Limits.{most_numbers}
use Rattle.words.specs.Literals.{ascending}
use Rattle.words.proofs.Lists.{zero_one}
use Rattle.words.proofs.Laws.{sets-append, padded, drop-replicate}
use Rattle.text.specs.Line.{any_outside, is_closed}
use Rattle.text.proofs.Lines.{capped-all, Numbered}
use Rattle.text.specs.declared.Letter.{Letter}
use Rattle.drupe.specs.Lines.{line_refusal, LineAt, end, refused, line, refused_or, line_asked, line_at, line_answer, numbers_of, AnswerBounds}
use Rattle.drupe.specs.Rows.{InRows, Written, ReadInto, LineInto}
use Rattle.text.specs.declared.Letter.TheVariants.{Addition}
use Rattle.drupe.specs.declared.ProofLine.{ProofLine}
use Rattle.drupe.specs.declared.ProofFault.{ProofFault}
use Rattle.drupe.proofs.Lines.{Passed, passed, few, answer-within}
use Rattle.drupe.proofs.Texts.{end-closed}
use Rattle.std.specs.Prelude.{Result, Ok, Err}

-- Numbers and the closing 0, from a row's front on

module _ (zs : List ℤ) where
  closed_after : (row : List ℤ) → sets row 0 (zs ++ (pos 0 ∷ [])) ≡ set (sets row 0 zs) (length zs) (pos 0)
  closed_after row =
      let e : 0 + length zs ≡ length zs = omega arith in
      sets-append zs (pos 0 ∷ []) row 0 ∙ ap (λ (n : ℕ). set (sets row 0 zs) n (pos 0)) e

  -- the numbers stand at its front
  pub front-written : (row : List ℤ) → length zs ≤ length row → take (length zs) (sets row 0 (zs ++ (pos 0 ∷ []))) ≡ zs
  front-written row h =
      rw (closed_after row, take-set-le (length zs) (sets row 0 zs) (length zs) (pos 0) (omega arith), sets-eq zs row 0 (omega arith))
      (take-append_seam zs (drop (0 + length zs) row))

  -- a row of zeros has zeros after them
  pub zeros-written : (m : ℕ) → length zs ≤ m → sets (replicate m (pos 0)) 0 (zs ++ (pos 0 ∷ [])) ≡ zs ++ replicate (m - length zs) (pos 0)
  zeros-written m h =
      let rest : List ℤ = replicate (m - length zs) (pos 0) in
      let e : 0 + length zs ≡ length zs = omega arith in
      let p : sets (replicate m (pos 0)) 0 zs ≡ zs ++ rest =
      sets-eq zs (replicate m (pos 0)) 0 (omega (arith, length-replicate m (pos 0))) ∙ ap (λ (l : List ℤ). zs ++ l) (rw e (drop-replicate (length zs) m (pos 0))) in
      let n : length zs + 0 ≡ length zs = omega arith in
      let z : get_or (zs ++ rest) (length zs) (pos 0) ≡ pos 0 = rw n at (get_or-append-add zs rest 0 (pos 0)) ∙ padded (pos 0) [] (m - length zs) 0 in
      closed_after (replicate m (pos 0)) ∙ rw p (ap (λ (v : ℤ). set (zs ++ rest) (length zs) v) (sym z) ∙ set-get_or (zs ++ rest) (length zs) (pos 0))

module _ {s : List ℕ} {row after : List ℤ} {count next : ℕ} {out closed : Bool} (f : Numbered s row after count next out closed) (inside : any_outside f.list ≡ false) (shut : is_closed f.list ≡ true) where
  -- what `text::read_line` leaves of a closed line
  pub row_written : after ≡ sets row 0 (take (length f.list - 1) f.list ++ (pos 0 ∷ []))
  row_written = f.row ∙ ap (λ (l : List ℤ). sets row 0 l) (capped-all f.list inside ∙ end-closed f.list shut)

  -- the numbers before its closing 0
  pub row_before : count - 1 ≤ length row → take (count - 1) after ≡ take (length f.list - 1) f.list
  row_before h =
      let zs : List ℤ = take (length f.list - 1) f.list in
      let l : length zs ≡ length f.list - 1 = length-take-le (length f.list - 1) f.list (omega arith) in
      let k : count - 1 ≡ length zs = omega (arith, f.long, l) in
      rw (k, row_written) (front-written zs row (omega (arith, k, h)))

-- Answers

module _ {before numbers sorted : List ℤ} where
  pub into-refused : {l : LineAt} (k : ProofFault) → l ≡ refused k → LineInto l before numbers sorted (Err k)
  into-refused k e = rw e (record { answer = refl; rows = tt; row = tt })

  pub into-end : {l : LineAt} → l ≡ end → LineInto l before numbers sorted (Ok None)
  into-end e = rw e (record { answer = refl; rows = tt; row = tt })

  pub into-same : {l m : LineAt} {r : Result (Option ProofLine) ProofFault} → l ≡ m → LineInto m before numbers sorted r → LineInto l before numbers sorted r
  into-same e h = rw e h

  pub into-asked : (x : Letter) (zs : List ℤ) (next : ℕ) {r : Result (Option ProofLine) ProofFault} → r ≡ line_answer (line_asked x zs next) → length zs ≤ length before
      → numbers ≡ sets before 0 (zs ++ (pos 0 ∷ [])) → take (length zs) sorted ≡ ascending zs → LineInto (line_asked x zs next) before numbers sorted r
  into-asked x zs next e h p q = by (line_refusal x zs) e
    where
      by : (o : Option ProofFault) {r : Result (Option ProofLine) ProofFault} → r ≡ line_answer (refused_or o (line x zs next)) → LineInto (refused_or o (line x zs next)) before numbers sorted r
      by None e = record { answer = e; rows = (rw p (front-written zs before h), q); row = p }
      by (Some k) e = record { answer = e; rows = tt; row = tt }

  pub into-text : {s : List ℕ} {at : ℕ} {r : Result (Option ProofLine) ProofFault} → LineInto (line_at s at) before numbers sorted r → ReadInto s at before numbers sorted r
  into-text {s} {at} i = record { answer = i.answer; rows = i.rows; row = i.row; within = answer-within s at i.answer }

-- For a caller

-- the line that is answered
abbrev line_in : Result (Option ProofLine) ProofFault → ProofLine
line_in (Ok (Some l)) = l
line_in (Ok None) = record { letter = Addition; count = 0; next = 0 }
line_in (Err k) = record { letter = Addition; count = 0; next = 0 }

-- what an answer with its numbers says
abbrev pub line_told : Result (Option ProofLine) ProofFault → List ℤ → LineAt
line_told (Ok None) zs = end
line_told (Err k) zs = refused k
line_told (Ok (Some l)) zs = line l.letter (take l.count zs) l.next

module _ {s : List ℕ} {at : ℕ} {before numbers sorted : List ℤ} {r : Result (Option ProofLine) ProofFault} (R : ReadInto s at before numbers sorted r) where
  pub into-told : {a : Result (Option ProofLine) ProofFault} → r ≡ a → line_at s at ≡ line_told a numbers
  into-told e = by (line_at s at) R.rows ∙ ap (λ (a : Result (Option ProofLine) ProofFault). line_told a numbers) (sym R.answer ∙ e)
    where
      by : (l : LineAt) → InRows l numbers sorted → l ≡ line_told (line_answer l) numbers
      by end w = refl
      by (refused k) w = refl
      by (line x zs next) w = ap (λ (l : List ℤ). line x l next) (sym w.0)

  pub into-sorted : {x : Letter} {count next : ℕ} → r ≡ Ok (Some (record { letter = x; count = count; next = next })) → take count sorted ≡ ascending (take count numbers)
  into-sorted {x} {count} {next} e = by (line_at s at) (sym R.answer ∙ e) R.rows
    where
      by : (l : LineAt) → line_answer l ≡ Ok (Some (record { letter = x; count = count; next = next })) → InRows l numbers sorted → take count sorted ≡ ascending (take count numbers)
      by end e w = absurd (zero_one cc)
      by (refused k) e w = absurd (zero_one cc)
      by (line y zs n) e w = let c : length zs ≡ count = ap (λ a. (line_in a).count) e in rw (← c, w.0) w.1

  pub into-room : {x : Letter} {count next : ℕ} → r ≡ Ok (Some (record { letter = x; count = count; next = next })) → (at < next) × (next ≤ length s) × (count ≤ most_numbers)
  into-room e = subst (AnswerBounds at (length s)) e R.within

-- For `read_line`, whose row was zeros

module _ (s : List ℕ) (at : ℕ) {r : Result (Option ProofLine) ProofFault} where
  pub numbers-read : {numbers sorted : List ℤ} (l : ProofLine) → ReadInto s at (replicate most_numbers (pos 0)) numbers sorted r → r ≡ Ok (Some l)
      → numbers ≡ numbers_of (line_at s at)
  numbers-read {numbers} {sorted} x i e = by (line_at s at) (passed s at) i.answer i.row
    where
      by : (l : LineAt) → Passed at (length s) l → r ≡ line_answer l → Written l (replicate most_numbers (pos 0)) numbers → numbers ≡ numbers_of l
      by end p a w = absurd (zero_one cc)
      by (refused k) p a w = absurd (zero_one cc)
      by (line y zs n) p a w = w ∙ zeros-written zs most_numbers (few y zs p.2)
