-- Line after line without a bound on the turns: `line-by-line`. Each rule takes a byte at least, so the turns of the definition suffice.
-- Assumes nothing.
use mathlib.Core.Path.{◌≡◌, refl, sym, ◌∙◌, ap, subst}
use mathlib.Core.List.{List, [], ◌∷◌, ◌++◌}
use Prim.Native.Nat.{ℕ, zero, suc, ◌+◌, ◌-◌, ◌≤◌, ◌<◌}
use native.Mathlib.Omega.{arith}
use lib.ListN.{length, drop, length-drop}
use Rattle.text.specs.Line.{line_of}
use Rattle.text.proofs.Lines.{bounds_of}
use Rattle.weights.specs.Weights.{most_weighted}
use Rattle.aspif.specs.Rules.{InputRule, program_words}
use Rattle.aspif.specs.Reading.{Reading, Turn, refuses, ends, adds, lines_within, header, read_lines}
use Rattle.aspif.specs.Claims.{turn_at, InTurn, LineByLine}
use Rattle.aspif.specs.Claims as Claims
use Rattle.aspif.proofs.Formed.{onward, lines-on}
use Rattle.aspif.proofs.Passes.{Room, turn-room}
use Rattle.text.proofs.Fronts.{front_long}

module _ (most size : ℕ) where
  -- a rule's line takes bytes, and no more than there are
  takes : (s : List ℕ) (rs : List InputRule) (r : InputRule) (n : ℕ) → turn_at most size s rs ≡ adds r n → (0 < n) × (n ≤ length s)
  takes s rs r n e =
      let free = size - length (program_words rs) in
      let h = subst (Room (length rs) free (length s) (line_of s)) e (turn-room (length rs) free (length s) most (line_of s)) in
      let b = bounds_of s h.0.0 n h.0.1 in
      (b.0, omega (arith, b))

  there : (turns : ℕ) (s : List ℕ) (line : ℕ) (rs : List InputRule) → length s < turns → InTurn most size s line rs (lines_within most size turns s line rs)
  there zero s line rs h = absurd (omega arith)
  there (suc turns) s line rs h = subst (InTurn most size s line rs) (sym (lines-on most size turns s line rs)) (by (turn_at most size s rs) refl (λ n ss. there turns (drop n s) (line + 1) ss))
    where
      by : (t : Turn) → turn_at most size s rs ≡ t
          → ((n : ℕ) (ss : List InputRule) → length (drop n s) < turns → InTurn most size (drop n s) (line + 1) ss (lines_within most size turns (drop n s) (line + 1) ss))
          → InTurn most size s line rs (onward (λ n. lines_within most size turns (drop n s) (line + 1)) rs line t)
      by (refuses k) e on = Claims.refuses e
      by ends e on = Claims.ends e
      by (adds r n) e on = let b = takes s rs r n e in Claims.adds e (on n (rs ++ (r ∷ [])) (omega (arith, length-drop n s, b)))

  back : {s : List ℕ} {line : ℕ} {rs : List InputRule} {c : Reading} → InTurn most size s line rs c → (turns : ℕ) → length s < turns → lines_within most size turns s line rs ≡ c
  back t zero h = absurd (omega arith)
  back {s} {line} {rs} (Claims.refuses e) (suc turns) h = lines-on most size turns s line rs ∙ ap (onward (λ n. lines_within most size turns (drop n s) (line + 1)) rs line) e
  back {s} {line} {rs} (Claims.ends e) (suc turns) h = lines-on most size turns s line rs ∙ ap (onward (λ n. lines_within most size turns (drop n s) (line + 1)) rs line) e
  back {s} {line} {rs} (Claims.adds {n = n} {r = r} e t) (suc turns) h =
      let b = takes s rs r n e in
      lines-on most size turns s line rs ∙ ap (onward (λ n. lines_within most size turns (drop n s) (line + 1)) rs line) e
      ∙ back {s = drop n s} t turns (omega (arith, length-drop n s, b))

pub line-by-line : LineByLine
unfolding read_lines
line-by-line size text c e =
    let l = front_long header text e in
    let s = drop (length header) text in
    let enough : length s < suc (length text) = omega (arith, length-drop (length header) text) in
    (λ p. subst (InTurn most_weighted size s 2 []) ((rw e at p)) (there most_weighted size (suc (length text)) s 2 [] enough), λ t. rw e (back most_weighted size t (suc (length text)) enough))
