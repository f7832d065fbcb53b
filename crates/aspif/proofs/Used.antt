-- The words that the rules of a table take, and words put behind them. Assumes nothing.
use mathlib.Core.Path.{◌≡◌, refl, sym, ◌∙◌, ap}
use mathlib.Core.Bool.{true}
use mathlib.Core.List.{List, ◌∷◌, ◌++◌, append_assoc, map}
use Prim.Native.Nat.{ℕ, ◌+◌, ◌-◌, ◌≤◌}
use native.Mathlib.Omega.{arith}
use borrow.Rule.Slice.PartMut.{put_mid}
use lib.IntN.{ℤ, pos}
use lib.ListN.{length, take, drop, replicate, length-append, length-drop}
use lib.Seq.{take_at}
use Rattle.words.proofs.Laws.{drop-replicate}
use Rattle.words.proofs.Parts.{put_next}
use Rattle.aspif.specs.Rules.{rule_words, program_words}
use Rattle.aspif.specs.Tables.{size_at, rule_at, rules_at, sound_rules, sound_at}
use Rattle.aspif.proofs.Cursors.{shaped, shape_of}
use Rattle.aspif.proofs.Readable.{front-words, rules-words}

-- The words that the rules take

-- a rule takes as many words as it is written with
pub size-words : (ws : List ℤ) → sound_at ws ≡ true → size_at ws ≡ length (rule_words (rule_at ws))
unfolding size_at
size-words ws s =
    let f = shaped ws (shape_of ws s) in
    omega (arith, ap length (front-words ws s), length-append (rule_words (rule_at ws)) (drop (size_at ws) ws), length-drop (size_at ws) ws, f.fits)

-- the loop of `words_used`: so many words are passed, and the rules that begin at `starts` are left
abbrev pub Passed : List ℤ → (rules used : ℕ) → (starts : List (List ℤ)) → Type 0
Passed t rules used starts = used + length (program_words (map rule_at starts)) ≡ length (program_words (rules_at rules t))

-- one rule more is passed
pub passed_on : (t : List ℤ) (rules used : ℕ) (ws : List ℤ) {starts rest : List (List ℤ)} → starts ≡ ws ∷ rest → sound_at ws ≡ true
    → Passed t rules used starts → Passed t rules (used + size_at ws) rest
passed_on t rules used ws {starts} {rest} e s p =
    let q : used + length (program_words (map rule_at (ws ∷ rest))) ≡ length (program_words (rules_at rules t)) = rw e at p in
    omega (arith, q, size-words ws s, length-append (rule_words (rule_at ws)) (program_words (map rule_at rest)))

-- they stand at the table's front
pub used-words : (t : List ℤ) (rules : ℕ) → sound_rules rules t ≡ true → take (length (program_words (rules_at rules t))) t ≡ program_words (rules_at rules t)
used-words t rules s =
    let w = rules-words rules t s in
    ap (take (length (program_words (rules_at rules t)))) w.1
    ∙ take_at (program_words (rules_at rules t)) (replicate w.0 (pos 0)) (length (program_words (rules_at rules t))) refl

-- and are no more than the table has
pub used-within : (t : List ℤ) (rules : ℕ) → sound_rules rules t ≡ true → length (program_words (rules_at rules t)) ≤ length t
used-within t rules s =
    let w = rules-words rules t s in
    omega (arith, ap length w.1, length-append (program_words (rules_at rules t)) (replicate w.0 (pos 0)))

-- Words behind them

-- new words after a front, in a list that is 0 from there on
put-zeros : (front new : List ℤ) (n : ℕ)
    → front ++ (new ++ drop (length new) (drop (length front) (replicate n (pos 0)))) ≡ (front ++ new) ++ replicate (n - length front - length new) (pos 0)
put-zeros front new n =
    rw (drop-replicate (length front) n (pos 0), drop-replicate (length new) (n - length front) (pos 0))
    (sym (append_assoc front new (replicate (n - length front - length new) (pos 0))))

-- what `append_rule` leaves: the words in use are copied into a list that is 0 throughout, and new ones put behind them
pub rule-put : (t : List ℤ) (rules : ℕ) → sound_rules rules t ≡ true → (used : ℕ) → used ≡ length (program_words (rules_at rules t))
    → {wide : List ℤ} → wide ≡ replicate (length wide) (pos 0) → (new xs ys : List ℤ) → xs ≡ take used t ++ drop (length (take used t)) wide
    → ys ≡ new ++ drop (length new) (take (length xs - used) (drop used xs))
    → (k : ℕ) × (put_mid used (length xs - used) xs ys ≡ (program_words (rules_at rules t) ++ new) ++ replicate k (pos 0))
rule-put t rules s used u {wide} z new xs ys e q =
    let P = program_words (rules_at rules t) in
    let f : take used t ≡ P = rw u (used-words t rules s) in
    let w : xs ≡ P ++ drop (length P) (replicate (length wide) (pos 0)) = e ∙ rw (f, ← z) in (
      length wide - length P - length new,
      put_next P (drop (length P) (replicate (length wide) (pos 0))) new xs ys used (sym u) w q ∙ put-zeros P new (length wide),
    )
