-- What the second walk, which writes, cites: one rule in a row, and rules one after another.
-- Assumes nothing.
use mathlib.Core.Path.{◌≡◌, refl, sym, ◌∙◌, ap}
use mathlib.Core.Bool.{true}
use mathlib.Core.Option.{Option, none, some, some-injective, none-ne-some}
use mathlib.Core.List.{List, [], ◌∷◌, ◌++◌}
use Prim.Native.Nat.{ℕ, zero, suc, ◌+◌, ◌-◌, ◌*◌, ◌<◌, ◌≤◌}
use native.Mathlib.Omega.{arith}
use lib.IntN.{ℤ, pos}
use lib.ListN.{length, drop, replicate, length-drop}
use lib.Seq.{drop-drop}
use Rattle.words.specs.Limits.{most_rules}
use Rattle.words.specs.Lists.{all}
use Rattle.words.proofs.Lists.{and_left, and_right}
use Rattle.text.specs.Writing.{Put}
use Rattle.aspif.specs.Rules.{InputRule, rule_words}
use Rattle.aspif.specs.Tables.{rule_at, sound_at}
use Rattle.packets.specs.Bytes.{bytes_of}
use Rattle.packets.specs.Packets.{packet_rule, has_words, packet_words, prepend, rule_passes, rule_in, rules_from, rules_in}
use Rattle.packets.specs.Parts.{most_words, size_if_sound, RuleTold}
use Rattle.packets.specs.Writes.{rule_room, last_rule_end}
use Rattle.packets.specs.declared.Version.{Version}
use Rattle.packets.specs.declared.Version.TheVariants.{Two}
use Rattle.packets.specs.declared.reader.RuleRead.{RuleRead}
use Rattle.packets.proofs.Given.{zeros-front}
use Rattle.packets.proofs.RuleParts.{some_words, passes, rule-in, front-rule, rule-size, rule-few, rules-there}
use Rattle.packets.proofs.RulesRead.{sized, rules-stop, rules-full, rules-on, rules-none}
use Rattle.packets.proofs.Writes.{Going, going_start, going_on, going_end, bytes-append}
use Rattle.moves.specs.Moves.{RuleMovedAs, Movable, RulesMoved}
use Rattle.moves.specs.declared.RuleMoved.{RuleMoved}

-- One rule

-- a rule that passes has words
pub sized-there : (v : Version) (ws : List ℤ) → rule_passes v ws ≡ true → 0 < size_if_sound v ws
unfolding size_if_sound
sized-there v ws e = rw e (omega (arith, rule-size v ws e, some_words v (rule_in v ws)))

-- in a row of zeros its words are those of a table
pub row-rule : (v : Version) (ws : List ℤ) {row : List ℤ} {r : RuleRead} → rule_passes v ws ≡ true → RuleTold v ws (replicate most_words (pos 0)) row 0 r
    → (sound_at row ≡ true) × (rule_at row ≡ rule_in v ws)
row-rule v ws {row} {r} e t =
    let x = rule_in v ws in
    let f = (front-rule v ws e).formed in
    let z = replicate (most_words - length (rule_words x)) (pos 0) in
    let h : 0 < r.size = rw t.size (sized-there v ws e) in
    let k : row ≡ rule_words x ++ z = t.stands h ∙ zeros-front (pos 0) most_words (rule_words x) (rule-few Two x f) in
    (ap sound_at k ∙ passes Two x f refl z, ap rule_at k ∙ rule-in Two x f refl z)

-- Rules one after another

-- an element before a list that is there
prepended : {A : Type 0} (x : A) (o : Option (List A)) (l : List A) → prepend x o ≡ some l → (k : List A) × ((o ≡ some k) × (l ≡ x ∷ k))
prepended x none l e = absurd (none-ne-some l e)
prepended x (some k) l e = (k, (refl, sym (some-injective _ _ e)))

-- the first of rules that are there
pub record FirstRule (v : Version) (n : ℕ) (ws : List ℤ) (P : List InputRule) : Type 0 where
  pub passing : rule_passes v ws ≡ true
  pub later : List InputRule
  pub first : P ≡ rule_in v ws ∷ later
  pub rest : rules_from v (n - 1) (drop (size_if_sound v ws) ws) ≡ some later

pub first-rule : (v : Version) (n : ℕ) (ws : List ℤ) (P : List InputRule) → 0 < length ws → rules_from v n ws ≡ some P → FirstRule v n ws P
first-rule v n ws P h e = by n (size_if_sound v ws) refl refl
  where
    by : (m k : ℕ) → n ≡ m → size_if_sound v ws ≡ k → FirstRule v n ws P
    by zero k p q = absurd (none-ne-some P (sym (rules-full v n ws h (omega (arith, p))) ∙ e))
    by (suc m) zero p q = absurd (none-ne-some P (sym (rules-stop v n ws h q) ∙ e))
    by (suc m) (suc k) p q =
        let on = rules-on v n ws (omega (arith, p)) h (λ z. omega (arith, z, q)) in
        let d = prepended (rule_in v ws) (rules_from v (n - 1) (drop (size_if_sound v ws) ws)) P (sym on ∙ e) in
        record { passing = (sized v ws (omega (arith, q))).0; later = d.0; first = d.1.1; rest = d.1.0 }

-- The loop stands at word i; the rules before it stand in the output, and those from it on are left.
pub record Moving (v w : Version) (ws : List ℤ) (before now : List ℕ) (i end : ℕ) : Type 0 where
  pub P : List InputRule
  pub left : List InputRule
  pub turns : ℕ
  pub whole : rules_in v ws ≡ some P
  pub rest : rules_from v turns (drop i ws) ≡ some left
  pub worded : all (has_words w) left ≡ true
  pub within : i ≤ length ws
  pub going : Going (bytes_of 4 (packet_words w P)) (bytes_of 4 (packet_words w left)) before now 13 end
  pub near : end + rule_room * length left ≤ last_rule_end

pub moving-start : (v w : Version) (ws : List ℤ) (before : List ℕ) → Movable v w ws → Moving v w ws before before 0 13
unfolding rules_in
moving-start v w ws before m = record {
  P = m.0;
  left = m.0;
  turns = most_rules;
  whole = m.1.0;
  rest = m.1.0;
  worded = m.1.1;
  within = omega arith;
  going = going_start _ before 13;
  near = omega (arith, (rules-there v most_rules ws m.0 m.1.0).few);
}

module _ {v w : Version} {ws : List ℤ} {before now : List ℕ} {i end : ℕ} (m : Moving v w ws before now i end) where
  -- a rule is left
  module _ (h : i < length ws) where
    pub moving-first : FirstRule v m.turns (drop i ws) m.left
    moving-first = first-rule v m.turns (drop i ws) m.left (omega (arith, length-drop i ws)) m.rest

    words-here : all (has_words w) (rule_in v (drop i ws) ∷ moving-first.later) ≡ true
    words-here = rw moving-first.first at m.worded

    pub moving-worded : has_words w (rule_in v (drop i ws)) ≡ true
    moving-worded = and_left _ _ words-here

    pub moving-room : end + rule_room ≤ last_rule_end
    moving-room = omega (arith, m.near, ap length moving-first.first)

    -- it is moved
    module _ {after : List ℕ} {r : RuleMoved} (t : RuleMovedAs v w (drop i ws) now after end r) where
      -- so one word at least is behind
      pub moving-less : 0 < r.size
      moving-less = rw t.size (sized-there v (drop i ws) moving-first.passing)

      pub moving-on : Moving v w ws before after (i + r.size) r.end
      moving-on =
          let f = moving-first in
          let x = rule_in v (drop i ws) in
          record {
            P = m.P;
            left = f.later;
            turns = m.turns - 1;
            whole = m.whole;
            rest = rw (← t.size, drop-drop r.size i ws) at f.rest;
            worded = and_right (has_words w x) _ words-here;
            within = omega (arith, t.within, length-drop i ws, m.within);
            going = going_on (rw (f.first, bytes-append 4 (packet_rule w x) (packet_words w f.later)) at m.going) t.put;
            near = omega (arith, m.near, ap length f.first, t.near);
          }

  -- none is left
  pub moving-end : length ws ≤ i → RulesMoved v w ws before now end
  unfolding bytes_of
  moving-end h = (λ P e. by m.left m.P (none_left m.left m.rest) (some-injective _ _ (sym m.whole ∙ e)) m.going, omega (arith, m.near))
    where
      none_left : (l : List InputRule) → rules_from v m.turns (drop i ws) ≡ some l → l ≡ []
      none_left l e = sym (some-injective _ _ (sym (rules-none v m.turns (drop i ws) (omega (arith, length-drop i ws))) ∙ e))

      by : (l Q : List InputRule) {P : List InputRule} → l ≡ [] → Q ≡ P → Going (bytes_of 4 (packet_words w Q)) (bytes_of 4 (packet_words w l)) before now 13 end
          → Put (bytes_of 4 (packet_words w P)) before now 13 end
      by l Q e p g = going_end (rw (e, p) at g)
