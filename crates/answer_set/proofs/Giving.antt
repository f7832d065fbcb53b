-- Rules given in any order, on the way to the least model: the rounds come to the same marks from there. And where the rules of a table begin.
-- Assumes nothing.
use mathlib.Core.Path.{◌≡◌, refl, sym, ◌∙◌, ap, subst}
use mathlib.Core.Bool.{Bool, true, false, true≢false}
use mathlib.Core.List.Memᴰ
use mathlib.Core.List.{List, [], ◌∷◌}
use Prim.Native.Nat.{ℕ, ◌-◌, ◌+◌, ◌<◌}
use native.Mathlib.Omega.{arith}
use borrow.Author.Tests.{ltb-true, ltb-false, eqb-true, eqb-false}
use lib.Dec.{T, eqb, ltb}
use lib.IntN.{ℤ}
use lib.ListN.{length, drop, get_or, set, replicate, length-replicate}
use lib.Seq.{drop-drop, get_or-set_same, get_or-set_other, set_out}
use Rattle.words.specs.Limits.{entries}
use Rattle.words.specs.Lists.{◌∈◌}
use Rattle.words.proofs.Laws.{padded}
use Rattle.words.proofs.Lists.{itself, passed}
use Rattle.aspif.specs.Rules.{InputRule, atoms}
use Rattle.aspif.specs.Tables.{size_at, starts_at, rules_at, sound_rules}
use Rattle.aspif.proofs.Cursors.{Cursor, at-rule, atoms-small, starts-on, starts-length}
use Rattle.marks.proofs.Sets.{none-marked}
use Rattle.answer_set.specs.SetTest.{give_rule, rounds, least}
use Rattle.answer_set.specs.Private.{RuleStart, RuleStarts, Given, nothing, more}
use Rattle.answer_set.proofs.LeastModels.{rounds-given}
use Rattle.answer_set.proofs.Answered.{sound-heads, head_of, no_bits}

-- Where rules begin

-- a loop over the table stands at word i, with so many rules left, which begin at `ahead`, and what it has noted are rules
pub record StartsSoFar (t : List ℤ) (rules left i : ℕ) (starts : List ℕ) (ahead : List (List ℤ)) : Type 0 where
  pub ahead_is : ahead ≡ starts_at left (drop i t)
  pub cursor : Cursor t left i
  pub noted : RuleStarts t rules starts
  pub rest : (r : InputRule) → r ∈ rules_at left (drop i t) → r ∈ rules_at rules t

-- a turn of the loop: the rule that is next begins at word i, where ws begins
pub record NextStart (t : List ℤ) (rules left i : ℕ) (starts : List ℕ) (ws : List ℤ) (more : List (List ℤ)) : Type 0 where
  pub is_left : 0 < left
  pub so_many : length more ≡ left - 1
  pub after : StartsSoFar t rules (left - 1) (i + size_at ws) (set starts left i) more

module _ {t : List ℤ} {rules : ℕ} where
  -- the rule that the loop stands at
  start-here : {left i : ℕ} → 0 < left → Cursor t left i → ((r : InputRule) → r ∈ rules_at left (drop i t) → r ∈ rules_at rules t) → RuleStart t rules i
  start-here h c s = let a = at-rule h c in record { within = c.within; sound = a.sound; among = s _ (rw a.rules (Memᴰ.head refl)) }

  pub no-starts : (n : ℕ) → 0 < rules → sound_rules rules t ≡ true → StartsSoFar t rules rules 0 (replicate n 0) (starts_at rules t)
  no-starts n h e =
      let c : Cursor t rules 0 = record { within = omega arith; sound = e } in
      record { ahead_is = refl; cursor = c; noted = λ k. rw (padded {A = ℕ} 0 [] n k) (start-here h c (λ r i. i)); rest = λ r i. i }

  noted-on : {left i : ℕ} {starts : List ℕ} {ahead : List (List ℤ)} → 0 < left → (k : ℕ) → StartsSoFar t rules left i starts ahead
      → StartsSoFar t rules (left - 1) (i + size_at (drop i t)) (set starts k i) (starts_at (left - 1) (drop (i + size_at (drop i t)) t))
  noted-on {left} {i} {starts} h k s =
      let a = at-rule h s.cursor in
      record {
        ahead_is = refl;
        cursor = a.next;
        noted = λ v. by v (eqb v k) refl (ltb k (length starts)) refl;
        rest = λ r j. s.rest r (rw a.rules (Memᴰ.tail j));
      }
    where
      by : (v : ℕ) (b : Bool) → eqb v k ≡ b → (c : Bool) → ltb k (length starts) ≡ c → RuleStart t rules (get_or (set starts k i) v 0)
      by v true e true f = rw (eqb-true v k e, get_or-set_same starts k i 0 (ltb-true k (length starts) f)) (start-here h s.cursor s.rest)
      by v true e false f = rw (set_out starts k i (ltb-false k (length starts) f)) (s.noted v)
      by v false e c f = rw (get_or-set_other starts k v i 0 (eqb-false v k e)) (s.noted v)

  module _ {left i : ℕ} {starts : List ℕ} {ahead : List (List ℤ)} (s : StartsSoFar t rules left i starts ahead) {ws : List ℤ} {more : List (List ℤ)} (e : ahead ≡ ws ∷ more) where
    is-left : 0 < left
    is-left = omega (arith, starts-length left (drop i t), ap length (sym s.ahead_is ∙ e))

    both : drop i t ∷ starts_at (left - 1) (drop (size_at (drop i t)) (drop i t)) ≡ ws ∷ more
    both = sym (starts-on left (drop i t) is-left) ∙ sym s.ahead_is ∙ e

    here : drop i t ≡ ws
    here = let p = both in cc

    rest-is : starts_at (left - 1) (drop (size_at (drop i t)) (drop i t)) ≡ more
    rest-is = let p = both in cc

    pub next-start : NextStart t rules left i starts ws more
    next-start = rw (← here, ← rest-is, drop-drop (size_at (drop i t)) i t) (record { is_left = is-left; so_many = starts-length (left - 1) _; after = noted-on is-left left s })

-- The least model, from marks that rules of the table have given

module _ (M : ℕ → Bool) (table : List ℤ) (rules : ℕ) (sound : sound_rules rules table ≡ true) where
  abbrev rs : List InputRule
  rs = rules_at rules table

  from-none : (k : ℕ) → atoms rs < k → {n : List ℕ} → Given M rs (replicate k 0) n → rounds M (atoms rs) rs n ≡ rounds M (atoms rs) rs (replicate k 0)
  from-none k h g =
      rounds-given M (λ v. T (M v)) (λ v. itself (M v)) rs (atoms rs) (λ r i. head_of rs r i (sound-heads rules table sound i)) (rw (length-replicate k) h) (no_bits k)
      (λ v t. true≢false (sym ((passed _).to t) ∙ none-marked k v)) g

  pub least-given : {N : ℕ} {m n after : List ℕ} → N ≡ atoms rs → length m ≡ entries → m ≡ replicate (length m) 0 → Given M rs m n → after ≡ rounds M N rs n → after ≡ least M rs
  unfolding least
  least-given {n} i l e g a =
      let h = atoms-small rules table sound in
      a ∙ rw i (from-none entries (omega arith) (subst (λ k. Given M rs (replicate k 0) n) l (subst (λ k. Given M rs k n) e g)))

pub given-on : {M : ℕ → Bool} {rs : List InputRule} {m n o : List ℕ} → Given M rs m n → Given M rs n o → Given M rs m o
given-on p nothing = p
given-on p (more r i g) = more r i (given-on p g)

pub given-one : {M : ℕ → Bool} {rs : List InputRule} {m n : List ℕ} {r : InputRule} → r ∈ rs → n ≡ give_rule M r m → Given M rs m n
given-one {M} {rs} {m} {r} i e = subst (Given M rs m) (sym e) (more r i nothing)
