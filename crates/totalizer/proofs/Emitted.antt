-- Rules' lines one after another: none, one, and two lists of them. Assumes nothing.
use mathlib.Core.Path.{◌≡◌, refl, sym, subst, ◌∙◌}
use mathlib.Core.List.{List, [], ◌∷◌, ◌++◌, append-nil}
use Prim.Native.Nat.{ℕ, ◌+◌, ◌*◌, ◌≤◌, ◌<◌}
use native.Mathlib.Omega.{arith}
use lib.IntN.{ℤ}
use lib.ListN.{length, length-append}
use Rattle.words.specs.Limits.{most_rules}
use Rattle.words.proofs.Lists.{concat-append}
use Rattle.text.specs.Writing.{Put}
use Rattle.text.proofs.Puts.{put_on, put-none}
use Rattle.aspif.specs.Rules.{InputRule}
use Rattle.aspif.specs.Text.{rule_numbers, rule_text}
use Rattle.totalizer.specs.declared.texts.Place.{Place}
use Rattle.totalizer.specs.Emitting.{most_line, line_of, texts_of, Bounded, Emits}

-- the line of a rule is that of its numbers
rule-line : (r : InputRule) → texts_of (r ∷ []) ≡ line_of (rule_numbers r)
unfolding line_of rule_text
rule-line r = append-nil (rule_text r)

module _ (before : List ℕ) (p : Place) (b : Bounded p) where
  pub emits_none : Emits [] before before p p
  emits_none = record {
    rules = omega (arith, b.counted);
    text = λ h. put-none before p.at;
    long = refl;
    bounded = b;
  }

  -- where there are too many already, whatever comes changes nothing
  pub emits-full : (rs : List InputRule) → most_rules < p.rules → Emits rs before before p p
  emits-full rs h = record {
    rules = omega (arith, b.counted, h);
    text = λ k. absurd (omega (arith, h, k));
    long = refl;
    bounded = b;
  }

  pub emits-last : (r : InputRule) → p.rules ≡ most_rules → Emits (r ∷ []) before before p (record { at = p.at; rules = 1025 })
  emits-last r h = record {
    rules = omega (arith, h);
    text = λ k. absurd (omega (arith, k));
    long = refl;
    bounded = record { counted = omega arith; low = omega (arith, b.low, h) };
  }

  -- one rule
  pub emits-put : (r : InputRule) → p.rules < most_rules → {after : List ℕ} {next : ℕ}
      → Put (line_of (rule_numbers r)) before after p.at next → next ≤ p.at + (22 * most_line + 2) → length after ≡ length before
      → Emits (r ∷ []) before after p (record { at = next; rules = p.rules + 1 })
  emits-put r h {after} {next} q k l = record {
    rules = omega (arith, h);
    text = λ m. subst (λ (t : List ℕ). Put t before after p.at next) (sym (rule-line r)) q;
    long = l;
    bounded = record { counted = omega (arith, h); low = omega (arith, b.low, k) };
  }

  -- of which the numbers are at hand
  pub emits_one : (r : InputRule) (zs : List ℤ) → rule_numbers r ≡ zs → length zs ≤ most_line → p.rules < most_rules → {after : List ℕ} {next : ℕ}
      → Put (line_of zs) before after p.at next → next ≤ p.at + (22 * length zs + 2) → length after ≡ length before
      → Emits (r ∷ []) before after p (record { at = next; rules = p.rules + 1 })
  emits_one r zs e few h {after} {next} q k l =
      emits-put r h (subst (λ (t : List ℤ). Put (line_of t) before after p.at next) (sym e) q) (omega (arith, k, few)) l

-- one list of rules after another
pub emits-on : {rs ss : List InputRule} {before between after : List ℕ} {p q s : Place} → Emits rs before between p q → Emits ss between after q s
    → Emits (rs ++ ss) before after p s
emits-on {rs} {ss} {before} {between} {after} {p} {q} {s} e f = record {
  rules = omega (arith, e.rules, f.rules, length-append rs ss);
  text = λ h. subst (λ (t : List ℕ). Put t before after p.at s.at) (sym (concat-append rule_text rs ss))
      (put_on (e.text (omega (arith, e.rules, f.rules, h))) (f.text h));
  long = f.long ∙ e.long;
  bounded = f.bounded;
}
