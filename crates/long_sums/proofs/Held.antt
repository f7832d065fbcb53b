-- Rules that stand in a table, with sums of up to 64 literals. Assumes nothing.
use mathlib.Core.Path.{◌≡◌, refl, sym, ap, subst, ◌∙◌}
use mathlib.Core.Bool.{true}
use mathlib.Core.List.Memᴰ
use mathlib.Core.List.{List, [], ◌∷◌, ◌++◌, append_assoc}
use Prim.Native.Nat.{ℕ, ◌-◌, ◌<◌}
use lib.IntN.{ℤ}
use lib.ListN.{length, drop}
use lib.Seq.{drop_at}
use Rattle.words.specs.Lists.{◌∈◌}
use Rattle.words.specs.Limits.{most_literals}
use Rattle.words.proofs.Lists.{one_less}
use Rattle.aspif.specs.Rules.{InputRule, rule_words, program_words}
use Rattle.aspif.specs.Tables.{size_at, rule_at, rules_at, shape_sound}
use Rattle.aspif.specs.Claims.{FormedWithin}
use Rattle.aspif.proofs.Readable.{rule-at, rest_at, shape-words}
use Rattle.long_sums.specs.Program.{RuleHeld, RulesHeld}

-- the rules whose words stand at the front are those that are read there
pub rules-there : (rs : List InputRule) (t : List ℤ) → rules_at (length rs) (program_words rs ++ t) ≡ rs
rules-there [] t = refl
rules-there (r ∷ rs) t =
    let e = append_assoc (rule_words r) (program_words rs) t in
    rw (e, rule-at r (program_words rs ++ t), rest_at r (program_words rs ++ t)) (ap (λ (l : List InputRule). r ∷ l) (rules-there rs t))

-- a rule that is formed, and so many, whatever stands behind them

pub rule-held : (ws rest : List ℤ) → ws ≡ rule_words (rule_at ws) ++ rest → FormedWithin most_literals (rule_at ws) → RuleHeld ws
rule-held ws rest e f =
    let d : drop (size_at ws) ws ≡ rest = ap (λ (l : List ℤ). drop (size_at l) l) e ∙ rest_at (rule_at ws) rest in
    record { words = e ∙ ap (λ (l : List ℤ). rule_words (rule_at ws) ++ l) (sym d); formed = f }

pub rules-held : (n : ℕ) (ws rest : List ℤ) → ws ≡ program_words (rules_at n ws) ++ rest → ((r : InputRule) → r ∈ rules_at n ws → FormedWithin most_literals r)
    → RulesHeld n ws
rules-held n ws rest e f =
    let k = length (program_words (rules_at n ws)) in
    let d : drop k ws ≡ rest = ap (drop k) e ∙ drop_at (program_words (rules_at n ws)) rest k refl in
    record { words = e ∙ ap (λ (l : List ℤ). program_words (rules_at n ws) ++ l) (sym d); formed = f }

pub all_held : (rs : List InputRule) (t ws : List ℤ) → ((r : InputRule) → r ∈ rs → FormedWithin most_literals r) → ws ≡ program_words rs ++ t
    → RulesHeld (length rs) ws
all_held rs t ws f e =
    let r : rules_at (length rs) ws ≡ rs = ap (rules_at (length rs)) e ∙ rules-there rs t in
    rules-held (length rs) ws t (e ∙ ap (λ (l : List InputRule). program_words l ++ t) (sym r)) (λ x i. f x (subst (λ (l : List InputRule). x ∈ l) r i))

-- one rule after another

pub held-shape : (ws : List ℤ) → RuleHeld ws → shape_sound ws ≡ true
held-shape ws h = ap shape_sound h.words ∙ shape-words (rule_at ws) h.formed (drop (size_at ws) ws)

module _ (ws : List ℤ) (n : ℕ) (more : 0 < n) (h : RulesHeld n ws) where
  abbrev later : List InputRule
  later = rules_at (n - 1) (drop (size_at ws) ws)

  abbrev rest : List ℤ
  rest = drop (length (program_words (rules_at n ws))) ws

  first : rules_at n ws ≡ rule_at ws ∷ later
  first = ap (λ (k : ℕ). rules_at k ws) (one_less n more)

  words : ws ≡ rule_words (rule_at ws) ++ (program_words later ++ rest)
  words = h.words ∙ ap (λ (rs : List InputRule). program_words rs ++ rest) first ∙ append_assoc (rule_words (rule_at ws)) (program_words later) rest

  -- the rule that stands first
  pub first-held : RuleHeld ws
  first-held = rule-held ws (program_words later ++ rest) words (h.formed (rule_at ws) (subst (λ (l : List InputRule). rule_at ws ∈ l) (sym first) (Memᴰ.head refl)))

  -- and those behind it
  pub later-held : RulesHeld (n - 1) (drop (size_at ws) ws)
  later-held =
      rules-held (n - 1) (drop (size_at ws) ws) rest (ap (λ (l : List ℤ). drop (size_at l) l) words ∙ rest_at (rule_at ws) (program_words later ++ rest))
      (λ r m. h.formed r (subst (λ (l : List InputRule). r ∈ l) (sym first) (Memᴰ.tail m)))
