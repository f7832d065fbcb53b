-- The text of rules is the text of no other rules: `printed-once`.
-- Assumes nothing.
use mathlib.Core.Path.{◌≡◌, refl, sym, ◌∙◌, ap, ap₂}
use mathlib.Core.List.{List, [], ◌∷◌, ◌++◌, append-nil}
use Prim.Native.Nat.{ℕ}
use lib.IntN.{ℤ, pos}
use lib.ListN.{length, take, drop}
use lib.Seq.{take-append_seam, drop-append_seam}
use Rattle.words.proofs.Lists.{zero_one}
use Rattle.text.specs.Line.{numbers, line_of}
use Rattle.text.proofs.Decimals.{line_bytes, line_read}
use Rattle.weights.specs.Weights.{paired}
use Rattle.weights.proofs.Matching.{paired_words}
use Rattle.aspif.specs.Rules.{Body, plain, weights, InputRule, kind_word}
use Rattle.aspif.specs.Text.{body_numbers, rule_numbers, rule_text, rules_text, program_text}
use Rattle.aspif.specs.declared.Kind.{Kind}
use Rattle.aspif.specs.declared.Kind.TheVariants.{Normal, Choice}
use Rattle.aspif.proofs.Spelled.{rule-line, last_line, same_numbers}
use Rattle.soundness.specs.Page.{PrintedOnce}

-- Numbers of a rule

same-pos : {m n : ℕ} → pos m ≡ pos n → m ≡ n
same-pos e = cc

pub same-cons : {A : Type 0} {x y : A} {k l : List A} → x ∷ k ≡ y ∷ l → (x ≡ y) × (k ≡ l)
same-cons e = (cc, cc)

-- lists that begin with parts of one length
same_parts : {A : Type 0} (a b k l : List A) → a ++ k ≡ b ++ l → length a ≡ length b → (a ≡ b) × (k ≡ l)
same_parts a b k l e n = (
  sym (take-append_seam a k) ∙ ap₂ (λ (i : ℕ) (t : List _). take i t) n e ∙ take-append_seam b l,
  sym (drop-append_seam a k) ∙ ap₂ (λ (i : ℕ) (t : List _). drop i t) n e ∙ drop-append_seam b l,
)

same_kind : (j k : Kind) → kind_word j ≡ kind_word k → j ≡ k
same_kind Normal Normal e = refl
same_kind Normal Choice e = absurd (zero_one (same-pos e))
same_kind Choice Normal e = absurd (zero_one (sym (same-pos e)))
same_kind Choice Choice e = refl

same_body : (a b : Body) → body_numbers a ≡ body_numbers b → a ≡ b
same_body (plain k) (plain l) e = ap plain (same-cons (same-cons e).1).1
same_body (plain k) (weights b l) e = absurd (zero_one (same-pos (same-cons e).0))
same_body (weights a k) (plain l) e = absurd (zero_one (sym (same-pos (same-cons e).0)))
same_body (weights a k) (weights b l) e =
    let f = same-cons (same-cons e).1 in
    ap₂ weights (same-pos f.0) (sym (paired_words k) ∙ ap paired (same-cons f.1).1 ∙ paired_words l)

made : {j k : Kind} {g h : List ℤ} {a b : Body} → j ≡ k → g ≡ h → a ≡ b
    → ◌≡◌ {A = InputRule} (record { kind = j; heads = g; body = a }) (record { kind = k; heads = h; body = b })
made p q s = rw (p, q, s)

same-rule : (r s : InputRule) → rule_numbers r ≡ rule_numbers s → r ≡ s
same-rule r s e =
    let f = same-cons e in
    let g = same-cons f.1 in
    let p = same_parts r.heads s.heads (body_numbers r.body) (body_numbers s.body) g.1 (same-pos g.0) in
    made (same_kind r.kind s.kind f.0) p.0 (same_body r.body s.body p.1)

-- Lines

rule-read : (r : InputRule) (t : List ℕ) → line_of (rule_text r ++ t) ≡ numbers (pos 1 ∷ rule_numbers r) (length (rule_text r))
rule-read r t = rw (rule-line r) (line_read (pos 1) (rule_numbers r) t)

last-read : line_of (rules_text []) ≡ numbers (pos 0 ∷ []) (length (line_bytes (pos 0) []))
last-read = ap line_of (last_line ∙ sym (append-nil (line_bytes (pos 0) []))) ∙ line_read (pos 0) [] []

pub rules-once : (ws vs : List InputRule) → rules_text ws ≡ rules_text vs → ws ≡ vs
unfolding rules_text
rules-once [] [] e = refl
rules-once [] (s ∷ vs) e = absurd (zero_one (same-pos (same-cons (same_numbers (sym last-read ∙ ap line_of e ∙ rule-read s (rules_text vs))).0).0))
rules-once (r ∷ ws) [] e = absurd (zero_one (same-pos (same-cons (same_numbers (sym last-read ∙ ap line_of (sym e) ∙ rule-read r (rules_text ws))).0).0))
rules-once (r ∷ ws) (s ∷ vs) e =
    let q = same_numbers (sym (rule-read r (rules_text ws)) ∙ ap line_of e ∙ rule-read s (rules_text vs)) in
    let p = same_parts (rule_text r) (rule_text s) (rules_text ws) (rules_text vs) e q.1 in
    ap₂ (λ (x : InputRule) (l : List InputRule). x ∷ l) (same-rule r s (same-cons q.0).1) (rules-once ws vs p.1)

pub printed-once : PrintedOnce
unfolding program_text
printed-once ws vs e = rules-once ws vs (ap (drop 10) e)
