-- Which plain rules a program as written stands for, and what they name.
-- Assumes nothing.
use mathlib.Core.Path.{◌≡◌}
use mathlib.Core.List.Memᴰ
use mathlib.Core.List.{List, ◌++◌, map}
use Prim.Native.Nat.{◌≤◌, max}
use native.Mathlib.Omega.{arith}
use lib.IntN.{ℤ}
use Rattle.words.specs.Lists.{◌∈◌}
use Rattle.words.specs.Literals.{top}
use Rattle.words.proofs.Lists.{join_all→, join_all←, concat-append}
use Rattle.weights.specs.Claims.{◌⊑◌, none, with_it, without}
use Rattle.weights.proofs.Sublists.{sublist-map}
use Rattle.weights.proofs.Minimal.{body→}
use Rattle.aspif.specs.Rules.{Rule, Body, plain, weights, InputRule, literals_of, bodies_of, with_body, expand_rule, expand, plain_atoms, rule_top, atoms}
use Rattle.aspif.proofs.RuleTests.{in-greatest, greatest-within}

-- a plain rule comes from one as written, with one of its bodies
pub record Expanded (ws : List InputRule) (r : Rule) : Type 0 where
  pub rule : InputRule
  pub among : rule ∈ ws
  pub body : List ℤ
  pub one : body ∈ bodies_of rule.body
  pub is : with_body rule body ≡ r

pub expand→ : {r : Rule} (ws : List InputRule) → r ∈ expand ws → Expanded ws r
unfolding expand expand_rule
expand→ {r} ws m =
    let l = join_all→ (map expand_rule ws) m in
    let w = Memᴰ.of_map expand_rule ws l.1 in
    let i : r ∈ expand_rule w.0 = rw w.2 l.2 in
    let b = Memᴰ.of_map (with_body w.0) (bodies_of w.0.body) i in
    record { rule = w.0; among = w.1; body = b.0; one = b.1; is = b.2 }

pub expand← : {w : InputRule} {ws : List InputRule} {ls : List ℤ} → w ∈ ws → ls ∈ bodies_of w.body → with_body w ls ∈ expand ws
unfolding expand expand_rule
expand← {w} i j = join_all← (Memᴰ.map expand_rule i) (Memᴰ.map (with_body w) j)

pub expand-append : (ws us : List InputRule) → expand (ws ++ us) ≡ expand ws ++ expand us
unfolding expand
expand-append = concat-append expand_rule

-- The atoms of the plain rules are among those of the rules as written

top_part : {s l : List ℤ} → s ⊑ l → top s ≤ top l
top_part none = omega arith
top_part (with_it {x = x} {s = s} {l = l} h) = let i = top_part h in omega arith
top_part (without {x = x} {s = s} {l = l} h) = let i = top_part h in omega arith

pub body_top : (b : Body) {ls : List ℤ} → ls ∈ bodies_of b → top ls ≤ top (literals_of b)
unfolding bodies_of
body_top (plain l) i = rw (Memᴰ.eq_of_singleton i) (omega arith)
body_top (weights b l) i =
    let s = body→ b l i in
    let h = top_part (sublist-map (λ x. x.literal) s.1) in
    rw (← s.3) h

pub plain-atoms : (ws : List InputRule) → plain_atoms (expand ws) ≤ atoms ws
plain-atoms ws = greatest-within (λ (r : Rule). max (top r.heads) (top r.body)) (atoms ws) (expand ws) (λ r i. small (expand→ ws i))
  where
    small : {r : Rule} → Expanded ws r → max (top r.heads) (top r.body) ≤ atoms ws
    small x =
        let t = body_top x.rule.body x.one in
        let a = in-greatest rule_top x.among in
        rw (← x.is) (omega arith)
