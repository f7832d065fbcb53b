-- Programs that a table holds are well formed, with weight bodies too, and what follows for them. Assumes nothing.
use mathlib.Core.Path.{◌≡◌, sym, subst}
use mathlib.Core.Bool.{true}
use mathlib.Core.Option.{some}
use mathlib.Core.List.Memᴰ
use mathlib.Core.List.{List}
use Prim.Native.Nat.{ℕ, ◌≤◌}
use native.Mathlib.Omega.{arith}
use lib.Dec.{T}
use lib.IntN.{ℤ, pos}
use lib.ListN.{length}
use borrow.Author.Tests.{leb-true}
use Rattle.words.specs.Lists.{◌∈◌}
use Rattle.words.specs.Limits.{most_literals}
use Rattle.words.specs.Literals.{variable, rising}
use Rattle.words.proofs.Lists.{itself, if-true, not-decides, all-decides}
use Rattle.words.proofs.Literals.{has-decides, variable-positive}
use Rattle.words.proofs.Tops.{top-le}
use Rattle.weights.specs.Claims.{◌⊑◌}
use Rattle.weights.proofs.Sublists.{itself as whole, in_whole, sublist-map, sublist-short}
use Rattle.weights.proofs.Minimal.{body→}
use Rattle.weights.proofs.Reordered.{rising_part}
use Rattle.aspif.specs.Rules.{Rule, Body, plain, weights, InputRule, literals_of, bodies_of, expand, rule_top, atoms, suits}
use Rattle.aspif.specs.declared.Kind.TheVariants.{Normal}
use Rattle.aspif.specs.Tables.{rules_of}
use Rattle.aspif.proofs.RuleTests.{in-greatest}
use Rattle.aspif.proofs.Expansion.{expand→}
use Rattle.aspif.proofs.Formed.{Formed}
use Rattle.aspif.proofs.Cursors.{rules-of}
use Rattle.aspif.proofs.Readable.{table_fits}
use Rattle.drupe.specs.Lines.{is_positive}
use Rattle.derivation.proofs.AsWritten.{as_written}
use Rattle.completeness.specs.Claims.{WellFormed, ReadWellFormed, ExactAsRead, CompleteReadWithin}
use Rattle.completeness.proofs.Complete.{complete}
use Rattle.completeness.proofs.Limits.{complete-within}
use Rattle.completeness.proofs.Exact.{exact}

-- a plain body has literals of the body as written, in their order
body-part : (b : Body) {ls : List ℤ} → ls ∈ bodies_of b → ls ⊑ literals_of b
unfolding bodies_of
body-part (plain l) i = subst (λ (k : List ℤ). k ⊑ l) (sym (Memᴰ.eq_of_singleton i)) (whole l)
body-part (weights b l) i =
    let s = body→ b l i in
    subst (λ (k : List ℤ). k ⊑ literals_of (weights b l)) s.3 (sublist-map (λ x. x.literal) s.1)

-- what holds of the plain rules of each rule
each-plain : (ws : List InputRule) (F : Rule → Type 0)
    → ((w : InputRule) → w ∈ ws → (ls : List ℤ) → ls ∈ bodies_of w.body → F (record { kind = w.kind; heads = w.heads; body = ls }))
    → (r : Rule) → r ∈ expand ws → F r
each-plain ws F f r m = let e = expand→ ws m in subst F e.is (f e.rule e.among e.body e.one)

module _ (ws : List InputRule) (formed : (w : InputRule) → w ∈ ws → Formed w) where
  abbrev N : ℕ
  N = atoms ws

  module _ (w : InputRule) (i : w ∈ ws) where
    head_of : (h : ℤ) → h ∈ w.heads → T (is_positive h) × (variable h ≤ N)
    head_of h j = (if-true (all-decides (λ h. itself (is_positive h)) w.heads) (formed w i).positive h j, omega (arith, top-le j, in-greatest rule_top i))

    literal-of : (x : ℤ) → x ∈ literals_of w.body → (1 ≤ variable x) × (variable x ≤ N)
    literal-of x j =
        let nonzero = (not-decides (has-decides (pos 0) (literals_of w.body))).to (rw (formed w i).nonzero tt) in
        (variable-positive x (λ p. nonzero (Memᴰ.cast (sym p) j)), omega (arith, top-le j, in-greatest rule_top i))

    one-head : w.kind ≡ Normal → length w.heads ≤ 1
    one-head e = leb-true (length w.heads) 1 (subst (λ k. suits k (length w.heads) ≡ true) e (formed w i).headed)

    module _ (ls : List ℤ) (j : ls ∈ bodies_of w.body) where
      literal-in : (x : ℤ) → x ∈ ls → (1 ≤ variable x) × (variable x ≤ N)
      literal-in x k = literal-of x (in_whole k (body-part w.body j))

      rises : rising ls ≡ true
      rises = rising_part (body-part w.body j) (formed w i).body-rise

  well-formed : WellFormed N (expand ws)
  well-formed = record {
    heads = each-plain ws _ (λ w i ls j. head_of w i);
    single = each-plain ws _ (λ w i ls j. one-head w i);
    literals = each-plain ws _ (λ w i ls j. literal-in w i ls j);
    bodies = each-plain ws _ (λ w i ls j. rises w i ls j);
  }

-- the rules that a table holds
formed-rules : (table : List ℤ) (rules : ℕ) (ws : List InputRule) → rules_of table rules ≡ some ws → (w : InputRule) → w ∈ ws → Formed w
formed-rules table rules ws e w i = let p = rules-of table rules ws e in (table_fits table rules p.0).formed w (rw p.1 i)

pub read-well-formed : ReadWellFormed
read-well-formed table rules ws e = well-formed ws (formed-rules table rules ws e)

pub exact-as-read : ExactAsRead
exact-as-read table rules ws e =
    let wf = read-well-formed table rules ws e in
    (complete (atoms ws) (expand ws) wf, λ ts r. as_written ws ((exact (atoms ws) (expand ws) wf).1 ts r))

-- the bodies of a program that is read are short
short : (ws : List InputRule) → ((w : InputRule) → w ∈ ws → Formed w) → (r : Rule) → r ∈ expand ws → length r.body ≤ most_literals
short ws formed = each-plain ws _ (λ w i ls j. omega (arith, sublist-short (body-part w.body j), (formed w i).body-few))

pub complete-read-within : CompleteReadWithin
complete-read-within table rules ws e a b c =
    complete-within (atoms ws) (expand ws) (read-well-formed table rules ws e) a b (short ws (formed-rules table rules ws e)) c
