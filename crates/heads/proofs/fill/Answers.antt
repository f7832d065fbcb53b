use mathlib.Core.Path.{◌≡◌, refl, sym, ap, subst, ◌∙◌}
use mathlib.Core.Logic.{inl}
use mathlib.Core.Bool.{true}
use mathlib.Core.List.{List, [], map}
use Prim.Native.Nat.{ℕ, suc, ◌+◌, ◌≤◌, ◌<◌}
use native.Mathlib.Numerals.{add-one}
use native.Mathlib.Omega.{arith}
use borrow.Author.Tests.{eqb-true}
use lib.IntN.{ℤ}
use lib.ListN.{length, get_or, length-append, length-map, length-replicate}
use Rattle.words.proofs.Laws.{padded}
use Rattle.aspif.specs.Tables.{starts_at, size_at, heads_at}
use Rattle.aspif.proofs.Cursors.{shape_of, starts-length}
use Rattle.heads.specs.Heads.{start_of, words_from, index_words, covered, headed_by, headed_to, Entered, Covers}
use Rattle.heads.proofs.Starts.{At, at_first, at-next, at-end, start_first, start-on, heads-few}
use Rattle.heads.proofs.Entering.{heads-on, none-entered, entered-flag}
use borrow.Author.Rules.{rules}
use Rattle.heads.proofs.fill.Goals as goal
use Rattle.heads.proofs.fill.Goals.{After-heads-heads}

-- no rule
no-heads : (t : List ℤ) → ◌≡◌ {A = ℕ} 0 (length (headed_to 0 t))
unfolding headed_to
no-heads t = refl

pub loop-k-init-derived : goal.loop-k-init-derived
loop-k-init-derived c =
    let s = c.ranges.rules.fits in
    let n = starts-length c.rules_in.result.left c.rules_in.result.words.now in
    rw (c.into_iter-k-iterator.ensures.into_iter_gives, c.enumerate-k-items.ensures.source, c.enumerate-k-items.ensures.count) ((tt, tt, inl (omega (arith, n, c.rules_in.ensures.start.1, s))), tt)

pub loop-k-init : goal.loop-k-init
loop-k-init c =
    let t = c.args.table.now in
    let e = c.requires.zero in
    rw (c.into_iter-k-iterator.ensures.into_iter_gives, c.enumerate-k-items.ensures.source, c.enumerate-k-items.ensures.count, c.rules_in.ensures.start.0, c.rules_in.ensures.start.1) (
      at_first t c.args.rules,
      sym (start_first t),
      no-heads t,
      subst (λ l. Entered l t 0) (sym e) (none-entered t),
      ap (λ l. get_or l 0 0) e ∙ padded {A = ℕ} 0 [] index_words 0,
      refl,
    )

-- the next rule
next_start : (k : ℕ) (t : List ℤ) {i r : ℕ} → i ≡ start_of k t → r ≡ size_at (words_from k t) → i + r ≡ start_of (k + 1) t
next_start k t e f = rw (add-one, start-on k t, e, f)

next-heads : (k : ℕ) (t : List ℤ) {n : ℕ} {hs : List ℤ} → n ≡ length (headed_to k t) → hs ≡ heads_at (words_from k t) → n + length hs ≡ length (headed_to (k + 1) t)
next-heads k t f g =
    rw (add-one, heads-on k t, g)
    (omega (arith, f, length-append (headed_to k t) (map (headed_by k) (heads_at (words_from k t))), length-map (heads_at (words_from k t)) (headed_by k)))

-- an index that says nothing
nothing_said : {index : List ℕ} {t : List ℤ} {rules : ℕ} → get_or index 0 0 ≡ 0 → covered index ≡ true → Covers index t rules
nothing_said {index} e c = absurd (omega (arith, e, eqb-true (get_or index 0 0) 1 c))

-- the heads of the rule at hand
module _ (c : After-heads-heads) where
  here : (let a = c.args in
      let k = c.loop-k.k-iterator.count in
      let after = c.next.new.self.iter in
      (k < a.rules) × (c.in-Some.rule.words.now ≡ words_from k a.table.now) × At a.table.now a.rules (k + 1) (starts_at after.left after.words.now))
  here = at-next c.args.table.now c.args.rules c.loop-k.k-iterator.count c.loop-k.invariant.0 c.in-Some.ensures.steps.0

  room : (c.loop-k.n ≤ 8192) × (length c.heads-heads.result.now ≤ 64)
  room = (
    omega (arith, c.loop-k.invariant.2, c.loop-k.invariant.3.heads.few),
    rw c.heads-heads.ensures (heads-few c.in-Some.rule.words.now (shape_of c.in-Some.rule.words.now c.in-Some.rule.sound)),
  )

pub returns-then-at-gt-LONGEST : goal.returns-then-at-gt-LONGEST
returns-then-at-gt-LONGEST c = nothing_said c.loop-k.invariant.4

pub overflow_add-n : goal.overflow_add-n
overflow_add-n c = let w = room (goal.at.overflow_add-n c).After-heads-heads in search rules

pub returns-then-n-heads-gt-MOST_HEADS : goal.returns-then-n-heads-gt-MOST_HEADS
returns-then-n-heads-gt-MOST_HEADS c = nothing_said c.loop-k.invariant.4

pub enter_rule-requires : goal.enter_rule-requires
enter_rule-requires c =
    let h = here (goal.at.enter_rule-requires c).After-heads-heads in (
      c.loop-k.invariant.5 ∙ ap length c.requires.zero ∙ length-replicate {A = ℕ} index_words 0,
      omega (arith, h.0, c.in-Some.ensures.steps.1, c.requires.program.2),
      c.if-at-gt-LONGEST.false,
      rw c.heads-heads.ensures at c.if-n-heads-gt-MOST_HEADS.false,
    )

pub overflow_add-n-in-loop-k : goal.overflow_add-n-in-loop-k
overflow_add-n-in-loop-k c = let w = room (goal.at.overflow_add-n-in-loop-k c).After-heads-heads in search rules

pub loop-k-preserved : goal.loop-k-preserved
loop-k-preserved c =
    let g = c.enter_rule in
    let h = here (goal.at.loop-k-preserved c).After-heads-heads in
    let l = c.loop-k in
    let k = l.k-iterator.count in
    let t = c.args.table.now in
    let E : Entered g.new.index t (suc c.in-Some.k) = g.ensures.entered t (rw c.in-Some.ensures.steps.1 h.1) (rw c.in-Some.ensures.steps.1 l.invariant.1) (rw c.in-Some.ensures.steps.1 (sym l.invariant.2)) (rw c.in-Some.ensures.steps.1 l.invariant.3) in
    rw c.in-Some.ensures.steps.2 (
      h.2,
      next_start k t l.invariant.1 (c.size-at.ensures.size.0 ∙ ap size_at h.1),
      next-heads k t l.invariant.2 (c.heads-heads.ensures ∙ ap heads_at h.1),
      subst (Entered g.new.index t) (omega (arith, c.in-Some.ensures.steps.1)) E,
      g.ensures.first ∙ l.invariant.4,
      g.auto.index ∙ l.invariant.5,
    )

pub bounds-index-0 : goal.bounds-index-0
bounds-index-0 c = omega (arith, c.loop-k.invariant.5, ap length c.requires.zero, length-replicate {A = ℕ} index_words 0)

pub returns : goal.returns
returns c =
    let l = c.loop-k in
    let t = c.args.table.now in
    let e = at-end t c.args.rules l.k-iterator.count l.invariant.0 c.in-None.ensures.steps.0.0 in
    λ q. record { entered = subst (Entered _ t) e (entered-flag 1 l.invariant.3); plain = c.requires.program.1 }
