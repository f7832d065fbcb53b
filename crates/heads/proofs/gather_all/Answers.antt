use mathlib.Core.Path.{◌≡◌, sym, ap, subst, ◌∙◌}
use mathlib.Core.Logic.{inl, inr}
use mathlib.Core.Bool.{true}
use mathlib.Core.List.{List}
use Prim.Native.Nat.{ℕ, ◌+◌, ◌≤◌, ◌<◌}
use native.Mathlib.Omega.{arith}
use lib.IntN.{ℤ, pos}
use lib.ListN.{get_or}
use Rattle.words.specs.Limits.{largest}
use Rattle.words.specs.Lists.{◌∈◌}
use Rattle.words.specs.Literals.{variable}
use Rattle.words.proofs.Places.{equal?, in-at}
use Rattle.words.proofs.Words.{back}
use Rattle.marks.specs.Marks.{marked}
use Rattle.heads.specs.Heads.{HasHead, Gathered}
use Rattle.heads.proofs.Externals.{Got, in-row-keeps, none-collected, atom-marked, external-head}
use borrow.Author.Rules.{rules}
use Rattle.heads.proofs.gather_all.Goals as goal
use Rattle.heads.proofs.gather_all.Goals.{After-variable_of}

pub loop-atom-init : goal.loop-atom-init
loop-atom-init c =
    let a = c.args in
    (none-collected a.table.now a.rules a.names.now a.inside.now a.row.now c.requires.row, λ j h. absurd (omega arith))

-- the atom at hand
module _ (c : After-variable_of) where
  abbrev i : ℕ
  i = c.loop-atom.atom-index

  abbrev x : ℤ
  x = get_or c.args.atoms.now i (pos 0)

  tells : c.variable_of.result ≡ variable x
  tells = rw (back x (search rules)) at c.variable_of.ensures

  among : x ∈ c.args.atoms.now
  among = in-at (pos 0) c.args.atoms.now i c.loop-atom-test.true

  good : (1 ≤ variable x) × (variable x ≤ largest) × (marked c.args.inside.now (variable x) ≡ true)
  good =
      let b = c.requires.set.1 x among in
      (b.0, b.1, atom-marked c.args.inside.now c.args.atoms.now c.requires.set.0 x among b.1)

pub gather_head-requires : goal.gather_head-requires
gather_head-requires c = let v = (goal.at.gather_head-requires c).After-variable_of in
    let p = v.requires in record { index = p.index; head = subst (λ n. (1 ≤ n) × (n ≤ largest) × (marked v.args.inside.now n ≡ true)) (sym (tells v)) (good v); row = v.loop-atom.invariant.0 }

pub returns-in_err-count : goal.returns-in_err-count
returns-in_err-count c = rw c.from_residual.ensures c.in_err-count.ensures

-- one atom more
got-on : (t : List ℤ) (rules : ℕ) (names m : List ℕ) (atoms before row : List ℤ) (i v count r : ℕ) → v ≡ variable (get_or atoms i (pos 0))
    → Gathered t rules names m (HasHead t rules v) before count row r
    → ((j : ℕ) → j < i → (k : ℕ) → HasHead t rules (variable (get_or atoms j (pos 0))) k → Got t rules names m before count k)
    → (j : ℕ) → j < i + 1 → (k : ℕ) → HasHead t rules (variable (get_or atoms j (pos 0))) k → Got t rules names m row r k
got-on t rules names m atoms before row i v count r e G f j b k H X = elim (equal? j i) [
  | inl q ↦ G.all k (subst (λ u. HasHead t rules u k) (ap (λ n. variable (get_or atoms n (pos 0))) q ∙ sym e) H) X
  | inr d ↦ in-row-keeps before row count r G.keeps _ (f j (omega (arith, b, d)) k H X)
]

pub loop-atom-preserved : goal.loop-atom-preserved
loop-atom-preserved c =
    let v = (goal.at.loop-atom-preserved c).After-variable_of in
    let l = v.loop-atom in
    let a = v.args in
    let G = c.in_ok-count.ensures in
    (G.collected, got-on a.table.now a.rules a.names.now a.inside.now a.atoms.now l.row c.gather_head.new.row l.atom-index _ l.count c.in_ok-count.count (tells v) G l.invariant.1)

pub returns : goal.returns
returns c =
    let a = c.args in
    let l = c.loop-atom in
    record {
      collected = l.invariant.0;
      keeps = λ x i. elim i [ ];
      all = λ k u X.
          let q = external-head a.table.now a.rules a.inside.now a.atoms.now c.requires.index.1 c.requires.set.0 k X in
          l.invariant.1 q.0 (omega (arith, q.1, c.loop-atom-test.false)) k q.2 X;
    }
