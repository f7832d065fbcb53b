use mathlib.Core.Path.{◌≡◌, refl, sym, ◌∙◌}
use mathlib.Core.Bool.{and-false}
use mathlib.Core.List.{List}
use Prim.Native.Nat.{ℕ, ◌+◌, ◌*◌, ◌-◌, ◌≤◌}
use native.Mathlib.Omega.{arith}
use lib.IntN.{ℤ}
use lib.ListN.{length}
use Rattle.words.specs.Literals.{ascending}
use Rattle.weights.specs.Weights.{literals, paired}
use Rattle.aspif.specs.Reading.{heads_good, body_good}
use Rattle.aspif.specs.Turns.{row_heads, row_pairs}
use Rattle.aspif.proofs.Rows.{weighed-fails, literals-long, row-long, ranged-kept, weighed-reads}
use Rattle.aspif.proofs.rules.take_pairs.Goals as goal
use Rattle.aspif.proofs.rules.take_pairs.Goals.{After-sort_body}

module _ (c : After-sort_body) where
  abbrev row : List ℤ
  row = c.args.row.now

  abbrev h : ℕ
  h = c.args.heads

  abbrev b : ℕ
  b = length c.args.literals.now

  abbrev hs : List ℤ
  hs = c.sort_heads-good.new.part

  abbrev ls : List ℤ
  ls = c.sort_body.new.part

  abbrev fits : 6 + h + 2 * b ≤ length row
  fits = c.requires.sizes.2

  -- the heads and the pairs are whole parts of the row
  eh : 3 + h - 3 ≡ h
  eh = omega arith

  eb : 6 + h + 2 * b - (6 + h) ≡ 2 * b
  eb = omega arith

  of-heads : (c.sort_heads-good.result ≡ heads_good (row_heads row h)) × (hs ≡ ascending (row_heads row h))
  of-heads = rw eh at c.sort_heads-good.ensures.sorted

  copied : c.copy_literals.new.row ≡ literals (paired (row_pairs row h b))
  copied = rw eb at c.copy_literals.ensures

  of-body : (c.sort_body.result ≡ body_good (literals (paired (row_pairs row h b)))) × (ls ≡ ascending (literals (paired (row_pairs row h b))))
  of-body = rw copied at c.sort_body.ensures.sorted

pub add_weighed-requires : goal.add_weighed-requires
add_weighed-requires c = let d = (goal.at.add_weighed-requires c).After-sort_body in
    let s = c in
    let k = s.args.kind in
    let l = literals-long (row d) k (h d) (b d) (fits d) (hs d) (ls d) (of-heads d).1 (of-body d).1 in
    let n = row-long (row d) k (h d) (b d) (fits d) (hs d) (ls d) (of-heads d).1 (of-body d).1 in
    let g = ranged-kept (row d) k (h d) (b d) (fits d) (hs d) (ls d) (of-heads d).1 (of-body d).1 s.requires.weights in
    let p = s.requires.sizes in rw (eh d) (record { sizes = (p.0, omega (arith, l, p), omega (arith, l, n, p)); weights = g })

pub returns-then-good : goal.returns-then-good
returns-then-good c =
    let e = c in
    let d = (goal.at.returns-then-good c).After-sort_body in
    let k = d.args.kind in
    let p = sym (of-heads d).0 ∙ e.if-good.true in
    let q = sym (of-body d).0 ∙ e.if-sort_body.true in
    let r = weighed-reads (row d) k (h d) (b d) (fits d) (hs d) (ls d) (of-heads d).1 (of-body d).1 p q in
    rw r (rw (eh d) at c.add_weighed.ensures)

pub returns-else-good : goal.returns-else-good
returns-else-good c =
    let d = (goal.at.returns-else-good c).After-sort_body in
    let k = d.args.kind in
    let p = sym (of-heads d).0 ∙ c.if-good.false in
    rw (weighed-fails (row d) k (h d) (b d) (rw p)) (record { told = refl; words = refl })

pub returns-else-sort_body : goal.returns-else-sort_body
returns-else-sort_body c =
    let d = (goal.at.returns-else-sort_body c).After-sort_body in
    let k = d.args.kind in
    let q = sym (of-body d).0 ∙ c.if-sort_body.false in
    rw (weighed-fails (row d) k (h d) (b d) (rw q (and-false (heads_good (row_heads (row d) (h d)))))) (record { told = refl; words = refl })
