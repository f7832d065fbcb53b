use mathlib.Core.Path.{◌≡◌, ap, sym, ◌∙◌}
use mathlib.Core.Bool.{Bool, true, false, ◌&&◌, and-true, and-false}
use mathlib.Core.List.{List}
use Prim.Native.Nat.{ℕ, ◌+◌, ◌-◌, ◌≤◌}
use lib.IntN.{ℤ}
use lib.ListN.{length}
use native.Mathlib.Omega.{arith}
use borrow.Rule.Slice.PartMut.{put_mid}
use Rattle.words.specs.Literals.{ascending}
use Rattle.words.proofs.Sorting.{length-ascending}
use Rattle.aspif.specs.Reading.{heads_good, body_good}
use Rattle.aspif.specs.Turns.{row_heads, row_body, Sorted}
use Rattle.aspif.proofs.Rows.{heads-long, body-long, body_kept, body-sorted, heads-sorted, long₂}
use Rattle.aspif.proofs.rules.sort_parts.Goals as goal
use Rattle.aspif.proofs.rules.sort_parts.Goals.{After-sort_body}

module _ (c : After-sort_body) where
  abbrev row : List ℤ
  row = c.args.row.now

  abbrev h : ℕ
  h = c.args.heads

  abbrev b : ℕ
  b = c.args.body

  abbrev hs : List ℤ
  hs = c.sort_heads-good.new.part

  abbrev ls : List ℤ
  ls = c.sort_body.new.part

  abbrev fits : 5 + h + b ≤ length row
  fits = c.requires.sizes.2

  -- the heads and the body are whole parts of the row
  eh : 3 + h - 3 ≡ h
  eh = omega arith

  eb : 5 + h + b - (5 + h) ≡ b
  eb = omega arith

  of-heads : (c.sort_heads-good.result ≡ heads_good (row_heads row h)) × (hs ≡ ascending (row_heads row h))
  of-heads = rw eh at c.sort_heads-good.ensures.sorted

  size-heads : length hs ≡ h
  size-heads = ap length of-heads.1 ∙ length-ascending (row_heads row h) ∙ heads-long row h (omega (arith, fits))

  of-body : (c.sort_body.result ≡ body_good (row_body row h b)) × (ls ≡ ascending (row_body row h b))
  of-body = rw (eh, eb, body_kept row h b fits hs size-heads) at c.sort_body.ensures.sorted

  size-body : length ls ≡ b
  size-body = ap length of-body.1 ∙ length-ascending (row_body row h b) ∙ body-long row h b fits

  sorted : (r : Bool) → r ≡ (heads_good (row_heads row h) && body_good (row_body row h b))
      → Sorted row (put_mid (5 + h) (5 + h + b - (5 + h)) (put_mid 3 (3 + h - 3) row hs) ls) h b r
  sorted r e =
      rw (eh, eb)
      (record {
        good = e;
        in_heads = heads-sorted row h b fits hs size-heads ls size-body ∙ of-heads.1;
        in_body = body-sorted row h b fits hs size-heads ls size-body ∙ of-body.1;
        long = long₂ row h b fits hs size-heads ls size-body;
      })

pub returns-then-sort_body : goal.returns-then-sort_body
returns-then-sort_body c =
    let d = (goal.at.returns-then-sort_body c).After-sort_body in
    let t : body_good (row_body (row d) (h d) (b d)) ≡ true = sym (of-body d).0 ∙ c.if-sort_body.true in
    sorted d _ ((of-heads d).0 ∙ sym (ap (λ (x : Bool). heads_good (row_heads (row d) (h d)) && x) t ∙ and-true (heads_good (row_heads (row d) (h d)))))

pub returns-else-sort_body : goal.returns-else-sort_body
returns-else-sort_body c =
    let d = (goal.at.returns-else-sort_body c).After-sort_body in
    let t : body_good (row_body (row d) (h d) (b d)) ≡ false = sym (of-body d).0 ∙ c.if-sort_body.false in
    sorted d false (sym (ap (λ (x : Bool). heads_good (row_heads (row d) (h d)) && x) t ∙ and-false (heads_good (row_heads (row d) (h d)))))
