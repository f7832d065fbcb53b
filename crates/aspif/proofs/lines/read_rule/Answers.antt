use mathlib.Core.Path.{◌≡◌, refl, sym, ap, ◌∙◌}
use mathlib.Core.Bool.{Bool, false}
use mathlib.Core.List.{List}
use Prim.Native.Nat.{ℕ}
use borrow.Author.Tests.{eq-eqb, ne_eqb}
use lib.IntN.{ℤ, pos}
use lib.ListN.{replicate}
use Rattle.text.specs.Line.{any_outside}
use Rattle.text.proofs.Lines.{capped-all, Numbered, numbered}
use Rattle.aspif.specs.Turns.{row_size}
use Rattle.aspif.proofs.Agree.{row_of, row_last, row-rule}
use Rattle.aspif.proofs.lines.read_rule.Goals as goal

-- where no number is outside, the row keeps the numbers themselves
module _ {s : List ℕ} {after : List ℤ} {count next : ℕ} {out closed : Bool} (f : Numbered s (replicate row_size (pos 0)) after count next out closed) (i : out ≡ false) where
  inside : any_outside f.list ≡ false
  inside = sym f.large ∙ i

  row : after ≡ row_of f.list
  row = f.row ∙ ap (λ zs. row_of zs) (capped-all f.list inside)

pub returns-then-outside : goal.returns-then-outside
returns-then-outside c =
    let f = numbered c.read_line.ensures c.in-Some.is in
    rw (f.is, sym f.large ∙ c.if-outside.true) (record { told = refl; words = refl })

pub returns-then-next-rest : goal.returns-then-next-rest
returns-then-next-rest c =
    let f = numbered c.read_line.ensures c.in-Some.is in
    let o = c.if-outside.false in
    let last = sym (c.is_last.ensures ∙ row_last f.list _ _ f.long (row f o)) ∙ c.if-is_last.true in
    rw (f.is, inside f o, last, eq-eqb _ _ c.if-next-rest.true) (record { told = refl; words = refl })

pub returns-then-is_last : goal.returns-then-is_last
returns-then-is_last c =
    let f = numbered c.read_line.ensures c.in-Some.is in
    let o = c.if-outside.false in
    let last = sym (c.is_last.ensures ∙ row_last f.list _ _ f.long (row f o)) ∙ c.if-is_last.true in
    rw (f.is, inside f o, last, ne_eqb _ _ c.if-next-rest.false) (record { told = refl; words = refl })

pub returns : goal.returns
returns c =
    let f = numbered c.read_line.ensures c.in-Some.is in
    let o = c.if-outside.false in
    let last = sym (c.is_last.ensures ∙ row_last f.list _ _ f.long (row f o)) ∙ c.if-is_last.false in
    rw (f.is, inside f o, last) (rw (row-rule f.list _ _ f.long (row f o) c.args.most) at c.take_rule.ensures)
