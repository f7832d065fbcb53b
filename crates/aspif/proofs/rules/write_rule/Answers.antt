use mathlib.Core.Path.{◌≡◌, refl, ◌∙◌}
use mathlib.Core.List.{[], ◌∷◌}
use Prim.Native.Nat.{◌+◌, ◌-◌}
use lib.IntN.{pos}
use Rattle.aspif.specs.Rules.{kind_word}
use Rattle.aspif.specs.Turns.{row_heads, row_body}
use Rattle.aspif.proofs.Rows.{rule-written, heads-long, body-long}
use native.Mathlib.Omega.{arith}
use Rattle.aspif.proofs.rules.write_rule.Goals as goal

pub returns : goal.returns
returns c =
    let s = c in
    let a = s.args in
    let row = a.row.now in
    let h = a.heads in
    let b = a.body in
    let counts = kind_word a.kind ∷ pos h ∷ pos 0 ∷ pos b ∷ [] in
    let nh : 3 + h - 3 ≡ h = omega arith in
    let nb : 5 + h + b - (5 + h) ≡ b = omega arith in
    let lh = heads-long row h (omega (arith, s.requires.sizes)) in
    let lb = body-long row h b s.requires.sizes.2 in
    let w = c.write_counts in
    let u = c.copy in
    let v = c.copy-2 in
    rule-written counts (row_heads row h) (row_body row h b) a.free.now w.new.free u.new.destination v.new.destination 4 (4 + h) refl w.ensures (rw nh at u.ensures)
    (rw lh) (rw nb at v.ensures)
    ∙ rw (lh, lb)
