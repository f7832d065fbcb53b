use mathlib.Core.Path.{◌≡◌, refl, ◌∙◌}
use mathlib.Core.List.{[], ◌∷◌}
use Prim.Native.Nat.{◌+◌, ◌*◌, ◌-◌}
use lib.IntN.{pos}
use lib.ListN.{length, get_or}
use native.Mathlib.Omega.{arith}
use Rattle.words.proofs.Words.{back}
use Rattle.weights.specs.Weights.{paired, pair_words}
use Rattle.aspif.specs.Rules.{kind_word}
use Rattle.aspif.specs.Turns.{row_heads, row_pairs, row_bound, weighted}
use Rattle.aspif.proofs.PairWords.{literals-with}
use Rattle.aspif.proofs.Pairs.{weighted-words}
use Rattle.aspif.proofs.Rows.{heads-long, ranged-bound, ranged-weights, rule-written}
use borrow.Author.Rules.{rules}
use Rattle.aspif.proofs.rules.write_weighed.Goals as goal

pub write_pairs-requires : goal.write_pairs-requires
write_pairs-requires c = let s = c in
    let a = s.args in
    let n = length a.literals.now in
    let e : 6 + a.heads + 2 * n - (6 + a.heads) ≡ 2 * n = omega arith in record { weights = rw e (ranged-weights a.row.now a.heads n s.requires.weights); sizes = (s.requires.sizes.1, search rules) }

pub returns : goal.returns
returns c =
    let s = c in
    let a = s.args in
    let row = a.row.now in
    let h = a.heads in
    let ls = a.literals.now in
    let n = length ls in
    let ps = row_pairs row h n in
    let counts = kind_word a.kind ∷ pos h ∷ pos 1 ∷ pos n ∷ pos (row_bound row h) ∷ [] in
    let nh : 3 + h - 3 ≡ h = omega arith in
    let np : 6 + h + 2 * n - (6 + h) ≡ 2 * n = omega arith in
    let lh = heads-long row h (omega (arith, s.requires.sizes)) in
    let w = c in
    let u = c.copy in
    let v = c.write_pairs in
    let bound = back (get_or row (4 + h) (pos 0)) w.write_bound-arg-2-1.given ∙ ranged-bound row h n s.requires.weights in
    rule-written counts (row_heads row h) (pair_words (weighted ps ls)) a.free.now w.write_bound.new.free u.new.destination v.new.free 5 (5 + h) refl
    (rw bound at w.write_bound.ensures) (rw nh at u.ensures) (rw lh) (rw (weighted-words ps ls) (rw np at v.ensures))
    ∙ rw (lh, weighted-words ps ls, literals-with (paired ps) ls)
