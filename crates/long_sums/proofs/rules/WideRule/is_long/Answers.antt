use mathlib.Core.Path.{ap₂, ◌∙◌}
use mathlib.Core.Bool.{Bool, ◌&&◌}
use Prim.Native.Nat.{ℕ}
use native.Mathlib.Omega.{arith}
use lib.Dec.{ltb}
use lib.IntN.{pos}
use lib.ListN.{get_or}
use Rattle.std.proofs.Common.{rules}
use Rattle.words.proofs.Words.{back}
use Rattle.aspif.proofs.Cursors.{shaped}
use Rattle.long_sums.proofs.Held.{held-shape}
use Rattle.long_sums.proofs.Items.{long-told}
use Rattle.long_sums.proofs.rules.WideRule.is_long.Goals as goal

pub bounds-words-3 : goal.bounds-words-3
bounds-words-3 c = let s = c in omega (arith, (shaped s.args.self.now.words.now (held-shape s.args.self.now.words.now s.args.self.now.held)).long)

pub returns : goal.returns
returns c =
    let s = c in
    let n = rw (back (get_or s.args.self.now.words.now 3 (pos 0)) (search rules)) at c.variable_of.ensures in
    ap₂ (λ (w : Bool) (n : ℕ). w && ltb 12 n) c.is_weighted.ensures n ∙ long-told s.args.self.now.words.now s.args.self.now.held
