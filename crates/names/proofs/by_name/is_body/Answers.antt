-- `by_name::is_body` meets its contract: lists of one length are equal where they are word by word.
-- Assumes nothing.
use mathlib.Core.Path.{◌≡◌, refl, ap, ◌∙◌}
use mathlib.Core.Bool.{◌&&◌}
use mathlib.Core.List.{List, [], ◌∷◌}
use native.Mathlib.Omega.{arith}
use lib.IntN.{ℤ}
use lib.ListN.{length}
use Rattle.std.proofs.Common.{rules, tests}
use Rattle.std.proofs.lemmas.Iterator.{YieldsList-from_slice, YieldsList-from_zip}
use Rattle.std.proofs.lemmas.Iterator.Search.{all_from_yields_List}
use Rattle.std.specs.List.{zip}
use Rattle.words.specs.Lists.{all}
use Rattle.words.specs.Literals.{same, same_list}
use Rattle.names.proofs.by_name.is_body.Goals as goal

word_by_word : (a b : List ℤ) → length a ≡ length b → all (λ p. same p.0 p.1) (zip a b) ≡ same_list a b
word_by_word [] [] e = refl
word_by_word [] (y ∷ b) e = absurd (omega arith)
word_by_word (x ∷ a) [] e = absurd (omega arith)
word_by_word (x ∷ a) (y ∷ b) e = ap (λ t. same x y && t) (word_by_word a b (omega arith))

pub returns : goal.returns
returns c =
    let a = c.args.words.now in
    let b = c.args.body.now in
    let told : c.all.result ≡ all (λ p. same p.0 p.1) (zip a b) =
    all_from_yields_List {s = c.zip.result} (λ p. same p.0 p.1) c.all.new.self _ c.all.result c.all.ensures.ran
    (YieldsList-from_zip (YieldsList-from_slice a (cc)) (YieldsList-from_slice b (cc)))
    (λ x b q k. search (rules, tests)) in
    told ∙ word_by_word a b c.requires
