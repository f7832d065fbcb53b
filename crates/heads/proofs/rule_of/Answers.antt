use mathlib.Core.Path.{refl, ap, ◌∙◌}
use native.Mathlib.Omega.{arith}
use Rattle.heads.specs.Heads.{words_from}
use Rattle.heads.proofs.Starts.{head_of}
use Rattle.heads.proofs.rule_of.Goals as goal

pub numbered-requires : goal.numbered-requires
numbered-requires c =
    let t = c.args.table.now in
    let owner = c.word_of-k.ensures ∙ c.requires.index.0.entered.heads.owner c.args.x c.requires.place in
    (c.requires.index.0, c.requires.index.1, omega (arith, owner, (head_of t c.args.rules _ c.args.x c.requires.index.1 (c.requires.place, refl)).0))

pub returns : goal.returns
returns c =
    let owner = c.word_of-k.ensures ∙ c.requires.index.0.entered.heads.owner c.args.x c.requires.place in
    c.numbered.ensures ∙ ap (λ k. words_from k c.args.table.now) owner
