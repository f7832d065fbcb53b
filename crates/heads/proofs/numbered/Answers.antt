use mathlib.Core.Path.{◌≡◌, ap, ◌∙◌}
use Prim.Native.Nat.{◌-◌, ◌≤◌}
use native.Mathlib.Omega.{arith}
use lib.ListN.{length, take, drop}
use Rattle.words.proofs.Parts.{tail_of}
use Rattle.heads.specs.Heads.{start_of, words_from}
use Rattle.heads.proofs.Starts.{rule-here}
use borrow.Author.Rules.{rules}
use Rattle.heads.proofs.numbered.Goals as goal
use Rattle.heads.proofs.numbered.Goals.{After-word_of-at}

-- where the rule starts
module _ (c : After-word_of-at) where
  starts : c.word_of-at.result ≡ start_of c.args.k c.args.table.now
  starts = c.word_of-at.ensures ∙ c.requires.0.entered.starts c.args.k c.requires.2

  within : c.word_of-at.result ≤ length c.args.table.now
  within = omega (arith, starts, (rule-here c.args.table.now c.args.rules c.requires.1 c.args.k c.requires.2).0)

-- its words
words-at : (c : After-word_of-at)
    → (let t = c.args.table.now in take (length t - c.word_of-at.result) (drop c.word_of-at.result t) ≡ words_from c.args.k t)
words-at c = let t = c.args.table.now in tail_of c.word_of-at.result t ∙ ap (λ j. drop j t) (starts c)

pub slice_bounds-result-count : goal.slice_bounds-result-count
slice_bounds-result-count c = within c

pub slice_bounds-result-start : goal.slice_bounds-result-start
slice_bounds-result-start c = let h = within c in search rules

pub invariant_of-result : goal.invariant_of-result
invariant_of-result c = record {
  sound = rw (words-at (goal.at.invariant_of-result c).After-word_of-at) (rule-here c.args.table.now c.args.rules c.requires.1 c.args.k c.requires.2).1;
}

pub returns : goal.returns
returns c = words-at (goal.at.returns c).After-word_of-at
