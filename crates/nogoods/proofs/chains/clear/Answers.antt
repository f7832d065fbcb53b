use Rattle.nogoods.proofs.Indexing.{blank-front}
use Rattle.nogoods.proofs.chains.clear.Goals as goal

pub returns : goal.returns
returns c =
    blank-front c.args.index.now c.start_of-end.result c.start_of-end.ensures.value c.start_of-end.ensures.upper_bound c.fill.new.self
    c.fill.ensures.len (c.fill.ensures.after (λ y e. e))
