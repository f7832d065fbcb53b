use mathlib.Core.Path.{refl, sym}
use lib.Seq.{length-take-le}
use Rattle.words.proofs.Parts.{tail_of}
use Rattle.aspif.specs.Reading.{all_weights}
use Rattle.joins.proofs.Linked.{weights-take, weights-drop}
use Rattle.joins.proofs.chains.prefix_levels.Goals as goal

pub slice_bounds-levels_of-end-2 : goal.slice_bounds-levels_of-end-2
slice_bounds-levels_of-end-2 c = let s = c in sym (length-take-le _ s.args.pairs.now s.requires.pairs.2)

pub levels_of-requires : goal.levels_of-requires
unfolding all_weights
levels_of-requires c = let s = c in
    let ws = s.args.pairs.now in
    let p = s.requires.pairs in record { pairs = (refl, weights-take s.args.to ws p.0, rw tail_of (weights-drop s.args.to ws p.0), p.1); room = s.requires.room }

pub returns : goal.returns
returns c = let e = c.levels_of.ensures in record { levels = rw tail_of at e.levels; within = e.within }
