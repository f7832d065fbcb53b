-- `least-found` at work: what it finds is computed. Assumes nothing.
use mathlib.Core.Path.{refl}
use Rattle.weights.specs.Weights.{sublists}
use Rattle.aspif.specs.Tables.{size_at, heads_at, body_words_at, body_at, shape_sound, body_sound, sound_at, sound_table}
use Rattle.answer_set.specs.SetTest.{give_head, give_rule, least, verdict_of}
use Rattle.costs.specs.Examples.{Worked}
use Rattle.costs.proofs.Found.{least-found}

pub worked : Worked least-found
unfolding sublists sound_table sound_at body_sound shape_sound size_at heads_at body_words_at body_at verdict_of least give_rule give_head
worked = record { read = refl; three = λ M S. refl; five = λ M S. refl; nothing = λ M S. refl }
