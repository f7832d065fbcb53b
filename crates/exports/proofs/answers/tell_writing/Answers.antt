-- `exports::answers::tell_writing` meets its contract, case by case.
-- Assumes nothing.
use mathlib.Core.Path.{refl}
use Rattle.exports.specs.Codes.{writing_code, writing_numbers}
use Rattle.exports.proofs.Telling.{telling}
use Rattle.exports.proofs.answers.tell_writing.Goals as goal

pub returns-in-Written : goal.returns-in-Written
returns-in-Written c = telling writing_code writing_numbers c.in-Written.is refl c.put.ensures
