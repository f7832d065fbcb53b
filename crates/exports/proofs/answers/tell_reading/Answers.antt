-- `exports::answers::tell_reading` meets its contract, case by case.
-- Assumes nothing.
use mathlib.Core.Path.{refl}
use Rattle.exports.specs.Codes.{reading_code, reading_numbers}
use Rattle.exports.proofs.Telling.{telling}
use Rattle.exports.proofs.answers.tell_reading.Goals as goal

pub returns-in-Read : goal.returns-in-Read
returns-in-Read c = telling reading_code reading_numbers c.in-Read.is refl c.put_two.ensures
