use Rattle.aspif.specs.Reading.{read_text}
use Rattle.aspif.proofs.read_program.Goals as goal

pub returns : goal.returns
unfolding read_text
returns c = c.read_within.ensures
