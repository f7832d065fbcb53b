-- `notation::stepping::steps` hands out the table of classes. Assumes nothing.
use Rattle.std.proofs.Common.{rules}
use Rattle.text.specs.Classes.{byte_classes}
use Rattle.notation.proofs.stepping.steps.Goals as goal

pub hand_out-requires : goal.hand_out-requires
unfolding byte_classes
hand_out-requires g c = search rules
