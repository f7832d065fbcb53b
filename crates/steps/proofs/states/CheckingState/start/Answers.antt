use mathlib.Core.Path.{refl}
use Rattle.steps.proofs.Tracking.{holds-start}
use Rattle.steps.proofs.states.CheckingState.start.Goals as goal

pub returns : goal.returns
returns c = record { start = record { at = refl; steps = refl; holds = holds-start } }
