-- The mode and the motors, and nothing else.
use Rattle.std.proofs.Common.{refl}
use Rattle.state.proofs.setters.to_passive.Goals as goal

pub returns : goal.returns
returns c = refl
