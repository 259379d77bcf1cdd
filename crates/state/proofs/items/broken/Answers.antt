use Rattle.std.proofs.Common.{◌≡◌}
use Rattle.state.specs.Accepted.{is_flag, broken_of}
use Rattle.state.proofs.items.broken.Goals as goal

pub returns : goal.returns
unfolding broken_of
returns c = let last : c.is_flag-2.result ≡ is_flag c.args.state.stream.on = c.is_flag-2.ensures in cc
