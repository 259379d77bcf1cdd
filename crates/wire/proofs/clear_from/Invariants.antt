-- What was seen, and what is left to look at.
use Rattle.std.proofs.Common.{◌≡◌, ◌&&◌, drop}
use Rattle.wire.specs.Lists.{is_zero, all_zero}
use Rattle.wire.proofs.clear_from.Given as goal

abbrev pub invariant-loop-b : goal.invariant-loop-b
invariant-loop-b l = all_zero l.b-items ≡ (is_zero l.left && all_zero (drop l.b-index l.b-items))
