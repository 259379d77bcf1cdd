-- `hostpage::fields::fill` is safe and ends.
-- Assumes nothing.
use Rattle.std.proofs.Common.{length, ◌-◌, ◌≤◌}
use Rattle.hostpage.proofs.fields.fill.Given as goal

abbrev pub invariant-loop-open : goal.invariant-loop-open
invariant-loop-open l = l.at ≤ length l.text.bytes.now

abbrev pub decreases-loop-open : goal.decreases-loop-open
decreases-loop-open l = length l.text.bytes.now - l.at
