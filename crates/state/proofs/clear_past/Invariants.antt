-- What was seen of the places from `used` on, and what is left of them to look at.
use Rattle.std.proofs.Common.{◌≡◌, ◌+◌, ◌-◌, drop}
use mathlib.Core.Bool.{◌&&◌}
use Rattle.wire.specs.Lists.{is_zero, all_zero}
use Rattle.state.proofs.clear_past.Given as goal

abbrev pub invariant-loop-i : goal.invariant-loop-i
invariant-loop-i l =
    all_zero (drop l.used l.notes) ≡ (is_zero l.left && all_zero (drop (l.used + (l.i - l.used)) l.notes))
