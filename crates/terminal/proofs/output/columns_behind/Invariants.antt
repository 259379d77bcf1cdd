-- What is looked at already adds its bytes to the columns of what stands before it.
use Rattle.std.proofs.Common.{◌≡◌, ◌+◌, ◌-◌, ◌≤◌, ◌^◌, ◌%◌, length, take}
use Rattle.terminal.specs.Columns.{columns_after}
use Rattle.terminal.proofs.output.columns_behind.Given as goal

abbrev pub invariant-loop-added : goal.invariant-loop-added
invariant-loop-added l = (l.added ≤ length l.fn.text) × (columns_after l.fn.column l.fn.text ≡ (columns_after l.fn.column (take (length l.fn.text - l.added) l.fn.text) + l.added) % 2 ^ 64)

abbrev pub decreases-loop-added : goal.decreases-loop-added
decreases-loop-added l = length l.fn.text - l.added
