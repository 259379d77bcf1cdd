-- As long as no newline was seen, what was looked at adds its bytes to the columns.
use Rattle.std.proofs.Common.{◌≡◌, ◌+◌, ◌^◌, ◌%◌, false, take}
use Rattle.terminal.specs.Columns.{columns_after}
use Rattle.terminal.proofs.output.columns_past.Given as goal

abbrev pub invariant-loop-b : goal.invariant-loop-b
invariant-loop-b l = l.newline ≡ false → columns_after l.column (take l.b-index l.text) ≡ (l.column + l.b-index) % 2 ^ 64
