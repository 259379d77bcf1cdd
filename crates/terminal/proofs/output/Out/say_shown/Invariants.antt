-- The columns are counted behind the loop.
use Rattle.std.proofs.Common.{◌≡◌}
use Rattle.terminal.proofs.output.Out.say_shown.Given as goal

abbrev pub invariant-loop-b : goal.invariant-loop-b
invariant-loop-b l = l.self.column ≡ l.fn.self.column
