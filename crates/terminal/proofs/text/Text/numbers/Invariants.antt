use Rattle.std.proofs.Common.{◌≤◌}
use Rattle.terminal.proofs.text.Text.numbers.Given as goal

abbrev pub invariant-loop : goal.invariant-loop
invariant-loop l = l.values.count ≤ 512
