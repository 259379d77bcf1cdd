-- What is there of a line has room.
use Rattle.std.proofs.Common.{◌≤◌, length}
use Rattle.terminal.proofs.input.Input.next_line.Given as goal

abbrev pub invariant-loop : goal.invariant-loop
invariant-loop l = l.size ≤ length l.room
