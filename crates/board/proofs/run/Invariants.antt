-- The loop carries the partial frame, and the rest of the record stays.
use Rattle.std.proofs.Common.{◌≡◌, ◌-◌, length}
use Rattle.board.proofs.RunLaws.{Going}
use Rattle.board.proofs.run.Given as goal

abbrev pub invariant-loop-read : goal.invariant-loop-read
invariant-loop-read l = (l.buffer ≡ l.initial.buffer) × Going l.state l.bytes l.image (length l.initial.buffer) l.partial l.read

abbrev pub decreases-loop-read : goal.decreases-loop-read
decreases-loop-read l = length l.bytes - l.read
