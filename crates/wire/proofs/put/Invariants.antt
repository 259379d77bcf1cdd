-- The bytes that are left, once put, make the whole.
use Rattle.std.proofs.Common.{drop}
use Rattle.wire.proofs.BufferLaws.{Left}
use Rattle.wire.proofs.put.Given as goal

abbrev pub invariant-loop-b : goal.invariant-loop-b
invariant-loop-b l = Left l.src l.at l.fn.buffer (drop l.b-index l.src) l.buffer l.end
