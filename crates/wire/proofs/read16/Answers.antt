use Rattle.std.proofs.Common.{arith}
use Rattle.wire.specs.Sixteen.{read16_of}
use Rattle.std.proofs.lemmas.Int.{ints}
use Rattle.wire.proofs.read16.Goals as goal

pub returns : goal.returns
unfolding read16_of
returns c = rw c.from_be_bytes.ensures (grind (arith, ints))
