-- What is left of the block grows shorter.
use Rattle.std.proofs.Common.{length, ◌-◌}
use Rattle.linetest.proofs.read_block.Given as goal

abbrev pub decreases-loop-next : goal.decreases-loop-next
decreases-loop-next l = length l.block - l.from
