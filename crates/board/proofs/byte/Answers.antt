-- `board::byte` meets its contract: a run over one byte is that byte.
-- Assumes nothing.
use Rattle.board.proofs.RunLaws.{byte_met}
use Rattle.board.proofs.byte.Goals as goal

pub returns : goal.returns
returns c = byte_met c.args.state c.args.b c.args.image.now c.args.buffer.now c.run.ensures
