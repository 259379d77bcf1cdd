-- `board::tick` meets its contract: what is due, beside the record as it was.
-- Assumes nothing.
use Rattle.std.proofs.Common.{◌∙◌, ap, length}
use Rattle.board.specs.Calls.{tick_of}
use Rattle.board.proofs.AnyRoomLaws.{tick_keeps}
use Rattle.board.proofs.OutcomeLaws.{beside, beside_kept}
use Rattle.board.proofs.tick.Goals as goal

pub returns : goal.returns
returns c =
    let s = c.args.state in
    let o = tick_of s c.args.image.now (length c.args.buffer.now) in
    (ap (beside s) c.due-sent.ensures.0 ∙ beside_kept o (tick_keeps s c.args.image.now (length c.args.buffer.now)), c.due-sent.ensures.1)
