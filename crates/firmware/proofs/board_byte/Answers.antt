-- What the board's answer tells, part by part: the record, the number, the length and the buffer.
-- Assumes nothing.
use Rattle.std.proofs.Common.{◌∙◌, ap}
use Rattle.board.specs.Outcome.{Told}
use Rattle.firmware.proofs.board_byte.Goals as goal

pub returns : goal.returns
returns c =
    let e = c.byte-answer.ensures.0 in (
      ap (λ (x : Told). x.state) e,
      c.from.ensures.0 ∙ ap (λ (x : Told). x.number) e,
      c.from.ensures.1 ∙ ap (λ (x : Told). x.length) e,
      c.byte-answer.ensures.1,
    )
