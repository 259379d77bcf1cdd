-- `board::backs_round` meets its contract: the sum and the difference of two numbers of sixteen
-- bits, and 165 times either, are within 32 bits.
-- Assumes nothing.
use Rattle.std.proofs.Common.{◌∙◌, sym, pos, ◌+ℤ◌, ◌-ℤ◌, ◌*◌}
use mathlib.Core.Bool.{or-true}
use lib.Dec.{ltb}
use lib.Signed.{lt_z}
use mir.Facts.{to_z-of_z}
use Rattle.wire.proofs.IntLaws.{abs_sum, abs_difference}
use Rattle.board.specs.Calls.{backs_round}
use Rattle.board.proofs.BackingLaws.{compared, op_is}
use Rattle.board.proofs.backs_round.Goals as goal
use Rattle.board.proofs.backs_round.Goals.{then-right-gt0-via-then-right-gt0, then-right-gt0-via-else-right-gt0+then-left-gt0}

pub returns-then-right-gt0 : goal.returns-then-right-gt0
unfolding backs_round
returns-then-right-gt0 c =
    let f = c.ranges in
    elim c.then-right-gt0.branch [
      | then-right-gt0-via-then-right-gt0 w ↦ sym (simp (rw (to_z-of_z f.right) at w.if-right-gt0.true))
      | then-right-gt0-via-else-right-gt0+then-left-gt0 w ↦ sym (simp (rw (to_z-of_z f.left) at w.if-left-gt0.true, or-true (lt_z (pos 0) c.args.right)))
    ]

pub returns : goal.returns
unfolding backs_round
returns c =
    let f = c.ranges in
    let sum = op_is ◌+ℤ◌ abs_sum f.right f.left (rw (c.from-r.ensures, c.from-l.ensures) at c.magnitude.ensures) in
    let difference = op_is ◌-ℤ◌ abs_difference f.right f.left (rw (c.from-r.ensures, c.from-l.ensures) at c.magnitude-2.ensures) in
    (λ i. ltb (129 * sum i) (165 * difference i))
    ∙ sym (simp (rw (to_z-of_z f.right) at c.if-right-gt0.false, rw (to_z-of_z f.left) at c.if-left-gt0.false, compared c.args.right c.args.left))
