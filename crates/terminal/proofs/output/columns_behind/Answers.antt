use Rattle.std.proofs.Common.{◌≡◌, ◌+◌, ◌-◌, length, take, arith}
use lib.Seq.{take-length}
use Rattle.terminal.proofs.ColumnsLaws.{columns_bound, at_newline, past_byte}
use Rattle.terminal.proofs.output.columns_behind.Goals as goal

pub loop-added-init : goal.loop-added-init
loop-added-init c =
    let t = c.args.text.now in
    let bound = columns_bound c.args.column t c.ranges.column.fits in
    let all : length t - 0 ≡ length t = omega arith in
    let whole : take (length t - 0) t ≡ t = rw all (take-length t) in
    (omega arith, rw whole (omega (arith, bound)))

pub returns-then-last-eq10 : goal.returns-then-last-eq10
returns-then-last-eq10 c =
    let t = c.args.text.now in
    omega (arith, c.loop-added.invariant.1, c.loop-added.auto.added-fits.fits, at_newline c.args.column t (length t - c.loop-added.added) (omega (arith, c.loop-added-test.true)) (omega arith) c.if-last-eq10.true)

pub loop-added-preserved : goal.loop-added-preserved
loop-added-preserved c =
    let t = c.args.text.now in
    let same : length t - (c.loop-added.added + 1) ≡ length t - c.loop-added.added - 1 = omega arith in
    let past = past_byte c.args.column t (length t - c.loop-added.added) (omega (arith, c.loop-added-test.true)) (omega arith) c.if-last-eq10.false in
    (omega (arith, c.loop-added-test.true), rw same (omega (arith, c.loop-added.invariant.1, past)))
