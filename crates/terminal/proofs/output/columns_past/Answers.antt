use Rattle.std.proofs.Common.{◌≡◌, ◌∙◌, ◌+◌, ◌-◌, ◌^◌, ◌%◌, sym, ap, take, arith}
use Rattle.terminal.specs.Columns.{columns_after}
use Rattle.terminal.proofs.ColumnsLaws.{past_byte}
use Rattle.terminal.proofs.output.columns_past.Goals as goal
use Rattle.terminal.proofs.output.columns_past.Goals.{then-b-eq10, else-b-eq10}

pub loop-b-preserved : goal.loop-b-preserved
loop-b-preserved c seen =
    let t = c.args.text.now in
    let i = c.loop-b.b-index in
    let same : i + 1 - 1 ≡ i = omega arith in
    elim c.if-b-eq10.branch [
      | then-b-eq10 w ↦ grind (arith, w.newline-is, seen)
      | else-b-eq10 w ↦
          let past = past_byte c.args.column t (i + 1) (omega arith) (omega (arith, c.loop-b-test.true)) (rw same w.if-b-eq10.false) in
          let next = past ∙ ap (λ k. (columns_after c.args.column (take k t) + 1) % 2 ^ 64) same in
          omega (arith, next, c.loop-b.invariant (sym w.newline-is ∙ seen))
    ]
