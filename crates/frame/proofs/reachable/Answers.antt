use Rattle.std.proofs.Common.{rules, sym}
use Rattle.frame.proofs.ReachLaws.{reachable_array}
use Rattle.frame.proofs.reachable.Goals as goal

pub returns-then-clear_from : goal.returns-then-clear_from
returns-then-clear_from c =
    rw (reachable_array c.args.p (search rules) (λ i. search rules)) (simp (sym c.clear_from.ensures, c.if-clear_from.true) c.remaining_right.ensures)

pub returns-else-clear_from : goal.returns-else-clear_from
returns-else-clear_from c =
    rw (reachable_array c.args.p (search rules) (λ i. search rules)) (simp (sym c.clear_from.ensures, c.if-clear_from.false))
