use Rattle.std.proofs.Common.{arith}
use Rattle.std.proofs.lemmas.Grind.{common_steps}
use Rattle.line.proofs.signed.Goals.{in_default-via-then-word-lt1, in_default-via-else-word-lt1+in_default-1}
use Rattle.line.proofs.signed.Goals as goal

pub returns-in_ok-unsigned-in_default : goal.returns-in_ok-unsigned-in_default
returns-in_ok-unsigned-in_default c = elim c.in_default.branch [
  | in_default-via-then-word-lt1 w ↦ grind (arith, common_steps)
  | in_default-via-else-word-lt1+in_default-1 w ↦ grind (arith, common_steps)
]
