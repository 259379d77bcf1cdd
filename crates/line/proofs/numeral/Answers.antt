use Rattle.std.proofs.Common.{arith}
use Rattle.std.proofs.lemmas.Grind.{common_steps}
use Rattle.line.proofs.TextLaws.{numeral_is}
use Rattle.line.proofs.numeral.Goals as goal

pub loop-b-init : goal.loop-b-init
loop-b-init c = (omega arith, numeral_is c.args.base c.args.word.now (omega arith) (grind (arith, common_steps)))

pub loop-b-preserved : goal.loop-b-preserved
loop-b-preserved c = (omega arith, grind (arith, common_steps))
