use Rattle.std.proofs.Common.{arith}
use Rattle.std.proofs.lemmas.Grind.{common_steps}
use Rattle.state.proofs.PartsLaws.{by_parts}
use Rattle.state.proofs.accepts.Goals as goal

pub returns-then-stream_ok : goal.returns-then-stream_ok
returns-then-stream_ok c = let e = by_parts c.args.state in grind (arith, common_steps)

pub returns-else-stream_ok : goal.returns-else-stream_ok
returns-else-stream_ok c = let e = by_parts c.args.state in grind (arith, common_steps)
