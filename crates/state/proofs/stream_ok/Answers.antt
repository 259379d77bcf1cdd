use Rattle.std.proofs.Common.{rules, arith}
use Rattle.std.proofs.lemmas.Grind.{common_steps}
use Rattle.state.proofs.AcceptedLaws.{stream_are, stream_tested}
use Rattle.state.proofs.stream_ok.Goals as goal

pub returns-then-streamable : goal.returns-then-streamable
returns-then-streamable c =
    let x = c.args.stream in
    let t = stream_tested x (stream_are x (search rules) (λ i. search rules)) in
    grind (arith, common_steps)

pub returns-else-streamable : goal.returns-else-streamable
returns-else-streamable c =
    let x = c.args.stream in
    let t = stream_tested x (stream_are x (search rules) (λ i. search rules)) in
    grind (arith, common_steps)
