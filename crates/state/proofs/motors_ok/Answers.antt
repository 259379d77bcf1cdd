use Rattle.std.proofs.Common.{rules, arith}
use Rattle.std.proofs.lemmas.Grind.{common_steps}
use Rattle.state.proofs.AcceptedLaws.{motors_are, motors_tested}
use Rattle.state.proofs.motors_ok.Goals as goal

pub returns-then-wheels_ok : goal.returns-then-wheels_ok
returns-then-wheels_ok c =
    let m = c.args.motors in
    let t = motors_tested c.args.mode m (search rules) (motors_are m (search rules) (λ i. search rules) (search rules) (search rules)) in
    grind (arith, common_steps)

pub returns-else-wheels_ok : goal.returns-else-wheels_ok
returns-else-wheels_ok c =
    let m = c.args.motors in
    let t = motors_tested c.args.mode m (search rules) (motors_are m (search rules) (λ i. search rules) (search rules) (search rules)) in
    grind (arith, common_steps)
