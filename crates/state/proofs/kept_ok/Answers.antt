use Rattle.std.proofs.Common.{rules, arith}
use Rattle.std.proofs.lemmas.Grind.{common_steps}
use Rattle.state.proofs.AcceptedLaws.{kept_are, kept_tested}
use Rattle.state.proofs.kept_ok.Goals as goal

pub returns-then-kept-le-LAST_OUTPUTS : goal.returns-then-kept-le-LAST_OUTPUTS
returns-then-kept-le-LAST_OUTPUTS c =
    let k = c.args.kept in
    let t = kept_tested k (kept_are k (search rules) (λ i. search rules) (search rules)) in
    grind (arith, common_steps)

pub returns-else-kept-le-LAST_OUTPUTS : goal.returns-else-kept-le-LAST_OUTPUTS
returns-else-kept-le-LAST_OUTPUTS c =
    let k = c.args.kept in
    let t = kept_tested k (kept_are k (search rules) (λ i. search rules) (search rules)) in
    grind (arith, common_steps)
