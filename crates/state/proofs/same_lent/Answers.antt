use Rattle.state.proofs.SameLaws.{number_is}
use Rattle.state.proofs.same_lent.Goals as goal

-- the derived equality is that of the definition
pub returns : goal.returns
returns c =
    rw (number_is c.args.a.now.motors.first c.args.b.now.motors.first, number_is c.args.a.now.motors.second c.args.b.now.motors.second) at c.eq.ensures
