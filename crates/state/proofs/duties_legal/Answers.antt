use Rattle.std.proofs.Common.{rules, tests, ◌∙◌}
use Rattle.std.proofs.lemmas.Iterator.{YieldsList-from_slice}
use Rattle.std.proofs.lemmas.Iterator.Search.{all_from_yields_List}
use lib.Dec.{leb}
use Rattle.state.proofs.AcceptedLaws.{duties_each}
use Rattle.state.proofs.duties_legal.Goals as goal

pub returns : goal.returns
returns c =
    all_from_yields_List (λ d. leb d 128) _ _ c.all.result c.all.ensures.ran (YieldsList-from_slice c.args.motors.duties cc) (λ x b q k. search (rules, tests))
    ∙ duties_each c.args.motors (search rules)
