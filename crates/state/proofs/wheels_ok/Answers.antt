use Rattle.std.proofs.Common.{rules, sym, ◌∙◌}
use mir.Syntax.{w16}
use mir.Val.{SFits}
use Rattle.command.specs.CommandTable.{speed, radius}
use Rattle.command.proofs.CommandTableLaws.{signed}
use Rattle.state.proofs.AcceptedLaws.{drive_tested, direct_tested}
use Rattle.state.proofs.wheels_ok.Goals as goal

pub returns-then-is_speed : goal.returns-then-is_speed
returns-then-is_speed c =
    let first : SFits w16 c.args.motors.first = search rules in
    let second : SFits w16 c.args.motors.second = search rules in
    sym (drive_tested c.args.motors c.in-1.is ∙ simp (sym (signed speed first c.is_speed.ensures) ∙ c.if-is_speed.true, sym (signed radius second c.is_radius.ensures)))

pub returns-else-is_speed : goal.returns-else-is_speed
returns-else-is_speed c =
    let first : SFits w16 c.args.motors.first = search rules in
    sym (drive_tested c.args.motors c.in-1.is ∙ simp (sym (signed speed first c.is_speed.ensures), c.if-is_speed.false))

pub returns-then-is_speed-2 : goal.returns-then-is_speed-2
returns-then-is_speed-2 c =
    let first : SFits w16 c.args.motors.first = search rules in
    let second : SFits w16 c.args.motors.second = search rules in
    sym (direct_tested c.args.motors c.in-2.is ∙ simp (sym (signed speed first c.is_speed-in-2.ensures) ∙ c.if-is_speed-2.true, sym (signed speed second c.is_speed-then-is_speed-2.ensures)))

pub returns-else-is_speed-2 : goal.returns-else-is_speed-2
returns-else-is_speed-2 c =
    let first : SFits w16 c.args.motors.first = search rules in
    sym (direct_tested c.args.motors c.in-2.is ∙ simp (sym (signed speed first c.is_speed-in-2.ensures), c.if-is_speed-2.false))
