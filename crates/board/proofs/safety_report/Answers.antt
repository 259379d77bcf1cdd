-- `board::safety_report` meets its contract.
-- Assumes nothing.
use Rattle.std.proofs.Common.{◌≡◌, ◌∙◌, refl, sym, ap}
use mathlib.Core.Bool.{false, ◌&&◌}
use lib.Dec.{eqb}
use borrow.Author.Tests.{ne_eqb}
use Rattle.wire.proofs.BoolLaws.{to_T}
use Rattle.state.specs.State.{safe}
use Rattle.state.specs.Accepted.{accepted_of}
use Rattle.state.specs.declared.State.{State}
use Rattle.board.specs.Outcome.{gives, answered}
use Rattle.board.specs.Calls.{stops_for, after_report, report_of}
use Rattle.board.proofs.OutcomeLaws.{told_as}
use Rattle.board.proofs.CallsLaws.{checked_bad, report_stops, report_stays}
use Rattle.board.proofs.safety_report.Goals as goal
use Rattle.board.proofs.safety_report.Goals.{else-state-eq-SAFE-via-then-state-eq-SAFE+else-stops_for, else-state-eq-SAFE-via-else-state-eq-SAFE}

pub returns-then-not-accepts : goal.returns-then-not-accepts
unfolding report_of
returns-then-not-accepts c =
    told_as 8 refl c.new.ensures
    ∙ ap answered (sym (checked_bad c.args.state (gives 0 (after_report c.args.state c.args.drop c.args.cliff c.args.charger)) (sym c.accepts.ensures ∙ c.if-not-accepts.true)))

pub returns-then-stops_for : goal.returns-then-stops_for
returns-then-stops_for c =
    told_as 0 refl c.new-then-stops_for.ensures
    ∙ ap (λ (s : State). answered (gives 0 s)) c.to_passive.ensures
    ∙ ap answered (sym (report_stops c.args.state c.args.drop c.args.cliff c.args.charger (to_T (accepted_of c.args.state) (sym c.accepts.ensures ∙ c.if-not-accepts.false))
    (simp (c.if-state-eq-SAFE.true, sym c.stops_for.ensures ∙ c.if-stops_for.true))))

pub returns : goal.returns
returns c =
    let stays : (eqb c.args.state.mode safe && stops_for c.args.state.motors c.args.drop c.args.cliff c.args.charger) ≡ false =
    elim c.else-state-eq-SAFE.branch [
      | else-state-eq-SAFE-via-then-state-eq-SAFE+else-stops_for w ↦ simp (w.if-state-eq-SAFE.true, sym w.stops_for.ensures ∙ w.if-stops_for.false)
      | else-state-eq-SAFE-via-else-state-eq-SAFE w ↦ simp (ne_eqb c.args.state.mode safe w.if-state-eq-SAFE.false)
    ] in
    told_as 0 refl c.new-2.ensures
    ∙ ap answered (sym (report_stays c.args.state c.args.drop c.args.cliff c.args.charger (to_T (accepted_of c.args.state) (sym c.accepts.ensures ∙ c.if-not-accepts.false)) stays))
