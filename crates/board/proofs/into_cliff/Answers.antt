-- `board::into_cliff` meets its contract: rules S4 to S7, a case for each return.
-- Assumes nothing.
use Rattle.std.proofs.Common.{◌≡◌, ◌∙◌, sym, ap, pos, w16, arith}
use mathlib.Core.Bool.{Bool, ◌||◌}
use lib.Signed.{lt_z}
use mir.Facts.{to_z-of_z}
use mir.Val.{SFits}
use borrow.Author.Rules.{rules}
use borrow.Author.Tests.{ne_eqb}
use Rattle.board.specs.Calls.{backs_round, into_cliff}
use Rattle.board.proofs.BackingLaws.{of_drive, of_direct}
use Rattle.board.proofs.into_cliff.Goals as goal
use Rattle.board.proofs.into_cliff.Goals.{then-first-gt0-2, else-first-gt0-2}

pub returns-then-first-gt0 : goal.returns-then-first-gt0
returns-then-first-gt0 c =
    let m = c.args.motors in
    let f : SFits w16 m.first = search rules in
    rw (to_z-of_z f) (simp (of_drive m c.in-1.is, rw (to_z-of_z f) at c.if-first-gt0.true))

pub returns-else-first-gt0 : goal.returns-else-first-gt0
returns-else-first-gt0 c =
    let m = c.args.motors in
    let f : SFits w16 m.first = search rules in
    let g : SFits w16 m.second = search rules in
    rw (to_z-of_z f, to_z-of_z g) at c.backs_tightly.ensures ∙ sym (simp (of_drive m c.in-1.is, rw (to_z-of_z f) at c.if-first-gt0.false))

pub returns-then-second-gt0 : goal.returns-then-second-gt0
returns-then-second-gt0 c =
    let m = c.args.motors in
    let f : SFits w16 m.first = search rules in
    let g : SFits w16 m.second = search rules in
    let ahead : c.if-first-gt0-2.value ≡ (lt_z (pos 0) m.first || lt_z (pos 0) m.second) =
    elim c.if-first-gt0-2.branch [
      | then-first-gt0-2 w ↦ w.value-is ∙ w.if-first-gt0-2.true ∙ sym (simp (rw (to_z-of_z f) at w.if-first-gt0-2.true))
      | else-first-gt0-2 w ↦ w.value-is ∙ rw (to_z-of_z g) (sym (simp (rw (to_z-of_z f) at w.if-first-gt0-2.false)))
    ] in
    c.if-second-gt0.true ∙ sym (of_direct m c.in-2.is ∙ ap (λ (t : Bool). t || backs_round m.first m.second) (sym ahead ∙ c.if-second-gt0.true))

pub returns-else-second-gt0 : goal.returns-else-second-gt0
returns-else-second-gt0 c =
    let m = c.args.motors in
    let f : SFits w16 m.first = search rules in
    let g : SFits w16 m.second = search rules in
    let ahead : c.if-first-gt0-2.value ≡ (lt_z (pos 0) m.first || lt_z (pos 0) m.second) =
    elim c.if-first-gt0-2.branch [
      | then-first-gt0-2 w ↦ w.value-is ∙ w.if-first-gt0-2.true ∙ sym (simp (rw (to_z-of_z f) at w.if-first-gt0-2.true))
      | else-first-gt0-2 w ↦ w.value-is ∙ rw (to_z-of_z g) (sym (simp (rw (to_z-of_z f) at w.if-first-gt0-2.false)))
    ] in
    rw (to_z-of_z f, to_z-of_z g) at c.backs_round.ensures
    ∙ sym (of_direct m c.in-2.is ∙ ap (λ (t : Bool). t || backs_round m.first m.second) (sym ahead ∙ c.if-second-gt0.false))

pub returns-in_default : goal.returns-in_default
unfolding into_cliff
returns-in_default c = sym (simp (ne_eqb c.args.motors.order 1 (λ (e : c.args.motors.order ≡ 1). omega arith), ne_eqb c.args.motors.order 2 (λ (e : c.args.motors.order ≡ 2). omega arith)))
