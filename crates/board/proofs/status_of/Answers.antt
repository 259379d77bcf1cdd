-- `board::status_of` meets its contract.
-- Assumes nothing.
use Rattle.std.proofs.Common.{◌≡◌, refl, w16, to_z, of_z}
use mir.Facts.{to_z-of_z}
use mir.Val.{SFits}
use borrow.Author.Rules.{rules}
use borrow.Author.Tests.{eq-eqb, ne_eqb}
use Rattle.board.specs.Judge.{status_of, of_order}
use Rattle.board.proofs.status_of.Goals as goal
use Rattle.board.proofs.status_of.Goals.{then-order-eq-DRIVE, else-order-eq-DRIVE, then-order-eq-DIRECT, else-order-eq-DIRECT}

pub returns : goal.returns
unfolding status_of
returns c =
    let m = c.args.state.now.motors in
    let f : SFits w16 m.first = search rules in
    let g : SFits w16 m.second = search rules in
    let velocity : to_z w16 (of_z w16 c.if-order-eq-DRIVE.velocity.0) ≡ of_order 1 m m.first =
    elim c.if-order-eq-DRIVE.branch [
      | then-order-eq-DRIVE w ↦ simp (w.velocity-is, eq-eqb m.order 1 w.if-order-eq-DRIVE.true, to_z-of_z f)
      | else-order-eq-DRIVE w ↦ simp (w.velocity-is, ne_eqb m.order 1 w.if-order-eq-DRIVE.false)
    ] in
    let radius : to_z w16 (of_z w16 c.if-order-eq-DRIVE.velocity.1) ≡ of_order 1 m m.second =
    elim c.if-order-eq-DRIVE.branch [
      | then-order-eq-DRIVE w ↦ simp (w.velocity-is, eq-eqb m.order 1 w.if-order-eq-DRIVE.true, to_z-of_z g)
      | else-order-eq-DRIVE w ↦ simp (w.velocity-is, ne_eqb m.order 1 w.if-order-eq-DRIVE.false)
    ] in
    let right : to_z w16 (of_z w16 c.if-order-eq-DIRECT.right.0) ≡ of_order 2 m m.first =
    elim c.if-order-eq-DIRECT.branch [
      | then-order-eq-DIRECT w ↦ simp (w.right-is, eq-eqb m.order 2 w.if-order-eq-DIRECT.true, to_z-of_z f)
      | else-order-eq-DIRECT w ↦ simp (w.right-is, ne_eqb m.order 2 w.if-order-eq-DIRECT.false)
    ] in
    let left : to_z w16 (of_z w16 c.if-order-eq-DIRECT.right.1) ≡ of_order 2 m m.second =
    elim c.if-order-eq-DIRECT.branch [
      | then-order-eq-DIRECT w ↦ simp (w.right-is, eq-eqb m.order 2 w.if-order-eq-DIRECT.true, to_z-of_z g)
      | else-order-eq-DIRECT w ↦ simp (w.right-is, ne_eqb m.order 2 w.if-order-eq-DIRECT.false)
    ] in
    rw (velocity, radius, right, left) refl
