-- `drive::wheel_speeds` meets its contract: an illegal order is refused, and each arm knows the
-- kind.
-- Assumes nothing.
use Rattle.std.proofs.Common.{◌≡◌, ◌∙◌, sym, ap, w16, w32, to_z, of_z, ℤ, arith}
use mir.Facts.{to_z-of_z}
use mir.Val.{SFits}
use Rattle.wire.proofs.SignedLaws.{wide_is}
use Rattle.drive.specs.Orders.{wheels}
use Rattle.drive.proofs.OrdersLaws.{radius_above, speeds_refused, speeds_given, by_drive, by_direct, by_none}
use Rattle.drive.proofs.wheel_speeds.Goals as goal

pub returns-then-not-wheels_ok : goal.returns-then-not-wheels_ok
returns-then-not-wheels_ok c =
    sym (speeds_refused _ _ _ (sym (rw (to_z-of_z c.ranges.first, to_z-of_z c.ranges.second) at c.wheels_ok.ensures) ∙ c.if-not-wheels_ok.true))

pub curve-requires : goal.curve-requires
curve-requires c =
    let legal = sym (rw (to_z-of_z c.ranges.first, to_z-of_z c.ranges.second) at c.wheels_ok.ensures) ∙ c.if-not-wheels_ok.false in
    rw (to_z-of_z c.ranges.second) (radius_above c.args.first c.args.second (rw c.in-1.is at legal))

pub returns-in-1 : goal.returns-in-1
returns-in-1 c =
    let legal = sym (rw (to_z-of_z c.ranges.first, to_z-of_z c.ranges.second) at c.wheels_ok.ensures) ∙ c.if-not-wheels_ok.false in
    let by = by_drive _ _ _ c.in-1.is ∙ sym (rw (to_z-of_z c.ranges.first, to_z-of_z c.ranges.second) at c.curve.ensures) in
    c.cap_both.ensures ∙ sym (speeds_given _ _ _ legal by)

-- a number of a Direct, widened
held : {v x : ℤ} → SFits w16 v → x ≡ to_z w16 (of_z w16 v) → to_z w32 (of_z w32 x) ≡ v
held f e = ap (λ (z : ℤ). to_z w32 (of_z w32 z)) e ∙ wide_is f

pub returns-in-2 : goal.returns-in-2
returns-in-2 c =
    let legal = sym (rw (to_z-of_z c.ranges.first, to_z-of_z c.ranges.second) at c.wheels_ok.ensures) ∙ c.if-not-wheels_ok.false in
    let by = by_direct _ _ _ c.in-2.is ∙ sym (λ i. wheels (held c.ranges.first c.from.ensures i) (held c.ranges.second c.from-in-2.ensures i)) in
    c.cap_both-in-2.ensures ∙ sym (speeds_given _ _ _ legal by)

pub returns-in_default : goal.returns-in_default
returns-in_default c =
    let legal = sym (rw (to_z-of_z c.ranges.first, to_z-of_z c.ranges.second) at c.wheels_ok.ensures) ∙ c.if-not-wheels_ok.false in
    let by = by_none _ _ _ (λ (e : c.args.kind ≡ 1). omega arith) (λ (e : c.args.kind ≡ 2). omega arith) in
    c.cap_both-in_default.ensures ∙ sym (speeds_given _ _ _ legal by)
