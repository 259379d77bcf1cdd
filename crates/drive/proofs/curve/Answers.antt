-- `drive::curve` meets its contract: each arm knows the radius.
-- Assumes nothing.
use Rattle.std.proofs.Common.{◌≡◌, ◌∙◌, sym, ap, ◌⊎◌, ℤ, pos, neg_ℤ, ◌-ℤ◌, w16, w32, to_z, of_z, arith}
use mathlib.Core.Logic.{⊎_elim}
use lib.IntN.{+ℤ_idl}
use lib.Signed.{nat_abs-le}
use mir.Facts.{to_z-of_z}
use mir.Val.{SFits}
use borrow.Author.Rules.{rules}
use Rattle.std.proofs.lemmas.Int.{ints}
use Rattle.wire.specs.Sixteen.{minus}
use Rattle.wire.proofs.IntLaws.{abs_minus}
use Rattle.wire.proofs.SignedLaws.{abs_fits, wide_is}
use Rattle.drive.specs.Orders.{wheels}
use Rattle.drive.proofs.OrdersLaws.{differ, on_one, on_minus_one, on_straight, on_least, on_plain}
use Rattle.drive.proofs.curve.Goals as goal

-- a velocity in 32 bits, and -v, which is computed as 0 - v
module _ {v x : ℤ} (f : SFits w16 v) (e : x ≡ to_z w16 (of_z w16 v)) where
  held : to_z w32 (of_z w32 x) ≡ v
  held = ap (λ (z : ℤ). to_z w32 (of_z w32 z)) e ∙ wide_is f

  minus_is : pos 0 -ℤ to_z w32 (of_z w32 x) ≡ neg_ℤ v
  minus_is = +ℤ_idl (neg_ℤ (to_z w32 (of_z w32 x))) ∙ ap neg_ℤ held

  minus_held : to_z w32 (of_z w32 (pos 0 -ℤ to_z w32 (of_z w32 x))) ≡ neg_ℤ v
  minus_held = to_z-of_z {w = w32} (rw minus_is (abs_fits (omega (arith, abs_minus v, nat_abs-le v f.sfits)))) ∙ minus_is

pub returns-in-1 : goal.returns-in-1
returns-in-1 c =
    let r : c.args.radius ≡ pos 1 = omega (arith, ints) in
    (λ i. wheels (held c.ranges.velocity c.from-v.ensures i) (minus_held c.ranges.velocity c.from-v.ensures i)) ∙ sym (on_one _ _ r)

pub returns-in-minus1 : goal.returns-in-minus1
returns-in-minus1 c =
    let r : c.args.radius ≡ minus 1 = omega (arith, ints) in
    (λ i. wheels (minus_held c.ranges.velocity c.from-v.ensures i) (held c.ranges.velocity c.from-v.ensures i)) ∙ sym (on_minus_one _ _ r)

pub returns-in-32767 : goal.returns-in-32767
returns-in-32767 c =
    let r : (c.args.radius ≡ minus 32768) ⊎ (c.args.radius ≡ pos 32767) = grind (arith, ints) in
    (λ i. wheels (held c.ranges.velocity c.from-v.ensures i) (held c.ranges.velocity c.from-v.ensures i))
    ∙ sym (⊎_elim (on_least c.args.velocity c.args.radius) (on_straight c.args.velocity c.args.radius) r)

pub returns-in_default : goal.returns-in_default
returns-in_default c =
    let v = to_z-of_z c.ranges.velocity in
    let r = to_z-of_z c.ranges.radius in
    let right = to_z-of_z {w = w32} {z = c.on_curve.result} (search rules) ∙ rw (v, r) at c.on_curve.ensures in
    let left = to_z-of_z {w = w32} {z = c.on_curve-in_default.result} (search rules) ∙ rw (v, r) at c.on_curve-in_default.ensures in
    (λ i. wheels (right i) (left i))
    ∙ sym
    (on_plain c.args.velocity c.args.radius
    (differ c.args.radius (pos 1) (λ e. omega (arith, ints)))
    (differ c.args.radius (minus 1) (λ e. omega (arith, ints)))
    (differ c.args.radius (pos 32767) (λ e. grind (arith, ints)))
    (differ c.args.radius (minus 32768) (λ e. grind (arith, ints))))
