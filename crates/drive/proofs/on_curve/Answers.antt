-- `drive::on_curve` meets its contract: of any two numbers of sixteen bits the numerator is within
-- 32 bits.
-- Assumes nothing.
use Rattle.std.proofs.Common.{◌≡◌, ◌∙◌, ap, ◌≤◌, ℤ, nat_abs, ◌+ℤ◌, ◌*ℤ◌, w16, w32, to_z, of_z, arith}
use mir.Facts.{to_z-of_z}
use mir.Val.{SFits}
use native.Mathlib.Nat.{mul-le-mul}
use lib.Signed.{nat_abs-le}
use borrow.Author.Rules.{rules}
use Rattle.wire.proofs.IntLaws.{abs_sum, abs_times}
use Rattle.wire.proofs.SignedLaws.{abs_fits, wide_is}
use Rattle.drive.specs.Rounding.{nearest_of}
use Rattle.drive.proofs.on_curve.Goals as goal

-- a number as the machine has it in 32 bits
abbrev held : ℤ → ℤ
held z = to_z w32 (of_z w32 z)

-- velocity and radius, widened
module _ {v r offset x y : ℤ} (f : SFits w16 v) (g : SFits w16 r) (o : SFits w32 offset) (k : nat_abs offset ≤ 129) (ex : x ≡ to_z w16 (of_z w16 v)) (ey : y ≡ to_z w16 (of_z w16 r)) where
  radius_is : held y ≡ r
  radius_is = ap held ey ∙ wide_is g

  sum_is : held y +ℤ held offset ≡ r +ℤ offset
  sum_is i = radius_is i +ℤ to_z-of_z o i

  sum_small : nat_abs (r +ℤ offset) ≤ 32897
  sum_small = omega (arith, k, abs_sum r offset, nat_abs-le r g.sfits)

  sum_fits : SFits w32 (held y +ℤ held offset)
  sum_fits = rw sum_is (abs_fits (omega (arith, sum_small)))

  product_is : held x *ℤ held (held y +ℤ held offset) ≡ v *ℤ (r +ℤ offset)
  product_is i = (ap held ex ∙ wide_is f) i *ℤ (to_z-of_z sum_fits ∙ sum_is) i

  product_small : nat_abs (v *ℤ (r +ℤ offset)) ≤ 1077968896
  product_small = omega (arith, abs_times v (r +ℤ offset), mul-le-mul (nat_abs-le v f.sfits) sum_small)

  product_fits : SFits w32 (held x *ℤ held (held y +ℤ held offset))
  product_fits = rw product_is (abs_fits (omega (arith, product_small)))

  product_held : held (held x *ℤ held (held y +ℤ held offset)) ≡ v *ℤ (r +ℤ offset)
  product_held = to_z-of_z product_fits ∙ product_is

pub overflow_mul-from : goal.overflow_mul-from
overflow_mul-from c = product_fits c.ranges.velocity c.ranges.radius c.ranges.offset c.requires.offset_bound c.from.ensures c.from-r.ensures

pub nearest-requires-clause-n_bound : goal.nearest-requires-clause-n_bound
nearest-requires-clause-n_bound c =
    rw (product_held c.ranges.velocity c.ranges.radius c.ranges.offset c.requires.offset_bound c.from.ensures c.from-r.ensures)
    (omega (arith, product_small c.ranges.velocity c.ranges.radius c.ranges.offset c.requires.offset_bound c.from.ensures c.from-r.ensures))

pub returns : goal.returns
returns c =
    let k = c.requires.offset_bound in
    to_z-of_z {w = w32} (search rules)
    ∙ c.nearest.ensures
    ∙ (λ i. nearest_of (product_held c.ranges.velocity c.ranges.radius c.ranges.offset k c.from.ensures c.from-r.ensures i)
    (radius_is c.ranges.velocity c.ranges.radius c.ranges.offset k c.from.ensures c.from-r.ensures i))
