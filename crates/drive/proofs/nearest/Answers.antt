-- `drive::nearest` meets its contract: the quotient rounded toward zero, or the next number away
-- from zero where twice the rest is no less than the divisor.
-- Assumes nothing.
use Rattle.std.proofs.Common.{◌≡◌, ◌∙◌, ap, ◌+◌, ◌≤◌, ◌<◌, ℤ, pos, nat_abs, ◌+ℤ◌, ◌-ℤ◌, w32, to_z, of_z, arith}
use mir.Facts.{to_z-of_z}
use mir.Val.{SFits}
use native.Mathlib.Nat.{div-le_self}
use lib.Signed.{quot_z}
use Rattle.wire.proofs.IntLaws.{abs_sum, abs_difference, quot_abs}
use Rattle.wire.proofs.SignedLaws.{abs_fits, quotient_held, remainder_held}
use Rattle.drive.proofs.RoundingLaws.{stays, goes_up, goes_below}
use Rattle.drive.proofs.nearest.Goals as goal

-- the machine's quotient
abbrev held : ℤ → ℤ → ℤ
held n d = to_z w32 (of_z w32 (quot_z (to_z w32 (of_z w32 n)) (to_z w32 (of_z w32 d))))

-- the next number, by a sum or a difference
next_held : (op : ℤ → ℤ → ℤ) → ((x y : ℤ) → nat_abs (op x y) ≤ nat_abs x + nat_abs y)
    → {n d : ℤ} → SFits w32 n → SFits w32 d → nat_abs n < 2147483647
    → to_z w32 (of_z w32 (op (held n d) (pos 1))) ≡ op (quot_z n d) (pos 1)
next_held op bound {n} {d} f g k =
    let q = quotient_held f g (omega (arith, k)) in
    let fits : SFits w32 (op (held n d) (pos 1)) = rw q (abs_fits (omega (arith, k, bound (quot_z n d) (pos 1), quot_abs n d, div-le_self (nat_abs n) (nat_abs d)))) in
    to_z-of_z fits ∙ ap (λ (z : ℤ). op z (pos 1)) q

pub returns-then-magnitude : goal.returns-then-magnitude
returns-then-magnitude c =
    quotient_held c.ranges.n c.ranges.d (omega (arith, c.requires.n_bound))
    ∙ stays c.args.n c.args.d c.requires.d_nonzero
    (omega (arith, c.if-magnitude.true, c.magnitude.ensures ∙ ap nat_abs (remainder_held c.ranges.n c.ranges.d), c.magnitude-2.ensures ∙ ap nat_abs (to_z-of_z c.ranges.d)))

pub returns-then-n-d : goal.returns-then-n-d
returns-then-n-d c =
    next_held ◌+ℤ◌ abs_sum c.ranges.n c.ranges.d c.requires.n_bound
    ∙ goes_up c.args.n c.args.d c.requires.d_nonzero
    (omega (arith, c.if-magnitude.false, c.magnitude.ensures ∙ ap nat_abs (remainder_held c.ranges.n c.ranges.d), c.magnitude-2.ensures ∙ ap nat_abs (to_z-of_z c.ranges.d)))
    (rw (to_z-of_z c.ranges.n, to_z-of_z c.ranges.d) at c.if-n-d.true)

pub returns-else-n-d : goal.returns-else-n-d
returns-else-n-d c =
    next_held ◌-ℤ◌ abs_difference c.ranges.n c.ranges.d c.requires.n_bound
    ∙ goes_below c.args.n c.args.d c.requires.d_nonzero
    (omega (arith, c.if-magnitude.false, c.magnitude.ensures ∙ ap nat_abs (remainder_held c.ranges.n c.ranges.d), c.magnitude-2.ensures ∙ ap nat_abs (to_z-of_z c.ranges.d)))
    (rw (to_z-of_z c.ranges.n, to_z-of_z c.ranges.d) at c.if-n-d.false)
