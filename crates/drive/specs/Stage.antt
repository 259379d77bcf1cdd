-- What the motor stage can count on: the theorems of this crate.
-- Assumes nothing.
use Rattle.std.specs.Prelude.{◌≡◌, Bool, true, false, cond, ◌&&◌, ◌||◌, ℕ, ◌≤◌, ◌<◌, T, ℤ, pos, neg_ℤ, nat_abs}
use Rattle.std.specs.Int.Signed.{lt_z}
use Rattle.wire.specs.Lists.{all, within}
use Rattle.wire.specs.Sixteen.{minus}
use Rattle.command.specs.Commands.{is_speed, is_radius}
use Rattle.state.specs.State.{motors_off}
use Rattle.state.specs.Accepted.{accepted_of}
use Rattle.state.specs.Same.{same_number}
use Rattle.state.specs.declared.Motors.{Motors}
use Rattle.state.specs.declared.State.{State}
use Rattle.drive.specs.Rounding.{Nearest, RoundingRight}
use Rattle.drive.specs.Orders.{wheels, right_numerator, left_numerator, curve_of, beyond, cap_of, Told, speeds, given, refused, speeds_of}
use Rattle.drive.specs.Cases.{speed_cases, speed_right}
use Rattle.drive.specs.declared.Wheels.{Wheels}

-- ---- a curve

-- a plain radius (V2)
abbrev pub is_plain : ℤ → Bool
is_plain r = within 2 2000 (nat_abs r)

-- one of the four with a meaning of its own
abbrev pub is_special : ℤ → Bool
is_special r = (same_number r (pos 1) || same_number r (minus 1)) || (same_number r (pos 32767) || same_number r (minus 32768))

-- each wheel has the nearest to v(r + 129)/r, right, and v(r - 129)/r, left
pub record BothNearest (v r : ℤ) (w : Wheels) : Type 0 where
  pub right_nearest : Nearest (right_numerator v r) r w.right
  pub left_nearest : Nearest (left_numerator v r) r w.left

-- THEOREM: both wheels by velocity and radius, before the cap
pub record CurvesRight : Type 0 where
  -- every legal radius is plain or special
  pub radii : (r : ℤ) → is_radius r ≡ (is_plain r || is_special r)
  -- on a plain one each wheel has the nearest whole number to its exact speed, at every velocity
  pub plain : (v r : ℤ) → is_plain r ≡ true → BothNearest v r (curve_of v r)
  -- rules V5, V6 and V7: on the spot, and straight on
  pub counterclockwise : (v : ℤ) → curve_of v (pos 1) ≡ wheels v (neg_ℤ v)
  pub clockwise : (v : ℤ) → curve_of v (minus 1) ≡ wheels (neg_ℤ v) v
  pub straight : (v : ℤ) → curve_of v (pos 32767) ≡ wheels v v
  pub straight_too : (v : ℤ) → curve_of v (minus 32768) ≡ wheels v v

-- ---- the cap

-- THEOREM: the cap of one speed, in all three cases
pub record CapRight : Type 0 where
  pub above : (s : ℤ) → lt_z (pos 500) s ≡ true → (cap_of s ≡ pos 500) × (beyond s ≡ true)
  pub below : (s : ℤ) → lt_z s (minus 500) ≡ true → (cap_of s ≡ minus 500) × (beyond s ≡ true)
  pub inside : (s : ℤ) → lt_z (pos 500) s ≡ false → lt_z s (minus 500) ≡ false → (cap_of s ≡ s) × (beyond s ≡ false)

-- ---- an order

-- the same backwards
abbrev pub backwards : Told → Told
backwards s = record { number = s.number; right = neg_ℤ s.right; left = neg_ℤ s.left; capped = s.capped }

-- THEOREM: every kind of order, with any two numbers
pub record OrdersRight : Type 0 where
  -- rule V9: no order
  pub none : (a b : ℤ) → speeds_of 0 a b ≡ speeds (pos 0) (pos 0) false
  -- a Drive by C137's numbers, and any other is refused (V12)
  pub drive : (v r : ℤ) → speeds_of 1 v r ≡ cond (is_speed v && is_radius r) (given (curve_of v r)) refused
  -- rule V8: a Direct as it is
  pub direct : (a b : ℤ) → speeds_of 2 a b ≡ cond (is_speed a && is_speed b) (speeds a b false) refused
  -- a kind that isn't named (V12)
  pub unnamed : (kind : ℕ) (a b : ℤ) → 2 < kind → speeds_of kind a b ≡ refused
  -- rule V11: the flag tells of either wheel
  pub flag : (v r : ℤ) → (is_speed v && is_radius r) ≡ true → (speeds_of 1 v r).capped ≡ (beyond (curve_of v r).right || beyond (curve_of v r).left)
  -- no wheel is ever told more
  pub bounded : (kind : ℕ) (a b : ℤ) → (nat_abs (speeds_of kind a b).right ≤ 500) × (nat_abs (speeds_of kind a b).left ≤ 500)
  -- rule V14: odd in the velocity
  pub odd : (v r : ℤ) → speeds_of 1 (neg_ℤ v) r ≡ backwards (speeds_of 1 v r)

-- ---- the state record's order

abbrev pub ordered : Motors → Told
ordered m = speeds_of m.order m.first m.second

-- THEOREM: a record that the board takes is never refused here, and where it has its motors off the
-- wheels stand
pub record RecordsRight : Type 0 where
  pub accepted : (s : State) → T (accepted_of s) → (ordered s.motors).number ≡ 0
  pub off : (m : Motors) → motors_off m ≡ true → ordered m ≡ speeds (pos 0) (pos 0) false
  -- in Off and Passive
  pub at_rest : (s : State) → T (accepted_of s) → s.mode ≤ 1 → ordered s.motors ≡ speeds (pos 0) (pos 0) false

-- ---- all of it

pub record StageRight : Type 0 where
  pub rounding : RoundingRight
  pub curves : CurvesRight
  pub cap : CapRight
  pub orders : OrdersRight
  pub records : RecordsRight
  -- THEOREM: speeds in numbers
  pub cases : T (all speed_right speed_cases)
