-- What crosses to C is numbers alone (docs/RULES.md L4, L5, L8): the byte of a bool can be anything
-- there.
-- Assumes nothing.
use Rattle.std.specs.Prelude.{◌≡◌, Bool, true, false, not, cond, ℕ, ◌<◌, eqb}
use Rattle.drive.specs.Orders.{Told}
use Rattle.firmware.specs.declared.WheelSpeeds.{WheelSpeeds}

-- a flag that is handed in: 0 clear, any other number set
abbrev pub flag_set : ℕ → Bool
flag_set flag = not (eqb flag 0)

-- a flag that is handed out: 1 yes, 0 no
abbrev pub flag_of : Bool → ℕ
flag_of b = cond b 1 0

-- the speeds of `drive`, with such a flag
unfoldable pub wheel_speeds_of : Told → WheelSpeeds
wheel_speeds_of s = record { number = s.number; right = s.right; left = s.left; capped = flag_of s.capped }

-- THEOREM: a flag is the same on both sides, and wheel speeds are as `drive` gives them
pub record BorderRight : Type 0 where
  pub clear : flag_set 0 ≡ false
  pub set : (flag : ℕ) → 0 < flag → flag_set flag ≡ true
  pub yes : flag_of true ≡ 1
  pub no : flag_of false ≡ 0
  pub same_number_lem : (s : Told) → (wheel_speeds_of s).number ≡ s.number
  pub same_right : (s : Told) → (wheel_speeds_of s).right ≡ s.right
  pub same_left : (s : Told) → (wheel_speeds_of s).left ≡ s.left
  pub flag_capped : (s : Told) → (wheel_speeds_of s).capped ≡ flag_of s.capped
