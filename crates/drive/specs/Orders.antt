-- From a wheel order to a speed for each wheel (docs/RULES.md V1 to V13).
-- Assumes nothing.
use Rattle.std.specs.Prelude.{Bool, false, cond, ◌&&◌, ◌||◌, ℕ, eqb, ltb, ℤ, pos, neg_ℤ, nat_abs, ◌+ℤ◌, ◌-ℤ◌, ◌*ℤ◌, Result, Ok, Err}
use Rattle.std.specs.Int.Signed.{lt_z}
use Rattle.wire.specs.Sixteen.{minus}
use Rattle.wire.specs.Replies.{number_of}
use Rattle.wire.specs.declared.Refusal.{Refusal}
use Rattle.state.specs.State.{drive, direct, motors_stopped}
use Rattle.state.specs.Accepted.{order_named, wheels_legal}
use Rattle.state.specs.Same.{same_number}
use Rattle.state.specs.declared.Motors.{Motors}
use Rattle.drive.specs.Rounding.{nearest_of}
use Rattle.drive.specs.declared.Wheels.{Wheels}
use Rattle.drive.specs.declared.Speeds.{Speeds}

-- ---- the speeds before the cap

abbrev pub wheels : ℤ → ℤ → Wheels
wheels right left = record { right = right; left = left }

-- the exact speeds of velocity v and radius r are these over r (V2)
abbrev pub right_numerator : ℤ → ℤ → ℤ
right_numerator v r = v *ℤ (r +ℤ pos 129)

abbrev pub left_numerator : ℤ → ℤ → ℤ
left_numerator v r = v *ℤ (r -ℤ pos 129)

-- a Drive: rules V5, V6 and V7, and V2 for any other radius
unfoldable pub curve_of : ℤ → ℤ → Wheels
curve_of v r =
    cond (same_number r (pos 1)) (wheels v (neg_ℤ v))
    (cond (same_number r (minus 1)) (wheels (neg_ℤ v) v)
    (cond (same_number r (pos 32767) || same_number r (minus 32768)) (wheels v v)
    (wheels (nearest_of (right_numerator v r) r) (nearest_of (left_numerator v r) r))))

-- by the kind of order: rules V8 and V9
abbrev pub wheels_by : ℕ → ℤ → ℤ → Wheels
wheels_by kind first second = cond (eqb kind drive) (curve_of first second) (cond (eqb kind direct) (wheels first second) (wheels (pos 0) (pos 0)))

-- ---- the cap

-- beyond 500, either way (V11)
abbrev pub beyond : ℤ → Bool
beyond s = ltb 500 (nat_abs s)

-- the cap (V10)
abbrev pub cap_of : ℤ → ℤ
cap_of s = cond (lt_z (pos 500) s) (pos 500) (cond (lt_z s (minus 500)) (minus 500) s)

-- ---- what comes back

-- a number, the speed of each wheel, and whether either was capped
pub record Told : Type 0 where
  pub number : ℕ
  pub right : ℤ
  pub left : ℤ
  pub capped : Bool

-- done: number 0
abbrev pub speeds : ℤ → ℤ → Bool → Told
speeds right left capped = record { number = 0; right = right; left = left; capped = capped }

-- each wheel capped alone, and whether either was
abbrev pub given : Wheels → Told
given w = speeds (cap_of w.right) (cap_of w.left) (beyond w.right || beyond w.left)

-- rule V12: there are no speeds
abbrev pub refused : Told
refused = record { number = 4; right = pos 0; left = pos 0; capped = false }

-- legal is what B2 and B4 let be in a state record, of whose motors the duties are no part here
abbrev pub order_of : ℕ → ℤ → ℤ → Motors
order_of kind first second = record { order = kind; first = first; second = second; duties = motors_stopped.duties }

abbrev pub legal_order : ℕ → ℤ → ℤ → Bool
legal_order kind first second = order_named (order_of kind first second) && wheels_legal (order_of kind first second)

unfoldable pub speeds_of : ℕ → ℤ → ℤ → Told
speeds_of kind first second = cond (legal_order kind first second) (given (wheels_by kind first second)) refused

-- what a call's result tells: 0 and its speeds (N0), or its refusal's number and no speeds
abbrev pub told_speeds : Result Speeds Refusal → Told
told_speeds (Ok s) = speeds s.right s.left s.capped
told_speeds (Err r) = record { number = number_of r; right = pos 0; left = pos 0; capped = false }
