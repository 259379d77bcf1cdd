-- `firmware::wheel_speeds` meets its contract: `drive`'s speeds, with a number for the flag.
-- Assumes nothing.
use Rattle.std.proofs.Common.{◌≡◌, ◌∙◌, refl, sym, ap, Bool, true, false, ℕ, pos, w16}
use mir.Facts.{to_z-of_z}
use mir.Val.{SFits, bool_byte}
use borrow.Author.Rules.{rules}
use Rattle.drive.specs.Orders.{told_speeds}
use Rattle.firmware.specs.Border.{flag_of, wheel_speeds_of}
use Rattle.firmware.proofs.wheel_speeds.Goals as goal

flag_is : (b : Bool) → bool_byte b ≡ flag_of b
flag_is true = refl
flag_is false = refl

pub returns-in-Ok : goal.returns-in-Ok
unfolding wheel_speeds_of
returns-in-Ok c =
    let f : SFits w16 c.in-Ok.speeds.right = search rules in
    let g : SFits w16 c.in-Ok.speeds.left = search rules in
    let e = rw (to_z-of_z c.ranges.first, to_z-of_z c.ranges.second) at c.wheel_speeds.ensures in
    (λ i. record { number = 0; right = to_z-of_z f i; left = to_z-of_z g i; capped = (c.from.ensures ∙ flag_is c.in-Ok.speeds.capped) i })
    ∙ ap wheel_speeds_of (ap told_speeds (sym c.in-Ok.is) ∙ e)

pub returns-in-Err : goal.returns-in-Err
unfolding wheel_speeds_of
returns-in-Err c =
    let e = rw (to_z-of_z c.ranges.first, to_z-of_z c.ranges.second) at c.wheel_speeds.ensures in
    ap (λ (n : ℕ). record { number = n; right = pos 0; left = pos 0; capped = 0 }) c.from-in-Err.ensures
    ∙ ap wheel_speeds_of (ap told_speeds (sym c.in-Err.is) ∙ e)
