-- The theorem of specs/Border.antt.
-- Assumes nothing.
use mathlib.Core.Path.{◌≡◌, refl, ap}
use mathlib.Core.Bool.{true, not}
use Prim.Native.Nat.{ℕ, ◌<◌}
use native.Mathlib.Omega.{arith}
use borrow.Author.Tests.{ne_eqb}
use Rattle.firmware.specs.Border.{flag_set, wheel_speeds_of, BorderRight}

set : (flag : ℕ) → 0 < flag → flag_set flag ≡ true
set flag h = ap not (ne_eqb flag 0 (λ (e : flag ≡ 0). omega arith))

pub border_right : BorderRight
unfolding wheel_speeds_of
border_right =
    record {
      clear = refl;
      set = set;
      yes = refl;
      no = refl;
      same_number_lem = λ s. refl;
      same_right = λ s. refl;
      same_left = λ s. refl;
      flag_capped = λ s. refl;
    }
