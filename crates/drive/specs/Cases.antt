-- Speeds in numbers: worked cases of wheel orders. What they expect is written out, and cites
-- no rule.
-- Assumes nothing.
use Rattle.std.specs.Prelude.{Bool, true, false, ◌&&◌, List, [], ◌∷◌, ℕ, eqb, ℤ, pos}
use Rattle.std.specs.Bool.{beq}
use Rattle.wire.specs.Sixteen.{minus}
use Rattle.state.specs.Same.{same_number}
use Rattle.drive.specs.Orders.{speeds_of}

-- an order gives this number, these speeds and this flag
pub record SpeedCase : Type 0 where
  pub kind : ℕ
  pub first : ℤ
  pub second : ℤ
  pub number : ℕ
  pub right : ℤ
  pub left : ℤ
  pub capped : Bool

abbrev order : ℕ → ℤ → ℤ → ℤ → ℤ → Bool → SpeedCase
order k a b right left capped = record { kind = k; first = a; second = b; number = 0; right = right; left = left; capped = capped }

abbrev drives : ℤ → ℤ → ℤ → ℤ → SpeedCase
drives v r right left = order 1 v r right left false

abbrev caps : ℤ → ℤ → ℤ → ℤ → SpeedCase
caps v r right left = order 1 v r right left true

abbrev directs : ℤ → ℤ → SpeedCase
directs right left = order 2 right left right left false

abbrev stands : ℤ → ℤ → SpeedCase
stands a b = order 0 a b (pos 0) (pos 0) false

abbrev refuses : ℕ → ℤ → ℤ → SpeedCase
refuses k a b = record { kind = k; first = a; second = b; number = 4; right = pos 0; left = pos 0; capped = false }

abbrev pub speed_cases : List SpeedCase
speed_cases =
    -- 251.6 and 148.4; both signs of velocity and radius
    drives (pos 200) (pos 500) (pos 252) (pos 148)
    ∷ drives (minus 200) (pos 500) (minus 252) (minus 148)
    ∷ drives (pos 200) (minus 500) (pos 148) (pos 252)
    ∷ drives (minus 200) (minus 500) (minus 148) (minus 252)
    -- halves: 65.5 and -63.5, and the same turned round
    ∷ drives (pos 1) (pos 2) (pos 66) (minus 64)
    ∷ drives (minus 1) (pos 2) (minus 66) (pos 64)
    ∷ drives (pos 1) (minus 2) (minus 64) (pos 66)
    ∷ drives (minus 1) (minus 2) (pos 64) (minus 66)
    -- 500.4 is not capped; 500.5 is, and 423.5 beside it is a half
    ∷ drives (pos 423) (pos 705) (pos 500) (pos 346)
    ∷ drives (minus 423) (pos 705) (minus 500) (minus 346)
    ∷ caps (pos 462) (pos 1548) (pos 500) (pos 424)
    ∷ caps (minus 462) (pos 1548) (minus 500) (minus 424)
    ∷ caps (pos 462) (minus 1548) (pos 424) (pos 500)
    -- a wheel that stands, the plain radii next to the special ones and the last ones, and the
    -- largest speeds before the cap
    ∷ drives (pos 100) (pos 129) (pos 200) (pos 0)
    ∷ drives (pos 100) (minus 129) (pos 0) (pos 200)
    ∷ drives (pos 0) (pos 2) (pos 0) (pos 0)
    ∷ drives (pos 300) (pos 2000) (pos 319) (pos 281)
    ∷ drives (pos 300) (minus 2000) (pos 281) (pos 319)
    ∷ caps (pos 500) (pos 2) (pos 500) (minus 500)
    ∷ caps (minus 500) (pos 2) (minus 500) (pos 500)
    -- the special radii: counterclockwise, clockwise, straight
    ∷ drives (pos 300) (pos 1) (pos 300) (minus 300)
    ∷ drives (minus 300) (pos 1) (minus 300) (pos 300)
    ∷ drives (pos 300) (minus 1) (minus 300) (pos 300)
    ∷ drives (minus 300) (minus 1) (pos 300) (minus 300)
    ∷ drives (pos 500) (pos 32767) (pos 500) (pos 500)
    ∷ drives (minus 500) (minus 32768) (minus 500) (minus 500)
    -- Direct passes through, and no order stands, whatever its numbers
    ∷ directs (pos 500) (minus 500)
    ∷ directs (minus 1) (pos 0)
    ∷ stands (pos 0) (pos 0)
    ∷ stands (pos 501) (pos 0)
    ∷ stands (minus 32768) (pos 32767)
    -- refused: velocity, radius; right, left; a kind that is not named
    ∷ refuses 1 (pos 501) (pos 500)
    ∷ refuses 1 (minus 501) (pos 500)
    ∷ refuses 1 (pos 501) (pos 1)
    ∷ refuses 1 (minus 32768) (pos 32767)
    ∷ refuses 1 (pos 200) (pos 0)
    ∷ refuses 1 (pos 0) (pos 0)
    ∷ refuses 1 (pos 200) (pos 2001)
    ∷ refuses 1 (pos 200) (minus 2001)
    ∷ refuses 1 (pos 200) (pos 32766)
    ∷ refuses 1 (pos 200) (minus 32767)
    ∷ refuses 2 (pos 501) (pos 0)
    ∷ refuses 2 (minus 501) (pos 0)
    ∷ refuses 2 (pos 0) (pos 501)
    ∷ refuses 2 (pos 0) (minus 501)
    ∷ refuses 3 (pos 200) (pos 500)
    ∷ refuses 255 (pos 0) (pos 0)
    ∷ []

abbrev pub speed_right : SpeedCase → Bool
speed_right c =
    let s = speeds_of c.kind c.first c.second in
    eqb s.number c.number && (same_number s.right c.right && (same_number s.left c.left && beq s.capped c.capped))
