-- A quotient rounded to the nearest whole number, halves away from zero (docs/RULES.md V3, V4).
-- Assumes nothing.
use Rattle.std.specs.Prelude.{◌≡◌, ◌⊎◌, ℕ, suc, ◌+◌, ◌*◌, ◌/◌, ◌≤◌, ℤ, pos, negsuc, nat_abs, ◌-ℤ◌, ◌*ℤ◌}
use Rattle.wire.specs.Sixteen.{minus}

-- without signs: a / b and a half, rounded down
abbrev pub half_up : ℕ → ℕ → ℕ
half_up a b = (2 * a + b) / (2 * b)

-- n / d to the nearest whole number, halves away from zero
unfoldable pub nearest_of : ℤ → ℤ → ℤ
nearest_of (pos a) (pos b) = pos (half_up a b)
nearest_of (pos a) (negsuc b) = minus (half_up a (suc b))
nearest_of (negsuc a) (pos b) = minus (half_up (suc a) b)
nearest_of (negsuc a) (negsuc b) = pos (half_up (suc a) (suc b))

-- from d times s to n
abbrev pub distance : ℤ → ℤ → ℤ → ℕ
distance n d s = nat_abs (d *ℤ s -ℤ n)

-- n / d is half way between s and k, and s is the one further from zero
pub record HalfWay (n d s k : ℤ) : Type 0 where
  pub one : 2 * distance n d s ≡ nat_abs d
  pub other : 2 * distance n d k ≡ nat_abs d
  pub further : nat_abs s ≡ nat_abs k + 1

-- s is the nearest whole number to n / d, halves away from zero
pub record Nearest (n d s : ℤ) : Type 0 where
  -- near enough (V3): d times s is at most half of d away from n
  pub near : 2 * distance n d s ≤ nat_abs d
  -- no other whole number has that property but at a half
  pub only : (k : ℤ) → 2 * distance n d k ≤ nat_abs d → (k ≡ s) ⊎ HalfWay n d s k
  -- and at a half there is another
  pub half : 2 * distance n d s ≡ nat_abs d → (k : ℤ) × HalfWay n d s k

-- THEOREM: a rounded quotient is the nearest, of all whole numbers
abbrev pub RoundingRight : Type 0
RoundingRight = (n d : ℤ) → (d ≡ pos 0 → ⊥) → Nearest n d (nearest_of n d)
