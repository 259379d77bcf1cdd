-- Laws of numbers with a sign, and their round trip, over the width.
-- Assumes nothing.
use mathlib.Core.Path.{◌≡◌, refl, sym, ap, ◌∙◌}
use mathlib.Core.Bool.{true, false}
use mathlib.Core.Logic.{⊎_elim}
use Prim.Native.Nat.{ℕ, zero, suc, ◌-◌, ◌*◌, ◌^◌, ◌<◌, ◌≤◌}
use native.Mathlib.Nat.{zero-add, eq-zero-or-pos, div-le_self}
use native.Mathlib.Omega.{arith}
use lib.Dec.{T, leb}
use lib.IntN.{ℤ, pos, negsuc, nat_abs, ◌-ℤ◌}
use lib.Pow.{pow_pos}
use lib.Signed.{lt_z, mag, mag_rem, non_neg, quot_z, rem_z}
use mir.Facts.{to_z-of_z, to_z_pos, sfits_widen}
use mir.Syntax.{Width, w16, w32}
use mir.Val.{hbits, Fits, SFits, to_z, of_z}
use mir.ValLaws.{half_full}
use borrow.Author.Tests.{le-ltb, lt-ltb}
use Rattle.wire.specs.Signed.{bits_of, signed_of, RoundTripBits, BytesShown}
use Rattle.wire.proofs.BoolLaws.{le_or_lt}
use Rattle.wire.proofs.IntLaws.{mag_abs, quot_abs}

-- ---- -1 - z

flip_neg : (n : ℕ) → negsuc 0 -ℤ negsuc n ≡ pos n
flip_neg n = simp (le-ltb (suc n) 1 (omega arith)) (ap pos (omega arith))

flip_pos : (n : ℕ) → negsuc 0 -ℤ pos n ≡ negsuc n
flip_pos zero = refl
flip_pos (suc n) = ap (λ (k : ℕ). negsuc (suc k)) (zero-add n)

-- ---- a test against 0

below_zero : (z : ℤ) → lt_z z (pos 0) ≡ true → z ≡ negsuc (mag z)
below_zero (pos n) e = cc (sym e ∙ le-ltb n 0 (omega arith))
below_zero (negsuc n) e = refl

not_below_zero : (z : ℤ) → lt_z z (pos 0) ≡ false → z ≡ pos (mag z)
not_below_zero (pos n) e = refl
not_below_zero (negsuc n) e = cc

-- ---- as the machine computes them, from the bits of a value

-- -1 - m, of a number that is not below 0
module _ (w : Width) (m : ℕ) (h : m < 2 ^ hbits w) where
  flipped : negsuc 0 -ℤ to_z w m ≡ negsuc m
  flipped = rw (to_z_pos w h) (flip_pos m)

  pub flipped_fits : SFits w (negsuc 0 -ℤ to_z w m)
  flipped_fits = rw flipped (record { sfits = h })

  pub flipped_held : to_z w (of_z w (negsuc 0 -ℤ to_z w m)) ≡ negsuc m
  flipped_held = ap (λ (z : ℤ). to_z w (of_z w z)) flipped ∙ to_z-of_z {w = w} {z = negsuc m} (record { sfits = h })

-- what a cast to the same width without a sign asks
abbrev pub Unsigned : Width → ℤ → Type 0
Unsigned w z = T (non_neg z) × Fits w (nat_abs z)

module _ {w : Width} (v : ℤ) (f : SFits w v) where
  -- -1 - v, of a number below 0
  module _ (e : lt_z (to_z w (of_z w v)) (pos 0) ≡ true) where
    pub below : v ≡ negsuc (mag v)
    below = below_zero v (rw (to_z-of_z f) at e)

    raised : negsuc 0 -ℤ to_z w (of_z w v) ≡ pos (mag v)
    raised = ap (λ (z : ℤ). negsuc 0 -ℤ z) (to_z-of_z f ∙ below) ∙ flip_neg (mag v)

    pub raised_fits : SFits w (negsuc 0 -ℤ to_z w (of_z w v))
    raised_fits = rw raised (record { sfits = f.sfits })

    pub raised_held : to_z w (of_z w (negsuc 0 -ℤ to_z w (of_z w v))) ≡ pos (mag v)
    raised_held = ap (λ (z : ℤ). to_z w (of_z w z)) raised ∙ to_z_pos w f.sfits

    pub raised_cast : Unsigned w (to_z w (of_z w (negsuc 0 -ℤ to_z w (of_z w v))))
    raised_cast = rw raised_held (tt, record { fits = half_full w f.sfits })

  -- and what v is where it is not
  pub above : lt_z (to_z w (of_z w v)) (pos 0) ≡ false → to_z w (of_z w v) ≡ pos (mag v)
  above e = to_z-of_z f ∙ not_below_zero v (rw (to_z-of_z f) at e)

  pub above_cast : lt_z (to_z w (of_z w v)) (pos 0) ≡ false → Unsigned w (to_z w (of_z w v))
  above_cast e = rw (above e) (tt, record { fits = half_full w f.sfits })

-- a number that is small enough without its sign
pub abs_fits : {w : Width} {z : ℤ} → nat_abs z < 2 ^ hbits w → SFits w z
abs_fits {w} {z} h = record { sfits = omega (arith, mag_abs z, h) }

-- a number in a width that is no less
module _ {w : Width} (w' : Width) {v : ℤ} (wide : T (leb (hbits w) (hbits w'))) (f : SFits w v) where
  pub widened_fits : SFits w' (to_z w (of_z w v))
  widened_fits = rw (to_z-of_z f) (sfits_widen wide f)

  pub widened : {r : ℤ} → r ≡ to_z w (of_z w v) → to_z w' (of_z w' r) ≡ v
  widened e = ap (λ (z : ℤ). to_z w' (of_z w' z)) (e ∙ to_z-of_z f) ∙ to_z-of_z (sfits_widen wide f)

-- a number of sixteen bits as the machine has it in 32
abbrev pub wide : ℤ → ℤ
wide z = to_z w32 (of_z w32 (to_z w16 (of_z w16 z)))

pub wide_is : {z : ℤ} → SFits w16 z → wide z ≡ z
wide_is f = widened w32 tt f refl

-- the machine's division of n by d
module _ {w : Width} {n d : ℤ} (f : SFits w n) (g : SFits w d) where
  -- of the numbers that the bits stand for
  of_bits : (op : ℤ → ℤ → ℤ) → op (to_z w (of_z w n)) (to_z w (of_z w d)) ≡ op n d
  of_bits op i = op (to_z-of_z f i) (to_z-of_z g i)

  -- a divisor other than 0 has bits other than 0
  divisor : 0 < nat_abs d → 0 < of_z w d
  divisor h =
      ⊎_elim
      (λ (e : of_z w d ≡ 0). let none = sym (to_z-of_z g) ∙ ap (to_z w) e ∙ to_z_pos w (pow_pos (hbits w)) in omega (arith, h, ap nat_abs none))
      (λ (p : 0 < of_z w d). p) (eq-zero-or-pos (of_z w d))

  -- the quotient of the least number by -1 alone has no room
  module _ (k : nat_abs n < 2 ^ hbits w) where
    quotient_fits : SFits w (quot_z n d)
    quotient_fits = abs_fits (omega (arith, k, quot_abs n d, div-le_self (nat_abs n) (nat_abs d)))

    -- what a division and its remainder ask
    pub division_asks : 0 < nat_abs d → (0 < of_z w d) × SFits w (quot_z (to_z w (of_z w n)) (to_z w (of_z w d)))
    division_asks h = (divisor h, rw (of_bits quot_z) quotient_fits)

    pub quotient_held : to_z w (of_z w (quot_z (to_z w (of_z w n)) (to_z w (of_z w d)))) ≡ quot_z n d
    quotient_held = ap (λ (z : ℤ). to_z w (of_z w z)) (of_bits quot_z) ∙ to_z-of_z quotient_fits

  pub remainder_held : to_z w (of_z w (rem_z (to_z w (of_z w n)) (to_z w (of_z w d)))) ≡ rem_z n d
  remainder_held =
      ap (λ (z : ℤ). to_z w (of_z w z)) (of_bits rem_z) ∙ to_z-of_z (record { sfits = omega (arith, f.sfits, mag_rem n d) })

-- ---- the round trip

module _ (half n : ℕ) where
  pub signed_low : n < half → signed_of half n ≡ pos n
  signed_low h = simp (lt-ltb n half h)

  pub signed_high : half ≤ n → signed_of half n ≡ negsuc (2 * half - 1 - n)
  signed_high h = simp (le-ltb n half h)

module _ (half : ℕ) where
  read_written : (v : ℤ) → mag v < half → signed_of half (bits_of half v) ≡ v
  read_written (pos n) f = signed_low half n f
  read_written (negsuc n) f = signed_high half (2 * half - 1 - n) (omega (arith, f)) ∙ ap negsuc (omega (arith, f))

  bits_fit : (v : ℤ) → mag v < half → bits_of half v < 2 * half
  bits_fit (pos n) f = omega (arith, f)
  bits_fit (negsuc n) f = omega (arith, f)

  module _ (n : ℕ) (h : n < 2 * half) where
    written_read : bits_of half (signed_of half n) ≡ n
    written_read =
        ⊎_elim (λ (p : half ≤ n). ap (bits_of half) (signed_high half n p) ∙ omega arith) (λ (p : n < half). ap (bits_of half) (signed_low half n p))
        (le_or_lt half n)

    read_fits : mag (signed_of half n) < half
    read_fits =
        ⊎_elim (λ (p : half ≤ n). rw (signed_high half n p) (omega arith)) (λ (p : n < half). rw (signed_low half n p) p)
        (le_or_lt half n)

pub round_trip_bits : (half : ℕ) → RoundTripBits half
round_trip_bits half =
    record {
      read_written = read_written half;
      written_read = written_read half;
      positive = λ n. refl;
      complement = λ n h. omega arith;
      bits_fit = bits_fit half;
      read_fits = read_fits half;
    }

pub bytes_shown : BytesShown
bytes_shown = record { minus_one = (refl, refl); nine = (refl, refl); minus_two = (refl, refl); ten = (refl, refl); least = (refl, refl) }
