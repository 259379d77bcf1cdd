-- The round trip of sixteen-bit numbers, high byte first.
-- Assumes nothing.
use mathlib.Core.Path.{◌≡◌, ap, ap₂, ◌∙◌}
use mathlib.Core.List.{[], ◌∷◌}
use Prim.Native.Nat.{ℕ, ◌+◌, ◌*◌, ◌/◌, ◌%◌, ◌<◌}
use native.Mathlib.Omega.{arith}
use lib.IntN.{ℤ, pos, negsuc}
use mir.Syntax.{w8, w16}
use mir.Val.{SFits}
use Rattle.wire.specs.Signed.{bits8_of, RoundTripBits}
use Rattle.wire.specs.Sixteen.{bits16_of, high16_of, low16_of, be16, signed16, read16_of, RoundTrip16}
use Rattle.wire.proofs.SignedLaws.{round_trip_bits}

abbrev bits : RoundTripBits 32768
bits = round_trip_bits 32768

high_first : (v : ℤ) → high16_of v * 256 + low16_of v ≡ bits16_of v
high_first v = omega arith

read_written : (v : ℤ) → SFits w16 v → read16_of (high16_of v) (low16_of v) ≡ v
unfolding read16_of
read_written v f = ap signed16 (high_first v) ∙ bits.read_written v f.sfits

written_read : (hi lo : ℕ) → hi < 256 → lo < 256 → be16 (read16_of hi lo) ≡ hi ∷ lo ∷ []
unfolding read16_of
written_read hi lo p q =
    let e = bits.written_read (hi * 256 + lo) (omega arith) in
    let d : (hi * 256 + lo) / 256 ≡ hi = omega arith in
    let m : (hi * 256 + lo) % 256 ≡ lo = omega arith in
    ap (λ (n : ℕ). n / 256 ∷ n % 256 ∷ []) e ∙ ap₂ (λ (a b : ℕ). a ∷ b ∷ []) d m

read_fits : (hi lo : ℕ) → hi < 256 → lo < 256 → SFits w16 (read16_of hi lo)
unfolding read16_of
read_fits hi lo p q = record { sfits = bits.read_fits (hi * 256 + lo) (omega arith) }

low_of_byte : (v : ℤ) → SFits w8 v → low16_of v ≡ bits8_of v
low_of_byte (pos n) f = omega (arith, f.sfits)
low_of_byte (negsuc n) f = omega (arith, f.sfits)

pub round_trip16 : RoundTrip16
round_trip16 =
    record {
      read_written = read_written;
      written_read = written_read;
      high_first = high_first;
      low_of_byte = low_of_byte;
      high_byte = λ v f. (let s = bits.bits_fit v f.sfits in omega arith);
      low_byte = λ v. omega arith;
      read_fits = read_fits;
    }
