-- Numbers of sixteen bits as two bytes (docs/RULES.md F15).
-- Assumes nothing.
use Rattle.std.specs.Prelude.{◌≡◌, List, [], ◌∷◌, ℕ, ◌+◌, ◌*◌, ◌/◌, ◌%◌, ◌<◌, ℤ, pos, neg_ℤ}
use Rattle.std.specs.Int.{w8, w16}
use Rattle.std.proofs.Common.{SFits}
use Rattle.wire.specs.Signed.{bits_of, signed_of, bits8_of}

-- a negative number
abbrev pub minus : ℕ → ℤ
minus n = neg_ℤ (pos n)

-- the sixteen bits of a number, read without a sign
abbrev pub bits16_of : ℤ → ℕ
bits16_of = bits_of 32768

abbrev pub high16_of : ℤ → ℕ
high16_of v = bits16_of v / 256

abbrev pub low16_of : ℤ → ℕ
low16_of v = bits16_of v % 256

-- a number's two bytes, in the order in which they are sent
abbrev pub be16 : ℤ → List ℕ
be16 v = high16_of v ∷ low16_of v ∷ []

-- the number whose sixteen bits are n
abbrev pub signed16 : ℕ → ℤ
signed16 = signed_of 32768

-- the number that two bytes say
unfoldable pub read16_of : ℕ → ℕ → ℤ
read16_of hi lo = signed16 (hi * 256 + lo)

-- THEOREM: what is written is read back, and what is read is written back, for every value of i16
-- and all bytes
pub record RoundTrip16 : Type 0 where
  pub read_written : (v : ℤ) → SFits w16 v → read16_of (high16_of v) (low16_of v) ≡ v
  pub written_read : (hi lo : ℕ) → hi < 256 → lo < 256 → be16 (read16_of hi lo) ≡ hi ∷ lo ∷ []
  -- high byte first
  pub high_first : (v : ℤ) → high16_of v * 256 + low16_of v ≡ bits16_of v
  -- the low byte of a number that a signed byte can say is that byte
  pub low_of_byte : (v : ℤ) → SFits w8 v → low16_of v ≡ bits8_of v
  -- both bytes are bytes, and the number is one of i16
  pub high_byte : (v : ℤ) → SFits w16 v → high16_of v < 256
  pub low_byte : (v : ℤ) → low16_of v < 256
  pub read_fits : (hi lo : ℕ) → hi < 256 → lo < 256 → SFits w16 (read16_of hi lo)
