-- Numbers with a sign as bits, two's complement, over the width: with w bits a number is from -half
-- to half - 1, half being 2 to the w - 1.
-- Assumes nothing.
use Rattle.std.specs.Prelude.{◌≡◌, cond, ℕ, ◌+◌, ◌-◌, ◌*◌, ◌<◌, ltb, ℤ, pos, negsuc}
use Rattle.std.specs.Int.Signed.{mag}

-- the bits of a number, read without a sign; negsuc n is -(n + 1)
abbrev pub bits_of : ℕ → ℤ → ℕ
bits_of half (pos n) = n
bits_of half (negsuc n) = 2 * half - 1 - n

-- the number whose bits are n
abbrev pub signed_of : ℕ → ℕ → ℤ
signed_of half n = cond (ltb n half) (pos n) (negsuc (2 * half - 1 - n))

-- a signed byte: the byte that is sent, and the number that it says
abbrev pub bits8_of : ℤ → ℕ
bits8_of = bits_of 128

abbrev pub read8_of : ℕ → ℤ
read8_of = signed_of 128

-- a value and its byte, both ways
abbrev pub ShownByte : ℤ → ℕ → Type 0
ShownByte v b = (bits8_of v ≡ b) × (read8_of b ≡ v)

-- THEOREM: what is written is read back, and what is read is written back, at every width
pub record RoundTripBits (half : ℕ) : Type 0 where
  -- mag is n of pos n and of negsuc n: below half for the numbers from -half to half - 1
  pub read_written : (v : ℤ) → mag v < half → signed_of half (bits_of half v) ≡ v
  pub written_read : (n : ℕ) → n < 2 * half → bits_of half (signed_of half n) ≡ n
  -- n is its own bits, and those of -(n + 1) and n + 1 make 2 to the width
  pub positive : (n : ℕ) → bits_of half (pos n) ≡ n
  pub complement : (n : ℕ) → n < half → bits_of half (negsuc n) + (n + 1) ≡ 2 * half
  -- as many bits as the width has are enough, and what they say is one of its numbers
  pub bits_fit : (v : ℤ) → mag v < half → bits_of half v < 2 * half
  pub read_fits : (n : ℕ) → n < 2 * half → mag (signed_of half n) < half

-- THEOREM: the ends of a Demo's range (rules F16, C136) and their neighbours: -1, 9; -2, 10; and
-- the byte 128, which is -128
pub record BytesShown : Type 0 where
  pub minus_one : ShownByte (negsuc 0) 255
  pub nine : ShownByte (pos 9) 9
  pub minus_two : ShownByte (negsuc 1) 254
  pub ten : ShownByte (pos 10) 10
  pub least : ShownByte (negsuc 127) 128
