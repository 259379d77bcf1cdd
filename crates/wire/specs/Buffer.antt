-- A list of bytes placed into a buffer that the caller lends.
-- Assumes nothing.
use Rattle.std.specs.Prelude.{◌≡◌, List, ◌++◌, ℕ, ◌+◌, length, take, drop}

-- the buffer with the bytes a in the place of its first ones
unfoldable pub overwrite : List ℕ → List ℕ → List ℕ
overwrite a buffer = a ++ drop (length a) buffer

-- the buffer with the bytes a from index i on
unfoldable pub placed : List ℕ → ℕ → List ℕ → List ℕ
placed a i buffer = take i buffer ++ (a ++ drop (i + length a) buffer)

-- what a function that writes a at i leaves: the place r after it, and the buffer `after` that
-- was `before`
pub record Put (a : List ℕ) (i : ℕ) (before after : List ℕ) (r : ℕ) : Type 0 where
  pub next : r ≡ i + length a
  pub bytes : after ≡ placed a i before
