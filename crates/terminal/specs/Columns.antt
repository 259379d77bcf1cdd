-- Columns of text: as many as bytes since the last newline.
-- Assumes nothing.
use Rattle.std.specs.Prelude.{cond, eqb, List, [], ◌∷◌, ℕ, ◌+◌, ◌^◌, ◌%◌}

-- the column after a byte; it never comes near the type's end, where it would begin anew
abbrev pub column_after : ℕ → ℕ → ℕ
column_after column b = cond (eqb b 10) 0 ((column + 1) % 2 ^ 64)

-- the column after a text
abbrev pub columns_after : ℕ → List ℕ → ℕ
columns_after column [] = column
columns_after column (b ∷ bs) = columns_after (column_after column b) bs
