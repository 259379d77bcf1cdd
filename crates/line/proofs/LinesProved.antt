-- The reader in numbers: the cases are computed.
-- Assumes nothing.
use Rattle.line.specs.Cases.{LinesInNumbers}

pub lines_in_numbers : LinesInNumbers
lines_in_numbers = record { numbers_right = tt; words_right = tt; lines_right = tt }
