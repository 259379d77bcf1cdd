-- The frame table (docs/RULES.md F3 to F10): how many data bytes an opcode has.
-- Assumes nothing.
use Rattle.std.specs.Prelude.{Bool, true, false, cond, List, [], ◌∷◌, ◌++◌, ℕ, ◌+◌, ◌*◌, get_or}
use Rattle.wire.specs.Lists.{among, from_to}
use Rattle.frame.specs.declared.Length.{Length}
use Rattle.frame.specs.declared.Length.TheVariants.{Fixed, Counted, Song, Unknown}

-- a row of the table: these opcodes have this length
pub record Row : Type 0 where
  pub opcodes : List ℕ
  pub length : Length

abbrev row : List ℕ → Length → Row
row ops n = record { opcodes = ops; length = n }

-- rules F3 to F9, in their order; F10, which has all other opcodes, is the end of the list
abbrev pub frame_table : List Row
frame_table =
    row (128 ∷ (from_to 130 135 ++ (143 ∷ 153 ∷ 154 ∷ []))) (Fixed 0)
    ∷ row (129 ∷ 136 ∷ 138 ∷ 141 ∷ 142 ∷ 147 ∷ 150 ∷ 151 ∷ 155 ∷ 158 ∷ []) (Fixed 1)
    ∷ row (156 ∷ 157 ∷ []) (Fixed 2)
    ∷ row (139 ∷ 144 ∷ []) (Fixed 3)
    ∷ row (137 ∷ 145 ∷ []) (Fixed 4)
    ∷ row (140 ∷ []) Song
    ∷ row (148 ∷ 149 ∷ 152 ∷ []) Counted
    ∷ []

-- what the rows say of an opcode
abbrev pub look : List Row → ℕ → Length
look [] op = Unknown
look (r ∷ rs) op = cond (among r.opcodes op) r.length (look rs op)

-- an opcode's data length, by the table
unfoldable pub data_length : ℕ → Length
data_length op = look frame_table op

-- the table's second column: how many data bytes a frame has, by its bytes. N is the first data
-- byte, L the second.
abbrev pub data_bytes : Length → List ℕ → ℕ
data_bytes (Fixed n) bytes = n
data_bytes Counted bytes = 1 + get_or bytes 1 0
data_bytes Song bytes = 2 + 2 * get_or bytes 2 0
data_bytes Unknown bytes = 0

-- the bytes of a frame up to the one that gives its length: the opcode, and a count byte with what
-- stands before it
abbrev pub header_size : Length → ℕ
header_size (Fixed n) = 1
header_size Counted = 2
header_size Song = 3
header_size Unknown = 1

-- an opcode of this length is in no row
abbrev pub in_no_row : Length → Bool
in_no_row (Fixed n) = false
in_no_row Counted = false
in_no_row Song = false
in_no_row Unknown = true
