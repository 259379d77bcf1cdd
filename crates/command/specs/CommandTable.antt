-- The command table (docs/RULES.md C128 to C151): which modes a command is for, and which data are
-- legal.
-- Assumes nothing.
use Rattle.std.specs.Prelude.{Bool, true, false, cond, ◌&&◌, ◌||◌, List, [], ◌∷◌, map, ℕ, eqb, ℤ, pos}
use Rattle.std.specs.Int.Signed.{le_z}
use Rattle.wire.specs.Lists.{among, all_bytes}
use Rattle.wire.specs.Sixteen.{minus}
use Rattle.wire.specs.Replies.{Reply, reply_of}
use Rattle.packet.specs.Answers.{listable_of, streamable_of}
use Rattle.command.specs.Layout.{value_of, form_of, opcode_of, refusal_of, payload_in, encode_of}
use Rattle.command.specs.declared.Command.{Command}
use Rattle.command.specs.declared.Message.{Message}

-- ---- the column of modes, coded as packet 35 sends them: Off 0, Passive 1, Safe 2, Full 3

abbrev all_four : List ℕ
all_four = 0 ∷ 1 ∷ 2 ∷ 3 ∷ []

abbrev P : List ℕ
P = 1 ∷ []

abbrev PSF : List ℕ
PSF = 1 ∷ 2 ∷ 3 ∷ []

abbrev SF : List ℕ
SF = 2 ∷ 3 ∷ []

-- ---- the column of legal data

-- from a first number to a last one
pub record Range : Type 0 where
  pub first : ℤ
  pub last : ℤ

infix 60 ◌to◌
abbrev pub ◌to◌ : ℤ → ℤ → Range
a to b = record { first = a; last = b }

unfoldable pub is_in : Range → ℤ → Bool
is_in r v = le_z r.first v && le_z v r.last

-- one of the ranges
unfoldable pub is_legal : List Range → ℤ → Bool
is_legal [] v = false
is_legal (r ∷ rs) v = is_in r v || is_legal rs v

-- the legal values of each of a command's numbers, and the rule for the payload in use
pub record LegalData : Type 0 where
  pub numbers : List (List Range)
  pub payload : List ℕ → Bool

-- every number has a legal value, and there are as many of them
abbrev pub all_legal : List (List Range) → List ℤ → Bool
all_legal [] [] = true
all_legal [] (v ∷ vs) = false
all_legal (rs ∷ rss) [] = false
all_legal (rs ∷ rss) (v ∷ vs) = is_legal rs v && all_legal rss vs

-- 0 to n
abbrev pub up_to : ℕ → List Range
up_to n = (pos 0 to pos n) ∷ []

abbrev pub any_byte : List Range
any_byte = up_to 255

-- the legal speeds
abbrev pub speed : List Range
speed = (minus 500 to pos 500) ∷ []

-- the legal radii (C137): the plain ones, without 0, and the two that say straight on
abbrev pub radius : List Range
radius = (minus 2000 to minus 1) ∷ (pos 1 to pos 2000) ∷ (pos 32767 to pos 32767) ∷ (minus 32768 to minus 32768) ∷ []

-- numbers in these ranges, and a payload of any bytes, which is empty where the command uses none
abbrev ranges : List (List Range) → LegalData
ranges rss = record { numbers = rss; payload = all_bytes }

abbrev none : LegalData
none = ranges []

-- ---- the table

-- one opcode of a row, and its legal data
pub record Entry : Type 0 where
  pub opcode : ℕ
  pub legal : LegalData

pub record Row : Type 0 where
  pub entries : List Entry
  pub modes : List ℕ

abbrev entry : ℕ → LegalData → Entry
entry op d = record { opcode = op; legal = d }

-- opcodes that share their legal data
abbrev row : List ℕ → List ℕ → LegalData → Row
row ops modes d = record { entries = map (λ op. entry op d) ops; modes = modes }

-- the rows of docs/RULES.md, in its order: C128, C129, ..
abbrev pub command_table : List Row
command_table =
    row (128 ∷ []) all_four none
    ∷ row (129 ∷ []) PSF (ranges (up_to 11 ∷ []))
    ∷ row (130 ∷ []) P none
    ∷ row (131 ∷ 132 ∷ []) PSF none
    ∷ row (133 ∷ []) SF none
    -- as a signed byte
    ∷ row (136 ∷ []) PSF (ranges (((minus 1 to pos 9) ∷ []) ∷ []))
    ∷ row (134 ∷ 135 ∷ 143 ∷ []) PSF none
    -- velocity, radius
    ∷ row (137 ∷ []) SF (ranges (speed ∷ radius ∷ []))
    -- right, left
    ∷ row (145 ∷ []) SF (ranges (speed ∷ speed ∷ []))
    ∷ row (138 ∷ []) SF (ranges (up_to 7 ∷ []))
    -- of driver 2, 1 and 0
    ∷ row (144 ∷ []) SF (ranges (up_to 128 ∷ up_to 128 ∷ up_to 128 ∷ []))
    ∷ row (139 ∷ []) SF (ranges (any_byte ∷ any_byte ∷ any_byte ∷ []))
    ∷ record { entries = entry 147 (ranges (up_to 7 ∷ [])) ∷ entry 151 (ranges (any_byte ∷ [])) ∷ []; modes = SF }
    -- song, length; its notes may be any bytes
    ∷ row (140 ∷ []) PSF (ranges (up_to 15 ∷ ((pos 1 to pos 16) ∷ []) ∷ []))
    ∷ row (141 ∷ []) SF (ranges (up_to 15 ∷ []))
    ∷ row (142 ∷ []) PSF (ranges (up_to 42 ∷ []))
    -- count, and ids by C149
    ∷ row (149 ∷ []) PSF (record { numbers = up_to 16 ∷ []; payload = listable_of })
    -- count, and ids by C148
    ∷ row (148 ∷ []) PSF (record { numbers = up_to 16 ∷ []; payload = streamable_of })
    ∷ row (150 ∷ []) PSF (ranges (up_to 1 ∷ []))
    ∷ []

-- the columns of an opcode's row
pub record Columns : Type 0 where
  pub modes : List ℕ
  pub legal : LegalData

-- no mode, and no legal data
abbrev pub no_row : Columns
no_row = record { modes = []; legal = record { numbers = []; payload = λ bytes. false } }

-- the first of these entries that has the opcode, or else what comes after
abbrev in_row : List ℕ → List Entry → ℕ → Columns → Columns
in_row modes [] op after = after
in_row modes (e ∷ es) op after = cond (eqb op e.opcode) (record { modes = modes; legal = e.legal }) (in_row modes es op after)

abbrev pub row_for : List Row → ℕ → Columns
row_for [] op = no_row
row_for (r ∷ rs) op = in_row r.modes r.entries op (row_for rs op)

-- what they say of a command; a variant that is refused as such has no row, whatever its opcode
unfoldable pub row_of : Command → Columns
row_of c = cond (eqb (refusal_of c) 0) (row_for command_table (opcode_of c)) no_row

-- ---- what the contracts cite

-- the column of modes
unfoldable pub allowed_of : Command → ℕ → Bool
allowed_of c mode = among (row_of c).modes mode

-- the column of legal data
unfoldable pub legal_of : Message → Bool
legal_of m =
    let d = (row_of m.command).legal in
    all_legal d.numbers (map value_of (form_of m.command).items) && d.payload (payload_in m)

-- what the writer gives back, by the room in the buffer (T2): 4 for anything but an offered command
-- with legal data, then 7, then the frame
abbrev pub write_reply : Message → ℕ → Reply
write_reply m = reply_of (legal_of m) (encode_of m)
