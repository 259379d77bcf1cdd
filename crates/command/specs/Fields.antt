-- A message in flat fields (docs/CALLS.md, 'A message in bytes'), for callers that have no enum.
-- Assumes nothing.
use Rattle.std.specs.Prelude.{◌≡◌, Bool, true, false, cond, ◌||◌, List, [], ◌∷◌, ◌++◌, map, ℕ, ◌<◌, T, eqb, ℤ, pos, get_or}
use Rattle.std.specs.Int.{w16}
use Rattle.std.proofs.Common.{SFits}
use Rattle.wire.specs.Lists.{among, padded, byte_array}
use Rattle.wire.specs.Signed.{bits8_of, read8_of}
use Rattle.wire.specs.Sixteen.{be16}
use Rattle.wire.specs.Replies.{refused}
use Rattle.command.specs.Layout.{Item, byte, signed_byte, word, form_of, opcode_of, command_of}
use Rattle.command.specs.CommandTable.{legal_of, write_reply}
use Rattle.command.specs.Cases.{row_opcodes}
use Rattle.command.specs.declared.Command.{Command}
use Rattle.command.specs.declared.Command.TheVariants.{Start, Baud, Control, Safe, Full, Power, Demo, Spot, Cover, Dock, Drive, Direct, Drivers, Duties, Leds, Outputs, Infrared, Song, Play, Sensors, QueryList, Stream, Pause}
use Rattle.command.specs.declared.Message.{Message}
use Rattle.command.specs.declared.Fields.{Fields}

-- ---- from fields to a message

-- the commands whose data are two words: Drive and Direct
abbrev pub two_words : ℕ → Bool
two_words op = eqb op 137 || eqb op 145

-- the first bytes of the frame that fields say: the two words, or a, b and c as they are
abbrev pub opening_of : Fields → List ℕ
opening_of f =
    cond (two_words f.opcode)
    (f.opcode ∷ (be16 f.first ++ be16 f.second))
    (f.opcode ∷ f.a ∷ f.b ∷ f.c ∷ [])

-- the command that these bytes say, and the payload as it is
unfoldable pub message_of : Fields → Message
message_of f = record { command = command_of (padded 35 (opening_of f)); payload = f.payload }

-- ---- from a message to fields

-- of a command's numbers, in the order in which they are sent, the bytes
abbrev pub bytes_in : List Item → List ℕ
bytes_in [] = []
bytes_in (byte n ∷ is) = n ∷ bytes_in is
bytes_in (signed_byte v ∷ is) = bits8_of v ∷ bytes_in is
bytes_in (word v ∷ is) = bytes_in is

-- and the words
abbrev pub words_in : List Item → List ℤ
words_in [] = []
words_in (byte n ∷ is) = words_in is
words_in (signed_byte v ∷ is) = words_in is
words_in (word v ∷ is) = v ∷ words_in is

-- each in its order; what a command does not have is 0
abbrev pub fields_of : Message → Fields
fields_of m =
    let bs = bytes_in (form_of m.command).items in
    let ws = words_in (form_of m.command).items in
    record {
      opcode = opcode_of m.command;
      a = get_or bs 0 0;
      b = get_or bs 1 0;
      c = get_or bs 2 0;
      first = get_or ws 0 (pos 0);
      second = get_or ws 1 (pos 0);
      payload = m.payload;
    }

-- each is a number of its type
pub record InRange (f : Fields) : Type 0 where
  pub opcode_byte : f.opcode < 256
  pub a_byte : f.a < 256
  pub b_byte : f.b < 256
  pub c_byte : f.c < 256
  pub first_word : SFits w16 f.first
  pub second_word : SFits w16 f.second
  pub payload_array : T (byte_array 32 f.payload)

-- the command that fields say with this opcode in the place of their own
abbrev pub says : Fields → ℕ → Command
says f op =
    (message_of (record { opcode = op; a = f.a; b = f.b; c = f.c; first = f.first; second = f.second; payload = f.payload })).command

-- which fields are a command's data, by the rows of docs/CALLS.md in their order, but for the last,
-- which is `other_4`. No other field makes a difference.
pub record RowsSaid (f : Fields) : Type 0 where
  pub none : map (says f) (128 ∷ 130 ∷ 131 ∷ 132 ∷ 133 ∷ 134 ∷ 135 ∷ 143 ∷ []) ≡ Start ∷ Control ∷ Safe ∷ Full ∷ Power ∷ Spot ∷ Cover ∷ Dock ∷ []
  pub a_alone : map (says f) (129 ∷ 136 ∷ 138 ∷ 141 ∷ 142 ∷ 147 ∷ 150 ∷ 151 ∷ [])
      ≡ Baud f.a ∷ Demo (read8_of f.a) ∷ Drivers f.a ∷ Play f.a ∷ Sensors f.a ∷ Outputs f.a ∷ Pause f.a ∷ Infrared f.a ∷ []
  pub a_b_c : map (says f) (139 ∷ 144 ∷ []) ≡ Leds f.a f.b f.c ∷ Duties f.a f.b f.c ∷ []
  pub drive : says f 137 ≡ Drive f.first f.second
  pub direct : says f 145 ≡ Direct f.first f.second
  pub song : says f 140 ≡ Song f.a f.b
  pub lists : map (says f) (148 ∷ 149 ∷ []) ≡ Stream f.a ∷ QueryList f.a ∷ []
  -- notes and ids, in the first places
  pub payload_kept : (message_of f).payload ≡ f.payload

-- THEOREM: flat fields say every message that can be written, and nothing else
pub record FieldsRight : Type 0 where
  -- any fields of their types, legal data or not, say what the table has
  pub rows : (f : Fields) → InRange f → RowsSaid f
  -- every legal message has flat fields, which say it
  pub in_range : (m : Message) → legal_of m ≡ true → T (byte_array 32 m.payload) → InRange (fields_of m)
  pub says_it : (m : Message) → legal_of m ≡ true → message_of (fields_of m) ≡ m
  -- so that of them is written what is written of the message
  pub written_same : (m : Message) → legal_of m ≡ true → (room : ℕ) → write_reply (message_of (fields_of m)) room ≡ write_reply m room
  -- any opcode but those of the command table is 4, whatever the fields and the room
  pub other_4 : (f : Fields) → among row_opcodes f.opcode ≡ false → (room : ℕ) → write_reply (message_of f) room ≡ refused 4
