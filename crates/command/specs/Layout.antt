-- A command as bytes: how it is sent, and what a whole frame says (docs/RULES.md C2, and the data
-- of C128 to C151).
-- Assumes nothing.
use Rattle.std.specs.Prelude.{cond, List, [], ◌∷◌, ◌++◌, ℕ, ◌*◌, eqb, ℤ, pos, length, get_or, take, drop}
use Rattle.wire.specs.Lists.{within, padded}
use Rattle.wire.specs.Signed.{bits8_of, read8_of}
use Rattle.wire.specs.Sixteen.{be16, read16_of}
use Rattle.frame.specs.Push.{legal_count}
use Rattle.command.specs.declared.Command.{Command}
use Rattle.command.specs.declared.Command.TheVariants.{Start, Baud, Control, Safe, Full, Power, Demo, Spot, Cover, Dock, Drive, Direct, Drivers, Duties, Leds, Outputs, Infrared, Song, Play, Sensors, QueryList, Stream, Pause, Unknown, NotOffered}
use Rattle.command.specs.declared.Message.{Message}
use Rattle.command.specs.declared.Head.{Head}

-- ---- the form of a command

-- one of a command's numbers: a byte, a signed byte, or a word of sixteen bits
pub data Item : Type 0 where
  byte : ℕ → Item
  signed_byte : ℤ → Item
  word : ℤ → Item

abbrev pub value_of : Item → ℤ
value_of (byte n) = pos n
value_of (signed_byte v) = v
value_of (word v) = v

-- how it is sent
abbrev pub item_bytes : Item → List ℕ
item_bytes (byte n) = n ∷ []
item_bytes (signed_byte v) = bits8_of v ∷ []
item_bytes (word v) = be16 v

abbrev pub all_sent : List Item → List ℕ
all_sent [] = []
all_sent (i ∷ is) = item_bytes i ++ all_sent is

-- a command's opcode, its numbers in the order in which they are sent, how many bytes of the
-- payload follow them, and the number by which a variant is refused as such, which is 0 for an
-- offered command
pub record Form : Type 0 where
  pub opcode : ℕ
  pub items : List Item
  pub uses : ℕ
  pub refusal : ℕ

abbrev offered : ℕ → List Item → Form
offered op items = record { opcode = op; items = items; uses = 0; refusal = 0 }

abbrev followed : ℕ → List Item → ℕ → Form
followed op items n = record { opcode = op; items = items; uses = n; refusal = 0 }

abbrev refused_as : ℕ → ℕ → Form
refused_as n op = record { opcode = op; items = []; uses = 0; refusal = n }

-- the notes or ids that are stored: past a legal count there are none
abbrev pub stored_count : ℕ → ℕ
stored_count n = cond (legal_count n) n 0

-- in the order of the command table. A note is two bytes. 1 is unknown, 2 not offered.
abbrev pub form_of : Command → Form
form_of Start = offered 128 []
form_of (Baud code) = offered 129 (byte code ∷ [])
form_of Control = offered 130 []
form_of Safe = offered 131 []
form_of Full = offered 132 []
form_of Power = offered 133 []
form_of (Demo demo) = offered 136 (signed_byte demo ∷ [])
form_of Spot = offered 134 []
form_of Cover = offered 135 []
form_of Dock = offered 143 []
form_of (Drive velocity radius) = offered 137 (word velocity ∷ word radius ∷ [])
form_of (Direct right left) = offered 145 (word right ∷ word left ∷ [])
form_of (Drivers bits) = offered 138 (byte bits ∷ [])
form_of (Duties driver2 driver1 driver0) = offered 144 (byte driver2 ∷ byte driver1 ∷ byte driver0 ∷ [])
form_of (Leds bits color intensity) = offered 139 (byte bits ∷ byte color ∷ byte intensity ∷ [])
form_of (Outputs bits) = offered 147 (byte bits ∷ [])
form_of (Infrared code) = offered 151 (byte code ∷ [])
form_of (Song song notes) = followed 140 (byte song ∷ byte notes ∷ []) (2 * stored_count notes)
form_of (Play song) = offered 141 (byte song ∷ [])
form_of (Sensors id) = offered 142 (byte id ∷ [])
form_of (QueryList ids) = followed 149 (byte ids ∷ []) (stored_count ids)
form_of (Stream ids) = followed 148 (byte ids ∷ []) (stored_count ids)
form_of (Pause on) = offered 150 (byte on ∷ [])
form_of (Unknown op) = refused_as 1 op
form_of (NotOffered op) = refused_as 2 op

abbrev pub opcode_of : Command → ℕ
opcode_of c = (form_of c).opcode

-- the number by which a variant is refused as such: 1 unknown (N1), 2 not offered (N2); 0 for an
-- offered command
abbrev pub refusal_of : Command → ℕ
refusal_of c = (form_of c).refusal

-- how many places of the payload a command uses
abbrev pub payload_size : Command → ℕ
payload_size c = (form_of c).uses

-- ---- sending

-- a frame's bytes before the payload
abbrev pub head_of : Command → List ℕ
head_of c = opcode_of c ∷ all_sent (form_of c).items

-- in the first of five places, for the contracts of the functions that make them
abbrev pub headed : List ℕ → Head
headed bytes = record { bytes = padded 5 bytes; size = length bytes }

-- the places in use
abbrev pub payload_in : Message → List ℕ
payload_in m = take (payload_size m.command) m.payload

-- a message's frame
unfoldable pub encode_of : Message → List ℕ
encode_of m = head_of m.command ++ payload_in m

-- ---- reading

-- what a frame of an opcode says, by its first four data bytes. It is written out, and not derived
-- from the forms, so that the round trip compares the two.
pub record DecodeRow : Type 0 where
  pub opcode : ℕ
  pub says : ℕ → ℕ → ℕ → ℕ → Command

abbrev decodes : ℕ → (ℕ → ℕ → ℕ → ℕ → Command) → DecodeRow
decodes op f = record { opcode = op; says = f }

-- in the order of the command table
abbrev pub decode_table : List DecodeRow
decode_table =
    decodes 128 (λ a b c d. Start)
    ∷ decodes 129 (λ a b c d. Baud a)
    ∷ decodes 130 (λ a b c d. Control)
    ∷ decodes 131 (λ a b c d. Safe)
    ∷ decodes 132 (λ a b c d. Full)
    ∷ decodes 133 (λ a b c d. Power)
    ∷ decodes 136 (λ a b c d. Demo (read8_of a))
    ∷ decodes 134 (λ a b c d. Spot)
    ∷ decodes 135 (λ a b c d. Cover)
    ∷ decodes 143 (λ a b c d. Dock)
    ∷ decodes 137 (λ a b c d. Drive (read16_of a b) (read16_of c d))
    ∷ decodes 145 (λ a b c d. Direct (read16_of a b) (read16_of c d))
    ∷ decodes 138 (λ a b c d. Drivers a)
    ∷ decodes 144 (λ a b c d. Duties a b c)
    ∷ decodes 139 (λ a b c d. Leds a b c)
    ∷ decodes 147 (λ a b c d. Outputs a)
    ∷ decodes 151 (λ a b c d. Infrared a)
    ∷ decodes 140 (λ a b c d. Song a b)
    ∷ decodes 141 (λ a b c d. Play a)
    ∷ decodes 142 (λ a b c d. Sensors a)
    ∷ decodes 149 (λ a b c d. QueryList a)
    ∷ decodes 148 (λ a b c d. Stream a)
    ∷ decodes 150 (λ a b c d. Pause a)
    ∷ []

-- 152 to 158 are not offered, and what is left is unknown
abbrev pub otherwise : ℕ → Command
otherwise op = cond (within 152 158 op) (NotOffered op) (Unknown op)

abbrev pub command_for : List DecodeRow → ℕ → ℕ → ℕ → ℕ → ℕ → Command
command_for [] op a b c d = otherwise op
command_for (r ∷ rs) op a b c d = cond (eqb op r.opcode) (r.says a b c d) (command_for rs op a b c d)

unfoldable pub command_of : List ℕ → Command
command_of bytes = command_for decode_table (get_or bytes 0 0) (get_or bytes 1 0) (get_or bytes 2 0) (get_or bytes 3 0) (get_or bytes 4 0)

-- the message of a frame: its command, and the payload that follows the command's bytes, with 0 in
-- the places that are not in use. Past a legal count, where it is free (rule Q6), no place is in
-- use.
unfoldable pub decode_of : List ℕ → Message
decode_of bytes =
    let c = command_of bytes in
    record { command = c; payload = padded 32 (take (payload_size c) (drop (length (head_of c)) bytes)) }
