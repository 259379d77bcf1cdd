-- What commands guarantee: the theorems of this crate.
-- Assumes nothing.
use Rattle.std.specs.Prelude.{◌≡◌, Bool, true, false, not, ◌&&◌, ◌||◌, ℕ, ◌≤◌, ◌<◌, T, leb, eqb, ℤ, pos, length, get_or, take, drop, replicate, Result}
use mathlib.Core.List.{List, map, flat_map}
use Rattle.std.specs.Int.Signed.{le_z}
use Rattle.wire.specs.declared.Refusal.{Refusal}
use Rattle.wire.specs.Lists.{all, all_from, from_to, within, snoc, padded, all_zero, all_bytes, byte_array}
use Rattle.wire.specs.Sixteen.{minus}
use Rattle.wire.specs.Replies.{refused, wrote, Replied, ReplyFacts}
use Rattle.frame.specs.FrameTable.{data_length, in_no_row}
use Rattle.frame.specs.Push.{push_of, empty_partial, after_of}
use Rattle.frame.specs.Cut.{CompleteAtLast}
use Rattle.packet.specs.Answers.{listable_of, streamable_of}
use Rattle.command.specs.Layout.{opcode_of, refusal_of, payload_size, payload_in, encode_of, decode_of}
use Rattle.command.specs.CommandTable.{command_table, allowed_of, legal_of, write_reply}
use Rattle.command.specs.Cases.{longest_song, frame_cases, other_cases, row_opcodes, refusal_right, mode_right, byte_cases, byte_right, data_cases, data_right}
use Rattle.command.specs.declared.Command.{Command}
use Rattle.command.specs.declared.Command.TheVariants.{Demo, Drive, Direct, Duties, Leds, Song, QueryList, Stream, Unknown, NotOffered}
use Rattle.command.specs.declared.Message.{Message}

-- THEOREM: commands in numbers
pub record CommandsInNumbers : Type 0 where
  -- each offered command, read from its frame and written as it
  pub frames_read : map (λ c. decode_of (padded 35 c.frame)) frame_cases ≡ map (λ c. c.message) frame_cases
  pub frames_written : map (λ c. write_reply c.message 35) frame_cases ≡ map (λ c. wrote c.frame) frame_cases
  -- and what is read alone
  pub others_read : map (λ c. decode_of (padded 35 c.frame)) other_cases ≡ map (λ c. c.message) other_cases
  -- the rows' opcodes, in order
  pub rows_in_order : flat_map (λ r. map (λ e. e.opcode) r.entries) command_table ≡ row_opcodes
  -- all 256 opcodes, and each of them in all four modes
  pub refusals_right : T (all_from refusal_right 0 256)
  pub modes_right : T (all_from (λ op. all (mode_right op) (from_to 0 3)) 0 256)
  -- all 256 bytes of each command with one data byte
  pub bytes_right : T (all byte_right byte_cases)
  -- each end of each range of the others, with its neighbours
  pub data_right_lem : T (all data_right data_cases)

-- a message of this command and payload
abbrev pub message : Command → List ℕ → Message
message c payload = record { command = c; payload = payload }

-- THEOREM: the column of modes
pub record ModeColumn : Type 0 where
  -- no command is for a mode but the four
  pub no_other_mode : (c : Command) (mode : ℕ) → 3 < mode → allowed_of c mode ≡ false
  -- the opcode of an offered command decides, and not its data
  pub by_opcode : (c d : Command) (mode : ℕ) → opcode_of c ≡ opcode_of d → refusal_of c ≡ refusal_of d → allowed_of c mode ≡ allowed_of d mode
  -- left free (rule Q6): a variant that is refused as such is for no mode, whatever its opcode
  pub unknown_nowhere : (op mode : ℕ) → allowed_of (Unknown op) mode ≡ false
  pub not_offered_nowhere : (op mode : ℕ) → allowed_of (NotOffered op) mode ≡ false

-- a is b
abbrev is : ℤ → ℤ → Bool
is a b = le_z b a && le_z a b

-- a legal speed
abbrev pub is_speed : ℤ → Bool
is_speed v = le_z (minus 500) v && le_z v (pos 500)

-- a legal radius (C137): within 2000 either way and not 0, or one of the two that say straight on
abbrev pub is_radius : ℤ → Bool
is_radius r = (le_z (minus 2000) r && (le_z r (pos 2000) && not (is r (pos 0)))) || (is r (pos 32767) || is r (minus 32768))

-- THEOREM: the column of legal data, for every value of the commands with a signed number or with
-- more than one data byte
pub record DataColumn : Type 0 where
  -- rule C136: a Demo's number
  pub demo_legal : (demo : ℤ) (p : List ℕ) → legal_of (message (Demo demo) p) ≡ (le_z (minus 1) demo && le_z demo (pos 9))
  pub drive_legal : (velocity radius : ℤ) (p : List ℕ) → legal_of (message (Drive velocity radius) p) ≡ (is_speed velocity && is_radius radius)
  pub direct_legal : (right left : ℤ) (p : List ℕ) → legal_of (message (Direct right left) p) ≡ (is_speed right && is_speed left)
  pub duties_legal_lem : (a b d : ℕ) (p : List ℕ) → legal_of (message (Duties a b d) p) ≡ (leb a 128 && (leb b 128 && leb d 128))
  pub leds_legal : (a b d : ℕ) (p : List ℕ) → a < 256 → b < 256 → d < 256 → legal_of (message (Leds a b d) p) ≡ true
  -- any notes
  pub song_legal : (song notes : ℕ) (p : List ℕ) → T (all_bytes p)
      → legal_of (message (Song song notes) p) ≡ (leb song 15 && (leb 1 notes && leb notes 16))
  -- rules C149 and C148, for the first n ids
  pub query_legal : (n : ℕ) (p : List ℕ) → legal_of (message (QueryList n) p) ≡ (leb n 16 && listable_of (take n p))
  pub stream_legal_lem : (n : ℕ) (p : List ℕ) → legal_of (message (Stream n) p) ≡ (leb n 16 && streamable_of (take n p))
  -- left free (rule Q6): a variant that is refused as such has no legal data, whatever its opcode
  pub unknown_illegal : (op : ℕ) (p : List ℕ) → legal_of (message (Unknown op) p) ≡ false
  pub not_offered_illegal : (op : ℕ) (p : List ℕ) → legal_of (message (NotOffered op) p) ≡ false
  -- a place that the command does not use makes no difference
  pub unused_free : (c : Command) (p q : List ℕ) → take (payload_size c) p ≡ take (payload_size c) q → legal_of (message c p) ≡ legal_of (message c q)

-- the places that a message's command does not use are 0
abbrev pub unused_zero : Message → Bool
unused_zero m = all_zero (drop (payload_size m.command) m.payload)

-- what holds of the message of 35 bytes
pub record DecodeFacts (bytes : List ℕ) : Type 0 where
  -- sent again, it is as many of the bytes, legal or not: its opcode, its numbers and the payload
  -- in use are theirs
  pub sent_again : encode_of (decode_of bytes) ≡ take (length (encode_of (decode_of bytes))) bytes
  pub opcode_kept : opcode_of (decode_of bytes).command ≡ get_or bytes 0 0
  -- 1 where the opcode is in no row of the frame table (N1), 2 for 152 to 158 (N2)
  pub unknown_exactly : eqb (refusal_of (decode_of bytes).command) 1 ≡ in_no_row (data_length (get_or bytes 0 0))
  pub not_offered_exactly : eqb (refusal_of (decode_of bytes).command) 2 ≡ within 152 158 (get_or bytes 0 0)
  -- the payload is a value of [u8; 32], with 0 in the places that are not in use
  pub payload_array : T (byte_array 32 (decode_of bytes).payload)
  pub rest_zero : T (unused_zero (decode_of bytes))
  -- a variant that is refused as such uses none
  pub refused_zero : (refusal_of (decode_of bytes).command ≡ 0 → ⊥) → (decode_of bytes).payload ≡ replicate 32 0
  -- left free (rule Q6): past a legal count no place is in use
  pub past_notes : get_or bytes 0 0 ≡ 140 → 16 < get_or bytes 2 0 → (decode_of bytes).payload ≡ replicate 32 0
  pub past_query : get_or bytes 0 0 ≡ 149 → 16 < get_or bytes 1 0 → (decode_of bytes).payload ≡ replicate 32 0
  pub past_stream : get_or bytes 0 0 ≡ 148 → 16 < get_or bytes 1 0 → (decode_of bytes).payload ≡ replicate 32 0

-- THEOREM: it holds of every value of [u8; 35]
abbrev pub DecodingRight : Type 0
DecodingRight = (bytes : List ℕ) → T (byte_array 35 bytes) → DecodeFacts bytes

-- THEOREM: the writer
pub record WritingRight : Type 0 where
  -- 4 for anything that isn't an offered command with legal data, whatever the room
  pub illegal_4 : (m : Message) (room : ℕ) → legal_of m ≡ false → write_reply m room ≡ refused 4
  pub unknown_4 : (op : ℕ) (p : List ℕ) (room : ℕ) → write_reply (message (Unknown op) p) room ≡ refused 4
  pub not_offered_4 : (op : ℕ) (p : List ℕ) (room : ℕ) → write_reply (message (NotOffered op) p) room ≡ refused 4
  -- 4 exactly where the data aren't legal, 7 exactly where the frame is longer than the buffer, and
  -- else that frame
  pub write_facts : (m : Message) (before after : List ℕ) (result : Result ℕ Refusal) → Replied (write_reply m) before after result
      → ReplyFacts (legal_of m) (encode_of m) before after result
  -- a place that the command does not use makes no difference
  pub unused_ignored : (c : Command) (p q : List ℕ) → take (payload_size c) p ≡ take (payload_size c) q
      → (room : ℕ) → write_reply (message c p) room ≡ write_reply (message c q) room
  -- a frame begins with its opcode, so that it has a last byte, and has at most 35 bytes, which
  -- is reached
  pub opcode_first : (m : Message) → get_or (encode_of m) 0 0 ≡ opcode_of m.command
  pub some_bytes : (m : Message) → 0 < length (encode_of m)
  pub longest : (m : Message) → length (encode_of m) ≤ 35
  pub longest_35 : (legal_of longest_song.message ≡ true) × (length (encode_of longest_song.message) ≡ 35)
  -- with a payload of bytes they are bytes
  pub are_bytes : (m : Message) → legal_of m ≡ true → T (all_bytes m.payload) → T (all_bytes (encode_of m))

-- the message of the frame that b completes after bs
abbrev pub message_at : List ℕ → ℕ → Message
message_at bs b = decode_of (push_of (after_of empty_partial bs) b).partial.bytes

-- a message whose command is offered and whose data are legal, with 0 in the places that are not in
-- use. True of every value of the type: its payload is a value of [u8; 32].
pub record Sendable (m : Message) : Type 0 where
  pub legal : legal_of m ≡ true
  pub array : T (byte_array 32 m.payload)
  pub unused : T (unused_zero m)

-- a message as it is read back: with 0 in the places that its command does not use
abbrev pub read_as : Message → Message
read_as m = message m.command (padded 32 (payload_in m))

-- THEOREM: what our writer writes is read back, and what is read is written back
pub record RoundTrip : Type 0 where
  -- the frame of any legal message, pushed byte by byte from nothing, is complete at its last byte
  -- and not before, and says the message
  pub written_complete : (m : Message) → legal_of m ≡ true → T (byte_array 32 m.payload)
      → (bs : List ℕ) (b : ℕ) → encode_of m ≡ snoc bs b → CompleteAtLast bs b
  pub written_read : (m : Message) → legal_of m ≡ true → T (byte_array 32 m.payload)
      → (bs : List ℕ) (b : ℕ) → encode_of m ≡ snoc bs b → message_at bs b ≡ read_as m
  -- itself, where these places are 0 already
  pub read_same : (m : Message) → Sendable m → read_as m ≡ m
  -- bytes that are complete at the last one and not before, with legal data, are what the writer
  -- writes of their message, given room
  pub read_written : (bs : List ℕ) (b : ℕ) → T (all_bytes (snoc bs b)) → CompleteAtLast bs b → legal_of (message_at bs b) ≡ true
      → (room : ℕ) → length (snoc bs b) ≤ room → write_reply (message_at bs b) room ≡ wrote (snoc bs b)
