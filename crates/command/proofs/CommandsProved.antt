-- The theorems of specs/Commands.antt.
-- Assumes nothing.
use mathlib.Core.Path.{◌≡◌, refl, sym, ap, ap₂, subst, ◌∙◌}
use mathlib.Core.Bool.{true, ◌||◌}
use mathlib.Core.Logic.{⊎_elim}
use mathlib.Core.List.{List, ◌++◌, flat_map}
use Prim.Native.Nat.{ℕ, ◌+◌, ◌-◌, ◌*◌, ◌≤◌, ◌<◌}
use native.Mathlib.Omega.{arith}
use lib.Dec.{T, eqb, eqb→eq, eqb_refl}
use lib.ListN.{length, get_or, take, drop, replicate, length-append, length-take, length-drop, length-replicate}
use lib.Seq.{length-take-le, take_at, take-add, drop-append_seam}
use mir.Facts.{and_yes, or_yes, yes_and}
use Rattle.wire.specs.Lists.{within, snoc, padded, is_byte, all_zero, all_bytes, byte_array, is_zero}
use Rattle.wire.specs.Sixteen.{read16_of}
use Rattle.wire.specs.Replies.{wrote, reply_of}
use Rattle.wire.proofs.ListsLaws.{all_append, all_take, all_drop, all_replicate, byte_at}
use Rattle.wire.proofs.RepliesLaws.{reply_4, reply_0, replies_right}
use Rattle.frame.specs.FrameTable.{data_length, in_no_row}
use Rattle.frame.specs.Cut.{CompleteAtLast}
use Rattle.packet.specs.SizeTable.{size_of, group_of}
use Rattle.packet.specs.Answers.{listable_of, streamable_of}
use Rattle.command.specs.Layout.{refusal_of, payload_size, head_of, payload_in, encode_of, decode_table, command_for, command_of, decode_of}
use Rattle.command.specs.CommandTable.{is_in, is_legal, row_of, allowed_of, legal_of, write_reply}
use Rattle.command.specs.Cases.{longest_song}
use Rattle.command.specs.Commands.{CommandsInNumbers, message, ModeColumn, DataColumn, unused_zero, DecodeFacts, DecodingRight, WritingRight, message_at, RoundTrip}
use Rattle.command.specs.declared.Command.{Command}
use Rattle.command.specs.declared.Message.{Message}
use Rattle.command.proofs.VariantLaws.{every}
use Rattle.command.proofs.LayoutLaws.{stored_none, small, says}
use Rattle.command.proofs.CommandTableLaws.{no_other_mode, by_opcode, alike, demo_tested, drive_legal, direct_legal, duties_legal_lem, leds_legal, song_is, query_legal, stream_legal_lem, unused_free}
use Rattle.command.proofs.RoundTripLaws.{frame_bytes, read_same, written_complete, written_read, spelled, head_kept, rewritten}

pub commands_in_numbers : CommandsInNumbers
unfolding flat_map read16_of reply_of size_of group_of listable_of streamable_of encode_of command_of decode_of is_in is_legal row_of allowed_of legal_of
commands_in_numbers =
    record {
      frames_read = refl;
      frames_written = refl;
      others_read = refl;
      rows_in_order = refl;
      refusals_right = tt;
      modes_right = tt;
      bytes_right = tt;
      data_right_lem = tt;
    }

-- ---- the two columns

pub mode_column : ModeColumn
unfolding row_of allowed_of
mode_column =
    record {
      no_other_mode = no_other_mode;
      by_opcode = by_opcode;
      unknown_nowhere = λ op mode. refl;
      not_offered_nowhere = λ op mode. refl;
    }

pub data_column : DataColumn
unfolding is_in row_of legal_of
data_column =
    record {
      demo_legal = demo_tested;
      drive_legal = drive_legal;
      direct_legal = direct_legal;
      duties_legal_lem = duties_legal_lem;
      leds_legal = leds_legal;
      song_legal = song_is;
      query_legal = query_legal;
      stream_legal_lem = stream_legal_lem;
      unknown_illegal = λ op p. refl;
      not_offered_illegal = λ op p. refl;
      unused_free = unused_free;
    }

-- ---- decode

-- bytes in the first of n places make an array of bytes
padded_array : (n : ℕ) (l : List ℕ) → T (all_bytes l) → length l ≤ n → T (byte_array n (padded n l))
padded_array n l t h =
    let zeros : List ℕ = replicate (n - length l) 0 in
    let e : length (padded n l) ≡ n = omega (arith, length-append l zeros, length-replicate {A = ℕ} (n - length l) 0) in
    yes_and (eqb (length (padded n l)) n) (all_bytes (padded n l)) (rw e (eqb_refl n))
    (all_append is_byte l zeros t (all_replicate is_byte (n - length l) 0 tt))

module _ (bytes : List ℕ) (t : T (byte_array 35 bytes)) where
  abbrev c : Command
  c = command_of bytes

  abbrev d : ℕ → ℕ
  d i = get_or bytes i 0

  array : T (eqb (length bytes) 35) × T (all_bytes bytes)
  array = and_yes (eqb (length bytes) 35) (all_bytes bytes) t

  -- by one test over the opcodes
  unknown_exactly : eqb (refusal_of c) 1 ≡ in_no_row (data_length (d 0))
  unfolding data_length command_of
  unknown_exactly =
      alike (λ op. eqb (refusal_of (command_for decode_table op (d 1) (d 2) (d 3) (d 4))) 1) (λ op. in_no_row (data_length op)) tt (d 0) (byte_at bytes array.1 0)

  not_offered_exactly : eqb (refusal_of c) 2 ≡ within 152 158 (d 0)
  unfolding command_of
  not_offered_exactly =
      alike (λ op. eqb (refusal_of (command_for decode_table op (d 1) (d 2) (d 3) (d 4))) 2) (within 152 158) tt (d 0) (byte_at bytes array.1 0)

  -- the payload in use, and the zeros after it
  abbrev used : List ℕ
  used = take (payload_size c) (drop (length (head_of c)) bytes)

  abbrev zeros : List ℕ
  zeros = replicate (32 - length used) 0

  used_length : length used ≡ payload_size c
  used_length =
      let s = small c in
      let l = eqb→eq (length bytes) 35 array.0 in
      length-take-le (payload_size c) (drop (length (head_of c)) bytes) (omega (arith, length-drop (length (head_of c)) bytes, s.1.1))

  rest_zero : T (unused_zero (decode_of bytes))
  unfolding decode_of
  rest_zero =
      subst (λ (n : ℕ). T (all_zero (drop n (padded 32 used)))) used_length
      (rw (drop-append_seam used zeros) (all_replicate is_zero (32 - length used) 0 tt))

  payload_array : T (byte_array 32 (decode_of bytes).payload)
  unfolding decode_of
  payload_array =
      let s = small c in
      padded_array 32 used
      (all_take is_byte (payload_size c) (drop (length (head_of c)) bytes) (all_drop is_byte (length (head_of c)) bytes array.1))
      (omega (arith, used_length, s.1.0))

  -- the bytes before the payload are the frame's, and so are those in use
  sent_again : encode_of (decode_of bytes) ≡ take (length (encode_of (decode_of bytes))) bytes
  unfolding encode_of decode_of
  sent_again =
      let s = small c in
      let l = eqb→eq (length bytes) 35 array.0 in
      let e : encode_of (decode_of bytes) ≡ take (length (head_of c) + payload_size c) bytes =
      ap₂ (λ (h u : List ℕ). h ++ u) (head_kept bytes array.1 (omega (arith, s.0))) (take_at used zeros (payload_size c) used_length)
      ∙ sym (take-add (length (head_of c)) (payload_size c) bytes) in
      let n : length (encode_of (decode_of bytes)) ≡ length (head_of c) + payload_size c =
      ap length e ∙ length-take-le (length (head_of c) + payload_size c) bytes (omega (arith, s.1.1)) in
      e ∙ ap (λ (k : ℕ). take k bytes) (sym n)

  no_payload : payload_size c ≡ 0 → (decode_of bytes).payload ≡ replicate 32 0
  unfolding decode_of
  no_payload e = ap (λ (n : ℕ). padded 32 (take n (drop (length (head_of c)) bytes))) e

  refused_zero : (refusal_of c ≡ 0 → ⊥) → (decode_of bytes).payload ≡ replicate 32 0
  refused_zero h =
      let t = every (λ (x : Command). eqb (refusal_of x) 0 || eqb (payload_size x) 0) (λ a b d v w. tt) c in
      no_payload
      (⊎_elim (λ z. absurd (h (eqb→eq (refusal_of c) 0 z))) (λ z. eqb→eq (payload_size c) 0 z) (or_yes (eqb (refusal_of c) 0) (eqb (payload_size c) 0) t))

  past_notes : d 0 ≡ 140 → 16 < d 2 → (decode_of bytes).payload ≡ replicate 32 0
  past_notes e h = no_payload (ap payload_size (sym (says bytes e)) ∙ ap (λ (n : ℕ). 2 * n) (stored_none (d 2) h))

  past_query : d 0 ≡ 149 → 16 < d 1 → (decode_of bytes).payload ≡ replicate 32 0
  past_query e h = no_payload (ap payload_size (sym (says bytes e)) ∙ stored_none (d 1) h)

  past_stream : d 0 ≡ 148 → 16 < d 1 → (decode_of bytes).payload ≡ replicate 32 0
  past_stream e h = no_payload (ap payload_size (sym (says bytes e)) ∙ stored_none (d 1) h)

  decode_facts : DecodeFacts bytes
  unfolding decode_of
  decode_facts =
      record {
        sent_again = sent_again;
        opcode_kept = (spelled bytes array.1).opcode;
        unknown_exactly = unknown_exactly;
        not_offered_exactly = not_offered_exactly;
        payload_array = payload_array;
        rest_zero = rest_zero;
        refused_zero = refused_zero;
        past_notes = past_notes;
        past_query = past_query;
        past_stream = past_stream;
      }

pub decoding_right : DecodingRight
decoding_right = decode_facts

-- ---- write

same_frame : (c : Command) (p q : List ℕ) → take (payload_size c) p ≡ take (payload_size c) q → encode_of (message c p) ≡ encode_of (message c q)
unfolding encode_of
same_frame c p q e = ap (λ (l : List ℕ). head_of c ++ l) e

-- all that is judged and written is in the places in use
by_payload : (c : Command) (p q : List ℕ) → take (payload_size c) p ≡ take (payload_size c) q
    → (room : ℕ) → write_reply (message c p) room ≡ write_reply (message c q) room
by_payload c p q e room = rw (unused_free c p q e, same_frame c p q e) refl

longest : (m : Message) → length (encode_of m) ≤ 35
unfolding encode_of
longest m =
    let s = small m.command in
    omega (arith, s.1.1, length-append (head_of m.command) (payload_in m), length-take (payload_size m.command) m.payload)

longest_35 : (legal_of longest_song.message ≡ true) × (length (encode_of longest_song.message) ≡ 35)
unfolding encode_of is_in is_legal row_of legal_of
longest_35 = (refl, refl)

some_bytes : (m : Message) → 0 < length (encode_of m)
unfolding encode_of
some_bytes m = omega arith

pub writing_right : WritingRight
unfolding encode_of row_of legal_of
writing_right =
    record {
      illegal_4 = λ m room e. reply_4 (encode_of m) room e;
      unknown_4 = λ op p room. reply_4 _ room refl;
      not_offered_4 = λ op p room. reply_4 _ room refl;
      write_facts = λ m before after result x. replies_right (legal_of m) (encode_of m) before after result x;
      unused_ignored = by_payload;
      opcode_first = λ m. refl;
      some_bytes = some_bytes;
      longest = longest;
      longest_35 = longest_35;
      are_bytes = frame_bytes;
    }

-- ---- the round trip

read_written : (bs : List ℕ) (b : ℕ) → T (all_bytes (snoc bs b)) → CompleteAtLast bs b → legal_of (message_at bs b) ≡ true
    → (room : ℕ) → length (snoc bs b) ≤ room → write_reply (message_at bs b) room ≡ wrote (snoc bs b)
read_written bs b t complete legal room h =
    let e = rewritten bs b t complete legal in
    reply_0 (encode_of (message_at bs b)) room legal (subst (λ (l : List ℕ). length l ≤ room) (sym e) h) ∙ ap wrote e

pub round_trip : RoundTrip
round_trip =
    record {
      written_complete = written_complete;
      written_read = written_read;
      read_same = λ m s. read_same m s.array s.unused;
      read_written = read_written;
    }
