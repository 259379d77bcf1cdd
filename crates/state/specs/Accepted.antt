-- Which records the board takes (docs/RULES.md B1 to B17): a bad record is one that isn't accepted.
-- Assumes nothing.
use Rattle.std.specs.Prelude.{Bool, true, not, cond, ◌&&◌, ◌||◌, List, [], ◌∷◌, map, ℕ, ◌*◌, leb, eqb, ℤ, pos, length, get_or, drop, replicate}
use Rattle.wire.specs.Lists.{all, among, is_zero, is_byte, all_zero, byte_array}
use Rattle.wire.specs.Sixteen.{minus}
use Rattle.frame.specs.Reach.{reachable_of}
use Rattle.command.specs.CommandTable.{is_in, ◌to◌, legal_of}
use Rattle.command.specs.Commands.{message}
use Rattle.command.specs.declared.Command.{Command}
use Rattle.command.specs.declared.Command.TheVariants as cmd
use Rattle.state.specs.State.{off, passive, safe, full, no_order, drive, direct, is_yes, motors_off, song_at}
use Rattle.state.specs.declared.Motors.{Motors}
use Rattle.state.specs.declared.Kept.{Kept}
use Rattle.state.specs.declared.Song.{Song}
use Rattle.state.specs.declared.Songs.{Songs}
use Rattle.state.specs.declared.Stream.{Stream}
use Rattle.state.specs.declared.State.{State}

-- ---- the items, B1 to B16 in their order: each holds of a record that isn't bad by that rule

-- rule B1: the mode is one of the four
unfoldable pub mode_named : ℕ → Bool
mode_named mode = among (off ∷ passive ∷ safe ∷ full ∷ []) mode

-- rule B2: the kind of wheel order is one of the three
unfoldable pub order_named : Motors → Bool
order_named m = among (no_order ∷ drive ∷ direct ∷ []) m.order

-- rule B3: motors are off unless the mode is one to drive in, Safe or Full
unfoldable pub off_unless_driven : ℕ → Motors → Bool
off_unless_driven mode m = not (among (off ∷ passive ∷ []) mode) || motors_off m

-- a field's range is the legal data of the command that sets it; here of one that uses no payload
abbrev pub legal_numbers : Command → Bool
legal_numbers c = legal_of (message c (replicate 32 0))

-- rule B4: a wheel order; the numbers of no order may be anything
unfoldable pub wheels_legal : Motors → Bool
wheels_legal m =
    cond (eqb m.order drive)
    (legal_numbers (cmd.Drive m.first m.second))
    (cond (eqb m.order direct) (legal_numbers (cmd.Direct m.first m.second)) true)

-- rule B5: duties
unfoldable pub duties_legal : Motors → Bool
duties_legal m = legal_numbers (cmd.Duties (get_or m.duties 2 0) (get_or m.duties 1 0) (get_or m.duties 0 0))

-- rule B6: outputs
unfoldable pub outputs_legal : Kept → Bool
outputs_legal k = legal_numbers (cmd.Outputs k.outputs)

-- rule B7: the baud code
unfoldable pub baud_legal : Kept → Bool
baud_legal k = legal_numbers (cmd.Baud k.baud)

-- rule B8: the selected song
unfoldable pub selected_legal : Songs → Bool
selected_legal x = legal_numbers (cmd.Play x.selected)

-- rule B9: the stream list, its count and the ids in use, by 148's sizes too
unfoldable pub stream_legal : Stream → Bool
stream_legal x = legal_of (message (cmd.Stream x.count) x.ids)

-- rule B10: a song's length is 0, which is not set, or one that a 140 may have; here of song 0
unfoldable pub length_legal : Song → Bool
length_legal song = is_zero song.len || legal_numbers (cmd.Song 0 song.len)

-- a song that is set
abbrev pub is_set : Song → Bool
is_set song = not (is_zero song.len)

-- rule B11: while a song plays, the selected one is set
unfoldable pub playing_set : Songs → Bool
playing_set x = not (is_yes x.playing) || is_set (song_at x x.selected)

-- rule B12: the places of a song past its notes are 0; a note is two bytes
unfoldable pub notes_zero : Song → Bool
notes_zero song = all_zero (drop (2 * song.len) song.notes)

-- rule B13: the places of the list past its ids are 0; those of the held frame are B14's
unfoldable pub ids_zero : Stream → Bool
ids_zero x = all_zero (drop x.count x.ids)

-- rules B15 and B16: a flag, playing or streaming, is 0 or 1
abbrev pub is_flag : ℕ → Bool
is_flag n = leb n 1

-- all of them; rule B14 is frame's own test
abbrev pub items : State → List Bool
items s =
    mode_named s.mode
    ∷ order_named s.motors
    ∷ off_unless_driven s.mode s.motors
    ∷ wheels_legal s.motors
    ∷ duties_legal s.motors
    ∷ outputs_legal s.kept
    ∷ baud_legal s.kept
    ∷ selected_legal s.songs
    ∷ stream_legal s.stream
    ∷ all length_legal s.songs.table
    ∷ playing_set s.songs
    ∷ all notes_zero s.songs.table
    ∷ ids_zero s.stream
    ∷ reachable_of s.partial
    ∷ is_flag s.songs.playing
    ∷ is_flag s.stream.on
    ∷ []

-- ---- what is true of every value of the type, and bounds what no item does: each array has its
-- length, bytes are bytes, i16s are i16s. The held frame's array is part of its own test.

abbrev pub is_word : ℤ → Bool
is_word v = is_in (minus 32768 to pos 32767) v

unfoldable pub motors_typed : Motors → Bool
motors_typed m = is_word m.first && (is_word m.second && byte_array 3 m.duties)

unfoldable pub kept_typed : Kept → Bool
kept_typed k = byte_array 3 k.leds && is_byte k.ir

unfoldable pub song_typed : Song → Bool
song_typed song = byte_array 32 song.notes

unfoldable pub songs_typed : Songs → Bool
songs_typed x = eqb (length x.table) 16 && all song_typed x.table

unfoldable pub stream_typed : Stream → Bool
stream_typed x = byte_array 16 x.ids

unfoldable pub typed : State → Bool
typed s = motors_typed s.motors && (kept_typed s.kept && (songs_typed s.songs && stream_typed s.stream))

-- ---- accepted

-- a value of the type of which every item holds
unfoldable pub accepted_of : State → Bool
accepted_of s = typed s && all (λ item. item) (items s)

-- rule B20: which items a record breaks, in their order: 1 for one that it breaks, and 0 for one
-- that holds
unfoldable pub broken_of : State → List ℕ
broken_of s = map (λ item. cond item 0 1) (items s)

-- ---- the same, part by part, for the contracts of the functions that test a part

unfoldable pub motors_ok : ℕ → Motors → Bool
motors_ok mode m =
    motors_typed m && (mode_named mode && (order_named m && (off_unless_driven mode m && (wheels_legal m && duties_legal m))))

unfoldable pub kept_ok : Kept → Bool
kept_ok k = kept_typed k && (outputs_legal k && baud_legal k)

unfoldable pub song_ok : Song → Bool
song_ok song = song_typed song && (length_legal song && notes_zero song)

unfoldable pub songs_ok : Songs → Bool
songs_ok x = eqb (length x.table) 16 && (selected_legal x && (is_flag x.playing && (playing_set x && all song_ok x.table)))

unfoldable pub stream_ok : Stream → Bool
stream_ok x = stream_typed x && (is_flag x.on && (stream_legal x && ids_zero x))

-- every part; the partial frame's test is frame's own
abbrev pub parts_ok : State → Bool
parts_ok s = motors_ok s.mode s.motors && (kept_ok s.kept && (songs_ok s.songs && (stream_ok s.stream && reachable_of s.partial)))
