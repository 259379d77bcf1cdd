-- The state record: power-on, and the setters, which alone change it (docs/RULES.md M1 to M18).
-- Assumes nothing.
use Rattle.std.specs.Prelude.{Bool, ◌&&◌, List, [], ◌∷◌, ℕ, eqb, ℤ, pos, get_or, set, replicate}
use Rattle.wire.specs.Lists.{all_zero}
use Rattle.frame.specs.declared.Partial.{Partial}
use Rattle.frame.specs.Push.{empty_partial}
use Rattle.state.specs.declared.Motors.{Motors}
use Rattle.state.specs.declared.Kept.{Kept}
use Rattle.state.specs.declared.Song.{Song}
use Rattle.state.specs.declared.Songs.{Songs}
use Rattle.state.specs.declared.Stream.{Stream}
use Rattle.state.specs.declared.State.{State}

-- ---- the modes, coded as packet 35 sends them, and the kinds of wheel order

abbrev pub off : ℕ
off = 0

abbrev pub passive : ℕ
passive = 1

abbrev pub safe : ℕ
safe = 2

abbrev pub full : ℕ
full = 3

abbrev pub no_order : ℕ
no_order = 0

abbrev pub drive : ℕ
drive = 1

abbrev pub direct : ℕ
direct = 2

-- ---- flags

-- a flag is a number, 0 no and 1 yes: lent from another language, its byte can be any
abbrev pub is_yes : ℕ → Bool
is_yes flag = eqb flag 1

-- ---- motors off

-- both wheels without an order, and all three duties 0
abbrev pub motors_stopped : Motors
motors_stopped = record { order = no_order; first = pos 0; second = pos 0; duties = 0 ∷ 0 ∷ 0 ∷ [] }

-- motors are off (M15): a Drive order of velocity 0 is not off, and the numbers of no order may be
-- anything
unfoldable pub motors_off : Motors → Bool
motors_off m = eqb m.order no_order && all_zero m.duties

-- ---- songs

-- a song never set
abbrev pub unset : Song
unset = record { len = 0; notes = replicate 32 0 }

-- the song of a number; there is none of 16 and above
abbrev pub song_at : Songs → ℕ → Song
song_at songs n = get_or songs.table n unset

-- ---- power-on

-- rules M1 to M13, their last column
unfoldable pub power_on : State
power_on =
    record {
      mode = off;
      motors = motors_stopped;
      kept = record { baud = 10; leds = 0 ∷ 0 ∷ 0 ∷ []; outputs = 0; ir = 0 };
      songs = record { table = replicate 16 unset; selected = 0; playing = 0 };
      stream = record { ids = replicate 16 0; count = 0; on = 0 };
      partial = empty_partial;
    }

-- ---- one setter for each part

abbrev pub with_mode : ℕ → State → State
with_mode m s =
    record { mode = m; motors = s.motors; kept = s.kept; songs = s.songs; stream = s.stream; partial = s.partial }

abbrev pub with_motors : Motors → State → State
with_motors m s =
    record { mode = s.mode; motors = m; kept = s.kept; songs = s.songs; stream = s.stream; partial = s.partial }

abbrev pub with_kept : Kept → State → State
with_kept k s =
    record { mode = s.mode; motors = s.motors; kept = k; songs = s.songs; stream = s.stream; partial = s.partial }

abbrev pub with_songs : Songs → State → State
with_songs x s =
    record { mode = s.mode; motors = s.motors; kept = s.kept; songs = x; stream = s.stream; partial = s.partial }

abbrev pub with_stream : Stream → State → State
with_stream x s =
    record { mode = s.mode; motors = s.motors; kept = s.kept; songs = s.songs; stream = x; partial = s.partial }

abbrev pub with_partial : Partial → State → State
with_partial p s =
    record { mode = s.mode; motors = s.motors; kept = s.kept; songs = s.songs; stream = s.stream; partial = p }

-- ---- and, over these, for what a command sets within a part

-- a wheel order: 137 and 145
abbrev pub with_wheels : ℕ → ℤ → ℤ → State → State
with_wheels kind first second s =
    with_motors (record { order = kind; first = first; second = second; duties = s.motors.duties }) s

-- the duties of driver 0, 1 and 2: 138 and 144
abbrev pub with_duties : List ℕ → State → State
with_duties ds s = with_motors (record { order = s.motors.order; first = s.motors.first; second = s.motors.second; duties = ds }) s

-- the baud code: 129
abbrev pub with_baud : ℕ → State → State
with_baud n s = with_kept (record { baud = n; leds = s.kept.leds; outputs = s.kept.outputs; ir = s.kept.ir }) s

-- the LEDs' three bytes: 139
abbrev pub with_leds : List ℕ → State → State
with_leds bs s = with_kept (record { baud = s.kept.baud; leds = bs; outputs = s.kept.outputs; ir = s.kept.ir }) s

-- the outputs: 147
abbrev pub with_outputs : ℕ → State → State
with_outputs n s = with_kept (record { baud = s.kept.baud; leds = s.kept.leds; outputs = n; ir = s.kept.ir }) s

-- the IR byte: 151
abbrev pub with_infrared : ℕ → State → State
with_infrared n s = with_kept (record { baud = s.kept.baud; leds = s.kept.leds; outputs = s.kept.outputs; ir = n }) s

-- one song: 140
abbrev pub with_song : ℕ → Song → State → State
with_song n song s =
    with_songs (record { table = set s.songs.table n song; selected = s.songs.selected; playing = s.songs.playing }) s

-- the selected song: 141
abbrev pub with_selected : ℕ → State → State
with_selected n s = with_songs (record { table = s.songs.table; selected = n; playing = s.songs.playing }) s

-- playing: 141, and a song end
abbrev pub with_playing : ℕ → State → State
with_playing n s = with_songs (record { table = s.songs.table; selected = s.songs.selected; playing = n }) s

-- the list, 16 places of which the first n are in use: 148
abbrev pub with_list : ℕ → List ℕ → State → State
with_list n ids s = with_stream (record { ids = ids; count = n; on = s.stream.on }) s

-- streaming, off or on: 148 and 150
abbrev pub with_streaming : ℕ → State → State
with_streaming n s = with_stream (record { ids = s.stream.ids; count = s.stream.count; on = n }) s

-- ---- stop

-- a stop (M16): no wheel order, and no duty
abbrev pub stop : State → State
stop s = with_motors motors_stopped s

-- entering Passive (M17), which is a stop too
abbrev pub to_passive : State → State
to_passive s = with_mode passive (stop s)
