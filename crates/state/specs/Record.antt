-- What the state record guarantees: the theorems of this crate.
-- Assumes nothing.
use Rattle.std.specs.Prelude.{◌≡◌, true, false, ◌&&◌, List, [], ◌∷◌, ℕ, ◌*◌, ◌≤◌, ◌<◌, T, ltb, ℤ, pos, length, get_or, take}
use Rattle.std.specs.Int.{w16}
use Rattle.std.proofs.Common.{SFits}
use Rattle.wire.specs.Lists.{all, all_zero}
use Rattle.frame.specs.Push.{empty_partial}
use Rattle.frame.specs.Reach.{reachable_of}
use Rattle.frame.specs.declared.Partial.{Partial}
use Rattle.packet.specs.Answers.{streamable_of}
use Rattle.command.specs.CommandTable.{legal_of}
use Rattle.command.specs.Commands.{message, is_speed, is_radius, Sendable}
use Rattle.command.specs.declared.Command.TheVariants as cmd
use Rattle.state.specs.State.{off, passive, safe, full, no_order, drive, direct, motors_off, unset, song_at, power_on, with_mode, with_motors, with_kept, with_songs, with_stream, with_partial, with_wheels, with_duties, with_baud, with_leds, with_outputs, with_infrared, with_song, with_selected, with_playing, with_list, with_streaming, stop, to_passive}
use Rattle.state.specs.Accepted.{is_set, items, typed, accepted_of, broken_of, motors_ok, kept_ok, songs_ok, stream_ok, parts_ok}
use Rattle.state.specs.Cases.{record_cases, cases_right, odd_records}
use Rattle.state.specs.declared.Motors.{Motors}
use Rattle.state.specs.declared.Kept.{Kept}
use Rattle.state.specs.declared.Song.{Song}
use Rattle.state.specs.declared.Songs.{Songs}
use Rattle.state.specs.declared.Stream.{Stream}
use Rattle.state.specs.declared.State.{State}

-- ---- the setters

abbrev pub pair : {A B : Type 0} → A → B → A × B
pair a b = (a, b)

-- a wheel order: its kind and its two numbers
abbrev pub wheels_of : Motors → ℕ × (ℤ × ℤ)
wheels_of m = (m.order, (m.first, m.second))

-- all of a record but one part
abbrev pub but_mode : State → Motors × (Kept × (Songs × (Stream × Partial)))
but_mode s = (s.motors, (s.kept, (s.songs, (s.stream, s.partial))))

abbrev pub but_motors : State → ℕ × (Kept × (Songs × (Stream × Partial)))
but_motors s = (s.mode, (s.kept, (s.songs, (s.stream, s.partial))))

abbrev pub but_kept : State → ℕ × (Motors × (Songs × (Stream × Partial)))
but_kept s = (s.mode, (s.motors, (s.songs, (s.stream, s.partial))))

abbrev pub but_songs : State → ℕ × (Motors × (Kept × (Stream × Partial)))
but_songs s = (s.mode, (s.motors, (s.kept, (s.stream, s.partial))))

abbrev pub but_stream : State → ℕ × (Motors × (Kept × (Songs × Partial)))
but_stream s = (s.mode, (s.motors, (s.kept, (s.songs, s.partial))))

abbrev pub but_partial : State → ℕ × (Motors × (Kept × (Songs × Stream)))
but_partial s = (s.mode, (s.motors, (s.kept, (s.songs, s.stream))))

-- what is set is there, and all else is kept: `get` and `rest` together read the whole record
pub record Sets {A B : Type 0} (get : State → A) (rest : State → B) (put : A → State → State) : Type 0 where
  pub there : (x : A) (s : State) → get (put x s) ≡ x
  pub others : (x : A) (s : State) → rest (put x s) ≡ rest s

-- THEOREM: the setters
pub record SettersRight : Type 0 where
  pub set_mode : Sets (λ s. s.mode) but_mode with_mode
  pub set_motors : Sets (λ s. s.motors) but_motors with_motors
  pub set_kept : Sets (λ s. s.kept) but_kept with_kept
  pub set_songs : Sets (λ s. s.songs) but_songs with_songs
  pub set_stream : Sets (λ s. s.stream) but_stream with_stream
  pub set_partial : Sets (λ s. s.partial) but_partial with_partial
  -- within a part: the part's other fields are kept too
  pub set_wheels : Sets (λ s. wheels_of s.motors) (λ s. pair (but_motors s) s.motors.duties) (λ x. with_wheels x.0 x.1.0 x.1.1)
  pub set_duties : Sets (λ s. s.motors.duties) (λ s. pair (but_motors s) (wheels_of s.motors)) with_duties
  pub set_baud : Sets (λ s. s.kept.baud) (λ s. pair (but_kept s) (pair s.kept.leds (pair s.kept.outputs s.kept.ir))) with_baud
  pub set_leds : Sets (λ s. s.kept.leds) (λ s. pair (but_kept s) (pair s.kept.baud (pair s.kept.outputs s.kept.ir))) with_leds
  pub set_outputs : Sets (λ s. s.kept.outputs) (λ s. pair (but_kept s) (pair s.kept.baud (pair s.kept.leds s.kept.ir))) with_outputs
  pub set_infrared : Sets (λ s. s.kept.ir) (λ s. pair (but_kept s) (pair s.kept.baud (pair s.kept.leds s.kept.outputs))) with_infrared
  pub set_selected : Sets (λ s. s.songs.selected) (λ s. pair (but_songs s) (pair s.songs.table s.songs.playing)) with_selected
  pub set_playing : Sets (λ s. s.songs.playing) (λ s. pair (but_songs s) (pair s.songs.table s.songs.selected)) with_playing
  pub set_list : Sets (λ s. pair s.stream.count s.stream.ids) (λ s. pair (but_stream s) s.stream.on) (λ x. with_list x.0 x.1)
  pub set_streaming : Sets (λ s. s.stream.on) (λ s. pair (but_stream s) (pair s.stream.count s.stream.ids)) with_streaming
  -- one of the 16 songs, and not the others
  pub song_there : (n : ℕ) (x : Song) (s : State) → n < length s.songs.table → song_at (with_song n x s).songs n ≡ x
  pub song_elsewhere : (n k : ℕ) (x : Song) (s : State) → (k ≡ n → ⊥) → song_at (with_song n x s).songs k ≡ song_at s.songs k
  pub song_rest : (n : ℕ) (x : Song) (s : State)
      → pair (but_songs (with_song n x s)) (pair (with_song n x s).songs.selected (with_song n x s).songs.playing)
      ≡ pair (but_songs s) (pair s.songs.selected s.songs.playing)

-- ---- power-on and stop

-- THEOREM: power-on, field by field (rules M1 to M14)
pub record PowerOnRight : Type 0 where
  pub mode_off : power_on.mode ≡ 0
  pub motors_off_lem : motors_off power_on.motors ≡ true
  pub wheels_0 : wheels_of power_on.motors ≡ (0, (pos 0, pos 0))
  pub no_songs : (n : ℕ) → is_set (song_at power_on.songs n) ≡ false
  pub selected_0 : power_on.songs.selected ≡ 0
  pub not_playing : power_on.songs.playing ≡ 0
  pub empty_list : power_on.stream.count ≡ 0
  pub streaming_off : power_on.stream.on ≡ 0
  pub baud_10 : power_on.kept.baud ≡ 10
  pub leds_0 : power_on.kept.leds ≡ 0 ∷ 0 ∷ 0 ∷ []
  pub outputs_0 : power_on.kept.outputs ≡ 0
  pub infrared_0 : power_on.kept.ir ≡ 0
  pub nothing_held : power_on.partial ≡ empty_partial
  pub power_on_accepted : T (accepted_of power_on)

-- THEOREM: stop, and motors off
pub record StopRight : Type 0 where
  pub stop_wheels : (s : State) → wheels_of (stop s).motors ≡ (0, (pos 0, pos 0))
  pub stop_duties : (s : State) → (stop s).motors.duties ≡ 0 ∷ 0 ∷ 0 ∷ []
  pub stop_off : (s : State) → motors_off (stop s).motors ≡ true
  pub stop_others : (s : State) → but_motors (stop s) ≡ but_motors s
  -- Passive with a stop, and nothing else
  pub passive_mode : (s : State) → (to_passive s).mode ≡ 1
  pub passive_others : (s : State) → but_mode (to_passive s) ≡ but_mode (stop s)
  -- rule M15: when motors are off
  pub off_order : (m : Motors) → motors_off m ≡ true → m.order ≡ 0
  pub off_duties : (m : Motors) → motors_off m ≡ true → (i : ℕ) → get_or m.duties i 0 ≡ 0
  pub off_so : (m : Motors) → m.order ≡ 0 → m.duties ≡ 0 ∷ 0 ∷ 0 ∷ [] → motors_off m ≡ true

-- ---- accepted

-- THEOREM: records in numbers
pub record RecordsInNumbers : Type 0 where
  -- modes are coded as packet 35 sends them
  pub mode_codes : off ∷ passive ∷ safe ∷ full ∷ [] ≡ 0 ∷ 1 ∷ 2 ∷ 3 ∷ []
  pub order_codes : no_order ∷ drive ∷ direct ∷ [] ≡ 0 ∷ 1 ∷ 2 ∷ []
  pub records_right : T (cases_right 0 record_cases)
  -- there are cases for every item
  pub every_item : (s : State) → length record_cases ≡ length (items s)
  pub no_item_without : T (all (λ cs. ltb 0 (length cs)) record_cases)
  pub odd_accepted : T (all accepted_of odd_records)

-- rules B1 to B16, none of which holds, in plain numbers where there are any
pub record Plain (s : State) : Type 0 where
  pub mode_is : s.mode ≤ 3
  pub order_is : s.motors.order ≤ 2
  pub off_unless_driven_lem : s.mode ≤ 1 → motors_off s.motors ≡ true
  pub drive_is : s.motors.order ≡ 1 → (is_speed s.motors.first && is_radius s.motors.second) ≡ true
  pub direct_is : s.motors.order ≡ 2 → (is_speed s.motors.first && is_speed s.motors.second) ≡ true
  pub duties_are : (i : ℕ) → i < 3 → get_or s.motors.duties i 0 ≤ 128
  pub outputs_are : s.kept.outputs ≤ 7
  pub baud_is : s.kept.baud ≤ 11
  pub selected_is : s.songs.selected ≤ 15
  pub count_is : s.stream.count ≤ 16
  pub list_is : streamable_of (take s.stream.count s.stream.ids) ≡ true
  pub lengths_are : (n : ℕ) → n < 16 → (get_or s.songs.table n unset).len ≤ 16
  pub playing_set_lem : s.songs.playing ≡ 1 → 0 < (get_or s.songs.table s.songs.selected unset).len
  pub notes_zero_lem : (n i : ℕ) → n < 16 → 2 * (get_or s.songs.table n unset).len ≤ i → get_or (get_or s.songs.table n unset).notes i 0 ≡ 0
  pub ids_zero_lem : (i : ℕ) → s.stream.count ≤ i → get_or s.stream.ids i 0 ≡ 0
  pub partial_is : reachable_of s.partial ≡ true
  pub playing_flag : s.songs.playing ≤ 1
  pub streaming_flag : s.stream.on ≤ 1

-- the list is a value of [u8; n]
abbrev pub Array : ℕ → List ℕ → Type 0
Array n l = (length l ≡ n) × ((i : ℕ) → get_or l i 0 < 256)

-- what the type alone says, where no item bounds it
pub record Typed (s : State) : Type 0 where
  pub first_word : SFits w16 s.motors.first
  pub second_word : SFits w16 s.motors.second
  pub duties_array : Array 3 s.motors.duties
  pub leds_array : Array 3 s.kept.leds
  pub infrared_byte : s.kept.ir < 256
  pub sixteen_songs : length s.songs.table ≡ 16
  pub notes_array : (n : ℕ) → n < 16 → Array 32 (get_or s.songs.table n unset).notes
  pub ids_array : Array 16 s.stream.ids

-- THEOREM: of the values of the type those are accepted, and no others
pub record AcceptedExactly : Type 0 where
  pub typed_facts : (s : State) → T (typed s) → Typed s
  pub typed_so : (s : State) → Typed s → T (typed s)
  pub set_so : (x : Song) → is_set x ≡ ltb 0 x.len
  pub accepted_facts : (s : State) → T (accepted_of s) → T (typed s) × Plain s
  pub no_other : (s : State) → T (typed s) → Plain s → T (accepted_of s)
  -- the tests of the parts, which the code asks
  pub by_parts : (s : State) → accepted_of s ≡ parts_ok s
  -- of the values of the type those are accepted that break no item
  pub none_broken : (s : State) → accepted_of s ≡ (typed s && all_zero (broken_of s))

-- ---- what keeps a record accepted

-- what holds of an accepted record: with what is set, it is accepted too
pub record StaysAccepted (s : State) : Type 0 where
  -- with another part
  pub mode_kept : (m : ℕ) → m ≤ 3 → (m ≤ 1 → motors_off s.motors ≡ true) → T (accepted_of (with_mode m s))
  pub motors_kept : (m : Motors) → T (motors_ok s.mode m) → T (accepted_of (with_motors m s))
  pub kept_kept : (k : Kept) → T (kept_ok k) → T (accepted_of (with_kept k s))
  pub songs_kept : (x : Songs) → T (songs_ok x) → T (accepted_of (with_songs x s))
  pub stream_kept : (x : Stream) → T (stream_ok x) → T (accepted_of (with_stream x s))
  pub partial_kept : (p : Partial) → T (reachable_of p) → T (accepted_of (with_partial p s))
  -- a Stop with Passive
  pub passive_kept : T (accepted_of (to_passive s))
  -- what a command with legal data sets: the wheels and duties in Safe and Full
  pub drive_kept : (v r : ℤ) (p : List ℕ) → 1 < s.mode → T (legal_of (message (cmd.Drive v r) p)) → T (accepted_of (with_wheels drive v r s))
  pub direct_kept : (v w : ℤ) (p : List ℕ) → 1 < s.mode → T (legal_of (message (cmd.Direct v w) p)) → T (accepted_of (with_wheels direct v w s))
  pub duties_kept : (a b d : ℕ) (p : List ℕ) → 1 < s.mode → T (legal_of (message (cmd.Duties d b a) p)) → T (accepted_of (with_duties (a ∷ b ∷ d ∷ []) s))
  pub baud_kept : (n : ℕ) (p : List ℕ) → T (legal_of (message (cmd.Baud n) p)) → T (accepted_of (with_baud n s))
  pub leds_kept : (a b d : ℕ) (p : List ℕ) → T (legal_of (message (cmd.Leds a b d) p)) → T (accepted_of (with_leds (a ∷ b ∷ d ∷ []) s))
  pub outputs_kept : (n : ℕ) (p : List ℕ) → T (legal_of (message (cmd.Outputs n) p)) → T (accepted_of (with_outputs n s))
  pub infrared_kept : (n : ℕ) (p : List ℕ) → T (legal_of (message (cmd.Infrared n) p)) → T (accepted_of (with_infrared n s))
  -- a song as it is read, and a set song that is played
  pub song_kept : (n len : ℕ) (p : List ℕ) → Sendable (message (cmd.Song n len) p)
      → T (accepted_of (with_song n (record { len = len; notes = p }) s))
  pub play_kept : (n : ℕ) (p : List ℕ) → T (legal_of (message (cmd.Play n) p)) → T (is_set (song_at s.songs n))
      → T (accepted_of (with_playing 1 (with_selected n s)))
  pub silent_kept : T (accepted_of (with_playing 0 s))
  -- a list as it is read
  pub list_kept : (n : ℕ) (p : List ℕ) → Sendable (message (cmd.Stream n) p) → T (accepted_of (with_list n (take 16 p) s))
  pub streaming_kept : (n : ℕ) (p : List ℕ) → T (legal_of (message (cmd.Pause n) p)) → T (accepted_of (with_streaming n s))

-- THEOREM: it holds of every accepted record
abbrev pub AcceptedStays : Type 0
AcceptedStays = (s : State) → T (accepted_of s) → StaysAccepted s
