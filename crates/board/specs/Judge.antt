-- What a command does once its frame is complete (docs/RULES.md C1, the effects of C128 to C151, N0
-- to N7). It knows no bytes of a frame.
-- Assumes nothing.
use Rattle.std.specs.Prelude.{Bool, false, not, cond, List, [], ◌∷◌, ℕ, ◌/◌, ◌%◌, leb, eqb, ℤ, pos, length, take}
use Rattle.packet.specs.Packets.{answer_bytes}
use Rattle.packet.specs.declared.Status.{Status}
use Rattle.command.specs.Layout.{refusal_of}
use Rattle.command.specs.CommandTable.{allowed_of, legal_of}
use Rattle.command.specs.declared.Command.{Command}
use Rattle.command.specs.declared.Command.TheVariants as cmd
use Rattle.command.specs.declared.Message.{Message}
use Rattle.state.specs.State.{safe, full, is_yes, drive, direct, song_at, with_mode, with_wheels, with_duties, with_baud, with_leds, with_outputs, with_infrared, with_song, with_selected, with_playing, with_list, with_streaming, to_passive}
use Rattle.state.specs.Accepted.{is_set}
use Rattle.state.specs.declared.Motors.{Motors}
use Rattle.state.specs.declared.State.{State}
use Rattle.board.specs.Outcome.{Outcome, gives, answers}

-- ---- packets 35 to 42

-- a number of a wheel order of this kind, and 0 where the order is another (P39 to P42)
abbrev pub of_order : ℕ → Motors → ℤ → ℤ
of_order kind m v = cond (eqb m.order kind) v (pos 0)

-- rules P35 to P42: 36 is the selected song though it is not set, 38 the list's length though
-- streaming is off
unfoldable pub status_of : State → Status
status_of s =
    record {
      mode = s.mode;
      selected = s.songs.selected;
      playing = s.songs.playing;
      listed = s.stream.count;
      velocity = of_order drive s.motors s.motors.first;
      radius = of_order drive s.motors s.motors.second;
      right = of_order direct s.motors s.motors.first;
      left = of_order direct s.motors s.motors.second;
    }

-- ---- the column of effects

-- the duty of a driver by its bit (C138); place is 1, 2 or 4, the bit's worth
abbrev pub duty_of : ℕ → ℕ → ℕ
duty_of bits place = cond (eqb (bits / place % 2) 1) 128 0

-- what a command needs, beside its mode and legal data: nothing; that a song is set and none plays;
-- room for the answer of these packets
pub data Needs : Type 0 where
  nothing : Needs
  a_song : ℕ → Needs
  packets : List ℕ → Needs

pub record Effect : Type 0 where
  pub sets : State → State
  pub needs : Needs

abbrev does : (State → State) → Effect
does f = record { sets = f; needs = nothing }

abbrev plays : ℕ → (State → State) → Effect
plays n f = record { sets = f; needs = a_song n }

-- an answer leaves the record as it is
abbrev asks : List ℕ → Effect
asks ids = record { sets = λ s. s; needs = packets ids }

-- what a command does, by the payload that came with it, in the order of the command table's rows:
-- C128, C129, ..
abbrev pub effect_of : Command → List ℕ → Effect
effect_of cmd.Start p = does to_passive
-- the code, and Passive
effect_of (cmd.Baud code) p = does (λ s. to_passive (with_baud code s))
effect_of cmd.Control p = does (with_mode safe)
-- the motors stay
effect_of cmd.Safe p = does (with_mode safe)
effect_of cmd.Full p = does (with_mode full)
effect_of cmd.Power p = does to_passive
effect_of (cmd.Demo demo) p = does to_passive
effect_of cmd.Spot p = does to_passive
effect_of cmd.Cover p = does to_passive
effect_of cmd.Dock p = does to_passive
-- a wheel order
effect_of (cmd.Drive velocity radius) p = does (with_wheels drive velocity radius)
effect_of (cmd.Direct right left) p = does (with_wheels direct right left)
effect_of (cmd.Drivers bits) p = does (with_duties (duty_of bits 1 ∷ duty_of bits 2 ∷ duty_of bits 4 ∷ []))
-- driver 2 is sent first
effect_of (cmd.Duties driver2 driver1 driver0) p = does (with_duties (driver0 ∷ driver1 ∷ driver2 ∷ []))
-- what is only kept
effect_of (cmd.Leds bits color intensity) p = does (with_leds (bits ∷ color ∷ intensity ∷ []))
effect_of (cmd.Outputs bits) p = does (with_outputs bits)
effect_of (cmd.Infrared code) p = does (with_infrared code)
-- the places past its notes are 0 in the payload
effect_of (cmd.Song song notes) p = does (with_song song (record { len = notes; notes = p }))
-- it plays, where it is set and none does
effect_of (cmd.Play song) p = plays song (λ s. with_playing 1 (with_selected song s))
-- one id
effect_of (cmd.Sensors id) p = asks (id ∷ [])
-- the ids of its payload
effect_of (cmd.QueryList ids) p = asks (take ids p)
-- the list, and streaming
effect_of (cmd.Stream ids) p = does (λ s. with_streaming 1 (with_list ids (take 16 p) s))
-- streaming alone
effect_of (cmd.Pause on) p = does (with_streaming on)
-- refused as such
effect_of (cmd.Unknown op) p = does (λ s. s)
effect_of (cmd.NotOffered op) p = does (λ s. s)

-- the effect of a message
abbrev pub effect_in : Message → Effect
effect_in m = effect_of m.command m.payload

-- the bytes of its answer: none, where it asks for no packets
abbrev pub answer_of : State → Needs → List ℕ → List ℕ
answer_of s nothing image = []
answer_of s (a_song n) image = []
answer_of s (packets ids) image = answer_bytes (status_of s) image ids

-- ---- the numbers

-- rule N5: a Play whose song is not set
abbrev pub no_song : State → Needs → Bool
no_song s nothing = false
no_song s (a_song n) = not (is_set (song_at s.songs n))
no_song s (packets ids) = false

-- rule N6: a Play while one plays
abbrev pub busy : State → Needs → Bool
busy s nothing = false
busy s (a_song n) = is_yes s.songs.playing
busy s (packets ids) = false

-- a number, and when it is given
pub record Rule : Type 0 where
  pub number : ℕ
  pub when : Bool

infix 60 ◌if◌
abbrev pub ◌if◌ : ℕ → Bool → Rule
n if b = record { number = n; when = b }

-- rules N1 to N7, in their order
abbrev pub rules : State → Message → List ℕ → ℕ → List Rule
rules s m image room =
    let c = m.command in
    let needs = (effect_in m).needs in
    -- unknown
    (1 if eqb (refusal_of c) 1)
    -- not offered
    ∷ (2 if eqb (refusal_of c) 2)
    -- wrong mode
    ∷ (3 if not (allowed_of c s.mode))
    -- data not legal
    ∷ (4 if not (legal_of m))
    ∷ (5 if no_song s needs)
    ∷ (6 if busy s needs)
    -- no room: the answer is longer than the buffer
    ∷ (7 if not (leb (length (answer_of s needs image)) room))
    ∷ []

-- the first of the rules that applies, and the record stays as it is
abbrev pub first : List Rule → State → Outcome → Outcome
first [] s otherwise = otherwise
first (r ∷ rs) s otherwise = cond r.when (gives r.number s) (first rs s otherwise)

-- rule N0: else the effect, and the answer
abbrev pub judged_by : List Rule → State → Message → List ℕ → Outcome
judged_by rs s m image = first rs s (answers (answer_of s (effect_in m).needs image) ((effect_in m).sets s))

unfoldable pub judge_of : State → Message → List ℕ → ℕ → Outcome
judge_of s m image room = judged_by (rules s m image room) s m image
