-- The column of effects (docs/RULES.md C128 to C151) as data, row by row: samples of every command,
-- each judged in all four modes. What they expect is written out, and cites no effect, mode or
-- range of the rules.
-- Assumes nothing.
use Rattle.std.specs.Prelude.{Bool, true, false, cond, ℕ, pos, length, replicate}
use mathlib.Core.List.{List, [], ◌∷◌, map, flatten}
use Rattle.wire.specs.Lists.{all, span, from_to, among, padded}
use Rattle.wire.specs.Sixteen.{minus}
use Rattle.command.specs.Layout.{decode_of}
use Rattle.state.specs.State.{with_mode, with_wheels, with_duties, with_baud, with_leds, with_outputs, with_infrared, with_song, with_selected, with_playing, with_list, with_streaming}
use Rattle.state.specs.Cases.{moving}
use Rattle.state.specs.declared.Song.{Song}
use Rattle.state.specs.declared.State.{State}
use Rattle.board.specs.Outcome.{Outcome, same_outcome, gives, answers}
use Rattle.board.specs.Judge.{judge_of}

-- ---- the table

-- data bytes, the part that they set, and the answer
pub record Sample : Type 0 where
  pub sent : List ℕ
  pub sets : State → State
  pub answer : List ℕ

pub data ModeAfter : Type 0 where
  kept : ModeAfter
  becomes : ℕ → ModeAfter

-- an opcode of a row: the mode after it, whether it stops, and samples
pub record Entry : Type 0 where
  pub opcode : ℕ
  pub after : ModeAfter
  pub stops : Bool
  pub samples : List Sample

pub record EffectRow : Type 0 where
  pub modes : List ℕ
  pub entries : List Entry

abbrev setting : List ℕ → (State → State) → Sample
setting sent f = record { sent = sent; sets = f; answer = [] }

abbrev nothing_set : List ℕ → Sample
nothing_set sent = setting sent (λ s. s)

abbrev answering_with : List ℕ → List ℕ → Sample
answering_with sent bytes = record { sent = sent; sets = λ s. s; answer = bytes }

-- a mode, and no data
abbrev turns : ℕ → ℕ → Entry
turns op mode = record { opcode = op; after = becomes mode; stops = false; samples = nothing_set [] ∷ [] }

-- entering Passive
abbrev stopping : ℕ → List Sample → Entry
stopping op samples = record { opcode = op; after = becomes 1; stops = true; samples = samples }

abbrev staying : ℕ → List Sample → Entry
staying op samples = record { opcode = op; after = kept; stops = false; samples = samples }

abbrev row : List ℕ → List Entry → EffectRow
row modes es = record { modes = modes; entries = es }

-- a song of n notes
abbrev song : ℕ → List ℕ → Song
song n notes = record { len = n; notes = padded 32 notes }

-- the rows of docs/RULES.md, in its order: C128, C129, .. Modes are 0 Off, 1 Passive, 2 Safe, 3
-- Full; the image's byte at place k is 100 + k.
abbrev pub effect_table : List EffectRow
effect_table =
    row (0 ∷ 1 ∷ 2 ∷ 3 ∷ []) (stopping 128 (nothing_set [] ∷ []) ∷ [])
    ∷ row (1 ∷ 2 ∷ 3 ∷ []) (stopping 129 (setting (0 ∷ []) (with_baud 0) ∷ setting (11 ∷ []) (with_baud 11) ∷ []) ∷ [])
    ∷ row (1 ∷ []) (turns 130 2 ∷ [])
    ∷ row (1 ∷ 2 ∷ 3 ∷ []) (turns 131 2 ∷ turns 132 3 ∷ [])
    ∷ row (2 ∷ 3 ∷ []) (stopping 133 (nothing_set [] ∷ []) ∷ [])
    ∷ row (1 ∷ 2 ∷ 3 ∷ []) (stopping 136 (map (λ demo. nothing_set (demo ∷ [])) (255 ∷ from_to 0 9)) ∷ [])
    ∷ row (1 ∷ 2 ∷ 3 ∷ []) (map (λ op. stopping op (nothing_set [] ∷ [])) (134 ∷ 135 ∷ 143 ∷ []))
    ∷ row (2 ∷ 3 ∷ [])
    (staying 137
    (setting (255 ∷ 56 ∷ 1 ∷ 244 ∷ []) (with_wheels 1 (minus 200) (pos 500))
    ∷ setting (0 ∷ 100 ∷ 128 ∷ 0 ∷ []) (with_wheels 1 (pos 100) (minus 32768))
    ∷ setting (254 ∷ 12 ∷ 127 ∷ 255 ∷ []) (with_wheels 1 (minus 500) (pos 32767))
    ∷ setting (0 ∷ 0 ∷ 255 ∷ 255 ∷ []) (with_wheels 1 (pos 0) (minus 1))
    ∷ [])
    ∷ [])
    -- right, then left
    ∷ row (2 ∷ 3 ∷ [])
    (staying 145
    (setting (1 ∷ 244 ∷ 254 ∷ 12 ∷ []) (with_wheels 2 (pos 500) (minus 500))
    ∷ setting (255 ∷ 255 ∷ 0 ∷ 1 ∷ []) (with_wheels 2 (minus 1) (pos 1))
    ∷ setting (0 ∷ 0 ∷ 0 ∷ 0 ∷ []) (with_wheels 2 (pos 0) (pos 0))
    ∷ [])
    ∷ [])
    -- duties of driver 0, 1, 2
    ∷ row (2 ∷ 3 ∷ [])
    (staying 138
    (setting (0 ∷ []) (with_duties (0 ∷ 0 ∷ 0 ∷ []))
    ∷ setting (1 ∷ []) (with_duties (128 ∷ 0 ∷ 0 ∷ []))
    ∷ setting (2 ∷ []) (with_duties (0 ∷ 128 ∷ 0 ∷ []))
    ∷ setting (3 ∷ []) (with_duties (128 ∷ 128 ∷ 0 ∷ []))
    ∷ setting (4 ∷ []) (with_duties (0 ∷ 0 ∷ 128 ∷ []))
    ∷ setting (5 ∷ []) (with_duties (128 ∷ 0 ∷ 128 ∷ []))
    ∷ setting (6 ∷ []) (with_duties (0 ∷ 128 ∷ 128 ∷ []))
    ∷ setting (7 ∷ []) (with_duties (128 ∷ 128 ∷ 128 ∷ []))
    ∷ [])
    ∷ [])
    -- driver 2 is sent first
    ∷ row (2 ∷ 3 ∷ [])
    (staying 144
    (setting (32 ∷ 1 ∷ 127 ∷ []) (with_duties (127 ∷ 1 ∷ 32 ∷ [])) ∷ setting (0 ∷ 128 ∷ 0 ∷ []) (with_duties (0 ∷ 128 ∷ 0 ∷ [])) ∷ []) ∷ [])
    ∷ row (2 ∷ 3 ∷ []) (staying 139 (setting (8 ∷ 254 ∷ 0 ∷ []) (with_leds (8 ∷ 254 ∷ 0 ∷ [])) ∷ setting (2 ∷ 7 ∷ 255 ∷ []) (with_leds (2 ∷ 7 ∷ 255 ∷ [])) ∷ []) ∷ [])
    ∷ row (2 ∷ 3 ∷ [])
    (staying 147 (setting (0 ∷ []) (with_outputs 0) ∷ setting (4 ∷ []) (with_outputs 4) ∷ setting (7 ∷ []) (with_outputs 7) ∷ [])
    ∷ staying 151 (setting (0 ∷ []) (with_infrared 0) ∷ setting (130 ∷ []) (with_infrared 130) ∷ [])
    ∷ [])
    -- the notes past its length are 0
    ∷ row (1 ∷ 2 ∷ 3 ∷ [])
    (staying 140
    (setting (3 ∷ 1 ∷ 60 ∷ 32 ∷ []) (with_song 3 (song 1 (60 ∷ 32 ∷ [])))
    ∷ setting (15 ∷ 2 ∷ 255 ∷ 0 ∷ 0 ∷ 255 ∷ []) (with_song 15 (song 2 (255 ∷ 0 ∷ 0 ∷ 255 ∷ [])))
    ∷ setting (0 ∷ 16 ∷ span 201 32) (with_song 0 (song 16 (span 201 32)))
    ∷ [])
    ∷ [])
    ∷ row (2 ∷ 3 ∷ [])
    (staying 141
    (setting (0 ∷ []) (λ s. with_playing 1 (with_selected 0 s)) ∷ setting (15 ∷ []) (λ s. with_playing 1 (with_selected 15 s)) ∷ []) ∷ [])
    -- 36 is the selected song, 37 playing, 38 the list's length
    ∷ row (1 ∷ 2 ∷ 3 ∷ [])
    (staying 142
    (answering_with (13 ∷ []) (106 ∷ [])
    ∷ answering_with (29 ∷ []) (130 ∷ 131 ∷ [])
    ∷ answering_with (36 ∷ []) (3 ∷ [])
    ∷ answering_with (37 ∷ []) (0 ∷ [])
    ∷ answering_with (38 ∷ []) (2 ∷ [])
    ∷ answering_with (0 ∷ []) (span 100 26)
    ∷ [])
    ∷ [])
    ∷ row (1 ∷ 2 ∷ 3 ∷ [])
    (staying 149
    (answering_with (0 ∷ []) []
    ∷ answering_with (3 ∷ 36 ∷ 29 ∷ 38 ∷ []) (3 ∷ 130 ∷ 131 ∷ 2 ∷ [])
    ∷ answering_with (16 ∷ replicate 16 2) (flatten (replicate 16 (span 110 6)))
    ∷ [])
    ∷ [])
    ∷ row (1 ∷ 2 ∷ 3 ∷ [])
    (staying 148
    (setting (0 ∷ []) (λ s. with_streaming 1 (with_list 0 (replicate 16 0) s))
    ∷ setting (3 ∷ 9 ∷ 42 ∷ 7 ∷ []) (λ s. with_streaming 1 (with_list 3 (padded 16 (9 ∷ 42 ∷ 7 ∷ [])) s))
    ∷ setting (16 ∷ span 7 16) (λ s. with_streaming 1 (with_list 16 (span 7 16) s))
    ∷ [])
    ∷ [])
    ∷ row (1 ∷ 2 ∷ 3 ∷ []) (staying 150 (setting (0 ∷ []) (with_streaming 0) ∷ setting (1 ∷ []) (with_streaming 1) ∷ []) ∷ [])
    ∷ []

-- ---- the test

-- no wheel order, and no duty
abbrev stopped : State → State
stopped s = with_duties (0 ∷ 0 ∷ 0 ∷ []) (with_wheels 0 (pos 0) (pos 0) s)

-- a record of each mode with a value in every part: in Safe and Full the motors run, songs 0 and 15
-- are set and none plays, song 3 is selected, the list 29 13 is streamed, half a Drive is read
abbrev pub sample_record : ℕ → State
sample_record mode =
    let s = with_selected 3 (with_playing 0 (with_mode mode moving)) in
    cond (among (2 ∷ 3 ∷ []) mode) s (stopped s)

abbrev pub sample_image : List ℕ
sample_image = span 100 40

abbrev enter : ModeAfter → State → State
enter kept s = s
enter (becomes mode) s = with_mode mode s

abbrev stop_if : Bool → State → State
stop_if b s = cond b (stopped s) s

-- in a mode of the row 0, the effect and the answer, which fits; in every other mode 3, and the
-- record as it was
abbrev expected : List ℕ → Entry → Sample → ℕ → State → Outcome
expected modes e x mode s = cond (among modes mode) (answers x.answer (x.sets (stop_if e.stops (enter e.after s)))) (gives 3 s)

abbrev judged : Entry → Sample → State → Outcome
judged e x s = judge_of s (decode_of (padded 35 (e.opcode ∷ x.sent))) sample_image (length x.answer)

abbrev sample_right : List ℕ → Entry → Sample → ℕ → Bool
sample_right modes e x mode =
    all (λ s. same_outcome (judged e x s) (expected modes e x mode s)) (sample_record mode ∷ with_streaming 0 (sample_record mode) ∷ [])

-- every sample, in all four modes
abbrev pub row_right : EffectRow → Bool
row_right r = all (λ e. all (λ x. all (sample_right r.modes e x) (0 ∷ 1 ∷ 2 ∷ 3 ∷ [])) e.samples) r.entries
