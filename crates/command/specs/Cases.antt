-- Commands in numbers: what frames say, which modes they are for, and which data are legal. What
-- the cases expect is written out, and cites no row, no form and no range of the rules.
-- Assumes nothing.
use Rattle.std.specs.Prelude.{Bool, true, false, not, cond, ◌&&◌, ◌||◌, List, [], ◌∷◌, ◌++◌, map, ℕ, ◌*◌, leb, eqb, ℤ, pos, length, get_or, replicate}
use Rattle.std.specs.Bool.{beq}
use Rattle.wire.specs.Lists.{all, all_from, span, from_to, among, within, padded}
use Rattle.wire.specs.Sixteen.{minus, be16}
use Rattle.command.specs.Layout.{refusal_of, command_of, decode_of}
use Rattle.command.specs.CommandTable.{allowed_of, legal_of}
use Rattle.command.specs.declared.Command.{Command}
use Rattle.command.specs.declared.Command.TheVariants.{Start, Baud, Control, Safe, Full, Power, Demo, Spot, Cover, Dock, Drive, Direct, Drivers, Duties, Leds, Outputs, Infrared, Song, Play, Sensors, QueryList, Stream, Pause, Unknown, NotOffered}
use Rattle.command.specs.declared.Message.{Message}

-- ---- frames and what they say

-- this frame says this message
pub record FrameCase : Type 0 where
  pub frame : List ℕ
  pub message : Message

abbrev says_with : List ℕ → Command → List ℕ → FrameCase
says_with frame c payload = record { frame = frame; message = record { command = c; payload = padded 32 payload } }

abbrev says : List ℕ → Command → FrameCase
says frame c = says_with frame c []

-- the longest frame's: 16 notes
abbrev pub longest_song : FrameCase
longest_song = says_with (140 ∷ 15 ∷ 16 ∷ span 1 32) (Song 15 16) (span 1 32)

-- each offered command, and both ways
abbrev pub frame_cases : List FrameCase
frame_cases =
    says (128 ∷ []) Start
    ∷ says (129 ∷ 10 ∷ []) (Baud 10)
    ∷ says (130 ∷ []) Control
    ∷ says (131 ∷ []) Safe
    ∷ says (132 ∷ []) Full
    ∷ says (133 ∷ []) Power
    ∷ says (134 ∷ []) Spot
    ∷ says (135 ∷ []) Cover
    ∷ says (136 ∷ 255 ∷ []) (Demo (minus 1))
    ∷ says (136 ∷ 9 ∷ []) (Demo (pos 9))
    -- W3, W5
    ∷ says (137 ∷ 255 ∷ 56 ∷ 1 ∷ 244 ∷ []) (Drive (minus 200) (pos 500))
    ∷ says (137 ∷ 0 ∷ 100 ∷ 128 ∷ 0 ∷ []) (Drive (pos 100) (minus 32768))
    ∷ says (137 ∷ 254 ∷ 12 ∷ 127 ∷ 255 ∷ []) (Drive (minus 500) (pos 32767))
    ∷ says (138 ∷ 5 ∷ []) (Drivers 5)
    -- an example of the published Create interface
    ∷ says (139 ∷ 8 ∷ 0 ∷ 128 ∷ []) (Leds 8 0 128)
    ∷ says_with (140 ∷ 3 ∷ 2 ∷ 60 ∷ 32 ∷ 64 ∷ 16 ∷ []) (Song 3 2) (60 ∷ 32 ∷ 64 ∷ 16 ∷ [])
    ∷ longest_song
    ∷ says (141 ∷ 3 ∷ []) (Play 3)
    ∷ says (142 ∷ 6 ∷ []) (Sensors 6)
    ∷ says (143 ∷ []) Dock
    -- an example of that interface: driver 2 first
    ∷ says (144 ∷ 32 ∷ 0 ∷ 128 ∷ []) (Duties 32 0 128)
    -- W6: right first
    ∷ says (145 ∷ 1 ∷ 244 ∷ 254 ∷ 12 ∷ []) (Direct (pos 500) (minus 500))
    ∷ says (147 ∷ 4 ∷ []) (Outputs 4)
    -- examples of that interface; W10
    ∷ says_with (148 ∷ 2 ∷ 29 ∷ 13 ∷ []) (Stream 2) (29 ∷ 13 ∷ [])
    ∷ says_with (149 ∷ 2 ∷ 9 ∷ 13 ∷ []) (QueryList 2) (9 ∷ 13 ∷ [])
    ∷ says (149 ∷ 0 ∷ []) (QueryList 0)
    ∷ says_with (149 ∷ 16 ∷ span 7 16) (QueryList 16) (span 7 16)
    ∷ says (150 ∷ 1 ∷ []) (Pause 1)
    ∷ says (151 ∷ 255 ∷ []) (Infrared 255)
    ∷ []

-- bytes that are read, and whose message is not written. After a variant that is refused as such,
-- and past a legal count, no place of the payload is in use, whatever stands there.
abbrev pub other_cases : List FrameCase
other_cases =
    says (0 ∷ []) (Unknown 0)
    ∷ says (1 ∷ span 1 34) (Unknown 1)
    ∷ says (127 ∷ []) (Unknown 127)
    ∷ says (146 ∷ []) (Unknown 146)
    ∷ says (159 ∷ []) (Unknown 159)
    ∷ says (255 ∷ []) (Unknown 255)
    ∷ says (152 ∷ 2 ∷ []) (NotOffered 152)
    ∷ says (158 ∷ 7 ∷ []) (NotOffered 158)
    ∷ says (155 ∷ span 1 34) (NotOffered 155)
    -- out of range, and read as they are: a Demo's -128, 10; 32767, -501; a song number 16
    ∷ says (136 ∷ 128 ∷ []) (Demo (minus 128))
    ∷ says (136 ∷ 10 ∷ []) (Demo (pos 10))
    ∷ says (137 ∷ 127 ∷ 255 ∷ 254 ∷ 11 ∷ []) (Drive (pos 32767) (minus 501))
    ∷ says_with (140 ∷ 16 ∷ 1 ∷ 60 ∷ 32 ∷ []) (Song 16 1) (60 ∷ 32 ∷ [])
    ∷ says (140 ∷ 0 ∷ 17 ∷ span 1 32) (Song 0 17)
    ∷ says (148 ∷ 17 ∷ span 1 33) (Stream 17)
    ∷ says (149 ∷ 255 ∷ span 1 33) (QueryList 255)
    ∷ []

-- ---- opcodes and modes

-- the number by which a variant is refused as such (N1, N2), and 0 for an offered command
abbrev pub refusal_right : ℕ → Bool
refusal_right op =
    let expected : ℕ = cond (within 152 158 op) 2 (cond (within 128 151 op && not (eqb op 146)) 0 1) in
    eqb (refusal_of (command_of (op ∷ []))) expected

-- the opcodes of C128 to C151, in the order of the rows
abbrev pub row_opcodes : List ℕ
row_opcodes =
    128 ∷ 129 ∷ 130 ∷ 131 ∷ 132 ∷ 133 ∷ 136 ∷ 134 ∷ 135 ∷ 143 ∷ 137 ∷ 145 ∷ 138 ∷ 144 ∷ 139 ∷ 147 ∷ 151 ∷ 140 ∷ 141 ∷ 142 ∷ 149 ∷ 148 ∷ 150 ∷ []

abbrev in_safe_or_full : List ℕ
in_safe_or_full = 128 ∷ 129 ∷ (from_to 131 145 ++ from_to 147 151)

-- the opcodes of each mode: Off, Passive, Safe, Full
abbrev opcodes_in : List (List ℕ)
opcodes_in =
    (128 ∷ [])
    ∷ (from_to 128 132 ++ (134 ∷ 135 ∷ 136 ∷ 140 ∷ 142 ∷ 143 ∷ 148 ∷ 149 ∷ 150 ∷ []))
    ∷ in_safe_or_full
    ∷ in_safe_or_full
    ∷ []

abbrev pub mode_right : ℕ → ℕ → Bool
mode_right op mode = beq (allowed_of (command_of (op ∷ [])) mode) (among (get_or opcodes_in mode []) op)

-- ---- data

-- what a frame's data are, once it is read
abbrev pub data_legal : List ℕ → Bool
data_legal frame = legal_of (decode_of (padded 35 frame))

-- of a command with one data byte, the bytes that are legal
pub record ByteCase : Type 0 where
  pub opcode : ℕ
  pub legal : ℕ → Bool

-- those up to this one
abbrev legal_to : ℕ → ℕ → ByteCase
legal_to op n = record { opcode = op; legal = λ b. leb b n }

-- 255, which is -1, and 0 to 9
abbrev legal_demo : ByteCase
legal_demo = record { opcode = 136; legal = λ b. eqb b 255 || leb b 9 }

abbrev pub byte_cases : List ByteCase
byte_cases =
    legal_to 129 11 ∷ legal_demo ∷ legal_to 138 7 ∷ legal_to 147 7 ∷ legal_to 151 255 ∷ legal_to 141 15 ∷ legal_to 142 42 ∷ legal_to 150 1 ∷ []

abbrev pub byte_right : ByteCase → Bool
byte_right c = all_from (λ b. beq (data_legal (c.opcode ∷ b ∷ [])) (c.legal b)) 0 256

-- these frames have legal data, or none of them has
pub record DataCase : Type 0 where
  pub frames : List (List ℕ)
  pub legal : Bool

abbrev taken : List (List ℕ) → DataCase
taken fs = record { frames = fs; legal = true }

abbrev not_taken : List (List ℕ) → DataCase
not_taken fs = record { frames = fs; legal = false }

abbrev words : ℕ → ℤ → ℤ → List ℕ
words op v w = op ∷ (be16 v ++ be16 w)

abbrev speeds : List ℤ
speeds = minus 500 ∷ minus 499 ∷ minus 1 ∷ pos 0 ∷ pos 1 ∷ pos 499 ∷ pos 500 ∷ []

abbrev not_speeds : List ℤ
not_speeds = minus 32768 ∷ minus 32767 ∷ minus 501 ∷ pos 501 ∷ pos 32766 ∷ pos 32767 ∷ []

abbrev radii : List ℤ
radii = minus 32768 ∷ minus 2000 ∷ minus 1999 ∷ minus 2 ∷ minus 1 ∷ pos 1 ∷ pos 2 ∷ pos 1999 ∷ pos 2000 ∷ pos 32767 ∷ []

abbrev not_radii : List ℤ
not_radii = minus 32767 ∷ minus 2001 ∷ pos 0 ∷ pos 2001 ∷ pos 32766 ∷ []

-- a song of this number and length, and lists of these ids
abbrev song : ℕ → ℕ → List ℕ
song n notes = 140 ∷ n ∷ notes ∷ replicate (2 * notes) 255

abbrev list : ℕ → List ℕ → List ℕ
list op ids = op ∷ length ids ∷ ids

abbrev pub data_cases : List DataCase
data_cases =
    taken (map (λ v. words 137 v (pos 500)) speeds)
    ∷ not_taken (map (λ v. words 137 v (pos 500)) not_speeds)
    ∷ taken (map (words 137 (minus 200)) radii)
    ∷ not_taken (map (words 137 (minus 200)) not_radii)
    ∷ taken (map (λ v. words 145 v (pos 0)) speeds)
    ∷ not_taken (map (λ v. words 145 v (pos 0)) not_speeds)
    ∷ taken (map (words 145 (minus 500)) speeds)
    ∷ not_taken (map (words 145 (minus 500)) not_speeds)
    -- duties
    ∷ taken ((144 ∷ 0 ∷ 127 ∷ 128 ∷ []) ∷ (144 ∷ 128 ∷ 1 ∷ 127 ∷ []) ∷ (144 ∷ 127 ∷ 128 ∷ 0 ∷ []) ∷ (144 ∷ 1 ∷ 0 ∷ 1 ∷ []) ∷ [])
    ∷ not_taken ((144 ∷ 129 ∷ 0 ∷ 0 ∷ []) ∷ (144 ∷ 0 ∷ 129 ∷ 0 ∷ []) ∷ (144 ∷ 0 ∷ 0 ∷ 129 ∷ []) ∷ (144 ∷ 255 ∷ 255 ∷ 255 ∷ []) ∷ [])
    -- any three bytes
    ∷ taken ((139 ∷ 0 ∷ 0 ∷ 0 ∷ []) ∷ (139 ∷ 255 ∷ 255 ∷ 255 ∷ []) ∷ [])
    -- songs; W8
    ∷ taken (song 0 1 ∷ song 1 2 ∷ song 14 15 ∷ song 15 16 ∷ (140 ∷ 0 ∷ 1 ∷ 0 ∷ 0 ∷ []) ∷ [])
    ∷ not_taken (song 0 0 ∷ song 0 17 ∷ song 0 18 ∷ (140 ∷ 0 ∷ 255 ∷ []) ∷ song 16 1 ∷ song 17 16 ∷ (140 ∷ 255 ∷ 1 ∷ 0 ∷ 0 ∷ []) ∷ [])
    -- W12, and the ends of N; `query_legal` and `stream_legal_lem` tell of every list
    ∷ taken (list 149 [] ∷ list 149 (replicate 16 42) ∷ list 148 [] ∷ list 148 (replicate 4 6) ∷ list 148 (replicate 16 7) ∷ [])
    ∷ not_taken (list 149 (replicate 17 7) ∷ list 148 (replicate 5 6) ∷ list 148 (replicate 17 7) ∷ [])
    -- a count alone, past the legal ones
    ∷ not_taken ((148 ∷ 17 ∷ []) ∷ (148 ∷ 255 ∷ []) ∷ (149 ∷ 17 ∷ []) ∷ (149 ∷ 255 ∷ []) ∷ [])
    -- what is refused as such
    ∷ not_taken ((127 ∷ []) ∷ (146 ∷ []) ∷ (152 ∷ 0 ∷ []) ∷ (158 ∷ 0 ∷ []) ∷ (255 ∷ []) ∷ [])
    ∷ []

abbrev pub data_right : DataCase → Bool
data_right c = all (λ frame. beq (data_legal frame) c.legal) c.frames
