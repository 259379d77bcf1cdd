-- Recordings written out, with what replaying each ends in: records performed, place and reason,
-- the mode, and the last image; single records with what each gives; and what is recorded of calls.
-- What they expect cites no rule.
-- Assumes nothing.
use Rattle.std.specs.Prelude.{◌≡◌, Bool, true, false, not, ◌&&◌, List, [], ◌∷◌, ◌++◌, map, ℕ, ◌+◌, T, eqb, replicate}
use Rattle.wire.specs.Lists.{all, span, same_list}
use Rattle.state.specs.State.{power_on}
use Rattle.board.specs.Calls.{Call, byte, run, report, tick, song_end}
use Rattle.recording.specs.Recordings.{Entry, serial, safety, ticked, sensed, print, legal_entry, found}
use Rattle.recording.specs.Playback.{Seen, Serial, Report, Tick, SongEnd, Image, Ends, call_of, at_power_on, replay_of, step_of, recorded}

pub record Case : Type 0 where
  pub bytes : List ℕ
  pub count : ℕ
  pub at : ℕ
  pub why : ℕ
  pub mode : ℕ
  pub image : List ℕ

abbrev shows_image : List ℕ → ℕ → ℕ → ℕ → ℕ → List ℕ → Case
shows_image bytes count at why mode image = record { bytes = bytes; count = count; at = at; why = why; mode = mode; image = image }

abbrev zeros : List ℕ
zeros = replicate 40 0

-- with no image in it
abbrev shows : List ℕ → ℕ → ℕ → ℕ → ℕ → Case
shows bytes count at why mode = shows_image bytes count at why mode zeros

abbrev shown_cases : List Case
shown_cases =
    -- nothing
    shows [] 0 0 0 0
    -- Start: Passive
    ∷ shows (1 ∷ 128 ∷ []) 1 2 0 1
    -- Start, Control: Safe; then a wheel drop, a cliff with the motors off, the charger, none
    ∷ shows (1 ∷ 128 ∷ 1 ∷ 130 ∷ []) 2 4 0 2
    ∷ shows (1 ∷ 128 ∷ 1 ∷ 130 ∷ 2 ∷ 1 ∷ []) 3 6 0 1
    ∷ shows (1 ∷ 128 ∷ 1 ∷ 130 ∷ 2 ∷ 2 ∷ []) 3 6 0 2
    ∷ shows (1 ∷ 128 ∷ 1 ∷ 130 ∷ 2 ∷ 4 ∷ []) 3 6 0 1
    ∷ shows (1 ∷ 128 ∷ 1 ∷ 130 ∷ 2 ∷ 0 ∷ []) 3 6 0 2
    -- Start, Control, a Drive ahead and a cliff: Passive
    ∷ shows (1 ∷ 128 ∷ 1 ∷ 130 ∷ 1 ∷ 137 ∷ 1 ∷ 0 ∷ 1 ∷ 100 ∷ 1 ∷ 128 ∷ 1 ∷ 0 ∷ 2 ∷ 2 ∷ []) 8 16 0 1
    -- a call that is refused is performed and counted: Safe and a tick in Off
    ∷ shows (1 ∷ 131 ∷ 3 ∷ 1 ∷ 128 ∷ []) 3 5 0 1
    -- ticks, song ends and images are counted; the last image stays
    ∷ shows (3 ∷ 4 ∷ 4 ∷ 3 ∷ []) 4 4 0 0
    ∷ shows_image (5 ∷ span 1 40 ++ (3 ∷ 4 ∷ 2 ∷ 0 ∷ 1 ∷ 128 ∷ [])) 5 47 0 1 (span 1 40)
    ∷ shows_image (5 ∷ zeros ++ (5 ∷ span 101 40)) 2 82 0 0 (span 101 40)
    -- an unknown kind; flags above 7; a record cut short: named where it begins, and not performed
    ∷ shows (0 ∷ 1 ∷ 128 ∷ []) 0 0 1 0
    ∷ shows (1 ∷ 128 ∷ 6 ∷ 1 ∷ 130 ∷ []) 1 2 1 1
    ∷ shows (1 ∷ 128 ∷ 255 ∷ []) 1 2 1 1
    ∷ shows (1 ∷ 128 ∷ 1 ∷ 130 ∷ 2 ∷ 7 ∷ []) 3 6 0 1
    ∷ shows (1 ∷ 128 ∷ 1 ∷ 130 ∷ 2 ∷ 8 ∷ 1 ∷ 128 ∷ []) 2 4 2 2
    ∷ shows (1 ∷ 128 ∷ 1 ∷ 130 ∷ 2 ∷ 255 ∷ []) 2 4 2 2
    ∷ shows (1 ∷ 128 ∷ 1 ∷ []) 1 2 3 1
    ∷ shows (2 ∷ []) 0 0 3 0
    ∷ shows (1 ∷ 128 ∷ 5 ∷ span 1 39) 1 2 3 1
    ∷ shows (5 ∷ []) 0 0 3 0
    ∷ []

abbrev holds : Case → Bool
holds c =
    let p = replay_of c.bytes in
    eqb p.count c.count
    && (eqb p.at c.at
    && (eqb p.why c.why && (eqb p.stage.state.mode c.mode && same_list p.stage.image c.image)))

-- ---- one record, performed at power-on

-- what is told, as a number: a byte's from 1000 on, flags' from 2000 on, and why it ends
abbrev code_of : Seen → ℕ
code_of (Serial b) = 1000 + b
code_of (Report flags) = 2000 + flags
code_of Tick = 3000
code_of SongEnd = 4000
code_of Image = 5000
code_of (Ends why) = why

-- its bytes; then what is told, the bytes that it has, the number that came back, and the mode
-- after it
pub record StepCase : Type 0 where
  pub bytes : List ℕ
  pub code : ℕ
  pub size : ℕ
  pub number : ℕ
  pub mode : ℕ

abbrev steps : List ℕ → ℕ → ℕ → ℕ → ℕ → StepCase
steps bytes code size number mode = record { bytes = bytes; code = code; size = size; number = number; mode = mode }

abbrev step_cases : List StepCase
step_cases =
    -- Start; Safe in Off; an opcode that is unknown; a Drive's opcode
    steps (1 ∷ 128 ∷ []) 1128 2 0 1
    ∷ steps (1 ∷ 131 ∷ []) 1131 2 3 0
    ∷ steps (1 ∷ 127 ∷ []) 1127 2 1 0
    ∷ steps (1 ∷ 137 ∷ 1 ∷ 0 ∷ []) 1137 2 9 0
    -- a report; a tick in Off; a song end; an image
    ∷ steps (2 ∷ 7 ∷ []) 2007 2 0 0
    ∷ steps (3 ∷ 1 ∷ []) 3000 1 3 0
    ∷ steps (4 ∷ []) 4000 1 0 0
    ∷ steps (5 ∷ replicate 40 9) 5000 41 0 0
    -- nothing; an unknown kind; flags of 8; a record cut short
    ∷ steps [] 0 0 0 0
    ∷ steps (9 ∷ 1 ∷ 128 ∷ []) 1 0 0 0
    ∷ steps (2 ∷ 8 ∷ []) 2 0 0 0
    ∷ steps (1 ∷ []) 3 0 0 0
    ∷ []

abbrev step_holds : StepCase → Bool
step_holds c =
    let p = step_of at_power_on (found c.bytes) in
    eqb (code_of p.what) c.code
    && (eqb p.size c.size && (eqb p.number c.number && eqb p.stage.state.mode c.mode))

-- ---- calls made live, as they are recorded

abbrev ones : List ℕ
ones = replicate 40 255

-- a call of each kind, lent nothing
abbrev one_of_each : List Call
one_of_each = byte 255 ones [] ∷ run (128 ∷ 131 ∷ []) ones [] ∷ report true false true ∷ tick zeros [] ∷ song_end ∷ tick zeros [] ∷ []

-- the run reads its first byte alone, which ends a frame; an image is told where it is another
abbrev one_of_each_told : List ℕ
one_of_each_told = 5 ∷ ones ++ (1 ∷ 255 ∷ 1 ∷ 128 ∷ 2 ∷ 5 ∷ 5 ∷ zeros ++ (3 ∷ 4 ∷ 3 ∷ []))

-- beyond a byte, beyond the flags, an image of another length or of more than bytes
abbrev illegal_entries : List Entry
illegal_entries =
    serial 256 ∷ safety 8 ∷ sensed (replicate 39 0) ∷ sensed (replicate 41 0) ∷ sensed (replicate 40 256) ∷ []

-- THEOREM: they come out so
pub record Shown : Type 0 where
  pub recordings_shown : T (all holds shown_cases)
  pub steps_shown : T (all step_holds step_cases)
  -- the call that each entry stands for
  pub byte_shown : (image buffer : List ℕ) → call_of buffer image (serial 7) ≡ byte 7 image buffer ∷ []
  pub drop_shown : call_of [] [] (safety 1) ≡ report true false false ∷ []
  pub cliff_shown : call_of [] [] (safety 2) ≡ report false true false ∷ []
  pub charger_shown : call_of [] [] (safety 4) ≡ report false false true ∷ []
  pub tick_shown : (image buffer : List ℕ) → call_of buffer image ticked ≡ tick image buffer ∷ []
  -- a list of sixteen times packet 6 has room for its answer, the longest
  pub longest_shown : (step_of (replay_of (print (map serial (128 ∷ 149 ∷ 16 ∷ replicate 15 6)))).stage (found (1 ∷ 6 ∷ []))).number ≡ 0
  -- what is recorded of calls, and which entries are illegal
  pub told_shown : T (same_list (print (recorded zeros power_on one_of_each)) one_of_each_told)
  pub illegal_shown : T (all (λ e. not (legal_entry e)) illegal_entries)
