-- The five calls, and lists of them (docs/RULES.md A1, C1, S1 to S12, K1 to K4, N8, N9, U1 to U5,
-- D1 to D8).
-- Assumes nothing.
use Rattle.std.specs.Prelude.{Bool, not, cond, ◌&&◌, ◌||◌, List, [], ◌∷◌, ◌++◌, map, ℕ, ◌+◌, ◌*◌, ltb, eqb, ℤ, pos, nat_abs, ◌+ℤ◌, ◌-ℤ◌, length, take}
use Rattle.std.specs.Int.Signed.{lt_z}
use Rattle.wire.specs.Sixteen.{minus}
use Rattle.frame.specs.Push.{Pushed, push_of, empty_partial, opcodes}
use Rattle.packet.specs.Packets.{chunk_bytes}
use Rattle.command.specs.Layout.{decode_of}
use Rattle.state.specs.State.{off, passive, safe, is_yes, drive, direct, motors_off, with_partial, with_playing, to_passive}
use Rattle.state.specs.Accepted.{accepted_of}
use Rattle.state.specs.declared.Motors.{Motors}
use Rattle.state.specs.declared.Stream.{Stream}
use Rattle.state.specs.declared.State.{State}
use Rattle.board.specs.Outcome.{Outcome, gives, fitted, told_answer}
use Rattle.board.specs.Judge.{status_of, judge_of}
use Rattle.board.specs.declared.Ran.{Ran}

-- rule N8: a record that isn't accepted comes back as it was
abbrev pub checked : State → Outcome → Outcome
checked s o = cond (accepted_of s) o (gives 8 s)

-- ---- a byte

-- what a pushed byte does: it is taken and waits (N9), or its frame is read past and the command
-- judged (C1)
unfoldable pub fed_of : State → Pushed → List ℕ → ℕ → Outcome
fed_of s p image room =
    cond p.complete
    (judge_of (with_partial empty_partial s) (decode_of p.partial.bytes) image room)
    (gives 9 (with_partial p.partial s))

unfoldable pub byte_of : State → ℕ → List ℕ → ℕ → Outcome
byte_of s b image room = checked s (fed_of s (push_of s.partial b) image room)

-- ---- a safety report

-- rule S7: no wheel ahead, the two not alike, and 129 times the size of their sum below 165 times
-- the size of their difference
unfoldable pub backs_round : ℤ → ℤ → Bool
backs_round right left =
    not (lt_z (pos 0) right || lt_z (pos 0) left)
    && ((lt_z right left || lt_z left right) && ltb (129 * nat_abs (right +ℤ left)) (165 * nat_abs (right -ℤ left)))

-- the base moves into a cliff: rules S4 to S7, a line each
unfoldable pub into_cliff : Motors → Bool
into_cliff m =
    (eqb m.order drive && lt_z (pos 0) m.first)
    || ((eqb m.order drive && (lt_z m.first (pos 0) && (lt_z (minus 165) m.second && lt_z m.second (pos 165))))
    || ((eqb m.order direct && (lt_z (pos 0) m.first || lt_z (pos 0) m.second))
    || (eqb m.order direct && backs_round m.first m.second)))

-- rules S2 and S3, and a cliff that the base moves into
abbrev pub stops_for : Motors → Bool → Bool → Bool → Bool
stops_for m drop cliff charger = drop || (charger || (cliff && into_cliff m))

-- in Safe alone (S10); a half-read frame is not touched (S11)
abbrev pub after_report : State → Bool → Bool → Bool → State
after_report s drop cliff charger = cond (eqb s.mode safe && stops_for s.motors drop cliff charger) (to_passive s) s

unfoldable pub report_of : State → Bool → Bool → Bool → Outcome
report_of s drop cliff charger = checked s (gives 0 (after_report s drop cliff charger))

-- ---- a tick

-- there is a chunk to write
abbrev pub streams : Stream → Bool
streams x = is_yes x.on && not (eqb x.count 0)

-- the chunk for the list
unfoldable pub chunk_now : State → List ℕ → List ℕ
chunk_now s image = chunk_bytes (status_of s) image (take s.stream.count s.stream.ids)

-- rules K1 to K3: 3 in Off, 0 with nothing to write, 7 without room, else the chunk
unfoldable pub tick_of : State → List ℕ → ℕ → Outcome
tick_of s image room =
    checked s
    (cond (eqb s.mode off) (gives 3 s)
    (cond (not (streams s.stream)) (gives 0 s) (fitted (chunk_now s image) room s)))

-- ---- a song end

-- rule S12: playing is 0 then, and nothing else changes
unfoldable pub song_end_of : State → Outcome
song_end_of s = checked s (gives 0 (with_playing 0 s))

-- ---- a run

-- what a call does, and how many bytes it reads
pub record Performed : Type 0 where
  pub outcome : Outcome
  pub read : ℕ

abbrev pub performed : Outcome → ℕ → Performed
performed o n = record { outcome = o; read = n }

-- a byte is read but where the record is bad
abbrev pub read_by : Outcome → ℕ
read_by o = cond (eqb o.number 8) 0 1

abbrev pub reads : Outcome → Performed
reads o = performed o (read_by o)

abbrev pub reads_none : Outcome → Performed
reads_none o = performed o 0

-- after n bytes
abbrev pub later : ℕ → Performed → Performed
later n p = performed p.outcome (n + p.read)

-- rule U1: byte after byte, up to the first that does not wait
abbrev pub feed : State → List ℕ → List ℕ → ℕ → Performed
feed s [] image room = reads_none (gives 9 s)
feed s (b ∷ bs) image room =
    let o = byte_of s b image room in
    cond (eqb o.number 9) (later 1 (feed o.state bs image room)) (reads o)

-- rule U5: a bad record is told before a byte is looked at
unfoldable pub run_of : State → List ℕ → List ℕ → ℕ → Performed
run_of s bs image room = cond (accepted_of s) (feed s bs image room) (reads_none (gives 8 s))

-- what an answer tells, and how many bytes were read
pub record ToldRun : Type 0 where
  pub number : ℕ
  pub length : ℕ
  pub state : State
  pub read : ℕ

abbrev pub told_run : Ran → ToldRun
told_run r =
    let a = told_answer r.answer in
    record { number = a.number; length = a.length; state = a.state; read = r.read }

-- what comes back
unfoldable pub ran_as : Performed → ToldRun
ran_as p = record { number = p.outcome.number; length = length p.outcome.answer; state = p.outcome.state; read = p.read }

-- ---- lists of calls

-- a call with its arguments: image and buffer are those lent with it
pub data Call : Type 0 where
  byte : (b : ℕ) (image buffer : List ℕ) → Call
  run : (bs image buffer : List ℕ) → Call
  report : (drop cliff charger : Bool) → Call
  tick : (image buffer : List ℕ) → Call
  song_end : Call

-- what a call does, for any record and call
abbrev pub Board : Type 0
Board = State → Call → Performed

-- by the definitions that the contracts cite
abbrev pub perform : Board
perform s (byte b image buffer) = reads (byte_of s b image (length buffer))
perform s (run bs image buffer) = run_of s bs image (length buffer)
perform s (report drop cliff charger) = reads_none (report_of s drop cliff charger)
perform s (tick image buffer) = reads_none (tick_of s image (length buffer))
perform s song_end = reads_none (song_end_of s)

-- rule D1: the record goes from call to call
abbrev pub after_by : Board → State → List Call → State
after_by board s [] = s
after_by board s (c ∷ cs) = after_by board (board s c).outcome.state cs

abbrev pub after : State → List Call → State
after = after_by perform

-- the bytes that a call may read
abbrev pub bytes_of : Call → List ℕ
bytes_of (byte b image buffer) = b ∷ []
bytes_of (run bs image buffer) = bs
bytes_of (report drop cliff charger) = []
bytes_of (tick image buffer) = []
bytes_of song_end = []

-- the bytes that it reads (D2)
abbrev pub bytes_in : State → Call → List ℕ
bytes_in s c = take (perform s c).read (bytes_of c)

-- and those that a list of calls reads, in order
abbrev pub bytes_by : Board → State → List Call → List ℕ
bytes_by board s [] = []
bytes_by board s (c ∷ cs) = take (board s c).read (bytes_of c) ++ bytes_by board (board s c).outcome.state cs

abbrev pub bytes_read : State → List Call → List ℕ
bytes_read = bytes_by perform

-- ---- one by one

-- a byte that is read: the record then in force, and the image and room that come with its call
pub record Reading : Type 0 where
  pub state : State
  pub byte : ℕ
  pub image : List ℕ
  pub room : ℕ

abbrev pub reading : State → ℕ → List ℕ → ℕ → Reading
reading s b image room = record { state = s; byte = b; image = image; room = room }

-- what the byte does there
abbrev pub outcome_at : Reading → Outcome
outcome_at r = byte_of r.state r.byte r.image r.room

-- each byte of a slice that is read, at the record that the byte before it left
abbrev pub readings_of : State → List ℕ → List ℕ → ℕ → List Reading
readings_of s [] image room = []
readings_of s (b ∷ bs) image room =
    let o = byte_of s b image room in
    cond (eqb o.number 8) []
    (reading s b image room ∷ cond (eqb o.number 9) (readings_of o.state bs image room) [])

abbrev pub readings_in : State → Call → List Reading
readings_in s (byte b image buffer) = readings_of s (b ∷ []) image (length buffer)
readings_in s (run bs image buffer) = readings_of s bs image (length buffer)
readings_in s (report drop cliff charger) = []
readings_in s (tick image buffer) = []
readings_in s song_end = []

abbrev pub readings : State → List Call → List Reading
readings s [] = []
readings s (c ∷ cs) = readings_in s c ++ readings (perform s c).outcome.state cs

-- the number of each byte read
abbrev pub numbers : State → List Call → List ℕ
numbers s cs = map (λ r. (outcome_at r).number) (readings s cs)

-- whether each byte read is read as an opcode, by the cut alone
abbrev pub opcodes_read : State → List Call → List Bool
opcodes_read s cs = opcodes s.partial (bytes_read s cs)

-- ---- idle

-- Passive, nothing half read, all motors off (D8)
unfoldable pub idle : State → Bool
idle s = eqb s.mode passive && (eqb s.partial.count 0 && (eqb s.partial.remaining 0 && motors_off s.motors))
