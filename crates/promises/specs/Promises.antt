-- What is promised, on one page. Each field is a statement, and the value in proofs/ proves them
-- all. Follow a name to its crate's specs/ for what it says word by word; the calls' contracts in
-- src/ say that the code does what these speak of.
-- Assumes nothing.
use Rattle.std.specs.Prelude.{ℕ}
use Rattle.wire.specs.Signed.{RoundTripBits, BytesShown}
use Rattle.wire.specs.Sixteen.{RoundTrip16}
use Rattle.wire.specs.Replies.{RepliesRight}
use Rattle.frame.specs.Absorb.{TakenAtOnce}
use Rattle.frame.specs.Cut.{EveryPush, RemainingNeeded}
use Rattle.command.specs.Fields.{FieldsRight}
use Rattle.state.specs.Record.{RecordsInNumbers, AcceptedStays}
use Rattle.board.specs.Demand1.{Demand1}
use Rattle.board.specs.Demand2.{Demand2}
use Rattle.board.specs.Demand3.{Demand3}
use Rattle.recording.specs.Recordings.{RecordingsRight}
use Rattle.recording.specs.Playback.{ReplayRight}
use Rattle.recording.specs.Answered.{AnsweredRight}
use Rattle.recording.specs.ShownRecordings.{Shown}
use Rattle.drive.specs.Stage.{StageRight}
use Rattle.firmware.specs.Border.{BorderRight}
use Rattle.line.specs.Cases.{LinesInNumbers}

pub record Promises : Type 0 where
  -- ---- the three demands

  -- Whatever state record, bytes, report and buffer it is handed, the board answers. A refusal has
  -- one number, changes nothing but the frame that it reads past, and writes nothing; a good record
  -- stays good.
  pub demand_1 : Demand1
  -- How bytes are cut into commands, what each command and each other call does in each mode, which
  -- records are bad, sensor packets and stream chunks are those of docs/RULES.md; what our
  -- host-side writer writes is read as it was meant.
  pub demand_2 : Demand2
  -- When the driver is gone: after any calls that read at least 511 bytes, all 128, the base is in
  -- Passive with all motors off and no command half read, whatever good record it began with; and
  -- fewer bytes would not always do.
  pub demand_3 : Demand3
  -- ---- beside them: the wheels

  -- The speed that each wheel is given on a curve is the nearest whole number to the exact one,
  -- never above 500 mm/s either way, with a flag that tells when it was cut down to that. Straight
  -- on, on the spot and wheel by wheel are as ordered; where the motors are off, the wheels stand;
  -- an order that is not legal is refused.
  pub wheel_speeds : StageRight
  -- ---- beside them: recordings

  -- What the board was given can be kept as bytes. Reading what was written gives the same records
  -- back, and writing what was read the same bytes; where a recording ends, and why, is told.
  pub recordings : RecordingsRight
  -- Played back, a recording leaves what the same calls made live leave: also in parts, and the
  -- recording of any day from power-on ends where that day ended.
  pub played_back : ReplayRight
  -- Any bytes at all, taken for a recording, are answered, and a good state record stays good.
  pub any_recording : AnsweredRight
  -- Recordings written out in numbers, with what each ends in.
  pub shown_recordings : Shown
  -- ---- beside them: programs in C and Rust

  -- A host in C can say every command that can be written, in plain numbers, and of no other number
  -- in an opcode's place is anything written.
  pub flat_messages : FieldsRight
  -- Yes and no cross as numbers: handed in, 0 is no and any other number yes; handed out, 0 and 1.
  pub flags_as_numbers : BorderRight
  -- ---- what the demands rest on, below the board

  -- Once a command's length is known, the data bytes still to come are all needed, whatever they
  -- are: none of them is taken for a command.
  pub data_needed : RemainingNeeded
  -- What one byte can leave of any half-read command, also of one that no bytes could have left.
  pub one_byte : EveryPush
  -- Bytes of one command that come together leave what they would leave one by one, of every
  -- half-read command that bytes can have left.
  pub together : TakenAtOnce
  -- Every reason for which a state record is refused, in numbers, each beside a good neighbour.
  pub refused_records : RecordsInNumbers
  -- Whatever a command that is not refused sets in a good record, the record stays good.
  pub good_records : AcceptedStays
  -- An answer is written whole, from the start of the lent buffer, or not at all.
  pub answers_whole : RepliesRight
  -- Numbers with a sign, as two bytes and as one: what is written is read back, and what is read is
  -- written back.
  pub two_bytes : RoundTrip16
  pub signed_bits : (half : ℕ) → RoundTripBits half
  pub one_byte_shown : BytesShown
  -- ---- what the programs read

  -- Worked cases: words and numbers that a person types are found where they stand, and one that is
  -- too large is told.
  pub typed_lines : LinesInNumbers
