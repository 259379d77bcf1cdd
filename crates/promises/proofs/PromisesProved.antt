-- The promises hold.
-- Assumes nothing.
use Rattle.wire.proofs.SignedLaws.{round_trip_bits, bytes_shown}
use Rattle.wire.proofs.SixteenLaws.{round_trip16}
use Rattle.wire.proofs.RepliesLaws.{replies_right}
use Rattle.frame.proofs.AbsorbLaws.{taken_at_once}
use Rattle.frame.proofs.CutProved.{every_push, remaining_needed}
use Rattle.command.proofs.FieldsProved.{fields_right}
use Rattle.state.proofs.RecordProved.{records_in_numbers, accepted_stays}
use Rattle.board.proofs.Demand1Proved.{demand_1}
use Rattle.board.proofs.Demand2Proved.{demand_2}
use Rattle.board.proofs.Demand3Proved.{demand_3}
use Rattle.recording.proofs.RecordingsProved.{recordings_right}
use Rattle.recording.proofs.ReplayProved.{replay_right}
use Rattle.recording.proofs.AnsweredProved.{answered_right}
use Rattle.recording.proofs.ShownProved.{shown}
use Rattle.drive.proofs.StageProved.{stage_right}
use Rattle.firmware.proofs.BorderProved.{border_right}
use Rattle.line.proofs.LinesProved.{lines_in_numbers}
use Rattle.promises.specs.Promises.{Promises}

pub promises : Promises
promises =
    record {
      demand_1 = demand_1;
      demand_2 = demand_2;
      demand_3 = demand_3;
      wheel_speeds = stage_right;
      recordings = recordings_right;
      played_back = replay_right;
      any_recording = answered_right;
      shown_recordings = shown;
      flat_messages = fields_right;
      flags_as_numbers = border_right;
      data_needed = remaining_needed;
      one_byte = every_push;
      together = taken_at_once;
      refused_records = records_in_numbers;
      good_records = accepted_stays;
      answers_whole = replies_right;
      two_bytes = round_trip16;
      signed_bits = round_trip_bits;
      one_byte_shown = bytes_shown;
      typed_lines = lines_in_numbers;
    }
