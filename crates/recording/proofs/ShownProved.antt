-- The recordings written out come out so.
-- Assumes nothing.
use mathlib.Core.Path.{refl}
use mathlib.Core.List.{flatten, flat_map}
use Rattle.wire.specs.Sixteen.{read16_of}
use Rattle.frame.specs.FrameTable.{data_length}
use Rattle.frame.specs.Push.{body_size_as}
use Rattle.frame.specs.Reach.{reachable_of}
use Rattle.packet.specs.SizeTable.{size_of, start_of, group_of, packets_of}
use Rattle.packet.specs.Packets.{sensor_bytes, packet_in, data_in, items_in, answer_bytes, checksum_of, counted, chunk_of, chunk_bytes}
use Rattle.packet.specs.Answers.{listable_of, streamable_of}
use Rattle.command.specs.Layout.{command_of, decode_of}
use Rattle.command.specs.CommandTable.{is_in, is_legal, row_of, allowed_of, legal_of}
use Rattle.state.specs.State.{motors_off}
use Rattle.state.specs.Accepted.{mode_named, order_named, off_unless_driven, wheels_legal, duties_legal, outputs_legal, baud_legal, selected_legal, stream_legal, length_legal, playing_set, notes_zero, ids_zero, motors_typed, kept_typed, song_typed, songs_typed, stream_typed, typed, accepted_of}
use Rattle.board.specs.Judge.{status_of, judge_of}
use Rattle.board.specs.Calls.{fed_of, byte_of, backs_round, into_cliff, report_of, chunk_now, tick_of, song_end_of, run_of}
use Rattle.recording.specs.Recordings.{found, parse_up_to, parse}
use Rattle.recording.specs.Playback.{stage_after, replay_from, replay_of, done_by, step_of}
use Rattle.recording.specs.ShownRecordings.{Shown}
use Rattle.state.specs.State.{power_on}

pub shown : Shown
unfolding flat_map flatten read16_of data_length body_size_as reachable_of size_of start_of group_of packets_of sensor_bytes packet_in data_in items_in answer_bytes checksum_of counted chunk_of chunk_bytes listable_of streamable_of command_of decode_of is_in is_legal row_of allowed_of legal_of motors_off mode_named order_named off_unless_driven wheels_legal duties_legal outputs_legal baud_legal selected_legal stream_legal length_legal playing_set notes_zero ids_zero motors_typed kept_typed song_typed songs_typed stream_typed typed accepted_of status_of judge_of fed_of byte_of backs_round into_cliff report_of chunk_now tick_of song_end_of run_of found parse_up_to parse stage_after replay_from replay_of done_by step_of power_on
shown = record {
  recordings_shown = tt;
  steps_shown = tt;
  byte_shown = λ image buffer. refl;
  drop_shown = refl;
  cliff_shown = refl;
  charger_shown = refl;
  tick_shown = λ image buffer. refl;
  longest_shown = refl;
  told_shown = tt;
  illegal_shown = tt;
}
