-- Demand 2.
-- Assumes nothing.
use mathlib.Core.Path.{◌≡◌, refl}
use mathlib.Core.List.{flatten, flat_map}
use lib.Dec.{T, eqb, eqb→eq}
use mir.Facts.{and_yes}
use Rattle.wire.specs.Sixteen.{read16_of}
use Rattle.wire.proofs.ListsLaws.{same_list_lem}
use Rattle.frame.specs.FrameTable.{data_length}
use Rattle.frame.specs.Push.{body_size_as}
use Rattle.frame.specs.Reach.{reachable_of}
use Rattle.frame.proofs.CutProved.{cut_in_numbers, cut_by_table, stored_as_sent, complete_exactly, reachable_exact, run_table_right}
use Rattle.packet.specs.SizeTable.{size_of, start_of, group_of, packets_of}
use Rattle.packet.specs.Packets.{sensor_bytes, packet_in, data_in, items_in, answer_bytes, checksum_of, counted, chunk_of, chunk_bytes}
use Rattle.packet.specs.Answers.{listable_of, streamable_of}
use Rattle.packet.proofs.SensorsProved.{sizes_agree, lists_right, sensors_in_numbers, packets_right, answers_right, chunks_right}
use Rattle.command.specs.Layout.{command_of, decode_of}
use Rattle.command.specs.CommandTable.{is_in, is_legal, row_of, allowed_of, legal_of}
use Rattle.command.proofs.CommandsProved.{commands_in_numbers, mode_column, data_column, decoding_right, writing_right, round_trip}
use Rattle.state.specs.State.{motors_off}
use Rattle.state.specs.Accepted.{mode_named, order_named, off_unless_driven, wheels_legal, duties_legal, outputs_legal, baud_legal, selected_legal, stream_legal, length_legal, playing_set, notes_zero, ids_zero, motors_typed, kept_typed, song_typed, songs_typed, stream_typed, typed, accepted_of}
use Rattle.state.proofs.RecordProved.{setters_right, power_on_right, stop_right, accepted_exactly}
use Rattle.state.specs.Same.{same_state}
use Rattle.state.proofs.SameLaws.{same_exactly}
use Rattle.board.specs.Outcome.{Outcome, same_outcome}
use Rattle.board.specs.Judge.{status_of, judge_of}
use Rattle.board.specs.Calls.{fed_of, byte_of, chunk_now, tick_of, run_of}
use Rattle.board.specs.Demand2.{Demand2}
use Rattle.board.proofs.RulesProved.{rules_right}
use Rattle.board.proofs.SentLaws.{read_back}

outcomes_same : (a b : Outcome) → T (same_outcome a b) → a ≡ b
outcomes_same a b t =
    let x = and_yes (eqb a.number b.number) _ t in
    let y = and_yes (same_state a.state b.state) _ x.1 in
    rw (
      eqb→eq a.number b.number x.0,
      same_exactly.same_equal a.state b.state y.0,
      same_list_lem a.answer b.answer y.1,
    )

-- the tables of cases are computed: each `tt` and each `refl`
pub demand_2 : Demand2
unfolding flat_map flatten read16_of data_length body_size_as reachable_of size_of start_of group_of packets_of sensor_bytes packet_in data_in items_in answer_bytes checksum_of counted chunk_of chunk_bytes listable_of streamable_of command_of decode_of is_in is_legal row_of allowed_of legal_of motors_off mode_named order_named off_unless_driven wheels_legal duties_legal outputs_legal baud_legal selected_legal stream_legal length_legal playing_set notes_zero ids_zero motors_typed kept_typed song_typed songs_typed stream_typed typed accepted_of status_of judge_of fed_of byte_of chunk_now tick_of run_of
demand_2 =
    record {
      frame_table = cut_by_table;
      frame_cases = cut_in_numbers;
      stored_as_sent = stored_as_sent;
      complete_exactly = complete_exactly;
      held_exactly = reachable_exact;
      run_table = run_table_right;
      command_table = commands_in_numbers;
      modes = mode_column;
      legal_data = data_column;
      decoding = decoding_right;
      writing = writing_right;
      effect_rows = refl;
      effects = tt;
      power_on_lem = power_on_right;
      stops = stop_right;
      setters = setters_right;
      bad_records = accepted_exactly;
      packet_sizes = sizes_agree;
      packet_cases = sensors_in_numbers;
      lists = lists_right;
      packets = packets_right;
      answers = answers_right;
      chunks = chunks_right;
      rules = rules_right;
      shown = tt;
      rejected = tt;
      named_cases = tt;
      records_same = same_exactly;
      outcomes_same = outcomes_same;
      write_then_read = read_back;
      read_then_write = round_trip;
    }
