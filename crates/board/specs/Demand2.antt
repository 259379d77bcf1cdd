-- Demand 2: the definitions are the rules of docs/RULES.md, table by table, its shown cases come
-- out as written, and what our writer writes is read as it was meant. The reader begins here: each
-- field is one part of it.
-- Assumes nothing.
use Rattle.std.specs.Prelude.{◌≡◌, true, not, ℕ, T, length, replicate}
use mathlib.Core.List.{List, map, flat_map}
use Rattle.wire.specs.Lists.{all, snoc, byte_array}
use Rattle.frame.specs.Push.{empty_partial}
use Rattle.frame.specs.Cut.{CutInNumbers, CutByTable, StoredAsSent, CompleteExactly, ReachableExact, RunTableRight}
use Rattle.packet.specs.Sensors.{SizesAgree, ListsRight, SensorsInNumbers, PacketsRight, AnswersRight, ChunksRight}
use Rattle.command.specs.Layout.{encode_of}
use Rattle.command.specs.CommandTable.{legal_of}
use Rattle.command.specs.Cases.{row_opcodes}
use Rattle.command.specs.Commands.{CommandsInNumbers, ModeColumn, DataColumn, DecodingRight, WritingRight, read_as, RoundTrip}
use Rattle.command.specs.declared.Message.{Message}
use Rattle.state.specs.Accepted.{accepted_of}
use Rattle.state.specs.Record.{PowerOnRight, StopRight, SettersRight, AcceptedExactly}
use Rattle.state.specs.Same.{SameExactly}
use Rattle.state.specs.declared.State.{State}
use Rattle.board.specs.Outcome.{Outcome, same_outcome}
use Rattle.board.specs.Judge.{judge_of}
use Rattle.board.specs.Calls.{byte_of, performed, run_of, Call, byte, perform, after, numbers}
use Rattle.board.specs.Rules.{RulesRight}
use Rattle.board.specs.EffectTable.{effect_table, row_right}
use Rattle.board.specs.Shown.{shown_cases, board_passes, rejections, rejects}

-- a call for each byte, with the same image and buffer
abbrev pub one_by_one : List ℕ → List ℕ → List ℕ → List Call
one_by_one bs image buffer = map (λ b. byte b image buffer) bs

-- what holds of a message that our writer writes, sent to a record that holds nothing
pub record ReadBack (m : Message) (s : State) : Type 0 where
  -- each byte before the last waits
  pub waits : (bs : List ℕ) (b : ℕ) → encode_of m ≡ snoc bs b
      → (image buffer : List ℕ) → numbers s (one_by_one bs image buffer) ≡ replicate (length bs) 9
  -- the last is judged as the message, with whatever image and room it comes
  pub judged : (bs : List ℕ) (b : ℕ) → encode_of m ≡ snoc bs b
      → (image buffer now : List ℕ) (room : ℕ) → byte_of (after s (one_by_one bs image buffer)) b now room ≡ judge_of s (read_as m) now room
  -- and so it is in one run, which reads the frame
  pub in_a_run : (image : List ℕ) (room : ℕ)
      → run_of s (encode_of m) image room ≡ performed (judge_of s (read_as m) image room) (length (encode_of m))

-- THEOREM: demand 2, for every record and every value
pub record Demand2 : Type 0 where
  -- the cut: the frame table, what is held between two bytes, and the run table
  pub frame_table : CutByTable
  pub frame_cases : CutInNumbers
  pub stored_as_sent : StoredAsSent
  pub complete_exactly : CompleteExactly
  pub held_exactly : ReachableExact
  pub run_table : RunTableRight
  -- the command table: its rows over all opcodes, modes and bytes, and its columns
  pub command_table : CommandsInNumbers
  pub modes : ModeColumn
  pub legal_data : DataColumn
  pub decoding : DecodingRight
  pub writing : WritingRight
  -- the column of effects, row by row
  pub effect_rows : flat_map (λ r. map (λ e. e.opcode) r.entries) effect_table ≡ row_opcodes
  pub effects : T (all row_right effect_table)
  -- the record: power-on, stop, each part that is set, and which records are bad
  pub power_on_lem : PowerOnRight
  pub stops : StopRight
  pub setters : SettersRight
  pub bad_records : AcceptedExactly
  -- packets, their answers and chunks
  pub packet_sizes : SizesAgree
  pub packet_cases : SensorsInNumbers
  pub lists : ListsRight
  pub packets : PacketsRight
  pub answers : AnswersRight
  pub chunks : ChunksRight
  -- what each call does, and its numbers
  pub rules : RulesRight
  -- the shown cases, as one table
  pub shown : T (board_passes perform shown_cases)
  -- which rejects each wrong board, and by the case that is named for it
  pub rejected : T (all (λ r. not (board_passes r.board shown_cases)) rejections)
  pub named_cases : T (all rejects rejections)
  -- in both tables what is compared is equal
  pub records_same : SameExactly
  pub outcomes_same : (a b : Outcome) → T (same_outcome a b) → a ≡ b
  -- what our writer writes is read back, whatever stands in the places that are not in use
  pub write_then_read : (m : Message) → legal_of m ≡ true → T (byte_array 32 m.payload)
      → (s : State) → T (accepted_of s) → s.partial ≡ empty_partial → ReadBack m s
  -- what is read is written back
  pub read_then_write : RoundTrip
