-- Demand 3: after any list of calls that reads at least 511 bytes, all 128, from any accepted
-- record, the board is idle; and 511 is the least (docs/RULES.md D1 to D10).
-- Assumes nothing.
use Rattle.std.specs.Prelude.{◌≡◌, false, List, [], ◌∷◌, ◌++◌, map, ℕ, suc, ◌≤◌, ◌<◌, T, leb, eqb, length, get_or, replicate}
use Rattle.wire.specs.Lists.{all, up_to_true, all_bytes}
use Rattle.frame.specs.Push.{push_of, empty_partial, after_of, completed}
use Rattle.frame.specs.RunTable.{until_opcode}
use Rattle.frame.specs.Cut.{long_song}
use Rattle.command.specs.Layout.{decode_of}
use Rattle.state.specs.State.{power_on, with_partial}
use Rattle.state.specs.Cases.{moving}
use Rattle.state.specs.Accepted.{accepted_of}
use Rattle.state.specs.declared.State.{State}
use Rattle.board.specs.Judge.{judge_of}
use Rattle.board.specs.Calls.{Call, byte, run, Board, perform, after_by, after, bytes_in, bytes_by, bytes_read, Reading, reading, outcome_at, readings_in, readings, numbers, opcodes_read, idle}
use Rattle.board.specs.Shown.{does_nothing, first_byte_only}

-- the last number of a list, and 9 for none
abbrev pub last_number : List ℕ → ℕ
last_number [] = 9
last_number (n ∷ []) = n
last_number (n ∷ (m ∷ ns)) = last_number (m ∷ ns)

-- THEOREM: the bytes read one by one, which is how their numbers are defined, are those that the
-- calls count
pub record CountsAgree : Type 0 where
  pub same_bytes : (s : State) (c : Call) → map (λ r. r.byte) (readings_in s c) ≡ bytes_in s c
  pub same_count : (s : State) (c : Call) → length (readings_in s c) ≡ (perform s c).read
  pub all_bytes_lem : (s : State) (cs : List Call) → map (λ r. r.byte) (readings s cs) ≡ bytes_read s cs
  -- a byte that is read has the number that its call gives
  pub byte_number : (s : State) (b : ℕ) (image buffer : List ℕ) → T (accepted_of s)
      → map (λ r. (outcome_at r).number) (readings_in s (byte b image buffer)) ≡ (perform s (byte b image buffer)).outcome.number ∷ []
  -- a run counts the bytes up to the first that ends a frame, by the cut alone; all of them, where
  -- none does
  pub run_count : (s : State) (bs image buffer : List ℕ) → T (accepted_of s) → T (all_bytes bs)
      → (perform s (run bs image buffer)).read ≡ up_to_true (completed s.partial bs)
  -- it reports the number of its last byte, and 9 where it has read none
  pub run_number : (s : State) (bs image buffer : List ℕ) → T (accepted_of s) → T (all_bytes bs)
      → (perform s (run bs image buffer)).outcome.number ≡ last_number (map (λ r. (outcome_at r).number) (readings_in s (run bs image buffer)))

-- what stands past the end of a list of readings
abbrev pub no_reading : Reading
no_reading = reading power_on 0 [] 0

-- the number of the command that byte k ends, at the record then in force: its frame is the held
-- one, with the 128s up to that one
abbrev pub ends_held : State → List Call → ℕ → ℕ
ends_held s cs k =
    let r = get_or (readings s cs) k no_reading in
    (judge_of (with_partial empty_partial r.state) (decode_of (push_of (after_of s.partial (replicate k 128)) 128).partial.bytes) r.image r.room).number

-- what holds of a list of calls from s that reads nothing but 128s. Bytes are counted from 0, so
-- that the named one is byte `until_opcode`.
pub record RunOf128s (s : State) (cs : List Call) : Type 0 where
  -- rules R1 to R6: the named byte is an opcode, and all later ones are, and none before it
  pub opcode_at : (k : ℕ) → k < length (bytes_read s cs) → get_or (opcodes_read s cs) k false ≡ leb (until_opcode s.partial) k
  -- rule D5: those before it wait, but for the last
  pub before_nine : (k : ℕ) → suc k < until_opcode s.partial → k < length (bytes_read s cs) → get_or (numbers s cs) k 0 ≡ 9
  -- rule D6: that one gives the number of the command that it ends
  pub last_ends : (k : ℕ) → suc k ≡ until_opcode s.partial → k < length (bytes_read s cs) → get_or (numbers s cs) k 0 ≡ ends_held s cs k
  -- rule D7: it and all later ones give 0
  pub then_zero : (k : ℕ) → until_opcode s.partial ≤ k → k < length (bytes_read s cs) → get_or (numbers s cs) k 9 ≡ 0
  -- rule D8: the board is idle from it on, after every call
  pub idle_after : (done rest : List Call) → cs ≡ done ++ rest → until_opcode s.partial < length (bytes_read s done) → T (idle (after s done))

-- each byte that is read is 128; those that a run does not come to may be any (D2)
abbrev pub All128 : List ℕ → Type 0
All128 bs = T (all (λ b. eqb b 128) bs)

-- of a board: from every accepted record, every list of calls by which it reads 128s alone, and at
-- least 511 of them, ends idle
abbrev pub EndsIdle : Board → Type 0
EndsIdle board =
    (s : State) → T (accepted_of s) → (cs : List Call) → All128 (bytes_by board s cs)
    → 511 ≤ length (bytes_by board s cs) → T (idle (after_by board s cs))

-- moving in Full, with 510 bytes remaining
abbrev pub longest : State
longest = with_partial (long_song 0 510) moving

-- what idle means
pub record IdleFacts (s : State) : Type 0 where
  pub in_passive : s.mode ≡ 1
  pub none_held : s.partial.count ≡ 0
  pub none_remaining : s.partial.remaining ≡ 0
  pub no_order : s.motors.order ≡ 0
  pub no_duty : (i : ℕ) → get_or s.motors.duties i 0 ≡ 0

-- n calls of a byte 128
abbrev pub calls128 : ℕ → List ℕ → List ℕ → List Call
calls128 n image buffer = replicate n (byte 128 image buffer)

-- an accepted record from which the list reads at least 511 bytes
pub record NeedsAll (cs : List Call) : Type 0 where
  pub from : State
  pub accepted : T (accepted_of from)
  pub reads : 511 ≤ length (bytes_read from cs)

-- THEOREM: demand 3
pub record Demand3 : Type 0 where
  pub idle_facts : (s : State) → T (idle s) → IdleFacts s
  pub counts_agree : CountsAgree
  -- rules F2, D3 and D4: bytes of any values are cut as `next_of` does, whatever the mode and the
  -- refusals, and calls that read no byte leave the held frame alone
  pub cut : (s : State) (cs : List Call) → (after s cs).partial ≡ after_of s.partial (bytes_read s cs)
  -- rule D9; and a board that does nothing, or whose run feeds its first byte alone, does not pass
  pub ends_idle : EndsIdle perform
  pub does_nothing_not : EndsIdle does_nothing → ⊥
  pub first_byte_not : EndsIdle first_byte_only → ⊥
  -- byte by byte
  pub run_of_128s : (s : State) → T (accepted_of s) → (cs : List Call) → All128 (bytes_read s cs) → RunOf128s s cs
  -- rule D10: of every record in Full with 510 bytes remaining, bad ones too, and bytes of any
  -- values
  pub least : (s : State) → s.mode ≡ 3 → s.partial.remaining ≡ 510 → (cs : List Call) → T (idle (after s cs)) → 511 ≤ length (bytes_read s cs)
  -- such a record is accepted; from it 511 bytes 128 end idle, and 510 do not
  pub longest_accepted : T (accepted_of longest)
  pub longest_mode : longest.mode ≡ 3
  pub longest_remaining : longest.partial.remaining ≡ 510
  pub with_511 : (image buffer : List ℕ) → T (idle (after longest (calls128 511 image buffer)))
  pub not_with_510 : (image buffer : List ℕ) → idle (after longest (calls128 510 image buffer)) ≡ false
  -- so no list with fewer ends idle from every accepted record
  pub none_less : (cs : List Call) → ((s : State) → T (accepted_of s) → T (idle (after s cs))) → NeedsAll cs
