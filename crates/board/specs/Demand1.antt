-- Demand 1: any bytes, any report, any state record: the board answers, and a refusal has one
-- number, changes nothing but the frame it reads past, and writes nothing (docs/RULES.md A2, M19,
-- N8 to N15).
-- Assumes nothing.
use Rattle.std.specs.Prelude.{◌≡◌, Bool, false, List, [], ◌∷◌, ℕ, ◌≤◌, T, length, take, drop}
use Rattle.wire.specs.Lists.{from_to, among, all_bytes}
use Rattle.frame.specs.Push.{empty_partial, after_of}
use Rattle.state.specs.State.{with_partial}
use Rattle.state.specs.Accepted.{accepted_of}
use Rattle.state.specs.declared.State.{State}
use Rattle.board.specs.Outcome.{Outcome, gives, answered, written}
use Rattle.board.specs.Calls.{byte_of, report_of, tick_of, song_end_of, Performed, performed, run_of, ran_as, Call, byte, run, report, tick, song_end, perform, bytes_of, bytes_in}

-- the numbers that a call can give
abbrev pub numbers_of : Call → List ℕ
numbers_of (byte b image buffer) = from_to 0 9
numbers_of (run bs image buffer) = from_to 0 9
numbers_of (report drop cliff charger) = 0 ∷ 8 ∷ []
numbers_of (tick image buffer) = 0 ∷ 3 ∷ 7 ∷ 8 ∷ []
numbers_of song_end = 0 ∷ 8 ∷ []

-- the buffer that is lent with it
abbrev pub buffer_of : Call → List ℕ
buffer_of (byte b image buffer) = buffer
buffer_of (run bs image buffer) = buffer
buffer_of (report drop cliff charger) = []
buffer_of (tick image buffer) = buffer
buffer_of song_end = []

-- what numbers 1 to 7 leave: at a byte or a run the frame is read past, at a tick nothing changed
abbrev pub left_by : Call → State → State
left_by (byte b image buffer) s = with_partial empty_partial s
left_by (run bs image buffer) s = with_partial empty_partial s
left_by (report drop cliff charger) s = s
left_by (tick image buffer) s = s
left_by song_end s = s

abbrev pub outcome : State → Call → Outcome
outcome s c = (perform s c).outcome

-- what the calls' answers say of an outcome, and the run's of its count
pub record GivenBack : Type 0 where
  pub number_back : (o : Outcome) → (answered o).number ≡ o.number
  pub length_back : (o : Outcome) → (answered o).length ≡ length o.answer
  pub state_back : (o : Outcome) → (answered o).state ≡ o.state
  pub run_back : (p : Performed) → ((ran_as p).number ≡ p.outcome.number) × (((ran_as p).length ≡ length p.outcome.answer) × ((ran_as p).state ≡ p.outcome.state))
  pub count_back : (p : Performed) → (ran_as p).read ≡ p.read

-- a call of this record, as all three demands speak of it, is what its contract cites
pub record AsCited (s : State) : Type 0 where
  pub of_byte : (b : ℕ) (image buffer : List ℕ) → outcome s (byte b image buffer) ≡ byte_of s b image (length buffer)
  pub of_run : (bs image buffer : List ℕ) → perform s (run bs image buffer) ≡ run_of s bs image (length buffer)
  pub of_report : (dropped cliff charger : Bool) → outcome s (report dropped cliff charger) ≡ report_of s dropped cliff charger
  pub of_tick : (image buffer : List ℕ) → outcome s (tick image buffer) ≡ tick_of s image (length buffer)
  pub of_song_end : outcome s song_end ≡ song_end_of s

-- THEOREM: demand 1, for every record, every call and every buffer
pub record Demand1 : Type 0 where
  pub given_back : GivenBack
  pub as_cited : (s : State) → AsCited s
  pub numbers_given : (s : State) (c : Call) → T (among (numbers_of c) (outcome s c).number)
  -- 8 for a record that isn't accepted: record and buffer as they came, and no byte read
  pub bad_eight : (s : State) (c : Call) → accepted_of s ≡ false → perform s c ≡ performed (gives 8 s) 0
  -- and for no other
  pub eight_bad : (s : State) (c : Call) → T (accepted_of s) → T (all_bytes (bytes_of c)) → (outcome s c).number ≡ 8 → ⊥
  -- 1 to 9: length 0, and the buffer as it came
  pub length_zero : (s : State) (c : Call) → ((outcome s c).number ≡ 0 → ⊥) → (answered (outcome s c)).length ≡ 0
  pub buffer_kept : (s : State) (c : Call) → ((outcome s c).number ≡ 0 → ⊥) → written (outcome s c) (buffer_of c) ≡ buffer_of c
  -- 1 to 7: the frame is read past, and all else is as it was
  pub read_past : (s : State) (c : Call) → 1 ≤ (outcome s c).number → (outcome s c).number ≤ 7 → (outcome s c).state ≡ left_by c s
  -- 9: the bytes are taken, and all else is as it was
  pub bytes_taken : (s : State) (c : Call) → (outcome s c).number ≡ 9 → (outcome s c).state ≡ with_partial (after_of s.partial (bytes_in s c)) s
  pub all_read : (s : State) (c : Call) → (outcome s c).number ≡ 9 → (perform s c).read ≡ length (bytes_of c)
  -- 0: the answer is never above the room; as many bytes from the buffer's start are the answer,
  -- and no other changes
  pub room_enough : (s : State) (c : Call) → length (outcome s c).answer ≤ length (buffer_of c)
  pub answer_there : (s : State) (c : Call) → take (length (outcome s c).answer) (written (outcome s c) (buffer_of c)) ≡ (outcome s c).answer
  pub rest_kept : (s : State) (c : Call)
      → drop (length (outcome s c).answer) (written (outcome s c) (buffer_of c)) ≡ drop (length (outcome s c).answer) (buffer_of c)
  -- an accepted record stays accepted
  pub stays_accepted : (s : State) (c : Call) → T (accepted_of s) → T (all_bytes (bytes_of c)) → T (accepted_of (outcome s c).state)
