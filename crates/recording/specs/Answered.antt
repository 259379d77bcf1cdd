-- Demand 1 of recordings (docs/RULES.md E18): any bytes, from any record and image, are answered.
-- Assumes nothing.
use Rattle.std.specs.Prelude.{◌≡◌, false, List, ℕ, ◌≤◌, T, length}
use Rattle.wire.specs.Lists.{all_bytes}
use Rattle.state.specs.Accepted.{accepted_of}
use Rattle.recording.specs.Recordings.{Found, ends, cut_short}
use Rattle.recording.specs.Playback.{done_by, replay_from}
use Rattle.recording.specs.declared.Stage.{Stage}

-- THEOREM: any bytes are answered
pub record AnsweredRight : Type 0 where
  -- a playback ends for one of the four reasons, inside the recording, and no record is without a
  -- byte
  pub reasons : (g : Stage) (l : List ℕ) → (replay_from g l).why ≤ cut_short
  pub inside : (g : Stage) (l : List ℕ) → (replay_from g l).at ≤ length l
  pub counted : (g : Stage) (l : List ℕ) → (replay_from g l).count ≤ (replay_from g l).at
  -- a record performed gives one of the ten numbers, and one that is not performed changes nothing
  pub numbers : (g : Stage) (x : Found) → (done_by g x).number ≤ 9
  pub not_performed : (g : Stage) (why : ℕ) → (done_by g (ends why)).stage ≡ g
  -- a good state record stays good; a bad one stays as it is, and the recording is read all the
  -- same
  pub stays_accepted : (g : Stage) (l : List ℕ) → T (accepted_of g.state) → T (all_bytes l) → T (accepted_of (replay_from g l).stage.state)
  pub bad_stays : (g : Stage) (l : List ℕ) → accepted_of g.state ≡ false → (replay_from g l).stage.state ≡ g.state
