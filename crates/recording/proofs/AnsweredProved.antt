-- Any bytes are answered.
-- Assumes nothing.
use mathlib.Core.Path.{◌≡◌, refl, ap, ◌∙◌}
use mathlib.Core.Bool.{Bool, true, false, ◌&&◌}
use mathlib.Core.List.{List, [], ◌∷◌}
use Prim.Native.Nat.{ℕ, ◌≤◌, zero-le}
use native.Mathlib.Omega.{arith}
use lib.Dec.{T, leb}
use lib.ListN.{length}
use mir.Facts.{and_yes, yes_and}
use Rattle.wire.specs.Lists.{all, is_byte, all_bytes}
use Rattle.wire.proofs.ListsLaws.{among_le}
use Rattle.state.specs.Accepted.{accepted_of}
use Rattle.state.specs.declared.State.{State}
use Rattle.board.specs.Calls.{Call, byte, run, report, tick, song_end, Performed, perform, after, bytes_of}
use Rattle.board.specs.Demand1.{numbers_of}
use Rattle.board.proofs.Demand1Proved.{demand_1}
use Rattle.recording.specs.Recordings.{Entry, serial, safety, ticked, song_ended, sensed, legal_entry, Found, entry, ends, parse}
use Rattle.recording.specs.Playback.{buffer832, call_of, calls_of, first_number, stage_after, done_by, replay_from}
use Rattle.recording.specs.Answered.{AnsweredRight}
use Rattle.recording.specs.declared.Stage.{Stage}
use Rattle.recording.proofs.FoundLaws.{end_named}
use Rattle.recording.proofs.ParseLaws.{parse_is}
use Rattle.recording.proofs.RecordingsProved.{recordings_right}

-- ---- where it ends

reasons : (l : List ℕ) → (parse l).why ≤ 3
reasons l = end_named _ (parse l).why (recordings_right.ends_there l)

counted : (l : List ℕ) → length (parse l).entries ≤ (parse l).at
counted = parse_is (λ l p. length p.entries ≤ p.at) (λ l why q. zero-le) (λ e rest p s i. omega arith)

-- ---- the numbers

call_number : (s : State) (c : Call) → (perform s c).outcome.number ≤ 9
call_number s c = among_le (numbers_of c) 9 _ (few c) (demand_1.numbers_given s c)
  where
    few : (c : Call) → T (all (λ x. leb x 9) (numbers_of c))
    few (byte b image buffer) = tt
    few (run bs image buffer) = tt
    few (report drop cliff charger) = tt
    few (tick image buffer) = tt
    few song_end = tt

first_number_lem : (s : State) (cs : List Call) → first_number s cs ≤ 9
first_number_lem s [] = zero-le
first_number_lem s (c ∷ cs) = call_number s c

numbers : (g : Stage) (x : Found) → (done_by g x).number ≤ 9
unfolding done_by
numbers g (ends why) = zero-le
numbers g (entry e) = first_number_lem g.state (call_of buffer832 g.image e)

not_performed : (g : Stage) (why : ℕ) → (done_by g (ends why)).stage ≡ g
unfolding done_by
not_performed g why = refl

-- ---- the record

-- a legal entry's call reads nothing but bytes
abbrev reads_bytes : Call → Bool
reads_bytes c = all_bytes (bytes_of c)

calls_read : (es : List Entry) (image : List ℕ) → T (all legal_entry es) → T (all reads_bytes (calls_of buffer832 image es))
calls_read [] image t = tt
calls_read (serial b ∷ es) image t =
    let a = and_yes (is_byte b) (all legal_entry es) t in
    yes_and (is_byte b && true) (all reads_bytes (calls_of buffer832 image es)) (yes_and (is_byte b) true a.0 tt) (calls_read es image a.1)
calls_read (safety flags ∷ es) image t = calls_read es image (and_yes (legal_entry (safety flags)) (all legal_entry es) t).1
calls_read (ticked ∷ es) image t = calls_read es image t
calls_read (song_ended ∷ es) image t = calls_read es image t
calls_read (sensed next ∷ es) image t = calls_read es next (and_yes (legal_entry (sensed next)) (all legal_entry es) t).1

after_accepted : (cs : List Call) (s : State) → T (all reads_bytes cs) → T (accepted_of s) → T (accepted_of (after s cs))
after_accepted [] s t a = a
after_accepted (c ∷ cs) s t a =
    let b = and_yes (reads_bytes c) (all reads_bytes cs) t in
    after_accepted cs (perform s c).outcome.state b.1 (demand_1.stays_accepted s c a b.0)

stays_accepted : (g : Stage) (l : List ℕ) → T (accepted_of g.state) → T (all_bytes l) → T (accepted_of (replay_from g l).stage.state)
unfolding replay_from stage_after
stays_accepted g l t b =
    after_accepted (calls_of buffer832 g.image (parse l).entries) g.state (calls_read (parse l).entries g.image (recordings_right.legal l b)) t

-- a call leaves a bad record as it is
bad_left : (s : State) → accepted_of s ≡ false → (cs : List Call) → after s cs ≡ s
bad_left s e [] = refl
bad_left s e (c ∷ cs) =
    let same : (perform s c).outcome.state ≡ s = ap (λ (p : Performed). p.outcome.state) (demand_1.bad_eight s c e) in
    ap (λ (u : State). after u cs) same ∙ bad_left s e cs

bad_stays : (g : Stage) (l : List ℕ) → accepted_of g.state ≡ false → (replay_from g l).stage.state ≡ g.state
unfolding replay_from stage_after
bad_stays g l e = bad_left g.state e (calls_of buffer832 g.image (parse l).entries)

pub answered_right : AnsweredRight
unfolding replay_from
answered_right =
    record {
      reasons = λ g l. reasons l;
      inside = λ g l. recordings_right.inside l;
      counted = λ g l. counted l;
      numbers = numbers;
      not_performed = not_performed;
      stays_accepted = stays_accepted;
      bad_stays = bad_stays;
    }
