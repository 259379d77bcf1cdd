-- Playing a recording back, and recording calls made live (docs/RULES.md E7 to E9, E15, E16,
-- E19).
-- Assumes nothing.
use Rattle.std.specs.Prelude.{◌≡◌, Bool, true, cond, ◌&&◌, ℕ, ◌+◌, ◌/◌, ◌%◌, T, eqb, length, drop, replicate, Option, Some, None, Result, Ok, Err}
use mathlib.Core.List.{List, [], ◌∷◌, ◌++◌, map, flatten}
use Rattle.wire.specs.Lists.{all, is_byte, byte_array, all_bytes, same_list}
use Rattle.wire.specs.Replies.{number_of}
use Rattle.wire.specs.declared.Refusal.{Refusal}
use Rattle.state.specs.State.{power_on}
use Rattle.state.specs.declared.State.{State}
use Rattle.board.specs.Calls.{Call, byte, run, report, tick, song_end, perform, after, bytes_of, bytes_in}
use Rattle.recording.specs.Recordings.{Entry, serial, safety, ticked, song_ended, sensed, printed, print, whole, Found, entry, ends, found, parse}
use Rattle.recording.specs.declared.Stage.{Stage}
use Rattle.recording.specs.declared.Done.{Done}
use Rattle.recording.specs.declared.Stepped.{Stepped}
use Rattle.recording.specs.declared.Played.{Played}
use Rattle.recording.specs.declared.Passed.{Passed}
use Rattle.recording.specs.declared.Record.{Record}
use Rattle.recording.specs.declared.Record.TheVariants as kept
use Rattle.recording.specs.declared.End.{End}
use Rattle.recording.specs.declared.End.TheVariants as end

-- ---- playing back

-- rule E7: a lent buffer of 832 bytes; its contents make no difference
abbrev pub buffer832 : List ℕ
buffer832 = replicate 832 0

-- rule E8: the image before the first
abbrev pub no_image : List ℕ
no_image = replicate 40 0

-- rule E3: wheel drop, cliff and charger in bits 0, 1 and 2
abbrev pub flag : ℕ → ℕ → Bool
flag flags place = eqb (flags / place % 2) 1

-- the call that an entry stands for, with the last image before it; an image is none
abbrev pub call_of : List ℕ → List ℕ → Entry → List Call
call_of buffer image (serial b) = byte b image buffer ∷ []
call_of buffer image (safety flags) = report (flag flags 1) (flag flags 2) (flag flags 4) ∷ []
call_of buffer image ticked = tick image buffer ∷ []
call_of buffer image song_ended = song_end ∷ []
call_of buffer image (sensed next) = []

-- rule E8: the last image
abbrev pub image_after : List ℕ → Entry → List ℕ
image_after image (serial b) = image
image_after image (safety flags) = image
image_after image ticked = image
image_after image song_ended = image
image_after image (sensed next) = next

abbrev pub calls_of : List ℕ → List ℕ → List Entry → List Call
calls_of buffer image [] = []
calls_of buffer image (e ∷ es) = call_of buffer image e ++ calls_of buffer (image_after image e) es

abbrev pub last_image : List ℕ → List Entry → List ℕ
last_image image [] = image
last_image image (e ∷ es) = last_image (image_after image e) es

-- the number that the first call gives; an image has no call, and 0 stands for it
abbrev pub first_number : State → List Call → ℕ
first_number s [] = 0
first_number s (c ∷ cs) = (perform s c).outcome.number

-- record and image that the entries leave: those of the same calls made live
unfoldable pub stage_after : Stage → List Entry → Stage
stage_after g es = record { state = after g.state (calls_of buffer832 g.image es); image = last_image g.image es }

-- how far a playback came: the records performed, and where and why it ended
pub record ToldPlay : Type 0 where
  pub stage : Stage
  pub count : ℕ
  pub at : ℕ
  pub why : ℕ

-- rule E9: images are counted too, and so is a call that is refused
unfoldable pub replay_from : Stage → List ℕ → ToldPlay
replay_from g l = let p = parse l in record { stage = stage_after g p.entries; count = length p.entries; at = p.at; why = p.why }

abbrev pub at_power_on : Stage
at_power_on = record { state = power_on; image = no_image }

unfoldable pub replay_of : List ℕ → ToldPlay
replay_of l = replay_from at_power_on l

-- one playback and, where it stopped, another
abbrev pub joined : ToldPlay → ToldPlay → ToldPlay
joined x y = record { stage = y.stage; count = x.count + y.count; at = x.at + y.at; why = y.why }

-- a playback that goes on in the recording l from where it stands
unfoldable pub continued : ToldPlay → List ℕ → ToldPlay
continued x l = joined x (replay_from x.stage (drop x.at l))

-- so many records performed, and this place reached
abbrev pub standing : Stage → ℕ → ℕ → ToldPlay
standing g count at = record { stage = g; count = count; at = at; why = whole }

-- in blocks: `rest` is what is unread of those before
abbrev pub play_blocks : Stage → List ℕ → List (List ℕ) → ToldPlay
play_blocks g rest [] = replay_from g rest
play_blocks g rest (b ∷ bs) =
    let x = replay_from g (rest ++ b) in
    joined x (play_blocks x.stage (drop x.at (rest ++ b)) bs)

-- ---- one record, as the code tells it

-- what stands at a place, or why there is nothing; an image's bytes are left where they are
pub data Seen : Type 0 where
  Serial : ℕ → Seen
  Report : ℕ → Seen
  Tick : Seen
  SongEnd : Seen
  Image : Seen
  Ends : ℕ → Seen

abbrev pub seen : Found → Seen
seen (ends why) = Ends why
seen (entry (serial b)) = Serial b
seen (entry (safety flags)) = Report flags
seen (entry ticked) = Tick
seen (entry song_ended) = SongEnd
seen (entry (sensed image)) = Image

-- the bytes of a record
abbrev pub size_by : Seen → ℕ
size_by (Ends why) = 0
size_by (Serial b) = 2
size_by (Report flags) = 2
size_by Tick = 1
size_by SongEnd = 1
size_by Image = 41

-- what a record gave: the number of its call (0 for an image, which is none), and what it left
pub record ToldDone : Type 0 where
  pub number : ℕ
  pub stage : Stage

-- a record performed: the number that came back, and what it leaves
unfoldable pub done_by : Stage → Found → ToldDone
done_by g (ends why) = record { number = 0; stage = g }
done_by g (entry e) =
    record { number = first_number g.state (call_of buffer832 g.image e); stage = stage_after g (e ∷ []) }

-- a record performed, with what stood there and how many bytes it has
pub record ToldStep : Type 0 where
  pub what : Seen
  pub size : ℕ
  pub number : ℕ
  pub stage : Stage

-- what stands there, performed
unfoldable pub step_of : Stage → Found → ToldStep
step_of g x =
    record { what = seen x; size = size_by (seen x); number = (done_by g x).number; stage = (done_by g x).stage }

-- what a reader passes over, and the place after it
pub record ToldPass : Type 0 where
  pub what : Seen
  pub at : ℕ

-- what a reader passes over at a place, and the place after it
unfoldable pub passed_at : List ℕ → ℕ → ToldPass
passed_at l at = let w = seen (found (drop at l)) in record { what = w; at = at + size_by w }

-- ---- what the code's results tell

abbrev pub why_of : End → ℕ
why_of end.Whole = 0
why_of end.UnknownKind = 1
why_of end.FlagsAbove = 2
why_of end.CutShort = 3

abbrev pub entry_of : Record → Entry
entry_of (kept.Serial b) = serial b
entry_of (kept.Report flags) = safety flags
entry_of kept.Tick = ticked
entry_of kept.SongEnd = song_ended
entry_of (kept.Image image) = sensed image

-- a record, or why there is none
abbrev pub looked : Result Record End → Found
looked (Ok r) = entry (entry_of r)
looked (Err e) = ends (why_of e)

-- the number of a call that was refused, and else 0
abbrev pub refused_number : Option Refusal → ℕ
refused_number None = 0
refused_number (Some r) = number_of r

abbrev pub told_done : Done → ToldDone
told_done d = record { number = refused_number d.refused; stage = d.stage }

-- where there is no record the stage stays as it was
abbrev pub told_step : Stage → Result Stepped End → ToldStep
told_step g (Ok s) =
    let w = seen (entry (entry_of s.record)) in
    record { what = w; size = size_by w; number = (told_done s.done).number; stage = s.done.stage }
told_step g (Err e) = record { what = Ends (why_of e); size = 0; number = 0; stage = g }

abbrev pub stepped_record : Result Stepped End → Found
stepped_record (Ok s) = entry (entry_of s.record)
stepped_record (Err e) = ends (why_of e)

-- and so does the place
abbrev pub told_pass : ℕ → Result Passed End → ToldPass
told_pass at (Ok p) = record { what = seen (entry (entry_of p.record)); at = p.at }
told_pass at (Err e) = record { what = Ends (why_of e); at = at }

abbrev pub passed_record : Result Passed End → Found
passed_record (Ok p) = entry (entry_of p.record)
passed_record (Err e) = ends (why_of e)

abbrev pub told_play : Played → ToldPlay
told_play p = record { stage = p.stage; count = p.count; at = p.at; why = why_of p.why }

-- ---- recording live calls

abbrev pub flags_of : Bool → Bool → Bool → ℕ
flags_of drop cliff charger = cond drop 1 0 + (cond cliff 2 0 + cond charger 4 0)

-- the image handed in with a call; one that has none leaves the last
abbrev pub image_in : List ℕ → Call → List ℕ
image_in last (byte b image buffer) = image
image_in last (run bs image buffer) = image
image_in last (report drop cliff charger) = last
image_in last (tick image buffer) = image
image_in last song_end = last

-- it is told where it is not the last one
abbrev pub unless_last : List ℕ → List ℕ → List Entry
unless_last last image = cond (same_list last image) [] (sensed image ∷ [])

abbrev pub image_told : List ℕ → Call → List Entry
image_told last (byte b image buffer) = unless_last last image
image_told last (run bs image buffer) = unless_last last image
image_told last (report drop cliff charger) = []
image_told last (tick image buffer) = unless_last last image
image_told last song_end = []

-- the call itself; of a run the bytes that it reads
abbrev pub call_told : State → Call → List Entry
call_told s (byte b image buffer) = serial b ∷ []
call_told s (run bs image buffer) = map serial (bytes_in s (run bs image buffer))
call_told s (report drop cliff charger) = safety (flags_of drop cliff charger) ∷ []
call_told s (tick image buffer) = ticked ∷ []
call_told s song_end = song_ended ∷ []

-- the recording of live calls from a record, after an image
abbrev pub recorded : List ℕ → State → List Call → List Entry
recorded last s [] = []
recorded last s (c ∷ cs) =
    image_told last c ++ (call_told s c ++ recorded (image_in last c) (perform s c).outcome.state cs)

-- the same calls one byte at a time, lent this buffer
abbrev pub call_alone : List ℕ → State → Call → List Call
call_alone buffer s (byte b image lent) = byte b image buffer ∷ []
call_alone buffer s (run bs image lent) = map (λ b. byte b image buffer) (bytes_in s (run bs image lent))
call_alone buffer s (report drop cliff charger) = report drop cliff charger ∷ []
call_alone buffer s (tick image lent) = tick image buffer ∷ []
call_alone buffer s song_end = song_end ∷ []

abbrev pub alone : List ℕ → State → List Call → List Call
alone buffer s [] = []
alone buffer s (c ∷ cs) = call_alone buffer s c ++ alone buffer (perform s c).outcome.state cs

-- bytes that are bytes, and an image of 40
abbrev pub recordable : Call → Bool
recordable (byte b image buffer) = byte_array 40 image && is_byte b
recordable (run bs image buffer) = byte_array 40 image && all_bytes bs
recordable (report drop cliff charger) = true
recordable (tick image buffer) = byte_array 40 image
recordable song_end = true

-- ---- what is guaranteed

-- THEOREM: playing back
pub record ReplayRight : Type 0 where
  -- the same calls made live, whatever is in the lent buffers of 832 bytes (E7)
  pub any_buffer : (s : State) (image buffer : List ℕ) (es : List Entry) → length buffer ≡ 832
      → after s (calls_of buffer image es) ≡ after s (calls_of buffer832 image es)
  -- one record performed, and then the rest, is the whole (E19); its number is the live call's
  pub by_steps : (g : Stage) (l : List ℕ) (e : Entry) → found l ≡ entry e
      → let x = step_of g (found l) in replay_from g l ≡ joined (standing x.stage 1 x.size) (replay_from x.stage (drop x.size l))
  pub same_number_lem : (g : Stage) (e : Entry) (c : Call) → call_of buffer832 g.image e ≡ c ∷ []
      → (step_of g (entry e)).number ≡ (perform g.state c).outcome.number
  -- a reader passes over a record's bytes; where there is none, it stays
  pub passes : (l : List ℕ) (at : ℕ) (e : Entry) → found (drop at l) ≡ entry e → (passed_at l at).at ≡ at + length (printed e)
  pub stays : (l : List ℕ) (at why : ℕ) → found (drop at l) ≡ ends why → (passed_at l at).at ≡ at
  -- from a place on, what stands there is played, and its end is named from the recording's start
  pub from_place : (g : Stage) (a b : List ℕ) → continued (standing g 0 (length a)) (a ++ b) ≡ joined (standing g 0 (length a)) (replay_from g b)
  -- a part, and then what it left unread with what follows it, is both; however the part ended
  -- (E16)
  pub resume : (g : Stage) (a b : List ℕ)
      → let x = replay_from g a in replay_from g (a ++ b) ≡ joined x (replay_from x.stage (drop x.at a ++ b))
  -- so a recording of any length may be played in blocks
  pub blocks : (g : Stage) (bs : List (List ℕ)) → play_blocks g [] bs ≡ replay_from g (flatten bs)
  -- what is recorded of live calls plays as the same calls, each with its own image (E15)
  pub same_calls : (buffer last : List ℕ) (s : State) (cs : List Call) → calls_of buffer last (recorded last s cs) ≡ alone buffer s cs
  -- and is whole, and leaves, from power-on, the record that they left: of any calls whose bytes
  -- are
  -- bytes, and whose images have 40
  pub complete_whole : (cs : List Call) → T (all recordable cs) → (replay_of (print (recorded no_image power_on cs))).why ≡ whole
  pub complete : (cs : List Call) → T (all recordable cs)
      → (replay_of (print (recorded no_image power_on cs))).stage.state ≡ after power_on cs
  pub all_recordable : (c : Call) → T (byte_array 40 (image_in no_image c)) → T (all_bytes (bytes_of c)) → T (recordable c)
