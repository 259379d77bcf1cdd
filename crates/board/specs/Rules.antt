-- The rules for every record and every value, as docs/RULES.md has them: each case of a call beside
-- what it gives. They cite the columns of modes and legal data, the packets and the setters, and
-- none of this crate's own tests but `into_cliff`, in laws about it alone. The tables of cases
-- stand at chosen values, and a rule that is wrong between them would pass those.
-- Assumes nothing.
use Rattle.std.specs.Prelude.{◌≡◌, Bool, true, false, cond, ◌&&◌, ◌||◌, List, [], ◌∷◌, ℕ, ◌+◌, ◌-◌, ◌*◌, ◌/◌, ◌%◌, ◌≤◌, ◌<◌, T, leb, ltb, eqb, ℤ, pos, ◌+ℤ◌, ◌-ℤ◌, ◌*ℤ◌, length, take}
use Rattle.std.specs.Int.Signed.{lt_z}
use Rattle.wire.specs.Lists.{all_bytes}
use Rattle.wire.specs.Sixteen.{minus}
use Rattle.frame.specs.Push.{push_of, stored, empty_partial, next_of}
use Rattle.frame.specs.RunTable.{until_opcode}
use Rattle.frame.specs.declared.Partial.{Partial}
use Rattle.packet.specs.Packets.{answer_bytes, chunk_bytes}
use Rattle.packet.specs.declared.Status.{Status}
use Rattle.command.specs.Layout.{refusal_of, decode_of}
use Rattle.command.specs.CommandTable.{allowed_of, legal_of}
use Rattle.command.specs.Commands.{message}
use Rattle.command.specs.declared.Command.{Command}
use Rattle.command.specs.declared.Command.TheVariants as cmd
use Rattle.command.specs.declared.Message.{Message}
use Rattle.state.specs.State.{song_at, with_mode, with_partial, with_wheels, with_duties, with_baud, with_leds, with_outputs, with_infrared, with_song, with_selected, with_playing, with_list, with_streaming, to_passive}
use Rattle.state.specs.Accepted.{accepted_of}
use Rattle.state.specs.declared.State.{State}
use Rattle.board.specs.Outcome.{Outcome, gives, answers, fitted}
use Rattle.board.specs.Judge.{status_of, judge_of}
use Rattle.board.specs.Calls.{byte_of, into_cliff, report_of, tick_of, song_end_of, performed, run_of, Call, byte, run, tick, perform, bytes_of}

-- ---- commands

-- in each of its modes, with legal data, it gives 0 with this record and no answer, whatever the
-- image and the room
abbrev pub Does : Command → List ℕ → (State → State) → Type 0
Does c p f =
    (s : State) (image : List ℕ) (room : ℕ) → allowed_of c s.mode ≡ true → legal_of (message c p) ≡ true
    → judge_of s (message c p) image room ≡ gives 0 (f s)

-- a duty by its bit (C138); n is the bits from this one on
abbrev pub duty_from : ℕ → ℕ
duty_from n = cond (eqb (n % 2) 1) 128 0

-- THEOREM: the column of effects, C128, C129, .. in the order of the command table; 141, 142 and
-- 149 are below
pub record EffectColumn (p : List ℕ) : Type 0 where
  pub start : Does cmd.Start p to_passive
  pub baud : (code : ℕ) → Does (cmd.Baud code) p (λ s. to_passive (with_baud code s))
  pub control : Does cmd.Control p (with_mode 2)
  pub safe : Does cmd.Safe p (with_mode 2)
  pub full : Does cmd.Full p (with_mode 3)
  pub power : Does cmd.Power p to_passive
  pub demo : (demo : ℤ) → Does (cmd.Demo demo) p to_passive
  pub spot : Does cmd.Spot p to_passive
  pub cover : Does cmd.Cover p to_passive
  pub dock : Does cmd.Dock p to_passive
  pub drive : (velocity radius : ℤ) → Does (cmd.Drive velocity radius) p (with_wheels 1 velocity radius)
  pub direct : (right left : ℤ) → Does (cmd.Direct right left) p (with_wheels 2 right left)
  pub drivers : (bits : ℕ) → Does (cmd.Drivers bits) p (with_duties (duty_from (bits / 1) ∷ duty_from (bits / 2) ∷ duty_from (bits / 4) ∷ []))
  pub duties : (driver2 driver1 driver0 : ℕ) → Does (cmd.Duties driver2 driver1 driver0) p (with_duties (driver0 ∷ driver1 ∷ driver2 ∷ []))
  pub leds : (bits color intensity : ℕ) → Does (cmd.Leds bits color intensity) p (with_leds (bits ∷ color ∷ intensity ∷ []))
  pub outputs : (bits : ℕ) → Does (cmd.Outputs bits) p (with_outputs bits)
  pub infrared : (code : ℕ) → Does (cmd.Infrared code) p (with_infrared code)
  pub song : (song notes : ℕ) → Does (cmd.Song song notes) p (with_song song (record { len = notes; notes = p }))
  pub stream : (ids : ℕ) → Does (cmd.Stream ids) p (λ s. with_streaming 1 (with_list ids (take 16 p) s))
  pub pause_off : Does (cmd.Pause 0) p (with_streaming 0)
  pub pause_on : Does (cmd.Pause 1) p (with_streaming 1)

-- a command in one of its modes, with legal data
abbrev pub Judged : State → Command → List ℕ → Type 0
Judged s c p = (allowed_of c s.mode ≡ true) × (legal_of (message c p) ≡ true)

-- rules N1 to N7, each in its case, where none before it applies
pub data Refused (s : State) (image : List ℕ) (room : ℕ) : Message → ℕ → Type 0 where
  unknown : {m : Message} → refusal_of m.command ≡ 1 → Refused s image room m 1
  not_offered : {m : Message} → refusal_of m.command ≡ 2 → Refused s image room m 2
  wrong_mode : {m : Message} → refusal_of m.command ≡ 0 → allowed_of m.command s.mode ≡ false → Refused s image room m 3
  not_legal : {m : Message} → refusal_of m.command ≡ 0 → allowed_of m.command s.mode ≡ true → legal_of m ≡ false
      → Refused s image room m 4
  no_song : {n : ℕ} {p : List ℕ} → Judged s (cmd.Play n) p → (song_at s.songs n).len ≡ 0
      → Refused s image room (message (cmd.Play n) p) 5
  busy : {n : ℕ} {p : List ℕ} → Judged s (cmd.Play n) p → 0 < (song_at s.songs n).len → s.songs.playing ≡ 1
      → Refused s image room (message (cmd.Play n) p) 6
  packet_long : {id : ℕ} {p : List ℕ} → Judged s (cmd.Sensors id) p → room < length (answer_bytes (status_of s) image (id ∷ []))
      → Refused s image room (message (cmd.Sensors id) p) 7
  list_long : {n : ℕ} {p : List ℕ} → Judged s (cmd.QueryList n) p → room < length (answer_bytes (status_of s) image (take n p))
      → Refused s image room (message (cmd.QueryList n) p) 7

-- THEOREM: what a refusal leaves, and what 141, 142 and 149 do
pub record NumberColumn (s : State) (image : List ℕ) (room : ℕ) : Type 0 where
  pub refused : (m : Message) (n : ℕ) → Refused s image room m n → judge_of s m image room ≡ gives n s
  pub play : (n : ℕ) (p : List ℕ) → Judged s (cmd.Play n) p → 0 < (song_at s.songs n).len → (s.songs.playing ≡ 1 → ⊥)
      → judge_of s (message (cmd.Play n) p) image room ≡ gives 0 (with_playing 1 (with_selected n s))
  -- the packets, or 7
  pub sensors : (id : ℕ) (p : List ℕ) → Judged s (cmd.Sensors id) p
      → judge_of s (message (cmd.Sensors id) p) image room ≡ fitted (answer_bytes (status_of s) image (id ∷ [])) room s
  pub query : (n : ℕ) (p : List ℕ) → Judged s (cmd.QueryList n) p
      → judge_of s (message (cmd.QueryList n) p) image room ≡ fitted (answer_bytes (status_of s) image (take n p)) room s

-- THEOREM: an answer and its room
pub record FittedRight (bytes : List ℕ) (room : ℕ) (s : State) : Type 0 where
  pub enough : length bytes ≤ room → fitted bytes room s ≡ answers bytes s
  pub no_room : room < length bytes → fitted bytes room s ≡ gives 7 s

-- ---- packets 35 to 42

-- a record's, with these numbers for 39 to 42
abbrev pub status_with : State → ℤ → ℤ → ℤ → ℤ → Status
status_with s velocity radius right left =
    record {
      mode = s.mode;
      selected = s.songs.selected;
      playing = s.songs.playing;
      listed = s.stream.count;
      velocity = velocity;
      radius = radius;
      right = right;
      left = left;
    }

-- THEOREM: what they tell, by the kind of wheel order
pub record StatusRight (s : State) : Type 0 where
  pub of_drive : s.motors.order ≡ 1 → status_of s ≡ status_with s s.motors.first s.motors.second (pos 0) (pos 0)
  pub of_direct : s.motors.order ≡ 2 → status_of s ≡ status_with s (pos 0) (pos 0) s.motors.first s.motors.second
  pub of_none : s.motors.order ≡ 0 → status_of s ≡ status_with s (pos 0) (pos 0) (pos 0) (pos 0)

-- ---- calls on an accepted record

-- THEOREM: a byte
pub record ByteRight (s : State) (b : ℕ) (image : List ℕ) (room : ℕ) : Type 0 where
  pub waits : (push_of s.partial b).complete ≡ false → byte_of s b image room ≡ gives 9 (with_partial (push_of s.partial b).partial s)
  pub judged : (push_of s.partial b).complete ≡ true
      → byte_of s b image room ≡ judge_of (with_partial empty_partial s) (decode_of (push_of s.partial b).partial.bytes) image room

-- THEOREM: a run: no bytes; a first one that gives 9, and then the rest; and one that gives
-- another number
pub record RunRight (s : State) (image : List ℕ) (room : ℕ) : Type 0 where
  pub none : run_of s [] image room ≡ performed (gives 9 s) 0
  pub more : (b : ℕ) (bs : List ℕ) → b < 256 → (byte_of s b image room).number ≡ 9
      → let rest = run_of (byte_of s b image room).state bs image room in
      run_of s (b ∷ bs) image room ≡ performed rest.outcome (1 + rest.read)
  pub last : (b : ℕ) (bs : List ℕ) → ((byte_of s b image room).number ≡ 9 → ⊥) → run_of s (b ∷ bs) image room ≡ performed (byte_of s b image room) 1

-- THEOREM: a safety report
pub record ReportRight (s : State) : Type 0 where
  pub not_safe : (drop cliff charger : Bool) → (s.mode ≡ 2 → ⊥) → report_of s drop cliff charger ≡ gives 0 s
  pub drop_set : (cliff charger : Bool) → s.mode ≡ 2 → report_of s true cliff charger ≡ gives 0 (to_passive s)
  pub charger_set : (drop cliff : Bool) → s.mode ≡ 2 → report_of s drop cliff true ≡ gives 0 (to_passive s)
  pub none_set : report_of s false false false ≡ gives 0 s
  -- cliff alone, by the wheel order
  pub cliff_drive : s.mode ≡ 2 → s.motors.order ≡ 1
      → let v = s.motors.first in
      let r = s.motors.second in
      report_of s false true false ≡ gives 0 (cond (lt_z (pos 0) v || (lt_z v (pos 0) && (lt_z (minus 165) r && lt_z r (pos 165)))) (to_passive s) s)
  pub cliff_direct : s.mode ≡ 2 → s.motors.order ≡ 2 → (lt_z (pos 0) s.motors.first || lt_z (pos 0) s.motors.second) ≡ true
      → report_of s false true false ≡ gives 0 (to_passive s)
  -- rule S7: the right wheel backwards by p and the left by q; p - q and q - p stop at 0, so that
  -- their sum is how far apart the two are
  pub cliff_backing : s.mode ≡ 2 → s.motors.order ≡ 2 → (p q : ℕ) → s.motors.first ≡ minus p → s.motors.second ≡ minus q
      → report_of s false true false ≡ gives 0 (cond (ltb (129 * (p + q)) (165 * (p - q + (q - p)))) (to_passive s) s)
  pub cliff_none : s.motors.order ≡ 0 → report_of s false true false ≡ gives 0 s

-- THEOREM: a tick
pub record TickRight (s : State) (image : List ℕ) (room : ℕ) : Type 0 where
  pub in_off : s.mode ≡ 0 → tick_of s image room ≡ gives 3 s
  pub streaming_off : (s.mode ≡ 0 → ⊥) → s.stream.on ≡ 0 → tick_of s image room ≡ gives 0 s
  pub no_list : (s.mode ≡ 0 → ⊥) → s.stream.count ≡ 0 → tick_of s image room ≡ gives 0 s
  pub chunk : (s.mode ≡ 0 → ⊥) → s.stream.on ≡ 1 → 0 < s.stream.count
      → tick_of s image room ≡ fitted (chunk_bytes (status_of s) image (take s.stream.count s.stream.ids)) room s

-- ---- rule N11: a number is given exactly in its case

-- the case of each number but 0 and 8: a call on an accepted record gives 0 otherwise
pub data Case : State → Call → ℕ → Type 0 where
  -- a byte: frame not complete; its command is refused
  waiting : {s : State} {b : ℕ} {image buffer : List ℕ} → (push_of s.partial b).complete ≡ false → Case s (byte b image buffer) 9
  judged : {s : State} {b n : ℕ} {image buffer : List ℕ} → (push_of s.partial b).complete ≡ true
      → Refused (with_partial empty_partial s) image (length buffer) (decode_of (push_of s.partial b).partial.bytes) n
      → Case s (byte b image buffer) n
  -- a run: no byte; a byte that waits, and the rest's case; that of a byte that ends its frame
  none : {s : State} {image buffer : List ℕ} → Case s (run [] image buffer) 9
  more : {s : State} {b n : ℕ} {bs image buffer : List ℕ} → (push_of s.partial b).complete ≡ false
      → Case (with_partial (next_of s.partial b) s) (run bs image buffer) n → Case s (run (b ∷ bs) image buffer) n
  last : {s : State} {b n : ℕ} {bs image buffer : List ℕ} → (push_of s.partial b).complete ≡ true
      → Case s (byte b image buffer) n → Case s (run (b ∷ bs) image buffer) n
  -- a tick
  in_off : {s : State} {image buffer : List ℕ} → s.mode ≡ 0 → Case s (tick image buffer) 3
  chunk_long : {s : State} {image buffer : List ℕ} → (s.mode ≡ 0 → ⊥) → s.stream.on ≡ 1 → 0 < s.stream.count
      → length buffer < length (chunk_bytes (status_of s) image (take s.stream.count s.stream.ids)) → Case s (tick image buffer) 7

-- THEOREM: a number but 0 is given in its case, and in no other; 0 is given in no case
pub record InItsCase (s : State) (c : Call) : Type 0 where
  pub in_case : (n : ℕ) → Case s c n → (0 < n) × ((perform s c).outcome.number ≡ n)
  pub case_of : ((perform s c).outcome.number ≡ 0 → ⊥) → Case s c (perform s c).outcome.number

-- ---- Demo takes a number: rules H9, R8 and C136

-- 136 has come, and its number is owed
abbrev pub demo_held : Partial
demo_held = stored (136 ∷ []) 1

-- what the number gives: 3 in Off; of 255, which is -1, and of 0 to 9 it enters Passive; 4 of any
-- other
abbrev pub demo_gives : ℕ → State → Outcome
demo_gives b s = cond (eqb s.mode 0) (gives 3 s) (cond (eqb b 255 || leb b 9) (gives 0 (to_passive s)) (gives 4 s))

-- THEOREM: both bytes, from a record that holds nothing
pub record DemoRight (s : State) (image : List ℕ) (room : ℕ) : Type 0 where
  pub opcode_waits : byte_of s 136 image room ≡ gives 9 (with_partial demo_held s)
  pub held_accepted : T (accepted_of (with_partial demo_held s))
  pub demo_byte : (b : ℕ) → b < 256 → byte_of (with_partial demo_held s) b image room ≡ demo_gives b s
  -- so byte 2 of a run of 128s is the first that is read as an opcode, and the one before it gives
  -- 4, and 3 in Off
  pub named : until_opcode demo_held ≡ 1
  pub before_named : (byte_of (with_partial demo_held s) 128 image room).number ≡ cond (eqb s.mode 0) 3 4

-- ---- backing round a stair head: rules S7, S8 and S9

-- THEOREM: whether the base is moving into a cliff by Direct
pub record BackingRight (s : State) : Type 0 where
  -- Drive says the same: on a curve of radius r with velocity v the right wheel's speed is v (r +
  -- 129) / r and the left's v (r - 129) / r
  pub agree : (v r a b : ℤ) → (r ≡ pos 0 → ⊥) → a *ℤ r ≡ v *ℤ (r +ℤ pos 129) → b *ℤ r ≡ v *ℤ (r -ℤ pos 129)
      → into_cliff (with_wheels 2 a b s).motors ≡ into_cliff (with_wheels 1 v r s).motors
  -- the two exchanged give the same
  pub exchanged : (a b : ℤ) → into_cliff (with_wheels 2 a b s).motors ≡ into_cliff (with_wheels 2 b a s).motors
  -- backwards by p and by q, where p is no faster: in lowest terms
  pub slower : (p q : ℕ) → p ≤ q → into_cliff (with_wheels 2 (minus p) (minus q) s).motors ≡ ltb (49 * p) (6 * q)

-- THEOREM: the rules
pub record RulesRight : Type 0 where
  pub effect_column : (p : List ℕ) → EffectColumn p
  pub number_column : (s : State) (image : List ℕ) (room : ℕ) → NumberColumn s image room
  pub fitted_right : (bytes : List ℕ) (room : ℕ) (s : State) → FittedRight bytes room s
  pub status_right : (s : State) → StatusRight s
  pub byte_right : (s : State) → T (accepted_of s) → (b : ℕ) (image : List ℕ) (room : ℕ) → ByteRight s b image room
  pub run_right : (s : State) → T (accepted_of s) → (image : List ℕ) (room : ℕ) → RunRight s image room
  pub report_right : (s : State) → T (accepted_of s) → ReportRight s
  pub tick_right : (s : State) → T (accepted_of s) → (image : List ℕ) (room : ℕ) → TickRight s image room
  pub demo_right : (s : State) → T (accepted_of s) → s.partial ≡ empty_partial → (image : List ℕ) (room : ℕ) → DemoRight s image room
  pub backing_right : (s : State) → BackingRight s
  pub exactly : (s : State) → T (accepted_of s) → (c : Call) → T (all_bytes (bytes_of c)) → InItsCase s c
  -- rule S12: playing alone is cleared
  pub song_end_right : (s : State) → T (accepted_of s) → song_end_of s ≡ gives 0 (with_playing 0 s)
