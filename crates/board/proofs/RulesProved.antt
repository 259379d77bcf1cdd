-- The rules, for every record and every value.
-- Assumes nothing.
use mathlib.Core.Path.{◌≡◌, refl, sym, ap, subst, ◌∙◌}
use mathlib.Core.Bool.{Bool, true, false, not, cond, ◌&&◌, ◌||◌, beq, and-false}
use mathlib.Core.List.{List, [], ◌∷◌}
use mathlib.Core.Logic.{⊎_elim}
use Prim.Native.Nat.{ℕ, ◌≤◌, ◌<◌, zero-le}
use native.Mathlib.Nat.{eq-zero-or-pos}
use native.Mathlib.Omega.{arith}
use lib.Dec.{T, leb, eqb, leb→le, ltb→lt, leb-zero}
use lib.IntN.{pos}
use lib.Signed.{le_z}
use lib.ListN.{length, take, replicate}
use mir.Facts.{and_yes, yes_and}
use borrow.Author.Tests.{le-leb, lt-leb, eqb-true, eqb-false, eq-eqb, ne_eqb, not-true}
use Rattle.wire.specs.Lists.{among, is_byte, all_bytes}
use Rattle.wire.specs.Signed.{read8_of}
use Rattle.wire.specs.Sixteen.{minus}
use Rattle.wire.proofs.BoolLaws.{is_true, both, beq_eq, le_or_lt, pos_eqb, cond-not}
use Rattle.wire.proofs.ListsLaws.{from}
use Rattle.frame.specs.FrameTable.{data_length}
use Rattle.frame.specs.Push.{body_size_as, empty_partial}
use Rattle.frame.specs.RunTable.{until_opcode}
use Rattle.frame.specs.Reach.{reachable_of}
use Rattle.frame.specs.declared.Partial.{Partial}
use Rattle.packet.specs.Packets.{answer_bytes}
use Rattle.command.specs.Layout.{refusal_of, command_of, decode_of}
use Rattle.command.specs.CommandTable.{row_of, allowed_of, legal_of}
use Rattle.command.specs.Commands.{message}
use Rattle.command.specs.declared.Command.{Command}
use Rattle.command.specs.declared.Command.TheVariants as cmd
use Rattle.command.specs.declared.Message.{Message}
use Rattle.command.proofs.CommandTableLaws.{alike}
use Rattle.command.proofs.CommandsProved.{data_column}
use Rattle.state.specs.State.{is_yes, song_at, with_partial, with_playing, to_passive}
use Rattle.state.specs.Accepted.{accepted_of}
use Rattle.state.specs.declared.State.{State}
use Rattle.state.proofs.RecordProved.{accepted_exactly, accepted_stays}
use Rattle.board.specs.Outcome.{Outcome, gives, answers}
use Rattle.board.specs.Judge.{nothing, status_of, effect_of, judge_of}
use Rattle.board.specs.Calls.{fed_of, byte_of, report_of, chunk_now, song_end_of, Performed, run_of, Call, byte, run, report, tick, song_end, perform, bytes_of}
use Rattle.board.specs.Rules.{Does, EffectColumn, Judged, Refused, unknown, not_offered, wrong_mode, not_legal, no_song, busy, packet_long, list_long, NumberColumn, FittedRight, StatusRight, ByteRight, RunRight, ReportRight, TickRight, Case, waiting, judged, none, more, last, in_off, chunk_long, demo_held, demo_gives, DemoRight, BackingRight, RulesRight}
use Rattle.board.proofs.BackingLaws.{by_direct, of_none, of_drive, of_direct, exchanged, by_backing, by_slower, agree}
use Rattle.board.proofs.JudgeLaws.{Kind, plain, play, sensors, query, kind, refusal_small, judge_mode, judge_data}
use Rattle.board.proofs.CallsLaws.{takes, message_of, takes_accepted, byte_waits, byte_is, byte_eight, byte_ends, byte_accepted, feed_is, run_is, report_is, tick_is, tick_off, tick_silent, tick_chunk, song_end_is}

-- ---- commands

-- one that needs nothing
does : (c : Command) (p : List ℕ) → refusal_of c ≡ 0 → (effect_of c p).needs ≡ nothing → Does c p (effect_of c p).sets
unfolding judge_of
does c p r n s image room a l = rw (r, a, l, n, leb-zero room) refl

effect_column : (p : List ℕ) → EffectColumn p
effect_column p =
    record {
      start = does cmd.Start p refl refl;
      baud = λ code. does (cmd.Baud code) p refl refl;
      control = does cmd.Control p refl refl;
      safe = does cmd.Safe p refl refl;
      full = does cmd.Full p refl refl;
      power = does cmd.Power p refl refl;
      demo = λ demo. does (cmd.Demo demo) p refl refl;
      spot = does cmd.Spot p refl refl;
      cover = does cmd.Cover p refl refl;
      dock = does cmd.Dock p refl refl;
      drive = λ v r. does (cmd.Drive v r) p refl refl;
      direct = λ v w. does (cmd.Direct v w) p refl refl;
      drivers = λ bits. does (cmd.Drivers bits) p refl refl;
      duties = λ a b d. does (cmd.Duties a b d) p refl refl;
      leds = λ a b d. does (cmd.Leds a b d) p refl refl;
      outputs = λ bits. does (cmd.Outputs bits) p refl refl;
      infrared = λ code. does (cmd.Infrared code) p refl refl;
      song = λ song notes. does (cmd.Song song notes) p refl refl;
      stream = λ ids. does (cmd.Stream ids) p refl refl;
      pause_off = does (cmd.Pause 0) p refl refl;
      pause_on = does (cmd.Pause 1) p refl refl;
    }

fitted_right : (bytes : List ℕ) (room : ℕ) (s : State) → FittedRight bytes room s
fitted_right bytes room s = record { enough = λ h. rw (le-leb (length bytes) room h) refl; no_room = λ h. rw (lt-leb (length bytes) room h) refl }

module _ (s : State) (image : List ℕ) (room : ℕ) where
  -- the answer to these packets
  abbrev answer : List ℕ → List ℕ
  answer ids = answer_bytes (status_of s) image ids

  refused : (m : Message) (n : ℕ) → Refused s image room m n → (0 < n) × (judge_of s m image room ≡ gives n s)
  unfolding judge_of
  refused m n (unknown e) = (omega arith, rw e refl)
  refused m n (not_offered e) = (omega arith, rw e refl)
  refused m n (wrong_mode e a) = (omega arith, judge_mode s m image room e a)
  refused m n (not_legal e a l) = (omega arith, judge_data s m image room e a l)
  refused m n (no_song j e) = (omega arith, rw (j.0, j.1, e) refl)
  refused m n (busy {n = k} j h e) = (omega arith, rw (j.0, j.1, pos_eqb (song_at s.songs k).len h, e) refl)
  refused m n (packet_long {id = id} j h) = (omega arith, rw (j.0, j.1, lt-leb (length (answer (id ∷ []))) room h) refl)
  refused m n (list_long {n = k} {p = p} j h) = (omega arith, rw (j.0, j.1, lt-leb (length (answer (take k p))) room h) refl)

  number_column : NumberColumn s image room
  unfolding judge_of
  number_column =
      record {
        refused = λ m n r. (refused m n r).1;
        play = λ n p j h e. rw (j.0, j.1, pos_eqb (song_at s.songs n).len h, ne_eqb s.songs.playing 1 e, leb-zero room) refl;
        sensors = λ id p j. rw (j.0, j.1) (cond-not (leb (length (answer (id ∷ []))) room) _ _);
        query = λ n p j. rw (j.0, j.1) (cond-not (leb (length (answer (take n p))) room) _ _);
      }

  -- from the number to its case
  abbrev Given : Message → Type 0
  Given m = ((judge_of s m image room).number ≡ 0 → ⊥) → Refused s image room m (judge_of s m image room).number

  named : (m : Message) (n : ℕ) → Refused s image room m n → Given m
  named m n r h = subst (Refused s image room m) (sym (ap (λ (o : Outcome). o.number) (refused m n r).1)) r

  done : (m : Message) (x : State) (bytes : List ℕ) → judge_of s m image room ≡ answers bytes x → Given m
  done m x bytes e h = absurd (h (ap (λ (o : Outcome). o.number) e))

  by_kind : (c : Command) (p : List ℕ) → Kind p c → refusal_of c ≡ 0 → Judged s c p → Given (message c p)
  by_kind c p (plain e) r j = done (message c p) _ _ (does c p r e s image room j.0 j.1)
  by_kind c p (play n) r j = ⊎_elim (λ e. named _ 5 (no_song j e)) (λ h. go (is_yes s.songs.playing) refl h) (eq-zero-or-pos (song_at s.songs n).len)
    where
      go : (b : Bool) → is_yes s.songs.playing ≡ b → 0 < (song_at s.songs n).len → Given (message (cmd.Play n) p)
      go true e h = named _ 6 (busy j h (eqb-true s.songs.playing 1 e))
      go false e h = done _ _ [] (number_column.play n p j h (eqb-false s.songs.playing 1 e))
  by_kind c p (sensors id) r j =
      ⊎_elim (λ h. done _ s (answer (id ∷ [])) (number_column.sensors id p j ∙ (fitted_right (answer (id ∷ [])) room s).enough h))
      (λ h. named _ 7 (packet_long j h)) (le_or_lt (length (answer (id ∷ []))) room)
  by_kind c p (query n) r j =
      ⊎_elim (λ h. done _ s (answer (take n p)) (number_column.query n p j ∙ (fitted_right (answer (take n p)) room s).enough h))
      (λ h. named _ 7 (list_long j h)) (le_or_lt (length (answer (take n p))) room)

  given : (m : Message) → Given m
  given m = go (eqb n 1) (eqb n 2) (allowed_of m.command s.mode) (legal_of m) refl refl refl refl
    where
      n : ℕ
      n = refusal_of m.command

      offered : eqb n 1 ≡ false → eqb n 2 ≡ false → n ≡ 0
      offered d e = omega (arith, leb→le n 2 (refusal_small m.command), eqb-false n 1 d, eqb-false n 2 e)

      go : (a b c l : Bool) → eqb n 1 ≡ a → eqb n 2 ≡ b → allowed_of m.command s.mode ≡ c → legal_of m ≡ l → Given m
      go true b c l d e f g = named m 1 (unknown (eqb-true n 1 d))
      go false true c l d e f g = named m 2 (not_offered (eqb-true n 2 e))
      go false false false l d e f g = named m 3 (wrong_mode (offered d e) f)
      go false false true false d e f g = named m 4 (not_legal (offered d e) f g)
      go false false true true d e f g = by_kind m.command m.payload (kind m.payload s m.command).0 (offered d e) (f, g)

-- ---- packets 35 to 42

status_right : (s : State) → StatusRight s
unfolding status_of
status_right s = record { of_drive = λ e. simp e; of_direct = λ e. simp e; of_none = λ e. simp e }

-- ---- calls on an accepted record

module _ (s : State) (t : T (accepted_of s)) where
  accepted : accepted_of s ≡ true
  accepted = is_true (accepted_of s) t

  byte_right : (b : ℕ) (image : List ℕ) (room : ℕ) → ByteRight s b image room
  unfolding byte_of fed_of
  byte_right b image room = record { waits = λ e. simp (accepted, e); judged = λ e. simp (accepted, e) }

  run_right : (image : List ℕ) (room : ℕ) → RunRight s image room
  unfolding run_of
  run_right image room =
      record {
        none = simp accepted;
        more = λ b bs h n.
            simp (accepted, eq-eqb (byte_of s b image room).number 9 n, is_true (accepted_of (byte_of s b image room).state) (byte_accepted s b image room t h));
        last = λ b bs n. simp (accepted, ne_eqb (byte_of s b image room).number 9 n, ne_eqb (byte_of s b image room).number 8 (byte_eight s b image room t));
      }

  charger_set : (drop cliff : Bool) → s.mode ≡ 2 → report_of s drop cliff true ≡ gives 0 (to_passive s)
  unfolding report_of
  charger_set true cliff e = simp (accepted, e)
  charger_set false cliff e = simp (accepted, e)

  report_right : ReportRight s
  unfolding report_of
  report_right =
      record {
        not_safe = λ drop cliff charger n. simp (accepted, ne_eqb s.mode 2 n);
        drop_set = λ cliff charger e. simp (accepted, e);
        charger_set = charger_set;
        none_set = simp (accepted, and-false (eqb s.mode 2));
        cliff_drive = λ e o. simp (accepted, e, of_drive s.motors o);
        cliff_direct = λ e o above. simp (accepted, e, of_direct s.motors o, above);
        cliff_backing = λ e o p q right left. simp (accepted, e, of_direct s.motors o ∙ (λ i. by_direct (right i) (left i)) ∙ by_backing p q);
        cliff_none = λ o. simp (accepted, of_none s.motors o, and-false (eqb s.mode 2));
      }

  tick_right : (image : List ℕ) (room : ℕ) → TickRight s image room
  unfolding chunk_now
  tick_right image room =
      record {
        in_off = tick_off s image room t;
        streaming_off = λ n e. tick_silent s image room t n (simp e);
        no_list = λ n e. tick_silent s image room t n (simp (e, and-false (is_yes s.stream.on)));
        chunk = λ n e h. tick_chunk s image room t n (simp (e, pos_eqb s.stream.count h));
      }

  song_end_right : song_end_of s ≡ gives 0 (with_playing 0 s)
  unfolding song_end_of
  song_end_right = simp accepted

-- ---- a number is given exactly in its case

abbrev number_of : State → Call → ℕ
number_of s c = (perform s c).outcome.number

in_case : (s : State) → T (accepted_of s) → (c : Call) → T (all_bytes (bytes_of c)) → (n : ℕ) → Case s c n → (0 < n) × (number_of s c ≡ n)
unfolding chunk_now
in_case s t c u n (waiting {b = b} {image = image} {buffer = buffer} e) =
    (omega arith, ap (λ (o : Outcome). o.number) ((byte_right s t b image (length buffer)).waits e))
in_case s t c u n (judged {b = b} {image = image} {buffer = buffer} e r) =
    let i = refused (with_partial empty_partial s) image (length buffer) _ n r in
    (i.0, ap (λ (o : Outcome). o.number) ((byte_right s t b image (length buffer)).judged e ∙ i.1))
in_case s t c u n (none {image = image} {buffer = buffer}) =
    (omega arith, ap (λ (x : Performed). x.outcome.number) (run_right s t image (length buffer)).none)
in_case s t c u n (more {b = b} {bs = bs} {image = image} {buffer = buffer} e r) =
    let v = and_yes (is_byte b) (all_bytes bs) u in
    let h = ltb→lt b 256 v.0 in
    let w = byte_waits s b image (length buffer) t e in
    let i = in_case (takes s b) (takes_accepted s b t h) (run bs image buffer) v.1 n r in (
      i.0,
      ap (λ (x : Performed). x.outcome.number) ((run_right s t image (length buffer)).more b bs h (ap (λ (o : Outcome). o.number) w))
          ∙ ap (λ (o : Outcome). (run_of o.state bs image (length buffer)).outcome.number) w ∙ i.1,
    )
in_case s t c u n (last {b = b} {bs = bs} {image = image} {buffer = buffer} e r) =
    let ends = sym e ∙ byte_ends s b image (length buffer) t in
    let i = in_case s t (byte b image buffer) (yes_and (is_byte b) true (and_yes (is_byte b) (all_bytes bs) u).0 tt) n r in (
      i.0,
      ap (λ (x : Performed). x.outcome.number)
          ((run_right s t image (length buffer)).last b bs (λ d. subst T (ends ∙ ap (λ (k : ℕ). not (eqb k 9)) d) tt)) ∙ i.1,
    )
in_case s t c u n (in_off {image = image} {buffer = buffer} e) =
    (omega arith, ap (λ (o : Outcome). o.number) ((tick_right s t image (length buffer)).in_off e))
in_case s t c u n (chunk_long {image = image} {buffer = buffer} m e h l) = (
  omega arith,
  ap (λ (o : Outcome). o.number)
      ((tick_right s t image (length buffer)).chunk m e h ∙ (fitted_right (chunk_now s image) (length buffer) s).no_room l),
)

-- from the number to its case
abbrev Named : State → Call → ℕ → Type 0
Named s c n = (n ≡ 0 → ⊥) → Case s c n

byte_case : (s : State) → T (accepted_of s) → (b : ℕ) (image buffer : List ℕ) → Named s (byte b image buffer) (number_of s (byte b image buffer))
byte_case s t b image buffer =
    byte_is s b image (length buffer) (λ (o : Outcome). Named s (byte b image buffer) o.number) (λ d. absurd (subst T d t)) (λ v e h. waiting e)
    (λ v e h. judged e (given (with_partial empty_partial s) image (length buffer) (message_of s b) h))

run_case : (s : State) → T (accepted_of s) → (bs image buffer : List ℕ) → T (all_bytes bs)
    → Named s (run bs image buffer) (number_of s (run bs image buffer))
run_case s t bs image buffer u =
    run_is image (length buffer) (λ (y : Performed). Named s (run bs image buffer) y.outcome.number) s bs (λ d. absurd (subst T d t))
    (λ v. feed_is image (length buffer)
    (λ (x : State) (bs : List ℕ) (y : Performed). T (accepted_of x) → T (all_bytes bs) → Named x (run bs image buffer) y.outcome.number)
    (λ x v w h. none)
    (λ x b bs y n i v w h.
    let a = and_yes (is_byte b) (all_bytes bs) w in
    more (byte_ends x b image (length buffer) v ∙ ap (λ (k : ℕ). not (eqb k 9)) n) (i (takes_accepted x b v (ltb→lt b 256 a.0)) a.1 h))
    (λ x b bs n v w h.
    last (byte_ends x b image (length buffer) v ∙ ap not (ne_eqb (byte_of x b image (length buffer)).number 9 n)) (byte_case x v b image buffer h))
    s bs t u)

call_case : (s : State) → T (accepted_of s) → (c : Call) → T (all_bytes (bytes_of c)) → Named s c (number_of s c)
unfolding chunk_now
call_case s t (byte b image buffer) u = byte_case s t b image buffer
call_case s t (run bs image buffer) u = run_case s t bs image buffer u
call_case s t (report drop cliff charger) u =
    report_is (λ (o : Outcome). Named s (report drop cliff charger) o.number) s drop cliff charger (λ d. absurd (subst T d t)) (λ v h. absurd (h refl))
    (λ v h. absurd (h refl))
call_case s t (tick image buffer) u =
    tick_is (λ (o : Outcome). Named s (tick image buffer) o.number) s image (length buffer) (λ d. absurd (subst T d t)) (λ e h. in_off e)
    (λ h. absurd (h refl)) (λ l h. absurd (h refl))
    (λ m e l h.
    let on = both (is_yes s.stream.on) (not (eqb s.stream.count 0)) e in
    let some = eqb-false s.stream.count 0 (not-true (eqb s.stream.count 0) on.1) in
    chunk_long m (eqb-true s.stream.on 1 on.0) (omega arith) l)
call_case s t song_end u =
    song_end_is (λ (o : Outcome). Named s song_end o.number) s (λ d. absurd (subst T d t)) (λ v h. absurd (h refl))

-- ---- a Demo's two bytes

-- a named mode but Off is one of P S F
demo_modes : (m : ℕ) → m ≤ 3 → among (1 ∷ 2 ∷ 3 ∷ []) m ≡ not (eqb m 0)
demo_modes m h =
    let same : ℕ → Bool = λ k. beq (among (1 ∷ 2 ∷ 3 ∷ []) k) (not (eqb k 0)) in
    beq_eq (among (1 ∷ 2 ∷ 3 ∷ []) m) (not (eqb m 0)) (from same 0 4 tt m zero-le (omega arith))

-- -1 to 9 as a signed byte, by one test over all bytes
demo_bytes : (b : ℕ) → b < 256 → (le_z (minus 1) (read8_of b) && le_z (read8_of b) (pos 9)) ≡ (eqb b 255 || leb b 9)
demo_bytes = alike (λ b. le_z (minus 1) (read8_of b) && le_z (read8_of b) (pos 9)) (λ b. eqb b 255 || leb b 9) tt

module _ (s : State) (h : s.mode ≤ 3) (b : ℕ) (k : b < 256) (p image : List ℕ) (room : ℕ) where
  abbrev demo : Message
  demo = message (cmd.Demo (read8_of b)) p

  in_mode : allowed_of (cmd.Demo (read8_of b)) s.mode ≡ not (eqb s.mode 0)
  unfolding row_of allowed_of
  in_mode = demo_modes s.mode h

  is_legal : legal_of demo ≡ (eqb b 255 || leb b 9)
  is_legal = data_column.demo_legal (read8_of b) p ∙ demo_bytes b k

  demo_judged : judge_of s demo image room ≡ demo_gives b s
  demo_judged = go (eqb s.mode 0) (eqb b 255 || leb b 9) refl refl
    where
      go : (m l : Bool) → eqb s.mode 0 ≡ m → (eqb b 255 || leb b 9) ≡ l → judge_of s demo image room ≡ demo_gives b s
      go true l e f = judge_mode s demo image room refl (in_mode ∙ ap not e) ∙ sym (simp e)
      go false true e f = does (cmd.Demo (read8_of b)) p refl refl s image room (in_mode ∙ ap not e) (is_legal ∙ f) ∙ sym (simp (e, f))
      go false false e f = judge_data s demo image room refl (in_mode ∙ ap not e) (is_legal ∙ f) ∙ sym (simp (e, f))

module _ (s : State) (t : T (accepted_of s)) (e : s.partial ≡ empty_partial) (image : List ℕ) (room : ℕ) where
  empty : with_partial empty_partial s ≡ s
  empty = ap (λ (p : Partial). with_partial p s) (sym e)

  held : T (accepted_of (with_partial demo_held s))
  unfolding data_length body_size_as reachable_of
  held = (accepted_stays s t).partial_kept demo_held tt

  opcode_waits : byte_of s 136 image room ≡ gives 9 (with_partial demo_held s)
  unfolding data_length body_size_as
  opcode_waits = (byte_right s t 136 image room).waits (rw e refl) ∙ rw e refl

  demo_byte : (b : ℕ) → b < 256 → byte_of (with_partial demo_held s) b image room ≡ demo_gives b s
  unfolding data_length command_of decode_of
  demo_byte b h =
      let m = message (cmd.Demo (read8_of b)) (replicate 32 0) in
      (byte_right (with_partial demo_held s) held b image room).judged refl ∙ ap (λ (x : State). judge_of x m image room) empty
      ∙ demo_judged s (accepted_exactly.accepted_facts s t).1.mode_is b h (replicate 32 0) image room

  four_or_three : (off : Bool) → (cond off (gives 3 s) (gives 4 s)).number ≡ cond off 3 4
  four_or_three true = refl
  four_or_three false = refl

  demo_right : DemoRight s image room
  unfolding data_length until_opcode
  demo_right =
      record {
        opcode_waits = opcode_waits;
        held_accepted = held;
        demo_byte = demo_byte;
        named = refl;
        before_named = ap (λ (o : Outcome). o.number) (demo_byte 128 (omega arith)) ∙ four_or_three (eqb s.mode 0);
      }

-- ---- backing round a stair head

backing_right : (s : State) → BackingRight s
backing_right s =
    record {
      agree = λ v r a b n right left. of_direct _ refl ∙ agree v r a b right left n ∙ sym (of_drive _ refl);
      exchanged = λ a b. of_direct _ refl ∙ exchanged a b ∙ sym (of_direct _ refl);
      slower = λ p q h. of_direct _ refl ∙ by_slower p q h;
    }

pub rules_right : RulesRight
rules_right =
    record {
      effect_column = effect_column;
      number_column = number_column;
      fitted_right = fitted_right;
      status_right = status_right;
      byte_right = byte_right;
      run_right = run_right;
      report_right = report_right;
      tick_right = tick_right;
      demo_right = demo_right;
      backing_right = backing_right;
      exactly = λ s t c u. record { in_case = in_case s t c u; case_of = call_case s t c u };
      song_end_right = song_end_right;
    }
