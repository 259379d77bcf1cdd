-- Demand 3.
-- Assumes nothing.
use mathlib.Core.Path.{◌≡◌, refl, sym, ap, ap₂, subst, ◌∙◌}
use mathlib.Core.Bool.{Bool, true, false, not, and-false, ◌&&◌}
use mathlib.Core.List.{List, [], ◌∷◌, ◌++◌, map, append_assoc}
use mathlib.Core.Logic.{⊎_elim}
use Prim.Native.Nat.{ℕ, zero, suc, ◌-◌, ◌≤◌, ◌<◌}
use native.Mathlib.Nat.{eq-zero-or-pos}
use native.Mathlib.Omega.{arith}
use lib.Dec.{T, leb, eqb, leb→le, eqb→eq, ltb→lt}
use lib.ListN.{length, get_or, take, replicate, length-replicate, length-map, get_or-map}
use mir.Facts.{T_not, and_yes}
use borrow.Author.Tests.{le-leb, lt-leb, eqb-true, eq-eqb, ne_eqb}
use Rattle.wire.specs.Lists.{all, up_to_true, is_byte, all_bytes}
use Rattle.wire.proofs.BoolLaws.{is_true, to_T, both, same_truth, le_or_lt}
use Rattle.wire.proofs.ListsLaws.{get_d_any, all_front}
use Rattle.frame.specs.FrameTable.{data_length}
use Rattle.frame.specs.Push.{Pushed, body_size_as, push_of, empty_partial, next_of, after_of, opcodes, completed}
use Rattle.frame.specs.Reach.{reachable_of}
use Rattle.frame.specs.RunTable.{until_opcode}
use Rattle.frame.specs.Cut.{long_song}
use Rattle.frame.specs.declared.Partial.{Partial}
use Rattle.frame.proofs.PushLaws.{push_skipped, next_more}
use Rattle.frame.proofs.ReachLaws.{empty_is}
use Rattle.frame.proofs.RunTableLaws.{until_opcode_le}
use Rattle.frame.proofs.CutProved.{run_table_right, remaining_needed}
use Rattle.command.specs.Layout.{command_of, decode_of}
use Rattle.packet.specs.SizeTable.{size_of, group_of}
use Rattle.packet.specs.Answers.{listable_of, streamable_of}
use Rattle.command.specs.CommandTable.{is_in, is_legal, row_of, allowed_of, legal_of}
use Rattle.command.proofs.CommandsProved.{data_column}
use Rattle.state.specs.State.{motors_off, with_partial, to_passive}
use Rattle.state.specs.Accepted.{mode_named, order_named, off_unless_driven, wheels_legal, duties_legal, outputs_legal, baud_legal, selected_legal, stream_legal, length_legal, playing_set, notes_zero, ids_zero, motors_typed, kept_typed, song_typed, songs_typed, stream_typed, typed, accepted_of}
use Rattle.state.specs.declared.State.{State}
use Rattle.state.proofs.RecordProved.{stop_right, accepted_exactly, accepted_stays}
use Rattle.board.specs.Outcome.{Outcome, gives}
use Rattle.board.specs.Judge.{judge_of}
use Rattle.board.specs.Calls.{fed_of, byte_of, Performed, feed, run_of, Call, run, Board, perform, after_by, after, bytes_in, bytes_by, bytes_read, Reading, reading, outcome_at, readings_of, readings_in, readings, numbers, idle}
use Rattle.board.specs.Shown.{does_nothing, first_byte_only}
use Rattle.board.specs.Demand3.{no_reading, last_number, CountsAgree, IdleFacts, RunOf128s, All128, EndsIdle, longest, calls128, Demand3}
use Rattle.board.proofs.JudgeLaws.{judge_illegal, judge_start}
use Rattle.board.proofs.CallsLaws.{accepted_reachable, message_of, byte_is, byte_waits, byte_judged, byte_next, byte_ends, takes_accepted, byte_accepted, feed_is, run_is}
use Rattle.board.proofs.ListsOfCallsLaws.{Fed, none, more, last, reads_one, first_fed, bytes_at, same_bytes, same_count, Quiet, same, stopped, silent, quiet_partial, read_bytes, read_count, Course, over, quiet, reads, course, cut}

-- ---- a run's number

last_nine : (ns : List ℕ) → last_number (9 ∷ ns) ≡ last_number ns
last_nine [] = refl
last_nine (n ∷ ns) = refl

abbrev numbers_at : List Reading → List ℕ
numbers_at = map (λ r. (outcome_at r).number)

fed_number : (image : List ℕ) (room : ℕ) (bs : List ℕ) (s : State) → T (accepted_of s) → T (all_bytes bs)
    → (feed s bs image room).outcome.number ≡ last_number (numbers_at (readings_of s bs image room))
fed_number image room [] s t h = refl
fed_number image room (b ∷ bs) s t h =
    let l = and_yes (is_byte b) (all_bytes bs) h in
    go (first_fed s b bs image room)
    (fed_number image room bs (byte_of s b image room).state (byte_accepted s b image room t (ltb→lt b 256 l.0)) l.1)
  where
    u : State
    u = (byte_of s b image room).state

    go : Fed s b bs image room → (feed u bs image room).outcome.number ≡ last_number (numbers_at (readings_of u bs image room))
        → (feed s (b ∷ bs) image room).outcome.number ≡ last_number (numbers_at (readings_of s (b ∷ bs) image room))
    go (none e f r) i = absurd (subst T e t)
    go (more a n f r) i = rw (f, r, n, last_nine (numbers_at (readings_of u bs image room))) i
    go (last a f r) i = rw (f, r) refl

fed_place : (image : List ℕ) (room : ℕ) (s : State) (bs : List ℕ) → T (accepted_of s) → T (all_bytes bs)
    → (feed s bs image room).read ≡ up_to_true (completed s.partial bs)
fed_place image room =
    feed_is image room (λ (s : State) (bs : List ℕ) (y : Performed). T (accepted_of s) → T (all_bytes bs) → y.read ≡ up_to_true (completed s.partial bs))
    (λ s t u. refl)
    (λ s b bs y n i t u.
    let l = and_yes (is_byte b) (all_bytes bs) u in
    let e : (push_of s.partial b).complete ≡ false = byte_ends s b image room t ∙ ap (λ (k : ℕ). not (eqb k 9)) n in
    omega (arith, i (takes_accepted s b t (ltb→lt b 256 l.0)) l.1)
    ∙ sym (ap (λ (c : Bool). up_to_true (c ∷ completed (next_of s.partial b) bs)) e))
    (λ s b bs n t u.
    let e : (push_of s.partial b).complete ≡ true = byte_ends s b image room t ∙ ap not (ne_eqb (byte_of s b image room).number 9 n) in
    reads_one s b image room t ∙ sym (ap (λ (c : Bool). up_to_true (c ∷ completed (next_of s.partial b) bs)) e))

byte_number : (s : State) (b : ℕ) (image : List ℕ) (room : ℕ) → T (accepted_of s)
    → numbers_at (readings_of s (b ∷ []) image room) ≡ (byte_of s b image room).number ∷ []
byte_number s b image room t = go (first_fed s b [] image room)
  where
    go : Fed s b [] image room → numbers_at (readings_of s (b ∷ []) image room) ≡ (byte_of s b image room).number ∷ []
    go (none e f r) = absurd (subst T e t)
    go (more a n f r) = ap numbers_at r
    go (last a f r) = ap numbers_at r

counts_agree : CountsAgree
counts_agree =
    record {
      byte_number = λ s b image buffer t. byte_number s b image (length buffer) t;
      same_bytes = same_bytes;
      same_count = same_count;
      all_bytes_lem = λ s cs. read_bytes cs s;
      run_count = λ s bs image buffer t u.
          run_is image (length buffer) (λ (x : Performed). x.read ≡ up_to_true (completed s.partial bs)) s bs (λ e. absurd (subst T e t))
          (λ v. fed_place image (length buffer) s bs t u);
      run_number = λ s bs image buffer t h.
          run_is image (length buffer) (λ (x : Performed). x.outcome.number ≡ last_number (numbers_at (readings_in s (run bs image buffer)))) s bs
          (λ e. absurd (subst T e t)) (λ v. fed_number image (length buffer) bs s t h);
    }

-- ---- 128s, by the cut alone

abbrev is128 : ℕ → Bool
is128 b = eqb b 128

all_128 : (l : List ℕ) → T (all is128 l) → l ≡ replicate (length l) 128
all_128 [] t = refl
all_128 (b ∷ bs) t =
    let s = and_yes (eqb b 128) (all is128 bs) t in
    ap₂ (λ (n : ℕ) (l : List ℕ). n ∷ l) (eqb→eq b 128 s.0) (all_128 bs s.1)

-- what k of them leave waits for k less
run_until_opcode : (k : ℕ) (p : Partial) → T (reachable_of p) → until_opcode (after_of p (replicate k 128)) ≡ until_opcode p - k
run_until_opcode zero p r = omega arith
run_until_opcode (suc k) p r =
    run_until_opcode k (next_of p 128) (run_table_right.stays_reachable p 128 r (omega arith)) ∙ omega (arith, run_table_right.one_less p r)

-- where nothing is waited for nothing is held
nothing_held : (p : Partial) → T (reachable_of p) → until_opcode p ≡ 0 → p ≡ empty_partial
nothing_held p r e =
    let b = run_table_right.opcode_at 1 0 p r (omega arith) ∙ le-leb (until_opcode p) 0 (omega arith) in
    empty_is p r (eqb-true p.count 0 (both (eqb p.remaining 0) (eqb p.count 0) b).1)

until_opcode_nothing : until_opcode empty_partial ≡ 0
unfolding until_opcode
until_opcode_nothing = refl

-- ---- a 128

module _ (s : State) (t : T (accepted_of s)) (image : List ℕ) (room : ℕ) where
  gives_nine : 1 < until_opcode s.partial → (byte_of s 128 image room).number ≡ 9
  gives_nine h =
      let e = run_table_right.completes s.partial (accepted_reachable s t) ∙ lt-leb (until_opcode s.partial) 1 h in
      ap (λ (o : Outcome). o.number) (byte_waits s 128 image room t e)

  is_judged : until_opcode s.partial ≤ 1
      → byte_of s 128 image room ≡ judge_of (with_partial empty_partial s) (decode_of (push_of s.partial 128).partial.bytes) image room
  is_judged h = byte_judged s 128 image room t (run_table_right.completes s.partial (accepted_reachable s t) ∙ le-leb (until_opcode s.partial) 1 h)

  -- a Start
  starts : until_opcode s.partial ≡ 0 → byte_of s 128 image room ≡ gives 0 (to_passive (with_partial empty_partial s))
  unfolding data_length body_size_as command_of decode_of
  starts e =
      is_judged (omega arith)
      ∙ ap (λ (p : Partial). judge_of (with_partial empty_partial s) (decode_of (push_of p 128).partial.bytes) image room) (nothing_held s.partial (accepted_reachable s t) e)
      ∙ judge_start (with_partial empty_partial s) (replicate 32 0) image room (accepted_exactly.accepted_facts s t).1.mode_is

-- ---- a list of calls that reads 128s

abbrev Reads128 : List Reading → Type 0
Reads128 rs = T (all is128 (bytes_at rs))

-- the first byte is a 128, and so are the others
first_128 : (r : Reading) (rs : List Reading) → Reads128 (r ∷ rs) → (r.byte ≡ 128) × Reads128 rs
first_128 r rs h = let s = and_yes (eqb r.byte 128) (all is128 (bytes_at rs)) h in (eqb→eq r.byte 128 s.0, s.1)

quiet_accepted : (s u : State) → Quiet s u → T (accepted_of s) → T (accepted_of u)
quiet_accepted s u same t = t
quiet_accepted s u (stopped e) t = (accepted_stays s t).passive_kept
quiet_accepted s u (silent w) t = (accepted_stays s t).silent_kept

-- what is known where byte k is read, from p
record Kth (p : Partial) (k : ℕ) (r : Reading) : Type 0 where
  accepted : T (accepted_of r.state)
  held : r.state.partial ≡ after_of p (replicate k 128)
  is_128 : r.byte ≡ 128

kth : (t s : State) (rs : List Reading) → Course t s rs → T (accepted_of s) → Reads128 rs → (k : ℕ) → k < length rs → (r : Reading) → Kth s.partial k (get_or rs k r)
kth t s rs over a h k l r = absurd (omega arith)
kth t s rs (quiet {u = u} q c) a h k l r =
    subst (λ (p : Partial). Kth p k (get_or rs k r)) (quiet_partial s u q) (kth t u rs c (quiet_accepted s u q a) h k l r)
kth t s rs (reads {rs = ms} b image room w c) a h zero l r =
    record { accepted = a; held = refl; is_128 = (first_128 (reading s b image room) ms h).0 }
kth t s rs (reads {rs = ms} b image room w c) a h (suc k) l r =
    let f = first_128 (reading s b image room) ms h in
    let x = kth t (byte_of s b image room).state ms c (byte_accepted s b image room a (omega (arith, f.0))) f.1 k (omega arith) r in
    record {
      accepted = x.accepted;
      held = x.held ∙ ap (λ (p : Partial). after_of p (replicate k 128)) (byte_next s b image room a ∙ ap (next_of s.partial) f.0);
      is_128 = x.is_128;
    }

-- ---- idle

record Idle (s : State) : Type 0 where
  accepted : T (accepted_of s)
  passive : s.mode ≡ 1
  nothing : s.partial ≡ empty_partial
  off : motors_off s.motors ≡ true

idle_so : (s : State) → Idle s → T (idle s)
unfolding idle
idle_so s i = to_T (idle s) (simp (eq-eqb s.mode 1 i.passive, i.nothing, i.off))

idle_facts : (s : State) → T (idle s) → IdleFacts s
unfolding idle
idle_facts s t =
    let a = and_yes (eqb s.mode 1) (eqb s.partial.count 0 && (eqb s.partial.remaining 0 && motors_off s.motors)) t in
    let b = and_yes (eqb s.partial.count 0) (eqb s.partial.remaining 0 && motors_off s.motors) a.1 in
    let d = and_yes (eqb s.partial.remaining 0) (motors_off s.motors) b.1 in
    let m = is_true (motors_off s.motors) d.1 in
    record {
      in_passive = eqb→eq s.mode 1 a.0;
      none_held = eqb→eq s.partial.count 0 b.0;
      none_remaining = eqb→eq s.partial.remaining 0 d.0;
      no_order = stop_right.off_order s.motors m;
      no_duty = stop_right.off_duties s.motors m;
    }

-- by a Start
start_idle : (s : State) (b : ℕ) (image : List ℕ) (room : ℕ) → T (accepted_of s) → b ≡ 128 → until_opcode s.partial ≡ 0 → Idle (byte_of s b image room).state
start_idle s b image room t e w =
    let o = ap (λ (n : ℕ). byte_of s n image room) e ∙ starts s t image room w in
    record {
      accepted = byte_accepted s b image room t (omega arith);
      passive = ap (λ (x : Outcome). x.state.mode) o;
      nothing = ap (λ (x : Outcome). x.state.partial) o;
      off = ap (λ (x : Outcome). motors_off x.state.motors) o ∙ stop_right.stop_off s;
    }

quiet_idle : (s u : State) → Quiet s u → Idle s → Idle u
quiet_idle s u same i = i
quiet_idle s u (stopped e) i =
    record { accepted = (accepted_stays s i.accepted).passive_kept; passive = refl; nothing = i.nothing; off = stop_right.stop_off s }
quiet_idle s u (silent w) i =
    record { accepted = (accepted_stays s i.accepted).silent_kept; passive = i.passive; nothing = i.nothing; off = i.off }

stays_idle : (t s : State) (rs : List Reading) → Course t s rs → Reads128 rs → Idle s → Idle t
stays_idle t s rs over h i = i
stays_idle t s rs (quiet {u = u} q c) h i = stays_idle t u rs c h (quiet_idle s u q i)
stays_idle t s rs (reads {rs = ms} b image room w c) h i =
    let f = first_128 (reading s b image room) ms h in
    stays_idle t (byte_of s b image room).state ms c f.1
    (start_idle s b image room i.accepted f.0 (ap until_opcode i.nothing ∙ until_opcode_nothing))

becomes_idle : (t s : State) (rs : List Reading) → Course t s rs → T (accepted_of s) → Reads128 rs → until_opcode s.partial < length rs → Idle t
becomes_idle t s rs over a h l = absurd (omega arith)
becomes_idle t s rs (quiet {u = u} q c) a h l =
    becomes_idle t u rs c (quiet_accepted s u q a) h (omega (arith, ap until_opcode (quiet_partial s u q)))
becomes_idle t s rs (reads {rs = ms} b image room w c) a h l =
    let f = first_128 (reading s b image room) ms h in
    ⊎_elim (λ (e : until_opcode s.partial ≡ 0). stays_idle t (byte_of s b image room).state ms c f.1 (start_idle s b image room a f.0 e))
    (λ (p : 0 < until_opcode s.partial).
    let e = ap until_opcode (byte_next s b image room a ∙ ap (next_of s.partial) f.0) ∙ run_table_right.one_less s.partial (accepted_reachable s a) in
    becomes_idle t (byte_of s b image room).state ms c (byte_accepted s b image room a (omega (arith, f.0))) f.1 (omega arith))
    (eq-zero-or-pos (until_opcode s.partial))

-- ---- a run of 128s

read_append : (cs ds : List Call) (s : State) → bytes_read s (cs ++ ds) ≡ bytes_read s cs ++ bytes_read (after s cs) ds
read_append [] ds s = refl
read_append (c ∷ cs) ds s =
    let u = (perform s c).outcome.state in
    ap (λ (l : List ℕ). bytes_in s c ++ l) (read_append cs ds u) ∙ sym (append_assoc (bytes_in s c) (bytes_read u cs) (bytes_read (after u cs) ds))

module _ (s : State) (t : T (accepted_of s)) where
  reachable : T (reachable_of s.partial)
  reachable = accepted_reachable s t

  reads_128 : (cs : List Call) → All128 (bytes_read s cs) → Reads128 (readings s cs)
  reads_128 cs h = subst (λ (l : List ℕ). T (all is128 l)) (sym (read_bytes cs s)) h

  idle_once : (cs : List Call) → All128 (bytes_read s cs) → until_opcode s.partial < length (bytes_read s cs) → T (idle (after s cs))
  idle_once cs h l =
      idle_so (after s cs) (becomes_idle (after s cs) s (readings s cs) (course cs s) t (reads_128 cs h) (omega (arith, read_count cs s)))

  module _ (cs : List Call) (h : All128 (bytes_read s cs)) where
    -- the reading of byte k
    abbrev at : ℕ → Reading
    at k = get_or (readings s cs) k no_reading

    -- what it does
    abbrev done : ℕ → Outcome
    done k = byte_of (at k).state 128 (at k).image (at k).room

    module _ (k : ℕ) (l : k < length (bytes_read s cs)) where
      known : Kth s.partial k (at k)
      known = kth (after s cs) s (readings s cs) (course cs s) t (reads_128 cs h) k (omega (arith, read_count cs s)) no_reading

      number_at : (n : ℕ) → get_or (numbers s cs) k n ≡ (done k).number
      number_at n =
          get_d_any (numbers s cs) k n (outcome_at no_reading).number (omega (arith, length-map (readings s cs) (λ r. (outcome_at r).number), read_count cs s))
          ∙ get_or-map (λ r. (outcome_at r).number) (readings s cs) k no_reading
          ∙ ap (λ (b : ℕ). (byte_of (at k).state b (at k).image (at k).room).number) known.is_128

      until_opcode_at : until_opcode (at k).state.partial ≡ until_opcode s.partial - k
      until_opcode_at = ap until_opcode known.held ∙ run_until_opcode k s.partial reachable

    run_of_128s : RunOf128s s cs
    run_of_128s =
        record {
          opcode_at = λ k l.
              ap (λ (bs : List ℕ). get_or (opcodes s.partial bs) k false) (all_128 (bytes_read s cs) h)
              ∙ run_table_right.opcode_at (length (bytes_read s cs)) k s.partial reachable l;
          before_nine = λ k a l.
              number_at k l 0 ∙ gives_nine (at k).state (known k l).accepted (at k).image (at k).room (omega (arith, until_opcode_at k l));
          last_ends = λ k e l.
              number_at k l 0
              ∙ ap (λ (o : Outcome). o.number) (is_judged (at k).state (known k l).accepted (at k).image (at k).room (omega (arith, until_opcode_at k l)))
              ∙ ap (λ (p : Partial). (judge_of (with_partial empty_partial (at k).state) (decode_of (push_of p 128).partial.bytes) (at k).image (at k).room).number)
              (known k l).held;
          then_zero = λ k a l.
              number_at k l 9
              ∙ ap (λ (o : Outcome). o.number) (starts (at k).state (known k l).accepted (at k).image (at k).room (omega (arith, until_opcode_at k l)));
          idle_after = λ first rest e l.
              let all = subst (λ (bs : List ℕ). T (all is128 bs)) (ap (bytes_read s) e ∙ read_append first rest s) h in
              idle_once first (all_front is128 (bytes_read s first) (bytes_read (after s first) rest) all) l;
        }

ends_idle : EndsIdle perform
ends_idle s t cs h l = idle_once s t cs h (omega (arith, until_opcode_le s.partial (accepted_reachable s t)))

-- ---- the least

-- a byte of 140 x 255, of which no body is stored
song_push : (x k b : ℕ) → push_of (long_song x (suc k)) b ≡ record { partial = long_song x k; complete = eqb (suc k) 1 }
unfolding data_length
song_push x k b =
    let e : suc k - 1 ≡ k = omega arith in
    push_skipped (long_song x (suc k)) b (omega arith) refl ∙ ap (λ (n : ℕ). record { partial = long_song x n; complete = eqb (suc k) 1 }) e

-- it is refused at its last byte
song_illegal : (x k : ℕ) → legal_of (decode_of (long_song x k).bytes) ≡ false
unfolding command_of decode_of
song_illegal x k = data_column.song_legal x 255 (replicate 32 0) tt ∙ and-false (leb x 15)

-- in Full, and, where the record is accepted, k more bytes of 140 x 255 are to come; after the last
-- of them anything may be held
record InSong (x k : ℕ) (s : State) : Type 0 where
  in_full : s.mode ≡ 3
  song : 0 < k → T (accepted_of s) → s.partial ≡ long_song x k

song_byte : (x k b : ℕ) (s : State) (image : List ℕ) (room : ℕ) → T (accepted_of s) → InSong x (suc k) s → InSong x k (byte_of s b image room).state
song_byte x k b s image room t i =
    byte_is s b image room (λ (o : Outcome). InSong x k o.state) (λ d. absurd (subst T d t))
    (λ u d. record { in_full = i.in_full; song = λ h a. next_more s.partial b _ pushed (ne_eqb (suc k) 1 (λ (e : suc k ≡ 1). omega arith)) })
    (λ u d.
    let n = judge_illegal (with_partial empty_partial s) (message_of s b) image room (ap (λ (y : Pushed). legal_of (decode_of y.partial.bytes)) pushed ∙ song_illegal x k) in
    record {
      in_full = ap (λ (y : State). y.mode) n ∙ i.in_full;
      song = λ h a. let e = eqb-true (suc k) 1 (sym (ap (λ (y : Pushed). y.complete) pushed) ∙ d) in absurd (omega arith);
    })
  where
    pushed : push_of s.partial b ≡ record { partial = long_song x k; complete = eqb (suc k) 1 }
    pushed = ap (λ (p : Partial). push_of p b) (i.song (omega arith) t) ∙ song_push x k b

quiet_song : (x k : ℕ) (s u : State) → Quiet s u → InSong x k s → InSong x k u
quiet_song x k s u same i = i
quiet_song x k s u (stopped e) i = let f = i.in_full in absurd (omega arith)
quiet_song x k s u (silent t) i = record { in_full = i.in_full; song = λ h a. i.song h t }

song_full : (t : State) (x k : ℕ) (s : State) (rs : List Reading) → Course t s rs → InSong x k s → length rs ≤ k → t.mode ≡ 3
song_full t x k s rs over i l = i.in_full
song_full t x k s rs (quiet {u = u} q c) i l = song_full t x k u rs c (quiet_song x k s u q i) l
song_full t x zero s rs (reads {rs = ms} b image room a c) i l = absurd (omega arith)
song_full t x (suc k) s rs (reads {rs = ms} b image room a c) i l =
    song_full t x k (byte_of s b image room).state ms c (song_byte x k b s image room a i) (omega arith)

-- so from every record in Full with 510 bytes remaining: no other frame has as many
more_than_510 : (s : State) → s.mode ≡ 3 → s.partial.remaining ≡ 510 → (cs : List Call) → T (idle (after s cs)) → 510 < length (bytes_read s cs)
more_than_510 s m e cs t =
    ⊎_elim (λ (l : length (bytes_read s cs) ≤ 510).
    let x = get_or s.partial.bytes 1 0 in
    let i : InSong x 510 s = record { in_full = m; song = λ h a. remaining_needed.only_song s.partial (accepted_reachable s a) e } in
    let f = song_full (after s cs) x 510 s (readings s cs) (course cs s) i (omega (arith, read_count cs s)) in
    let p = (idle_facts (after s cs) t).in_passive in
    absurd (omega arith))
    (λ l. l)
    (le_or_lt (length (bytes_read s cs)) 510)

-- ---- the record from which all are needed

-- two runs over 511 bytes 128: a board that does nothing reads 510 of them, and then again
abbrev two_runs : List Call
two_runs = replicate 2 (run (replicate 511 128) (replicate 40 0) [])

-- by this board they read 128s alone, at least 511, and do not end idle
abbrev strays : Board → Bool
strays board =
    all is128 (bytes_by board longest two_runs)
    && (leb 511 (length (bytes_by board longest two_runs)) && not (idle (after_by board longest two_runs)))

computed : T (accepted_of longest) × (T (strays does_nothing) × T (strays first_byte_only))
unfolding data_length body_size_as reachable_of size_of group_of listable_of streamable_of command_of decode_of is_in is_legal row_of allowed_of legal_of motors_off mode_named order_named off_unless_driven wheels_legal duties_legal outputs_legal baud_legal selected_legal stream_legal length_legal playing_set notes_zero ids_zero motors_typed kept_typed song_typed songs_typed stream_typed typed accepted_of judge_of fed_of byte_of run_of idle
computed = (tt, (tt, tt))

longest_accepted : T (accepted_of longest)
longest_accepted = computed.0

never_idle : (board : Board) → T (strays board) → EndsIdle board → ⊥
never_idle board t h =
    let a = and_yes (all is128 (bytes_by board longest two_runs)) _ t in
    let b = and_yes (leb 511 (length (bytes_by board longest two_runs))) _ a.1 in
    T_not (idle (after_by board longest two_runs)) (h longest longest_accepted two_runs a.0 (leb→le 511 _ b.0)) b.1

-- each of n bytes 128 is read
calls_read : (image buffer : List ℕ) (n : ℕ) (s : State) → T (accepted_of s) → bytes_read s (calls128 n image buffer) ≡ replicate n 128
calls_read image buffer zero s t = refl
calls_read image buffer (suc n) s t =
    let o = byte_of s 128 image (length buffer) in
    ap₂ (λ (k : ℕ) (l : List ℕ). take k (128 ∷ []) ++ l) (reads_one s 128 image (length buffer) t)
    (calls_read image buffer n o.state (byte_accepted s 128 image (length buffer) t (omega arith)))

calls_length : (image buffer : List ℕ) (n : ℕ) → length (bytes_read longest (calls128 n image buffer)) ≡ n
calls_length image buffer n = ap length (calls_read image buffer n longest longest_accepted) ∙ length-replicate n 128

with_511 : (image buffer : List ℕ) → T (idle (after longest (calls128 511 image buffer)))
with_511 image buffer =
    ends_idle longest longest_accepted (calls128 511 image buffer)
    (subst All128 (sym (calls_read image buffer 511 longest longest_accepted)) tt)
    (omega (arith, calls_length image buffer 511))

not_with_510 : (image buffer : List ℕ) → idle (after longest (calls128 510 image buffer)) ≡ false
not_with_510 image buffer =
    same_truth (idle (after longest (calls128 510 image buffer))) false
    (λ t.
    let l = more_than_510 longest refl refl (calls128 510 image buffer) t in
    let n = calls_length image buffer 510 in
    absurd (omega arith))
    (λ t. absurd t)

pub demand_3 : Demand3
demand_3 =
    record {
      idle_facts = idle_facts;
      counts_agree = counts_agree;
      cut = cut;
      ends_idle = ends_idle;
      does_nothing_not = never_idle does_nothing computed.1.0;
      first_byte_not = never_idle first_byte_only computed.1.1;
      run_of_128s = run_of_128s;
      least = λ s m e cs t. let l = more_than_510 s m e cs t in omega arith;
      longest_accepted = longest_accepted;
      longest_mode = refl;
      longest_remaining = refl;
      with_511 = with_511;
      not_with_510 = not_with_510;
      none_less = λ cs h.
          let l = more_than_510 longest refl refl cs (h longest longest_accepted) in
          record { from = longest; accepted = longest_accepted; reads = omega arith };
    }
