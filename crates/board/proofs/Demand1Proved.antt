-- Demand 1.
-- Assumes nothing.
use mathlib.Core.Path.{◌≡◌, refl, sym, ap, subst, ◌∙◌}
use mathlib.Core.Bool.{false, not}
use mathlib.Core.List.{List, [], ◌∷◌}
use Prim.Native.Nat.{ℕ, suc, ◌≤◌, zero-le}
use native.Mathlib.Omega.{arith}
use native.Mathlib.Numerals.{one-add}
use lib.Dec.{T, leb, eqb, ltb→lt}
use lib.ListN.{length, take, drop}
use lib.Seq.{take-append_seam, drop-append_seam}
use mir.Facts.{T_not, and_yes, yes_and, yes_leb, yes_eqb}
use Rattle.wire.specs.Lists.{from_to, among, within, is_byte, all_bytes}
use Rattle.wire.specs.Buffer.{overwrite}
use Rattle.wire.proofs.BoolLaws.{cond-false}
use Rattle.wire.proofs.ListsLaws.{from}
use Rattle.frame.specs.Push.{empty_partial, after_of}
use Rattle.state.specs.State.{with_partial, with_playing, to_passive}
use Rattle.state.specs.Accepted.{accepted_of}
use Rattle.state.specs.declared.State.{State}
use Rattle.state.proofs.RecordProved.{accepted_stays}
use Rattle.board.specs.Outcome.{Outcome, gives, answered, written}
use Rattle.board.specs.Calls.{byte_of, report_of, tick_of, song_end_of, Performed, performed, read_by, reads, reads_none, feed, run_of, ran_as, Call, byte, run, report, tick, song_end, perform, bytes_of}
use Rattle.board.specs.Demand1.{AsCited, GivenBack, numbers_of, buffer_of, left_by, outcome, Demand1}
use Rattle.board.proofs.JudgeLaws.{judge_small, judge_refused, judge_room}
use Rattle.board.proofs.CallsLaws.{checked_bad, message_of, takes_accepted, judged_at, byte_bad, byte_is, byte_eight, byte_nine, byte_accepted, report_is, tick_is, song_end_is, feed_is, run_is}

-- ---- what a call gives

-- of every outcome: its number is one of these, 1 to 7 leave that record, an answer is given with 0
-- alone, and has room
record OutcomeFacts (numbers : List ℕ) (left : State) (room : ℕ) (o : Outcome) : Type 0 where
  numbered : T (among numbers o.number)
  leaves : 1 ≤ o.number → o.number ≤ 7 → o.state ≡ left
  silent : (o.number ≡ 0 → ⊥) → o.answer ≡ []
  fits : length o.answer ≤ room

module _ {numbers : List ℕ} {left : State} {room : ℕ} where
  gives_facts : (n : ℕ) → T (among numbers n) → {x : State} → (1 ≤ n → n ≤ 7 → x ≡ left) → OutcomeFacts numbers left room (gives n x)
  gives_facts n t e = record { numbered = t; leaves = e; silent = λ h. refl; fits = zero-le }

  -- the record that 1 to 7 leave
  same_facts : (n : ℕ) → T (among numbers n) → OutcomeFacts numbers left room (gives n left)
  same_facts n t = gives_facts n t (λ g h. refl)

  -- 0, 8 and 9 leave any
  other_facts : (n : ℕ) → T (among numbers n) → T (not (within 1 7 n)) → {x : State} → OutcomeFacts numbers left room (gives n x)
  other_facts n t u = gives_facts n t (λ g h. absurd (T_not (within 1 7 n) (yes_and (leb 1 n) (leb n 7) (yes_leb g) (yes_leb h)) u))

-- numbers 0 to 9, of a byte and of a run
abbrev ByteFacts : State → ℕ → Outcome → Type 0
ByteFacts s room o = OutcomeFacts (from_to 0 9) (with_partial empty_partial s) room o

module _ (image : List ℕ) (room : ℕ) where
  byte_facts : (s : State) (b : ℕ) → ByteFacts s room (byte_of s b image room)
  byte_facts s b =
      byte_is s b image room (ByteFacts s room) (λ d. other_facts 8 tt tt) (λ t d. other_facts 9 tt tt)
      (λ t d.
      let e = with_partial empty_partial s in
      let n = (judged_at s b image room).number in
      let small = judge_small e (message_of s b) image room in
      let refused = judge_refused e (message_of s b) image room in
      record {
        numbered = from (among (from_to 0 9)) 0 10 tt n zero-le (omega arith);
        leaves = λ g h. ap (λ (x : Outcome). x.state) (refused (λ (z : n ≡ 0). omega arith));
        silent = λ h. ap (λ (x : Outcome). x.answer) (refused h);
        fits = judge_room e (message_of s b) image room;
      })

  run_facts : (s : State) (bs : List ℕ) → ByteFacts s room (run_of s bs image room).outcome
  run_facts s bs =
      run_is image room (λ (y : Performed). ByteFacts s room y.outcome) s bs (λ d. other_facts 8 tt tt)
      (λ t.
      feed_is image room (λ (x : State) (bs : List ℕ) (y : Performed). ByteFacts x room y.outcome) (λ x. other_facts 9 tt tt) (λ x b bs y e h. h)
      (λ x b bs e. byte_facts x b) s bs)

outcome_facts : (s : State) (c : Call) → OutcomeFacts (numbers_of c) (left_by c s) (length (buffer_of c)) (outcome s c)
outcome_facts s (byte b image buffer) = byte_facts image (length buffer) s b
outcome_facts s (run bs image buffer) = run_facts image (length buffer) s bs
outcome_facts s (report dropped cliff charger) =
    report_is (OutcomeFacts (0 ∷ 8 ∷ []) s 0) s dropped cliff charger (λ d. same_facts 8 tt) (λ t. same_facts 0 tt) (λ t. other_facts 0 tt tt)
outcome_facts s (tick image buffer) =
    tick_is (OutcomeFacts (0 ∷ 3 ∷ 7 ∷ 8 ∷ []) s (length buffer)) s image (length buffer) (λ d. same_facts 8 tt) (λ e. same_facts 3 tt) (same_facts 0 tt)
    (λ l. record { numbered = tt; leaves = λ g h. refl; silent = λ h. absurd (h refl); fits = l }) (λ m e l. same_facts 7 tt)
outcome_facts s song_end = song_end_is (OutcomeFacts (0 ∷ 8 ∷ []) s 0) s (λ d. same_facts 8 tt) (λ t. other_facts 0 tt tt)

-- ---- 8

bad_eight : (s : State) (c : Call) → accepted_of s ≡ false → perform s c ≡ performed (gives 8 s) 0
unfolding report_of tick_of song_end_of run_of
bad_eight s (byte b image buffer) e = ap reads (byte_bad s b image (length buffer) e)
bad_eight s (run bs image buffer) e = cond-false (accepted_of s) (feed s bs image (length buffer)) (performed (gives 8 s) 0) e
bad_eight s (report dropped cliff charger) e = ap reads_none (checked_bad s _ e)
bad_eight s (tick image buffer) e = ap reads_none (checked_bad s _ e)
bad_eight s song_end e = ap reads_none (checked_bad s _ e)

-- of an accepted record and bytes below 256: another number than 8, and an accepted record
abbrev Stays : Outcome → Type 0
Stays o = (o.number ≡ 8 → ⊥) × T (accepted_of o.state)

gives_stays : (n : ℕ) (s : State) → T (not (eqb n 8)) → T (accepted_of s) → Stays (gives n s)
gives_stays n s u t = (λ e. T_not (eqb n 8) (yes_eqb e) u, t)

module _ (image : List ℕ) (room : ℕ) where
  byte_stays : (s : State) (b : ℕ) (bs : List ℕ) → T (accepted_of s) → T (all_bytes (b ∷ bs)) → Stays (byte_of s b image room)
  byte_stays s b bs t u = (byte_eight s b image room t, byte_accepted s b image room t (ltb→lt b 256 (and_yes (is_byte b) (all_bytes bs) u).0))

  run_stays : (s : State) (bs : List ℕ) → T (accepted_of s) → T (all_bytes bs) → Stays (run_of s bs image room).outcome
  run_stays s bs t u =
      run_is image room (λ (y : Performed). Stays y.outcome) s bs (λ d. absurd (subst T d t))
      (λ v.
      feed_is image room (λ (x : State) (bs : List ℕ) (y : Performed). T (accepted_of x) → T (all_bytes bs) → Stays y.outcome)
      (λ x v w. gives_stays 9 x tt v)
      (λ x b bs y e h v w. let a = and_yes (is_byte b) (all_bytes bs) w in h (takes_accepted x b v (ltb→lt b 256 a.0)) a.1)
      (λ x b bs e v w. byte_stays x b bs v w) s bs t u)

stays : (s : State) (c : Call) → T (accepted_of s) → T (all_bytes (bytes_of c)) → Stays (outcome s c)
stays s (byte b image buffer) t u = byte_stays image (length buffer) s b [] t u
stays s (run bs image buffer) t u = run_stays image (length buffer) s bs t u
stays s (report dropped cliff charger) t u =
    report_is Stays s dropped cliff charger (λ d. absurd (subst T d t)) (λ v. gives_stays 0 s tt t)
    (λ v. gives_stays 0 (to_passive s) tt (accepted_stays s t).passive_kept)
stays s (tick image buffer) t u =
    tick_is Stays s image (length buffer) (λ d. absurd (subst T d t)) (λ e. gives_stays 3 s tt t) (gives_stays 0 s tt t) (λ l. (λ (e : 0 ≡ 8). omega arith, t))
    (λ m e l. gives_stays 7 s tt t)
stays s song_end t u = song_end_is Stays s (λ d. absurd (subst T d t)) (λ v. gives_stays 0 (with_playing 0 s) tt (accepted_stays s t).silent_kept)

-- ---- 9

-- the bytes that are read are taken, and they are the whole slice
abbrev Taken : State → List ℕ → Performed → Type 0
Taken s bs y = y.outcome.number ≡ 9 → (y.outcome.state ≡ with_partial (after_of s.partial (take y.read bs)) s) × (y.read ≡ length bs)

-- a number that the call does not give
never : (s : State) (c : Call) (n : ℕ) → among (numbers_of c) n ≡ false → (outcome s c).number ≡ n → ⊥
never s c n f e = subst T (ap (among (numbers_of c)) e ∙ f) (outcome_facts s c).numbered

taken : (s : State) (c : Call) → Taken s (bytes_of c) (perform s c)
taken s (byte b image buffer) e =
    subst (λ (o : Outcome). (o.state ≡ with_partial (after_of s.partial (take (read_by o) (b ∷ []))) s) × (read_by o ≡ 1))
    (sym (byte_nine s b image (length buffer) e)) (refl, refl)
taken s (run bs image buffer) e =
    run_is image (length buffer) (Taken s bs) s bs (λ d (e : 8 ≡ 9). absurd (omega arith))
    (λ t. feed_is image (length buffer) Taken (λ x e. (refl, refl)) (λ x b bs y d h e. rw (one-add y.read) ((h e).0, ap suc (h e).1))
    (λ x b bs d e. absurd (d e)) s bs) e
taken s (report dropped cliff charger) e = absurd (never s (report dropped cliff charger) 9 refl e)
taken s (tick image buffer) e = absurd (never s (tick image buffer) 9 refl e)
taken s song_end e = absurd (never s song_end 9 refl e)

-- ---- the theorem

given_back : GivenBack
unfolding answered ran_as
given_back =
    record {
      number_back = λ o. refl;
      length_back = λ o. refl;
      state_back = λ o. refl;
      run_back = λ p. (refl, (refl, refl));
      count_back = λ p. refl;
    }

as_cited : (s : State) → AsCited s
as_cited s =
    record {
      of_byte = λ b image buffer. refl;
      of_run = λ bs image buffer. refl;
      of_report = λ dropped cliff charger. refl;
      of_tick = λ image buffer. refl;
      of_song_end = refl;
    }

pub demand_1 : Demand1
unfolding answered written overwrite
demand_1 =
    record {
      given_back = given_back;
      as_cited = as_cited;
      numbers_given = λ s c. (outcome_facts s c).numbered;
      bad_eight = bad_eight;
      eight_bad = λ s c t u. (stays s c t u).0;
      length_zero = λ s c h. ap (λ (l : List ℕ). length l) ((outcome_facts s c).silent h);
      buffer_kept = λ s c h. ap (λ (l : List ℕ). overwrite l (buffer_of c)) ((outcome_facts s c).silent h);
      read_past = λ s c. (outcome_facts s c).leaves;
      bytes_taken = λ s c e. (taken s c e).0;
      all_read = λ s c e. (taken s c e).1;
      room_enough = λ s c. (outcome_facts s c).fits;
      answer_there = λ s c. take-append_seam (outcome s c).answer (drop (length (outcome s c).answer) (buffer_of c));
      rest_kept = λ s c. drop-append_seam (outcome s c).answer (drop (length (outcome s c).answer) (buffer_of c));
      stays_accepted = λ s c t u. (stays s c t u).1;
    }
