-- Laws of the five calls.
-- Assumes nothing.
use mathlib.Core.Path.{◌≡◌, refl, sym, ap, subst, ◌∙◌}
use mathlib.Core.Bool.{Bool, true, false, not, cond, ◌&&◌}
use mathlib.Core.List.{List, [], ◌∷◌}
use Prim.Native.Nat.{ℕ, ◌≤◌, ◌<◌}
use native.Mathlib.Omega.{arith}
use lib.Dec.{T, leb, eqb}
use lib.ListN.{length}
use mir.Facts.{and_yes}
use borrow.Author.Tests.{eq-eqb, ne_eqb, leb-true, leb-false, eqb-true, eqb-false, not-false}
use Rattle.wire.proofs.BoolLaws.{is_true, to_T, cond-true, cond-false, cond_is}
use Rattle.frame.specs.Push.{Pushed, push_of, empty_partial, next_of}
use Rattle.frame.specs.Reach.{is_array, reachable_of}
use Rattle.frame.specs.declared.Partial.{Partial}
use Rattle.frame.proofs.PushLaws.{next_complete, next_more}
use Rattle.frame.proofs.ReachLaws.{empty_reachable}
use Rattle.frame.proofs.CutProved.{every_push, run_table_right}
use Rattle.command.specs.Layout.{decode_of}
use Rattle.command.specs.Commands.{DecodeFacts}
use Rattle.command.specs.declared.Message.{Message}
use Rattle.command.proofs.CommandsProved.{decoding_right}
use Rattle.state.specs.State.{off, safe, with_partial, with_playing, to_passive}
use Rattle.state.specs.Accepted.{accepted_of}
use Rattle.state.specs.declared.State.{State}
use Rattle.state.proofs.RecordProved.{accepted_exactly, accepted_stays}
use Rattle.board.specs.Outcome.{Outcome, gives, answers, fitted}
use Rattle.board.specs.Judge.{judge_of}
use Rattle.board.specs.Calls.{checked, fed_of, byte_of, stops_for, report_of, streams, chunk_now, tick_of, song_end_of, Performed, performed, later, feed, run_of, reads}
use Rattle.board.proofs.JudgeLaws.{judge_small, judge_partial, judge_accepted}

-- ---- checked

pub checked_bad : (s : State) (o : Outcome) → accepted_of s ≡ false → checked s o ≡ gives 8 s
checked_bad s o e = cond-false (accepted_of s) o (gives 8 s) e

pub checked_good : (s : State) (o : Outcome) → T (accepted_of s) → checked s o ≡ o
checked_good s o t = cond-true (accepted_of s) o (gives 8 s) (is_true (accepted_of s) t)

pub checked_is : (P : Outcome → Type 0) (s : State) {o : Outcome} → (accepted_of s ≡ false → P (gives 8 s)) → (T (accepted_of s) → P o) → P (checked s o)
checked_is P s f g = cond_is P (accepted_of s) (λ e. g (to_T (accepted_of s) e)) f

-- ---- a byte

pub accepted_reachable : (s : State) → T (accepted_of s) → T (reachable_of s.partial)
accepted_reachable s t = to_T (reachable_of s.partial) (accepted_exactly.accepted_facts s t).1.partial_is

module _ (s : State) (b : ℕ) where
  abbrev pushed : Pushed
  pushed = push_of s.partial b

  -- the record with the byte taken
  abbrev pub takes : State
  takes = with_partial (next_of s.partial b) s

  -- the message of the frame that it completes
  abbrev pub message_of : Message
  message_of = decode_of pushed.partial.bytes

  pub takes_accepted : T (accepted_of s) → b < 256 → T (accepted_of takes)
  takes_accepted t h = (accepted_stays s t).partial_kept (next_of s.partial b) (run_table_right.stays_reachable s.partial b (accepted_reachable s t) h)

  pub message_facts : T (accepted_of s) → b < 256 → DecodeFacts pushed.partial.bytes
  unfolding reachable_of
  message_facts t h =
      decoding_right pushed.partial.bytes
      (every_push.stays_array s.partial b (and_yes (is_array s.partial) _ (accepted_reachable s t)).0 h)

  module _ (image : List ℕ) (room : ℕ) where
    -- what its command does, at the record with the frame read past
    abbrev pub judged_at : Outcome
    judged_at = judge_of (with_partial empty_partial s) message_of image room

    pub byte_bad : accepted_of s ≡ false → byte_of s b image room ≡ gives 8 s
    unfolding byte_of
    byte_bad e = checked_bad s (fed_of s pushed image room) e

    pub byte_waits : T (accepted_of s) → pushed.complete ≡ false → byte_of s b image room ≡ gives 9 takes
    unfolding byte_of fed_of
    byte_waits t e =
        checked_good s (fed_of s pushed image room) t
        ∙ cond-false pushed.complete judged_at (gives 9 (with_partial pushed.partial s)) e
        ∙ ap (λ (p : Partial). gives 9 (with_partial p s)) (sym (next_more s.partial b pushed refl e))

    pub byte_judged : T (accepted_of s) → pushed.complete ≡ true → byte_of s b image room ≡ judged_at
    unfolding byte_of fed_of
    byte_judged t e =
        checked_good s (fed_of s pushed image room) t
        ∙ cond-true pushed.complete judged_at (gives 9 (with_partial pushed.partial s)) e

    -- what holds in each of the three cases
    pub byte_is : (P : Outcome → Type 0) → (accepted_of s ≡ false → P (gives 8 s)) → (T (accepted_of s) → pushed.complete ≡ false → P (gives 9 takes))
        → (T (accepted_of s) → pushed.complete ≡ true → P judged_at) → P (byte_of s b image room)
    byte_is P f g h = go (accepted_of s) pushed.complete refl refl
      where
        go : (a c : Bool) → accepted_of s ≡ a → pushed.complete ≡ c → P (byte_of s b image room)
        go false c d e = subst P (sym (byte_bad d)) (f d)
        go true false d e = let t = to_T (accepted_of s) d in subst P (sym (byte_waits t e)) (g t e)
        go true true d e = let t = to_T (accepted_of s) d in subst P (sym (byte_judged t e)) (h t e)

    judged_le : judged_at.number ≤ 7
    judged_le = judge_small (with_partial empty_partial s) message_of image room

    -- 8 for a bad record alone
    pub byte_eight : T (accepted_of s) → (byte_of s b image room).number ≡ 8 → ⊥
    byte_eight t =
        byte_is (λ (o : Outcome). o.number ≡ 8 → ⊥) (λ d e. subst T d t) (λ u d (e : 9 ≡ 8). omega arith) (λ u d e. let h = judged_le in omega arith)

    -- 9 where the byte is taken alone
    pub byte_nine : (byte_of s b image room).number ≡ 9 → byte_of s b image room ≡ gives 9 takes
    byte_nine =
        byte_is (λ (o : Outcome). o.number ≡ 9 → o ≡ gives 9 takes) (λ d (e : 8 ≡ 9). absurd (omega arith)) (λ t d e. refl)
        (λ t d e. absurd (let h = judged_le in omega arith))

    -- it ends a frame, by the cut alone, exactly where its number is not 9
    pub byte_ends : T (accepted_of s) → pushed.complete ≡ not (eqb (byte_of s b image room).number 9)
    byte_ends t =
        byte_is (λ (o : Outcome). pushed.complete ≡ not (eqb o.number 9)) (λ d. absurd (subst T d t)) (λ u e. e)
        (λ u e. e ∙ sym (ap not (ne_eqb judged_at.number 9 (λ (d : judged_at.number ≡ 9). let h = judged_le in omega arith))))

    -- what is held after it, by the cut alone
    pub byte_next : T (accepted_of s) → (byte_of s b image room).state.partial ≡ next_of s.partial b
    byte_next t =
        byte_is (λ (o : Outcome). o.state.partial ≡ next_of s.partial b) (λ d. absurd (subst T d t)) (λ u d. refl)
        (λ u d. judge_partial (with_partial empty_partial s) message_of image room ∙ sym (next_complete s.partial b d))

    pub byte_accepted : T (accepted_of s) → b < 256 → T (accepted_of (byte_of s b image room).state)
    byte_accepted t h =
        let m = message_facts t h in
        let past = (accepted_stays s t).partial_kept empty_partial empty_reachable in
        byte_is (λ (o : Outcome). T (accepted_of o.state)) (λ d. absurd (subst T d t)) (λ u d. takes_accepted t h)
        (λ u d. judge_accepted (with_partial empty_partial s) message_of image room past m.payload_array m.rest_zero)

-- ---- a safety report

pub report_is : (P : Outcome → Type 0) (s : State) (drop cliff charger : Bool) → (accepted_of s ≡ false → P (gives 8 s))
    → (T (accepted_of s) → P (gives 0 s)) → (T (accepted_of s) → P (gives 0 (to_passive s))) → P (report_of s drop cliff charger)
unfolding report_of
report_is P s drop cliff charger f g h =
    checked_is P s f
    (λ t. cond_is (λ (x : State). P (gives 0 x)) (eqb s.mode safe && stops_for s.motors drop cliff charger) (λ e. h t) (λ e. g t))

module _ (s : State) (drop cliff charger : Bool) (t : T (accepted_of s)) where
  abbrev stops : Bool
  stops = eqb s.mode safe && stops_for s.motors drop cliff charger

  pub report_stops : stops ≡ true → report_of s drop cliff charger ≡ gives 0 (to_passive s)
  unfolding report_of
  report_stops e = checked_good s _ t ∙ ap (gives 0) (cond-true stops (to_passive s) s e)

  pub report_stays : stops ≡ false → report_of s drop cliff charger ≡ gives 0 s
  unfolding report_of
  report_stays e = checked_good s _ t ∙ ap (gives 0) (cond-false stops (to_passive s) s e)

-- ---- a tick

pub tick_is : (P : Outcome → Type 0) (s : State) (image : List ℕ) (room : ℕ) → (accepted_of s ≡ false → P (gives 8 s)) → (s.mode ≡ off → P (gives 3 s))
    → P (gives 0 s) → (length (chunk_now s image) ≤ room → P (answers (chunk_now s image) s))
    → ((s.mode ≡ off → ⊥) → streams s.stream ≡ true → room < length (chunk_now s image) → P (gives 7 s)) → P (tick_of s image room)
unfolding tick_of
tick_is P s image room f g h i j =
    checked_is P s f
    (λ t. cond_is P (eqb s.mode off) (λ d. g (eqb-true s.mode off d))
    (λ d. cond_is P (not (streams s.stream)) (λ e. h)
    (λ e. cond_is P (leb (length (chunk_now s image)) room) (λ l. i (leb-true (length (chunk_now s image)) room l))
    (λ l. j (eqb-false s.mode off d) (not-false (streams s.stream) e) (leb-false (length (chunk_now s image)) room l)))))

module _ (s : State) (image : List ℕ) (room : ℕ) where
  pub tick_bad : accepted_of s ≡ false → tick_of s image room ≡ gives 8 s
  unfolding tick_of
  tick_bad e = checked_bad s _ e

  pub tick_off : T (accepted_of s) → s.mode ≡ off → tick_of s image room ≡ gives 3 s
  unfolding tick_of
  tick_off t e = checked_good s _ t ∙ cond-true (eqb s.mode off) (gives 3 s) _ (eq-eqb s.mode off e)

  -- outside Off
  module _ (t : T (accepted_of s)) (h : s.mode ≡ off → ⊥) where
    tick_on : tick_of s image room ≡ cond (not (streams s.stream)) (gives 0 s) (fitted (chunk_now s image) room s)
    unfolding tick_of
    tick_on = checked_good s _ t ∙ cond-false (eqb s.mode off) (gives 3 s) _ (ne_eqb s.mode off h)

    pub tick_silent : streams s.stream ≡ false → tick_of s image room ≡ gives 0 s
    tick_silent e = tick_on ∙ simp e

    pub tick_chunk : streams s.stream ≡ true → tick_of s image room ≡ fitted (chunk_now s image) room s
    tick_chunk e = tick_on ∙ simp e

-- ---- a song end

pub song_end_is : (P : Outcome → Type 0) (s : State) → (accepted_of s ≡ false → P (gives 8 s)) → (T (accepted_of s) → P (gives 0 (with_playing 0 s)))
    → P (song_end_of s)
unfolding song_end_of
song_end_is P s f g = checked_is P s f g

-- ---- a run

module _ (image : List ℕ) (room : ℕ) where
  -- by induction: no byte; a byte that gives 9, before others; a byte that gives another number
  pub feed_is : (P : State → List ℕ → Performed → Type 0) → ((s : State) → P s [] (performed (gives 9 s) 0))
      → ((s : State) (b : ℕ) (bs : List ℕ) (y : Performed) → (byte_of s b image room).number ≡ 9 → P (takes s b) bs y → P s (b ∷ bs) (later 1 y))
      → ((s : State) (b : ℕ) (bs : List ℕ) → ((byte_of s b image room).number ≡ 9 → ⊥) → P s (b ∷ bs) (reads (byte_of s b image room)))
      → (s : State) (bs : List ℕ) → P s bs (feed s bs image room)
  feed_is P f g h s [] = f s
  feed_is P f g h s (b ∷ bs) =
      let o = byte_of s b image room in
      let rest = feed o.state bs image room in
      cond_is (P s (b ∷ bs)) (eqb o.number 9)
      (λ e.
      let n = eqb-true o.number 9 e in
      let same = ap (λ (x : Outcome). x.state) (byte_nine s b image room n) in
      g s b bs rest n (subst (λ (x : State). P x bs rest) same (feed_is P f g h o.state bs)))
      (λ e. h s b bs (eqb-false o.number 9 e))

  pub run_is : (P : Performed → Type 0) (s : State) (bs : List ℕ) → (accepted_of s ≡ false → P (performed (gives 8 s) 0))
      → (T (accepted_of s) → P (feed s bs image room)) → P (run_of s bs image room)
  unfolding run_of
  run_is P s bs f g = cond_is P (accepted_of s) (λ e. g (to_T (accepted_of s) e)) f
