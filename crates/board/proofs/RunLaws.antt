-- Laws of a run that carries the partial frame alone: what is left of the slice decides.
-- Assumes nothing.
use mathlib.Core.Path.{◌≡◌, refl, sym, ap, ap₂, subst, ◌∙◌}
use mathlib.Core.Bool.{Bool, true, false, cond}
use mathlib.Core.List.{List, [], ◌∷◌}
use mathlib.Core.Logic.{⊎_elim}
use Prim.Native.Nat.{ℕ, zero, suc, ◌+◌, ◌-◌, ◌≤◌, ◌<◌}
use native.Mathlib.Nat.{zero-add, add-zero}
use native.Mathlib.Omega.{arith}
use lib.Dec.{T, eqb}
use lib.ListN.{length, get_or, take, drop, drop_of_length-le, length-append, length-drop}
use lib.Seq.{length-take-le, take-length}
use borrow.Author.Tests.{ne_eqb, eqb-true}
use Rattle.wire.specs.Lists.{snoc}
use Rattle.wire.proofs.BoolLaws.{is_true, cond-true, cond-false, le_or_lt}
use Rattle.wire.proofs.ListsLaws.{drop_next}
use Rattle.std.specs.Prelude.{Result, Ok, Err, is_ok}
use Rattle.wire.specs.Replies.{Sent, told}
use Rattle.wire.specs.declared.Refusal.{Refusal}
use Rattle.frame.specs.Push.{Pushed, push_of, pushed_as, empty_partial, next_of}
use Rattle.frame.specs.Absorb.{Absorbed, counted, absorb_of, taken_as, Waits, Steps}
use Rattle.frame.specs.declared.Frame.{Frame}
use Rattle.frame.specs.declared.Frame.TheVariants as left
use Rattle.frame.specs.declared.Taken.{Taken}
use Rattle.frame.specs.declared.Partial.{Partial}
use Rattle.frame.proofs.PushLaws.{next_more}
use Rattle.frame.proofs.AbsorbLaws.{taken_at_once}
use Rattle.command.specs.Layout.{decode_of}
use Rattle.command.specs.declared.Message.{Message}
use Rattle.state.specs.State.{with_partial}
use Rattle.state.specs.Accepted.{accepted_of}
use Rattle.state.specs.declared.State.{State}
use Rattle.board.specs.Outcome.{Outcome, gives, Told, told_answer, answered, sent_as, written}
use Rattle.board.specs.Judge.{effect_in, judge_of}
use Rattle.board.specs.declared.Answer.{Answer}
use Rattle.board.specs.Calls.{byte_of, Performed, performed, read_by, later, feed, run_of, ToldRun, told_run, ran_as}
use Rattle.board.proofs.JudgeLaws.{judge_small, judge_refused, held_refused, held_done}
use Rattle.board.proofs.OutcomeLaws.{Met, nothing_written, MetSent, sent_number, number_above}
use Rattle.board.proofs.CallsLaws.{accepted_reachable, takes_accepted, message_of, judged_at, byte_bad, byte_waits, byte_judged, byte_nine}

-- ---- what comes back

-- both equations of the run's contract
abbrev pub RanMet : Performed → ToldRun → List ℕ → List ℕ → Type 0
RanMet x r d d' = (r ≡ ran_as x) × (d' ≡ written x.outcome d)

pub ran_met : {x y : Performed} {r : ToldRun} (d : List ℕ) {d' : List ℕ} → x ≡ y → RanMet y r d d' → RanMet x r d d'
ran_met d e m = (m.0 ∙ ap ran_as (sym e), m.1 ∙ ap (λ (x : Performed). written x.outcome d) (sym e))

-- an answer with nothing written, beside the bytes that were read
pub ran_told : (a : Answer) (n : ℕ) (s : State) (k : ℕ) → told_answer a ≡ answered (gives n s) → told_run (record { answer = a; read = k }) ≡ ran_as (performed (gives n s) k)
unfolding answered ran_as
ran_told a n s k e = ap (λ (t : Told). record { number = t.number; length = t.length; state = t.state; read = k }) e

-- a run that ends with nothing written
pub ran_gives : {x : Performed} {r : ToldRun} {n : ℕ} {s : State} {k : ℕ} (d : List ℕ) → x ≡ performed (gives n s) k → r ≡ ran_as (performed (gives n s) k) → RanMet x r d d
ran_gives {n = n} {s = s} d e g = ran_met d e (g, nothing_written n s d)

-- ---- a whole frame: its command is judged at the record with the frame still held, and what it
-- leaves has nothing held

-- of a message and a buffer that are others
pub sent_of : (s : State) (image : List ℕ) {m m' : Message} {d d₀ d' : List ℕ} {sent : Sent} → m ≡ m' → d ≡ d₀
    → MetSent (judge_of s m image (length d)) sent d d' → MetSent (judge_of s m' image (length d₀)) sent d₀ d'
sent_of s image {m' = m'} {d = d} {d' = d'} {sent = sent} e f x =
    subst (λ (l : List ℕ). MetSent (judge_of s m' image (length l)) sent l d') f
    (subst (λ (y : Message). MetSent (judge_of s y image (length d)) sent d d') e x)

-- a refusal has a number above 0 and no length
refused_as : (sent : Result ℕ Refusal) → is_ok sent ≡ false → ((told sent).number ≡ 0 → ⊥) × ((told sent).length ≡ 0)
refused_as (Ok n) e = absurd (subst T e tt)
refused_as (Err r) e = (number_above r, refl)

done_as : (sent : Result ℕ Refusal) → is_ok sent ≡ true → (told sent).number ≡ 0
done_as (Ok n) e = refl
done_as (Err r) e = absurd (subst T (sym e) tt)

module _ (s : State) (m : Message) (image d : List ℕ) {d' : List ℕ} (sent : Result ℕ Refusal) (k : ℕ) (e : MetSent (judge_of s m image (length d)) (told sent) d d') where
  abbrev given : Outcome
  given = judge_of s m image (length d)

  abbrev past : State
  past = with_partial empty_partial s

  abbrev judged : Performed
  judged = performed (judge_of past m image (length d)) k

  pub ran_refused : {t : State} → is_ok sent ≡ false → t ≡ past
      → RanMet judged (told_run (record { answer = record { state = t; sent = sent }; read = k })) d d'
  unfolding ran_as
  ran_refused h f =
      let n = given.number in
      let r = refused_as sent h in
      let some : n ≡ 0 → ⊥ = λ x. r.0 (sent_number given e.0 ∙ x) in
      let none : d' ≡ d = e.1 ∙ ap (λ (x : Outcome). written x d) (judge_refused s m image (length d) some) ∙ sym (nothing_written n s d) in
      ran_met d (ap (λ (x : Outcome). performed x k) (held_refused s m image (length d) empty_partial some))
      (λ i. record { number = sent_number given e.0 i; length = r.1 i; state = f i; read = k }, none ∙ nothing_written n past d)

  pub ran_done : {t : State} → is_ok sent ≡ true → t ≡ (effect_in m).sets past
      → RanMet judged (told_run (record { answer = record { state = t; sent = sent }; read = k })) d d'
  unfolding ran_as sent_as written
  ran_done h f =
      let z = done_as sent h in
      ran_met d (ap (λ (x : Outcome). performed x k) (held_done s m image (length d) empty_partial (sym (sent_number given e.0) ∙ z)))
      (λ i. record { number = z i; length = ap (λ (x : Sent). x.length) e.0 i; state = f i; read = k }, e.1)

-- ---- the loop

-- what is left of a slice, as the code lends it
pub rest_is : (l : List ℕ) (n : ℕ) → take (length l - n) (drop n l) ≡ drop n l
rest_is l n = ap (λ (k : ℕ). take k (drop n l)) (sym (length-drop n l)) ∙ take-length (drop n l)

pub rest_taken : (p : Partial) (l : List ℕ) (n : ℕ) {t : Absorbed} → t ≡ absorb_of p (take (length l - n) (drop n l)) → t ≡ absorb_of p (drop n l)
rest_taken p l n e = e ∙ ap (absorb_of p) (rest_is l n)

-- what a frame takes, as the code tells it: it waits, or it is whole
pub waits_as : {t : Taken} {p : Partial} {x : Absorbed} → taken_as t ≡ x → t.frame ≡ left.Waits p → record { partial = p; complete = false; count = t.count } ≡ x
waits_as {t = t} e f = ap (λ (g : Frame). counted (pushed_as g) t.count) (sym f) ∙ e

pub whole_as : {t : Taken} {p : Partial} {x : Absorbed} → taken_as t ≡ x → t.frame ≡ left.Whole p → record { partial = p; complete = true; count = t.count } ≡ x
whole_as {t = t} e f = ap (λ (g : Frame). counted (pushed_as g) t.count) (sym f) ∙ e

module _ (s : State) (bytes image : List ℕ) (room : ℕ) where
  -- after n bytes of the slice, with this partial frame
  pub record Going (p : Partial) (n : ℕ) : Type 0 where
    pub accepted : T (accepted_of (with_partial p s))
    pub inside : n ≤ length bytes
    pub left : run_of s bytes image room ≡ later n (feed (with_partial p s) (drop n bytes) image room)

  pub going_start : T (accepted_of s) → Going s.partial 0
  unfolding run_of
  going_start t =
      let x = feed s bytes image room in
      record {
        accepted = t;
        inside = omega arith;
        left = cond-true (accepted_of s) x (performed (gives 8 s) 0) (is_true (accepted_of s) t) ∙ ap (performed x.outcome) (sym (zero-add x.read));
      }

  -- the slice ends
  pub going_end : {p : Partial} {n : ℕ} → Going p n → length bytes ≤ n → run_of s bytes image room ≡ performed (gives 9 (with_partial p s)) n
  going_end {p} {n} g h =
      g.left ∙ ap (λ (l : List ℕ). later n (feed (with_partial p s) l image room)) (drop_of_length-le bytes h)
      ∙ ap (performed (gives 9 (with_partial p s))) (add-zero n)

  -- the next byte
  module _ {p : Partial} {n : ℕ} (g : Going p n) (h : n < length bytes) where
    abbrev b : ℕ
    b = get_or bytes n 0

    abbrev held : State
    held = with_partial p s

    abbrev o : Outcome
    o = byte_of held b image room

    next : run_of s bytes image room ≡ later n (feed held (b ∷ drop (n + 1) bytes) image room)
    next = g.left ∙ ap (λ (l : List ℕ). later n (feed held l image room)) (drop_next bytes n h)

    -- the frame waits on
    pub going_on : b < 256 → (push_of p b).complete ≡ false → Going (push_of p b).partial (n + 1)
    going_on small e =
        let q : next_of p b ≡ (push_of p b).partial = next_more p b (push_of p b) refl e in
        let w : o ≡ gives 9 (with_partial (push_of p b).partial s) =
        byte_waits held b image room g.accepted e ∙ ap (λ (x : Partial). gives 9 (with_partial x s)) q in
        let rest = feed (with_partial (push_of p b).partial s) (drop (n + 1) bytes) image room in
        let turn : feed held (b ∷ drop (n + 1) bytes) image room ≡ later 1 rest = rw w refl in
        let count : n + (1 + rest.read) ≡ n + 1 + rest.read = omega arith in
        record {
          accepted = subst (λ (x : Partial). T (accepted_of (with_partial x s))) q (takes_accepted held b g.accepted small);
          inside = omega arith;
          left = next ∙ ap (later n) turn ∙ ap (performed rest.outcome) count;
        }

    -- or its command is judged
    pub going_done : (push_of p b).complete ≡ true
        → run_of s bytes image room ≡ performed (judge_of (with_partial empty_partial s) (decode_of (push_of p b).partial.bytes) image room) (n + 1)
    going_done e =
        let judged : o ≡ judged_at held b image room = byte_judged held b image room g.accepted e in
        let small : o.number ≤ 7 =
        subst (λ (x : Outcome). x.number ≤ 7) (sym judged) (judge_small (with_partial empty_partial s) (message_of held b) image room) in
        let stops : feed held (b ∷ drop (n + 1) bytes) image room ≡ performed o 1 =
        cond-false (eqb o.number 9) _ (performed o (read_by o)) (ne_eqb o.number 9 (λ (x : o.number ≡ 9). omega arith))
        ∙ ap (performed o) (cond-false (eqb o.number 8) 0 1 (ne_eqb o.number 8 (λ (x : o.number ≡ 8). omega arith))) in
        next ∙ ap (later n) stops ∙ ap (λ (x : Outcome). performed x (n + 1)) judged

  -- ---- several bytes at once

  -- bytes were taken, and one more is there
  record Ahead (p : Partial) (x n : ℕ) : Type 0 where
    going : Going p n
    more : n < length bytes
    is : get_or bytes n 0 ≡ x

  -- the first of some bytes of the slice, and the others
  record Next (k n x : ℕ) (bs : List ℕ) : Type 0 where
    more : n < length bytes
    is : get_or bytes n 0 ≡ x
    rest : take (k - 1) (drop (n + 1) bytes) ≡ bs

  the_next : (k n x : ℕ) (bs : List ℕ) → take k (drop n bytes) ≡ x ∷ bs → Next k n x bs
  the_next zero n x bs e = let f : 0 ≡ length (x ∷ bs) = ap length e in absurd (omega arith)
  the_next (suc k) n x bs e = ⊎_elim (λ (h : length bytes ≤ n). none h) (λ (h : n < length bytes). some h) (le_or_lt (length bytes) n)
    where
      none : length bytes ≤ n → Next (suc k) n x bs
      none h =
          let f : 0 ≡ length (x ∷ bs) = ap (λ (l : List ℕ). length (take (suc k) l)) (sym (drop_of_length-le bytes h)) ∙ ap length e in
          absurd (omega arith)

      some : n < length bytes → Next (suc k) n x bs
      some h =
          let f : get_or bytes n 0 ∷ take k (drop (n + 1) bytes) ≡ x ∷ bs = ap (take (suc k)) (sym (drop_next bytes n h)) ∙ e in
          let j : suc k - 1 ≡ k = omega arith in
          record { more = h; is = ap (λ (l : List ℕ). get_or l 0 0) f; rest = ap (λ (i : ℕ). take i (drop (n + 1) bytes)) j ∙ ap (drop 1) f }

  module _ (small : (i : ℕ) → get_or bytes i 0 < 256) where
    -- none of the bytes before the last one completes the frame
    going_over : (front : List ℕ) (last k n : ℕ) {p q : Partial} → Going p n → take k (drop n bytes) ≡ snoc front last → Waits p front q
        → Ahead q last (n + length front)
    going_over [] last k n {p} {q} g e w =
        let x = the_next k n last [] e in
        subst (Ahead q last) (sym (add-zero n)) (record { going = subst (λ (y : Partial). Going y n) w g; more = x.more; is = x.is })
    going_over (c ∷ bs) last k n {p} {q} g e w =
        let x = the_next k n c (snoc bs last) e in
        let f : (push_of p (get_or bytes n 0)).complete ≡ false = ap (λ (y : ℕ). (push_of p y).complete) x.is ∙ w.0 in
        let on = subst (λ (y : ℕ). Going (push_of p y).partial (n + 1)) x.is (going_on g x.more (small n) f) in
        let count : n + 1 + length bs ≡ n + suc (length bs) = omega arith in
        subst (Ahead q last) count (going_over bs last (k - 1) (n + 1) on x.rest w.1)

    module _ {p : Partial} {n : ℕ} (g : Going p n) (h : n < length bytes) where
      abbrev absorbed : Absorbed
      absorbed = absorb_of p (drop n bytes)

      there : 0 < length (drop n bytes)
      there = let e = length-drop n bytes in omega arith

      steps : Steps p (drop n bytes) absorbed
      steps = taken_at_once.steps p (drop n bytes) (accepted_reachable (with_partial p s) g.accepted) there

      -- at the last byte that is absorbed
      ahead : Ahead steps.before steps.last (n + length steps.front)
      ahead = going_over steps.front steps.last absorbed.count n g steps.taken steps.waits

      ends : push_of steps.before (get_or bytes (n + length steps.front) 0) ≡ record { partial = absorbed.partial; complete = absorbed.complete }
      ends = ap (push_of steps.before) ahead.is ∙ steps.ends

      ends_at : n + length steps.front + 1 ≡ n + absorbed.count
      ends_at =
          let e = sym (length-take-le absorbed.count (drop n bytes) (taken_at_once.some p (drop n bytes) there).1) ∙ ap length steps.taken
          ∙ length-append steps.front (steps.last ∷ []) in
          omega arith

      pub absorbed_inside : (1 ≤ absorbed.count) × (n + absorbed.count ≤ length bytes)
      absorbed_inside =
          let i = taken_at_once.some p (drop n bytes) there in
          let e = length-drop n bytes in
          (i.0, omega arith)

      pub absorbed_on : absorbed.complete ≡ false → Going absorbed.partial (n + absorbed.count)
      absorbed_on e =
          let f = ap (λ (x : Pushed). x.complete) ends ∙ e in
          let on = going_on ahead.going ahead.more (small (n + length steps.front)) f in
          subst (Going absorbed.partial) ends_at (subst (λ (x : Partial). Going x (n + length steps.front + 1)) (ap (λ (x : Pushed). x.partial) ends) on)

      pub absorbed_done : absorbed.complete ≡ true
          → run_of s bytes image room
          ≡ performed (judge_of (with_partial empty_partial s) (decode_of absorbed.partial.bytes) image room) (n + absorbed.count)
      absorbed_done e =
          let o = judge_of (with_partial empty_partial s) in
          going_done ahead.going ahead.more (ap (λ (x : Pushed). x.complete) ends ∙ e)
          ∙ ap₂ (λ (x : Pushed) (k : ℕ). performed (o (decode_of x.partial.bytes) image room) k) ends ends_at

-- ---- a run over one byte is that byte

module _ (s : State) (b : ℕ) (image : List ℕ) (room : ℕ) where
  abbrev one : Outcome
  one = byte_of s b image room

  turned : (e : Bool) → eqb one.number 9 ≡ e → (cond e (later 1 (performed (gives 9 one.state) 0)) (performed one (read_by one))).outcome ≡ one
  turned true e =
      let nine = byte_nine s b image room (eqb-true one.number 9 e) in
      ap (λ (o : Outcome). gives 9 o.state) nine ∙ sym nine
  turned false e = refl

  run_over_one : (run_of s (b ∷ []) image room).outcome ≡ one
  unfolding run_of
  run_over_one = go (accepted_of s) refl
    where
      go : (a : Bool) → accepted_of s ≡ a → (cond a (feed s (b ∷ []) image room) (performed (gives 8 s) 0)).outcome ≡ one
      go true e = turned (eqb one.number 9) refl
      go false e = sym (byte_bad s b image room e)

-- so both equations of a byte's contract are those of the run's
pub byte_met : (s : State) (b : ℕ) (image d : List ℕ) {d' : List ℕ} {r : ToldRun} → RanMet (run_of s (b ∷ []) image (length d)) r d d'
    → Met (byte_of s b image (length d)) (record { number = r.number; length = r.length; state = r.state }) d d'
unfolding answered ran_as
byte_met s b image d e =
    let f = run_over_one s b image (length d) in
    (ap (λ (x : ToldRun). record { number = x.number; length = x.length; state = x.state }) e.0 ∙ ap answered f, e.1 ∙ ap (λ (o : Outcome). written o d) f)
