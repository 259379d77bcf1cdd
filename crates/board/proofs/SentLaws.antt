-- Laws of a frame that is read byte by byte: each byte before the last waits, and the last
-- is judged.
-- Assumes nothing.
use mathlib.Core.Path.{◌≡◌, refl, sym, ap, ap₂, subst, ◌∙◌}
use mathlib.Core.Bool.{Bool, true, false}
use mathlib.Core.List.{List, [], ◌∷◌, ◌++◌}
use Prim.Native.Nat.{ℕ}
use native.Mathlib.Numerals.{one-add}
use native.Mathlib.Omega.{arith}
use lib.Dec.{T, eqb, ltb→lt}
use lib.ListN.{length, get_or, drop, replicate}
use mir.Facts.{and_yes}
use borrow.Author.Tests.{ne_eqb}
use Rattle.wire.specs.Lists.{snoc, is_byte, all_bytes, byte_array}
use Rattle.wire.proofs.BoolLaws.{is_true, cond-true}
use Rattle.frame.specs.Push.{push_of, empty_partial, after_of, completed}
use Rattle.frame.specs.declared.Partial.{Partial}
use Rattle.command.specs.Layout.{all_sent, form_of, opcode_of, payload_in, encode_of, decode_of}
use Rattle.command.specs.CommandTable.{legal_of}
use Rattle.command.specs.Commands.{read_as}
use Rattle.command.specs.declared.Message.{Message}
use Rattle.command.proofs.CommandsProved.{writing_right, round_trip}
use Rattle.state.specs.State.{with_partial}
use Rattle.state.specs.Accepted.{accepted_of}
use Rattle.state.specs.declared.State.{State}
use Rattle.board.specs.Outcome.{Outcome, gives}
use Rattle.board.specs.Judge.{judge_of}
use Rattle.board.specs.Calls.{byte_of, performed, later, feed, run_of, after, numbers}
use Rattle.board.specs.Demand2.{one_by_one, ReadBack}
use Rattle.board.proofs.JudgeLaws.{judge_small}
use Rattle.board.proofs.CallsLaws.{takes, takes_accepted, message_of, judged_at, byte_waits, byte_judged}

-- ---- bytes of which the last completes a frame

-- the record after bs
abbrev holding : State → List ℕ → State
holding s bs = with_partial (after_of s.partial bs) s

-- no byte of the list completes a frame but the last one, b
abbrev CompletesAt : Partial → List ℕ → ℕ → Type 0
CompletesAt p bs b = completed p (snoc bs b) ≡ replicate (length bs) false ++ (true ∷ [])

-- what holds of them, with any image and buffer for those before the last, and any for a run
record Reads (s : State) (bs : List ℕ) (b : ℕ) (image buffer : List ℕ) : Type 0 where
  waits : numbers s (one_by_one bs image buffer) ≡ replicate (length bs) 9
  holds : after s (one_by_one bs image buffer) ≡ holding s bs
  accepted : T (accepted_of (holding s bs))
  completes : (push_of (after_of s.partial bs) b).complete ≡ true
  runs : (now : List ℕ) (room : ℕ) → feed s (snoc bs b) now room ≡ performed (judged_at (holding s bs) b now room) (length (snoc bs b))

-- the last is read: its number is neither 9 nor 8
last_runs : (s : State) (b : ℕ) (image : List ℕ) (room : ℕ) → T (accepted_of s) → (push_of s.partial b).complete ≡ true
    → feed s (b ∷ []) image room ≡ performed (judged_at s b image room) 1
last_runs s b image room t e =
    let n = (judged_at s b image room).number in
    let small = judge_small (with_partial empty_partial s) (message_of s b) image room in
    let nine : eqb n 9 ≡ false = ne_eqb n 9 (λ (h : n ≡ 9). omega arith) in
    let eight : eqb n 8 ≡ false = ne_eqb n 8 (λ (h : n ≡ 8). omega arith) in
    rw (byte_judged s b image room t e, nine, eight) refl

reads_frame : (s : State) (bs : List ℕ) (b : ℕ) (image buffer : List ℕ) → T (accepted_of s) → T (all_bytes (snoc bs b)) → CompletesAt s.partial bs b
    → Reads s bs b image buffer
reads_frame s [] b image buffer t u e =
    let c : (push_of s.partial b).complete ≡ true = ap (λ (l : List Bool). get_or l 0 false) e in
    record { waits = refl; holds = refl; accepted = t; completes = c; runs = λ now room. last_runs s b now room t c }
reads_frame s (x ∷ bs) b image buffer t u e =
    let v = and_yes (is_byte x) (all_bytes (snoc bs b)) u in
    let c : (push_of s.partial x).complete ≡ false = ap (λ (l : List Bool). get_or l 0 true) e in
    let w = byte_waits s x image (length buffer) t c in
    let r = reads_frame (takes s x) bs b image buffer (takes_accepted s x t (ltb→lt x 256 v.0)) v.1 (ap (λ (l : List Bool). drop 1 l) e) in
    record {
      waits = rw w (ap₂ (λ (n : ℕ) (l : List ℕ). n ∷ l) (ap (λ (o : Outcome). o.number) w) r.waits);
      holds = ap (λ (o : Outcome). after o.state (one_by_one bs image buffer)) w ∙ r.holds;
      accepted = r.accepted;
      completes = r.completes;
      runs = λ now room. rw (byte_waits s x now room t c)
          (ap (later 1) (r.runs now room) ∙ ap (performed (judged_at (holding s (x ∷ bs)) b now room)) (one-add (length (snoc bs b))));
    }

-- ---- what our writer writes

-- a last element, and those before it
record Ends (l : List ℕ) : Type 0 where
  front : List ℕ
  last : ℕ
  is : l ≡ snoc front last

ends : (x : ℕ) (xs : List ℕ) → Ends (x ∷ xs)
ends x [] = record { front = []; last = x; is = refl }
ends x (y ∷ ys) = let r = ends y ys in record { front = x ∷ r.front; last = r.last; is = ap (λ (l : List ℕ). x ∷ l) r.is }

frame_ends : (m : Message) → Ends (encode_of m)
unfolding encode_of
frame_ends m = ends (opcode_of m.command) (all_sent (form_of m.command).items ++ payload_in m)

module _ (m : Message) (legal : legal_of m ≡ true) (array : T (byte_array 32 m.payload)) (s : State) (t : T (accepted_of s)) (h : s.partial ≡ empty_partial) where
  module _ (bs : List ℕ) (b : ℕ) (e : encode_of m ≡ snoc bs b) where
    frame_reads : (image buffer : List ℕ) → Reads s bs b image buffer
    frame_reads image buffer =
        let u = writing_right.are_bytes m legal (and_yes (eqb (length m.payload) 32) (all_bytes m.payload) array).1 in
        reads_frame s bs b image buffer t (subst (λ (l : List ℕ). T (all_bytes l)) e u)
        (subst (λ (p : Partial). CompletesAt p bs b) (sym h) (round_trip.written_complete m legal array bs b e))

    -- the frame says the message, and the record with nothing held is the one that there was
    judged_as : (image : List ℕ) (room : ℕ) → judged_at (holding s bs) b image room ≡ judge_of s (read_as m) image room
    judged_as image room =
        ap₂ (λ (x : State) (n : Message). judge_of x n image room) (ap (λ (p : Partial). with_partial p s) (sym h))
        (ap (λ (p : Partial). decode_of (push_of (after_of p bs) b).partial.bytes) h ∙ round_trip.written_read m legal array bs b e)

    judged : (image buffer now : List ℕ) (room : ℕ) → byte_of (after s (one_by_one bs image buffer)) b now room ≡ judge_of s (read_as m) now room
    judged image buffer now room =
        let r = frame_reads image buffer in
        ap (λ (x : State). byte_of x b now room) r.holds ∙ byte_judged (holding s bs) b now room r.accepted r.completes ∙ judged_as now room

    run_over : (image : List ℕ) (room : ℕ) → run_of s (snoc bs b) image room ≡ performed (judge_of s (read_as m) image room) (length (snoc bs b))
    unfolding run_of
    run_over image room =
        cond-true (accepted_of s) (feed s (snoc bs b) image room) (performed (gives 8 s) 0) (is_true (accepted_of s) t)
        ∙ (frame_reads [] []).runs image room
        ∙ ap (λ (o : Outcome). performed o (length (snoc bs b))) (judged_as image room)

  in_a_run : (image : List ℕ) (room : ℕ) → run_of s (encode_of m) image room ≡ performed (judge_of s (read_as m) image room) (length (encode_of m))
  in_a_run image room =
      let l = frame_ends m in
      subst (λ (x : List ℕ). run_of s x image room ≡ performed (judge_of s (read_as m) image room) (length x)) (sym l.is) (run_over l.front l.last l.is image room)

  pub read_back : ReadBack m s
  read_back = record { waits = λ bs b e image buffer. (frame_reads bs b e image buffer).waits; judged = judged; in_a_run = in_a_run }
