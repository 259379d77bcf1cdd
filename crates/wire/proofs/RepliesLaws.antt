-- Laws of what a call that answers with bytes gives back.
-- Assumes nothing.
use mathlib.Core.Path.{◌≡◌, refl, sym, ap, ◌∙◌}
use mathlib.Core.Bool.{Bool, true, false}
use mathlib.Core.List.{List}
use mathlib.Core.Logic.{⊎_elim}
use Prim.Native.Nat.{ℕ, ◌≤◌, ◌<◌}
use native.Mathlib.Nat.{zero-add}
use native.Mathlib.Omega.{arith}
use lib.ListN.{length, take, drop}
use lib.Seq.{take-append_seam, drop-append_seam}
use borrow.Author.Tests.{le-leb, lt-leb}
use Rattle.wire.specs.Buffer.{overwrite, Put}
use Rattle.std.specs.Prelude.{Result, Ok}
use Rattle.wire.specs.Replies.{Reply, refused, wrote, Sent, told, reply_of, sent_of, left_in, Replied, RepliesRight}
use Rattle.wire.specs.declared.Refusal.{Refusal}
use Rattle.wire.proofs.BoolLaws.{le_or_lt}
use Rattle.wire.proofs.BufferLaws.{put_start}

module _ {legal : Bool} (bytes : List ℕ) (room : ℕ) where
  -- ---- reply_of, by its tests

  pub reply_4 : legal ≡ false → reply_of legal bytes room ≡ refused 4
  unfolding reply_of
  reply_4 e = rw e

  pub reply_7 : legal ≡ true → room < length bytes → reply_of legal bytes room ≡ refused 7
  unfolding reply_of
  reply_7 e h = simp (e, lt-leb (length bytes) room h)

  pub reply_0 : legal ≡ true → length bytes ≤ room → reply_of legal bytes room ≡ wrote bytes
  unfolding reply_of
  reply_0 e h = simp (e, le-leb (length bytes) room h)

-- ---- Replied: what each return asks

replied : {f : ℕ → Reply} {d d' : List ℕ} {sent : Result ℕ Refusal} (reply : Reply) → f (length d) ≡ reply
    → told sent ≡ sent_of reply → d' ≡ left_in reply d → Replied f d d' sent
replied {d = d} reply e a b = record { sent = a ∙ ap sent_of (sym e); buffer = b ∙ ap (λ (r : Reply). left_in r d) (sym e) }

module _ {legal : Bool} (bytes d : List ℕ) where
  pub replied_4 : {sent : Result ℕ Refusal} → told sent ≡ sent_of (refused 4) → legal ≡ false → Replied (reply_of legal bytes) d d sent
  replied_4 s e = replied (refused 4) (reply_4 bytes (length d) e) s refl

  pub replied_7 : {sent : Result ℕ Refusal} → told sent ≡ sent_of (refused 7) → legal ≡ true → length d < length bytes → Replied (reply_of legal bytes) d d sent
  replied_7 s e h = replied (refused 7) (reply_7 bytes (length d) e h) s refl

  pub replied_0 : {d' : List ℕ} {r : ℕ} → legal ≡ true → length bytes ≤ length d → Put bytes 0 d d' r
      → Replied (reply_of legal bytes) d d' (Ok r)
  replied_0 e h x =
      replied (wrote bytes) (reply_0 bytes (length d) e h)
      (ap (λ (n : ℕ). record { number = 0; length = n }) (x.next ∙ zero-add (length bytes)))
      (put_start x)

-- ---- what the contract tells

by_tests : (P : Type 0) (legal : Bool) (bytes d : List ℕ) → (legal ≡ false → P)
    → (legal ≡ true → length d < length bytes → P) → (legal ≡ true → length bytes ≤ length d → P) → P
by_tests P true bytes d a b c = ⊎_elim (c refl) (b refl) (le_or_lt (length bytes) (length d))
by_tests P false bytes d a b c = a refl

module _ (legal : Bool) (bytes d d' : List ℕ) (result : Result ℕ Refusal) (x : Replied (reply_of legal bytes) d d' result) where
  -- what the contract says of a reply
  abbrev Says : Reply → Type 0
  Says reply = (told result ≡ sent_of reply) × (d' ≡ left_in reply d)

  says : {reply : Reply} → reply_of legal bytes (length d) ≡ reply → Says reply
  says e = (x.sent ∙ ap sent_of e, x.buffer ∙ ap (λ (r : Reply). left_in r d) e)

  number : {reply : Reply} → reply_of legal bytes (length d) ≡ reply → (told result).number ≡ (sent_of reply).number
  number e = ap (λ (r : Sent). r.number) (says e).0

  -- 0 is said of the bytes alone
  done : (told result).number ≡ 0 → Says (wrote bytes)
  done n =
      by_tests (Says (wrote bytes)) legal bytes d
      (λ e. absurd (let m = number (reply_4 bytes (length d) e) in omega arith))
      (λ e h. absurd (let m = number (reply_7 bytes (length d) e h) in omega arith))
      (λ e h. says (reply_0 bytes (length d) e h))

  -- and any other number of a refusal
  refusal : ((told result).number ≡ 0 → ⊥) → ((told result).length ≡ 0) × (d' ≡ d)
  refusal n =
      by_tests (((told result).length ≡ 0) × (d' ≡ d)) legal bytes d
      (λ e. nothing (says (reply_4 bytes (length d) e)))
      (λ e h. nothing (says (reply_7 bytes (length d) e h)))
      (λ e h. absurd (n (number (reply_0 bytes (length d) e h))))
    where
      nothing : {m : ℕ} → Says (refused m) → ((told result).length ≡ 0) × (d' ≡ d)
      nothing s = (ap (λ (r : Sent). r.length) s.0, s.1)

pub replies_right : RepliesRight
unfolding overwrite
replies_right legal bytes d d' result x =
    record {
      number_4 = λ e. number legal bytes d d' result x (reply_4 bytes (length d) e);
      number_7 = λ e h. number legal bytes d d' result x (reply_7 bytes (length d) e h);
      number_0 = λ e h. number legal bytes d d' result x (reply_0 bytes (length d) e h);
      done_length = λ n. ap (λ (r : Sent). r.length) (done legal bytes d d' result x n).0;
      done_bytes = λ n. ap (take (length bytes)) (done legal bytes d d' result x n).1 ∙ take-append_seam bytes (drop (length bytes) d);
      done_rest = λ n. ap (drop (length bytes)) (done legal bytes d d' result x n).1 ∙ drop-append_seam bytes (drop (length bytes) d);
      refused_length = λ n. (refusal legal bytes d d' result x n).0;
      refused_buffer = λ n. (refusal legal bytes d d' result x n).1;
    }
