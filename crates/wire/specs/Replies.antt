-- What a call that answers with bytes gives back: a refusal with its number, or the bytes
-- (docs/RULES.md N0 to N9, N13, N14).
-- Assumes nothing.
use Rattle.std.specs.Prelude.{◌≡◌, Bool, true, false, cond, List, ℕ, ◌≤◌, ◌<◌, leb, length, take, drop, Result, Ok, Err}
use Rattle.wire.specs.Buffer.{overwrite}
use Rattle.wire.specs.declared.Refusal.{Refusal}
use Rattle.wire.specs.declared.Refusal.TheVariants as refusal

pub data Reply : Type 0 where
  refused : ℕ → Reply
  wrote : List ℕ → Reply

-- 4 where the data are not legal, and else 7 where the bytes are longer than the room, the length
-- of the lent buffer; else the bytes
unfoldable pub reply_of : Bool → List ℕ → ℕ → Reply
reply_of legal bytes room = cond legal (cond (leb (length bytes) room) (wrote bytes) (refused 7)) (refused 4)

-- rules N1 to N9: the number of a refusal
abbrev pub number_of : Refusal → ℕ
number_of refusal.Unknown = 1
number_of refusal.NotOffered = 2
number_of refusal.WrongMode = 3
number_of refusal.NotLegal = 4
number_of refusal.NoSong = 5
number_of refusal.Busy = 6
number_of refusal.NoRoom = 7
number_of refusal.BadRecord = 8
number_of refusal.Waiting = 9

-- a number, and the length of what was written at the buffer's start
pub record Sent : Type 0 where
  pub number : ℕ
  pub length : ℕ

-- what a call's result tells: 0 and its length (N0), or its refusal's number and length 0 (N13)
abbrev pub told : Result ℕ Refusal → Sent
told (Ok n) = record { number = 0; length = n }
told (Err r) = record { number = number_of r; length = 0 }

-- what comes back: a refusal's number with length 0, or 0 with the length of the bytes
abbrev pub sent_of : Reply → Sent
sent_of (refused n) = record { number = n; length = 0 }
sent_of (wrote bytes) = record { number = 0; length = length bytes }

-- the buffer after it: a refusal leaves it as it was, and the bytes stand at its start
abbrev pub left_in : Reply → List ℕ → List ℕ
left_in (refused n) buffer = buffer
left_in (wrote bytes) buffer = overwrite bytes buffer

-- the one contract of a call that answers with bytes: its result, and the buffer `after` that was
-- `before`; the reply is by the room there
pub record Replied (reply : ℕ → Reply) (before after : List ℕ) (result : Result ℕ Refusal) : Type 0 where
  pub sent : told result ≡ sent_of (reply (length before))
  pub buffer : after ≡ left_in (reply (length before)) before

-- what holds of a call that writes these bytes where its data are legal
pub record ReplyFacts (legal : Bool) (bytes before after : List ℕ) (result : Result ℕ Refusal) : Type 0 where
  -- each number exactly in its case
  pub number_4 : legal ≡ false → (told result).number ≡ 4
  pub number_7 : legal ≡ true → length before < length bytes → (told result).number ≡ 7
  pub number_0 : legal ≡ true → length bytes ≤ length before → (told result).number ≡ 0
  -- 0: the length is that of the bytes, which stand at the buffer's start, and what follows them is
  -- as it was
  pub done_length : (told result).number ≡ 0 → (told result).length ≡ length bytes
  pub done_bytes : (told result).number ≡ 0 → take (length bytes) after ≡ bytes
  pub done_rest : (told result).number ≡ 0 → drop (length bytes) after ≡ drop (length bytes) before
  -- any other number: length 0, and the buffer as it was
  pub refused_length : ((told result).number ≡ 0 → ⊥) → (told result).length ≡ 0
  pub refused_buffer : ((told result).number ≡ 0 → ⊥) → after ≡ before

-- THEOREM: they follow from the contract
abbrev pub RepliesRight : Type 0
RepliesRight =
    (legal : Bool) (bytes before after : List ℕ) (result : Result ℕ Refusal) → Replied (reply_of legal bytes) before after result
    → ReplyFacts legal bytes before after result
