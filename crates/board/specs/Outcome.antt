-- What a call gives (docs/RULES.md N0 to N14): both equations of a call's contract are read off one
-- outcome.
-- Assumes nothing.
use Rattle.std.specs.Prelude.{Bool, cond, ◌&&◌, List, [], ℕ, leb, eqb, length, Result, Ok, Err}
use Rattle.wire.specs.Lists.{same_list}
use Rattle.wire.specs.Buffer.{overwrite}
use Rattle.wire.specs.Replies.{Sent, number_of, told}
use Rattle.wire.specs.declared.Refusal.{Refusal}
use Rattle.state.specs.Same.{same_state}
use Rattle.state.specs.declared.State.{State}
use Rattle.board.specs.declared.Answer.{Answer}

-- its number, the new record, and the bytes of its answer
pub record Outcome : Type 0 where
  pub number : ℕ
  pub state : State
  pub answer : List ℕ

-- whether two are the same: the test of the tables of cases
abbrev pub same_outcome : Outcome → Outcome → Bool
same_outcome a b = eqb a.number b.number && (same_state a.state b.state && same_list a.answer b.answer)

-- this number and record, and no answer bytes: every number but 0, and 0 where the call has none
abbrev pub gives : ℕ → State → Outcome
gives n s = record { number = n; state = s; answer = [] }

-- 0 with these bytes
abbrev pub answers : List ℕ → State → Outcome
answers bytes s = record { number = 0; state = s; answer = bytes }

-- the bytes, or 7 where they are longer than the room (N7)
abbrev pub fitted : List ℕ → ℕ → State → Outcome
fitted bytes room s = cond (leb (length bytes) room) (answers bytes s) (gives 7 s)

-- a number, the length of what was written at the buffer's start, and the new record
pub record Told : Type 0 where
  pub number : ℕ
  pub length : ℕ
  pub state : State

-- what an answer tells
abbrev pub told_answer : Answer → Told
told_answer a = record { number = (told a.sent).number; length = (told a.sent).length; state = a.state }

-- the number of a result: 0, or its refusal's
abbrev pub number_in : {A : Type 0} → Result A Refusal → ℕ
number_in (Ok a) = 0
number_in (Err r) = number_of r

-- what comes back
unfoldable pub answered : Outcome → Told
answered o = record { number = o.number; length = length o.answer; state = o.state }

-- and of a part of a call that leaves the record to the rest of it
unfoldable pub sent_as : Outcome → Sent
sent_as o = record { number = o.number; length = length o.answer }

-- the lent buffer at exit: the answer at its start, and behind it what was there (N14)
unfoldable pub written : Outcome → List ℕ → List ℕ
written o buffer = overwrite o.answer buffer
