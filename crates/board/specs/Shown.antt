-- The shown cases, docs/RULES.md W1 to W13, as one table that a board is held against; and boards
-- that it rejects (docs/RULES.md Q9). What the cases expect is written out, and cites no rule.
-- Assumes nothing.
use Rattle.std.specs.Prelude.{Bool, not, cond, ◌&&◌, ℕ, ◌-◌, eqb, pos, length, take, replicate}
use mathlib.Core.List.{List, [], ◌∷◌, ◌++◌, map, flat_map}
use Rattle.wire.specs.Lists.{all, span, padded, same_list}
use Rattle.wire.specs.Sixteen.{minus}
use Rattle.frame.specs.Push.{stored}
use Rattle.state.specs.State.{with_mode, with_partial, with_wheels, with_list, with_streaming, to_passive}
use Rattle.state.specs.Same.{same_state}
use Rattle.state.specs.declared.State.{State}
use Rattle.board.specs.Outcome.{gives}
use Rattle.board.specs.Calls.{Performed, performed, run_of, Call, byte, run, report, tick, song_end, Board, perform}
use Rattle.board.specs.EffectTable.{sample_record, sample_image}

-- ---- rows

-- a call, and its number, how many bytes it reads, and its answer
pub record Step : Type 0 where
  pub call : Call
  pub number : ℕ
  pub read : ℕ
  pub answer : List ℕ

abbrev step : Call → ℕ → ℕ → List ℕ → Step
step c n read answer = record { call = c; number = n; read = read; answer = answer }

-- a list of calls from a record, and the record after it
pub record Row : Type 0 where
  pub start : State
  pub steps : List Step
  pub end : State

abbrev from : State → List Step → State → Row
from s steps t = record { start = s; steps = steps; end = t }

abbrev step_right : Step → Performed → Bool
step_right x p = eqb p.outcome.number x.number && (eqb p.read x.read && same_list p.outcome.answer x.answer)

abbrev steps_right : Board → State → List Step → State → Bool
steps_right board s [] t = same_state s t
steps_right board s (x ∷ xs) t = let p = board s x.call in step_right x p && steps_right board p.outcome.state xs t

abbrev row_passes : Board → Row → Bool
row_passes board r = steps_right board r.start r.steps r.end

-- ---- bytes

-- a byte, and the number that it gives
pub record Fed : Type 0 where
  pub byte : ℕ
  pub number : ℕ

infix 80 ◌giving◌
abbrev ◌giving◌ : ℕ → ℕ → Fed
b giving n = record { byte = b; number = n }

-- bytes that wait, and a last one with its number
abbrev waiting : List ℕ → Fed → List Fed
waiting bs x = map (λ b. b giving 9) bs ++ (x ∷ [])

-- bytes from a record, with this room, the answer of the last of them, and the record after it
pub record ByteCase : Type 0 where
  pub start : State
  pub room : ℕ
  pub fed : List Fed
  pub answer : List ℕ
  pub end : State

abbrev feeding : State → List Fed → State → ByteCase
feeding s xs t = record { start = s; room = 0; fed = xs; answer = []; end = t }

-- the record as it was
abbrev refusing : State → List Fed → ByteCase
refusing s xs = feeding s xs s

abbrev answering : State → ℕ → List Fed → List ℕ → ByteCase
answering s room xs bytes = record { start = s; room = room; fed = xs; answer = bytes; end = s }

-- the number of the last, and 9 for none
abbrev last_of : List Fed → ℕ
last_of [] = 9
last_of (x ∷ []) = x.number
last_of (x ∷ (y ∷ ys)) = last_of (y ∷ ys)

abbrev lent : ByteCase → List ℕ
lent c = replicate c.room 255

-- one by one; a byte that waits has no answer
abbrev by_bytes : ByteCase → Row
by_bytes c =
    from c.start (map (λ x. step (byte x.byte sample_image (lent c)) x.number 1 (cond (eqb x.number 9) [] c.answer)) c.fed) c.end

-- as one run over a slice in which these bytes follow; they are not read
abbrev by_run : List ℕ → ByteCase → Row
by_run more c =
    let bs = map (λ x. x.byte) c.fed in
    from c.start (step (run (bs ++ more) sample_image (lent c)) (last_of c.fed) (length bs) c.answer ∷ []) c.end

-- one by one, as one run, and, where the last byte ends its frame, as a run that leaves
-- bytes unread
abbrev expanded : ByteCase → List Row
expanded c = by_bytes c ∷ by_run [] c ∷ cond (eqb (last_of c.fed) 9) [] (by_run (128 ∷ 132 ∷ []) c ∷ [])

-- ---- W1 to W13

-- a record of this mode with a value in every part, and nothing held
abbrev ready : ℕ → State
ready mode = with_partial (stored [] 0) (sample_record mode)

abbrev w1 : ByteCase
w1 = feeding (ready 0) (128 giving 0 ∷ []) (with_mode 1 (ready 0))

abbrev w3 : ByteCase
w3 = feeding (ready 2) (waiting (137 ∷ 255 ∷ 56 ∷ 1 ∷ []) (244 giving 0)) (with_wheels 1 (minus 200) (pos 500) (ready 2))

abbrev w4 : ByteCase
w4 = refusing (ready 1) (waiting (137 ∷ 255 ∷ 56 ∷ 1 ∷ []) (244 giving 3))

-- the status in Passive: song 3, not playing, a list of 2, no order
abbrev w11_bytes : List ℕ
w11_bytes = span 100 40 ++ (1 ∷ 3 ∷ 0 ∷ 2 ∷ replicate 8 0)

abbrev w11 : ByteCase
w11 = answering (ready 1) 52 (142 giving 9 ∷ 6 giving 0 ∷ []) w11_bytes

-- not streaming
abbrev paused : State
paused = with_streaming 0 (ready 1)

abbrev byte_cases : List ByteCase
byte_cases =
    w1
    -- W2
    ∷ refusing (ready 0) (131 giving 3 ∷ [])
    ∷ w3
    ∷ w4
    -- W5
    ∷ feeding (ready 2) (waiting (137 ∷ 0 ∷ 100 ∷ 128 ∷ []) (0 giving 0)) (with_wheels 1 (pos 100) (minus 32768) (ready 2))
    -- W6
    ∷ feeding (ready 3) (waiting (145 ∷ 1 ∷ 244 ∷ 254 ∷ []) (12 giving 0)) (with_wheels 2 (pos 500) (minus 500) (ready 3))
    -- W7
    ∷ refusing (ready 3) (waiting (145 ∷ 1 ∷ 245 ∷ 0 ∷ []) (0 giving 4))
    -- W8
    ∷ refusing (ready 1) (140 giving 9 ∷ 0 giving 9 ∷ 0 giving 4 ∷ [])
    -- W9
    ∷ feeding (ready 1) (140 giving 9 ∷ 0 giving 9 ∷ 255 giving 9 ∷ []) (with_partial (stored (140 ∷ 0 ∷ 255 ∷ []) 510) (ready 1))
    -- W10
    ∷ answering (ready 1) 0 (149 giving 9 ∷ 0 giving 0 ∷ []) []
    -- W11
    ∷ answering (ready 1) 51 (142 giving 9 ∷ 6 giving 7 ∷ []) []
    ∷ w11
    -- W12
    ∷ feeding paused (waiting (148 ∷ 4 ∷ 6 ∷ 6 ∷ 6 ∷ []) (6 giving 0)) (with_streaming 1 (with_list 4 (padded 16 (6 ∷ 6 ∷ 6 ∷ 6 ∷ [])) paused))
    ∷ refusing paused (waiting (148 ∷ 5 ∷ 6 ∷ 6 ∷ 6 ∷ 6 ∷ []) (6 giving 4))
    ∷ []

-- the bytes for 29 are 2 25, and for 13 it is 0
abbrev w13_image : List ℕ
w13_image = span 100 6 ++ (0 ∷ (span 107 23 ++ (2 ∷ 25 ∷ span 132 8)))

abbrev w13_chunk : List ℕ
w13_chunk = 19 ∷ 5 ∷ 29 ∷ 2 ∷ 25 ∷ 13 ∷ 0 ∷ 182 ∷ []

-- W13, with room for it alone
abbrev w13 : Row
w13 = from (ready 1) (step (tick w13_image (replicate 8 255)) 0 0 w13_chunk ∷ []) (ready 1)

abbrev pub shown_cases : List Row
shown_cases = flat_map expanded byte_cases ++ (w13 ∷ [])

-- ---- the test

abbrev pub board_passes : Board → List Row → Bool
board_passes board rows = all (row_passes board) rows

-- ---- wrong boards

-- with another number; with another record
abbrev numbered : ℕ → Performed → Performed
numbered n p = performed (record { number = n; state = p.outcome.state; answer = p.outcome.answer }) p.read

abbrev leaving : State → Performed → Performed
leaving s p = performed (record { number = p.outcome.number; state = s; answer = p.outcome.answer }) p.read

abbrev refuses_all : Board
refuses_all s c = performed (gives 4 s) (perform s c).read

abbrev stays_passive : Board
stays_passive s c = let p = perform s c in leaving (to_passive p.outcome.state) p

-- a byte that waits gives 9
abbrev always_zero : Board
always_zero s c = let p = perform s c in cond (eqb p.outcome.number 9) p (numbered 0 p)

abbrev pub does_nothing : Board
does_nothing s c = let p = perform s c in performed (gives p.outcome.number s) p.read

-- right in all but its answers, which are empty
abbrev answers_nothing : Board
answers_nothing s c = let p = perform s c in performed (gives p.outcome.number p.outcome.state) p.read

-- right in all but its runs
abbrev running_by : (State → List ℕ → List ℕ → List ℕ → Performed) → Board
running_by f s (byte b image buffer) = perform s (byte b image buffer)
running_by f s (run bs image buffer) = f s bs image buffer
running_by f s (report drop cliff charger) = perform s (report drop cliff charger)
running_by f s (tick image buffer) = perform s (tick image buffer)
running_by f s song_end = perform s song_end

-- a run looks at its first byte alone, and counts them all
abbrev pub first_byte_only : Board
first_byte_only =
    running_by (λ s bs image buffer.
    let p = run_of s (take 1 bs) image (length buffer) in
    performed p.outcome (cond (eqb p.read 0) 0 (length bs)))

-- an invented count: the slice's length; one less than the bytes read
abbrev counts_slice : Board
counts_slice = running_by (λ s bs image buffer. performed (run_of s bs image (length buffer)).outcome (length bs))

abbrev counts_less : Board
counts_less = running_by (λ s bs image buffer. let p = run_of s bs image (length buffer) in performed p.outcome (p.read - 1))

-- a wrong board, and the case that rejects it; for a count it is W3, in a run that leaves bytes
-- unread
pub record Rejection : Type 0 where
  pub board : Board
  pub case : ByteCase

abbrev by : Board → ByteCase → Rejection
by board c = record { board = board; case = c }

abbrev pub rejections : List Rejection
rejections =
    by refuses_all w3
    ∷ by stays_passive w3
    ∷ by always_zero w4
    ∷ by does_nothing w1
    ∷ by answers_nothing w11
    ∷ by first_byte_only w3
    ∷ by counts_slice w3
    ∷ by counts_less w3
    ∷ []

abbrev pub rejects : Rejection → Bool
rejects r = not (all (row_passes r.board) (expanded r.case))
