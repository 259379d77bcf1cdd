-- What the cut guarantees: the theorems of this crate.
-- Assumes nothing.
use Rattle.std.specs.Prelude.{◌≡◌, true, false, cond, List, [], ◌∷◌, ◌++◌, ℕ, ◌-◌, ◌≤◌, ◌<◌, T, leb, ltb, length, get_or, take, replicate}
use Rattle.wire.specs.Lists.{all, all_from, snoc, all_bytes}
use Rattle.frame.specs.FrameTable.{data_length, data_bytes}
use Rattle.frame.specs.Push.{header_of, frame_size, stores_body, push_of, stored, empty_partial, next_of, after_of, begins_frame, opcodes, completed}
use Rattle.frame.specs.Reach.{is_array, reachable_of}
use Rattle.frame.specs.RunTable.{run_table, until_opcode, row_runs}
use Rattle.frame.specs.Cases.{frame_cases, case_right, opcode_right, count_right}
use Rattle.frame.specs.declared.Partial.{Partial}

-- THEOREM: the cut in numbers
pub record CutInNumbers : Type 0 where
  pub cases_right : T (all case_right frame_cases)
  pub opcodes_right : T (all_from opcode_right 0 256)
  pub counts_right : T (all_from count_right 0 256)

-- THEOREM: a frame is an opcode and as many data bytes as the frame table says, whatever they are
pub record CutByTable : Type 0 where
  -- none of them is read as an opcode, and after the last the partial frame is empty
  pub data_not_opcodes : (op : ℕ) (ds : List ℕ) → length ds ≡ data_bytes (data_length op) (op ∷ ds)
      → opcodes empty_partial (op ∷ ds) ≡ true ∷ replicate (length ds) false
  pub then_empty : (op : ℕ) (ds : List ℕ) → length ds ≡ data_bytes (data_length op) (op ∷ ds) → after_of empty_partial (op ∷ ds) ≡ empty_partial
  -- a frame of which the first bytes bs have come is finished first, by the rest of it
  pub rest_not_opcodes : (bs ds : List ℕ) → 0 < length bs → length (bs ++ ds) ≡ frame_size (bs ++ ds)
      → opcodes (after_of empty_partial bs) ds ≡ replicate (length ds) false
  pub rest_then_empty : (bs ds : List ℕ) → 0 < length bs → length (bs ++ ds) ≡ frame_size (bs ++ ds) → after_of (after_of empty_partial bs) ds ≡ empty_partial
  -- and every later frame is cut in the same way
  pub opcodes_append : (p : Partial) (bs cs : List ℕ) → opcodes p (bs ++ cs) ≡ opcodes p bs ++ opcodes (after_of p bs) cs
  pub after_append : (p : Partial) (bs cs : List ℕ) → after_of p (bs ++ cs) ≡ after_of (after_of p bs) cs

-- THEOREM: what holds of what a byte leaves, of every partial frame, reachable or not
pub record EveryPush : Type 0 where
  -- it has 35 places, each a byte
  pub stays_array : (p : Partial) (b : ℕ) → T (is_array p) → b < 256 → T (is_array (push_of p b).partial)
  -- a full frame stores nothing more
  pub full_stays : (p : Partial) (b : ℕ) → 35 ≤ p.count → ((push_of p b).partial.bytes ≡ p.bytes) × ((push_of p b).partial.count ≡ p.count)
  -- of a complete frame nothing remains
  pub complete_done : (p : Partial) (b : ℕ) → (push_of p b).complete ≡ true → (push_of p b).partial.remaining ≡ 0

-- what is kept of a frame's bytes (H2 to H5): all, or, past its legal count and in a 152, those up
-- to the count byte
abbrev pub kept_of : List ℕ → List ℕ
kept_of bs = cond (stores_body bs) bs (take (header_of bs) bs)

-- how many bytes are still to come (H6): 0 until the length is known
abbrev pub remaining_of : List ℕ → ℕ
remaining_of bs = cond (ltb (length bs) (header_of bs)) 0 (frame_size bs - length bs)

-- the partial frame that a frame's first bytes leave
abbrev pub partial_of : List ℕ → Partial
partial_of bs = stored (kept_of bs) (remaining_of bs)

-- THEOREM: what is kept of a frame is stored as it was sent
pub record StoredAsSent : Type 0 where
  -- between two bytes
  pub partial_as_sent : (bs : List ℕ) → T (all_bytes bs) → 0 < length bs → length bs < frame_size bs → after_of empty_partial bs ≡ partial_of bs
  -- at the last byte, b; bs is empty for a frame of one byte
  pub complete_as_sent : (bs : List ℕ) (b : ℕ) → T (all_bytes bs) → length (snoc bs b) ≡ frame_size (snoc bs b)
      → push_of (after_of empty_partial bs) b ≡ record { partial = partial_of (snoc bs b); complete = true }

-- no byte of the list completes a frame but the last one, b
abbrev pub CompleteAtLast : List ℕ → ℕ → Type 0
CompleteAtLast bs b = completed empty_partial (snoc bs b) ≡ replicate (length bs) false ++ (true ∷ [])

-- THEOREM: a list of bytes completes a frame at its last byte, and not before, exactly when it is
-- as long as the frame that it begins
pub record CompleteExactly : Type 0 where
  pub sized_completes : (bs : List ℕ) (b : ℕ) → T (all_bytes bs) → length (snoc bs b) ≡ frame_size (snoc bs b) → CompleteAtLast bs b
  pub completes_sized : (bs : List ℕ) (b : ℕ) → T (all_bytes bs) → CompleteAtLast bs b → length (snoc bs b) ≡ frame_size (snoc bs b)

-- some list of bytes leaves this partial frame, from nothing
pub record LeftBySome (p : Partial) : Type 0 where
  pub list : List ℕ
  pub small : T (all_bytes list)
  pub leaves : after_of empty_partial list ≡ p
  -- the list is the first bytes of one frame
  pub unfinished : 0 < length list → length list < frame_size list

-- THEOREM: `reachable_of` holds of what any list of bytes leaves from nothing, and of nothing else
pub record ReachableExact : Type 0 where
  pub of_all : (bs : List ℕ) → T (all_bytes bs) → T (reachable_of (after_of empty_partial bs))
  pub of_no_other : (p : Partial) → T (reachable_of p) → LeftBySome p
  -- so at most 34 of the 35 places are in use between two bytes
  pub places_le : (p : Partial) → T (reachable_of p) → p.count ≤ 34

-- THEOREM: the run of 128s
pub record RunTableRight : Type 0 where
  -- each row of the run table, run
  pub rows_run : T (all row_runs run_table)
  -- every byte keeps `reachable_of`
  pub stays_reachable : (p : Partial) (b : ℕ) → T (reachable_of p) → b < 256 → T (reachable_of (next_of p b))
  -- a 128 takes n to n - 1, and 0 stays 0
  pub one_less : (p : Partial) → T (reachable_of p) → until_opcode (next_of p 128) ≡ until_opcode p - 1
  -- and completes the frame exactly where that was at most 1
  pub completes : (p : Partial) → T (reachable_of p) → (push_of p 128).complete ≡ leb (until_opcode p) 1
  -- of n bytes 128, byte k, counted from 0, is read as an opcode exactly when `until_opcode` is at
  -- most k
  pub opcode_at : (n k : ℕ) (p : Partial) → T (reachable_of p) → k < n → get_or (opcodes p (replicate n 128)) k false ≡ leb (until_opcode p) k
  -- at most 510 bytes remain, so that 511 bytes are enough
  pub remaining_le : (p : Partial) → T (reachable_of p) → p.remaining ≤ 510
  pub enough : (p : Partial) → T (reachable_of p) → get_or (opcodes p (replicate 511 128)) 510 false ≡ true

-- 140 s 255, with k bytes remaining
abbrev pub long_song : ℕ → ℕ → Partial
long_song s k = stored (140 ∷ s ∷ 255 ∷ []) k

-- THEOREM: the bytes that remain are all needed, whatever their values, of every partial frame,
-- reachable or not
pub record RemainingNeeded : Type 0 where
  -- none of them is read as an opcode
  pub not_opcodes : (p : Partial) (bs : List ℕ) → 0 < p.remaining → length bs ≤ p.remaining → opcodes p bs ≡ replicate (length bs) false
  -- each takes the number to one less
  pub still_remain : (p : Partial) (bs : List ℕ) → length bs < p.remaining → (after_of p bs).remaining ≡ p.remaining - length bs
  -- the last of them ends the frame
  pub last_ends : (p : Partial) (bs : List ℕ) → 0 < p.remaining → length bs ≡ p.remaining → after_of p bs ≡ empty_partial
  -- so from 140 s 255 with k bytes remaining k bytes come before the next opcode; each such frame
  -- is reachable
  pub song_needs : (s k : ℕ) (bs : List ℕ) → 0 < k → begins_frame (after_of (long_song s k) bs) ≡ true → k ≤ length bs
  pub song_reachable : (s k : ℕ) → s < 256 → 0 < k → k ≤ 510 → T (reachable_of (long_song s k))
  -- and no other frame has 510 bytes remaining
  pub only_song : (p : Partial) → T (reachable_of p) → p.remaining ≡ 510 → p ≡ long_song (get_or p.bytes 1 0) 510
