-- The run table (docs/RULES.md R1 to R5): where a run of 128s has its first opcode.
-- Assumes nothing.
use Rattle.std.specs.Prelude.{Bool, not, cond, ◌&&◌, List, [], ◌∷◌, map, ℕ, ◌+◌, ◌-◌, eqb, get_or, replicate}
use Rattle.wire.specs.Lists.{all, up_to_true, among}
use Rattle.frame.specs.Push.{empty_partial, after_of, begins_frame, opcodes}
use Rattle.frame.specs.declared.Partial.{Partial}

-- the table's first column: how far a frame has come
pub data Progress : Type 0 where
  nothing : Progress
  -- the length is known
  known : Progress
  -- one of these opcodes begins the frame, n bytes of it have come, and the length isn't known
  begun : List ℕ → ℕ → Progress

-- a row: what is held, and the byte named, k being the number remaining
pub record RunRow : Type 0 where
  pub progress : Progress
  pub byte : ℕ → ℕ

abbrev row : Progress → (ℕ → ℕ) → RunRow
row p f = record { progress = p; byte = f }

-- rules R1 to R5, in their order
abbrev pub run_table : List RunRow
run_table =
    row nothing (λ k. 1)
    ∷ row known (λ k. k + 1)
    ∷ row (begun (148 ∷ 149 ∷ 152 ∷ []) 1) (λ k. 130)
    ∷ row (begun (140 ∷ []) 2) (λ k. 258)
    ∷ row (begun (140 ∷ []) 1) (λ k. 259)
    ∷ []

-- a row speaks of this partial frame
abbrev pub is_at : Progress → Partial → Bool
is_at nothing p = begins_frame p
is_at known p = not (eqb p.remaining 0)
is_at (begun ops n) p = eqb p.remaining 0 && (eqb p.count n && among ops (get_or p.bytes 0 0))

-- the byte that the rows name; no row speaks of some frames that are not reachable
abbrev pub named : List RunRow → Partial → ℕ
named [] p = 1
named (r ∷ rs) p = cond (is_at r.progress p) (r.byte p.remaining) (named rs p)

-- the bytes of a run of 128s that come before the byte named
unfoldable pub until_opcode : Partial → ℕ
until_opcode p = named run_table p - 1

-- ---- the table against the cut: each row is run

-- lists of bytes after which a row speaks of what is held: each opcode of the row; for a known
-- length 1 (a 129 and a 136), 4, 255 and 510 bytes remaining
abbrev pub samples : Progress → List (List ℕ)
samples nothing = [] ∷ []
samples known = (129 ∷ []) ∷ (136 ∷ []) ∷ (137 ∷ []) ∷ (152 ∷ 255 ∷ []) ∷ (140 ∷ 0 ∷ 255 ∷ []) ∷ []
samples (begun ops n) = map (λ op. op ∷ replicate (n - 1) 0) ops

-- after these bytes the row speaks of what is held, and a run of 128s has its first opcode where
-- the row says
abbrev pub runs : RunRow → List ℕ → Bool
runs r bs =
    let p = after_of empty_partial bs in
    is_at r.progress p && eqb (up_to_true (opcodes p (replicate 511 128))) (r.byte p.remaining)

abbrev pub row_runs : RunRow → Bool
row_runs r = all (runs r) (samples r.progress)
