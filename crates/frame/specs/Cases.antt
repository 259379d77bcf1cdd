-- The cut in numbers: worked cases, and what every opcode and every count byte announces. What they
-- expect is written out, and cites no table and no rule.
-- Assumes nothing.
use Rattle.std.specs.Prelude.{Bool, true, false, cond, ◌&&◌, ◌||◌, List, [], ◌∷◌, ◌++◌, ℕ, ◌-◌, ◌*◌, leb, eqb, get_or, replicate}
use Rattle.std.specs.Bool.{beq}
use Rattle.wire.specs.Lists.{all, among, snoc, same_list}
use Rattle.frame.specs.Push.{push_of, stored, empty_partial, after_of}
use Rattle.frame.specs.declared.Partial.{Partial}

-- after these bytes the last one leaves these stored, so many remaining, and the frame complete
-- or not
pub record FrameCase : Type 0 where
  pub before : List ℕ
  pub last : ℕ
  pub kept : List ℕ
  pub remaining : ℕ
  pub complete : Bool

-- a byte that ends its frame, and one that does not
abbrev ends : List ℕ → ℕ → List ℕ → FrameCase
ends bs b kept = record { before = bs; last = b; kept = kept; remaining = 0; complete = true }

abbrev goes_on : List ℕ → ℕ → List ℕ → ℕ → FrameCase
goes_on bs b kept n = record { before = bs; last = b; kept = kept; remaining = n; complete = false }

-- a byte after which the length is known
abbrev leaves : List ℕ → ℕ → List ℕ → ℕ → FrameCase
leaves bs b kept n = record { before = bs; last = b; kept = kept; remaining = n; complete = eqb n 0 }

-- bytes after the opcode; opcodes and counts have tables of their own below
abbrev pub frame_cases : List FrameCase
frame_cases =
    -- the number of a Demo is no opcode, not even 128
    ends (136 ∷ []) 255 (136 ∷ 255 ∷ [])
    ∷ ends (136 ∷ []) 128 (136 ∷ 128 ∷ [])
    -- W3: a Drive is kept whole
    ∷ goes_on (137 ∷ []) 255 (137 ∷ 255 ∷ []) 3
    ∷ ends (137 ∷ 255 ∷ 56 ∷ 1 ∷ []) 244 (137 ∷ 255 ∷ 56 ∷ 1 ∷ 244 ∷ [])
    -- 156 and 157 are read past at their last byte, and kept whole until then
    ∷ goes_on (156 ∷ []) 1 (156 ∷ 1 ∷ []) 1
    ∷ ends (156 ∷ 1 ∷ []) 2 (156 ∷ 1 ∷ 2 ∷ [])
    ∷ goes_on (157 ∷ []) 1 (157 ∷ 1 ∷ []) 1
    ∷ ends (157 ∷ 1 ∷ []) 2 (157 ∷ 1 ∷ 2 ∷ [])
    -- a song number
    ∷ goes_on (140 ∷ []) 0 (140 ∷ 0 ∷ []) 0
    -- illegal data under a legal count are kept
    ∷ goes_on (140 ∷ 16 ∷ 16 ∷ []) 60 (140 ∷ 16 ∷ 16 ∷ 60 ∷ []) 31
    ∷ goes_on (148 ∷ 16 ∷ []) 99 (148 ∷ 16 ∷ 99 ∷ []) 15
    ∷ goes_on (149 ∷ 16 ∷ []) 99 (149 ∷ 16 ∷ 99 ∷ []) 15
    ∷ []

abbrev same_partial : Partial → Partial → Bool
same_partial p q = same_list p.bytes q.bytes && (eqb p.count q.count && eqb p.remaining q.remaining)

abbrev pub case_right : FrameCase → Bool
case_right c =
    let r = push_of (after_of empty_partial c.before) c.last in
    same_partial r.partial (stored c.kept c.remaining) && beq r.complete c.complete

-- how many bytes remain after an opcode alone; for 140, 148, 149 and 152 a count is still to come
abbrev remain_after : List ℕ
remain_after =
    replicate 128 0
    -- 128 to 137
    ++ (0 ∷ 1 ∷ 0 ∷ 0 ∷ 0 ∷ 0 ∷ 0 ∷ 0 ∷ 1 ∷ 4
    -- 138 to 147
    ∷ 1 ∷ 3 ∷ 0 ∷ 1 ∷ 1 ∷ 0 ∷ 3 ∷ 4 ∷ 0 ∷ 1
    -- 148 to 158, and none after the others
    ∷ 0 ∷ 0 ∷ 1 ∷ 1 ∷ 0 ∷ 0 ∷ 0 ∷ 1 ∷ 2 ∷ 2 ∷ 1 ∷ [])

abbrev pub opcode_right : ℕ → Bool
opcode_right op =
    let n = get_or remain_after op 0 in
    case_right (cond (among (140 ∷ 148 ∷ 149 ∷ 152 ∷ []) op) goes_on leaves [] op (op ∷ []) n)

-- after these bytes a count leaves n to come, and the first of those is stored or not
abbrev announces : List ℕ → ℕ → ℕ → Bool → Bool
announces bs count n stores =
    let header = snoc bs count in
    case_right (leaves bs count header n)
    && (eqb n 0 || case_right (leaves header 7 (cond stores (snoc header 7) header) (n - 1)))

-- a count is that of the bytes to come, in a 140 half of it, whatever the song number; stored up to
-- 16, in a 152 never
abbrev pub count_right : ℕ → Bool
count_right n =
    all (λ op. announces (op ∷ []) n n (leb n 16)) (148 ∷ 149 ∷ [])
    && (announces (152 ∷ []) n n false
    && all (λ song. announces (140 ∷ song ∷ []) n (2 * n) (leb n 16)) (0 ∷ 255 ∷ []))
