-- One byte, pushed onto the partial frame, which is the held frame of docs/RULES.md H1 to H10. A
-- frame is its header, the bytes up to the one that gives its length, and its body, the data bytes
-- after that.
-- Assumes nothing.
use Rattle.std.specs.Prelude.{Bool, true, false, not, cond, ◌&&◌, List, [], ◌∷◌, ℕ, ◌+◌, ◌-◌, leb, ltb, eqb, length, get_or, set}
use Rattle.wire.specs.Lists.{padded}
use Rattle.frame.specs.FrameTable.{data_length, data_bytes, header_size}
use Rattle.frame.specs.declared.Length.{Length}
use Rattle.frame.specs.declared.Length.TheVariants.{Fixed, Counted, Song, Unknown}
use Rattle.frame.specs.declared.Partial.{Partial}
use Rattle.frame.specs.declared.Frame.{Frame}
use Rattle.frame.specs.declared.Frame.TheVariants.{Waits, Whole}

-- ---- the parts of a frame, by its first bytes

-- the frame's size, once the header is there: the opcode, and as many data bytes as the frame
-- table says
abbrev pub frame_size_as : Length → List ℕ → ℕ
frame_size_as l bytes = 1 + data_bytes l bytes

-- and the body's: what comes after the header
unfoldable pub body_size_as : Length → List ℕ → ℕ
body_size_as l bytes = frame_size_as l bytes - header_size l

-- the most that is legal, of the notes of a song and of the ids of a list (F11)
abbrev pub legal_count : ℕ → Bool
legal_count n = leb n 16

-- a 152: a script, which the board does not offer
abbrev pub is_script : List ℕ → Bool
is_script bytes = eqb (get_or bytes 0 0) 152

-- whether the body is stored: not past a legal count (H4), and not in a 152 (H5)
abbrev pub stores_body_as : Length → List ℕ → Bool
stores_body_as (Fixed n) bytes = true
stores_body_as Counted bytes = not (is_script bytes) && legal_count (get_or bytes 1 0)
stores_body_as Song bytes = legal_count (get_or bytes 2 0)
stores_body_as Unknown bytes = true

-- the frame that the bytes begin: its length, its header, its size, its body, and whether that
-- is stored
abbrev pub length_of : List ℕ → Length
length_of bytes = data_length (get_or bytes 0 0)

abbrev pub header_of : List ℕ → ℕ
header_of bytes = header_size (length_of bytes)

abbrev pub frame_size : List ℕ → ℕ
frame_size bytes = frame_size_as (length_of bytes) bytes

abbrev pub body_size : List ℕ → ℕ
body_size bytes = body_size_as (length_of bytes) bytes

abbrev pub stores_body : List ℕ → Bool
stores_body bytes = stores_body_as (length_of bytes) bytes

-- ---- a byte

-- what a byte leaves; complete where it was the frame's last
pub record Pushed : Type 0 where
  pub partial : Partial
  pub complete : Bool

-- what the code tells of it: a frame that waits, or a whole one
abbrev pub pushed_as : Frame → Pushed
pushed_as (Waits p) = record { partial = p; complete = false }
pushed_as (Whole p) = record { partial = p; complete = true }

-- the frame with one byte more; a full one, which no list of bytes leaves, stays as it is
abbrev pub append_of : Partial → ℕ → Partial
append_of p b = cond (leb 35 p.count) p (record { bytes = set p.bytes p.count b; count = p.count + 1; remaining = p.remaining })

-- a frame whose length was not known: it waits on, or its header is complete now, and so is the
-- frame where its body is empty
abbrev pub measure_of : Partial → Pushed
measure_of p =
    cond (ltb p.count (header_of p.bytes))
    (record { partial = p; complete = false })
    (record { partial = record { bytes = p.bytes; count = p.count; remaining = body_size p.bytes }; complete = eqb (body_size p.bytes) 0 })

-- one byte of the body: taken in every case, and stored where the body is
abbrev pub body_byte_of : Partial → ℕ → Pushed
body_byte_of p b =
    let q = cond (stores_body p.bytes) (append_of p b) p in
    record { partial = record { bytes = q.bytes; count = q.count; remaining = p.remaining - 1 }; complete = eqb p.remaining 1 }

-- while nothing is known to remain the byte is an opcode or another byte of the header; else it is
-- one of the body. On a frame that is not reachable, of which the rules say nothing (Q6), the two
-- numbers and the first bytes decide in the same way.
abbrev pub push_of : Partial → ℕ → Pushed
push_of p b = cond (eqb p.remaining 0) (measure_of (append_of p b)) (body_byte_of p b)

-- ---- bytes, one after the other

-- these bytes in the first of the 35 places, 0 in the others, and n remaining
abbrev pub stored : List ℕ → ℕ → Partial
stored bs n = record { bytes = padded 35 bs; count = length bs; remaining = n }

-- nothing is stored: nothing is half read (H7)
abbrev pub empty_partial : Partial
empty_partial = stored [] 0

-- what is left between two bytes: empty, where the byte completed a frame
unfoldable pub next_of : Partial → ℕ → Partial
next_of p b = cond (push_of p b).complete empty_partial (push_of p b).partial

-- what a list of bytes leaves
abbrev pub after_of : Partial → List ℕ → Partial
after_of p [] = p
after_of p (b ∷ bs) = after_of (next_of p b) bs

-- a byte that comes now begins a frame, and is its opcode (F1)
abbrev pub begins_frame : Partial → Bool
begins_frame p = eqb p.remaining 0 && eqb p.count 0

-- which bytes of a list are read as opcodes, by the cut alone
abbrev pub opcodes : Partial → List ℕ → List Bool
opcodes p [] = []
opcodes p (b ∷ bs) = begins_frame p ∷ opcodes (next_of p b) bs

-- which bytes of a list complete a frame, each pushed onto what those before it leave
abbrev pub completed : Partial → List ℕ → List Bool
completed p [] = []
completed p (b ∷ bs) = (push_of p b).complete ∷ completed (next_of p b) bs
