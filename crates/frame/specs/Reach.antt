-- The partial frames that bytes can leave (docs/RULES.md B14).
-- Assumes nothing.
use Rattle.std.specs.Prelude.{Bool, not, cond, ◌&&◌, ◌-◌, leb, ltb, eqb, drop}
use Rattle.wire.specs.Lists.{all_zero, byte_array}
use Rattle.frame.specs.Push.{header_of, body_size, stores_body}
use Rattle.frame.specs.declared.Partial.{Partial}

-- true of every value of the type: 35 places, each a byte
abbrev pub is_array : Partial → Bool
is_array p = byte_array 35 p.bytes

-- a place not in use is 0 (H1)
abbrev pub unused_zero : Partial → Bool
unused_zero p = all_zero (drop p.count p.bytes)

-- the bytes that remain are some of the body's
abbrev pub remaining_fits : Partial → Bool
remaining_fits p = leb p.remaining (body_size p.bytes)

-- as many bytes are stored after the header as of the body came
abbrev pub body_stored : Partial → Bool
body_stored p = eqb (p.count - header_of p.bytes) (body_size p.bytes - p.remaining)

-- the header alone is stored
abbrev pub header_alone : Partial → Bool
header_alone p = eqb p.count (header_of p.bytes)

-- the length is known: the frame is not complete, and as much of it is stored as is kept
abbrev pub body_begun : Partial → Bool
body_begun p =
    not (eqb p.remaining 0) && (remaining_fits p && cond (stores_body p.bytes) (body_stored p) (header_alone p))

-- nothing remains until the length is known (H6)
abbrev pub remaining_right : Partial → Bool
remaining_right p = cond (ltb p.count (header_of p.bytes)) (eqb p.remaining 0) (body_begun p)

unfoldable pub reachable_of : Partial → Bool
reachable_of p = is_array p && (unused_zero p && remaining_right p)
