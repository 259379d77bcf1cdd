-- Lines of text, their words, and the numbers that words say.
-- Assumes nothing.
use Rattle.std.specs.Prelude.{◌≡◌, Bool, not, cond, ◌&&◌, ◌||◌, List, [], ◌∷◌, ℕ, ◌+◌, ◌-◌, ◌*◌, ◌≤◌, ◌<◌, min, leb, ltb, eqb, length, get_or, take, drop, Option, None, Some, IfSome, is_some, Result, Ok, Err}
use Rattle.std.specs.List.{prefix_len}
use Rattle.wire.specs.Lists.{all, within}
use Rattle.wire.specs.Buffer.{placed}
use Rattle.line.specs.declared.Number.{Number}
use Rattle.line.specs.declared.Number.TheVariants.{Plain, Minus}
use Rattle.line.specs.declared.NoNumber.{NoNumber}
use Rattle.line.specs.declared.NoNumber.TheVariants.{NotANumber, TooLarge}

-- ---- bytes

abbrev pub is_newline : ℕ → Bool
is_newline b = eqb b 10

-- a space, a tab, or the carriage return of a line that ends in two bytes
abbrev pub is_blank : ℕ → Bool
is_blank b = eqb b 32 || (eqb b 9 || eqb b 13)

-- ---- words

-- where a word is: the places of its first byte and after its last
pub record Span : Type 0 where
  pub start : ℕ
  pub end : ℕ

-- the next word from a place on: after the blanks, up to the next blank or the end. A place past
-- the end is the end.
abbrev pub word_from : List ℕ → ℕ → Span
word_from text from =
    let at = cond (leb from (length text)) from (length text) in
    let start = at + prefix_len is_blank (drop at text) in
    record { start = start; end = start + prefix_len (λ b. not (is_blank b)) (drop start text) }

-- no word from a place on: it would be empty, and stand at the end
abbrev pub NoWord : List ℕ → ℕ → Type 0
NoWord text from = word_from text from ≡ record { start = length text; end = length text }

-- the next word from a place on has these bytes, and the place `start`. It lies in the text, it is
-- not empty, and it does not stand before that place.
pub record IsWord (text : List ℕ) (from start : ℕ) (bytes : List ℕ) : Type 0 where
  pub found : word_from text from ≡ record { start = start; end = start + length bytes }
  pub lent : bytes ≡ take (length bytes) (drop start text)
  pub some : 0 < length bytes
  pub after : from ≤ start
  pub inside : start + length bytes ≤ length text

-- ---- numbers

-- the greatest number that is read as such
abbrev pub largest : ℕ
largest = 65535

-- what a byte is worth as a digit: 0 to 9, then A to F or a to f. One that is no digit is worth 16.
abbrev pub digit_value : ℕ → ℕ
digit_value b = cond (within 48 57 b) (b - 48) (cond (within 65 70 b) (b - 65 + 10) (cond (within 97 102 b) (b - 97 + 10) 16))

-- a digit of a base of at most 16
abbrev pub is_digit : ℕ → ℕ → Bool
is_digit base b = ltb (digit_value b) base

-- the number that digits of a base say; acc is that of the digits before
abbrev pub value_from : ℕ → ℕ → List ℕ → ℕ
value_from base acc [] = acc
value_from base acc (d ∷ ds) = value_from base (acc * base + digit_value d) ds

-- at least one digit, and nothing else
abbrev pub are_digits : ℕ → List ℕ → Bool
are_digits base ds = not (eqb (length ds) 0) && all (is_digit base) ds

-- what digits say as a number
abbrev pub numeral_of : ℕ → List ℕ → Result ℕ NoNumber
numeral_of base ds =
    cond (are_digits base ds) (cond (leb (value_from base 0 ds) largest) (Ok (value_from base 0 ds)) (Err TooLarge)) (Err NotANumber)

-- the word begins with 0x
abbrev pub begins_hex : List ℕ → Bool
begins_hex word = eqb (get_or word 0 0) 48 && eqb (get_or word 1 0) 120

-- a number without a sign: hexadecimal after 0x, else decimal
abbrev pub unsigned_of : List ℕ → Result ℕ NoNumber
unsigned_of word = cond (begins_hex word) (numeral_of 16 (drop 2 word)) (numeral_of 10 word)

-- with a sign or without
abbrev pub number_of : (ℕ → Number) → Result ℕ NoNumber → Result Number NoNumber
number_of sign (Ok n) = Ok (sign n)
number_of sign (Err e) = Err e

-- what a word says as a number
abbrev pub signed_of : List ℕ → Result Number NoNumber
signed_of word = cond (eqb (get_or word 0 0) 45) (number_of Minus (unsigned_of (drop 1 word))) (number_of Plain (unsigned_of word))

-- without its sign
abbrev pub size_of : Number → ℕ
size_of (Plain n) = n
size_of (Minus n) = n

-- ---- lines out of blocks

-- how many bytes of the next part of a line are in a block, and how many of them fit into a line of
-- this room of which `size` bytes are there
abbrev pub part_size : List ℕ → ℕ → ℕ
part_size block from = prefix_len (λ b. not (is_newline b)) (drop from block)

abbrev pub fitting : ℕ → ℕ → ℕ → ℕ
fitting n size room = min n (room - size)

-- its bytes: those up to the newline or the block's end, as many as fit
abbrev pub part_of : List ℕ → ℕ → ℕ → ℕ → List ℕ
part_of block from size room = take (fitting (part_size block from) size room) (drop from block)

-- what comes of a part: the place after it, how many bytes the line has then, whether its newline
-- was there, and whether bytes did not fit
pub record Part : Type 0 where
  pub next : ℕ
  pub size : ℕ
  pub ended : Bool
  pub cut : Bool

abbrev pub gathered_of : List ℕ → ℕ → ℕ → ℕ → Part
gathered_of block from size room =
    let n = part_size block from in
    let fits = fitting n size room in
    let ended = ltb (from + n) (length block) in
    record { next = cond ended (from + n + 1) (from + n); size = size + fits; ended = ended; cut = ltb fits n }

-- the same of what `gather` gives back: where it gives no place, the part ends with the block
abbrev pub place_after : List ℕ → ℕ → Option ℕ → ℕ
place_after block from None = from + part_size block from
place_after block from (Some n) = n

abbrev pub told : List ℕ → ℕ → Option ℕ → ℕ → Bool → Part
told block from next size cut = record { next = place_after block from next; size = size; ended = is_some next; cut = cut }

-- what is given back, and the line after, that was `before`. A line that begins with bytes that are
-- there stays one, and the place after a newline lies in the block, behind the part's place.
pub record IsGathered (block : List ℕ) (from size : ℕ) (before : List ℕ) (next : Option ℕ) (now : ℕ) (cut : Bool) (after : List ℕ) : Type 0 where
  pub came : told block from next now cut ≡ gathered_of block from size (length before)
  pub bytes : after ≡ placed (part_of block from size (length before)) size before
  pub same_length : length after ≡ length before
  pub within_line : size ≤ length before → now ≤ length before
  pub behind : IfSome next (λ n. (from < n) × (n ≤ length block))
