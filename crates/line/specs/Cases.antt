-- Lines, words and numbers, in bytes: what the reader says of them is written out.
-- Assumes nothing.
use Rattle.std.specs.Prelude.{Bool, true, false, ◌&&◌, List, [], ◌∷◌, ◌++◌, ℕ, ◌+◌, ◌*◌, T, eqb, replicate, Result, Ok, Err}
use Rattle.std.specs.Bool.{beq}
use Rattle.wire.specs.Lists.{all, same_list}
use Rattle.line.specs.Text.{word_from, signed_of, part_of, gathered_of}
use Rattle.line.specs.declared.Number.{Number}
use Rattle.line.specs.declared.Number.TheVariants.{Plain, Minus}
use Rattle.line.specs.declared.NoNumber.{NoNumber}
use Rattle.line.specs.declared.NoNumber.TheVariants.{NotANumber, TooLarge}

-- ---- numbers

-- one number for each
abbrev code : Result Number NoNumber → ℕ
code (Err NotANumber) = 0
code (Err TooLarge) = 1
code (Ok (Plain n)) = 2 + 2 * n
code (Ok (Minus n)) = 3 + 2 * n

-- a word, and what it says
pub record Said : Type 0 where
  pub word : List ℕ
  pub number : Result Number NoNumber

abbrev says : List ℕ → Result Number NoNumber → Said
says word n = record { word = word; number = n }

-- 0x before digits
abbrev hex : List ℕ → List ℕ
hex ds = 48 ∷ 120 ∷ ds

abbrev pub number_cases : List Said
number_cases =
    -- 0, 255, 007, 65535, 65536, twelve 9s
    says (48 ∷ []) (Ok (Plain 0))
    ∷ says (50 ∷ 53 ∷ 53 ∷ []) (Ok (Plain 255))
    ∷ says (48 ∷ 48 ∷ 55 ∷ []) (Ok (Plain 7))
    ∷ says (54 ∷ 53 ∷ 53 ∷ 51 ∷ 53 ∷ []) (Ok (Plain 65535))
    ∷ says (54 ∷ 53 ∷ 53 ∷ 51 ∷ 54 ∷ []) (Err TooLarge)
    ∷ says (replicate 12 57) (Err TooLarge)
    -- -500, -0, -65535, -65536
    ∷ says (45 ∷ 53 ∷ 48 ∷ 48 ∷ []) (Ok (Minus 500))
    ∷ says (45 ∷ 48 ∷ []) (Ok (Minus 0))
    ∷ says (45 ∷ 54 ∷ 53 ∷ 53 ∷ 51 ∷ 53 ∷ []) (Ok (Minus 65535))
    ∷ says (45 ∷ 54 ∷ 53 ∷ 53 ∷ 51 ∷ 54 ∷ []) (Err TooLarge)
    -- nothing, a sign alone, two signs, a plus; a letter, the bytes beside the digits, twelve 9s
    -- and a letter
    ∷ says [] (Err NotANumber)
    ∷ says (45 ∷ []) (Err NotANumber)
    ∷ says (45 ∷ 45 ∷ 49 ∷ []) (Err NotANumber)
    ∷ says (43 ∷ 49 ∷ []) (Err NotANumber)
    ∷ says (49 ∷ 97 ∷ []) (Err NotANumber)
    ∷ says (47 ∷ []) (Err NotANumber)
    ∷ says (58 ∷ []) (Err NotANumber)
    ∷ says (replicate 12 57 ++ (97 ∷ [])) (Err NotANumber)
    -- 0x80, 0x0, 0x009, 0xFFFF, 0xffff, 0xaF, 0x10000, twelve Fs
    ∷ says (hex (56 ∷ 48 ∷ [])) (Ok (Plain 128))
    ∷ says (hex (48 ∷ [])) (Ok (Plain 0))
    ∷ says (hex (48 ∷ 48 ∷ 57 ∷ [])) (Ok (Plain 9))
    ∷ says (hex (replicate 4 70)) (Ok (Plain 65535))
    ∷ says (hex (replicate 4 102)) (Ok (Plain 65535))
    ∷ says (hex (97 ∷ 70 ∷ [])) (Ok (Plain 175))
    ∷ says (hex (49 ∷ replicate 4 48)) (Err TooLarge)
    ∷ says (hex (replicate 12 70)) (Err TooLarge)
    -- -0x10, -0x1F4, -0xFFFF, -0x10000
    ∷ says (45 ∷ hex (49 ∷ 48 ∷ [])) (Ok (Minus 16))
    ∷ says (45 ∷ hex (49 ∷ 70 ∷ 52 ∷ [])) (Ok (Minus 500))
    ∷ says (45 ∷ hex (replicate 4 70)) (Ok (Minus 65535))
    ∷ says (45 ∷ hex (49 ∷ replicate 4 48)) (Err TooLarge)
    -- 0x, -0x, 0x-1, 0X80, x80, 00x80, 0x0x8; ff, which is no decimal number
    ∷ says (hex []) (Err NotANumber)
    ∷ says (45 ∷ hex []) (Err NotANumber)
    ∷ says (hex (45 ∷ 49 ∷ [])) (Err NotANumber)
    ∷ says (48 ∷ 88 ∷ 56 ∷ 48 ∷ []) (Err NotANumber)
    ∷ says (120 ∷ 56 ∷ 48 ∷ []) (Err NotANumber)
    ∷ says (48 ∷ hex (56 ∷ 48 ∷ [])) (Err NotANumber)
    ∷ says (hex (hex (56 ∷ []))) (Err NotANumber)
    ∷ says (102 ∷ 102 ∷ []) (Err NotANumber)
    -- the bytes beside the digits, 0x/, 0x:, 0x@, 0xG, 0x`, 0xg; twelve Fs and a g
    ∷ says (hex (47 ∷ [])) (Err NotANumber)
    ∷ says (hex (58 ∷ [])) (Err NotANumber)
    ∷ says (hex (64 ∷ [])) (Err NotANumber)
    ∷ says (hex (71 ∷ [])) (Err NotANumber)
    ∷ says (hex (96 ∷ [])) (Err NotANumber)
    ∷ says (hex (103 ∷ [])) (Err NotANumber)
    ∷ says (hex (replicate 12 70 ++ (103 ∷ []))) (Err NotANumber)
    ∷ []

abbrev pub number_right : Said → Bool
number_right x = eqb (code (signed_of x.word)) (code x.number)

-- ---- words

-- a text, a place, and where the next word from there starts and ends
pub record Found : Type 0 where
  pub text : List ℕ
  pub from : ℕ
  pub start : ℕ
  pub end : ℕ

abbrev found : List ℕ → ℕ → ℕ → ℕ → Found
found text from start end = record { text = text; from = from; start = start; end = end }

-- two spaces, ab, a tab, c, a space, a carriage return
abbrev two_words : List ℕ
two_words = 32 ∷ 32 ∷ 97 ∷ 98 ∷ 9 ∷ 99 ∷ 32 ∷ 13 ∷ []

abbrev pub word_cases : List Found
word_cases =
    found two_words 0 2 4
    ∷ found two_words 3 3 4
    ∷ found two_words 4 5 6
    ∷ found two_words 6 8 8
    ∷ found two_words 8 8 8
    -- past the end; no text
    ∷ found two_words 100 8 8
    ∷ found [] 0 0 0
    ∷ []

abbrev pub word_right : Found → Bool
word_right x = eqb (word_from x.text x.from).start x.start && eqb (word_from x.text x.from).end x.end

-- ---- lines

-- a block, a place in it, the bytes of the line that are there, and the line's room; and what comes
-- of it
pub record Gathering : Type 0 where
  pub block : List ℕ
  pub from : ℕ
  pub size : ℕ
  pub room : ℕ
  pub bytes : List ℕ
  pub next : ℕ
  pub ended : Bool
  pub cut : Bool

abbrev gathers_in : List ℕ → ℕ → ℕ → ℕ → List ℕ → ℕ → Bool → Bool → Gathering
gathers_in block from size room bytes next ended cut =
    record { block = block; from = from; size = size; room = room; bytes = bytes; next = next; ended = ended; cut = cut }

-- of ab, a newline, a newline, cde
abbrev gathers : ℕ → ℕ → ℕ → List ℕ → ℕ → Bool → Bool → Gathering
gathers = gathers_in (97 ∷ 98 ∷ 10 ∷ 10 ∷ 99 ∷ 100 ∷ 101 ∷ [])

abbrev pub line_cases : List Gathering
line_cases =
    gathers 0 0 16 (97 ∷ 98 ∷ []) 3 true false
    -- an empty line
    ∷ gathers 3 0 16 [] 4 true false
    -- no newline yet, and the block is over
    ∷ gathers 4 0 16 (99 ∷ 100 ∷ 101 ∷ []) 7 false false
    ∷ gathers 7 3 16 [] 7 false false
    -- after bytes that are there; as many as fit, and none
    ∷ gathers 0 5 7 (97 ∷ 98 ∷ []) 3 true false
    ∷ gathers 0 6 7 (97 ∷ []) 3 true true
    ∷ gathers 4 7 7 [] 7 false true
    ∷ gathers 0 9 7 [] 3 true true
    -- past the end
    ∷ gathers 9 0 7 [] 9 false false
    -- a newline that is the block's last byte
    ∷ gathers_in (97 ∷ 10 ∷ []) 0 0 16 (97 ∷ []) 2 true false
    ∷ []

abbrev pub line_right : Gathering → Bool
line_right x =
    let g = gathered_of x.block x.from x.size x.room in
    same_list (part_of x.block x.from x.size x.room) x.bytes
    && (eqb g.next x.next && (beq g.ended x.ended && beq g.cut x.cut))

-- THEOREM: the reader in numbers
pub record LinesInNumbers : Type 0 where
  pub numbers_right : T (all number_right number_cases)
  pub words_right : T (all word_right word_cases)
  pub lines_right : T (all line_right line_cases)
