-- Laws of lines, words and numbers.
-- Assumes nothing.
use Rattle.std.proofs.Common.{one-add, add-zero, length-drop, ltb, Some, None, ◌≡◌, refl, sym, Bool, true, false, not, ◌&&◌, cond, List, [], ◌∷◌, ℕ, suc, ◌+◌, ◌*◌, ◌≤◌, ◌<◌, min, length, drop, Result, Ok, Err, arith}
use Rattle.std.proofs.lemmas.Grind.{common_steps}
use lib.Seq.{drop-drop, drop-length}
use borrow.Author.Tests.{le-leb, lt-ltb, le-ltb}
use Rattle.std.specs.Prelude.{leb}
use Rattle.std.specs.List.{prefix_len}
use Rattle.wire.specs.Lists.{all}
use Rattle.wire.proofs.BoolLaws.{pos_eqb}
use Rattle.line.specs.Text.{is_blank, NoWord, part_size, fitting, told, gathered_of, digit_value, is_digit, largest, value_from, numeral_of}
use Rattle.line.specs.declared.NoNumber.{NoNumber}
use Rattle.line.specs.declared.NoNumber.TheVariants.{NotANumber, TooLarge}

-- ---- runs of bytes

-- what stands after a run of bytes does not pass: where the run of the bytes that do not is empty
-- there, the list is over
pub run_end : (f : ℕ → Bool) (xs : List ℕ) → prefix_len (λ b. not (f b)) (drop (prefix_len f xs) xs) ≡ 0 → prefix_len f xs ≡ length xs
run_end f [] h = refl
run_end f (x ∷ xs) h = go (f x) refl (run_end f xs) h
  where
    go : (t : Bool) → f x ≡ t → (prefix_len (λ b. not (f b)) (drop (prefix_len f xs) xs) ≡ 0 → prefix_len f xs ≡ length xs)
        → prefix_len (λ b. not (f b)) (drop (cond t (1 + prefix_len f xs) 0) (x ∷ xs)) ≡ 0 → cond t (1 + prefix_len f xs) 0 ≡ suc (length xs)
    go true e i k = let k = i (rw one-add at k) in omega (arith, k)
    go false e i k = let k = simp e at k in absurd (omega arith)

-- only blanks are left
pub no_word : (text : List ℕ) (from : ℕ) → from ≤ length text
    → prefix_len (λ b. not (is_blank b)) (drop (from + prefix_len is_blank (drop from text)) text) ≡ 0 → NoWord text from
no_word text from h z =
    let e : prefix_len is_blank (drop from text) ≡ length (drop from text) = run_end is_blank (drop from text) (rw drop-drop z) in
    let end : from + prefix_len is_blank (drop from text) ≡ length text = omega (arith, e, length-drop from text) in
    rw (le-leb from (length text) h, end, drop-length text, add-zero) refl

-- ---- numeral_of

-- the number so far as the code holds it, which stops above the greatest
abbrev pub capped : ℕ → ℕ
capped n = min n (suc largest)

-- what the code makes of the digits that are left
abbrev pub read_from : ℕ → ℕ → List ℕ → Result ℕ NoNumber
read_from base acc [] = cond (leb acc largest) (Ok acc) (Err TooLarge)
read_from base acc (d ∷ ds) = cond (is_digit base d) (read_from base (capped (acc * base + digit_value d)) ds) (Err NotANumber)

-- to stop above the greatest changes nothing
capped_turn : (base acc d : ℕ) → 1 ≤ base → capped (capped acc * base + d) ≡ capped (acc * base + d)
capped_turn base acc d h = grind (arith, common_steps)

-- what `numeral_of` says, after digits that said acc
abbrev numeral_from : ℕ → ℕ → List ℕ → Result ℕ NoNumber
numeral_from base acc ds = cond (all (is_digit base) ds) (cond (leb (value_from base acc ds) largest) (Ok (value_from base acc ds)) (Err TooLarge)) (Err NotANumber)

read_is : (base acc : ℕ) (ds : List ℕ) → 1 ≤ base → read_from base (capped acc) ds ≡ numeral_from base acc ds
read_is base acc [] h = grind (arith, common_steps)
read_is base acc (d ∷ ds) h = go (is_digit base d) (read_is base (acc * base + digit_value d) ds h)
  where
    go : (t : Bool) → read_from base (capped (acc * base + digit_value d)) ds ≡ numeral_from base (acc * base + digit_value d) ds
        → cond t (read_from base (capped (capped acc * base + digit_value d)) ds) (Err NotANumber)
        ≡ cond (t && all (is_digit base) ds) (cond (leb (value_from base (acc * base + digit_value d) ds) largest) (Ok (value_from base (acc * base + digit_value d) ds)) (Err TooLarge)) (Err NotANumber)
    go true i = rw (capped_turn base acc (digit_value d) h) i
    go false i = refl

pub numeral_is : (base : ℕ) (ds : List ℕ) → 1 ≤ base → 0 < length ds → numeral_of base ds ≡ read_from base 0 ds
numeral_is base [] h k = absurd (omega arith)
numeral_is base (d ∷ ds) h k = rw (pos_eqb (suc (length ds)) (omega arith)) (sym (read_is base 0 (d ∷ ds) h))

-- ---- parts

module _ (block : List ℕ) (from size room : ℕ) where
  abbrev part : ℕ
  part = part_size block from

  abbrev fits : ℕ
  fits = fitting part size room

  -- with its newline, and without
  pub ended : part < length (drop from block) → told block from (Some (from + part + 1)) (size + fits) (ltb fits part) ≡ gathered_of block from size room
  ended h = rw (lt-ltb (from + part) (length block) (omega (arith, h, length-drop from block))) refl

  pub unended : length (drop from block) ≤ part → told block from None (size + fits) (ltb fits part) ≡ gathered_of block from size room
  unended h = rw (le-ltb (from + part) (length block) (omega (arith, h, length-drop from block))) refl
