-- Tests over lists of numbers: every element, the numbers of a range, bytes.
-- Assumes nothing.
use Rattle.std.specs.Prelude.{Bool, true, false, ◌&&◌, ◌||◌, List, [], ◌∷◌, ◌++◌, ℕ, zero, suc, ◌+◌, ◌-◌, leb, ltb, eqb, length, replicate}

-- the test passes at every element
abbrev pub all {ℓ} : {A : Type ℓ} → (A → Bool) → List A → Bool
all f [] = true
all f (x ∷ xs) = f x && all f xs

-- the test passes at the n numbers from lo: a table's rule, computed once over the whole table
abbrev pub all_from : (ℕ → Bool) → ℕ → ℕ → Bool
all_from f lo zero = true
all_from f lo (suc n) = f lo && all_from f (suc lo) n

-- the n numbers from a on
abbrev pub span : ℕ → ℕ → List ℕ
span a zero = []
span a (suc n) = a ∷ span (suc a) n

-- the numbers from a first to a last one
abbrev pub from_to : ℕ → ℕ → List ℕ
from_to first last = span first (last + 1 - first)

-- the numbers of a list, added up
abbrev pub sum : List ℕ → ℕ
sum [] = 0
sum (x ∷ xs) = x + sum xs

-- how many elements there are up to the first that is true, and that one; all of them, where
-- none is
abbrev pub up_to_true : List Bool → ℕ
up_to_true [] = 0
up_to_true (true ∷ bs) = 1
up_to_true (false ∷ bs) = suc (up_to_true bs)

-- k is one of the list's numbers
abbrev pub among : List ℕ → ℕ → Bool
among [] k = false
among (x ∷ xs) k = eqb k x || among xs k

-- k is from lo to hi
abbrev pub within : ℕ → ℕ → ℕ → Bool
within lo hi k = leb lo k && leb k hi

-- one element more, at the end
abbrev pub snoc : List ℕ → ℕ → List ℕ
snoc l b = l ++ (b ∷ [])

-- a list in the first of n places, and 0 in the others
abbrev pub padded : ℕ → List ℕ → List ℕ
padded n l = l ++ replicate (n - length l) 0

-- two lists are the same
abbrev pub same_list : List ℕ → List ℕ → Bool
same_list [] [] = true
same_list [] (y ∷ ys) = false
same_list (x ∷ xs) [] = false
same_list (x ∷ xs) (y ∷ ys) = eqb x y && same_list xs ys

abbrev pub is_zero : ℕ → Bool
is_zero x = eqb x 0

abbrev pub is_byte : ℕ → Bool
is_byte x = ltb x 256

-- every number is 0
abbrev pub all_zero : List ℕ → Bool
all_zero = all is_zero

-- every number is a byte
abbrev pub all_bytes : List ℕ → Bool
all_bytes = all is_byte

-- the list is a value of [u8; n]
abbrev pub byte_array : ℕ → List ℕ → Bool
byte_array n l = eqb (length l) n && all_bytes l
