-- Laws of lists, and of the tests over them.
-- Assumes nothing.
use mathlib.Core.Path.{◌≡◌, refl, sym, ap, ap₂, subst, ◌∙◌}
use mathlib.Core.Bool.{Bool, true, false, ◌&&◌, and-false, and_assoc}
use mathlib.Core.List.{List, [], ◌∷◌, ◌++◌, append_assoc, map, flat_map}
use mathlib.Core.Logic.{⊎_elim}
use Prim.Native.Nat.{ℕ, zero, suc, ◌+◌, ◌-◌, ◌≤◌, ◌<◌, min, zero-le}
use native.Mathlib.Nat.{eq-or-lt_of_le, zero-add}
use native.Mathlib.Numerals.{add-one}
use native.Mathlib.Omega.{arith}
use lib.Bits.{bit_or}
use lib.Dec.{T, leb, leb→le, eqb, eqb→eq, ltb→lt}
use lib.ListN.{length, get_or, set, take, drop, replicate, length-append, length-drop, length-set, take-append-drop, drop_of_length-le}
use lib.Seq.{drop-cons, set-append_seam, get_or-drop}
use mir.Facts.{and_yes, or_yes, yes_and, yes_ltb, yes_eqb}
use borrow.Author.Tests.{lt-ltb, eq-eqb}
use Rattle.std.proofs.lemmas.List.{take_all}
use Rattle.wire.proofs.BoolLaws.{and_swap, or_zero, le_or_lt}
use Rattle.wire.specs.Lists.{all, all_from, span, from_to, sum, among, snoc, padded, same_list, is_zero, is_byte, all_zero, all_bytes, byte_array}

-- ---- lists from an index on

pub drop_next : (l : List ℕ) (i : ℕ) → i < length l → drop i l ≡ get_or l i 0 ∷ drop (i + 1) l
drop_next l i h = rw add-one (drop-cons l i 0 h)

-- an element does not depend on what stands past the end
pub get_d_any {ℓ} : {A : Type ℓ} (l : List A) (i : ℕ) (d e : A) → i < length l → get_or l i d ≡ get_or l i e
get_d_any [] i d e h = absurd (omega arith)
get_d_any (x ∷ xs) zero d e h = refl
get_d_any (x ∷ xs) (suc i) d e h = get_d_any xs i d e (omega arith)

-- n elements from an index on, one by one
pub take_span : (l : List ℕ) (i n : ℕ) → i + n ≤ length l → take n (drop i l) ≡ map (λ k. get_or l k 0) (span i n)
take_span l i zero h = refl
take_span l i (suc n) h =
    ap (take (suc n)) (drop-cons l i 0 (omega arith)) ∙ ap (λ (m : List ℕ). get_or l i 0 ∷ m) (take_span l (suc i) n (omega arith))

-- ---- span

-- from a number to itself
pub from_to_one : (a : ℕ) → from_to a a ≡ a ∷ []
from_to_one a = let e : a + 1 - a ≡ 1 = omega arith in rw e refl

pub span_snoc : (a n : ℕ) → span a (suc n) ≡ snoc (span a n) (a + n)
span_snoc a zero = let e : a ≡ a + 0 = omega arith in ap (λ (k : ℕ). k ∷ []) e
span_snoc a (suc n) = let e : suc a + n ≡ a + suc n = omega arith in ap (λ (l : List ℕ). a ∷ l) (span_snoc (suc a) n ∙ ap (snoc (span (suc a) n)) e)

-- ---- among

-- one of numbers that all pass a test
pub among_all : (f : ℕ → Bool) (l : List ℕ) (k : ℕ) → T (all f l) → T (among l k) → T (f k)
among_all f [] k t u = absurd u
among_all f (x ∷ xs) k t u =
    let s = and_yes (f x) (all f xs) t in
    ⊎_elim (λ v. subst (λ (n : ℕ). T (f n)) (sym (eqb→eq k x v)) s.0) (λ v. among_all f xs k s.1 v) (or_yes (eqb k x) (among xs k) u)

-- and of which none is above m
pub among_le : (l : List ℕ) (m k : ℕ) → T (all (λ x. leb x m) l) → T (among l k) → k ≤ m
among_le l m k t u = leb→le k m (among_all (λ x. leb x m) l k t u)

-- ---- same_list

pub same_list_lem : (l m : List ℕ) → T (same_list l m) → l ≡ m
same_list_lem [] [] t = refl
same_list_lem [] (y ∷ ys) t = absurd t
same_list_lem (x ∷ xs) [] t = absurd t
same_list_lem (x ∷ xs) (y ∷ ys) t =
    let s = and_yes (eqb x y) (same_list xs ys) t in
    ap₂ (λ (n : ℕ) (l : List ℕ). n ∷ l) (eqb→eq x y s.0) (same_list_lem xs ys s.1)

-- lists of two lengths
pub same_lengths : (a b : List ℕ) → (length a ≡ length b → ⊥) → same_list a b ≡ false
same_lengths [] [] h = absurd (h refl)
same_lengths [] (y ∷ ys) h = refl
same_lengths (x ∷ xs) [] h = refl
same_lengths (x ∷ xs) (y ∷ ys) h =
    ap (λ (t : Bool). eqb x y && t) (same_lengths xs ys (λ (e : length xs ≡ length ys). h (ap suc e))) ∙ and-false (eqb x y)

module _ (a b : List ℕ) (i : ℕ) (h : i < length a) (k : i < length b) where
  pub same_next : same_list (drop i a) (drop i b) ≡ (eqb (get_or a i 0) (get_or b i 0) && same_list (drop (i + 1) a) (drop (i + 1) b))
  same_next = rw (drop_next a i h, drop_next b i k) refl

-- ---- sum

pub sum_append : (a b : List ℕ) → sum (a ++ b) ≡ sum a + sum b
sum_append [] b = sym (zero-add (sum b))
sum_append (x ∷ a) b = omega (arith, sum_append a b)

-- ---- flat_map

module _ (f : ℕ → List ℕ) where
  -- one turn of a loop over the elements from i on
  pub flat_map_next : (l : List ℕ) (i : ℕ) → i < length l → flat_map f (drop i l) ≡ f (get_or l i 0) ++ flat_map f (drop (i + 1) l)
  unfolding flat_map
  flat_map_next l i h = ap (flat_map f) (drop_next l i h)

  pub length_flat_map : (g : ℕ → ℕ) → ((x : ℕ) → length (f x) ≡ g x) → (l : List ℕ) → length (flat_map f l) ≡ sum (map g l)
  unfolding flat_map
  length_flat_map g h [] = refl
  length_flat_map g h (x ∷ xs) = length-append (f x) (flat_map f xs) ∙ omega (arith, h x, length_flat_map g h xs)

-- ---- all

-- one turn of a loop that tests the elements from i on; d is any element
pub all-step {ℓ} : {A : Type ℓ} (f : A → Bool) (d : A) (l : List A) (i : ℕ) → i < length l
    → all f (drop i l) ≡ (f (get_or l i d) && all f (drop (i + 1) l))
all-step f d l i h = rw add-one (ap (all f) (drop-cons l i d h))

pub all-at {ℓ} : {A : Type ℓ} (f : A → Bool) (d : A) (l : List A) (i : ℕ) → i < length l → T (all f l) → T (f (get_or l i d))
all-at f d [] i h t = absurd (omega arith)
all-at f d (x ∷ xs) zero h t = (and_yes (f x) (all f xs) t).0
all-at f d (x ∷ xs) (suc i) h t = all-at f d xs i (omega arith) (and_yes (f x) (all f xs) t).1

-- from each element to all
pub all_of {ℓ} : {A : Type ℓ} (f : A → Bool) (d : A) (l : List A) → ((i : ℕ) → i < length l → T (f (get_or l i d))) → T (all f l)
all_of f d [] h = tt
all_of f d (x ∷ xs) h = yes_and (f x) (all f xs) (h 0 (omega arith)) (all_of f d xs (λ i b. h (suc i) (omega arith)))

-- a test of two
pub all-and {ℓ} : {A : Type ℓ} (f g : A → Bool) (l : List A) → all (λ x. f x && g x) l ≡ (all f l && all g l)
all-and f g [] = refl
all-and f g (x ∷ xs) = ap (λ (b : Bool). (f x && g x) && b) (all-and f g xs) ∙ and_swap (f x) (g x) (all f xs) (all g xs)

module _ {ℓ} {A : Type ℓ} (f : A → Bool) where
  pub all_set : (l : List A) (i : ℕ) (b : A) → T (all f l) → T (f b) → T (all f (set l i b))
  all_set [] i b t u = tt
  all_set (x ∷ xs) zero b t u = yes_and (f b) (all f xs) u (and_yes (f x) (all f xs) t).1
  all_set (x ∷ xs) (suc i) b t u =
      let s = and_yes (f x) (all f xs) t in
      yes_and (f x) (all f (set xs i b)) s.0 (all_set xs i b s.1 u)

  pub all_append : (l m : List A) → T (all f l) → T (all f m) → T (all f (l ++ m))
  all_append [] m t u = u
  all_append (x ∷ xs) m t u =
      let s = and_yes (f x) (all f xs) t in
      yes_and (f x) (all f (xs ++ m)) s.0 (all_append xs m s.1 u)

  -- and back, of the first of them
  pub all_front : (l m : List A) → T (all f (l ++ m)) → T (all f l)
  all_front [] m t = tt
  all_front (x ∷ xs) m t =
      let s = and_yes (f x) (all f (xs ++ m)) t in
      yes_and (f x) (all f xs) s.0 (all_front xs m s.1)

  pub all_take : (n : ℕ) (l : List A) → T (all f l) → T (all f (take n l))
  all_take zero l t = tt
  all_take (suc n) [] t = tt
  all_take (suc n) (x ∷ xs) t =
      let s = and_yes (f x) (all f xs) t in
      yes_and (f x) (all f (take n xs)) s.0 (all_take n xs s.1)

  pub all_drop : (n : ℕ) (l : List A) → T (all f l) → T (all f (drop n l))
  all_drop zero l t = t
  all_drop (suc n) [] t = tt
  all_drop (suc n) (x ∷ xs) t = all_drop n xs (and_yes (f x) (all f xs) t).1

  pub all_replicate : (n : ℕ) (b : A) → T (f b) → T (all f (replicate n b))
  all_replicate zero b t = tt
  all_replicate (suc n) b t = yes_and (f b) (all f (replicate n b)) t (all_replicate n b t)

module _ (f : ℕ → Bool) where
  pub all_next : (l : List ℕ) (i : ℕ) → i < length l → all f (drop i l) ≡ (f (get_or l i 0) && all f (drop (i + 1) l))
  all_next = all-step f 0

  pub all_later : (l : List ℕ) (i : ℕ) → i < length l → T (all f (drop i l)) → T (all f (drop (i + 1) l))
  all_later l i h t = (and_yes (f (get_or l i 0)) (all f (drop (i + 1) l)) (rw (all_next l i h) at t)).1

-- ---- all_from: from the computed test to the rule at each number

pub from : (f : ℕ → Bool) (lo n : ℕ) → T (all_from f lo n) → (k : ℕ) → lo ≤ k → k < lo + n → T (f k)
from f lo zero t k a b = absurd (omega arith)
from f lo (suc n) t k a b =
    let s = and_yes (f lo) (all_from f (suc lo) n) t in
    ⊎_elim (λ (e : lo ≡ k). subst (λ (m : ℕ). T (f m)) e s.0) (λ (h : lo < k). from f (suc lo) n s.1 k h (omega arith))
    (eq-or-lt_of_le a)

-- a table whose entries are a function's values
pub table : (f : ℕ → ℕ) (xs : List ℕ) → T (all_from (λ k. eqb (get_or xs k 0) (f k)) 0 (length xs)) → (k : ℕ) → k < length xs → get_or xs k 0 ≡ f k
table f xs t k h = eqb→eq (get_or xs k 0) (f k) (from (λ k. eqb (get_or xs k 0) (f k)) 0 (length xs) t k zero-le (omega arith))

-- ---- padded

pub drop_zeros : (n k : ℕ) → drop {A = ℕ} k (replicate n 0) ≡ replicate (n - k) 0
drop_zeros n zero = let e : n ≡ n - 0 = omega arith in ap (λ (m : ℕ). replicate m 0) e
drop_zeros zero (suc k) = let e : 0 ≡ 0 - suc k = omega arith in ap (λ (m : ℕ). replicate m 0) e
drop_zeros (suc n) (suc k) = let e : n - k ≡ suc n - suc k = omega arith in drop_zeros n k ∙ ap (λ (m : ℕ). replicate m 0) e

pub get_d_zeros : (l : List ℕ) (k i : ℕ) → get_or (l ++ replicate k 0) i 0 ≡ get_or l i 0
get_d_zeros [] zero i = refl
get_d_zeros [] (suc k) zero = refl
get_d_zeros [] (suc k) (suc i) = get_d_zeros [] k i
get_d_zeros (x ∷ xs) k zero = refl
get_d_zeros (x ∷ xs) k (suc i) = get_d_zeros xs k i

-- a store at the first place that is not in use
pub set_padded : (n : ℕ) (l : List ℕ) (b : ℕ) → length l < n → set (padded n l) (length l) b ≡ padded n (snoc l b)
set_padded n l b h =
    let k = n - length (snoc l b) in
    let e : n - length l ≡ suc k = omega (arith, length-append l (b ∷ [])) in
    rw e (set-append_seam l 0 (replicate k 0) b ∙ sym (append_assoc l (b ∷ []) (replicate k 0)))

-- ---- bytes and zeros

pub byte_at : (l : List ℕ) → T (all_bytes l) → (i : ℕ) → get_or l i 0 < 256
byte_at [] t i = omega arith
byte_at (x ∷ xs) t zero = ltb→lt x 256 (and_yes (is_byte x) (all_bytes xs) t).0
byte_at (x ∷ xs) t (suc i) = byte_at xs (and_yes (is_byte x) (all_bytes xs) t).1 i

-- the test of an array that the code holds, whose elements are bytes by their type
pub bytes_true : (l : List ℕ) → ((i : ℕ) → get_or l i 0 < 256) → all_bytes l ≡ true
bytes_true [] h = refl
bytes_true (x ∷ xs) h = simp (lt-ltb x 256 (h 0), bytes_true xs (λ i. h (suc i)))

-- an array that the code holds is one of the definition
pub array_true : (n : ℕ) (l : List ℕ) → length l ≡ n → ((i : ℕ) → get_or l i 0 < 256) → byte_array n l ≡ true
array_true n l e h = simp (eq-eqb (length l) n e, bytes_true l h)

pub bytes_set : (l : List ℕ) (i b : ℕ) → T (all_bytes l) → b < 256 → T (all_bytes (set l i b))
bytes_set l i b t h = all_set is_byte l i b t (yes_ltb h)

pub array_set : (n : ℕ) (l : List ℕ) (i b : ℕ) → T (byte_array n l) → b < 256 → T (byte_array n (set l i b))
array_set n l i b t h =
    let s = and_yes (eqb (length l) n) (all_bytes l) t in
    yes_and (eqb (length (set l i b)) n) (all_bytes (set l i b)) (rw (length-set l i b) s.0) (bytes_set l i b s.1 h)

pub zeros_are : (l : List ℕ) → T (all_zero l) → l ≡ replicate (length l) 0
zeros_are [] t = refl
zeros_are (x ∷ xs) t =
    let s = and_yes (is_zero x) (all_zero xs) t in
    ap (λ (n : ℕ). n ∷ xs) (eqb→eq x 0 s.0) ∙ ap (λ (l : List ℕ). 0 ∷ l) (zeros_are xs s.1)

-- one turn of a loop that puts the bits of the places from i on together, of which those before
-- gave b
pub zeros_next : (l : List ℕ) (i b : ℕ) → i < length l
    → (is_zero b && all_zero (drop i l)) ≡ (is_zero (bit_or b (get_or l i 0)) && all_zero (drop (i + 1) l))
zeros_next l i b h =
    ap (λ (t : Bool). is_zero b && t) (all_next is_zero l i h) ∙ sym (and_assoc (is_zero b) (is_zero (get_or l i 0)) (all_zero (drop (i + 1) l)))
    ∙ ap (λ (t : Bool). t && all_zero (drop (i + 1) l)) (sym (or_zero b (get_or l i 0)))

pub zero_at : (l : List ℕ) → T (all_zero l) → (i : ℕ) → get_or l i 0 ≡ 0
zero_at [] t i = refl
zero_at (x ∷ xs) t zero = eqb→eq x 0 (and_yes (is_zero x) (all_zero xs) t).0
zero_at (x ∷ xs) t (suc i) = zero_at xs (and_yes (is_zero x) (all_zero xs) t).1 i

-- the places from n on, one by one, and all of them
pub zero_later : (l : List ℕ) (n : ℕ) → T (all_zero (drop n l)) → (i : ℕ) → n ≤ i → get_or l i 0 ≡ 0
zero_later l n t i h =
    let e : n + (i - n) ≡ i = omega arith in
    ap (λ (k : ℕ). get_or l k 0) (sym e) ∙ sym (get_or-drop n l (i - n) 0) ∙ zero_at (drop n l) t (i - n)

pub zeros_later : (l : List ℕ) (n : ℕ) → ((i : ℕ) → n ≤ i → get_or l i 0 ≡ 0) → T (all_zero (drop n l))
zeros_later l n h = all_of is_zero 0 (drop n l) (λ i b. yes_eqb (get_or-drop n l i 0 ∙ h (n + i) (omega arith)))

-- a list whose places from n on are 0
pub zeros_from : (l : List ℕ) (n : ℕ) → T (all_zero (drop n l)) → l ≡ take n l ++ replicate (length l - n) 0
zeros_from l n t =
    sym (take-append-drop n l) ∙ ap (λ (m : List ℕ). take n l ++ m) (zeros_are (drop n l) t ∙ ap (λ (k : ℕ). replicate k 0) (length-drop n l))

-- the part of a list from n on, or from its end where n lies past it
pub part_from : (l : List ℕ) (n : ℕ)
    → take (length l - min n (length l)) (drop (min n (length l)) l) ≡ drop n l
part_from l n =
    take_all (length l - min n (length l)) (drop (min n (length l)) l) (omega (arith, length-drop (min n (length l)) l))
    ∙ ⊎_elim
    (λ h. let e : min n (length l) ≡ n = omega arith in ap (λ (k : ℕ). drop k l) e)
    (λ h. drop_of_length-le l (omega arith) ∙ sym (drop_of_length-le l (omega arith)))
    (le_or_lt n (length l))
