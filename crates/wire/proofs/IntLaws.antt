-- Laws of whole numbers that the library has not: sums of a sum and a difference, products,
-- absolute values, quotients, and a common factor.
-- Assumes nothing.
use mathlib.Core.Path.{◌≡◌, refl, sym, ap, ◌∙◌}
use Prim.Native.Nat.{ℕ, zero, suc, ◌+◌, ◌-◌, ◌*◌, ◌/◌, ◌%◌, ◌<◌, ◌≤◌}
use native.Mathlib.Nat.{add_comm, eq_of_mul-eq-mul_right, zero-mul}
use native.Mathlib.Omega.{arith}
use lib.Dec.{ltb}
use lib.IntN.{ℤ, pos, negsuc, neg_ℤ, suc_ℤ, pred_ℤ, nat_abs, sub_ℕ, ◌+ℤ◌, ◌-ℤ◌, ◌*ℤ◌, suc_ℤ-+ℤ, pred_ℤ-+ℤ, +ℤ_idl, +ℤ_assoc, +ℤ_comm, +ℤ_invr, neg_ℤ-neg_ℤ, neg_ℤ-+ℤ, -ℤ-+ℤ_cancel, zero-*ℤ, suc_ℤ-*ℤ, pred_ℤ-*ℤ, *ℤ_comm}
use lib.Signed.{mag, quot_z, rem_z}
use borrow.Author.Tests.{ltb-true, ltb-false}
use Rattle.wire.proofs.BoolLaws.{cond_is}

-- ---- sums

-- (x + y) + (x - y)
pub twice : (x y : ℤ) → (x +ℤ y) +ℤ (x -ℤ y) ≡ x +ℤ x
twice x y =
    ap (λ (z : ℤ). (x +ℤ y) +ℤ z) (+ℤ_comm x (neg_ℤ y))
    ∙ +ℤ_assoc x y (neg_ℤ y +ℤ x)
    ∙ ap (λ (z : ℤ). x +ℤ z) (sym (+ℤ_assoc y (neg_ℤ y) x) ∙ ap (λ (z : ℤ). z +ℤ x) (+ℤ_invr y) ∙ +ℤ_idl x)

-- (x + y) - (x - y)
pub twice_other : (x y : ℤ) → (x +ℤ y) -ℤ (x -ℤ y) ≡ y +ℤ y
twice_other x y =
    ap (λ (z : ℤ). (x +ℤ y) +ℤ z) (neg_ℤ-+ℤ x (neg_ℤ y) ∙ ap (λ (z : ℤ). neg_ℤ x +ℤ z) (neg_ℤ-neg_ℤ y) ∙ +ℤ_comm (neg_ℤ x) y)
    ∙ ap (λ (z : ℤ). z +ℤ (y -ℤ x)) (+ℤ_comm x y)
    ∙ twice y x

-- ---- products

swap_last : (x y z : ℤ) → x +ℤ y +ℤ z ≡ x +ℤ z +ℤ y
swap_last x y z = +ℤ_assoc x y z ∙ ap (λ (s : ℤ). x +ℤ s) (+ℤ_comm y z) ∙ sym (+ℤ_assoc x z y)

module _ (b c : ℤ) where
  Distributes : ℤ → Type 0
  Distributes a = (a +ℤ b) *ℤ c ≡ a *ℤ c +ℤ b *ℤ c

  -- from a number to its successor, or its predecessor
  step : (f : ℤ → ℤ) (d a : ℤ) → f a +ℤ b ≡ f (a +ℤ b) → ((m : ℤ) → f m *ℤ c ≡ m *ℤ c +ℤ d) → Distributes a → Distributes (f a)
  unfolding Distributes
  step f d a out times e =
      ap (λ (x : ℤ). x *ℤ c) out
      ∙ times (a +ℤ b)
      ∙ ap (λ (x : ℤ). x +ℤ d) e
      ∙ swap_last (a *ℤ c) (b *ℤ c) d
      ∙ sym (ap (λ (x : ℤ). x +ℤ b *ℤ c) (times a))

  up : (a : ℤ) → Distributes a → Distributes (suc_ℤ a)
  up a = step suc_ℤ c a (suc_ℤ-+ℤ a b) (λ m. suc_ℤ-*ℤ m c)

  down : (a : ℤ) → Distributes a → Distributes (pred_ℤ a)
  down a = step pred_ℤ (neg_ℤ c) a (pred_ℤ-+ℤ a b) (λ m. pred_ℤ-*ℤ m c)

  at_zero : Distributes (pos 0)
  unfolding Distributes
  at_zero = ap (λ (x : ℤ). x *ℤ c) (+ℤ_idl b) ∙ sym (ap (λ (x : ℤ). x +ℤ b *ℤ c) (zero-*ℤ c) ∙ +ℤ_idl (b *ℤ c))

  distributes : (a : ℤ) → Distributes a
  distributes (pos zero) = at_zero
  distributes (pos (suc n)) = up (pos n) (distributes (pos n))
  distributes (negsuc zero) = down (pos 0) at_zero
  distributes (negsuc (suc n)) = down (negsuc n) (distributes (negsuc n))

pub sum_times : (a b c : ℤ) → (a +ℤ b) *ℤ c ≡ a *ℤ c +ℤ b *ℤ c
unfolding Distributes
sum_times a b c = distributes b c a

pub minus_times : (m k : ℤ) → neg_ℤ m *ℤ k ≡ neg_ℤ (m *ℤ k)
minus_times (pos zero) k = zero-*ℤ k ∙ sym (ap neg_ℤ (zero-*ℤ k))
minus_times (pos (suc m)) (pos n) = refl
minus_times (pos (suc m)) (negsuc n) = sym (neg_ℤ-neg_ℤ (pos (suc m * suc n)))
minus_times (negsuc m) (pos n) = sym (neg_ℤ-neg_ℤ (pos (suc m * n)))
minus_times (negsuc m) (negsuc n) = refl

pub times_minus : (m k : ℤ) → m *ℤ neg_ℤ k ≡ neg_ℤ (m *ℤ k)
times_minus m k = *ℤ_comm m (neg_ℤ k) ∙ minus_times k m ∙ ap neg_ℤ (*ℤ_comm k m)

-- ---- absolute values

pub mag_abs : (z : ℤ) → mag z ≤ nat_abs z
mag_abs (pos n) = omega arith
mag_abs (negsuc n) = omega arith

pub abs_minus : (z : ℤ) → nat_abs (neg_ℤ z) ≡ nat_abs z
abs_minus (pos zero) = refl
abs_minus (pos (suc n)) = refl
abs_minus (negsuc n) = refl

pub abs_times : (m k : ℤ) → nat_abs (m *ℤ k) ≡ nat_abs m * nat_abs k
abs_times (pos m) (pos n) = refl
abs_times (pos m) (negsuc n) = abs_minus (pos (m * suc n))
abs_times (negsuc m) (pos n) = abs_minus (pos (suc m * n))
abs_times (negsuc m) (negsuc n) = refl

-- how far two naturals are apart
pub abs_sub : (a b : ℕ) → nat_abs (sub_ℕ a b) ≡ a - b + (b - a)
abs_sub a b =
    cond_is (λ (z : ℤ). nat_abs z ≡ a - b + (b - a)) (ltb a b)
    (λ e. let h = ltb-true a b e in omega arith)
    (λ e. let h = ltb-false a b e in omega arith)

pub abs_apart : (a b : ℕ) → nat_abs (pos a -ℤ pos b) ≡ a - b + (b - a)
abs_apart a zero = omega arith
abs_apart a (suc b) = abs_sub a (suc b)

pub abs_sum : (a b : ℤ) → nat_abs (a +ℤ b) ≤ nat_abs a + nat_abs b
abs_sum (pos m) (pos n) = omega arith
abs_sum (pos m) (negsuc n) = rw (abs_sub m (suc n)) (omega arith)
abs_sum (negsuc m) (pos n) = rw (abs_sub n (suc m)) (omega arith)
abs_sum (negsuc m) (negsuc n) = omega arith

pub abs_difference : (a b : ℤ) → nat_abs (a -ℤ b) ≤ nat_abs a + nat_abs b
abs_difference a b = rw (abs_minus b) at (abs_sum a (neg_ℤ b))

-- backwards by a and by b
pub abs_backwards : (a b : ℕ) → nat_abs (neg_ℤ (pos a) -ℤ neg_ℤ (pos b)) ≡ a - b + (b - a)
abs_backwards a b =
    ap nat_abs (ap (λ (z : ℤ). neg_ℤ (pos a) +ℤ z) (neg_ℤ-neg_ℤ (pos b)) ∙ +ℤ_comm (neg_ℤ (pos a)) (pos b)) ∙ abs_apart b a ∙ add_comm (b - a) (a - b)

pub abs_exchanged : (a b : ℤ) → nat_abs (a -ℤ b) ≡ nat_abs (b -ℤ a)
abs_exchanged a b =
    sym (abs_minus (a -ℤ b)) ∙ ap nat_abs (neg_ℤ-+ℤ a (neg_ℤ b) ∙ ap (λ (z : ℤ). neg_ℤ a +ℤ z) (neg_ℤ-neg_ℤ b) ∙ +ℤ_comm (neg_ℤ a) b)

abs_zero : (z : ℤ) → nat_abs z ≡ 0 → z ≡ pos 0
abs_zero (pos n) e = ap pos e
abs_zero (negsuc n) e = let never : ⊥ = omega arith in absurd never

pub abs_above : (z : ℤ) → (z ≡ pos 0 → ⊥) → 0 < nat_abs z
abs_above (pos zero) n = absurd (n refl)
abs_above (pos (suc m)) n = omega arith
abs_above (negsuc m) n = omega arith

-- ---- quotients, rounded toward zero, and their remainders

pub quot_abs : (n d : ℤ) → nat_abs (quot_z n d) ≡ nat_abs n / nat_abs d
quot_abs (pos a) (pos b) = refl
quot_abs (pos a) (negsuc b) = abs_minus (pos (a / suc b))
quot_abs (negsuc a) (pos b) = abs_minus (pos (suc a / b))
quot_abs (negsuc a) (negsuc b) = refl

pub rem_abs : (n d : ℤ) → nat_abs (rem_z n d) ≡ nat_abs n % nat_abs d
rem_abs (pos a) d = refl
rem_abs (negsuc a) d = abs_minus (pos (suc a % nat_abs d))

-- ---- a common factor

module _ (r x y : ℤ) (e : x *ℤ r ≡ y *ℤ r) where
  gone : (x -ℤ y) *ℤ r ≡ pos 0
  gone = sum_times x (neg_ℤ y) r ∙ ap (λ (z : ℤ). x *ℤ r +ℤ z) (minus_times y r ∙ ap neg_ℤ (sym e)) ∙ +ℤ_invr (x *ℤ r)

  module _ (h : 0 < nat_abs r) where
    not_apart : nat_abs (x -ℤ y) ≡ 0
    not_apart = eq_of_mul-eq-mul_right (nat_abs r) h _ 0 (sym (abs_times (x -ℤ y) r) ∙ ap nat_abs gone ∙ sym (zero-mul (nat_abs r)))

    pub same_factor : x ≡ y
    same_factor = sym (-ℤ-+ℤ_cancel x y) ∙ ap (λ (z : ℤ). z +ℤ y) (abs_zero (x -ℤ y) not_apart) ∙ +ℤ_idl y
