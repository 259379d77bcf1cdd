-- Laws of a rounded quotient: it is the nearest, as the code finds it, and odd.
-- Assumes nothing.
use mathlib.Core.Path.{◌≡◌, refl, sym, ap, subst, ◌∙◌}
use mathlib.Core.Bool.{Bool, true, false, not, beq}
use mathlib.Core.Logic.{◌⊎◌, inl, inr, ⊎_elim}
use Prim.Native.Nat.{ℕ, zero, suc, ◌+◌, ◌-◌, ◌*◌, ◌/◌, ◌%◌, ◌≤◌, ◌<◌}
use native.Mathlib.Nat.{mul_comm, mul_assoc, mul-add, mul-one, mul-div-le, lt-mul-div-succ, div-add-mod, div-eq_of_lt, div-eq_of_lt-le, mul-le-mul_left, eq-or-lt_of_le, eq-zero-or-pos, mod-lt, mul-zero}
use native.Mathlib.Omega.{arith}
use lib.IntN.{ℤ, pos, negsuc, neg_ℤ, nat_abs, ◌+ℤ◌, ◌-ℤ◌, ◌*ℤ◌, neg_ℤ-neg_ℤ, neg_ℤ-+ℤ, +ℤ_comm}
use lib.Dec.{T}
use lib.Signed.{lt_z, non_neg, quot_z, rem_z}
use borrow.Author.Tests.{le-ltb}
use Rattle.wire.proofs.BoolLaws.{le_or_lt}
use Rattle.wire.proofs.IntLaws.{minus_times, times_minus, abs_minus, abs_apart, abs_above, abs_exchanged, rem_abs}
use Rattle.drive.specs.Rounding.{half_up, nearest_of, distance, HalfWay, Nearest, RoundingRight}

-- ---- without signs

module _ (b q : ℕ) where
  twice_times : q * (2 * b) ≡ 2 * (b * q)
  twice_times = mul_comm q (2 * b) ∙ mul_assoc 2 b q

  one_more : b * (q + 1) ≡ b * q + b
  one_more = mul-add b q 1 ∙ ap (λ (x : ℕ). b * q + x) (mul-one b)

module _ (a b : ℕ) (h : 0 < b) where
  -- b times it is from a half below a to a half above
  half_le : 2 * (b * half_up a b) ≤ 2 * a + b
  half_le = omega (arith, mul-div-le (2 * a + b) (2 * b), mul_assoc 2 b (half_up a b))

  half_lt : 2 * a + b < 2 * (b * half_up a b) + 2 * b
  half_lt =
      let p : 0 < 2 * b = omega arith in
      omega (arith, lt-mul-div-succ (2 * a + b) p, mul_assoc 2 b (half_up a b + 1), one_more b (half_up a b))

  -- the whole part, and the next number where the rest is a half or more
  pub rounds_down : 2 * (a % b) < b → half_up a b ≡ a / b
  rounds_down s =
      div-eq_of_lt-le (2 * b)
      (omega (arith, twice_times b (a / b), div-add-mod a b))
      (omega (arith, s, twice_times b (a / b + 1), one_more b (a / b), div-add-mod a b))

  pub rounds_up : b ≤ 2 * (a % b) → half_up a b ≡ a / b + 1
  rounds_up s =
      div-eq_of_lt-le (2 * b)
      (omega (arith, s, twice_times b (a / b + 1), one_more b (a / b), div-add-mod a b))
      (omega (arith, twice_times b (a / b + 1 + 1), one_more b (a / b), one_more b (a / b + 1), div-add-mod a b, mod-lt a h))

-- ---- with the sign of a quotient

-- k, with its sign turned where n and d have two
abbrev towards : ℤ → ℤ → ℤ → ℤ
towards (pos a) (pos b) k = k
towards (pos a) (negsuc b) k = neg_ℤ k
towards (negsuc a) (pos b) k = neg_ℤ k
towards (negsuc a) (negsuc b) k = k

turned_back : (n d k : ℤ) → towards n d (towards n d k) ≡ k
turned_back (pos a) (pos b) k = refl
turned_back (pos a) (negsuc b) k = neg_ℤ-neg_ℤ k
turned_back (negsuc a) (pos b) k = neg_ℤ-neg_ℤ k
turned_back (negsuc a) (negsuc b) k = refl

turned_abs : (n d k : ℤ) → nat_abs (towards n d k) ≡ nat_abs k
turned_abs (pos a) (pos b) k = refl
turned_abs (pos a) (negsuc b) k = abs_minus k
turned_abs (negsuc a) (pos b) k = abs_minus k
turned_abs (negsuc a) (negsuc b) k = refl

-- the two quotients: rounded toward zero, and to the nearest
quot_is : (n d : ℤ) → quot_z n d ≡ towards n d (pos (nat_abs n / nat_abs d))
quot_is (pos a) (pos b) = refl
quot_is (pos a) (negsuc b) = refl
quot_is (negsuc a) (pos b) = refl
quot_is (negsuc a) (negsuc b) = refl

nearest_is : (n d : ℤ) → nearest_of n d ≡ towards n d (pos (half_up (nat_abs n) (nat_abs d)))
unfolding nearest_of
nearest_is (pos a) (pos b) = refl
nearest_is (pos a) (negsuc b) = refl
nearest_is (negsuc a) (pos b) = refl
nearest_is (negsuc a) (negsuc b) = refl

-- how far it is from n, without the signs of n and d
distance_is : (n d k : ℤ) → distance n d k ≡ nat_abs (pos (nat_abs d) *ℤ towards n d k -ℤ pos (nat_abs n))
distance_is (pos a) (pos b) k = refl
distance_is (pos a) (negsuc b) k = ap (λ (z : ℤ). nat_abs (z -ℤ pos a)) (minus_times (pos (suc b)) k ∙ sym (times_minus (pos (suc b)) k))
distance_is (negsuc a) (pos b) k =
    abs_exchanged (pos b *ℤ k) (negsuc a)
    ∙ ap nat_abs (ap (λ (z : ℤ). negsuc a +ℤ z) (sym (times_minus (pos b) k)) ∙ +ℤ_comm (negsuc a) (pos b *ℤ neg_ℤ k))
distance_is (negsuc a) (negsuc b) k =
    abs_exchanged (negsuc b *ℤ k) (negsuc a)
    ∙ ap nat_abs (ap (λ (z : ℤ). negsuc a -ℤ z) (minus_times (pos (suc b)) k) ∙ ap (λ (z : ℤ). negsuc a +ℤ z) (neg_ℤ-neg_ℤ (pos (suc b) *ℤ k)) ∙ +ℤ_comm (negsuc a) (pos (suc b) *ℤ k))

-- ---- as the code finds it

below_is : (z : ℤ) → lt_z z (pos 0) ≡ not (non_neg z)
below_is (pos n) = le-ltb n 0 (omega arith)
below_is (negsuc n) = refl

-- n and d have the same sign, 0 being above
abbrev alike : ℤ → ℤ → Bool
alike n d = beq (not (non_neg n)) (not (non_neg d))

-- one more, away from zero
next_alike : (n d : ℤ) (q : ℕ) → alike n d ≡ true → towards n d (pos q) +ℤ pos 1 ≡ towards n d (pos (q + 1))
next_alike (pos a) (pos b) q e = refl
next_alike (pos a) (negsuc b) q e = absurd (subst T (sym e) tt)
next_alike (negsuc a) (pos b) q e = absurd (subst T (sym e) tt)
next_alike (negsuc a) (negsuc b) q e = refl

next_other : (n d : ℤ) (q : ℕ) → alike n d ≡ false → towards n d (pos q) -ℤ pos 1 ≡ towards n d (pos (q + 1))
next_other (pos a) (pos b) q e = absurd (subst T e tt)
next_other (pos a) (negsuc b) q e = sym (neg_ℤ-+ℤ (pos q) (pos 1))
next_other (negsuc a) (pos b) q e = sym (neg_ℤ-+ℤ (pos q) (pos 1))
next_other (negsuc a) (negsuc b) q e = absurd (subst T e tt)

module _ (n d : ℤ) (h : 0 < nat_abs d) where
  pub stays : 2 * nat_abs (rem_z n d) < nat_abs d → quot_z n d ≡ nearest_of n d
  stays s =
      quot_is n d
      ∙ ap (λ (q : ℕ). towards n d (pos q)) (sym (rounds_down (nat_abs n) (nat_abs d) h (rw (rem_abs n d) at s)))
      ∙ sym (nearest_is n d)

  module _ (s : nat_abs d ≤ 2 * nat_abs (rem_z n d)) where
    goes_on : towards n d (pos (nat_abs n / nat_abs d + 1)) ≡ nearest_of n d
    goes_on =
        ap (λ (q : ℕ). towards n d (pos q)) (sym (rounds_up (nat_abs n) (nat_abs d) h (rw (rem_abs n d) at s)))
        ∙ sym (nearest_is n d)

    signs : {t : Bool} → beq (lt_z n (pos 0)) (lt_z d (pos 0)) ≡ t → alike n d ≡ t
    signs e = (λ i. beq (sym (below_is n) i) (sym (below_is d) i)) ∙ e

    pub goes_up : beq (lt_z n (pos 0)) (lt_z d (pos 0)) ≡ true → quot_z n d +ℤ pos 1 ≡ nearest_of n d
    goes_up e = ap (λ (z : ℤ). z +ℤ pos 1) (quot_is n d) ∙ next_alike n d (nat_abs n / nat_abs d) (signs e) ∙ goes_on

    pub goes_below : beq (lt_z n (pos 0)) (lt_z d (pos 0)) ≡ false → quot_z n d -ℤ pos 1 ≡ nearest_of n d
    goes_below e = ap (λ (z : ℤ). z -ℤ pos 1) (quot_is n d) ∙ next_other n d (nat_abs n / nat_abs d) (signs e) ∙ goes_on

-- ---- the nearest

abbrev apart : ℕ → ℕ → ℕ
apart a b = a - b + (b - a)

-- a / b is half way between k and the rounded quotient, which is the next
abbrev Between : ℕ → ℕ → ℕ → Type 0
Between a b k = ((2 * apart (b * k) a ≡ b) × (2 * apart (b * half_up a b) a ≡ b)) × (half_up a b ≡ k + 1)

-- without signs
module _ (a b : ℕ) (h : 0 < b) where
  half_near : 2 * apart (b * half_up a b) a ≤ b
  half_near = omega (arith, half_le a b h, half_lt a b h)

  half_between : (k : ℕ) → half_up a b ≡ k + 1 → 2 * apart (b * half_up a b) a ≡ b → Between a b k
  half_between k e half =
      ((omega (arith, half, half_lt a b h, ap (λ (x : ℕ). b * x) e, one_more b k), half), e)

  -- at a half it is not 0
  half_other : 2 * apart (b * half_up a b) a ≡ b → Between a b (half_up a b - 1)
  half_other half =
      ⊎_elim (λ (e : half_up a b ≡ 0). let never : ⊥ = omega (arith, half, half_lt a b h, ap (λ (x : ℕ). b * x) e, mul-zero b) in absurd never)
      (λ (p : 0 < half_up a b). half_between (half_up a b - 1) (omega (arith, p)) half) (eq-zero-or-pos (half_up a b))

  module _ (k : ℕ) (near : 2 * apart (b * k) a ≤ b) where
    not_above : k ≤ half_up a b
    not_above =
        ⊎_elim (λ (p : k ≤ half_up a b). p)
        (λ (p : half_up a b < k). let q = mul-le-mul_left b p in omega (arith, near, half_lt a b h, one_more b (half_up a b), q))
        (le_or_lt k (half_up a b))

    -- none further below than the next
    next_below : k < half_up a b → half_up a b ≡ k + 1
    next_below p =
        ⊎_elim (λ (e : suc k ≡ half_up a b). omega (arith, e))
        (λ (q : suc k < half_up a b). let t = mul-le-mul_left b q in omega (arith, near, half_le a b h, one_more b k, one_more b (k + 1), t))
        (eq-or-lt_of_le p)

    below_between : k < half_up a b → Between a b k
    below_between p =
        let e = next_below p in
        half_between k e (omega (arith, near, half_le a b h, half_lt a b h, ap (λ (x : ℕ). b * x) e, one_more b k))

    only_one : (k ≡ half_up a b) ⊎ Between a b k
    only_one = ⊎_elim inl (λ (p : k < half_up a b). inr (below_between p)) (eq-or-lt_of_le not_above)

  -- a number below 0 is further than b
  not_negative : (k : ℕ) → 2 * nat_abs (pos b *ℤ negsuc k -ℤ pos a) ≤ b → ⊥
  not_negative k near =
      omega (arith, h, near, ap nat_abs (sym (neg_ℤ-+ℤ (pos (b * suc k)) (pos a))) ∙ abs_minus (pos (b * suc k + a)), one_more b k)

module _ (n d : ℤ) (h : 0 < nat_abs d) where
  abbrev A : ℕ
  A = nat_abs n

  abbrev D : ℕ
  D = nat_abs d

  abbrev s : ℤ
  s = nearest_of n d

  s_turned : towards n d s ≡ pos (half_up A D)
  s_turned = ap (towards n d) (nearest_is n d) ∙ turned_back n d (pos (half_up A D))

  s_abs : nat_abs s ≡ half_up A D
  s_abs = sym (turned_abs n d s) ∙ ap nat_abs s_turned

  -- of a number that is turned to k
  apart_is : (z : ℤ) (k : ℕ) → towards n d z ≡ pos k → distance n d z ≡ apart (D * k) A
  apart_is z k e = distance_is n d z ∙ ap (λ (x : ℤ). nat_abs (pos D *ℤ x -ℤ pos A)) e ∙ abs_apart (D * k) A

  twice_apart : (z : ℤ) (k : ℕ) → towards n d z ≡ pos k → 2 * distance n d z ≡ 2 * apart (D * k) A
  twice_apart z k e = ap (λ (x : ℕ). 2 * x) (apart_is z k e)

  half_way : (z : ℤ) (k : ℕ) → towards n d z ≡ pos k → Between A D k → HalfWay n d s z
  half_way z k e b =
      record {
        one = twice_apart s (half_up A D) s_turned ∙ b.0.1;
        other = twice_apart z k e ∙ b.0.0;
        further = s_abs ∙ b.1 ∙ ap (λ (x : ℕ). x + 1) (sym (sym (turned_abs n d z) ∙ ap nat_abs e));
      }

  near_at : (z k : ℤ) → towards n d z ≡ k → 2 * distance n d z ≤ D → (z ≡ s) ⊎ HalfWay n d s z
  near_at z (pos k) e near =
      ⊎_elim (λ (q : k ≡ half_up A D). inl (sym (turned_back n d z) ∙ ap (towards n d) (e ∙ ap pos q) ∙ sym (nearest_is n d)))
      (λ b. inr (half_way z k e b))
      (only_one A D h k (rw (apart_is z k e) at near))
  near_at z (negsuc k) e near =
      absurd (not_negative A D h k (rw (distance_is n d z ∙ ap (λ (x : ℤ). nat_abs (pos D *ℤ x -ℤ pos A)) e) at near))

  -- at a half, the other
  other_way : 2 * distance n d s ≡ D → HalfWay n d s (towards n d (pos (half_up A D - 1)))
  other_way e =
      half_way (towards n d (pos (half_up A D - 1))) (half_up A D - 1) (turned_back n d (pos (half_up A D - 1)))
      (half_other A D h (sym (twice_apart s (half_up A D) s_turned) ∙ e))

  pub is_nearest : Nearest n d s
  is_nearest =
      record {
        near = rw (apart_is s (half_up A D) s_turned) (half_near A D h);
        only = λ z near. near_at z (towards n d z) refl near;
        half = λ e. (towards n d (pos (half_up A D - 1)), other_way e);
      }

pub rounding_right : RoundingRight
rounding_right n d ne = is_nearest n d (abs_above d ne)

-- ---- odd

half_zero : (b : ℕ) → half_up 0 b ≡ 0
half_zero zero = refl
half_zero (suc b) = div-eq_of_lt (omega arith)

of_zero : (d : ℤ) → nearest_of (pos 0) d ≡ pos 0
of_zero d = nearest_is (pos 0) d ∙ ap (λ (k : ℕ). towards (pos 0) d (pos k)) (half_zero (nat_abs d)) ∙ turned d
  where
    turned : (d : ℤ) → towards (pos 0) d (pos 0) ≡ pos 0
    turned (pos b) = refl
    turned (negsuc b) = refl

pub nearest_odd : (n d : ℤ) → nearest_of (neg_ℤ n) d ≡ neg_ℤ (nearest_of n d)
unfolding nearest_of
nearest_odd (pos zero) d = of_zero d ∙ ap neg_ℤ (sym (of_zero d))
nearest_odd (pos (suc a)) (pos b) = refl
nearest_odd (pos (suc a)) (negsuc b) = sym (neg_ℤ-neg_ℤ (pos (half_up (suc a) (suc b))))
nearest_odd (negsuc a) (pos b) = sym (neg_ℤ-neg_ℤ (pos (half_up (suc a) b)))
nearest_odd (negsuc a) (negsuc b) = refl
