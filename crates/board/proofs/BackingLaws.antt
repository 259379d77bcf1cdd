-- Backing round a stair head (docs/RULES.md S7, S8, S9): the test of Direct told by the sum and the
-- difference of the wheels, and Direct beside Drive.
-- Assumes nothing.
use mathlib.Core.Path.{◌≡◌, refl, sym, ap, subst, ◌∙◌}
use mathlib.Core.Bool.{Bool, true, false, not, ◌&&◌, ◌||◌, or-false, or_comm}
use mathlib.Core.Logic.{⊎_elim}
use Prim.Native.Nat.{ℕ, zero, suc, ◌+◌, ◌-◌, ◌*◌, ◌<◌, ◌≤◌}
use native.Mathlib.Nat.{zero-mul, mul_comm, eq_of_mul-eq-mul_right, mul-lt-mul_of_pos_left, mul-le-mul_left}
use native.Mathlib.Omega.{arith}
use lib.Dec.{T, ltb, nltb→le}
use lib.IntN.{ℤ, pos, negsuc, neg_ℤ, nat_abs, sub_ℕ, ◌+ℤ◌, ◌-ℤ◌, ◌*ℤ◌, +ℤ_comm, neg_ℤ-+ℤ, *ℤ_comm}
use lib.Signed.{lt_z, nat_abs-le}
use mir.Facts.{or_no, to_z-of_z}
use mir.Syntax.{w16, w32}
use mir.Val.{SFits, to_z, of_z}
use borrow.Author.Tests.{lt-ltb, le-ltb}
use Rattle.wire.specs.Sixteen.{minus}
use Rattle.wire.proofs.BoolLaws.{le_or_lt}
use Rattle.wire.proofs.SignedLaws.{abs_fits, wide, wide_is}
use Rattle.wire.proofs.IntLaws.{twice, twice_other, sum_times, minus_times, abs_minus, abs_times, abs_sub, abs_apart, abs_backwards, abs_sum, abs_exchanged, abs_above, same_factor}
use Rattle.state.specs.declared.Motors.{Motors}
use Rattle.board.specs.Calls.{backs_round, into_cliff}

-- ---- by the order

abbrev by_drive : ℤ → ℤ → Bool
by_drive v r = lt_z (pos 0) v || (lt_z v (pos 0) && (lt_z (minus 165) r && lt_z r (pos 165)))

-- either wheel above 0, or backing round
abbrev pub by_direct : ℤ → ℤ → Bool
by_direct a b = (lt_z (pos 0) a || lt_z (pos 0) b) || backs_round a b

module _ (m : Motors) where
  pub of_none : m.order ≡ 0 → into_cliff m ≡ false
  unfolding into_cliff
  of_none e = rw e refl

  pub of_drive : m.order ≡ 1 → into_cliff m ≡ by_drive m.first m.second
  unfolding into_cliff
  of_drive e = rw e (ap (λ (t : Bool). lt_z (pos 0) m.first || t) (or-false (lt_z m.first (pos 0) && (lt_z (minus 165) m.second && lt_z m.second (pos 165)))))

  pub of_direct : m.order ≡ 2 → into_cliff m ≡ by_direct m.first m.second
  unfolding into_cliff
  of_direct e = rw e refl

-- ---- by the sum and the difference

abbrev tight : ℤ → ℤ → Bool
tight a b = ltb (129 * nat_abs (a +ℤ b)) (165 * nat_abs (a -ℤ b))

pub exchanged : (a b : ℤ) → by_direct a b ≡ by_direct b a
unfolding backs_round
exchanged a b =
    let above = or_comm (lt_z (pos 0) a) (lt_z (pos 0) b) in
    let differ = or_comm (lt_z a b) (lt_z b a) in
    λ i. above i || (not (above i) && (differ i && ltb (129 * nat_abs (+ℤ_comm a b i)) (165 * abs_exchanged a b i)))

-- where the comparison passes, nothing else is looked at
covered : (x p t : Bool) → t ≡ true → (x || (not x && t)) ≡ (p || t)
covered true true t e = refl
covered true false t e = sym e
covered false true t e = e
covered false false t e = refl

-- two that do not differ are not apart
equal : (m n : ℕ) → (ltb m n || ltb n m) ≡ false → m - n + (n - m) ≡ 0
equal m n e =
    let same = or_no (ltb m n) (ltb n m) (subst (λ (t : Bool). T (not t)) (sym e) tt) in
    omega (arith, nltb→le m n same.0, nltb→le n m same.1)

not_apart : (a b : ℤ) → (lt_z a b || lt_z b a) ≡ false → nat_abs (a -ℤ b) ≡ 0
not_apart (pos m) (pos n) e = abs_apart m n ∙ equal m n e
not_apart (pos m) (negsuc n) e = absurd (subst T e tt)
not_apart (negsuc m) (pos n) e = absurd (subst T e tt)
not_apart (negsuc m) (negsuc n) e = abs_sub (suc n) (suc m) ∙ omega (arith, equal n m e)

implied_by : (d t : Bool) → (d ≡ false → t ≡ false) → (d && t) ≡ t
implied_by true t f = refl
implied_by false t f = sym (f refl)

-- that the two differ is in the comparison
pub compared : (a b : ℤ) → ((lt_z a b || lt_z b a) && tight a b) ≡ tight a b
compared a b =
    implied_by (lt_z a b || lt_z b a) (tight a b)
    (λ e. le-ltb (129 * nat_abs (a +ℤ b)) (165 * nat_abs (a -ℤ b)) (omega (arith, not_apart a b e)))

BySum : ℤ → ℤ → Type 0
BySum a b = by_direct a b ≡ (lt_z (pos 0) (a +ℤ b) || tight a b)

-- wheels of two directions pass the comparison
two_ways : (m n : ℕ) → BySum (pos m) (negsuc n)
unfolding backs_round BySum
two_ways m n =
    covered (ltb 0 m || false) (lt_z (pos 0) (sub_ℕ m (suc n))) (tight (pos m) (negsuc n))
    (lt-ltb (129 * nat_abs (sub_ℕ m (suc n))) (165 * (m + suc n)) (omega (arith, abs_sum (pos m) (negsuc n))))

-- forwards on the whole, or tight: the signs of the wheels need not be looked at
by_sum : (a b : ℤ) → BySum a b
unfolding backs_round BySum
by_sum (pos zero) (pos zero) = refl
by_sum (pos zero) (pos (suc n)) = simp (lt-ltb 0 (suc n) (omega arith), lt-ltb 0 (0 + suc n) (omega arith))
by_sum (pos (suc m)) (pos n) = simp (lt-ltb 0 (suc m) (omega arith), lt-ltb 0 (suc m + n) (omega arith))
by_sum (pos m) (negsuc n) = two_ways m n
by_sum (negsuc m) (pos n) =
    exchanged (negsuc m) (pos n) ∙ two_ways n m
    ∙ (λ i. lt_z (pos 0) (+ℤ_comm (pos n) (negsuc m) i) || ltb (129 * nat_abs (+ℤ_comm (pos n) (negsuc m) i)) (165 * abs_exchanged (pos n) (negsuc m) i))
by_sum (negsuc m) (negsuc n) = compared (negsuc m) (negsuc n)

-- ---- backwards by p and by q

not_forwards : (n : ℕ) → lt_z (pos 0) (minus n) ≡ false
not_forwards zero = refl
not_forwards (suc n) = refl

pub by_backing : (p q : ℕ) → by_direct (minus p) (minus q) ≡ ltb (129 * (p + q)) (165 * (p - q + (q - p)))
unfolding BySum
by_backing p q =
    let sum : minus p +ℤ minus q ≡ minus (p + q) = sym (neg_ℤ-+ℤ (pos p) (pos q)) in
    by_sum (minus p) (minus q)
    ∙ (λ i. lt_z (pos 0) (sum i) || ltb (129 * nat_abs (sum i)) (165 * abs_backwards p q i))
    ∙ (λ i. not_forwards (p + q) i || ltb (129 * abs_minus (pos (p + q)) i) (165 * (p - q + (q - p))))

-- p no faster than q: 129 and 165 in lowest terms
pub by_slower : (p q : ℕ) → p ≤ q → by_direct (minus p) (minus q) ≡ ltb (49 * p) (6 * q)
by_slower p q h =
    by_backing p q
    ∙ ⊎_elim
    (λ (k : 6 * q ≤ 49 * p). le-ltb (129 * (p + q)) (165 * (p - q + (q - p))) (omega arith) ∙ sym (le-ltb (49 * p) (6 * q) k))
    (λ (k : 49 * p < 6 * q). lt-ltb (129 * (p + q)) (165 * (p - q + (q - p))) (omega arith) ∙ sym (lt-ltb (49 * p) (6 * q) k))
    (le_or_lt (6 * q) (49 * p))

-- ---- two wheels in 32 bits

-- the sum, or the difference
module _ (op : ℤ → ℤ → ℤ) (bound : (x y : ℤ) → nat_abs (op x y) ≤ nat_abs x + nat_abs y) {a b : ℤ} (f : SFits w16 a) (g : SFits w16 b) where
  same : op (wide a) (wide b) ≡ op a b
  same i = op (wide_is f i) (wide_is g i)

  bounded : nat_abs (op a b) ≤ 65536
  bounded = omega (arith, bound a b, nat_abs-le a f.sfits, nat_abs-le b g.sfits)

  pub op_fits : SFits w32 (op (wide a) (wide b))
  op_fits = rw same (abs_fits (omega (arith, bounded)))

  -- what is known of a result that is the absolute value of what the machine computed
  module _ {r : ℕ} (e : r ≡ nat_abs (to_z w32 (of_z w32 (op (wide a) (wide b))))) where
    pub op_is : r ≡ nat_abs (op a b)
    op_is = e ∙ ap nat_abs (to_z-of_z op_fits ∙ same)

-- ---- on a curve

-- a radius strictly between -165 and 165
inside : (r : ℤ) → (lt_z (minus 165) r && lt_z r (pos 165)) ≡ ltb (nat_abs r) 165
inside (pos n) = refl
inside (negsuc n) =
    ⊎_elim (λ (k : 164 ≤ n). simp (le-ltb n 164 k, le-ltb (suc n) 165 (omega arith)))
    (λ (k : n < 164). simp (lt-ltb n 164 k, lt-ltb (suc n) 165 (omega arith))) (le_or_lt 164 n)

scaled : (d n m : ℕ) → 0 < d → ltb (d * n) (d * m) ≡ ltb n m
scaled d n m h =
    ⊎_elim (λ (k : m ≤ n). le-ltb (d * n) (d * m) (mul-le-mul_left d k) ∙ sym (le-ltb n m k))
    (λ (k : n < m). lt-ltb (d * n) (d * m) (mul-lt-mul_of_pos_left k h) ∙ sym (lt-ltb n m k)) (le_or_lt m n)

-- no factor of a product above 0 is 0
some : (d n m : ℕ) → d * n ≡ suc m * 129 → 0 < d
some zero n m e = omega (arith, zero-mul n)
some (suc d) n m e = omega arith

-- d is how far the two speeds are apart
tight_curve : (v r : ℤ) (d : ℕ) → 0 < nat_abs r → d * nat_abs r ≡ nat_abs (v +ℤ v) * 129
    → (lt_z (pos 0) (v +ℤ v) || ltb (129 * nat_abs (v +ℤ v)) (165 * d)) ≡ by_drive v r
tight_curve (pos zero) r d h e =
    let none : d ≡ 0 = eq_of_mul-eq-mul_right (nat_abs r) h d 0 (e ∙ sym (zero-mul (nat_abs r))) in
    le-ltb 0 (165 * d) (omega (arith, none))
tight_curve (pos (suc n)) r d h e = simp (lt-ltb 0 (suc n + suc n) (omega arith), lt-ltb 0 (suc n) (omega arith))
tight_curve (negsuc n) r d h e =
    (λ i. ltb ((mul_comm 129 (suc (suc (n + n))) ∙ sym e) i) (mul_comm 165 d i))
    ∙ scaled d (nat_abs r) 165 (some d (nat_abs r) (suc (n + n)) e)
    ∙ sym (inside r)

-- the speeds a and b of the wheels on a curve of radius r with velocity v
module _ (v r a b : ℤ) (right : a *ℤ r ≡ v *ℤ (r +ℤ pos 129)) (left : b *ℤ r ≡ v *ℤ (r -ℤ pos 129)) where
  right_is : a *ℤ r ≡ r *ℤ v +ℤ pos 129 *ℤ v
  right_is = right ∙ *ℤ_comm v (r +ℤ pos 129) ∙ sum_times r (pos 129) v

  left_is : b *ℤ r ≡ r *ℤ v -ℤ pos 129 *ℤ v
  left_is =
      left ∙ *ℤ_comm v (r -ℤ pos 129) ∙ sum_times r (neg_ℤ (pos 129)) v
      ∙ ap (λ (z : ℤ). r *ℤ v +ℤ z) (minus_times (pos 129) v)

  sum_is : (r ≡ pos 0 → ⊥) → a +ℤ b ≡ v +ℤ v
  sum_is n =
      same_factor r (a +ℤ b) (v +ℤ v)
      (sum_times a b r ∙ (λ i. right_is i +ℤ left_is i) ∙ twice (r *ℤ v) (pos 129 *ℤ v)
      ∙ (λ i. *ℤ_comm r v i +ℤ *ℤ_comm r v i) ∙ sym (sum_times v v r))
      (abs_above r n)

  difference_is : (a -ℤ b) *ℤ r ≡ (v +ℤ v) *ℤ pos 129
  difference_is =
      sum_times a (neg_ℤ b) r ∙ ap (λ (z : ℤ). a *ℤ r +ℤ z) (minus_times b r)
      ∙ (λ i. right_is i -ℤ left_is i) ∙ twice_other (r *ℤ v) (pos 129 *ℤ v)
      ∙ (λ i. *ℤ_comm (pos 129) v i +ℤ *ℤ_comm (pos 129) v i) ∙ sym (sum_times v v (pos 129))

  -- D the difference without its sign, S the sum and R the radius: D R = 129 S
  module _ (n : r ≡ pos 0 → ⊥) where
    balance : nat_abs (a -ℤ b) * nat_abs r ≡ nat_abs (v +ℤ v) * 129
    balance = sym (abs_times (a -ℤ b) r) ∙ ap nat_abs difference_is ∙ abs_times (v +ℤ v) (pos 129)

    agreed : (lt_z (pos 0) (v +ℤ v) || ltb (129 * nat_abs (v +ℤ v)) (165 * nat_abs (a -ℤ b))) ≡ by_drive v r
    agreed = tight_curve v r (nat_abs (a -ℤ b)) (abs_above r n) balance

    pub agree : by_direct a b ≡ by_drive v r
    unfolding BySum
    agree = by_sum a b ∙ (λ i. lt_z (pos 0) (sum_is n i) || ltb (129 * nat_abs (sum_is n i)) (165 * nat_abs (a -ℤ b))) ∙ agreed
