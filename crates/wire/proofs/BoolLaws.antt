-- Bool tests as facts. The library has those on `&&`, `||` and `not` (`mir.Facts`), and on the
-- tests of numbers (`borrow.Author.Tests`).
-- Assumes nothing.
use mathlib.Core.Path.{◌≡◌, refl, sym, ap, subst, ◌∙◌}
use mathlib.Core.Bool.{Bool, true, false, not, cond, ◌&&◌, ◌||◌, beq}
use mathlib.Core.Logic.{◌⊎◌, inl, inr, ⊎_elim}
use Prim.Native.Nat.{ℕ, zero, suc, ◌-◌, ◌≤◌, ◌<◌, zero-le, suc-le-suc}
use native.Mathlib.Nat.{eq-or-lt_of_le}
use native.Mathlib.Omega.{arith}
use lib.Bits.{bit_or, or_zero_l, and_le_r, or_add_and}
use lib.Dec.{T, leb, eqb, leb-zero, leb-suc-suc}
use mir.Facts.{and_yes}
use borrow.Author.Tests.{le-leb, lt-leb, leb-true, leb-false, eqb-true, eqb-false, eq-eqb, ne_eqb}

pub is_true : (b : Bool) → T b → b ≡ true
is_true true t = refl
is_true false t = absurd t

pub to_T : (b : Bool) → b ≡ true → T b
to_T b e = subst T (sym e) tt

-- two tests with the same value
pub beq_eq : (a b : Bool) → T (beq a b) → a ≡ b
beq_eq true true t = refl
beq_eq true false t = absurd t
beq_eq false true t = absurd t
beq_eq false false t = refl

-- a test of two that passes
pub both : (a b : Bool) → (a && b) ≡ true → (a ≡ true) × (b ≡ true)
both a b e = let s = and_yes a b (to_T (a && b) e) in (is_true a s.0, is_true b s.1)

-- two tests that pass together
pub same_truth : (a b : Bool) → (T a → T b) → (T b → T a) → a ≡ b
same_truth true true f g = refl
same_truth true false f g = absurd (f tt)
same_truth false true f g = absurd (g tt)
same_truth false false f g = refl

-- a test that asks b only where a passes
pub implied : (a b : Bool) → T (not a || b) → T a → T b
implied true b t h = t
implied false b t h = absurd h

pub or_none : (b : Bool) → (b || false) ≡ b
or_none true = refl
or_none false = refl

pub and_swap : (a b c d : Bool) → ((a && b) && (c && d)) ≡ ((a && c) && (b && d))
and_swap true true c d = refl
and_swap true false true d = refl
and_swap true false false d = refl
and_swap false b c d = refl

-- ---- cond

pub cond-true {ℓ} : {A : Type ℓ} (b : Bool) (x y : A) → b ≡ true → cond b x y ≡ x
cond-true b x y e = rw e

pub cond-false {ℓ} : {A : Type ℓ} (b : Bool) (x y : A) → b ≡ false → cond b x y ≡ y
cond-false b x y e = rw e

pub cond-not {ℓ} : {A : Type ℓ} (b : Bool) (x y : A) → cond (not b) x y ≡ cond b y x
cond-not true x y = refl
cond-not false x y = refl

-- what holds of both branches, each where the test sends it there
pub cond_is : {A : Type 0} (P : A → Type 0) (b : Bool) {x y : A} → (b ≡ true → P x) → (b ≡ false → P y) → P (cond b x y)
cond_is P true f g = f refl
cond_is P false f g = g refl

-- what a `cond` of tests asks, by the first test's value
pub cond_cases : (a b c : Bool) → T (cond a b c) → ((a ≡ true) × T b) ⊎ ((a ≡ false) × T c)
cond_cases true b c t = inl (refl, t)
cond_cases false b c t = inr (refl, t)

-- ---- numbers

pub le_or_lt : (a b : ℕ) → (a ≤ b) ⊎ (b < a)
le_or_lt a b = go (leb a b) refl
  where
    go : (t : Bool) → leb a b ≡ t → (a ≤ b) ⊎ (b < a)
    go true e = inl (leb-true a b e)
    go false e = inr (leb-false a b e)

pub not_zero : (n : ℕ) → eqb n 0 ≡ false → 0 < n
not_zero zero e = absurd (subst T e tt)
not_zero (suc n) e = suc-le-suc zero-le

pub pos_eqb : (n : ℕ) → 0 < n → eqb n 0 ≡ false
pos_eqb n h = ne_eqb n 0 (λ (e : n ≡ 0). omega arith)

pub one_or_less : (n : ℕ) → 0 < n → eqb n 1 ≡ leb n 1
one_or_less n h =
    ⊎_elim (λ (e : 1 ≡ n). eq-eqb n 1 (sym e) ∙ sym (le-leb n 1 (omega arith)))
    (λ (m : 1 < n). ne_eqb n 1 (λ (e : n ≡ 1). omega arith) ∙ sym (lt-leb n 1 m))
    (eq-or-lt_of_le h)

pub not_one : (n : ℕ) → 0 < n → eqb n 1 ≡ false → 1 < n
not_one n h w = ⊎_elim (λ (e : 1 ≡ n). absurd (eqb-false n 1 w (sym e))) (λ q. q) (eq-or-lt_of_le h)

pub leb_pred : (m k : ℕ) → leb (m - 1) k ≡ leb m (suc k)
leb_pred zero k = leb-zero k ∙ sym (leb-zero (suc k))
leb_pred (suc m) k = let e : suc m - 1 ≡ m = omega arith in ap (λ (n : ℕ). leb n k) e ∙ sym (leb-suc-suc m k)

-- bits put together are 0 where both are
pub or_zero : (a b : ℕ) → eqb (bit_or a b) 0 ≡ (eqb a 0 && eqb b 0)
or_zero zero b = ap (λ (n : ℕ). eqb n 0) (or_zero_l b)
or_zero (suc a) b =
    let h : 0 < bit_or (suc a) b = omega (arith, or_add_and (suc a) b, and_le_r (suc a) b) in
    pos_eqb (bit_or (suc a) b) h ∙ sym (simp (pos_eqb (suc a) (omega arith)))

-- two tests of equality that say the same
pub eqb_iff : (a b c d : ℕ) → (a ≡ b → c ≡ d) → (c ≡ d → a ≡ b) → eqb a b ≡ eqb c d
eqb_iff a b c d f g = go (eqb a b) refl
  where
    go : (t : Bool) → eqb a b ≡ t → eqb a b ≡ eqb c d
    go true e = e ∙ sym (eq-eqb c d (f (eqb-true a b e)))
    go false e = e ∙ sym (ne_eqb c d (λ h. eqb-false a b e (g h)))
