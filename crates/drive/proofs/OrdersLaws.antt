-- Laws of the speeds: by the radius, which orders are legal, the cap, what comes back.
-- Assumes nothing.
use mathlib.Core.Path.{◌≡◌, refl, sym, ap, subst, ◌∙◌}
use mathlib.Core.Bool.{Bool, true, false, not, cond, ◌&&◌, ◌||◌}
use mathlib.Core.Logic.{⊎_elim}
use Prim.Native.Nat.{ℕ, zero, suc, ◌≤◌, ◌<◌}
use native.Mathlib.Omega.{arith}
use lib.Dec.{T}
use lib.IntN.{ℤ, pos, negsuc, neg_ℤ, nat_abs, ◌+ℤ◌, ◌-ℤ◌, ◌*ℤ◌, neg_ℤ-neg_ℤ}
use lib.ListN.{replicate}
use lib.Signed.{lt_z}
use borrow.Author.Tests.{lt-ltb, le-ltb, ltb-true, ltb-false, ne_eqb}
use Rattle.wire.specs.Sixteen.{minus}
use Rattle.wire.proofs.BoolLaws.{to_T, le_or_lt, both, cond-true, cond-false, cond_is}
use Rattle.wire.proofs.IntLaws.{minus_times, abs_above}
use Rattle.command.specs.Commands.{is_speed, is_radius}
use Rattle.command.proofs.CommandTableLaws.{drive_legal, direct_legal}
use Rattle.state.specs.Accepted.{order_named, wheels_legal}
use Rattle.state.specs.Same.{same_number}
use Rattle.state.proofs.SameLaws.{same_number_lem, number_self}
use Rattle.drive.specs.Rounding.{nearest_of}
use Rattle.drive.specs.Orders.{wheels, right_numerator, left_numerator, curve_of, wheels_by, beyond, cap_of, given, refused, legal_order, speeds_of}
use Rattle.drive.specs.declared.Wheels.{Wheels}
use Rattle.drive.proofs.RoundingLaws.{nearest_odd}

-- ---- numbers that are not the same

pub differ : (a b : ℤ) → (a ≡ b → ⊥) → same_number a b ≡ false
differ a b n = go (same_number a b) refl
  where
    go : (t : Bool) → same_number a b ≡ t → same_number a b ≡ false
    go true e = absurd (n (same_number_lem a b (to_T (same_number a b) e)))
    go false e = e

pub not_same : (a b : ℤ) → (nat_abs a ≡ nat_abs b → ⊥) → same_number a b ≡ false
not_same a b n = differ a b (λ e. n (ap nat_abs e))

-- ---- by the radius

module _ (v r : ℤ) where
  pub on_one : r ≡ pos 1 → curve_of v r ≡ wheels v (neg_ℤ v)
  unfolding curve_of
  on_one e = rw e refl

  pub on_minus_one : r ≡ minus 1 → curve_of v r ≡ wheels (neg_ℤ v) v
  unfolding curve_of
  on_minus_one e = rw e refl

  pub on_straight : r ≡ pos 32767 → curve_of v r ≡ wheels v v
  unfolding curve_of
  on_straight e = rw e refl

  pub on_least : r ≡ minus 32768 → curve_of v r ≡ wheels v v
  unfolding curve_of
  on_least e = rw e refl

  pub on_plain : same_number r (pos 1) ≡ false → same_number r (minus 1) ≡ false → same_number r (pos 32767) ≡ false → same_number r (minus 32768) ≡ false
      → curve_of v r ≡ wheels (nearest_of (right_numerator v r) r) (nearest_of (left_numerator v r) r)
  unfolding curve_of
  on_plain a b c d = rw (a, b, c, d) refl

-- backwards
abbrev pub turned : Wheels → Wheels
turned w = wheels (neg_ℤ w.right) (neg_ℤ w.left)

pub curve_odd : (v r : ℤ) → curve_of (neg_ℤ v) r ≡ turned (curve_of v r)
unfolding curve_of
curve_odd v r = by_tests (same_number r (pos 1)) (same_number r (minus 1)) (same_number r (pos 32767) || same_number r (minus 32768))
  where
    times_odd : (f : ℤ) → nearest_of (neg_ℤ v *ℤ f) r ≡ neg_ℤ (nearest_of (v *ℤ f) r)
    times_odd f = ap (λ (n : ℤ). nearest_of n r) (minus_times v f) ∙ nearest_odd (v *ℤ f) r

    plain : ℤ → Wheels
    plain x = wheels (nearest_of (right_numerator x r) r) (nearest_of (left_numerator x r) r)

    by_tests : (a b c : Bool)
        → cond a (wheels (neg_ℤ v) (neg_ℤ (neg_ℤ v))) (cond b (wheels (neg_ℤ (neg_ℤ v)) (neg_ℤ v)) (cond c (wheels (neg_ℤ v) (neg_ℤ v)) (plain (neg_ℤ v))))
        ≡ turned (cond a (wheels v (neg_ℤ v)) (cond b (wheels (neg_ℤ v) v) (cond c (wheels v v) (plain v))))
    by_tests true b c = refl
    by_tests false true c = refl
    by_tests false false true = refl
    by_tests false false false = λ i. wheels (times_odd (r +ℤ pos 129) i) (times_odd (r -ℤ pos 129) i)

-- ---- which orders are legal

pub legal_none : (a b : ℤ) → legal_order 0 a b ≡ true
unfolding order_named wheels_legal
legal_none a b = refl

pub legal_drive : (v r : ℤ) → legal_order 1 v r ≡ (is_speed v && is_radius r)
unfolding order_named wheels_legal
legal_drive v r = drive_legal v r (replicate 32 0)

pub legal_direct : (a b : ℤ) → legal_order 2 a b ≡ (is_speed a && is_speed b)
unfolding order_named wheels_legal
legal_direct a b = direct_legal a b (replicate 32 0)

pub legal_unnamed : (kind : ℕ) (a b : ℤ) → 2 < kind → legal_order kind a b ≡ false
unfolding order_named wheels_legal
legal_unnamed kind a b h =
    simp (ne_eqb kind 0 (λ (e : kind ≡ 0). omega arith), ne_eqb kind 1 (λ (e : kind ≡ 1). omega arith), ne_eqb kind 2 (λ (e : kind ≡ 2). omega arith))

-- a legal radius is not 0
pub radius_above : (v r : ℤ) → legal_order 1 v r ≡ true → 0 < nat_abs r
radius_above v r e =
    let legal = (both (is_speed v) (is_radius r) (sym (legal_drive v r) ∙ e)).1 in
    abs_above r (λ (z : r ≡ pos 0). absurd (subst T (sym legal ∙ ap is_radius z) tt))

-- ---- the cap

pub cap_above : (s : ℤ) → lt_z (pos 500) s ≡ true → (cap_of s ≡ pos 500) × (beyond s ≡ true)
cap_above s e = (simp e, far s e)
  where
    far : (s : ℤ) → lt_z (pos 500) s ≡ true → beyond s ≡ true
    far (pos n) e = e
    far (negsuc n) e = absurd (subst T (sym e) tt)

pub cap_below : (s : ℤ) → lt_z s (minus 500) ≡ true → (cap_of s ≡ minus 500) × (beyond s ≡ true)
cap_below (pos n) e = absurd (subst T (sym e) tt)
cap_below (negsuc n) e = (simp e, lt-ltb 500 (suc n) (let h = ltb-true 499 n e in omega arith))

-- neither above nor below is within
within_cap : (s : ℤ) → lt_z (pos 500) s ≡ false → lt_z s (minus 500) ≡ false → nat_abs s ≤ 500
within_cap (pos n) e f = ltb-false 500 n e
within_cap (negsuc n) e f = let h = ltb-false 499 n f in omega arith

-- and is kept
pub cap_keeps : (s : ℤ) → nat_abs s ≤ 500 → (cap_of s ≡ s) × (beyond s ≡ false)
cap_keeps (pos n) h = (simp (le-ltb 500 n h), le-ltb 500 n h)
cap_keeps (negsuc n) h = (simp (le-ltb 499 n (omega arith)), le-ltb 500 (suc n) h)

pub cap_inside : (s : ℤ) → lt_z (pos 500) s ≡ false → lt_z s (minus 500) ≡ false → (cap_of s ≡ s) × (beyond s ≡ false)
cap_inside s e f = cap_keeps s (within_cap s e f)

pub cap_bounded : (s : ℤ) → nat_abs (cap_of s) ≤ 500
cap_bounded s =
    cond_is (λ (z : ℤ). nat_abs z ≤ 500) (lt_z (pos 500) s) (λ e. omega arith)
    (λ e. cond_is (λ (z : ℤ). nat_abs z ≤ 500) (lt_z s (minus 500)) (λ f. omega arith) (λ f. within_cap s e f))

-- a speed is beyond where the cap changes it
pub cap_changes : (s : ℤ) → not (same_number (cap_of s) s) ≡ beyond s
cap_changes s = go (beyond s) refl
  where
    go : (t : Bool) → beyond s ≡ t → not (same_number (cap_of s) s) ≡ beyond s
    go true e = ap not (not_same (cap_of s) s (λ q. omega (arith, q, cap_bounded s, ltb-true 500 (nat_abs s) e))) ∙ sym e
    go false e = ap (λ (z : ℤ). not (same_number z s)) (cap_keeps s (ltb-false 500 (nat_abs s) e)).0 ∙ ap not (number_self s) ∙ sym e

cap_minus : (n : ℕ) → cap_of (pos (suc n)) ≡ neg_ℤ (cap_of (negsuc n))
cap_minus n =
    ⊎_elim (λ (h : n ≤ 499). simp (le-ltb 500 (suc n) (omega arith), le-ltb 499 n h))
    (λ (h : 499 < n). simp (lt-ltb 500 (suc n) (omega arith), lt-ltb 499 n h)) (le_or_lt n 499)

pub cap_odd : (s : ℤ) → cap_of (neg_ℤ s) ≡ neg_ℤ (cap_of s)
cap_odd (pos zero) = refl
cap_odd (pos (suc n)) = sym (ap neg_ℤ (cap_minus n) ∙ neg_ℤ-neg_ℤ (cap_of (negsuc n)))
cap_odd (negsuc n) = cap_minus n

-- ---- what comes back

module _ (kind : ℕ) (a b : ℤ) where
  pub speeds_refused : legal_order kind a b ≡ false → speeds_of kind a b ≡ refused
  unfolding speeds_of
  speeds_refused e = cond-false (legal_order kind a b) (given (wheels_by kind a b)) refused e

  pub speeds_given : legal_order kind a b ≡ true → {w : Wheels} → wheels_by kind a b ≡ w → speeds_of kind a b ≡ given w
  unfolding speeds_of
  speeds_given e g = cond-true (legal_order kind a b) (given (wheels_by kind a b)) refused e ∙ ap given g

  pub by_drive : kind ≡ 1 → wheels_by kind a b ≡ curve_of a b
  by_drive e = rw e refl

  pub by_direct : kind ≡ 2 → wheels_by kind a b ≡ wheels a b
  by_direct e = rw e refl

  pub by_none : (kind ≡ 1 → ⊥) → (kind ≡ 2 → ⊥) → wheels_by kind a b ≡ wheels (pos 0) (pos 0)
  by_none n m = simp (ne_eqb kind 1 n, ne_eqb kind 2 m)
