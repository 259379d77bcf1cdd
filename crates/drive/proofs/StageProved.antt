-- What the motor stage can count on.
-- Assumes nothing.
use mathlib.Core.Path.{◌≡◌, refl, sym, ap, subst, ◌∙◌}
use mathlib.Core.Bool.{Bool, true, false, cond, ◌&&◌, ◌||◌, and-true, and_comm}
use mathlib.Core.Logic.{⊎_elim}
use Prim.Native.Nat.{ℕ, zero, suc, ◌≤◌, ◌<◌}
use native.Mathlib.Omega.{arith}
use lib.Dec.{T, eqb, leb, ltb, leb-suc-suc}
use lib.IntN.{ℤ, pos, negsuc, neg_ℤ, nat_abs}
use borrow.Author.Tests.{lt-leb, le-leb, leb-true, ne_eqb, eq-eqb}
use Rattle.wire.specs.Lists.{all}
use Rattle.wire.specs.Sixteen.{minus}
use Rattle.wire.proofs.BoolLaws.{le_or_lt, both, cond-true, cond_is}
use Rattle.wire.proofs.IntLaws.{abs_minus}
use Rattle.command.specs.Commands.{is_speed, is_radius}
use Rattle.command.specs.CommandTable.{is_in, is_legal, row_of, legal_of}
use Rattle.state.specs.State.{motors_off}
use Rattle.state.specs.Accepted.{order_named, wheels_legal, accepted_of}
use Rattle.state.specs.declared.Motors.{Motors}
use Rattle.state.specs.declared.State.{State}
use Rattle.state.proofs.StateLaws.{off_order}
use Rattle.state.proofs.RecordProved.{accepted_exactly}
use Rattle.drive.specs.Rounding.{nearest_of}
use Rattle.drive.specs.Orders.{wheels, right_numerator, left_numerator, curve_of, beyond, Told, speeds, given, refused, legal_order, wheels_by, speeds_of}
use Rattle.drive.specs.Cases.{speed_cases, speed_right}
use Rattle.drive.specs.Stage.{is_plain, is_special, BothNearest, CurvesRight, backwards, OrdersRight, ordered, RecordsRight, StageRight}
use Rattle.drive.specs.declared.Wheels.{Wheels}
use Rattle.drive.proofs.RoundingLaws.{is_nearest, rounding_right}
use Rattle.drive.proofs.OrdersLaws.{not_same, on_one, on_minus_one, on_straight, on_least, on_plain, turned, curve_odd, legal_none, legal_drive, legal_direct, legal_unnamed, cap_above, cap_below, cap_keeps, cap_inside, cap_bounded, cap_odd, speeds_refused, speeds_given}

-- ---- a curve

-- no less and no greater is the same
two_sided : (a n : ℕ) → (leb a n && leb n a) ≡ eqb n a
two_sided a n =
    ⊎_elim
    (λ (h : a ≤ n).
    ⊎_elim (λ (k : n ≤ a). simp (le-leb a n h, le-leb n a k, eq-eqb n a (omega arith)))
    (λ (k : a < n). simp (le-leb a n h, lt-leb n a k, ne_eqb n a (λ (e : n ≡ a). omega arith))) (le_or_lt n a))
    (λ (h : n < a). simp (lt-leb a n h, ne_eqb n a (λ (e : n ≡ a). omega arith))) (le_or_lt a n)

radii : (r : ℤ) → is_radius r ≡ (is_plain r || is_special r)
radii (pos zero) = refl
radii (pos (suc zero)) = refl
radii (pos (suc (suc n))) =
    let k = suc (suc n) in
    let least = le-leb 2 k (omega arith) in
    ⊎_elim
    (λ (h : suc (suc n) ≤ 2000). simp (least, le-leb k 2000 h, le-leb 0 k (omega arith), lt-leb k 0 (omega arith)))
    (λ (h : 2000 < suc (suc n)). simp (least, lt-leb k 2000 h, two_sided 32767 k, ne_eqb k 1 (λ (e : suc (suc n) ≡ 1). omega arith)))
    (le_or_lt k 2000)
radii (negsuc zero) = refl
radii (negsuc (suc n)) =
    let k = suc n in
    let least = le-leb 2 (suc k) (omega arith) in
    ⊎_elim
    (λ (h : suc n ≤ 1999). simp (least, le-leb k 1999 h, le-leb (suc k) 2000 (omega arith)))
    (λ (h : 1999 < suc n).
    simp (least, lt-leb k 1999 h, lt-leb (suc k) 2000 (omega arith), ne_eqb k 0 (λ (e : suc n ≡ 0). omega arith), and_comm (leb k 32767) (leb 32767 k) ∙ two_sided 32767 k))
    (le_or_lt k 1999)

-- a plain radius is none of the special ones
module _ (r : ℤ) (e : is_plain r ≡ true) where
  tested : (leb 2 (nat_abs r) ≡ true) × (leb (nat_abs r) 2000 ≡ true)
  tested = both (leb 2 (nat_abs r)) (leb (nat_abs r) 2000) e

  plain_least : 2 ≤ nat_abs r
  plain_least = leb-true 2 (nat_abs r) tested.0

  plain_most : nat_abs r ≤ 2000
  plain_most = leb-true (nat_abs r) 2000 tested.1

  plain_curve : (v : ℤ) → curve_of v r ≡ wheels (nearest_of (right_numerator v r) r) (nearest_of (left_numerator v r) r)
  plain_curve v =
      on_plain v r
      (not_same r (pos 1) (λ (q : nat_abs r ≡ 1). omega (arith, plain_least)))
      (not_same r (minus 1) (λ (q : nat_abs r ≡ 1). omega (arith, plain_least)))
      (not_same r (pos 32767) (λ (q : nat_abs r ≡ 32767). omega (arith, plain_most)))
      (not_same r (minus 32768) (λ (q : nat_abs r ≡ 32768). omega (arith, plain_most)))

  plain : (v : ℤ) → BothNearest v r (curve_of v r)
  plain v =
      let above : 0 < nat_abs r = omega (arith, plain_least) in
      subst (BothNearest v r) (sym (plain_curve v))
      (record { right_nearest = is_nearest (right_numerator v r) r above; left_nearest = is_nearest (left_numerator v r) r above })

curves_right : CurvesRight
curves_right =
    record {
      radii = radii;
      plain = λ v r e. plain r e v;
      counterclockwise = λ v. on_one v (pos 1) refl;
      clockwise = λ v. on_minus_one v (minus 1) refl;
      straight = λ v. on_straight v (pos 32767) refl;
      straight_too = λ v. on_least v (minus 32768) refl;
    }

-- ---- an order

-- by the test that an order is legal
by_legal : (kind : ℕ) (a b : ℤ) → speeds_of kind a b ≡ cond (legal_order kind a b) (given (wheels_by kind a b)) refused
unfolding speeds_of
by_legal kind a b = refl

none_stands : (a b : ℤ) → speeds_of 0 a b ≡ speeds (pos 0) (pos 0) false
none_stands a b = speeds_given 0 a b (legal_none a b) refl

drive_is : (v r : ℤ) → speeds_of 1 v r ≡ cond (is_speed v && is_radius r) (given (curve_of v r)) refused
drive_is v r = by_legal 1 v r ∙ ap (λ (t : Bool). cond t (given (curve_of v r)) refused) (legal_drive v r)

-- a legal speed is within the cap
speed_within : (a : ℤ) → is_speed a ≡ true → nat_abs a ≤ 500
speed_within (pos n) e = leb-true n 500 e
speed_within (negsuc n) e = let h = leb-true n 499 (both (leb n 499) true e).0 in omega arith

passes : (a b : ℤ) → (is_speed a && is_speed b) ≡ true → given (wheels a b) ≡ speeds a b false
passes a b e =
    let right = cap_keeps a (speed_within a (both (is_speed a) (is_speed b) e).0) in
    let left = cap_keeps b (speed_within b (both (is_speed a) (is_speed b) e).1) in
    λ i. speeds (right.0 i) (left.0 i) (right.1 i || left.1 i)

direct_is : (a b : ℤ) → speeds_of 2 a b ≡ cond (is_speed a && is_speed b) (speeds a b false) refused
direct_is a b = by_legal 2 a b ∙ ap (λ (t : Bool). cond t (given (wheels a b)) refused) (legal_direct a b) ∙ passed (is_speed a && is_speed b) (passes a b)
  where
    passed : (t : Bool) → (t ≡ true → given (wheels a b) ≡ speeds a b false) → cond t (given (wheels a b)) refused ≡ cond t (speeds a b false) refused
    passed true f = f refl
    passed false f = refl

flag_is : (v r : ℤ) → (is_speed v && is_radius r) ≡ true → (speeds_of 1 v r).capped ≡ (beyond (curve_of v r).right || beyond (curve_of v r).left)
flag_is v r e = ap (λ (s : Told). s.capped) (drive_is v r ∙ cond-true (is_speed v && is_radius r) (given (curve_of v r)) refused e)

abbrev number_of : Told → ℕ
number_of s = s.number

-- those that are given, and 0
bounded : (kind : ℕ) (a b : ℤ) → (nat_abs (speeds_of kind a b).right ≤ 500) × (nat_abs (speeds_of kind a b).left ≤ 500)
bounded kind a b =
    let w = wheels_by kind a b in
    rw (by_legal kind a b)
    (cond_is (λ (s : Told). (nat_abs s.right ≤ 500) × (nat_abs s.left ≤ 500)) (legal_order kind a b)
    (λ e. (cap_bounded w.right, cap_bounded w.left))
    (λ e. (omega arith, omega arith)))

-- the legal speeds are the same both ways
speed_minus : (n : ℕ) → is_speed (negsuc n) ≡ is_speed (pos (suc n))
speed_minus n = and-true (leb n 499) ∙ sym (leb-suc-suc n 499)

speed_even : (v : ℤ) → is_speed (neg_ℤ v) ≡ is_speed v
speed_even (pos zero) = refl
speed_even (pos (suc n)) = speed_minus n
speed_even (negsuc n) = sym (speed_minus n)

given_odd : (w : Wheels) → given (turned w) ≡ backwards (given w)
given_odd w i =
    speeds (cap_odd w.right i) (cap_odd w.left i) (ltb 500 (abs_minus w.right i) || ltb 500 (abs_minus w.left i))

odd : (v r : ℤ) → speeds_of 1 (neg_ℤ v) r ≡ backwards (speeds_of 1 v r)
odd v r =
    drive_is (neg_ℤ v) r
    ∙ (λ i. cond (speed_even v i && is_radius r) (given (curve_odd v r i)) refused)
    ∙ ap (λ (s : Told). cond (is_speed v && is_radius r) s refused) (given_odd (curve_of v r))
    ∙ either (is_speed v && is_radius r)
    ∙ sym (ap backwards (drive_is v r))
  where
    either : (t : Bool) → cond t (backwards (given (curve_of v r))) refused ≡ backwards (cond t (given (curve_of v r)) refused)
    either true = refl
    either false = refl

orders_right : OrdersRight
orders_right =
    record {
      none = none_stands;
      drive = drive_is;
      direct = direct_is;
      unnamed = λ kind a b h. speeds_refused kind a b (legal_unnamed kind a b h);
      flag = flag_is;
      bounded = bounded;
      odd = odd;
    }

-- ---- the state record's order

off_stands : (m : Motors) → motors_off m ≡ true → ordered m ≡ speeds (pos 0) (pos 0) false
off_stands m e = ap (λ (k : ℕ). speeds_of k m.first m.second) (off_order m e) ∙ none_stands m.first m.second

-- by the kind that is named
taken : (v r : ℤ) (kind : ℕ) → kind ≤ 2 → (kind ≡ 1 → (is_speed v && is_radius r) ≡ true) → (kind ≡ 2 → (is_speed v && is_speed r) ≡ true)
    → (speeds_of kind v r).number ≡ 0
taken v r zero h drive direct = ap number_of (none_stands v r)
taken v r (suc zero) h drive direct =
    ap number_of (drive_is v r ∙ cond-true (is_speed v && is_radius r) (given (curve_of v r)) refused (drive refl))
taken v r (suc (suc zero)) h drive direct =
    ap number_of (direct_is v r ∙ cond-true (is_speed v && is_speed r) (speeds v r false) refused (direct refl))
taken v r (suc (suc (suc kind))) h drive direct = let never : ⊥ = omega arith in absurd never

accepted : (s : State) → T (accepted_of s) → (ordered s.motors).number ≡ 0
accepted s t =
    let m = s.motors in
    let p = (accepted_exactly.accepted_facts s t).1 in
    taken m.first m.second m.order p.order_is p.drive_is p.direct_is

records_right : RecordsRight
records_right =
    record {
      accepted = accepted;
      off = off_stands;
      at_rest = λ s t h. off_stands s.motors ((accepted_exactly.accepted_facts s t).1.off_unless_driven_lem h);
    }

-- ---- all of it

cases_right : T (all speed_right speed_cases)
unfolding is_in is_legal row_of legal_of order_named wheels_legal nearest_of curve_of speeds_of
cases_right = tt

pub stage_right : StageRight
stage_right =
    record {
      rounding = rounding_right;
      curves = curves_right;
      cap = record { above = cap_above; below = cap_below; inside = cap_inside };
      orders = orders_right;
      records = records_right;
      cases = cases_right;
    }
