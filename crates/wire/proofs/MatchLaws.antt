-- A `match` on a number against a rule: one test, which antt computes over all the numbers, shows
-- that each arm gives what the rule says. The compiler tests for the single numbers of the arms
-- (their keys) first, and then for ranges, from which all keys are gone.
-- Assumes nothing.
use mathlib.Core.Path.{◌≡◌, sym, subst}
use mathlib.Core.Bool.{Bool, true, false, not, ◌&&◌, ◌||◌}
use mathlib.Core.List.{List, [], ◌∷◌}
use mathlib.Core.Logic.{⊎_elim}
use Prim.Native.Nat.{ℕ, ◌≤◌, ◌<◌, zero-le}
use native.Mathlib.Omega.{arith}
use lib.Dec.{T, leb}
use lib.ListN.{length, get_or}
use mir.Facts.{and_yes, or_yes, T_not-not, not_T, yes_and, yes_leb}
use mir.Val.{has_key}
use types.Run.{OneOf, hit, miss}
use Rattle.wire.specs.Lists.{all, all_from, within}
use Rattle.wire.proofs.BoolLaws.{implied}
use Rattle.wire.proofs.ListsLaws.{all-at, from}

-- ---- the arms as they are compiled

pub data Arm : Type 0 where
  keys : List ℕ → Arm
  -- from the first number to the last
  range : ℕ → ℕ → Arm

-- an arm and what it gives
pub record Case (A : Type 0) : Type 0 where
  pub arm : Arm
  pub gives : A

-- what `in_default-own.rest` says, of the keys of all arms, the last arm's first
abbrev NoneOf : List (List ℕ) → ℕ → Type 0
NoneOf [] n = Unit {0}
NoneOf (ks ∷ kss) n = NoneOf kss n × (OneOf ks n → ⊥)

abbrev keyed : List (List ℕ) → ℕ → Bool
keyed [] n = false
keyed (ks ∷ kss) n = has_key ks n || keyed kss n

-- control comes to the arm, as a fact and as a test
module _ (kss : List (List ℕ)) where
  abbrev pub Taken : Arm → ℕ → Type 0
  Taken (keys ks) n = OneOf ks n
  Taken (range first last) n = (first ≤ n) × ((n ≤ last) × NoneOf kss n)

  abbrev pub takes : Arm → ℕ → Bool
  takes (keys ks) n = has_key ks n
  takes (range first last) n = within first last n && not (keyed kss n)

not_keyed : (kss : List (List ℕ)) (n : ℕ) → NoneOf kss n → T (keyed kss n) → ⊥
not_keyed [] n free t = t
not_keyed (ks ∷ kss) n free t =
    ⊎_elim (λ a. free.1 (hit ks n a)) (λ b. not_keyed kss n free.0 b) (or_yes (has_key ks n) (keyed kss n) t)

taken_takes : (kss : List (List ℕ)) (a : Arm) (n : ℕ) → Taken kss a n → T (takes kss a n)
taken_takes kss (keys ks) n h = T_not-not (has_key ks n) (not_T (not (has_key ks n)) (λ t. miss ks n t h))
taken_takes kss (range first last) n h =
    yes_and (within first last n) (not (keyed kss n))
    (yes_and (leb first n) (leb n last) (yes_leb h.0) (yes_leb h.1.0))
    (not_T (keyed kss n) (not_keyed kss n h.1.1))

-- a test that every key passes
pub one_of : (f : ℕ → Bool) (ks : List ℕ) (n : ℕ) → T (all f ks) → OneOf ks n → T (f n)
one_of f [] n t h = absurd h
one_of f (k ∷ []) n t h = subst (λ (m : ℕ). T (f m)) (sym h) (and_yes (f k) true t).0
one_of f (k ∷ k' ∷ ks) n t h =
    let s = and_yes (f k) (all f (k' ∷ ks)) t in
    ⊎_elim (λ (e : n ≡ k). subst (λ (m : ℕ). T (f m)) (sym e) s.0) (λ r. one_of f (k' ∷ ks) n s.1 r) h

-- ---- the one test, and the law

module _ {A : Type 0} (same : A → A → Bool) (sound : (x y : A) → T (same x y) → x ≡ y) (f : ℕ → A) (kss : List (List ℕ)) where
  -- a case that takes n gives what f says
  abbrev pub right : ℕ → Case A → Bool
  right n c = not (takes kss c.arm n) || same c.gives (f n)

  pub by_cases : (cases : List (Case A)) (count : ℕ) → T (all_from (λ n. all (right n) cases) 0 count)
      → (d : Case A) (i n : ℕ) → i < length cases → n < count → Taken kss (get_or cases i d).arm n → (get_or cases i d).gives ≡ f n
  by_cases cases count t d i n a b h =
      let c = get_or cases i d in
      let u = all-at (right n) d cases i a (from (λ n. all (right n) cases) 0 count t n zero-le (omega arith)) in
      sound c.gives (f n) (implied (takes kss c.arm n) (same c.gives (f n)) u (taken_takes kss c.arm n h))
