use Rattle.std.proofs.Common.{rules, ◌≡◌, ◌∙◌, ◌+◌, ◌-◌, ◌≤◌, ◌<◌, ℕ, List, ◌++◌, Fits, w8, length, get_or, drop, replicate, refl, sym, ap, arith, bit_and, bit_or}
use mathlib.Core.Bool.{Bool, ◌&&◌, and-true}
use mathlib.Core.Logic.{⊎_elim}
use Prim.Native.Nat.{zero-le}
use native.Mathlib.Nat.{mod-eq_of_lt}
use lib.Bits.{and_zero_r, or_zero_r, and_mask}
use lib.Dec.{eqb, eqb→eq}
use lib.ListN.{drop_of_length-le}
use Rattle.wire.specs.Lists.{is_zero, all_zero}
use Rattle.wire.proofs.BoolLaws.{le_or_lt}
use Rattle.wire.proofs.ListsLaws.{from, zeros_next}
use Rattle.state.proofs.clear_past.Goals as goal

-- the mask, and what it leaves of a byte: nothing before place 32, and all of it from there on
abbrev bytes : List ℕ
bytes = replicate 32 0 ++ replicate 32 255

module _ (x k : ℕ) where
  hidden : k < 32 → bit_and x (get_or bytes k 0) ≡ 0
  hidden h =
      let zero : ℕ → Bool = λ k. eqb (get_or bytes k 0) 0 in
      ap (bit_and x) (eqb→eq (get_or bytes k 0) 0 (from zero 0 32 tt k zero-le (omega arith))) ∙ and_zero_r x

  shown : x < 256 → 32 ≤ k → k < 64 → bit_and x (get_or bytes k 0) ≡ x
  shown b h l =
      let full : ℕ → Bool = λ k. eqb (get_or bytes k 0) 255 in
      ap (bit_and x) (eqb→eq (get_or bytes k 0) 255 (from full 32 32 tt k h (omega arith))) ∙ and_mask x 8 ∙ mod-eq_of_lt b

turn : (l mask : List ℕ) (used left i : ℕ) → mask ≡ bytes → length l ≡ 32 → get_or l i 0 < 256 → used ≤ 32 → i < 32
    → (is_zero left && all_zero (drop (used + (i - used)) l))
    ≡ (is_zero (bit_or left (bit_and (get_or l i 0) (get_or mask (32 - used + i) 0))) && all_zero (drop (used + (i + 1 - used)) l))
turn l mask used left i e len b u h =
    rw e
    (⊎_elim
    (λ (p : used ≤ i).
    let here : used + (i - used) ≡ i = omega arith in
    let next : used + (i + 1 - used) ≡ i + 1 = omega arith in
    rw (here, next, shown (get_or l i 0) (32 - used + i) b (omega arith) (omega arith)) (zeros_next l i left (omega (arith, len))))
    (λ (p : i < used).
    let same : used + (i + 1 - used) ≡ used + (i - used) = omega arith in
    rw (same, hidden (get_or l i 0) (32 - used + i) (omega arith), or_zero_r left) refl)
    (le_or_lt used i))

pub loop-i-init : goal.loop-i-init
loop-i-init c =
    let e : c.args.used ≡ c.args.used + (0 - c.args.used) = omega arith in
    ap (λ (n : ℕ). all_zero (drop n c.args.notes.now)) e

pub loop-i-preserved : goal.loop-i-preserved
loop-i-preserved c =
    let byte : Fits w8 (get_or c.args.notes.now c.loop-i.i 0) = search rules in
    c.loop-i.invariant
    ∙ turn c.args.notes.now c.args.mask.now c.args.used c.loop-i.left c.loop-i.i c.requires.mask_value (search rules) (omega arith) c.requires.used_bound c.loop-i-test.true

pub returns : goal.returns
returns c =
    let l = c.args.notes.now in
    let len : length l ≡ 32 = search rules in
    let h : length l ≤ c.args.used + (c.loop-i.i - c.args.used) = omega arith in
    sym (c.loop-i.invariant ∙ rw (drop_of_length-le l h) (and-true (is_zero c.loop-i.left)))
