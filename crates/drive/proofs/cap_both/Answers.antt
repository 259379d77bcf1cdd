-- `drive::cap_both` meets its contract: each wheel by itself, and a speed is beyond the cap where
-- the cap changes it.
-- Assumes nothing.
use Rattle.std.proofs.Common.{◌≡◌, ◌∙◌, sym, ap, ℤ, w16, w32, to_z, of_z, arith}
use mathlib.Core.Bool.{false, not, ◌||◌}
use lib.Dec.{eqb}
use mir.Facts.{to_z-of_z}
use mir.Val.{SFits}
use borrow.Author.Rules.{rules}
use borrow.Author.Tests.{eq-eqb}
use Rattle.wire.proofs.SignedLaws.{abs_fits}
use Rattle.state.specs.Same.{same_number}
use Rattle.state.proofs.SameLaws.{by_bits}
use Rattle.drive.specs.Orders.{beyond, cap_of, speeds}
use Rattle.drive.proofs.OrdersLaws.{cap_bounded, cap_changes}
use Rattle.drive.proofs.cap_both.Goals as goal

-- a speed s in 32 bits, and what came back of its cap
module _ {s r : ℤ} (f : SFits w32 s) (g : SFits w32 r) (e : r ≡ cap_of (to_z w32 (of_z w32 s))) where
  capped : r ≡ cap_of s
  capped = rw (to_z-of_z f) at e

  held : to_z w16 (of_z w16 (to_z w32 (of_z w32 r))) ≡ cap_of s
  held = to_z-of_z {w = w16} (rw (to_z-of_z g ∙ capped) (abs_fits (omega (arith, cap_bounded s)))) ∙ to_z-of_z g ∙ capped

  changed : not (eqb (of_z w32 r) (of_z w32 s)) ≡ beyond s
  changed = ap not (sym (by_bits r s g f) ∙ ap (λ (z : ℤ). same_number z s) capped) ∙ cap_changes s

pub returns-else-right-wheels : goal.returns-else-right-wheels
returns-else-right-wheels c =
    let f : SFits w32 c.args.wheels.right = search rules in
    let g : SFits w32 c.args.wheels.left = search rules in
    let x : SFits w32 c.cap-right.result = search rules in
    let y : SFits w32 c.cap-left.result = search rules in
    let near : beyond c.args.wheels.right ≡ false = sym (changed f x c.cap-right.ensures) ∙ ap not (eq-eqb _ _ c.if-right-wheels.false) in
    let flag : not (eqb (of_z w32 c.cap-left.result) (of_z w32 c.args.wheels.left)) ≡ (beyond c.args.wheels.right || beyond c.args.wheels.left) = changed g y c.cap-left.ensures ∙ sym (simp near) in
    λ i. speeds (held f x c.cap-right.ensures i) (held g y c.cap-left.ensures i) (flag i)
