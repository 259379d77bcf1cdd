-- Laws of the record's definitions.
-- Assumes nothing.
use mathlib.Core.Path.{◌≡◌, refl, ap}
use mathlib.Core.Bool.{true, false, not}
use mathlib.Core.List.{[], ◌∷◌}
use Prim.Native.Nat.{ℕ, zero, suc}
use native.Mathlib.Omega.{arith}
use lib.Dec.{T, ltb, eqb, eqb→eq}
use lib.ListN.{get_or, replicate}
use mir.Facts.{and_yes}
use borrow.Author.Tests.{lt-ltb, eq-eqb}
use Rattle.wire.specs.Lists.{all_zero}
use Rattle.wire.proofs.BoolLaws.{to_T, pos_eqb}
use Rattle.wire.proofs.ListsLaws.{zero_at}
use Rattle.state.specs.State.{motors_off, unset, song_at, power_on}
use Rattle.state.specs.Accepted.{is_set}
use Rattle.state.specs.declared.Motors.{Motors}
use Rattle.state.specs.declared.Song.{Song}

-- ---- motors_off

module _ (m : Motors) where
  off_parts : motors_off m ≡ true → T (eqb m.order 0) × T (all_zero m.duties)
  unfolding motors_off
  off_parts e = and_yes (eqb m.order 0) (all_zero m.duties) (to_T (motors_off m) e)

  pub off_order : motors_off m ≡ true → m.order ≡ 0
  off_order e = eqb→eq m.order 0 (off_parts e).0

  pub off_duties : motors_off m ≡ true → (i : ℕ) → get_or m.duties i 0 ≡ 0
  off_duties e = zero_at m.duties (off_parts e).1

  pub off_so : m.order ≡ 0 → m.duties ≡ 0 ∷ 0 ∷ 0 ∷ [] → motors_off m ≡ true
  unfolding motors_off
  off_so a b = simp (eq-eqb m.order 0 a, b)

-- ---- songs

all_unset : (k n : ℕ) → get_or (replicate k unset) n unset ≡ unset
all_unset zero n = refl
all_unset (suc k) zero = refl
all_unset (suc k) (suc n) = all_unset k n

pub no_songs : (n : ℕ) → is_set (song_at power_on.songs n) ≡ false
unfolding power_on
no_songs n = ap is_set (all_unset 16 n)

pub set_so : (x : Song) → is_set x ≡ ltb 0 x.len
set_so x = go x.len
  where
    go : (n : ℕ) → not (eqb n 0) ≡ ltb 0 n
    go zero = refl
    go (suc n) = simp (pos_eqb (suc n) (omega arith), lt-ltb 0 (suc n) (omega arith))
