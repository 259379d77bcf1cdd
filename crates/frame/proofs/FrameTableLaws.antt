-- Laws of the frame table, each by one test that antt computes over opcodes 0 to 255.
-- Assumes nothing.
use mathlib.Core.Path.{◌≡◌, subst}
use mathlib.Core.Bool.{Bool, not, ◌||◌}
use mathlib.Core.List.{List}
use Prim.Native.Nat.{ℕ, suc, ◌<◌, zero-le}
use native.Mathlib.Omega.{arith}
use lib.Dec.{T, leb, eqb, eqb_refl}
use Rattle.wire.specs.Lists.{all_from, among}
use Rattle.wire.proofs.BoolLaws.{implied}
use Rattle.wire.proofs.ListsLaws.{from}
use Rattle.frame.specs.FrameTable.{data_length}
use Rattle.frame.specs.declared.Length.{Length}
use Rattle.frame.specs.declared.Length.TheVariants.{Fixed, Counted, Song, Unknown}

-- ---- lengths as numbers, so that a test compares them

abbrev pub code : Length → ℕ
code Unknown = 0
code Counted = 1
code Song = 2
code (Fixed n) = suc (suc (suc n))

abbrev same : Length → Length → Bool
same l m = eqb (code l) (code m)

-- ---- what holds of every opcode's length

-- no opcode has more than 4 data bytes by itself
pub fixed_small : (op : ℕ) → op < 256 → T (leb (code (data_length op)) (code (Fixed 4)))
unfolding data_length
fixed_small op h = from (λ k. leb (code (data_length k)) (code (Fixed 4))) 0 256 tt op zero-le (omega arith)

-- the opcodes of one length are among ks
pub only_these : (l : Length) (ks : List ℕ) → T (all_from (λ k. not (same (data_length k) l) || among ks k) 0 256)
    → (op : ℕ) → op < 256 → data_length op ≡ l → T (among ks op)
only_these l ks t op h e =
    implied (same (data_length op) l) (among ks op) (from (λ k. not (same (data_length k) l) || among ks k) 0 256 t op zero-le (omega arith))
    (subst (λ (m : Length). T (same (data_length op) m)) e (eqb_refl (code (data_length op))))
