-- Laws of columns: a text is looked at from its end.
-- Assumes nothing.
use Rattle.std.proofs.Common.{◌≡◌, ◌∙◌, refl, sym, ap, Bool, true, false, cond, List, [], ◌∷◌, ◌++◌, ℕ, suc, ◌+◌, ◌-◌, ◌^◌, ◌%◌, ◌≤◌, ◌<◌, length, get_or, take, arith}
use lib.Seq.{take-suc}
use borrow.Author.Tests.{eq-eqb, ne_eqb}
use Rattle.std.specs.Prelude.{eqb}
use Rattle.terminal.specs.Columns.{column_after, columns_after}

-- the last byte moves on from the column before it
pub columns_snoc : (c : ℕ) (xs : List ℕ) (b : ℕ) → columns_after c (xs ++ (b ∷ [])) ≡ column_after (columns_after c xs) b
columns_snoc c [] b = refl
columns_snoc c (x ∷ xs) b = columns_snoc (column_after c x) xs b

column_bound : (c b : ℕ) → column_after c b < 2 ^ 64
column_bound c b = go (eqb b 10)
  where
    go : (t : Bool) → cond t 0 ((c + 1) % 2 ^ 64) < 2 ^ 64
    go true = omega arith
    go false = omega arith

-- a column is a number of the machine
pub columns_bound : (c : ℕ) (xs : List ℕ) → c < 2 ^ 64 → columns_after c xs < 2 ^ 64
columns_bound c [] h = h
columns_bound c (x ∷ xs) h = columns_bound (column_after c x) xs (column_bound c x)

module _ (c : ℕ) (xs : List ℕ) (n : ℕ) (h : 1 ≤ n) (k : n ≤ length xs) where
  abbrev front : List ℕ
  front = take (n - 1) xs

  abbrev last : ℕ
  last = get_or xs (n - 1) 0

  by_last : columns_after c (take n xs) ≡ column_after (columns_after c front) last
  by_last =
      let whole : suc (n - 1) ≡ n = omega arith in
      let all : take (suc (n - 1)) xs ≡ take n xs = rw whole refl in
      sym (ap (columns_after c) all)
      ∙ ap (columns_after c) (take-suc xs (n - 1) 0 (omega arith))
      ∙ columns_snoc c front last

  -- a newline begins anew, and any other byte adds one
  pub at_newline : last ≡ 10 → columns_after c (take n xs) ≡ 0
  at_newline e = by_last ∙ simp (eq-eqb last 10 e)

  pub past_byte : (last ≡ 10 → ⊥) → columns_after c (take n xs) ≡ (columns_after c front + 1) % 2 ^ 64
  past_byte e = by_last ∙ simp (ne_eqb last 10 e)
