-- Legal numbers fit their items, so that a frame of legal data is a list of bytes.
-- Assumes nothing.
use mathlib.Core.Bool.{Bool, true, ◌&&◌}
use mathlib.Core.List.{List, [], ◌∷◌, map}
use mathlib.Core.Logic.{⊎_elim}
use Prim.Native.Nat.{ℕ, ◌≤◌, ◌<◌}
use native.Mathlib.Omega.{arith}
use lib.Dec.{T, leb→le}
use lib.IntN.{ℤ, pos, negsuc}
use lib.Signed.{le_z, mag}
use mir.Facts.{and_yes, or_yes}
use mir.Syntax.{w8, w16}
use mir.Val.{SFits}
use borrow.Author.Tests.{lt-ltb}
use Rattle.wire.specs.Lists.{all, is_byte, all_bytes}
use Rattle.wire.specs.Signed.{bits8_of}
use Rattle.wire.specs.Sixteen.{high16_of, low16_of}
use Rattle.wire.proofs.ListsLaws.{all_append}
use Rattle.wire.proofs.SignedLaws.{round_trip_bits}
use Rattle.wire.proofs.SixteenLaws.{round_trip16}
use Rattle.command.specs.Layout.{Item, byte, signed_byte, word, value_of, item_bytes, all_sent, form_of, payload_in}
use Rattle.command.specs.CommandTable.{Range, is_in, is_legal, all_legal, row_of, legal_of}
use Rattle.command.specs.declared.Command.{Command}
use Rattle.command.specs.declared.Message.{Message}
use Rattle.command.proofs.VariantLaws.{every}

-- ---- a number in a range

-- it fits its item
abbrev FitsItem : Item → Type 0
FitsItem (byte n) = n < 256
FitsItem (signed_byte v) = SFits w8 v
FitsItem (word v) = SFits w16 v

-- the range is one of bytes, or of the numbers of a width with a sign
abbrev of_signed : ℕ → Range → Bool
of_signed most r = le_z (negsuc most) r.first && le_z r.last (pos most)

abbrev of_kind : Item → Range → Bool
of_kind (byte n) r = le_z r.last (pos 255)
of_kind (signed_byte v) r = of_signed 127 r
of_kind (word v) r = of_signed 32767 r

byte_below : (n : ℕ) (z : ℤ) → T (le_z z (pos 255)) → T (le_z (pos n) z) → n < 256
byte_below n (pos k) t u = let a = leb→le k 255 t in let b = leb→le n k u in omega arith
byte_below n (negsuc k) t u = absurd u

signed_below : (most : ℕ) (v a b : ℤ) → T (le_z (negsuc most) a) → T (le_z b (pos most)) → T (le_z a v) → T (le_z v b) → mag v ≤ most
signed_below most (pos n) a (pos k) t u x y = let p = leb→le k most u in let q = leb→le n k y in omega arith
signed_below most (pos n) a (negsuc k) t u x y = absurd y
signed_below most (negsuc n) (pos k) b t u x y = absurd x
signed_below most (negsuc n) (negsuc k) b t u x y = let p = leb→le k most t in let q = leb→le n k x in omega arith

signed_fits : (most : ℕ) (v : ℤ) (r : Range) → T (of_signed most r) → T (is_in r v) → mag v ≤ most
unfolding is_in
signed_fits most v r t u =
    let s = and_yes (le_z (negsuc most) r.first) (le_z r.last (pos most)) t in
    let x = and_yes (le_z r.first v) (le_z v r.last) u in
    signed_below most v r.first r.last s.0 s.1 x.0 x.1

item_fits : (i : Item) (r : Range) → T (of_kind i r) → T (is_in r (value_of i)) → FitsItem i
unfolding is_in
item_fits (byte n) r t u = byte_below n r.last t (and_yes (le_z r.first (pos n)) (le_z (pos n) r.last) u).1
item_fits (signed_byte v) r t u = let h = signed_fits 127 v r t u in record { sfits = omega arith }
item_fits (word v) r t u = let h = signed_fits 32767 v r t u in record { sfits = omega arith }

legal_fits : (i : Item) (rs : List Range) → T (all (of_kind i) rs) → T (is_legal rs (value_of i)) → FitsItem i
unfolding is_legal
legal_fits i [] t u = absurd u
legal_fits i (r ∷ rs) t u =
    let s = and_yes (of_kind i r) (all (of_kind i) rs) t in
    ⊎_elim (item_fits i r s.0) (legal_fits i rs s.1) (or_yes (is_in r (value_of i)) (is_legal rs (value_of i)) u)

-- ---- the numbers of a command

-- each fits its item
abbrev pub Fit : List Item → Type 0
Fit [] = Unit {0}
Fit (i ∷ is) = FitsItem i × Fit is

-- the ranges are of their items' kinds
abbrev kinds : List (List Range) → List Item → Bool
kinds [] is = true
kinds (rs ∷ rss) [] = true
kinds (rs ∷ rss) (i ∷ is) = all (of_kind i) rs && kinds rss is

legal_fit : (rss : List (List Range)) (is : List Item) → T (kinds rss is) → T (all_legal rss (map value_of is)) → Fit is
legal_fit [] [] t u = tt
legal_fit [] (i ∷ is) t u = absurd u
legal_fit (rs ∷ rss) [] t u = absurd u
legal_fit (rs ∷ rss) (i ∷ is) t u =
    let s = and_yes (all (of_kind i) rs) (kinds rss is) t in
    let x = and_yes (is_legal rs (value_of i)) (all_legal rss (map value_of is)) u in
    (legal_fits i rs s.0 x.0, legal_fit rss is s.1 x.1)

-- of every row, by one test over the variants
all_kinds : (c : Command) → T (kinds (row_of c).legal.numbers (form_of c).items)
unfolding row_of
all_kinds = every (λ (c : Command). kinds (row_of c).legal.numbers (form_of c).items) (λ a b d v w. tt)

pub numbers_fit : (m : Message) → T (legal_of m) → Fit (form_of m.command).items
unfolding legal_of
numbers_fit m t =
    let d = (row_of m.command).legal in
    legal_fit d.numbers (form_of m.command).items (all_kinds m.command)
    (and_yes (all_legal d.numbers (map value_of (form_of m.command).items)) (d.payload (payload_in m)) t).0

-- ---- as bytes

-- in whichever order a word's two are sent
item_bytes_lem : (i : Item) → FitsItem i → T (all_bytes (item_bytes i))
item_bytes_lem (byte n) f = simp (lt-ltb n 256 f) tt
item_bytes_lem (signed_byte v) f = simp (lt-ltb (bits8_of v) 256 ((round_trip_bits 128).bits_fit v f.sfits)) tt
item_bytes_lem (word v) f = simp (lt-ltb (high16_of v) 256 (round_trip16.high_byte v f), lt-ltb (low16_of v) 256 (round_trip16.low_byte v)) tt

pub sent_bytes : (is : List Item) → Fit is → T (all_bytes (all_sent is))
sent_bytes [] f = tt
sent_bytes (i ∷ is) f = all_append is_byte (item_bytes i) (all_sent is) (item_bytes_lem i f.0) (sent_bytes is f.1)
