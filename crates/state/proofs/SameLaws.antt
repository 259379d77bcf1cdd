-- Laws of the test of two records: it passes where they are equal, and nowhere else.
-- Assumes nothing.
use mathlib.Core.Path.{◌≡◌, refl, sym, ap, ap₂, subst, ◌∙◌}
use mathlib.Core.Bool.{true}
use mathlib.Core.List.{List, [], ◌∷◌}
use Prim.Native.Nat.{ℕ}
use lib.Dec.{T, eqb, eqb→eq}
use lib.IntN.{ℤ, pos, negsuc}
use mir.Syntax.{Width}
use mir.Val.{SFits, to_z, of_z}
use mir.ValLaws.{to_z-of_z}
use mir.Facts.{and_yes, yes_eqb}
use borrow.Author.Tests.{eq-eqb}
use Rattle.std.specs.Bool.{one_answer}
use Rattle.std.specs.Cmp.{signed_Decides}
use Rattle.std.specs.Ordering.{int_eq}
use Rattle.wire.specs.Lists.{same_list}
use Rattle.wire.proofs.BoolLaws.{is_true, to_T, same_truth}
use Rattle.wire.proofs.ListsLaws.{same_list_lem}
use Rattle.frame.specs.declared.Partial.{Partial}
use Rattle.state.specs.declared.Motors.{Motors}
use Rattle.state.specs.declared.Kept.{Kept}
use Rattle.state.specs.declared.Song.{Song}
use Rattle.state.specs.declared.Songs.{Songs}
use Rattle.state.specs.declared.Stream.{Stream}
use Rattle.state.specs.declared.State.{State}
use Rattle.state.specs.Same.{same_number, same_motors, same_kept, same_song, same_table, same_songs, same_stream, same_partial, same_state, SameExactly}

-- ---- nowhere else

pub same_number_lem : (a b : ℤ) → T (same_number a b) → a ≡ b
same_number_lem (pos a) (pos b) t = ap pos (eqb→eq a b t)
same_number_lem (pos a) (negsuc b) t = absurd t
same_number_lem (negsuc a) (pos b) t = absurd t
same_number_lem (negsuc a) (negsuc b) t = ap negsuc (eqb→eq a b t)

same_motors_lem : (a b : Motors) → T (same_motors a b) → a ≡ b
same_motors_lem a b t =
    let x = and_yes (eqb a.order b.order) _ t in
    let y = and_yes (same_number a.first b.first) _ x.1 in
    let z = and_yes (same_number a.second b.second) _ y.1 in
    rw (
      eqb→eq a.order b.order x.0,
      same_number_lem a.first b.first y.0,
      same_number_lem a.second b.second z.0,
      same_list_lem a.duties b.duties z.1,
    )

same_kept_lem : (a b : Kept) → T (same_kept a b) → a ≡ b
same_kept_lem a b t =
    let x = and_yes (eqb a.baud b.baud) _ t in
    let y = and_yes (same_list a.leds b.leds) _ x.1 in
    let z = and_yes (eqb a.outputs b.outputs) _ y.1 in
    rw (
      eqb→eq a.baud b.baud x.0,
      same_list_lem a.leds b.leds y.0,
      eqb→eq a.outputs b.outputs z.0,
      eqb→eq a.ir b.ir z.1,
    )

same_song_lem : (a b : Song) → T (same_song a b) → a ≡ b
same_song_lem a b t =
    let x = and_yes (eqb a.len b.len) _ t in
    rw (eqb→eq a.len b.len x.0, same_list_lem a.notes b.notes x.1)

same_table_lem : (l m : List Song) → T (same_table l m) → l ≡ m
same_table_lem [] [] t = refl
same_table_lem [] (y ∷ ys) t = absurd t
same_table_lem (x ∷ xs) [] t = absurd t
same_table_lem (x ∷ xs) (y ∷ ys) t =
    let s = and_yes (same_song x y) _ t in
    ap₂ (λ (a : Song) (l : List Song). a ∷ l) (same_song_lem x y s.0) (same_table_lem xs ys s.1)

same_songs_lem : (a b : Songs) → T (same_songs a b) → a ≡ b
same_songs_lem a b t =
    let x = and_yes (same_table a.table b.table) _ t in
    let y = and_yes (eqb a.selected b.selected) _ x.1 in
    rw (
      same_table_lem a.table b.table x.0,
      eqb→eq a.selected b.selected y.0,
      eqb→eq a.playing b.playing y.1,
    )

same_stream_lem : (a b : Stream) → T (same_stream a b) → a ≡ b
same_stream_lem a b t =
    let x = and_yes (same_list a.ids b.ids) _ t in
    let y = and_yes (eqb a.count b.count) _ x.1 in
    rw (same_list_lem a.ids b.ids x.0, eqb→eq a.count b.count y.0, eqb→eq a.on b.on y.1)

same_partial_lem : (a b : Partial) → T (same_partial a b) → a ≡ b
same_partial_lem a b t =
    let x = and_yes (same_list a.bytes b.bytes) _ t in
    let y = and_yes (eqb a.count b.count) _ x.1 in
    rw (
      same_list_lem a.bytes b.bytes x.0,
      eqb→eq a.count b.count y.0,
      eqb→eq a.remaining b.remaining y.1,
    )

same_state_lem : (a b : State) → T (same_state a b) → a ≡ b
same_state_lem a b t =
    let v = and_yes (eqb a.mode b.mode) _ t in
    let w = and_yes (same_motors a.motors b.motors) _ v.1 in
    let x = and_yes (same_kept a.kept b.kept) _ w.1 in
    let y = and_yes (same_songs a.songs b.songs) _ x.1 in
    let z = and_yes (same_stream a.stream b.stream) _ y.1 in
    rw (
      eqb→eq a.mode b.mode v.0,
      same_motors_lem a.motors b.motors w.0,
      same_kept_lem a.kept b.kept x.0,
      same_songs_lem a.songs b.songs y.0,
      same_stream_lem a.stream b.stream z.0,
      same_partial_lem a.partial b.partial z.1,
    )

-- ---- where they are equal

self : (n : ℕ) → eqb n n ≡ true
self n = eq-eqb n n refl

pub number_self : (a : ℤ) → same_number a a ≡ true
number_self (pos a) = self a
number_self (negsuc a) = self a

equal_number : (a b : ℤ) → a ≡ b → T (same_number a b)
equal_number a b e = subst (λ (x : ℤ). T (same_number a x)) e (to_T (same_number a a) (number_self a))

list_self : (l : List ℕ) → same_list l l ≡ true
list_self [] = refl
list_self (x ∷ xs) = simp (self x, list_self xs)

table_self : (l : List Song) → same_table l l ≡ true
table_self [] = refl
table_self (x ∷ xs) = simp (self x.len, list_self x.notes, table_self xs)

state_self : (a : State) → same_state a a ≡ true
state_self a = simp (self, number_self, list_self, table_self)

equal_same : (a b : State) → a ≡ b → T (same_state a b)
equal_same a b e = subst (λ (x : State). T (same_state a x)) e (to_T (same_state a a) (state_self a))

pub same_exactly : SameExactly
same_exactly = record { same_equal = same_state_lem; equal_same = equal_same }

-- ---- as the code compares them

-- the library's equality of two signed numbers
pub number_is : (a b : ℤ) → int_eq a b ≡ same_number a b
number_is a b =
    one_answer (int_eq a b) (same_number a b) (signed_Decides a b)
    (λ (e : same_number a b ≡ true). same_number_lem a b (to_T (same_number a b) e), λ (e : a ≡ b). is_true (same_number a b) (equal_number a b e))

-- the machine holds a number's bits
pub by_bits : {w : Width} (a b : ℤ) → SFits w a → SFits w b → same_number a b ≡ eqb (of_z w a) (of_z w b)
by_bits {w} a b f g =
    let back : of_z w a ≡ of_z w b → a ≡ b = λ e. sym (to_z-of_z w a f) ∙ ap (to_z w) e ∙ to_z-of_z w b g in
    same_truth (same_number a b) (eqb (of_z w a) (of_z w b)) (λ t. yes_eqb (ap (of_z w) (same_number_lem a b t)))
    (λ t. equal_number a b (back (eqb→eq (of_z w a) (of_z w b) t)))
