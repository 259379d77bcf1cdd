-- Laws of the record's test: each item as the code tests it, and in plain numbers.
-- Assumes nothing.
use mathlib.Core.Path.{◌≡◌, refl, sym, ap, ◌∙◌}
use mathlib.Core.Bool.{Bool, true, false, not, cond, ◌&&◌, ◌||◌, and_assoc}
use mathlib.Core.List.{List, [], ◌∷◌}
use mathlib.Core.Logic.{⊎_elim}
use Prim.Native.Nat.{ℕ, zero, suc, ◌*◌, ◌≤◌, ◌<◌}
use native.Mathlib.Omega.{arith}
use lib.Dec.{T, leb, eqb}
use lib.IntN.{ℤ, pos, negsuc}
use lib.ListN.{length, get_or, take, drop, replicate, get_or-eq_default}
use mir.Syntax.{w8, w16}
use mir.Val.{Fits, SFits}
use borrow.Author.Tests.{lt-ltb, leb-true, le-leb, lt-leb, eq-eqb, ne_eqb, eqb-true, not-true}
use Rattle.std.specs.List.{list_all}
use Rattle.wire.specs.Lists.{all, all_from, among, all_bytes, all_zero, byte_array}
use Rattle.wire.proofs.BoolLaws.{is_true, to_T, both, not_zero, pos_eqb, le_or_lt}
use Rattle.wire.proofs.ListsLaws.{array_true, from, among_le, byte_at, all-at, all_of, zero_later, zeros_later, get_d_any}
use Rattle.packet.specs.Answers.{streamable_of}
use Rattle.command.specs.CommandTable.{is_in, is_legal, speed, radius, row_of, legal_of}
use Rattle.command.specs.Commands.{is_speed, is_radius}
use Rattle.command.proofs.CommandTableLaws.{drive_tested as both_tested, direct_tested as both_tested_2, alike, from_off, byte_legal, drive_legal, direct_legal, duties_legal_lem, song_is, stream_legal_lem}
use Rattle.state.specs.State.{motors_off, unset, song_at}
use Rattle.state.specs.Accepted.{mode_named, order_named, off_unless_driven, wheels_legal, duties_legal, outputs_legal, baud_legal, selected_legal, stream_legal, length_legal, is_set, playing_set, notes_zero, ids_zero, is_word, motors_typed, kept_typed, song_typed, stream_typed, motors_ok, kept_ok, song_ok, songs_ok, stream_ok}
use Rattle.state.specs.Record.{Array}
use Rattle.state.specs.declared.Motors.{Motors}
use Rattle.state.specs.declared.Kept.{Kept}
use Rattle.state.specs.declared.Song.{Song}
use Rattle.state.specs.declared.Songs.{Songs}
use Rattle.state.specs.declared.Stream.{Stream}

-- ---- i16s

pub word_true : (v : ℤ) → SFits w16 v → is_word v ≡ true
unfolding is_in
word_true (pos n) f = le-leb n 32767 (omega (arith, f.sfits))
word_true (negsuc n) f = simp (le-leb n 32767 (omega (arith, f.sfits)))

pub word_fits : (v : ℤ) → is_word v ≡ true → SFits w16 v
unfolding is_in
word_fits (pos n) e = record { sfits = (let h = leb-true n 32767 e in omega arith) }
word_fits (negsuc n) e = record { sfits = (let h = leb-true n 32767 (both (leb n 32767) true e).0 in omega arith) }

-- ---- arrays of bytes

pub array_is : (n : ℕ) (l : List ℕ) → byte_array n l ≡ true → Array n l
array_is n l e =
    let a = both (eqb (length l) n) (all_bytes l) e in
    (eqb-true (length l) n a.0, byte_at l (to_T (all_bytes l) a.1))

-- ---- what the type says of a value of the code

bytes_fit : (l : List ℕ) → ((i : ℕ) → Fits w8 (get_or l i 0)) → (i : ℕ) → get_or l i 0 < 256
bytes_fit l f i = let h = f i in omega arith

pub motors_are : (m : Motors) → length m.duties ≡ 3 → ((i : ℕ) → Fits w8 (get_or m.duties i 0)) → SFits w16 m.first → SFits w16 m.second
    → motors_typed m ≡ true
unfolding motors_typed
motors_are m len f first second =
    simp (word_true m.first first, word_true m.second second, array_true 3 m.duties len (bytes_fit m.duties f))

pub kept_are : (k : Kept) → length k.leds ≡ 3 → ((i : ℕ) → Fits w8 (get_or k.leds i 0)) → Fits w8 k.ir → kept_typed k ≡ true
unfolding kept_typed
kept_are k len f ir = simp (array_true 3 k.leds len (bytes_fit k.leds f), lt-ltb k.ir 256 (omega arith))

pub song_are : (x : Song) → length x.notes ≡ 32 → ((i : ℕ) → Fits w8 (get_or x.notes i 0)) → song_typed x ≡ true
unfolding song_typed
song_are x len f = array_true 32 x.notes len (bytes_fit x.notes f)

pub stream_are : (x : Stream) → length x.ids ≡ 16 → ((i : ℕ) → Fits w8 (get_or x.ids i 0)) → stream_typed x ≡ true
unfolding stream_typed
stream_are x len f = array_true 16 x.ids len (bytes_fit x.ids f)

-- ---- a mode

pub mode_named_lem : (m : ℕ) → m < 256 → mode_named m ≡ leb m 3
unfolding mode_named
mode_named_lem m h = sym (from_off m h)

pub mode_is : (m : ℕ) → mode_named m ≡ true → m ≤ 3
unfolding mode_named
mode_is m e = among_le (0 ∷ 1 ∷ 2 ∷ 3 ∷ []) 3 m tt (to_T (mode_named m) e)

pub mode_of : (m : ℕ) → m ≤ 3 → mode_named m ≡ true
mode_of m h = mode_named_lem m (omega arith) ∙ le-leb m 3 h

-- ---- a kind of wheel order

pub order_named_lem : (m : Motors) → m.order < 256 → order_named m ≡ leb m.order 2
unfolding order_named
order_named_lem m h = sym (alike (λ k. leb k 2) (among (0 ∷ 1 ∷ 2 ∷ [])) tt m.order h)

pub order_is : (m : Motors) → order_named m ≡ true → m.order ≤ 2
unfolding order_named
order_is m e = among_le (0 ∷ 1 ∷ 2 ∷ []) 2 m.order tt (to_T (order_named m) e)

pub order_of : (m : Motors) → m.order ≤ 2 → order_named m ≡ true
order_of m h = order_named_lem m (omega arith) ∙ le-leb m.order 2 h

-- ---- Off or Passive with a motor not off

module _ (mode : ℕ) (m : Motors) where
  pub unless_driven : mode < 256 → off_unless_driven mode m ≡ (not (leb mode 1) || motors_off m)
  unfolding off_unless_driven
  unless_driven h = ap (λ (b : Bool). not b || motors_off m) (sym (alike (λ k. leb k 1) (among (0 ∷ 1 ∷ [])) tt mode h))

  pub off_is : off_unless_driven mode m ≡ true → mode ≤ 1 → motors_off m ≡ true
  off_is e h = sym (unless_driven (omega arith) ∙ simp (le-leb mode 1 h)) ∙ e

  pub off_of : mode ≤ 3 → (mode ≤ 1 → motors_off m ≡ true) → off_unless_driven mode m ≡ true
  off_of a f =
      unless_driven (omega arith)
      ∙ ⊎_elim (λ (h : mode ≤ 1). simp (le-leb mode 1 h, f h)) (λ (h : 1 < mode). simp (lt-leb mode 1 h)) (le_or_lt mode 1)

-- ---- a wheel order

abbrev drive_right : Motors → Bool
drive_right m = is_speed m.first && is_radius m.second

abbrev direct_right : Motors → Bool
direct_right m = is_speed m.first && is_speed m.second

module _ (m : Motors) where
  pub wheels_are : wheels_legal m ≡ cond (eqb m.order 1) (drive_right m) (cond (eqb m.order 2) (direct_right m) true)
  unfolding wheels_legal
  wheels_are = simp (drive_legal, direct_legal)

  pub drive_is : wheels_legal m ≡ true → m.order ≡ 1 → drive_right m ≡ true
  drive_is e o = sym (wheels_are ∙ simp (eq-eqb m.order 1 o)) ∙ e

  pub direct_is : wheels_legal m ≡ true → m.order ≡ 2 → direct_right m ≡ true
  direct_is e o = sym (wheels_are ∙ simp (ne_eqb m.order 1 (λ (h : m.order ≡ 1). omega arith), eq-eqb m.order 2 o)) ∙ e

  pub wheels_of : (m.order ≡ 1 → drive_right m ≡ true) → (m.order ≡ 2 → direct_right m ≡ true) → wheels_legal m ≡ true
  wheels_of f g = wheels_are ∙ go (eqb m.order 1) (eqb m.order 2) refl refl
    where
      go : (a b : Bool) → eqb m.order 1 ≡ a → eqb m.order 2 ≡ b → cond a (drive_right m) (cond b (direct_right m) true) ≡ true
      go true b e h = f (eqb-true m.order 1 e)
      go false true e h = g (eqb-true m.order 2 h)
      go false false e h = refl

  -- the kind and its numbers, as the code tests them
  pub none_tested : m.order ≡ 0 → (order_named m && wheels_legal m) ≡ true
  unfolding order_named wheels_legal
  none_tested o = simp o

  pub drive_tested : m.order ≡ 1 → (order_named m && wheels_legal m) ≡ (is_legal speed m.first && is_legal radius m.second)
  unfolding order_named wheels_legal
  drive_tested o = simp (o, both_tested)

  pub direct_tested : m.order ≡ 2 → (order_named m && wheels_legal m) ≡ (is_legal speed m.first && is_legal speed m.second)
  unfolding order_named wheels_legal
  direct_tested o = simp (o, both_tested_2)

  -- of a kind that is not named the numbers may be anything
  pub unnamed_legal : order_named m ≡ false → wheels_legal m ≡ true
  unnamed_legal u = wheels_of (λ (o : m.order ≡ 1). named (omega arith)) (λ (o : m.order ≡ 2). named (omega arith))
    where
      named : {b : Bool} → m.order ≤ 2 → b ≡ true
      named h = cc (sym u ∙ order_of m h)

-- ---- duties

module _ (m : Motors) where
  pub duties_tested : duties_legal m ≡ (leb (get_or m.duties 2 0) 128 && (leb (get_or m.duties 1 0) 128 && leb (get_or m.duties 0 0) 128))
  unfolding duties_legal
  duties_tested = duties_legal_lem (get_or m.duties 2 0) (get_or m.duties 1 0) (get_or m.duties 0 0) (replicate 32 0)

  pub duties_are : duties_legal m ≡ true → (i : ℕ) → i < 3 → get_or m.duties i 0 ≤ 128
  duties_are e i h =
      let d : ℕ → Bool = λ k. leb (get_or m.duties k 0) 128 in
      let a = both (d 2) (d 1 && d 0) (sym duties_tested ∙ e) in
      let b = both (d 1) (d 0) a.1 in
      let t : T (all_from d 0 3) = to_T (all_from d 0 3) (simp (b.1, b.0, a.0)) in
      leb-true (get_or m.duties i 0) 128 (is_true (d i) (from d 0 3 t i (omega arith) (omega arith)))

  pub duties_of : ((i : ℕ) → i < 3 → get_or m.duties i 0 ≤ 128) → duties_legal m ≡ true
  duties_of f =
      duties_tested
      ∙ simp (le-leb (get_or m.duties 2 0) 128 (f 2 (omega arith)), le-leb (get_or m.duties 1 0) 128 (f 1 (omega arith)), le-leb (get_or m.duties 0 0) 128 (f 0 (omega arith)))

-- three places, each tested
three : (f : ℕ → Bool) (l : List ℕ) → length l ≡ 3 → list_all f l ≡ (f (get_or l 2 0) && (f (get_or l 1 0) && f (get_or l 0 0)))
three f [] e = absurd (omega arith)
three f (a ∷ []) e = absurd (omega arith)
three f (a ∷ (b ∷ [])) e = absurd (omega arith)
three f (a ∷ (b ∷ (d ∷ []))) e = turned (f a) (f b) (f d)
  where
    turned : (x y z : Bool) → (x && (y && (z && true))) ≡ (z && (y && x))
    turned true true true = refl
    turned true true false = refl
    turned true false true = refl
    turned true false false = refl
    turned false true true = refl
    turned false true false = refl
    turned false false true = refl
    turned false false false = refl
three f (a ∷ (b ∷ (d ∷ (x ∷ l)))) e = absurd (omega arith)

pub duties_each : (m : Motors) → length m.duties ≡ 3 → list_all (λ d. leb d 128) m.duties ≡ duties_legal m
duties_each m e = three (λ d. leb d 128) m.duties e ∙ sym (duties_tested m)

-- ---- the motors, as the code tests them

-- the kind is looked at with its numbers, after the mode
regroup : (kind off wheels duties : Bool) → (kind && (off && (wheels && duties))) ≡ (off && ((kind && wheels) && duties))
regroup true true w d = refl
regroup true false w d = refl
regroup false true w d = refl
regroup false false w d = refl

pub motors_tested : (mode : ℕ) (m : Motors) → mode < 256 → motors_typed m ≡ true
    → motors_ok mode m ≡ (leb mode 3 && (off_unless_driven mode m && ((order_named m && wheels_legal m) && duties_legal m)))
unfolding motors_ok
motors_tested mode m a t =
    simp (t, mode_named_lem mode a, regroup (order_named m) (off_unless_driven mode m) (wheels_legal m) (duties_legal m))

-- ---- output, baud code, selected song

pub outputs_tested : (k : Kept) → outputs_legal k ≡ leb k.outputs 7
unfolding row_of legal_of outputs_legal
outputs_tested k = sym (byte_legal 7 k.outputs)

pub baud_tested : (k : Kept) → baud_legal k ≡ leb k.baud 11
unfolding row_of legal_of baud_legal
baud_tested k = sym (byte_legal 11 k.baud)

pub kept_tested : (k : Kept) → kept_typed k ≡ true → kept_ok k ≡ (leb k.outputs 7 && leb k.baud 11)
unfolding kept_ok
kept_tested k t = simp (t, outputs_tested k, baud_tested k)

pub selected_tested : (x : Songs) → selected_legal x ≡ leb x.selected 15
unfolding row_of legal_of selected_legal
selected_tested x = sym (byte_legal 15 x.selected)

-- ---- stream list

pub list_tested : (x : Stream) → stream_legal x ≡ (leb x.count 16 && streamable_of (take x.count x.ids))
unfolding stream_legal
list_tested x = stream_legal_lem x.count x.ids

pub stream_tested : (x : Stream) → stream_typed x ≡ true
    → stream_ok x ≡ (leb x.on 1 && (leb x.count 16 && (streamable_of (take x.count x.ids) && all_zero (drop x.count x.ids))))
unfolding stream_ok ids_zero
stream_tested x t = simp (t, list_tested x, and_assoc)

-- ---- songs

-- 0, or 1 to 16
zero_or : (n : ℕ) → (eqb n 0 || (leb 1 n && leb n 16)) ≡ leb n 16
zero_or zero = refl
zero_or (suc n) = simp (pos_eqb (suc n) (omega arith), le-leb 1 (suc n) (omega arith))

pub length_legal_lem : (song : Song) → length_legal song ≡ leb song.len 16
unfolding length_legal
length_legal_lem song = ap (λ (b : Bool). eqb song.len 0 || b) (song_is 0 song.len (replicate 32 0) tt) ∙ zero_or song.len

pub song_tested : (x : Song) → song_typed x ≡ true → song_ok x ≡ (leb x.len 16 && all_zero (drop (2 * x.len) x.notes))
unfolding song_ok notes_zero
song_tested x t = simp (t, length_legal_lem x)

module _ (x : Songs) where
  pub lengths_are : all length_legal x.table ≡ true → (n : ℕ) → n < length x.table → (song_at x n).len ≤ 16
  lengths_are e n h =
      leb-true (song_at x n).len 16
      (sym (length_legal_lem (song_at x n)) ∙ is_true (length_legal (song_at x n)) (all-at length_legal unset x.table n h (to_T (all length_legal x.table) e)))

  pub lengths_of : ((n : ℕ) → n < length x.table → (song_at x n).len ≤ 16) → all length_legal x.table ≡ true
  lengths_of f =
      is_true (all length_legal x.table)
      (all_of length_legal unset x.table (λ n h. to_T (length_legal (song_at x n)) (length_legal_lem (song_at x n) ∙ le-leb (song_at x n).len 16 (f n h))))

  -- as the code reads it: past the table's end no song is set
  pub playing_at : (d : Song) → x.playing ≡ 1 → x.selected < length x.table → playing_set x ≡ is_set (get_or x.table x.selected d)
  unfolding playing_set
  playing_at d p h = simp (eq-eqb x.playing 1 p, get_d_any x.table x.selected unset d h)

  pub playing_past : x.playing ≡ 1 → length x.table ≤ x.selected → playing_set x ≡ false
  unfolding playing_set
  playing_past p h = simp (eq-eqb x.playing 1 p, get_or-eq_default x.table unset h)

  pub silent : (x.playing ≡ 1 → ⊥) → playing_set x ≡ true
  unfolding playing_set
  silent f = simp (ne_eqb x.playing 1 f)

  pub playing_is : playing_set x ≡ true → x.playing ≡ 1 → 0 < (song_at x x.selected).len
  unfolding playing_set
  playing_is e p = not_zero (song_at x x.selected).len (not-true (eqb (song_at x x.selected).len 0) (sym (simp (eq-eqb x.playing 1 p)) ∙ e))

  pub playing_of : (x.playing ≡ 1 → 0 < (song_at x x.selected).len) → playing_set x ≡ true
  unfolding playing_set
  playing_of f = go (eqb x.playing 1) refl
    where
      go : (b : Bool) → eqb x.playing 1 ≡ b → (not b || is_set (song_at x x.selected)) ≡ true
      go true e = simp (pos_eqb (song_at x x.selected).len (f (eqb-true x.playing 1 e)))
      go false e = refl

  pub notes_are : all notes_zero x.table ≡ true → (n i : ℕ) → n < length x.table → 2 * (song_at x n).len ≤ i → get_or (song_at x n).notes i 0 ≡ 0
  unfolding notes_zero
  notes_are e n i h l =
      zero_later (song_at x n).notes (2 * (song_at x n).len) (all-at notes_zero unset x.table n h (to_T (all notes_zero x.table) e)) i l

  pub notes_of : ((n i : ℕ) → n < length x.table → 2 * (song_at x n).len ≤ i → get_or (song_at x n).notes i 0 ≡ 0) → all notes_zero x.table ≡ true
  unfolding notes_zero
  notes_of f =
      is_true (all notes_zero x.table)
      (all_of notes_zero unset x.table (λ n h. zeros_later (song_at x n).notes (2 * (song_at x n).len) (λ i l. f n i h l)))

-- ---- a place not in use in the list

module _ (x : Stream) where
  pub ids_are : ids_zero x ≡ true → (i : ℕ) → x.count ≤ i → get_or x.ids i 0 ≡ 0
  unfolding ids_zero
  ids_are e = zero_later x.ids x.count (to_T (ids_zero x) e)

  pub ids_of : ((i : ℕ) → x.count ≤ i → get_or x.ids i 0 ≡ 0) → ids_zero x ≡ true
  unfolding ids_zero
  ids_of f = is_true (ids_zero x) (zeros_later x.ids x.count f)

-- ---- the songs, as the code tests them

pub songs_tested : (x : Songs) → length x.table ≡ 16
    → songs_ok x ≡ (leb x.selected 15 && (leb x.playing 1 && (playing_set x && all song_ok x.table)))
unfolding songs_ok
songs_tested x e = simp (eq-eqb (length x.table) 16 e, selected_tested x)

-- ---- what the check of a function is given at once

pub ruleset wheels = (none_tested, drive_tested, direct_tested)

pub ruleset playing = (playing_at, playing_past, silent)
