-- Laws of bytes in a lent buffer.
-- Assumes nothing.
use mathlib.Core.Path.{◌≡◌, refl, sym, ap, ◌∙◌}
use mathlib.Core.List.{List, [], ◌∷◌, ◌++◌, append_assoc}
use Prim.Native.Nat.{ℕ, ◌+◌, ◌≤◌, ◌<◌}
use native.Mathlib.Nat.{zero-add, add-zero, add_assoc}
use native.Mathlib.Numerals.{add-one}
use native.Mathlib.Omega.{arith}
use lib.ListN.{length, take, drop, set, replicate, length-append, length-take, length-drop, take-append-drop}
use lib.Seq.{set_split, take_at, drop-append-add, length-take-le, drop-drop}
use Rattle.wire.specs.Lists.{padded}
use Rattle.wire.specs.Buffer.{overwrite, placed, Put}
use Rattle.wire.proofs.ListsLaws.{drop_zeros}

-- ---- overwrite

-- a list at the start of an array of zeros
pub overwrite_zeros : (a : List ℕ) (n : ℕ) → overwrite a (replicate n 0) ≡ padded n a
unfolding overwrite
overwrite_zeros a n = ap (λ (l : List ℕ). a ++ l) (drop_zeros n (length a))

-- ---- placed

pub length_placed : (a : List ℕ) (i : ℕ) (d : List ℕ) → i + length a ≤ length d → length (placed a i d) ≡ length d
unfolding placed
length_placed a i d h = simp (length-append, length-take, length-drop) (omega arith)

pub placed_nil : (i : ℕ) (d : List ℕ) → placed [] i d ≡ d
unfolding placed
placed_nil i d = rw add-zero (take-append-drop i d)

pub placed_one : (v i : ℕ) (d : List ℕ) → i < length d → set d i v ≡ placed (v ∷ []) i d
unfolding placed
placed_one v i d h = rw add-one (set_split d i v h)

pub placed_append : (a b : List ℕ) (i : ℕ) (d : List ℕ) → i + length a ≤ length d → placed b (i + length a) (placed a i d) ≡ placed (a ++ b) i d
unfolding placed
placed_append a b i d h =
    let p : List ℕ = take i d ++ a in
    let q : List ℕ = drop (i + length a) d in
    let e : length p ≡ i + length a = length-append (take i d) a ∙ ap (λ (k : ℕ). k + length a) (length-take-le i d (omega arith)) in
    let t : take (i + length a) (p ++ q) ≡ p = take_at p q (i + length a) e in
    let u : drop (i + length a + length b) (p ++ q) ≡ drop (i + length a + length b) d =
    ap (λ (k : ℕ). drop (k + length b) (p ++ q)) (sym e) ∙ drop-append-add p q (length b) ∙ drop-drop (length b) (i + length a) d in
    rw (← append_assoc (take i d) a q, t, u, length-append a b, ← add_assoc i (length a) (length b), append_assoc a b _, append_assoc (take i d) a _) refl

pub placed_start : (a d : List ℕ) → placed a 0 d ≡ overwrite a d
unfolding placed overwrite
placed_start a d = ap (λ (k : ℕ). a ++ drop k d) (zero-add (length a))

-- ---- Put

pub put_none : (i : ℕ) (d : List ℕ) → Put [] i d d i
put_none i d = record { next = sym (add-zero i); bytes = sym (placed_nil i d) }

pub put_one : (v i : ℕ) (d : List ℕ) → i < length d → Put (v ∷ []) i d (set d i v) (i + 1)
put_one v i d h = record { next = refl; bytes = placed_one v i d h }

pub put_room : (a b : List ℕ) (i n : ℕ) → i + length (a ++ b) ≤ n → i + length a ≤ n
put_room a b i n h = omega (arith, length-append a b)

-- one after the other
pub put_then : {a b d d' d'' : List ℕ} {i r s : ℕ} → Put a i d d' r → Put b r d' d'' s → i + length a ≤ length d → Put (a ++ b) i d d'' s
put_then {a} {b} {d} {d'} {d''} {i} {r} {s} x y h =
    record {
      next = omega (arith, x.next, y.next, length-append a b);
      bytes = y.bytes ∙ ap (λ (k : ℕ). placed b k d') x.next ∙ ap (λ (l : List ℕ). placed b (i + length a) l) x.bytes ∙ placed_append a b i d h;
    }

pub put_length : {a d d' : List ℕ} {i r : ℕ} → Put a i d d' r → i + length a ≤ length d → length d' ≡ length d
put_length {a} {d} {d'} {i} x h = ap length x.bytes ∙ length_placed a i d h

pub put_start : {a d d' : List ℕ} {r : ℕ} → Put a 0 d d' r → d' ≡ overwrite a d
put_start {a} {d} x = x.bytes ∙ placed_start a d

-- ---- Left: the invariant of a loop that writes

-- the bytes `left`, once they are put at `out`, make the whole that is put at `at` into the buffer
-- that was `before`
pub record Left (whole : List ℕ) (at : ℕ) (before left buffer : List ℕ) (out : ℕ) : Type 0 where
  pub same : length buffer ≡ length before
  pub room : out + length left ≤ length buffer
  pub rest : (d : List ℕ) (r : ℕ) → Put left out buffer d r → Put whole at before d r

pub left_start : {whole before : List ℕ} {at : ℕ} → at + length whole ≤ length before → Left whole at before whole before at
left_start h = record { same = refl; room = h; rest = λ d r x. x }

pub left_room : {whole before buffer : List ℕ} {at out : ℕ} (a b : List ℕ) → Left whole at before (a ++ b) buffer out → out + length a ≤ length buffer
left_room {buffer = buffer} {out = out} a b l = put_room a b out (length buffer) l.room

-- a turn puts the first part of what is left
pub left_turn : {whole before a b buffer d : List ℕ} {at out r : ℕ} → Left whole at before (a ++ b) buffer out
    → Put a out buffer d r → Left whole at before b d r
left_turn {a = a} {b = b} l x =
    let h = left_room a b l in
    let e = put_length x h in
    record { same = e ∙ l.same; room = omega (arith, l.room, x.next, length-append a b); rest = λ d r y. l.rest d r (put_then x y h) }

pub left_end : {whole before buffer : List ℕ} {at out : ℕ} → Left whole at before [] buffer out → Put whole at before buffer out
left_end {buffer = buffer} {out = out} l = l.rest buffer out (put_none out buffer)
