-- Laws of the run table: what a 128 does to `until_opcode`, and which bytes of a run are opcodes.
-- Assumes nothing.
use mathlib.Core.Path.{◌≡◌, refl, sym, subst, ap, ◌∙◌}
use mathlib.Core.Bool.{Bool, false, not, ◌||◌}
use mathlib.Core.List.{List, [], ◌∷◌}
use mathlib.Core.Logic.{⊎_elim}
use Prim.Native.Nat.{ℕ, zero, suc, ◌+◌, ◌-◌, ◌≤◌, ◌<◌, zero-le}
use native.Mathlib.Nat.{eq-or-lt_of_le, le_of_suc-le-suc}
use native.Mathlib.Omega.{arith}
use lib.Dec.{T, leb, ltb, eqb, eqb→eq}
use lib.ListN.{length, get_or, set, replicate}
use lib.Seq.{get_or-set_same}
use mir.Facts.{yes_ltb}
use borrow.Author.Tests.{lt-leb, eq-eqb}
use Rattle.wire.specs.Lists.{all, all_from}
use Rattle.wire.proofs.BoolLaws.{implied, pos_eqb, one_or_less, leb_pred}
use Rattle.wire.proofs.ListsLaws.{from, byte_at}
use Rattle.frame.specs.FrameTable.{data_length, header_size}
use Rattle.frame.specs.Push.{Pushed, body_size_as, length_of, header_of, body_size, measure_of, push_of, empty_partial, next_of, begins_frame, opcodes}
use Rattle.frame.specs.Reach.{reachable_of}
use Rattle.frame.specs.RunTable.{run_table, until_opcode, row_runs}
use Rattle.frame.specs.declared.Length.{Length}
use Rattle.frame.specs.declared.Length.TheVariants.{Fixed, Counted, Song, Unknown}
use Rattle.frame.specs.declared.Partial.{Partial}
use Rattle.frame.proofs.PushLaws.{header_le, body_le, opcode_set, length-set, grown, measure_waits, measure_known, push_header, push_body, next_more, next_last, next_remaining}
use Rattle.frame.proofs.ReachLaws.{Stage, in_header, storing, skipping, places_of, stage_of, Position, at_start, past_opcode, in_body, position_of, next_reachable}

-- each row, run
pub rows_run : T (all row_runs run_table)
unfolding data_length next_of body_size_as
rows_run = tt

-- ---- until_opcode, by what is held

until_opcode_empty : until_opcode empty_partial ≡ 0
unfolding until_opcode
until_opcode_empty = refl

-- while bytes remain, of any partial frame
until_opcode_remaining : (p : Partial) → 0 < p.remaining → until_opcode p ≡ p.remaining
unfolding until_opcode
until_opcode_remaining p h = simp (pos_eqb _ h) (omega arith)

-- the body's size where the count byte is a 128
abbrev body128 : Length → ℕ
body128 l = body_size_as l (0 ∷ 128 ∷ 128 ∷ [])

-- the table looks at the opcode and the two numbers alone
abbrev begun_with : ℕ → ℕ → Partial
begun_with op n = record { bytes = op ∷ []; count = n; remaining = 0 }

-- the rows for a frame in its header, computed over all opcodes: the rest of the header comes, and
-- the body that a 128 announces
abbrev header_row : ℕ → ℕ → Bool
header_row n op =
    let l = data_length op in not (ltb n (header_size l)) || eqb (until_opcode (begun_with op n)) (header_size l - n + body128 l)

header_rows : (n : ℕ) → T (all_from (header_row n) 0 256) → (op : ℕ) → op < 256 → n < header_size (data_length op)
    → until_opcode (begun_with op n) ≡ header_size (data_length op) - n + body128 (data_length op)
header_rows n t op h a =
    let l = data_length op in
    eqb→eq _ _
    (implied (ltb n (header_size l)) (eqb (until_opcode (begun_with op n)) (header_size l - n + body128 l))
    (from (header_row n) 0 256 t op zero-le (omega arith)) (yes_ltb a))

header_row_lem : (n : ℕ) → 0 < n → n ≤ 2 → (op : ℕ) → op < 256 → n < header_size (data_length op)
    → until_opcode (begun_with op n) ≡ header_size (data_length op) - n + body128 (data_length op)
unfolding until_opcode data_length body_size_as
header_row_lem zero p q = absurd (omega arith)
header_row_lem (suc zero) p q = header_rows 1 tt
header_row_lem (suc (suc zero)) p q = header_rows 2 tt
header_row_lem (suc (suc (suc n))) p q = absurd (omega arith)

until_opcode_header : (p : Partial) → get_or p.bytes 0 0 < 256 → p.remaining ≡ 0 → 0 < p.count → p.count < header_of p.bytes
    → until_opcode p ≡ header_of p.bytes - p.count + body128 (length_of p.bytes)
unfolding until_opcode
until_opcode_header p b z h a =
    let le = header_le (length_of p.bytes) in
    rw z (header_row_lem p.count h (omega arith) (get_or p.bytes 0 0) b a)

-- ---- a 128 in the header

body128_range : (l : Length) → 1 < header_size l → (0 < body128 l) × (body128 l ≤ 256)
unfolding body_size_as
body128_range (Fixed n) a = absurd (omega arith)
body128_range Counted a = (omega arith, omega arith)
body128_range Song a = (omega arith, omega arith)
body128_range Unknown a = absurd (omega arith)

body_as_128 : (l : Length) (bs : List ℕ) (n : ℕ) → 0 < n → n + 1 ≡ header_size l → n < length bs → body_size_as l (set bs n 128) ≡ body128 l
unfolding body_size_as
body_as_128 (Fixed m) bs n h a b = absurd (omega arith)
body_as_128 Counted bs n h a b = let e : n ≡ 1 = omega arith in rw e (simp (get_or-set_same bs 1 128 0 (omega arith)))
body_as_128 Song bs n h a b =
    let e : n ≡ 2 = omega arith in
    rw e (simp (get_or-set_same bs 2 128 0 (omega arith)))
body_as_128 Unknown bs n h a b = absurd (omega arith)

-- what a 128 does: it completes a frame where at most one byte is waited for, and one less is
-- waited for after it
abbrev Steps : Partial → Type 0
Steps p = ((push_of p 128).complete ≡ leb (until_opcode p) 1) × (until_opcode (next_of p 128) ≡ until_opcode p - 1)

-- a 128 that does not complete the frame
steps_by : (p q : Partial) → push_of p 128 ≡ record { partial = q; complete = false } → 1 < until_opcode p → until_opcode q ≡ until_opcode p - 1 → Steps p
steps_by p q e h w =
    (ap (λ (x : Pushed). x.complete) e ∙ sym (lt-leb (until_opcode p) 1 h), ap until_opcode (next_more p 128 _ e refl) ∙ w)

-- the partial frame is in its header, past the opcode
module _ (p : Partial) (t : T (reachable_of p)) (z : p.remaining ≡ 0) (h : 0 < p.count) (a : p.count < header_of p.bytes) where
  opcode_small : get_or p.bytes 0 0 < 256
  opcode_small = byte_at p.bytes (places_of p t).small 0

  until_opcode_now : until_opcode p ≡ header_of p.bytes - p.count + body128 (length_of p.bytes)
  until_opcode_now = until_opcode_header p opcode_small z h a

  abbrev after128 : List ℕ
  after128 = set p.bytes p.count 128

  same_length : length_of after128 ≡ length_of p.bytes
  same_length = length-set p.bytes p.count 128 h

  pushed : push_of p 128 ≡ measure_of (grown p 128 p.remaining)
  pushed = let le = header_le (length_of p.bytes) in push_header p 128 z (omega arith)

  -- another byte of the header is waited for
  steps_header_more : p.count + 1 < header_of p.bytes → Steps p
  steps_header_more m =
      let w = until_opcode_now in
      let q = grown p 128 p.remaining in
      let b : get_or after128 0 0 < 256 = rw (opcode_set p.bytes p.count 128 h) opcode_small in
      let l : p.count + 1 < header_of after128 = rw same_length m in
      steps_by p q (pushed ∙ measure_waits q l) (omega arith)
      (until_opcode_header q b z (omega arith) l ∙ ap (λ (n : Length). header_size n - (p.count + 1) + body128 n) same_length ∙ omega arith)

  -- the 128 is the count byte
  steps_count : p.count + 1 ≡ header_of p.bytes → Steps p
  steps_count m =
      let w = until_opcode_now in
      let le = header_le (length_of p.bytes) in
      let long = (places_of p t).long in
      let r = body128_range (length_of p.bytes) (omega arith) in
      let n = body_size after128 in
      let e : n ≡ body128 (length_of p.bytes) =
      ap (λ (l : Length). body_size_as l after128) same_length ∙ body_as_128 (length_of p.bytes) p.bytes p.count h m (omega arith) in
      let l : header_of after128 ≤ p.count + 1 = rw same_length (omega arith) in
      steps_by p (grown p 128 n)
      (pushed ∙ measure_known (grown p 128 p.remaining) l
      ∙ ap (λ (c : Bool). record { partial = grown p 128 n; complete = c }) (pos_eqb n (omega arith)))
      (omega arith)
      (until_opcode_remaining (grown p 128 n) (omega arith) ∙ omega arith)

  steps_header : Steps p
  steps_header = let x : p.count + 1 ≤ header_of p.bytes = omega arith in ⊎_elim steps_count steps_header_more (eq-or-lt_of_le x)

  until_opcode_header_le : until_opcode p ≤ 258
  until_opcode_header_le =
      let w = until_opcode_now in
      let le = header_le (length_of p.bytes) in
      let r = body128_range (length_of p.bytes) (omega arith) in
      omega arith

-- ---- a 128 anywhere

steps_empty : Steps empty_partial
unfolding until_opcode next_of data_length body_size_as
steps_empty = (refl, refl)

-- a byte of the body, of any partial frame
steps_body : (p : Partial) → 0 < p.remaining → Steps p
steps_body p h =
    let w = until_opcode_remaining p h in
    let r = next_remaining p 128 h in (
      ap (λ (x : Pushed). x.complete) (push_body p 128 h) ∙ one_or_less p.remaining h ∙ ap (λ (m : ℕ). leb m 1) (sym w),
      ⊎_elim (λ (e : 1 ≡ p.remaining). ap until_opcode (next_last p 128 (sym e)) ∙ until_opcode_empty ∙ omega arith)
          (λ (m : 1 < p.remaining). until_opcode_remaining (next_of p 128) (omega arith) ∙ omega arith)
          (eq-or-lt_of_le h),
    )

pub steps : (p : Partial) → T (reachable_of p) → Steps p
steps p t = at (position_of p t)
  where
    at : Position p → Steps p
    at (at_start e) = subst Steps (sym e) steps_empty
    at (past_opcode z h a) = steps_header p t z h a
    at (in_body h) = steps_body p h

-- ---- which bytes of a run are opcodes

-- the next byte is an opcode exactly where none is waited for
begins_until_opcode : (p : Partial) → T (reachable_of p) → begins_frame p ≡ leb (until_opcode p) 0
begins_until_opcode p t = at (position_of p t)
  where
    at : Position p → begins_frame p ≡ leb (until_opcode p) 0
    at (at_start e) = subst (λ (q : Partial). begins_frame q ≡ leb (until_opcode q) 0) (sym e) (ap (λ (n : ℕ). leb n 0) (sym until_opcode_empty))
    at (past_opcode z h a) = let w = until_opcode_now p t z h a in simp (eq-eqb _ _ z, pos_eqb _ h) (sym (lt-leb (until_opcode p) 0 (omega arith)))
    at (in_body h) = let w = until_opcode_remaining p h in simp (pos_eqb _ h) (sym (lt-leb (until_opcode p) 0 (omega arith)))

pub opcode_at : (n k : ℕ) (p : Partial) → T (reachable_of p) → k < n → get_or (opcodes p (replicate n 128)) k false ≡ leb (until_opcode p) k
opcode_at zero k p t a = absurd (omega arith)
opcode_at (suc n) zero p t a = begins_until_opcode p t
opcode_at (suc n) (suc k) p t a =
    opcode_at n k (next_of p 128) (next_reachable p 128 t (omega arith)) (le_of_suc-le-suc a)
    ∙ ap (λ (m : ℕ). leb m k) (steps p t).1 ∙ leb_pred (until_opcode p) k

-- ---- how long that is at most

pub remaining_le : (p : Partial) → T (reachable_of p) → p.remaining ≤ 510
remaining_le p t = at (stage_of p t)
  where
    at : Stage p → p.remaining ≤ 510
    at (in_header a z) = omega arith
    at (storing a h r k e) = let b = body_le p.bytes (places_of p t).small in omega arith
    at (skipping h r k e) = let b = body_le p.bytes (places_of p t).small in omega arith

pub until_opcode_le : (p : Partial) → T (reachable_of p) → until_opcode p ≤ 510
until_opcode_le p t = at (position_of p t)
  where
    at : Position p → until_opcode p ≤ 510
    at (at_start e) = let w = ap until_opcode e ∙ until_opcode_empty in omega arith
    at (past_opcode z h a) = let w = until_opcode_header_le p t z h a in omega arith
    at (in_body h) = let w = until_opcode_remaining p h in let l = remaining_le p t in omega arith
