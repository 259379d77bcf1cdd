-- What is kept of a frame is stored as it was sent: `partial_of` of a frame's first bytes is kept
-- up by each byte more. So a frame is complete at its last byte, and not before.
-- Assumes nothing.
use mathlib.Core.Path.{◌≡◌, refl, sym, subst, ap, ap₂, ◌∙◌}
use mathlib.Core.Bool.{Bool, true, false}
use mathlib.Core.List.{List, [], ◌∷◌, ◌++◌, append_assoc, append-nil}
use mathlib.Core.Logic.{⊎_elim}
use Prim.Native.Nat.{ℕ, ◌+◌, ◌-◌, ◌≤◌, ◌<◌}
use native.Mathlib.Nat.{eq-or-lt_of_le}
use native.Mathlib.Omega.{arith}
use lib.Dec.{T, eqb}
use lib.ListN.{length, take, replicate, length-append, get_or-append}
use lib.Seq.{take_all, take-append-le, get_or-take}
use mir.Facts.{and_yes, yes_and}
use borrow.Author.Tests.{lt-ltb, le-ltb, eq-eqb, ne_eqb, eqb-true, eqb-false}
use Rattle.wire.specs.Lists.{is_byte, all_bytes, snoc, padded}
use Rattle.wire.proofs.BoolLaws.{le_or_lt, eqb_iff, cond-true, cond-false}
use Rattle.wire.proofs.ListsLaws.{all_append, get_d_zeros, set_padded}
use Rattle.frame.specs.FrameTable.{data_length, header_size}
use Rattle.frame.specs.Push.{Pushed, body_size_as, length_of, header_of, frame_size, body_size, stores_body, measure_of, push_of, stored, empty_partial, next_of, after_of, completed}
use Rattle.frame.specs.Cut.{kept_of, partial_of, CompleteAtLast}
use Rattle.frame.specs.declared.Partial.{Partial}
use Rattle.frame.proofs.PushLaws.{header_pos, header_le, header_le_frame, stored_fits, Agree, header_agree, frame_agree, body_agree, stores_agree, partial_eq, measure_waits, measure_known, push_header, push_stored, push_skipped, next_more, after_append}

pad_agree : (n : ℕ) (l : List ℕ) → Agree n (padded 35 l) l
pad_agree n l i h = get_d_zeros l (35 - length l) i

-- ---- the parts of `partial_of`

pub kept_all : (bs : List ℕ) → stores_body bs ≡ true → kept_of bs ≡ bs
kept_all bs k = cond-true (stores_body bs) bs (take (header_of bs) bs) k

pub kept_header : (bs : List ℕ) → stores_body bs ≡ false → kept_of bs ≡ take (header_of bs) bs
kept_header bs k = cond-false (stores_body bs) bs (take (header_of bs) bs) k

-- up to the count byte everything is kept
kept_short : (bs : List ℕ) → length bs ≤ header_of bs → kept_of bs ≡ bs
kept_short bs h = go (stores_body bs) refl
  where
    go : (k : Bool) → stores_body bs ≡ k → kept_of bs ≡ bs
    go true k = kept_all bs k
    go false k = kept_header bs k ∙ take_all (header_of bs) bs h

pub partial_in_header : (bs : List ℕ) → length bs < header_of bs → partial_of bs ≡ stored bs 0
partial_in_header bs h =
    ap₂ stored (kept_short bs (omega arith)) (cond-true _ 0 (frame_size bs - length bs) (lt-ltb (length bs) (header_of bs) h))

pub partial_known : (bs l : List ℕ) → header_of bs ≤ length bs → kept_of bs ≡ l → partial_of bs ≡ stored l (frame_size bs - length bs)
partial_known bs l h e = ap₂ stored e (cond-false _ 0 (frame_size bs - length bs) (le-ltb (length bs) (header_of bs) h))

-- ---- one byte more

-- what the byte b after bs is to give
abbrev Right : List ℕ → ℕ → Pushed → Type 0
Right bs b r = r ≡ record { partial = partial_of (snoc bs b); complete = eqb (length (snoc bs b)) (frame_size (snoc bs b)) }

pushed : (p q : Partial) (c d : Bool) → p ≡ q → c ≡ d
    → ◌≡◌ {A = Pushed} (record { partial = p; complete = c }) (record { partial = q; complete = d })
pushed p q c d e f = rw (e, f)

-- in the header
module _ (bs : List ℕ) (b : ℕ) where
  abbrev more : List ℕ
  more = snoc bs b

  more_length : length more ≡ length bs + 1
  more_length = length-append bs (b ∷ [])

  right_in_header : length bs + 1 ≤ header_of more → Right bs b (push_of (stored bs 0) b)
  unfolding body_size_as
  right_in_header h =
      let le = header_le (length_of more) in
      let n = more_length in
      let fl = header_le_frame (length_of more) more in
      let same = pad_agree (header_of more) more in
      let hd = header_agree (padded 35 more) more same in
      let grown : push_of (stored bs 0) b ≡ measure_of (stored more 0) =
      push_header (stored bs 0) b refl (omega arith)
      ∙ ap measure_of (partial_eq _ (padded 35 more) (length bs + 1) (length more) 0 0 (set_padded 35 bs b (omega arith)) (sym n) refl) in
      ⊎_elim (λ (e : length bs + 1 ≡ header_of more).
      grown ∙ measure_known (stored more 0) (omega arith)
      ∙ pushed _ _ _ _
      (ap (stored more) (body_agree (padded 35 more) more same ∙ omega arith) ∙ sym (partial_known more more (omega arith) (kept_short more (omega arith))))
      (ap (λ (m : ℕ). eqb m 0) (body_agree (padded 35 more) more same)
      ∙ eqb_iff (body_size more) 0 (length more) (frame_size more)
      (λ (z : body_size more ≡ 0). omega arith)
      (λ (z : length more ≡ frame_size more). omega arith)))
      (λ (l : length bs + 1 < header_of more).
      grown ∙ measure_waits (stored more 0) (omega arith)
      ∙ pushed _ _ _ _ (sym (partial_in_header more (omega arith)))
      (sym (ne_eqb (length more) (frame_size more) (λ (z : length more ≡ frame_size more). omega arith))))
      (eq-or-lt_of_le h)

  -- in the body
  module _ (h : header_of bs ≤ length bs) (l : length bs < frame_size bs) where
    same : Agree (header_of bs) more bs
    same i a = get_or-append bs (b ∷ []) 0 i (omega arith)

    last_remaining : eqb (frame_size bs - length bs) 1 ≡ eqb (length more) (frame_size more)
    last_remaining =
        let n = more_length in
        let f = frame_agree more bs same in
        eqb_iff (frame_size bs - length bs) 1 (length more) (frame_size more)
        (λ (z : frame_size bs - length bs ≡ 1). omega arith)
        (λ (z : length more ≡ frame_size more). omega arith)

    right_stored : stores_body bs ≡ true → length bs < 35 → Right bs b (push_of (stored bs (frame_size bs - length bs)) b)
    right_stored k room =
        let n = more_length in
        let hd = header_agree more bs same in
        let f = frame_agree more bs same in
        push_stored (stored bs (frame_size bs - length bs)) b (omega arith) (stores_agree (padded 35 bs) bs (pad_agree (header_of bs) bs) ∙ k) room
        ∙ pushed _ _ _ _
        (partial_eq _ (padded 35 more) (length bs + 1) (length more) (frame_size bs - length bs - 1) (frame_size more - length more)
        (set_padded 35 bs b room) (sym n) (omega arith)
        ∙ sym (partial_known more more (omega arith) (kept_all more (stores_agree more bs same ∙ k))))
        last_remaining

    -- the header, in the first of the places, decides as the bytes do
    header_same : Agree (header_of bs) (padded 35 (take (header_of bs) bs)) bs
    header_same i a = get_d_zeros (take (header_of bs) bs) (35 - length (take (header_of bs) bs)) i ∙ get_or-take (header_of bs) bs i 0 a

    right_skipped : stores_body bs ≡ false → Right bs b (push_of (stored (take (header_of bs) bs) (frame_size bs - length bs)) b)
    right_skipped k =
        let n = more_length in
        let hd = header_agree more bs same in
        let f = frame_agree more bs same in
        let e : frame_size bs - length bs - 1 ≡ frame_size more - length more = omega arith in
        push_skipped (stored (take (header_of bs) bs) (frame_size bs - length bs)) b (omega arith)
        (stores_agree (padded 35 (take (header_of bs) bs)) bs header_same ∙ k)
        ∙ pushed _ _ _ _
        (ap (stored (take (header_of bs) bs)) e
        ∙ sym
        (partial_known more (take (header_of bs) bs) (omega arith)
        (kept_header more (stores_agree more bs same ∙ k) ∙ ap (λ (m : ℕ). take m more) hd ∙ take-append-le (header_of bs) bs (b ∷ []) h)))
        last_remaining

-- ---- after any bytes

module _ (bs : List ℕ) (t : T (all_bytes bs)) (some : 0 < length bs) (lacks : length bs < frame_size bs) (b : ℕ) where
  right_in_body : header_of bs ≤ length bs → (k : Bool) → stores_body bs ≡ k → Right bs b (push_of (partial_of bs) b)
  unfolding body_size_as
  right_in_body h true k =
      let f = stored_fits bs t k in
      ap (λ (p : Partial). push_of p b) (partial_known bs bs h (kept_all bs k)) ∙ right_stored bs b h lacks k (omega arith)
  right_in_body h false k =
      ap (λ (p : Partial). push_of p b) (partial_known bs (take (header_of bs) bs) h (kept_header bs k)) ∙ right_skipped bs b h lacks k

  right_after : Right bs b (push_of (partial_of bs) b)
  right_after =
      ⊎_elim (λ (h : header_of bs ≤ length bs). right_in_body h (stores_body bs) refl)
      (λ (h : length bs < header_of bs).
      let e : header_of (snoc bs b) ≡ header_of bs = ap (λ (op : ℕ). header_size (data_length op)) (get_or-append bs (b ∷ []) 0 0 some) in
      ap (λ (p : Partial). push_of p b) (partial_in_header bs h) ∙ right_in_header bs b (omega arith))
      (le_or_lt (header_of bs) (length bs))

-- the first bytes of a frame that lacks data lack data
prefix_lacks : (bs ds : List ℕ) → 0 < length bs → length bs < frame_size (bs ++ ds) → length bs < frame_size bs
prefix_lacks bs ds some a =
    let fl = header_le_frame (length_of bs) bs in
    ⊎_elim (λ (h : header_of bs ≤ length bs).
    let f = frame_agree (bs ++ ds) bs (λ i l. get_or-append bs ds 0 i (omega arith)) in
    omega arith)
    (λ (h : length bs < header_of bs). omega arith)
    (le_or_lt (header_of bs) (length bs))

-- a byte that the frame is not complete with
next_partial : (p : Partial) (bs : List ℕ) (b : ℕ) → Right bs b (push_of p b) → length (snoc bs b) < frame_size (snoc bs b)
    → next_of p b ≡ partial_of (snoc bs b)
next_partial p bs b r l = next_more p b _ r (ne_eqb _ _ (λ (z : length (snoc bs b) ≡ frame_size (snoc bs b)). omega arith))

goes_on : (ds bs : List ℕ) → T (all_bytes bs) → T (all_bytes ds) → 0 < length bs → after_of empty_partial bs ≡ partial_of bs
    → length (bs ++ ds) < frame_size (bs ++ ds) → after_of empty_partial (bs ++ ds) ≡ partial_of (bs ++ ds)
goes_on [] bs t u some e l = rw (append-nil bs) e
goes_on (d ∷ ds) bs t u some e l =
    let more = snoc bs d in
    let same : more ++ ds ≡ bs ++ (d ∷ ds) = append_assoc bs (d ∷ []) ds in
    let n = length-append bs (d ∷ []) in
    let m = length-append bs (d ∷ ds) in
    let v = and_yes (is_byte d) (all_bytes ds) u in
    let lacks = prefix_lacks bs (d ∷ ds) some (omega arith) in
    let lacks_more = prefix_lacks more ds (omega arith) (rw same (omega arith)) in
    subst (λ (l : List ℕ). after_of empty_partial l ≡ partial_of l) same
    (goes_on ds more (all_append is_byte bs (d ∷ []) t (yes_and (is_byte d) true v.0 tt)) v.1 (omega arith)
    (after_append empty_partial bs (d ∷ []) ∙ ap (λ (p : Partial). next_of p d) e
    ∙ next_partial (partial_of bs) bs d (right_after bs t some lacks d) lacks_more)
    (rw same l))

pub partial_as_sent : (bs : List ℕ) → T (all_bytes bs) → 0 < length bs → length bs < frame_size bs → after_of empty_partial bs ≡ partial_of bs
partial_as_sent [] t some l = absurd (omega arith)
partial_as_sent (b ∷ bs) t some l =
    let v = and_yes (is_byte b) (all_bytes bs) t in
    goes_on bs (b ∷ []) (yes_and (is_byte b) true v.0 tt) v.1 (omega arith)
    (next_partial empty_partial [] b (right_in_header [] b (header_pos (length_of (b ∷ [])))) (prefix_lacks (b ∷ []) bs (omega arith) (omega arith)))
    l

last_byte : (bs : List ℕ) (b : ℕ) → T (all_bytes bs) → length (snoc bs b) ≡ frame_size (snoc bs b) → Right bs b (push_of (after_of empty_partial bs) b)
last_byte [] b t e = right_in_header [] b (header_pos (length_of (b ∷ [])))
last_byte (a ∷ bs) b t e =
    let n = length-append (a ∷ bs) (b ∷ []) in
    let some : 0 < length (a ∷ bs) = omega arith in
    let lacks = prefix_lacks (a ∷ bs) (b ∷ []) some (omega arith) in
    ap (λ (p : Partial). push_of p b) (partial_as_sent (a ∷ bs) t some lacks) ∙ right_after (a ∷ bs) t some lacks b

pub complete_as_sent : (bs : List ℕ) (b : ℕ) → T (all_bytes bs) → length (snoc bs b) ≡ frame_size (snoc bs b)
    → push_of (after_of empty_partial bs) b ≡ record { partial = partial_of (snoc bs b); complete = true }
complete_as_sent bs b t e = last_byte bs b t e ∙ pushed _ _ _ _ refl (eq-eqb (length (snoc bs b)) (frame_size (snoc bs b)) e)

-- ---- a frame is complete at its last byte, and not before

from_empty : partial_of [] ≡ empty_partial
from_empty = partial_in_header [] (header_pos (length_of []))

-- a list that lacks data, empty or not
right_any : (bs : List ℕ) → T (all_bytes bs) → length bs < frame_size bs → (b : ℕ) → Right bs b (push_of (partial_of bs) b)
right_any [] t lacks b = ap (λ (p : Partial). push_of p b) from_empty ∙ right_in_header [] b (header_pos (length_of (b ∷ [])))
right_any (a ∷ bs) t lacks b = right_after (a ∷ bs) t (omega arith) lacks b

-- one byte more is at most the last one: the header is within the frame, and after it the
-- size stays
grows_le : (bs : List ℕ) (b : ℕ) → length bs < frame_size bs → length (snoc bs b) ≤ frame_size (snoc bs b)
grows_le [] b lacks = omega arith
grows_le (a ∷ bs) b lacks =
    let more = snoc (a ∷ bs) b in
    let n = length-append (a ∷ bs) (b ∷ []) in
    let fl = header_le_frame (length_of more) more in
    ⊎_elim (λ (h : header_of (a ∷ bs) ≤ length (a ∷ bs)).
    let f = frame_agree more (a ∷ bs) (λ i l. get_or-append (a ∷ bs) (b ∷ []) 0 i (omega arith)) in
    omega arith)
    (λ (h : length (a ∷ bs) < header_of (a ∷ bs)). omega arith)
    (le_or_lt (header_of (a ∷ bs)) (length (a ∷ bs)))

module _ (bs : List ℕ) (d : ℕ) (t : T (all_bytes bs)) (lacks : length bs < frame_size bs) where
  -- the byte d after bs is marked by the size alone
  mark : (push_of (partial_of bs) d).complete ≡ eqb (length (snoc bs d)) (frame_size (snoc bs d))
  mark = ap (λ (x : Pushed). x.complete) (right_any bs t lacks d)

  -- a byte that is not the last: it is marked false, and the rest is marked from the longer list
  marks : (ds : List ℕ) → length (snoc bs d) < frame_size (snoc bs d)
      → completed (partial_of bs) (d ∷ ds) ≡ false ∷ completed (partial_of (snoc bs d)) ds
  marks ds l =
      ap₂ (λ (c : Bool) (p : Partial). c ∷ completed p ds)
      (mark ∙ ne_eqb _ _ (λ (z : length (snoc bs d) ≡ frame_size (snoc bs d)). omega arith))
      (next_partial (partial_of bs) bs d (right_any bs t lacks d) l)

  -- a byte that is marked false is not the last
  unmarked : (push_of (partial_of bs) d).complete ≡ false → length (snoc bs d) < frame_size (snoc bs d)
  unmarked c =
      ⊎_elim (λ (z : length (snoc bs d) ≡ frame_size (snoc bs d)). absurd (eqb-false _ _ (sym mark ∙ c) z)) (λ l. l)
      (eq-or-lt_of_le (grows_le bs d lacks))

snoc_bytes : (bs ds : List ℕ) (d : ℕ) → T (all_bytes bs) → T (all_bytes (d ∷ ds)) → T (all_bytes (snoc bs d))
snoc_bytes bs ds d t u = all_append is_byte bs (d ∷ []) t (yes_and (is_byte d) true (and_yes (is_byte d) (all_bytes ds) u).0 tt)

-- bs has come, and ds and b are the rest of a frame: b alone completes it
sized_marks : (ds bs : List ℕ) (b : ℕ) → T (all_bytes bs) → T (all_bytes ds) → length bs < frame_size bs
    → length (bs ++ snoc ds b) ≡ frame_size (bs ++ snoc ds b) → completed (partial_of bs) (snoc ds b) ≡ replicate (length ds) false ++ (true ∷ [])
sized_marks [] bs b t u lacks e = ap (λ (c : Bool). c ∷ []) (mark bs b t lacks ∙ eq-eqb _ _ e)
sized_marks (d ∷ ds) bs b t u lacks e =
    let same : snoc bs d ++ snoc ds b ≡ bs ++ (d ∷ snoc ds b) = append_assoc bs (d ∷ []) (snoc ds b) in
    let n = length-append bs (d ∷ []) in
    let m = length-append bs (d ∷ snoc ds b) in
    let k = length-append ds (b ∷ []) in
    let more = prefix_lacks (snoc bs d) (snoc ds b) (omega arith) (rw same (omega arith)) in
    marks bs d t lacks (snoc ds b) more
    ∙ ap (λ (l : List Bool). false ∷ l)
    (sized_marks ds (snoc bs d) b (snoc_bytes bs ds d t u) (and_yes (is_byte d) (all_bytes ds) u).1 more (rw same e))

-- and back: while the marks are false the longer list lacks data, and the one mark that is true
-- gives the size
marks_sized : (ds bs : List ℕ) (b : ℕ) → T (all_bytes bs) → T (all_bytes ds) → length bs < frame_size bs
    → completed (partial_of bs) (snoc ds b) ≡ replicate (length ds) false ++ (true ∷ []) → length (bs ++ snoc ds b) ≡ frame_size (bs ++ snoc ds b)
marks_sized [] bs b t u lacks e = eqb-true _ _ (sym (mark bs b t lacks) ∙ cc e)
marks_sized (d ∷ ds) bs b t u lacks e =
    let same : snoc bs d ++ snoc ds b ≡ bs ++ (d ∷ snoc ds b) = append_assoc bs (d ∷ []) (snoc ds b) in
    let more = unmarked bs d t lacks (cc e) in
    subst (λ (l : List ℕ). length l ≡ frame_size l) same
    (marks_sized ds (snoc bs d) b (snoc_bytes bs ds d t u) (and_yes (is_byte d) (all_bytes ds) u).1 more
    (cc (sym (marks bs d t lacks (snoc ds b) more) ∙ e)))

pub sized_completes : (bs : List ℕ) (b : ℕ) → T (all_bytes bs) → length (snoc bs b) ≡ frame_size (snoc bs b) → CompleteAtLast bs b
sized_completes bs b t e = rw (sym from_empty) (sized_marks bs [] b tt t (omega arith) e)

pub completes_sized : (bs : List ℕ) (b : ℕ) → T (all_bytes bs) → CompleteAtLast bs b → length (snoc bs b) ≡ frame_size (snoc bs b)
completes_sized bs b t e = marks_sized bs [] b tt t (omega arith) (rw from_empty e)
