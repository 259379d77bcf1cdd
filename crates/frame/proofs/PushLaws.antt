-- Laws of the parts of a frame, of a byte pushed, and of bytes one after the other.
-- Assumes nothing.
use mathlib.Core.Path.{◌≡◌, refl, sym, ap, ap₂, subst, ◌∙◌}
use mathlib.Core.Bool.{Bool, true, false, not}
use mathlib.Core.List.{List, [], ◌∷◌, ◌++◌}
use mathlib.Core.Logic.{◌⊎◌, inl, inr, ⊎_elim}
use Prim.Native.Nat.{ℕ, suc, ◌+◌, ◌-◌, ◌≤◌, ◌<◌}
use native.Mathlib.Nat.{eq-zero-or-pos, eq-or-lt_of_le}
use native.Mathlib.Omega.{arith}
use lib.Dec.{T, leb, eqb, leb→le, ltb}
use lib.ListN.{length, get_or, set, replicate}
use lib.Seq.{get_or-set_other}
use mir.Facts.{and_yes}
use borrow.Author.Tests.{lt-leb, lt-ltb, le-ltb, eq-eqb, ne_eqb, le-leb, leb-true, eqb-true}
use Rattle.wire.specs.Lists.{all_bytes, byte_array}
use Rattle.wire.proofs.BoolLaws.{le_or_lt, is_true, to_T, cond-true, cond-false, pos_eqb}
use Rattle.wire.proofs.ListsLaws.{byte_at, array_set}
use Rattle.frame.specs.FrameTable.{data_length, data_bytes, header_size}
use Rattle.frame.specs.Push.{Pushed, frame_size_as, frame_size, body_size_as, legal_count, is_script, stores_body_as, length_of, header_of, body_size, stores_body, append_of, measure_of, body_byte_of, push_of, stored, empty_partial, next_of, after_of, begins_frame, opcodes}
use Rattle.frame.specs.Reach.{is_array}
use Rattle.frame.specs.declared.Length.{Length}
use Rattle.frame.specs.declared.Length.TheVariants.{Fixed, Counted, Song, Unknown}
use Rattle.frame.specs.declared.Partial.{Partial}
use Rattle.frame.proofs.FrameTableLaws.{code, fixed_small}

-- ---- header and body: the header is 1 to 3 bytes, the body at most 510, and a body that is stored
-- has room

pub header_pos : (l : Length) → 0 < header_size l
header_pos (Fixed n) = omega arith
header_pos Counted = omega arith
header_pos Song = omega arith
header_pos Unknown = omega arith

pub header_le : (l : Length) → header_size l ≤ 3
header_le (Fixed n) = omega arith
header_le Counted = omega arith
header_le Song = omega arith
header_le Unknown = omega arith

body_as_le : (l : Length) (bs : List ℕ) → T (leb (code l) (code (Fixed 4))) → get_or bs 1 0 < 256 → get_or bs 2 0 < 256 → body_size_as l bs ≤ 510
unfolding body_size_as
body_as_le (Fixed n) bs t p q = let h : suc (suc (suc n)) ≤ 7 = leb→le (code (Fixed n)) 7 t in omega arith
body_as_le Counted bs t p q = omega arith
body_as_le Song bs t p q = omega arith
body_as_le Unknown bs t p q = omega arith

pub body_le : (bs : List ℕ) → T (all_bytes bs) → body_size bs ≤ 510
body_le bs t = body_as_le (length_of bs) bs (fixed_small (get_or bs 0 0) (byte_at bs t 0)) (byte_at bs t 1) (byte_at bs t 2)

stored_as : (l : Length) (bs : List ℕ) → T (leb (code l) (code (Fixed 4))) → stores_body_as l bs ≡ true → header_size l + body_size_as l bs ≤ 35
unfolding body_size_as
stored_as (Fixed n) bs t k = let h : suc (suc (suc n)) ≤ 7 = leb→le (code (Fixed n)) 7 t in omega arith
stored_as Counted bs t k =
    let h = is_true (legal_count (get_or bs 1 0)) (and_yes (not (is_script bs)) (legal_count (get_or bs 1 0)) (to_T _ k)).1 in
    omega (arith, leb-true)
stored_as Song bs t k = omega (arith, leb-true)
stored_as Unknown bs t k = omega arith

pub stored_fits : (bs : List ℕ) → T (all_bytes bs) → stores_body bs ≡ true → header_of bs + body_size bs ≤ 35
stored_fits bs t k = stored_as (length_of bs) bs (fixed_small (get_or bs 0 0) (byte_at bs t 0)) k

pub header_le_frame : (l : Length) (bs : List ℕ) → header_size l ≤ frame_size_as l bs
header_le_frame (Fixed n) bs = omega arith
header_le_frame Counted bs = omega arith
header_le_frame Song bs = omega arith
header_le_frame Unknown bs = omega arith

-- ---- the header decides: lists that agree in it have the same sizes, and the same rule of storing

abbrev pub Agree : ℕ → List ℕ → List ℕ → Type 0
Agree n xs ys = (i : ℕ) → i < n → get_or xs i 0 ≡ get_or ys i 0

data_as_agree : (l : Length) (xs ys : List ℕ) → Agree (header_size l) xs ys → data_bytes l xs ≡ data_bytes l ys
data_as_agree (Fixed n) xs ys a = refl
data_as_agree Counted xs ys a = simp (a 1 (omega arith))
data_as_agree Song xs ys a = simp (a 2 (omega arith))
data_as_agree Unknown xs ys a = refl

stores_as_agree : (l : Length) (xs ys : List ℕ) → Agree (header_size l) xs ys → stores_body_as l xs ≡ stores_body_as l ys
stores_as_agree (Fixed n) xs ys a = refl
stores_as_agree Counted xs ys a = simp (a 0 (omega arith), a 1 (omega arith))
stores_as_agree Song xs ys a = simp (a 2 (omega arith))
stores_as_agree Unknown xs ys a = refl

module _ (xs ys : List ℕ) (a : Agree (header_of ys) xs ys) where
  pub length_agree : length_of xs ≡ length_of ys
  length_agree = ap data_length (a 0 (header_pos (length_of ys)))

  pub header_agree : header_of xs ≡ header_of ys
  header_agree = ap header_size length_agree

  pub frame_agree : frame_size xs ≡ frame_size ys
  frame_agree =
      ap (λ (l : Length). frame_size_as l xs) length_agree ∙ ap (λ (n : ℕ). 1 + n) (data_as_agree (length_of ys) xs ys a)

  pub body_agree : body_size xs ≡ body_size ys
  unfolding body_size_as
  body_agree = ap₂ (λ (m n : ℕ). m - n) frame_agree header_agree

  pub stores_agree : stores_body xs ≡ stores_body ys
  stores_agree = ap (λ (l : Length). stores_body_as l xs) length_agree ∙ stores_as_agree (length_of ys) xs ys a

-- a store past the header, and one past the opcode
pub set_agree : (bs : List ℕ) (n i b : ℕ) → n ≤ i → Agree n (set bs i b) bs
set_agree bs n i b h j a = get_or-set_other bs i j b 0 (λ (e : j ≡ i). omega arith)

pub opcode_set : (bs : List ℕ) (i b : ℕ) → 0 < i → get_or (set bs i b) 0 0 ≡ get_or bs 0 0
opcode_set bs i b h = set_agree bs 1 i b h 0 (omega arith)

pub length-set : (bs : List ℕ) (i b : ℕ) → 0 < i → length_of (set bs i b) ≡ length_of bs
length-set bs i b h = ap data_length (opcode_set bs i b h)

-- a byte of the header leaves at least itself in it
pub header_grown : (bs : List ℕ) (n b : ℕ) → n < header_of bs → n + 1 ≤ header_of (set bs n b)
header_grown bs n b a =
    ⊎_elim (λ (e : n ≡ 0). let p = header_pos (length_of (set bs n b)) in omega arith) (λ (p : 0 < n). rw (length-set bs n b p) (omega arith))
    (eq-zero-or-pos n)

-- ---- push, one equation for each case

pub partial_eq : (l m : List ℕ) (i j a b : ℕ) → l ≡ m → i ≡ j → a ≡ b
    → ◌≡◌ {A = Partial} (record { bytes = l; count = i; remaining = a }) (record { bytes = m; count = j; remaining = b })
partial_eq l m i j a b p q r = rw (p, q, r)

-- p with b stored, and n remaining
abbrev pub grown : Partial → ℕ → ℕ → Partial
grown p b n = record { bytes = set p.bytes p.count b; count = p.count + 1; remaining = n }

pub measure_waits : (p : Partial) → p.count < header_of p.bytes → measure_of p ≡ record { partial = p; complete = false }
measure_waits p a = simp (lt-ltb _ _ a)

pub measure_known : (p : Partial) → header_of p.bytes ≤ p.count
    → measure_of p ≡ record { partial = record { bytes = p.bytes; count = p.count; remaining = body_size p.bytes }; complete = eqb (body_size p.bytes) 0 }
measure_known p a = simp (le-ltb _ _ a)

pub push_header : (p : Partial) (b : ℕ) → p.remaining ≡ 0 → p.count < 35 → push_of p b ≡ measure_of (grown p b p.remaining)
push_header p b e a = simp (eq-eqb _ _ e, lt-leb 35 p.count a)

pub push_stored : (p : Partial) (b : ℕ) → 0 < p.remaining → stores_body p.bytes ≡ true → p.count < 35
    → push_of p b ≡ record { partial = grown p b (p.remaining - 1); complete = eqb p.remaining 1 }
push_stored p b h k a = simp (pos_eqb _ h, k, lt-leb 35 p.count a)

pub push_skipped : (p : Partial) (b : ℕ) → 0 < p.remaining → stores_body p.bytes ≡ false
    → push_of p b ≡ record { partial = record { bytes = p.bytes; count = p.count; remaining = p.remaining - 1 }; complete = eqb p.remaining 1 }
push_skipped p b h k = simp (pos_eqb _ h, k)

-- while bytes remain, of any partial frame: the byte is one of the body
pub push_body : (p : Partial) (b : ℕ) → 0 < p.remaining → push_of p b ≡ body_byte_of p b
push_body p b h = simp (pos_eqb _ h)

-- ---- next

pub next_complete : (p : Partial) (b : ℕ) → (push_of p b).complete ≡ true → next_of p b ≡ empty_partial
unfolding next_of
next_complete p b e = cond-true (push_of p b).complete empty_partial (push_of p b).partial e

pub next_more : (p : Partial) (b : ℕ) (r : Pushed) → push_of p b ≡ r → r.complete ≡ false → next_of p b ≡ r.partial
unfolding next_of
next_more p b r e c =
    cond-false (push_of p b).complete empty_partial (push_of p b).partial (ap (λ (x : Pushed). x.complete) e ∙ c)
    ∙ ap (λ (x : Pushed). x.partial) e

pub next_last : (p : Partial) (b : ℕ) → p.remaining ≡ 1 → next_of p b ≡ empty_partial
next_last p b e = next_complete p b (ap (λ (x : Pushed). x.complete) (push_body p b (omega arith)) ∙ eq-eqb _ _ e)

pub next_remaining : (p : Partial) (b : ℕ) → 0 < p.remaining → (next_of p b).remaining ≡ p.remaining - 1
next_remaining p b h =
    ⊎_elim (λ (e : 1 ≡ p.remaining). ap (λ (q : Partial). q.remaining) (next_last p b (sym e)) ∙ omega arith)
    (λ (m : 1 < p.remaining).
    ap (λ (q : Partial). q.remaining)
    (next_more p b (body_byte_of p b) (push_body p b h) (ne_eqb p.remaining 1 (λ (e : p.remaining ≡ 1). omega arith))))
    (eq-or-lt_of_le h)

-- ---- any byte, any frame

-- the same bytes are stored
abbrev Keeps : Partial → Partial → Type 0
Keeps p q = (p.bytes ≡ q.bytes) × (p.count ≡ q.count)

measure_keeps : (p : Partial) → Keeps (measure_of p).partial p
measure_keeps p = go (ltb p.count (header_of p.bytes)) refl
  where
    go : (t : Bool) → ltb p.count (header_of p.bytes) ≡ t → Keeps (measure_of p).partial p
    go true e = simp e (refl, refl)
    go false e = simp e (refl, refl)

-- the byte is appended, or nothing is stored
push_keeps : (p : Partial) (b : ℕ) → Keeps (push_of p b).partial (append_of p b) ⊎ Keeps (push_of p b).partial p
push_keeps p b = go (eqb p.remaining 0) (stores_body p.bytes) refl refl
  where
    go : (t k : Bool) → eqb p.remaining 0 ≡ t → stores_body p.bytes ≡ k → Keeps (push_of p b).partial (append_of p b) ⊎ Keeps (push_of p b).partial p
    go true k e s = inl (simp e (measure_keeps (append_of p b)))
    go false true e s = inl (simp (e, s) (refl, refl))
    go false false e s = inr (simp (e, s) (refl, refl))

append_array : (p : Partial) (b : ℕ) → T (is_array p) → b < 256 → T (is_array (append_of p b))
append_array p b t h = go (leb 35 p.count) refl
  where
    go : (c : Bool) → leb 35 p.count ≡ c → T (is_array (append_of p b))
    go true e = simp e t
    go false e = simp e (array_set 35 p.bytes p.count b t h)

pub stays_array : (p : Partial) (b : ℕ) → T (is_array p) → b < 256 → T (is_array (push_of p b).partial)
stays_array p b t h =
    ⊎_elim (λ k. subst (λ (l : List ℕ). T (byte_array 35 l)) (sym k.0) (append_array p b t h))
    (λ k. subst (λ (l : List ℕ). T (byte_array 35 l)) (sym k.0) t)
    (push_keeps p b)

pub full_stays : (p : Partial) (b : ℕ) → 35 ≤ p.count → Keeps (push_of p b).partial p
full_stays p b h =
    let e : append_of p b ≡ p = simp (le-leb 35 p.count h) in
    ⊎_elim (λ k. subst (Keeps (push_of p b).partial) e k) (λ k. k) (push_keeps p b)

-- where the frame is complete nothing remains
abbrev Done : Pushed → Type 0
Done r = r.complete ≡ true → r.partial.remaining ≡ 0

measure_done : (p : Partial) → Done (measure_of p)
measure_done p =
    ⊎_elim (λ (h : header_of p.bytes ≤ p.count). subst Done (sym (measure_known p h)) (λ c. eqb-true _ _ c))
    (λ (h : p.count < header_of p.bytes). subst Done (sym (measure_waits p h)) (λ c. cc))
    (le_or_lt (header_of p.bytes) p.count)

pub complete_done : (p : Partial) (b : ℕ) → Done (push_of p b)
complete_done p b =
    ⊎_elim (λ (e : p.remaining ≡ 0). let m : push_of p b ≡ measure_of (append_of p b) = simp (eq-eqb _ _ e) in subst Done (sym m) (measure_done (append_of p b)))
    (λ (h : 0 < p.remaining). subst Done (sym (push_body p b h)) (λ c. let e = eqb-true p.remaining 1 c in omega arith))
    (eq-zero-or-pos p.remaining)

-- ---- after, opcodes

pub opcodes_append : (p : Partial) (bs cs : List ℕ) → opcodes p (bs ++ cs) ≡ opcodes p bs ++ opcodes (after_of p bs) cs
opcodes_append p [] cs = refl
opcodes_append p (b ∷ bs) cs = ap (λ (l : List Bool). begins_frame p ∷ l) (opcodes_append (next_of p b) bs cs)

pub after_append : (p : Partial) (bs cs : List ℕ) → after_of p (bs ++ cs) ≡ after_of (after_of p bs) cs
after_append p [] cs = refl
after_append p (b ∷ bs) cs = after_append (next_of p b) bs cs

-- ---- bytes that remain, of any partial frame and of any values

pub not_opcodes : (p : Partial) (bs : List ℕ) → 0 < p.remaining → length bs ≤ p.remaining → opcodes p bs ≡ replicate (length bs) false
not_opcodes p [] h a = refl
not_opcodes p (b ∷ []) h a = simp (pos_eqb _ h)
not_opcodes p (b ∷ (c ∷ bs)) h a =
    let r = next_remaining p b h in
    simp (pos_eqb _ h)
    (ap (λ (l : List Bool). false ∷ l) (not_opcodes (next_of p b) (c ∷ bs) (omega arith) (omega arith)))

pub still_remain : (p : Partial) (bs : List ℕ) → length bs < p.remaining → (after_of p bs).remaining ≡ p.remaining - length bs
still_remain p [] h = omega arith
still_remain p (b ∷ bs) h =
    let r = next_remaining p b (omega arith) in
    still_remain (next_of p b) bs (omega arith) ∙ omega arith

pub last_ends : (p : Partial) (bs : List ℕ) → 0 < p.remaining → length bs ≡ p.remaining → after_of p bs ≡ empty_partial
last_ends p [] h e = absurd (omega arith)
last_ends p (b ∷ []) h e = next_last p b (omega arith)
last_ends p (b ∷ (c ∷ bs)) h e =
    let r = next_remaining p b h in
    last_ends (next_of p b) (c ∷ bs) (omega arith) (omega arith)

-- ---- a whole frame

-- p has begun a frame that ds completes: none of them is read as an opcode, and nothing is stored
-- after them
pub record Finishes (p : Partial) (ds : List ℕ) : Type 0 where
  pub not_opcode : opcodes p ds ≡ replicate (length ds) false
  pub empty_after : after_of p ds ≡ empty_partial

-- a byte that completes the header; the body follows
finishes_known : (p q : Partial) (b : ℕ) (ds : List ℕ) → push_of p b ≡ record { partial = q; complete = eqb q.remaining 0 }
    → length ds ≡ q.remaining → Finishes (next_of p b) ds
finishes_known p q b [] e l =
    record { not_opcode = refl; empty_after = next_complete p b (ap (λ (x : Pushed). x.complete) e ∙ eq-eqb q.remaining 0 (sym l)) }
finishes_known p q b (d ∷ ds) e l =
    subst (λ (r : Partial). Finishes r (d ∷ ds))
    (sym (next_more p b _ e (pos_eqb q.remaining (omega arith))))
    (record { not_opcode = not_opcodes q (d ∷ ds) (omega arith) (omega arith); empty_after = last_ends q (d ∷ ds) (omega arith) l })

-- a byte after which the header wants another
finishes_more : (p q : Partial) (b d : ℕ) (ds : List ℕ) → push_of p b ≡ record { partial = q; complete = false } → q.remaining ≡ 0 → 0 < q.count
    → Finishes (next_of q d) ds → Finishes (next_of p b) (d ∷ ds)
finishes_more p q b d ds e z h f =
    subst (λ (r : Partial). Finishes r (d ∷ ds)) (sym (next_more p b _ e refl))
    (record {
      not_opcode =
          simp (eq-eqb _ _ z, pos_eqb _ h)
          (ap (λ (l : List Bool). false ∷ l) f.not_opcode);
      empty_after = f.empty_after;
    })

finishes_as : (l : Length) (op : ℕ) (ds : List ℕ) → data_length op ≡ l → length ds ≡ data_bytes l (op ∷ ds) → Finishes (next_of empty_partial op) ds
unfolding body_size_as
finishes_as (Fixed n) op ds e a = finishes_known empty_partial (stored (op ∷ []) (body_size_as (Fixed n) [])) op ds (simp e) (omega arith)
finishes_as Unknown op ds e a = finishes_known empty_partial (stored (op ∷ []) 0) op ds (simp e) a
finishes_as Counted op [] e a = absurd (omega arith)
finishes_as Counted op (n ∷ ds) e a =
    finishes_more empty_partial (stored (op ∷ []) 0) op n ds (simp e) refl (omega arith)
    (finishes_known (stored (op ∷ []) 0) (stored (op ∷ n ∷ []) (body_size_as Counted (op ∷ n ∷ []))) n ds (simp e) (omega arith))
finishes_as Song op [] e a = absurd (omega arith)
finishes_as Song op (s ∷ []) e a = absurd (omega arith)
finishes_as Song op (s ∷ (n ∷ ds)) e a =
    finishes_more empty_partial (stored (op ∷ []) 0) op s (n ∷ ds) (simp e) refl (omega arith)
    (finishes_more (stored (op ∷ []) 0) (stored (op ∷ s ∷ []) 0) s n ds (simp e) refl (omega arith)
    (finishes_known (stored (op ∷ s ∷ []) 0) (stored (op ∷ s ∷ n ∷ []) (body_size_as Song (op ∷ s ∷ n ∷ []))) n ds (simp e) (omega arith)))

-- an opcode and its data bytes
pub finishes : (op : ℕ) (ds : List ℕ) → length ds ≡ data_bytes (data_length op) (op ∷ ds) → Finishes (next_of empty_partial op) ds
finishes op ds a = finishes_as (data_length op) op ds refl a

-- once its first bytes have come, by the rest of it
finishes_later : (bs ds : List ℕ) (p : Partial) → Finishes p (bs ++ ds) → Finishes (after_of p bs) ds
finishes_later [] ds p f = f
finishes_later (b ∷ bs) ds p f =
    finishes_later bs ds (next_of p b) (record { not_opcode = cc f.not_opcode; empty_after = f.empty_after })

pub finishes_rest : (bs ds : List ℕ) → 0 < length bs → length (bs ++ ds) ≡ frame_size (bs ++ ds) → Finishes (after_of empty_partial bs) ds
finishes_rest [] ds h e = absurd (omega arith)
finishes_rest (op ∷ bs) ds h e = finishes_later bs ds (next_of empty_partial op) (finishes op (bs ++ ds) (omega arith))
