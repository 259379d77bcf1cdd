-- Laws of what stands at a place of a recording.
-- Assumes nothing.
use mathlib.Core.Path.{◌≡◌, refl, sym, ap, subst, ◌∙◌}
use mathlib.Core.Bool.{Bool, true, false, cond}
use mathlib.Core.List.{List, [], ◌∷◌, ◌++◌}
use Prim.Native.Nat.{ℕ, suc, ◌+◌, ◌-◌, ◌≤◌, ◌<◌}
use native.Mathlib.Omega.{arith}
use lib.Dec.{T, leb, ltb, eqb}
use lib.ListN.{length, get_or, take, drop, length-append, length-drop, take-append-drop, drop_of_length-le}
use lib.Seq.{take_at, length-take-le}
use mir.Facts.{and_yes, yes_and, yes_eqb}
use borrow.Author.Tests.{le-ltb, lt-ltb, ltb-true, ltb-false, eqb-true, ne_eqb}
use Rattle.wire.specs.Lists.{is_byte, all_bytes}
use Rattle.wire.proofs.BoolLaws.{to_T, is_true, cond-true, cond-false, cond_is}
use Rattle.wire.proofs.ListsLaws.{all_front, drop_next}
use Rattle.recording.specs.Recordings.{Entry, serial, safety, ticked, song_ended, sensed, printed, most_flags, legal_entry, Found, entry, ends, Kind, serial_kind, safety_kind, tick_kind, song_end_kind, image_kind, found_as, found}
use Rattle.recording.specs.Playback.{seen, size_by}

pub not_both : {A : Type 0} (e : Entry) (why : ℕ) → ends why ≡ entry e → A
not_both e why q = let z : ◌≡◌ {A = ℕ} 0 1 = cc in absurd (omega arith)

-- a body that is there is read, whatever follows it
pub as_said : (r : Kind) (b m : List ℕ) → length b ≡ r.body → found_as r (b ++ m) ≡ r.says b
as_said r b m n =
    let h : r.body ≤ length (b ++ m) = omega (arith, length-append b m) in
    cond-false (ltb (length (b ++ m)) r.body) _ _ (le-ltb (length (b ++ m)) r.body h) ∙ ap r.says (take_at b m r.body n)

-- a legal entry that was written is found
pub found_printed : (e : Entry) (m : List ℕ) → T (legal_entry e) → found (printed e ++ m) ≡ entry e
unfolding found
found_printed (serial b) m t = as_said serial_kind (b ∷ []) m refl
found_printed (safety flags) m t = as_said safety_kind (flags ∷ []) m refl ∙ cond-true (leb flags most_flags) _ _ (is_true (leb flags most_flags) t)
found_printed ticked m t = as_said tick_kind [] m refl
found_printed song_ended m t = as_said song_end_kind [] m refl
found_printed (sensed image) m t = as_said image_kind image m (eqb-true (length image) 40 (is_true _ (and_yes (eqb (length image) 40) (all_bytes image) t).0))

-- an entry stands at the start of a list: it was written there, is found whatever follows, and is
-- legal if its bytes are
pub record Stands (e : Entry) (l : List ℕ) : Type 0 where
  pub rest : List ℕ
  pub is : l ≡ printed e ++ rest
  pub any : (m : List ℕ) → found (printed e ++ m) ≡ entry e
  pub legal : T (all_bytes l) → T (legal_entry e)
  pub size : length (printed e) ≡ size_by (seen (entry e))

-- of a kind: what a body says is that body written, and legal if its bytes are
pub record Right (r : Kind) : Type 0 where
  pub body : (b : List ℕ) (e : Entry) → length b ≡ r.body → r.says b ≡ entry e → printed e ≡ r.kind ∷ b
  pub legal : (b : List ℕ) (e : Entry) → length b ≡ r.body → r.says b ≡ entry e → T (all_bytes b) → T (legal_entry e)
  pub size : (b : List ℕ) (e : Entry) → length b ≡ r.body → r.says b ≡ entry e → length (printed e) ≡ size_by (seen (entry e))
  pub first : (m : List ℕ) → found (r.kind ∷ m) ≡ found_as r m

-- of an entry that is known
said_is : (P : Entry → Type 0) (a e : Entry) → entry a ≡ entry e → P a → P e
said_is P a e q p = let z : a ≡ e = cc in subst P z p

flags_are : (P : Entry → Type 0) (f : ℕ) (e : Entry) → cond (leb f most_flags) (entry (safety f)) (ends 2) ≡ entry e → (T (leb f most_flags) → P (safety f)) → P e
flags_are P f e = cond_is (λ (x : Found). x ≡ entry e → (T (leb f most_flags) → P (safety f)) → P e) (leb f most_flags)
    (λ t q p. said_is P (safety f) e q (p (to_T (leb f most_flags) t))) (λ t q p. not_both e 2 q)

one_byte : (P : List ℕ → Type 0) (b : List ℕ) → length b ≡ 1 → P (get_or b 0 0 ∷ []) → P b
one_byte P [] n p = absurd (omega arith)
one_byte P (x ∷ []) n p = p
one_byte P (x ∷ y ∷ b) n p = absurd (omega arith)

no_byte : (P : List ℕ → Type 0) (b : List ℕ) → length b ≡ 0 → P [] → P b
no_byte P [] n p = p
no_byte P (x ∷ b) n p = absurd (omega arith)

pub serial_right : Right serial_kind
unfolding found
serial_right = record {
  body = λ b e n q. said_is (λ (x : Entry). printed x ≡ 1 ∷ b) (serial (get_or b 0 0)) e q (one_byte (λ (l : List ℕ). 1 ∷ (get_or b 0 0 ∷ []) ≡ 1 ∷ l) b n refl);
  legal = λ b e n q t. said_is (λ (x : Entry). T (legal_entry x)) (serial (get_or b 0 0)) e q (first_byte b n t);
  size = λ b e n q. said_is (λ (x : Entry). length (printed x) ≡ size_by (seen (entry x))) (serial (get_or b 0 0)) e q refl;
  first = λ m. refl;
}
  where
    first_byte : (b : List ℕ) → length b ≡ 1 → T (all_bytes b) → T (is_byte (get_or b 0 0))
    first_byte [] n t = absurd (omega arith)
    first_byte (x ∷ b) n t = (and_yes (is_byte x) (all_bytes b) t).0

pub safety_right : Right safety_kind
unfolding found
safety_right = record {
  body = λ b e n q. flags_are (λ (x : Entry). printed x ≡ 2 ∷ b) (get_or b 0 0) e q (λ t. one_byte (λ (l : List ℕ). 2 ∷ (get_or b 0 0 ∷ []) ≡ 2 ∷ l) b n refl);
  legal = λ b e n q t. flags_are (λ (x : Entry). T (legal_entry x)) (get_or b 0 0) e q (λ u. u);
  size = λ b e n q. flags_are (λ (x : Entry). length (printed x) ≡ size_by (seen (entry x))) (get_or b 0 0) e q (λ t. refl);
  first = λ m. refl;
}

-- a kind with no body
abbrev bare : ℕ → Entry → Kind
bare k a = record { kind = k; body = 0; says = λ b. entry a }

bodiless : (k : ℕ) (a : Entry) → printed a ≡ k ∷ [] → T (legal_entry a) → length (printed a) ≡ size_by (seen (entry a))
    → ((m : List ℕ) → found (k ∷ m) ≡ found_as (bare k a) m) → Right (bare k a)
bodiless k a is legal size first = record {
  body = λ b e n q. said_is (λ (x : Entry). printed x ≡ k ∷ b) a e q (no_byte (λ (l : List ℕ). printed a ≡ k ∷ l) b n is);
  legal = λ b e n q t. said_is (λ (x : Entry). T (legal_entry x)) a e q legal;
  size = λ b e n q. said_is (λ (x : Entry). length (printed x) ≡ size_by (seen (entry x))) a e q size;
  first = first;
}

pub tick_right : Right tick_kind
unfolding found
tick_right = bodiless 3 ticked refl tt refl (λ m. refl)

pub song_end_right : Right song_end_kind
unfolding found
song_end_right = bodiless 4 song_ended refl tt refl (λ m. refl)

pub image_right : Right image_kind
unfolding found
image_right = record {
  body = λ b e n q. said_is (λ (x : Entry). printed x ≡ 5 ∷ b) (sensed b) e q refl;
  legal = λ b e n q t. said_is (λ (x : Entry). T (legal_entry x)) (sensed b) e q (yes_and (eqb (length b) 40) (all_bytes b) (yes_eqb n) t);
  size = λ b e n q. said_is (λ (x : Entry). length (printed x) ≡ size_by (seen (entry x))) (sensed b) e q (ap suc n);
  first = λ m. refl;
}

-- an entry of a kind
of_kind : (r : Kind) → Right r → (k : ℕ) (l : List ℕ) (e : Entry) → k ≡ r.kind → found_as r l ≡ entry e → Stands e (k ∷ l)
of_kind r right k l e same q = go (ltb (length l) r.body) refl
  where
    b : List ℕ
    b = take r.body l

    go : (t : Bool) → ltb (length l) r.body ≡ t → Stands e (k ∷ l)
    go true t = not_both e 3 (sym (cond-true (ltb (length l) r.body) _ _ t) ∙ q)
    go false t =
        let n : length b ≡ r.body = length-take-le r.body l (ltb-false (length l) r.body t) in
        let s : r.says b ≡ entry e = sym (cond-false (ltb (length l) r.body) _ _ t) ∙ q in
        let w = right.body b e n s in
        let seam : b ++ drop r.body l ≡ l = take-append-drop r.body l in
        record {
          rest = drop r.body l;
          is = ap (λ (j : ℕ). j ∷ l) same ∙ ap (λ (m : List ℕ). r.kind ∷ m) (sym seam) ∙ sym (ap (λ (m : List ℕ). m ++ drop r.body l) w);
          any = λ m. ap (λ (p : List ℕ). found (p ++ m)) w ∙ right.first (b ++ m) ∙ as_said r b m n ∙ s;
          size = right.size b e n s;
          legal = λ u. right.legal b e n s (all_front is_byte b (drop r.body l) (subst (λ (m : List ℕ). T (all_bytes m)) (sym seam) (and_yes (is_byte k) (all_bytes l) u).1));
        }

pub stands : (l : List ℕ) (e : Entry) → found l ≡ entry e → Stands e l
unfolding found
stands [] e = λ q. not_both e 0 q
stands (k ∷ l) e =
    cond_is P (eqb k 1) (λ t. of_kind serial_kind serial_right k l e (eqb-true k 1 t))
    (λ _. cond_is P (eqb k 2) (λ t. of_kind safety_kind safety_right k l e (eqb-true k 2 t))
    (λ _. cond_is P (eqb k 3) (λ t. of_kind tick_kind tick_right k l e (eqb-true k 3 t))
    (λ _. cond_is P (eqb k 4) (λ t. of_kind song_end_kind song_end_right k l e (eqb-true k 4 t))
    (λ _. cond_is P (eqb k 5) (λ t. of_kind image_kind image_right k l e (eqb-true k 5 t)) (λ _. not_both e 1)))))
  where
    P : Found → Type 0
    P x = x ≡ entry e → Stands e (k ∷ l)

-- where a recording ends: it is empty; its kind is unknown; its body is cut short, or says so
module _ (k : ℕ) (l : List ℕ) (P : Found → Type 0) (an-entry : (e : Entry) → P (entry e)) (flags : P (ends 2)) (unknown : P (ends 1))
    (cut : length l < 40 → P (ends 3)) where
  by_kind : (r : Kind) → r.body ≤ 40 → ((b : List ℕ) → P (r.says b)) → P (found_as r l)
  by_kind r small f =
      cond_is P (ltb (length l) r.body) (λ t. cut (let h = ltb-true (length l) r.body t in omega arith)) (λ t. f (take r.body l))

  found_is : P (found (k ∷ l))
  unfolding found
  found_is =
      cond_is P (eqb k 1) (λ _. by_kind serial_kind (omega arith) (λ b. an-entry (serial (get_or b 0 0))))
      (λ _. cond_is P (eqb k 2) (λ _. by_kind safety_kind (omega arith) (λ b. cond_is P (leb (get_or b 0 0) most_flags) (λ t. an-entry (safety (get_or b 0 0))) (λ t. flags)))
      (λ _. cond_is P (eqb k 3) (λ _. by_kind tick_kind (omega arith) (λ b. an-entry ticked))
      (λ _. cond_is P (eqb k 4) (λ _. by_kind song_end_kind (omega arith) (λ b. an-entry song_ended))
      (λ _. cond_is P (eqb k 5) (λ _. by_kind image_kind (omega arith) (λ b. an-entry (sensed b))) (λ _. unknown)))))

other_end : (why why' : ℕ) → (why ≡ why' → ⊥) → ends why ≡ ends why' → ⊥
other_end why why' f q = let z : why ≡ why' = cc in f z

-- it ends for one of the four reasons
pub end_named : (l : List ℕ) (why : ℕ) → found l ≡ ends why → why ≤ 3
unfolding found
end_named [] why q = let z : 0 ≡ why = cc in omega arith
end_named (k ∷ l) why q =
    found_is k l (λ (x : Found). x ≡ ends why → why ≤ 3) (λ e q. not_both e why (sym q)) (among_four 2 (omega arith))
    (among_four 1 (omega arith)) (λ h. among_four 3 (omega arith)) q
  where
    among_four : (n : ℕ) → n ≤ 3 → ends n ≡ ends why → why ≤ 3
    among_four n h q = let z : n ≡ why = cc in omega arith

-- only an empty list ends whole
pub whole_none : (l : List ℕ) → found l ≡ ends 0 → l ≡ []
whole_none [] q = refl
whole_none (k ∷ l) q =
    absurd (found_is k l (λ (x : Found). x ≡ ends 0 → ⊥) (λ e q. not_both e 0 (sym q)) (other_end 2 0 (λ (z : 2 ≡ 0). omega arith))
    (other_end 1 0 (λ (z : 1 ≡ 0). omega arith)) (λ h. other_end 3 0 (λ (z : 3 ≡ 0). omega arith)) q)

-- of a record cut short there are at most 40 bytes
pub cut_small : (l : List ℕ) → found l ≡ ends 3 → length l ≤ 40
unfolding found
cut_small [] q = absurd (other_end 0 3 (λ (z : 0 ≡ 3). omega arith) q)
cut_small (k ∷ l) q =
    found_is k l (λ (x : Found). x ≡ ends 3 → length (k ∷ l) ≤ 40) (λ e q. not_both e 3 (sym q))
    (λ q. absurd (other_end 2 3 (λ (z : 2 ≡ 3). omega arith) q)) (λ q. absurd (other_end 1 3 (λ (z : 1 ≡ 3). omega arith) q)) (λ h q. omega arith) q

-- ---- at a place of a recording

pub past_end : (s : List ℕ) (at : ℕ) → length s ≤ at → found (drop at s) ≡ ends 0
unfolding found
past_end s at h = ap found (drop_of_length-le s h)

module _ (s : List ℕ) (at : ℕ) (h : at < length s) where
  abbrev rest : List ℕ
  rest = drop (at + 1) s

  left_over : length rest ≡ length s - at - 1
  left_over = let e = length-drop (at + 1) s in omega arith

  at_kind : (r : Kind) → Right r → get_or s at 0 ≡ r.kind → found (drop at s) ≡ found_as r rest
  at_kind r right k = ap found (drop_next s at h) ∙ ap (λ (j : ℕ). found (j ∷ rest)) k ∙ right.first rest

  pub at_cut : (r : Kind) → Right r → get_or s at 0 ≡ r.kind → length s - at - 1 < r.body → found (drop at s) ≡ ends 3
  at_cut r right k n =
      let e = left_over in
      at_kind r right k ∙ cond-true (ltb (length rest) r.body) _ _ (lt-ltb (length rest) r.body (omega arith))

  pub at_says : (r : Kind) → Right r → get_or s at 0 ≡ r.kind → r.body ≤ length s - at - 1 → found (drop at s) ≡ r.says (take r.body rest)
  at_says r right k n =
      let e = left_over in
      at_kind r right k ∙ cond-false (ltb (length rest) r.body) _ _ (le-ltb (length rest) r.body (omega arith))

  pub at_unknown : (get_or s at 0 ≡ 1 → ⊥) → (get_or s at 0 ≡ 2 → ⊥) → (get_or s at 0 ≡ 3 → ⊥) → (get_or s at 0 ≡ 4 → ⊥) → (get_or s at 0 ≡ 5 → ⊥) → found (drop at s) ≡ ends 1
  unfolding found
  at_unknown a b d e f =
      let k = get_or s at 0 in
      ap found (drop_next s at h) ∙ simp (ne_eqb k 1 a, ne_eqb k 2 b, ne_eqb k 3 d, ne_eqb k 4 e, ne_eqb k 5 f)

-- ---- an entry that stands at a place

-- there is an entry, and its bytes are there
pub record Entered (s : List ℕ) (at : ℕ) : Type 0 where
  pub e : Entry
  pub is : found (drop at s) ≡ entry e
  pub size : length (printed e) ≡ size_by (seen (found (drop at s)))
  pub inside : at + length (printed e) ≤ length s

entry_inside : (s : List ℕ) (at : ℕ) (e : Entry) → found (drop at s) ≡ entry e → at + length (printed e) ≤ length s
entry_inside s at e q =
    let t = stands (drop at s) e q in
    omega (arith, ap length t.is, length-append (printed e) t.rest, length-drop at s)

pub entered : (s : List ℕ) (at : ℕ) (e : Entry) → found (drop at s) ≡ entry e → Entered s at
entered s at e q =
    record {
      e = e;
      is = q;
      size = (stands (drop at s) e q).size ∙ ap (λ (x : Found). size_by (seen x)) (sym q);
      inside = entry_inside s at e q;
    }
