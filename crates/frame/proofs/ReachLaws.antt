-- What `reachable_of` says, as facts, and that a byte keeps it.
-- Assumes nothing.
use mathlib.Core.Path.{◌≡◌, refl, sym, subst, ap, ◌∙◌}
use mathlib.Core.Bool.{Bool, true, false, not, cond, ◌&&◌}
use mathlib.Core.List.{List, [], ◌∷◌}
use mathlib.Core.Logic.{⊎_elim}
use Prim.Native.Nat.{ℕ, ◌+◌, ◌-◌, ◌≤◌, ◌<◌}
use native.Mathlib.Nat.{eq-zero-or-pos, eq-or-lt_of_le}
use native.Mathlib.Omega.{arith}
use lib.Dec.{T, ltb, eqb, eqb→eq, ltb→lt}
use lib.ListN.{length, get_or, set, drop, replicate, length-set}
use lib.Seq.{drop-set-lt}
use mir.Syntax.{w8}
use mir.Val.{Fits}
use mir.Facts.{and_yes, yes_and, yes_eqb}
use borrow.Author.Tests.{ltb-true, ltb-false, not-true, lt-ltb, le-ltb, le-leb, eq-eqb, leb-true}
use Rattle.wire.specs.Lists.{is_zero, is_byte, all_zero, all_bytes}
use Rattle.wire.proofs.BoolLaws.{is_true, to_T, cond_cases, not_zero, pos_eqb, not_one}
use Rattle.wire.proofs.ListsLaws.{array_true, bytes_set, all_later, zeros_are}
use Rattle.frame.specs.FrameTable.{data_length}
use Rattle.frame.specs.Push.{Pushed, length_of, header_of, body_size, stores_body, measure_of, push_of, empty_partial, next_of, after_of}
use Rattle.frame.specs.Reach.{is_array, unused_zero, remaining_fits, body_stored, header_alone, body_begun, remaining_right, reachable_of}
use Rattle.frame.specs.declared.Partial.{Partial}
use Rattle.frame.proofs.PushLaws.{header_pos, header_le, stored_fits, set_agree, header_agree, body_agree, stores_agree, header_grown, partial_eq, grown, measure_waits, measure_known, push_header, push_stored, push_skipped, next_complete, next_more}

-- ---- `reachable_of` as facts

-- the places of a frame with n bytes stored
pub record Places (l : List ℕ) (n : ℕ) : Type 0 where
  pub long : length l ≡ 35
  pub small : T (all_bytes l)
  pub clear : T (all_zero (drop n l))

-- the length is not known; the body is begun and stored; the body is begun and skipped
pub data Stage (p : Partial) : Type 0 where
  in_header : p.count < header_of p.bytes → p.remaining ≡ 0 → Stage p
  storing : header_of p.bytes ≤ p.count → 0 < p.remaining → p.remaining ≤ body_size p.bytes → stores_body p.bytes ≡ true
      → p.count - header_of p.bytes ≡ body_size p.bytes - p.remaining → Stage p
  skipping : 0 < p.remaining → p.remaining ≤ body_size p.bytes → stores_body p.bytes ≡ false → p.count ≡ header_of p.bytes → Stage p

module _ (p : Partial) where
  parts : T (reachable_of p) → T (is_array p) × T (unused_zero p && remaining_right p)
  unfolding reachable_of
  parts t = and_yes (is_array p) (unused_zero p && remaining_right p) t

  pub places_of : T (reachable_of p) → Places p.bytes p.count
  places_of t =
      let a = and_yes (eqb (length p.bytes) 35) (all_bytes p.bytes) (parts t).0 in
      record {
        long = eqb→eq (length p.bytes) 35 a.0;
        small = a.1;
        clear = (and_yes (unused_zero p) (remaining_right p) (parts t).1).0;
      }

  begun : header_of p.bytes ≤ p.count → T (body_begun p) → Stage p
  begun a t =
      let u = and_yes (not (eqb p.remaining 0)) (remaining_fits p && cond (stores_body p.bytes) (body_stored p) (header_alone p)) t in
      let v = and_yes (remaining_fits p) (cond (stores_body p.bytes) (body_stored p) (header_alone p)) u.1 in
      let h = not_zero p.remaining (not-true (eqb p.remaining 0) (is_true (not (eqb p.remaining 0)) u.0)) in
      let f = is_true (remaining_fits p) v.0 in
      let r : p.remaining ≤ body_size p.bytes = omega (arith, leb-true) in
      ⊎_elim (λ q. storing a h r q.0 (eqb→eq _ _ q.1)) (λ q. skipping h r q.0 (eqb→eq _ _ q.1))
      (cond_cases (stores_body p.bytes) (body_stored p) (header_alone p) v.1)

  pub stage_of : T (reachable_of p) → Stage p
  stage_of t =
      ⊎_elim (λ q. in_header (ltb-true _ _ q.0) (eqb→eq _ _ q.1)) (λ q. begun (ltb-false _ _ q.0) q.1)
      (cond_cases (ltb p.count (header_of p.bytes)) (eqb p.remaining 0) (body_begun p)
      (and_yes (unused_zero p) (remaining_right p) (parts t).1).1)

  remaining_right_lem : Stage p → remaining_right p ≡ true
  remaining_right_lem (in_header a e) = simp (lt-ltb _ _ a, eq-eqb _ _ e)
  remaining_right_lem (storing a h r k e) =
      simp (le-ltb _ _ a, pos_eqb _ h, le-leb _ _ r, k, eq-eqb _ _ e)
  remaining_right_lem (skipping h r k e) =
      simp (le-ltb p.count (header_of p.bytes) (omega arith), pos_eqb _ h, le-leb _ _ r, k, eq-eqb _ _ e)

  pub of_facts : Places p.bytes p.count → Stage p → T (reachable_of p)
  unfolding reachable_of
  of_facts q s =
      yes_and (is_array p) (unused_zero p && remaining_right p)
      (yes_and (eqb (length p.bytes) 35) (all_bytes p.bytes) (yes_eqb q.long) q.small)
      (yes_and (unused_zero p) (remaining_right p) q.clear (to_T (remaining_right p) (remaining_right_lem s)))

-- ---- an empty frame

unstarted : (p : Partial) → p.count ≡ 0 → Stage p → p.remaining ≡ 0
unstarted p e (in_header a z) = z
unstarted p e (storing a h r k q) = let l = header_pos (length_of p.bytes) in omega arith
unstarted p e (skipping h r k q) = let l = header_pos (length_of p.bytes) in omega arith

-- a reachable frame of no bytes is the empty one
pub empty_is : (p : Partial) → T (reachable_of p) → p.count ≡ 0 → p ≡ empty_partial
empty_is p t e =
    let q = places_of p t in
    partial_eq p.bytes (replicate 35 0) p.count 0 p.remaining 0
    (zeros_are p.bytes (subst (λ (n : ℕ). T (all_zero (drop n p.bytes))) e q.clear) ∙ ap (λ (n : ℕ). replicate n 0) q.long)
    e (unstarted p e (stage_of p t))

pub empty_reachable : T (reachable_of empty_partial)
unfolding reachable_of data_length
empty_reachable = tt

-- where a reachable frame stands: nothing is read; past the opcode, and the length is not known; in
-- the body
pub data Position (p : Partial) : Type 0 where
  at_start : p ≡ empty_partial → Position p
  past_opcode : p.remaining ≡ 0 → 0 < p.count → p.count < header_of p.bytes → Position p
  in_body : 0 < p.remaining → Position p

pub position_of : (p : Partial) → T (reachable_of p) → Position p
position_of p t = at (stage_of p t)
  where
    at : Stage p → Position p
    at (storing a h r k e) = in_body h
    at (skipping h r k e) = in_body h
    at (in_header a z) = ⊎_elim (λ (e : p.count ≡ 0). at_start (empty_is p t e)) (λ (h : 0 < p.count). past_opcode z h a) (eq-zero-or-pos p.count)

-- ---- a byte keeps `reachable_of`

places_grown : (l : List ℕ) (n b : ℕ) → Places l n → n < 35 → b < 256 → Places (set l n b) (n + 1)
places_grown l n b q a hb =
    let h : n < length l = rw q.long a in
    record {
      long = length-set l n b ∙ q.long;
      small = bytes_set l n b q.small hb;
      clear = rw (drop-set-lt (n + 1) l n b (omega arith)) (all_later is_zero l n h q.clear);
    }

pub stored_room : (p : Partial) → T (all_bytes p.bytes) → header_of p.bytes ≤ p.count → 0 < p.remaining → p.remaining ≤ body_size p.bytes
    → stores_body p.bytes ≡ true → p.count - header_of p.bytes ≡ body_size p.bytes - p.remaining → p.count < 35
stored_room p t a h r k e = let f = stored_fits p.bytes t k in omega arith

pub places_le : (p : Partial) → T (reachable_of p) → p.count ≤ 34
places_le p t = at (stage_of p t)
  where
    at : Stage p → p.count ≤ 34
    at (in_header a z) = let le = header_le (length_of p.bytes) in omega arith
    at (storing a h r k e) = let room = stored_room p (places_of p t).small a h r k e in omega arith
    at (skipping h r k e) = let le = header_le (length_of p.bytes) in omega arith

-- what a byte leaves where it does not complete the frame
abbrev Leaves : Pushed → Type 0
Leaves r = r.complete ≡ false → T (reachable_of r.partial)

known : (p : Partial) → Places p.bytes p.count → p.count ≡ header_of p.bytes → 0 < p.remaining → p.remaining ≡ body_size p.bytes
    → (k : Bool) → stores_body p.bytes ≡ k → T (reachable_of p)
known p q e h r true k = of_facts p q (storing (omega arith) h (omega arith) k (omega arith))
known p q e h r false k = of_facts p q (skipping h (omega arith) k e)

measure_leaves : (p : Partial) → Places p.bytes p.count → p.remaining ≡ 0 → p.count ≤ header_of p.bytes → Leaves (measure_of p)
measure_leaves p q z a =
    ⊎_elim (λ (e : p.count ≡ header_of p.bytes).
    subst Leaves (sym (measure_known p (omega arith)))
    (λ w. known (record { bytes = p.bytes; count = p.count; remaining = body_size p.bytes }) q e (not_zero (body_size p.bytes) w) refl (stores_body p.bytes) refl))
    (λ (m : p.count < header_of p.bytes). subst Leaves (sym (measure_waits p m)) (λ w. of_facts p q (in_header m z)))
    (eq-or-lt_of_le a)

leaves : (p : Partial) (b : ℕ) → Places p.bytes p.count → b < 256 → Stage p → Leaves (push_of p b)
leaves p b q hb (in_header a e) =
    let le = header_le (length_of p.bytes) in
    subst Leaves (sym (push_header p b e (omega arith)))
    (measure_leaves (grown p b p.remaining) (places_grown p.bytes p.count b q (omega arith) hb) e (header_grown p.bytes p.count b a))
leaves p b q hb (storing a h r k e) =
    let room = stored_room p q.small a h r k e in
    let g = grown p b (p.remaining - 1) in
    let same = set_agree p.bytes (header_of p.bytes) p.count b a in
    let l₁ = header_agree g.bytes p.bytes same in
    let r₁ = body_agree g.bytes p.bytes same in
    subst Leaves (sym (push_stored p b h k room))
    (λ w.
    let m = not_one p.remaining h w in
    of_facts g (places_grown p.bytes p.count b q room hb)
    (storing (omega arith) (omega arith) (omega arith) (stores_agree g.bytes p.bytes same ∙ k) (omega arith)))
leaves p b q hb (skipping h r k e) =
    subst Leaves (sym (push_skipped p b h k))
    (λ w.
    let m = not_one p.remaining h w in
    of_facts (record { bytes = p.bytes; count = p.count; remaining = p.remaining - 1 }) q (skipping (omega arith) (omega arith) k e))

pub next_reachable : (p : Partial) (b : ℕ) → T (reachable_of p) → b < 256 → T (reachable_of (next_of p b))
next_reachable p b t hb = go (push_of p b).complete refl
  where
    go : (w : Bool) → (push_of p b).complete ≡ w → T (reachable_of (next_of p b))
    go true e = subst (λ (q : Partial). T (reachable_of q)) (sym (next_complete p b e)) empty_reachable
    go false e = subst (λ (q : Partial). T (reachable_of q)) (sym (next_more p b (push_of p b) refl e)) (leaves p b (places_of p t) hb (stage_of p t) e)

pub after_reachable : (bs : List ℕ) (p : Partial) → T (reachable_of p) → T (all_bytes bs) → T (reachable_of (after_of p bs))
after_reachable [] p t u = t
after_reachable (b ∷ bs) p t u =
    let s = and_yes (is_byte b) (all_bytes bs) u in
    after_reachable bs (next_of p b) (next_reachable p b t (ltb→lt b 256 s.0)) s.1

-- of an array of the code the tests of the unused places and of the number remaining are all
pub reachable_array : (p : Partial) → length p.bytes ≡ 35 → ((i : ℕ) → Fits w8 (get_or p.bytes i 0)) → reachable_of p ≡ (unused_zero p && remaining_right p)
unfolding reachable_of
reachable_array p long each =
    let a : is_array p ≡ true = array_true 35 p.bytes long (λ i. (let h = each i in omega arith)) in
    simp a
