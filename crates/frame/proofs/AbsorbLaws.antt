-- Laws of bytes taken at once: they leave what they leave one by one.
-- Assumes nothing.
use mathlib.Core.Path.{◌≡◌, refl, sym, ap, subst, ◌∙◌}
use mathlib.Core.Bool.{Bool, true, false}
use mathlib.Core.List.{List, [], ◌∷◌, ◌++◌, append_assoc, append-nil}
use mathlib.Core.Logic.{⊎_elim}
use Prim.Native.Nat.{ℕ, suc, ◌+◌, ◌-◌, ◌≤◌, ◌<◌, min}
use native.Mathlib.Nat.{eq-zero-or-pos, add-zero, sub-zero}
use native.Mathlib.Omega.{arith}
use lib.Dec.{T, eqb}
use lib.ListN.{length, get_or, take, length-append, get_or-append}
use lib.Seq.{take-suc, length-take-le, get_or-take}
use borrow.Author.Tests.{le-leb, lt-leb, eq-eqb, ne_eqb}
use Rattle.wire.specs.Lists.{snoc}
use Rattle.wire.specs.Buffer.{placed}
use Rattle.wire.proofs.BoolLaws.{cond-true, cond-false, pos_eqb, eqb_iff}
use Rattle.wire.proofs.BufferLaws.{placed_nil, placed_one, placed_append, length_placed}
use Rattle.frame.specs.Push.{Pushed, header_of, stores_body, push_of}
use Rattle.frame.specs.Absorb.{Absorbed, counted, keeps, body_of, absorb_of, Waits, Steps, TakenAtOnce}
use Rattle.frame.specs.Reach.{reachable_of}
use Rattle.frame.specs.declared.Partial.{Partial}
use Rattle.frame.proofs.PushLaws.{stored_fits, Agree, stores_agree}
use Rattle.frame.proofs.ReachLaws.{Stage, in_header, storing, skipping, places_of, stage_of}

-- ---- what is absorbed, one equation for each case

pub absorb_none : (p : Partial) (bs : List ℕ) → length bs ≡ 0 → absorb_of p bs ≡ record { partial = p; complete = false; count = 0 }
unfolding absorb_of
absorb_none p [] e = refl
absorb_none p (b ∷ bs) e = absurd (omega arith)

pub absorb_one : (p : Partial) (bs : List ℕ) → 0 < length bs → p.remaining ≡ 0 → absorb_of p bs ≡ counted (push_of p (get_or bs 0 0)) 1
unfolding absorb_of
absorb_one p [] h z = absurd (omega arith)
absorb_one p (b ∷ bs) h z = cond-true _ _ _ (eq-eqb p.remaining 0 z)

pub absorb_body : (p : Partial) (bs : List ℕ) (n : ℕ) → 0 < length bs → 0 < p.remaining → n ≡ min p.remaining (length bs)
    → absorb_of p bs ≡ counted (body_of p (take n bs)) n
unfolding absorb_of
absorb_body p [] n h a e = absurd (omega arith)
absorb_body p (b ∷ bs) n h a e = rw e (cond-false _ _ _ (pos_eqb p.remaining a))

pub ruleset cases = (absorb_none, absorb_one, absorb_body)

-- ---- bytes of the body, one after the other

-- bytes placed from an index on leave those before it
placed_agree : (a : List ℕ) (n i : ℕ) (d : List ℕ) → n ≤ i → i ≤ length d → Agree n (placed a i d) d
unfolding placed
placed_agree a n i d h l j k =
    let e = length-take-le i d l in
    get_or-append (take i d) _ 0 j (omega arith) ∙ get_or-take i d j 0 (omega arith)

module _ (p : Partial) (t : T (reachable_of p)) (h : 0 < p.remaining) where
  -- a body that is stored has room for the bytes that remain
  room : stores_body p.bytes ≡ true → (header_of p.bytes ≤ p.count) × (p.count + p.remaining ≤ 35)
  room k = at (stage_of p t)
    where
      at : Stage p → (header_of p.bytes ≤ p.count) × (p.count + p.remaining ≤ 35)
      at (in_header a z) = absurd (omega arith)
      at (storing a b r s e) = let f = stored_fits p.bytes (places_of p t).small k in (a, omega arith)
      at (skipping b r s e) = absurd (subst T (sym k ∙ s) tt)

  kept : stores_body p.bytes ≡ true → (n : ℕ) → n ≤ p.remaining → keeps p n ≡ true
  kept k n a = let r = room k in simp (k, le-leb n 35 (omega arith), le-leb p.count (35 - n) (omega arith))

  body_none : (k : Bool) → stores_body p.bytes ≡ k → (body_of p []).partial ≡ p
  body_none true k = simp (kept k 0 (omega arith), placed_nil p.count p.bytes, add-zero p.count, sub-zero p.remaining)
  body_none false k = simp (k, sub-zero p.remaining)

  -- a byte pushed after them
  module _ (bs : List ℕ) (b : ℕ) (a : length bs < p.remaining) where
    abbrev more : List ℕ
    more = snoc bs b

    more_length : length more ≡ length bs + 1
    more_length = length-append bs (b ∷ [])

    one_less : p.remaining - length bs - 1 ≡ p.remaining - length more
    one_less = let n = more_length in omega arith

    is_last : eqb (p.remaining - length bs) 1 ≡ eqb p.remaining (length more)
    is_last = let n = more_length in eqb_iff (p.remaining - length bs) 1 p.remaining (length more) (λ e. omega arith) (λ e. omega arith)

    push_more : (k : Bool) → stores_body p.bytes ≡ k → push_of (body_of p bs).partial b ≡ body_of p more
    push_more true k =
        let n = more_length in
        let r = room k in
        let l = (places_of p t).long in
        let d = p.bytes in
        let i = p.count in
        let w = length_placed bs i d (omega arith) in
        let at : i + length bs + 1 ≡ i + length more = omega arith in
        simp (
          kept k (length bs) (omega arith),
          kept k (length more) (omega arith),
          pos_eqb (p.remaining - length bs) (omega arith),
          lt-leb 35 (i + length bs) (omega arith),
          stores_agree (placed bs i d) d (placed_agree bs (header_of d) i d r.0 (omega arith)) ∙ k,
          placed_one b (i + length bs) (placed bs i d) (omega arith) ∙ placed_append bs (b ∷ []) i d (omega arith),
          at,
          one_less,
          is_last,
        )
    push_more false k = simp (k, pos_eqb (p.remaining - length bs) (omega arith), one_less, is_last)

  -- fewer than remain complete nothing
  body_waits : (bs front : List ℕ) → length bs + length front < p.remaining → Waits (body_of p bs).partial front (body_of p (bs ++ front)).partial
  body_waits bs [] a = ap (λ (l : List ℕ). (body_of p l).partial) (sym (append-nil bs))
  body_waits bs (b ∷ front) a =
      let e = push_more bs b (omega arith) (stores_body p.bytes) refl in
      let n = more_length bs b (omega arith) in
      let rest = body_waits (snoc bs b) front (omega arith) in (
        ap (λ (x : Pushed). x.complete) e ∙ ne_eqb p.remaining (length (snoc bs b)) (λ (z : p.remaining ≡ length (snoc bs b)). omega arith),
        subst (λ (q : Partial). Waits q front (body_of p (bs ++ (b ∷ front))).partial) (ap (λ (x : Pushed). x.partial) (sym e))
            (subst (λ (l : List ℕ). Waits (body_of p (snoc bs b)).partial front (body_of p l).partial) (append_assoc bs (b ∷ []) front) rest),
      )

  body_steps : (l : List ℕ) (m : ℕ) → m < length l → m < p.remaining → Steps p l (counted (body_of p (take (suc m) l)) (suc m))
  body_steps l m a r =
      let e = take-suc l m 0 a in
      let n = length-take-le m l (omega arith) in
      record {
        front = take m l;
        last = get_or l m 0;
        before = (body_of p (take m l)).partial;
        taken = e;
        waits = subst (λ (q : Partial). Waits q (take m l) (body_of p (take m l)).partial) (body_none (stores_body p.bytes) refl) (body_waits [] (take m l) (omega arith));
        ends = push_more (take m l) (get_or l m 0) (omega arith) (stores_body p.bytes) refl ∙ ap (body_of p) (sym e);
      }

steps : (p : Partial) (bs : List ℕ) → T (reachable_of p) → 0 < length bs → Steps p bs (absorb_of p bs)
steps p bs t h =
    ⊎_elim (λ (z : p.remaining ≡ 0).
    subst (Steps p bs) (sym (absorb_one p bs h z))
    (record { front = []; last = get_or bs 0 0; before = p; taken = take-suc bs 0 0 h; waits = refl; ends = refl }))
    (λ (a : 0 < p.remaining).
    let m = min p.remaining (length bs) - 1 in
    subst (Steps p bs) (sym (absorb_body p bs (suc m) h a (omega arith))) (body_steps p t a bs m (omega arith) (omega arith)))
    (eq-zero-or-pos p.remaining)

some : (p : Partial) (bs : List ℕ) → 0 < length bs → (1 ≤ (absorb_of p bs).count) × ((absorb_of p bs).count ≤ length bs)
some p bs h =
    ⊎_elim (λ (z : p.remaining ≡ 0). let e = ap (λ (x : Absorbed). x.count) (absorb_one p bs h z) in (omega arith, omega arith))
    (λ (a : 0 < p.remaining).
    let e = ap (λ (x : Absorbed). x.count) (absorb_body p bs (min p.remaining (length bs)) h a refl) in (omega arith, omega arith))
    (eq-zero-or-pos p.remaining)

pub taken_at_once : TakenAtOnce
taken_at_once = record { steps = steps; some = some; none = λ p. absorb_none p [] refl }
