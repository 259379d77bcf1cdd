-- Laws of reading a whole recording.
-- Assumes nothing.
use mathlib.Core.Path.{◌≡◌, refl, sym, ap, subst, ◌∙◌}
use mathlib.Core.List.{List, ◌∷◌, ◌++◌, append_assoc}
use Prim.Native.Nat.{ℕ, zero, suc, ◌+◌, ◌<◌}
use native.Mathlib.Omega.{arith}
use lib.ListN.{length, drop, length-append}
use lib.Seq.{drop-append_seam, drop-append-add}
use Rattle.recording.specs.Recordings.{Entry, printed, Found, entry, ends, found, Parsed, over, more, go_on, parse_up_to, parse}
use Rattle.recording.proofs.FoundLaws.{Stands, stands}

-- by induction: nothing more is read; an entry, and what is read of the rest
module _ (P : List ℕ → Parsed → Type 0) (f : (l : List ℕ) (why : ℕ) → found l ≡ ends why → P l (over why))
    (g : (e : Entry) (rest : List ℕ) (p : Parsed) → Stands e (printed e ++ rest) → P rest p → P (printed e ++ rest) (more e p)) where
  up_to_lem : (n : ℕ) (l : List ℕ) → length l < n → P l (parse_up_to n l)
  unfolding parse_up_to
  up_to_lem zero l h = absurd (omega arith)
  up_to_lem (suc n) l h = go (found l) refl (up_to_lem n)
    where
      at : Found → Parsed
      at x = go_on x (λ e. parse_up_to n (drop (length (printed e)) l))

      go : (x : Found) → found l ≡ x → ((m : List ℕ) → length m < n → P m (parse_up_to n m)) → P l (at (found l))
      go (ends why) q i = subst (λ (x : Found). P l (at x)) (sym q) (f l why q)
      go (entry e) q i =
          let s = stands l e q in
          let k : drop (length (printed e)) l ≡ s.rest = ap (drop (length (printed e))) s.is ∙ drop-append_seam (printed e) s.rest in
          let h2 : length s.rest < n = omega (arith, ap length s.is, length-append (printed e) s.rest) in
          let p = g e s.rest (parse_up_to n s.rest) (subst (Stands e) s.is s) (i s.rest h2) in
          subst (λ (x : Found). P l (at x)) (sym q)
          (subst (λ (m : List ℕ). P l (more e (parse_up_to n m))) (sym k) (subst (λ (m : List ℕ). P m (more e (parse_up_to n s.rest))) (sym s.is) p))

  pub parse_is : (l : List ℕ) → P l (parse l)
  unfolding parse
  parse_is l = up_to_lem (suc (length l)) l (omega arith)

-- as many entries as there are is enough
enough : (l : List ℕ) (n : ℕ) → length l < n → parse_up_to n l ≡ parse l
unfolding parse_up_to
enough =
    parse_is (λ l p. (n : ℕ) → length l < n → parse_up_to n l ≡ p)
    (λ l why q n. ended l why q n) (λ e rest p s i n. next e rest p s i n)
  where
    ended : (l : List ℕ) (why : ℕ) → found l ≡ ends why → (n : ℕ) → length l < n → parse_up_to n l ≡ over why
    ended l why q zero h = absurd (omega arith)
    ended l why q (suc n) h = ap (λ (x : Found). go_on x (λ e. parse_up_to n (drop (length (printed e)) l))) q

    next : (e : Entry) (rest : List ℕ) (p : Parsed) → Stands e (printed e ++ rest) → ((n : ℕ) → length rest < n → parse_up_to n rest ≡ p)
        → (n : ℕ) → length (printed e ++ rest) < n → parse_up_to n (printed e ++ rest) ≡ more e p
    next e rest p s i zero h = absurd (omega arith)
    next e rest p s i (suc n) h =
        let l = printed e ++ rest in
        let h2 : length rest < n = omega (arith, length-append (printed e) rest) in
        ap (λ (x : Found). go_on x (λ d. parse_up_to n (drop (length (printed d)) l))) (s.any rest)
        ∙ ap (λ (m : List ℕ). more e (parse_up_to n m)) (drop-append_seam (printed e) rest) ∙ ap (more e) (i n h2)

-- the first entry, and the rest
pub parse_ends : (l : List ℕ) (why : ℕ) → found l ≡ ends why → parse l ≡ over why
unfolding parse parse_up_to
parse_ends l why q = ap (λ (x : Found). go_on x (λ e. parse_up_to (length l) (drop (length (printed e)) l))) q

pub parse_next : (e : Entry) (rest : List ℕ) → found (printed e ++ rest) ≡ entry e → parse (printed e ++ rest) ≡ more e (parse rest)
unfolding parse parse_up_to
parse_next e rest q =
    let l = printed e ++ rest in
    let h : length rest < length l = omega (arith, length-append (printed e) rest) in
    ap (λ (x : Found). go_on x (λ d. parse_up_to (length l) (drop (length (printed d)) l))) q
    ∙ ap (λ (m : List ℕ). more e (parse_up_to (length l) m)) (drop-append_seam (printed e) rest) ∙ ap (more e) (enough rest (length l) h)

-- one reading and, where it stopped, another
abbrev pub then : Parsed → Parsed → Parsed
then p q = record { entries = p.entries ++ q.entries; at = p.at + q.at; why = q.why }

-- a part, and then what it left unread with what follows it, is both
pub parse_part : (a b : List ℕ) → parse (a ++ b) ≡ then (parse a) (parse (drop (parse a).at a ++ b))
parse_part a b =
    parse_is (λ l p. parse (l ++ b) ≡ then p (parse (drop p.at l ++ b))) (λ l why q. ended (parse (l ++ b))) next a
  where
    ended : (q : Parsed) → q ≡ record { entries = q.entries; at = 0 + q.at; why = q.why }
    ended q = let z : q.at ≡ 0 + q.at = omega arith in ap (λ (n : ℕ). record { entries = q.entries; at = n; why = q.why }) z

    next : (e : Entry) (rest : List ℕ) (p : Parsed) → Stands e (printed e ++ rest) → parse (rest ++ b) ≡ then p (parse (drop p.at rest ++ b))
        → parse ((printed e ++ rest) ++ b) ≡ then (more e p) (parse (drop (length (printed e) + p.at) (printed e ++ rest) ++ b))
    next e rest p s i =
        let r = parse (drop p.at rest ++ b) in
        let n = length (printed e) in
        let z : n + (p.at + r.at) ≡ n + p.at + r.at = omega arith in
        ap parse (append_assoc (printed e) rest b) ∙ parse_next e (rest ++ b) (s.any (rest ++ b)) ∙ ap (more e) i
        ∙ ap (λ (k : ℕ). record { entries = e ∷ (p.entries ++ r.entries); at = k; why = r.why }) z
        ∙ sym (ap (λ (m : List ℕ). then (more e p) (parse (m ++ b))) (drop-append-add (printed e) rest p.at))
