-- What is guaranteed of recordings.
-- Assumes nothing.
use mathlib.Core.Path.{◌≡◌, refl, sym, ap, ◌∙◌}
use mathlib.Core.List.{List, [], ◌∷◌, ◌++◌}
use Prim.Native.Nat.{ℕ, ◌+◌, ◌≤◌, ◌<◌, zero-le}
use native.Mathlib.Omega.{arith}
use lib.Dec.{T}
use borrow.Author.Tests.{ne_eqb}
use lib.ListN.{length, take, drop, length-append, length-drop, drop_of_length-le}
use lib.Seq.{take-append-add, drop-append-add}
use mir.Facts.{and_yes, yes_and}
use Rattle.wire.specs.Lists.{all, is_byte, all_bytes}
use Rattle.recording.specs.Recordings.{Entry, printed, print, legal_entry, whole, unknown_kind, cut_short, ends, found, more, parse, RecordingsRight}
use Rattle.recording.proofs.FoundLaws.{found_printed, whole_none, cut_small}
use Rattle.recording.proofs.ParseLaws.{parse_is, parse_ends, parse_next}

read_back : (es : List Entry) → T (all legal_entry es) → parse (print es) ≡ record { entries = es; at = length (print es); why = whole }
unfolding found
read_back [] t = parse_ends [] whole refl
read_back (e ∷ es) t =
    let s = and_yes (legal_entry e) (all legal_entry es) t in
    parse_next e (print es) (found_printed e (print es) s.0) ∙ ap (more e) (read_back es s.1)
    ∙ ap (λ (n : ℕ). record { entries = e ∷ es; at = n; why = whole }) (sym (length-append (printed e) (print es)))

after_first : (a b : List ℕ) → T (all_bytes (a ++ b)) → T (all_bytes b)
after_first [] b t = t
after_first (x ∷ a) b t = after_first a b (and_yes (is_byte x) (all_bytes (a ++ b)) t).1

legal : (l : List ℕ) → T (all_bytes l) → T (all legal_entry (parse l).entries)
legal =
    parse_is (λ l p. T (all_bytes l) → T (all legal_entry p.entries)) (λ l why q t. tt)
    (λ e rest p s i t. yes_and (legal_entry e) (all legal_entry p.entries) (s.legal t) (i (after_first (printed e) rest t)))

written_back : (l : List ℕ) → print (parse l).entries ≡ take (parse l).at l
written_back =
    parse_is (λ l p. print p.entries ≡ take p.at l) (λ l why q. refl)
    (λ e rest p s i. ap (λ (m : List ℕ). printed e ++ m) i ∙ sym (take-append-add (printed e) rest p.at))

inside : (l : List ℕ) → (parse l).at ≤ length l
inside =
    parse_is (λ l p. p.at ≤ length l) (λ l why q. zero-le)
    (λ e rest p s i. let n = length-append (printed e) rest in omega arith)

ends_there : (l : List ℕ) → found (drop (parse l).at l) ≡ ends (parse l).why
ends_there =
    parse_is (λ l p. found (drop p.at l) ≡ ends p.why) (λ l why q. q)
    (λ e rest p s i. ap found (drop-append-add (printed e) rest p.at) ∙ i)

ends_whole : (l : List ℕ) → (parse l).why ≡ whole → (parse l).at ≡ length l
ends_whole l q =
    let none = whole_none (drop (parse l).at l) (ends_there l ∙ ap ends q) in
    let n : length (drop (parse l).at l) ≡ 0 = ap length none in
    omega (arith, length-drop (parse l).at l, inside l)

whole_alone : (l : List ℕ) → (parse l).at ≡ length l → (parse l).why ≡ whole
unfolding found
whole_alone l q =
    let none : drop (parse l).at l ≡ [] = drop_of_length-le l {i = (parse l).at} (omega arith) in
    let e : ends whole ≡ ends (parse l).why = sym (ap found none) ∙ ends_there l in
    cc

short_rest : (l : List ℕ) → (parse l).why ≡ cut_short → length l ≤ (parse l).at + 40
short_rest l q = omega (arith, length-drop (parse l).at l, cut_small (drop (parse l).at l) (ends_there l ∙ ap ends q))

unknown : (k : ℕ) (rest : List ℕ) → 5 < k → found (k ∷ rest) ≡ ends unknown_kind
unfolding found
unknown k rest h =
    simp (ne_eqb k 1 (λ (e : k ≡ 1). omega arith), ne_eqb k 2 (λ (e : k ≡ 2). omega arith), ne_eqb k 3 (λ (e : k ≡ 3). omega arith), ne_eqb k 4 (λ (e : k ≡ 4). omega arith), ne_eqb k 5 (λ (e : k ≡ 5). omega arith))

pub recordings_right : RecordingsRight
recordings_right =
    record { read_back = read_back; legal = legal; written_back = written_back; inside = inside; ends_whole = ends_whole; ends_there = ends_there; whole_alone = whole_alone; short_rest = short_rest; unknown = unknown }
