-- Laws of the command table.
-- Assumes nothing.
use mathlib.Core.Path.{◌≡◌, refl, sym, ap, ap₂, ◌∙◌}
use mathlib.Core.Bool.{Bool, true, false, cond, ◌&&◌, beq, and-true}
use mathlib.Core.List.{List, [], ◌∷◌, map}
use mathlib.Core.Logic.{⊎_elim}
use Prim.Native.Nat.{ℕ, zero, suc, ◌*◌, ◌≤◌, ◌<◌, zero-le}
use native.Mathlib.Omega.{arith}
use lib.Dec.{T, leb, eqb, leb→le, leb-zero}
use lib.IntN.{ℤ, pos, negsuc}
use lib.ListN.{take}
use mir.Facts.{and_yes}
use mir.Syntax.{w16}
use mir.Val.{SFits, to_z, of_z}
use mir.ValLaws.{to_z-of_z}
use borrow.Author.Tests.{le-leb, lt-leb, ne_eqb}
use Rattle.wire.specs.Lists.{all, all_from, among, is_byte, all_bytes}
use Rattle.wire.specs.Sixteen.{minus}
use Rattle.wire.proofs.BoolLaws.{is_true, beq_eq, or_none, le_or_lt}
use Rattle.wire.proofs.ListsLaws.{from, all_take}
use Rattle.packet.specs.Answers.{listable_of, streamable_of}
use Rattle.command.specs.Layout.{value_of, form_of, opcode_of, refusal_of, stored_count, payload_size}
use Rattle.command.specs.CommandTable.{Range, ◌to◌, is_in, is_legal, up_to, speed, radius, all_legal, command_table, no_row, row_for, row_of, allowed_of, legal_of}
use Rattle.command.specs.Commands.{message, is_speed, is_radius}
use Rattle.command.specs.declared.Command.{Command}
use Rattle.command.specs.declared.Command.TheVariants.{Demo, Drive, Direct, Duties, Leds, Song, QueryList, Stream}
use Rattle.command.specs.declared.Message.{Message}
use Rattle.command.proofs.VariantLaws.{every}
use Rattle.command.proofs.LayoutLaws.{stored_all}

-- ---- allowed_of

-- modes of which none is above 3
none_above : (l : List ℕ) (mode : ℕ) → T (all (λ k. leb k 3) l) → 3 < mode → among l mode ≡ false
none_above [] mode t h = refl
none_above (k ∷ ks) mode t h =
    let s = and_yes (leb k 3) (all (λ k. leb k 3) ks) t in
    let b = leb→le k 3 s.0 in
    simp (ne_eqb mode k (λ (e : mode ≡ k). omega arith), none_above ks mode s.1 h)

pub no_other_mode : (c : Command) (mode : ℕ) → 3 < mode → allowed_of c mode ≡ false
unfolding row_of allowed_of
no_other_mode c mode h =
    none_above (row_of c).modes mode (every (λ (x : Command). all (λ k. leb k 3) (row_of x).modes) (λ a b d v w. tt) c) h

pub by_opcode : (c d : Command) (mode : ℕ) → opcode_of c ≡ opcode_of d → refusal_of c ≡ refusal_of d → allowed_of c mode ≡ allowed_of d mode
unfolding row_of allowed_of
by_opcode c d mode e f = ap₂ (λ (op n : ℕ). among (cond (eqb n 0) (row_for command_table op) no_row).modes mode) e f

-- two tests of a byte that agree, by one test over all bytes
pub alike : (f g : ℕ → Bool) → T (all_from (λ m. beq (f m) (g m)) 0 256) → (m : ℕ) → m < 256 → f m ≡ g m
alike f g t m h = beq_eq (f m) (g m) (from (λ m. beq (f m) (g m)) 0 256 t m zero-le (omega arith))

pub from_off : (m : ℕ) → m < 256 → leb m 3 ≡ among (0 ∷ 1 ∷ 2 ∷ 3 ∷ []) m
from_off = alike (λ m. leb m 3) (among (0 ∷ 1 ∷ 2 ∷ 3 ∷ [])) tt

-- ---- legal_of

-- an arm that knows the command
pub legal_as : (m : Message) {x : Command} → m.command ≡ x → legal_of (record { command = x; payload = m.payload }) ≡ legal_of m
legal_as m e = sym (ap (λ (c : Command). legal_of (record { command = c; payload = m.payload })) e)

-- a byte's range as the code tests it
pub in_range : (a b n : ℕ) → is_legal ((pos a to pos b) ∷ []) (pos n) ≡ (leb a n && leb n b)
unfolding is_in is_legal
in_range a b n = or_none (leb a n && leb n b)

pub up_to_lem : (k n : ℕ) → is_legal (up_to k) (pos n) ≡ leb n k
up_to_lem k n = in_range 0 k n ∙ simp (leb-zero n)

pub byte_legal : (k n : ℕ) → leb n k ≡ ((is_legal (up_to k) (pos n) && true) && true)
byte_legal k n = sym (simp (up_to_lem k n, and-true))

pub bytes_legal : (k a b d : ℕ) → (leb a k && (leb b k && leb d k))
    ≡ ((is_legal (up_to k) (pos a) && (is_legal (up_to k) (pos b) && (is_legal (up_to k) (pos d) && true))) && true)
bytes_legal k a b d = sym (simp (up_to_lem k a, up_to_lem k b, up_to_lem k d, and-true))

song_tested : (song notes : ℕ) (l : List ℕ) → all_bytes l ≡ true → (leb song 15 && (leb 1 notes && leb notes 16))
    ≡ ((is_legal (up_to 15) (pos song) && (is_legal ((pos 1 to pos 16) ∷ []) (pos notes) && true)) && all_bytes l)
song_tested song notes l e = sym (simp (up_to_lem 15 song, in_range 1 16 notes, e, and-true))

pub ids_legal : (ids : ℕ) (rule : Bool) → (leb ids 16 && rule) ≡ ((is_legal (up_to 16) (pos ids) && true) && rule)
ids_legal ids rule = sym (simp (up_to_lem 16 ids, and-true))

-- the test that decides
pub first_decides : {a : Bool} (c : Bool) → a ≡ false → a ≡ (a && c)
first_decides c e = simp e

pub second_of_three : {a b : Bool} (d : Bool) → a ≡ true → b ≡ false → b ≡ (a && (b && d))
second_of_three d e f = simp (e, f)

pub third_of_three : {a b : Bool} (d : Bool) → a ≡ true → b ≡ true → d ≡ (a && (b && d))
third_of_three d e f = simp (e, f)

pub last_decides : {a b : Bool} → a ≡ true → b ≡ (a && b)
last_decides e = simp e

-- two tests by calls, which gave x and y
pub first_tested : {a x z : Bool} (b : Bool) → x ≡ a → x ≡ false → (a && b) ≡ z → x ≡ z
first_tested b p t f = p ∙ first_decides b (sym p ∙ t) ∙ f

pub second_tested : {a b x y z : Bool} → x ≡ a → x ≡ true → y ≡ b → (a && b) ≡ z → y ≡ z
second_tested p t q f = q ∙ last_decides (sym p ∙ t) ∙ f

-- a number of which the machine tests the bits
pub signed : (rs : List Range) {x : Bool} {v : ℤ} → SFits w16 v → x ≡ is_legal rs (to_z w16 (of_z w16 v)) → x ≡ is_legal rs v
signed rs {x} {v} f e = rw (to_z-of_z w16 v f) at e

-- two numbers, as they are tested
two_tested : (a b : Bool) → ((a && (b && true)) && true) ≡ (a && b)
two_tested a b = simp and-true

pub drive_tested : (v r : ℤ) (p : List ℕ) → legal_of (message (Drive v r) p) ≡ (is_legal speed v && is_legal radius r)
unfolding row_of legal_of
drive_tested v r p = two_tested (is_legal speed v) (is_legal radius r)

pub direct_tested : (v w : ℤ) (p : List ℕ) → legal_of (message (Direct v w) p) ≡ (is_legal speed v && is_legal speed w)
unfolding row_of legal_of
direct_tested v w p = two_tested (is_legal speed v) (is_legal speed w)

-- ---- the legal data of commands with more than one data byte, for every value

speed_is : (v : ℤ) → is_legal speed v ≡ is_speed v
unfolding is_in is_legal
speed_is v = or_none (is_speed v)

radius_is : (r : ℤ) → is_legal radius r ≡ is_radius r
unfolding is_in is_legal
radius_is (pos zero) = refl
radius_is (pos (suc n)) = simp (le-leb 1 (suc n) (omega arith), lt-leb (suc n) 0 (omega arith), leb-zero (suc n), and-true, or_none)
radius_is (negsuc n) = simp (leb-zero n, and-true, or_none)

pub demo_tested : (v : ℤ) (p : List ℕ) → legal_of (message (Demo v) p) ≡ is_in (minus 1 to pos 9) v
unfolding is_legal row_of legal_of
demo_tested v p = simp (and-true, or_none)

pub drive_legal : (v r : ℤ) (p : List ℕ) → legal_of (message (Drive v r) p) ≡ (is_speed v && is_radius r)
drive_legal v r p = drive_tested v r p ∙ ap₂ ◌&&◌ (speed_is v) (radius_is r)

pub direct_legal : (v w : ℤ) (p : List ℕ) → legal_of (message (Direct v w) p) ≡ (is_speed v && is_speed w)
direct_legal v w p = direct_tested v w p ∙ ap₂ ◌&&◌ (speed_is v) (speed_is w)

pub duties_legal_lem : (a b d : ℕ) (p : List ℕ) → legal_of (message (Duties a b d) p) ≡ (leb a 128 && (leb b 128 && leb d 128))
unfolding row_of legal_of
duties_legal_lem a b d p = sym (bytes_legal 128 a b d)

pub leds_legal : (a b d : ℕ) (p : List ℕ) → a < 256 → b < 256 → d < 256 → legal_of (message (Leds a b d) p) ≡ true
unfolding row_of legal_of
leds_legal a b d p f g h =
    sym (bytes_legal 255 a b d) ∙ simp (le-leb a 255 (omega arith), le-leb b 255 (omega arith), le-leb d 255 (omega arith))

pub song_is : (song notes : ℕ) (p : List ℕ) → T (all_bytes p)
    → legal_of (message (Song song notes) p) ≡ (leb song 15 && (leb 1 notes && leb notes 16))
unfolding row_of legal_of
song_is song notes p t =
    let n = 2 * stored_count notes in
    sym (song_tested song notes (take n p) (is_true (all_bytes (take n p)) (all_take is_byte n p t)))

-- past a legal count the rule for the payload makes no difference
counted : (rule : List ℕ → Bool) (n : ℕ) (p : List ℕ) → (leb n 16 && rule (take (stored_count n) p)) ≡ (leb n 16 && rule (take n p))
counted rule n p =
    ⊎_elim (λ (h : n ≤ 16). ap (λ (k : ℕ). leb n 16 && rule (take k p)) (stored_all n h)) (λ (h : 16 < n). simp (lt-leb n 16 h))
    (le_or_lt n 16)

pub query_legal : (n : ℕ) (p : List ℕ) → legal_of (message (QueryList n) p) ≡ (leb n 16 && listable_of (take n p))
unfolding row_of legal_of
query_legal n p = sym (ids_legal n (listable_of (take (stored_count n) p))) ∙ counted listable_of n p

pub stream_legal_lem : (n : ℕ) (p : List ℕ) → legal_of (message (Stream n) p) ≡ (leb n 16 && streamable_of (take n p))
unfolding row_of legal_of
stream_legal_lem n p = sym (ids_legal n (streamable_of (take (stored_count n) p))) ∙ counted streamable_of n p

pub unused_free : (c : Command) (p q : List ℕ) → take (payload_size c) p ≡ take (payload_size c) q → legal_of (message c p) ≡ legal_of (message c q)
unfolding legal_of
unused_free c p q e =
    let d = (row_of c).legal in
    ap (λ (l : List ℕ). all_legal d.numbers (map value_of (form_of c).items) && d.payload l) e
