-- Laws of a command as bytes.
-- Assumes nothing.
use mathlib.Core.Path.{◌≡◌, refl, sym, ap, ap₂, ◌∙◌}
use mathlib.Core.Bool.{Bool, true, false, ◌&&◌}
use mathlib.Core.List.{List, [], ◌∷◌, map}
use mathlib.Core.Logic.{⊎_elim}
use Prim.Native.Nat.{ℕ, ◌+◌, ◌-◌, ◌*◌, ◌≤◌, ◌<◌}
use native.Mathlib.Omega.{arith}
use lib.Dec.{leb, eqb, leb→le}
use lib.ListN.{length, get_or, take, drop, replicate, length-append}
use lib.Seq.{length-take-le, take-append_seam}
use mir.Facts.{and_yes}
use borrow.Author.Tests.{le-leb, lt-leb}
use Rattle.wire.specs.Lists.{among, padded}
use Rattle.wire.specs.Buffer.{Put}
use Rattle.wire.proofs.BoolLaws.{le_or_lt}
use Rattle.wire.proofs.BufferLaws.{overwrite_zeros, put_start, put_then}
use Rattle.command.specs.Layout.{stored_count, payload_size, head_of, headed, payload_in, encode_of, DecodeRow, decode_table, otherwise, command_for, command_of, decode_of}
use Rattle.command.specs.declared.Command.{Command}
use Rattle.command.specs.declared.Message.{Message}
use Rattle.command.specs.declared.Head.{Head}
use Rattle.command.proofs.VariantLaws.{Passes, every}

-- ---- stored_count

pub stored_all : (n : ℕ) → n ≤ 16 → stored_count n ≡ n
stored_all n h = simp (le-leb n 16 h)

pub stored_none : (n : ℕ) → 16 < n → stored_count n ≡ 0
stored_none n h = simp (lt-leb n 16 h)

pub stored_le : (n : ℕ) → stored_count n ≤ 16
stored_le n = ⊎_elim (λ (h : n ≤ 16). rw (stored_all n h) h) (λ (h : 16 < n). rw (stored_none n h) (omega arith)) (le_or_lt n 16)

-- ---- sizes: the bytes before the payload, and the places of it in use

abbrev Small : Command → Type 0
Small c = (length (head_of c) ≤ 5) × ((payload_size c ≤ 32) × (length (head_of c) + payload_size c ≤ 35))

abbrev small_test : Command → Bool
small_test c = leb (length (head_of c)) 5 && (leb (payload_size c) 32 && leb (length (head_of c) + payload_size c) 35)

-- computed for each variant, but for the three that count
all_small : Passes small_test 0 25
all_small a b d v w =
    let x = stored_le a in
    let y = stored_le b in
    simp (
      le-leb (2 * stored_count b) 32 (omega arith),
      le-leb (3 + 2 * stored_count b) 35 (omega arith),
      le-leb (stored_count a) 32 (omega arith),
      le-leb (2 + stored_count a) 35 (omega arith),
    )
    tt

pub small : (c : Command) → Small c
small c =
    let h = length (head_of c) in
    let n = payload_size c in
    let s = and_yes (leb h 5) (leb n 32 && leb (h + n) 35) (every small_test all_small c) in
    let u = and_yes (leb n 32) (leb (h + n) 35) s.1 in
    (leb→le h 5 s.0, (leb→le n 32 u.0, leb→le (h + n) 35 u.1))

-- ---- command_of

-- an arm that knows the opcode
pub says : (bytes : List ℕ) {op : ℕ} → get_or bytes 0 0 ≡ op
    → command_for decode_table op (get_or bytes 1 0) (get_or bytes 2 0) (get_or bytes 3 0) (get_or bytes 4 0) ≡ command_of bytes
unfolding command_of
says bytes e = sym (ap (λ (k : ℕ). command_for decode_table k (get_or bytes 1 0) (get_or bytes 2 0) (get_or bytes 3 0) (get_or bytes 4 0)) e)

-- the opcodes that are read
abbrev opcodes : List DecodeRow → List ℕ
opcodes rs = map (λ (r : DecodeRow). r.opcode) rs

look_miss : (r : DecodeRow) (rs : List DecodeRow) (op a b c d : ℕ) (t : Bool) → eqb op r.opcode ≡ t → among (opcodes (r ∷ rs)) op ≡ false
    → (among (opcodes rs) op ≡ false → command_for rs op a b c d ≡ otherwise op) → command_for (r ∷ rs) op a b c d ≡ otherwise op
look_miss r rs op a b c d true t e f = cc (rw t at e)
look_miss r rs op a b c d false t e f = simp t (f (rw t at e))

look_none : (rs : List DecodeRow) (op a b c d : ℕ) → among (opcodes rs) op ≡ false → command_for rs op a b c d ≡ otherwise op
look_none [] op a b c d e = refl
look_none (r ∷ rs) op a b c d e = look_miss r rs op a b c d (eqb op r.opcode) refl e (look_none rs op a b c d)

module _ (bytes : List ℕ) where
  abbrev op : ℕ
  op = get_or bytes 0 0

  -- an opcode that is not read
  pub unread : among (opcodes decode_table) op ≡ false → command_of bytes ≡ otherwise op
  unfolding command_of
  unread = look_none decode_table op (get_or bytes 1 0) (get_or bytes 2 0) (get_or bytes 3 0) (get_or bytes 4 0)

-- ---- decode_of

said : {c d : Command} {l m : List ℕ} → c ≡ d → l ≡ m → ◌≡◌ {A = Message} (record { command = c; payload = l }) (record { command = d; payload = m })
said e p = rw (e, p) refl

-- the payload, put into an array of zeros
pub decoded : {c : Command} {h : Head} {n r : ℕ} (bytes : List ℕ) {d : List ℕ} → c ≡ command_of bytes → h ≡ headed (head_of c) → n ≡ payload_size c
    → Put (take (h.size + n - h.size) (drop h.size bytes)) 0 (replicate 32 0) d r → ◌≡◌ {A = Message} (record { command = c; payload = d }) (decode_of bytes)
unfolding decode_of
decoded {c} {h} {n} bytes {d} e f g x =
    let same : h.size + n - h.size ≡ n = omega arith in
    let start : h.size ≡ length (head_of (command_of bytes)) = ap (λ (x : Head). x.size) f ∙ ap (λ (x : Command). length (head_of x)) e in
    let size : h.size + n - h.size ≡ payload_size (command_of bytes) = same ∙ g ∙ ap payload_size e in
    said e (put_start x ∙ overwrite_zeros (take (h.size + n - h.size) (drop h.size bytes)) 32 ∙ ap₂ (λ (k m : ℕ). padded 32 (take k (drop m bytes))) size start)

-- ---- encode_of

pub encode_length : (m : Message) → length m.payload ≡ 32 → length (encode_of m) ≡ length (head_of m.command) + payload_size m.command
unfolding encode_of
encode_length m h =
    let s = small m.command in
    length-append (head_of m.command) (payload_in m)
    ∙ ap (λ (n : ℕ). length (head_of m.command) + n) (length-take-le (payload_size m.command) m.payload (omega (arith, s.1.0)))

-- what is put first is the command's bytes
head_put : {h : Head} (l : List ℕ) → h ≡ headed l → take h.size h.bytes ≡ l
head_put l e = ap (λ (h : Head). take h.size h.bytes) e ∙ take-append_seam l (replicate (5 - length l) 0)

-- and the places in use follow
pub written : (m : Message) {h : Head} {used : List ℕ} {r s : ℕ} {d d' d'' : List ℕ} → h ≡ headed (head_of m.command) → used ≡ payload_in m
    → h.size ≤ length d → Put (take h.size h.bytes) 0 d d' r → Put used r d' d'' s → Put (encode_of m) 0 d d'' s
unfolding encode_of
written m {h} e f room x y =
    let a : Put (head_of m.command) 0 _ _ _ = rw (head_put (head_of m.command) e) at x in
    put_then a (rw f at y) (omega (arith, ap (λ (h : Head). h.size) e))

-- so that the frame is as long as both
pub written_length : (m : Message) {h : Head} {used : List ℕ} → h ≡ headed (head_of m.command) → used ≡ payload_in m
    → length (encode_of m) ≡ h.size + length used
unfolding encode_of
written_length m {h} {used} e f =
    omega (arith, length-append (head_of m.command) (payload_in m), ap (λ (h : Head). h.size) e, ap length f)
