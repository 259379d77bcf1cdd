-- The theorem of specs/Fields.antt.
-- Assumes nothing.
use mathlib.Core.Path.{◌≡◌, refl, ap, ap₂, ◌∙◌}
use mathlib.Core.Bool.{Bool, true, false, cond}
use mathlib.Core.List.{List, [], ◌∷◌}
use Prim.Native.Nat.{ℕ, zero, suc, ◌-◌}
use native.Mathlib.Omega.{arith}
use lib.Dec.{T}
use lib.IntN.{pos}
use lib.ListN.{length, get_or, replicate}
use mir.Facts.{yes_and}
use mir.Syntax.{w16}
use mir.Val.{SFits}
use borrow.Author.Tests.{lt-ltb}
use Rattle.wire.specs.Lists.{among, within, padded, is_byte, all_bytes, byte_array}
use Rattle.wire.specs.Signed.{bits8_of}
use Rattle.wire.specs.Replies.{refused}
use Rattle.wire.proofs.BoolLaws.{to_T}
use Rattle.wire.proofs.ListsLaws.{byte_at}
use Rattle.wire.proofs.SignedLaws.{round_trip_bits}
use Rattle.wire.proofs.SixteenLaws.{round_trip16}
use Rattle.wire.proofs.RepliesLaws.{reply_4}
use Rattle.command.specs.Layout.{Item, byte, signed_byte, word, form_of, head_of, encode_of, command_of}
use Rattle.command.specs.CommandTable.{row_of, legal_of, write_reply}
use Rattle.command.specs.Cases.{row_opcodes}
use Rattle.command.specs.Commands.{message}
use Rattle.command.specs.Fields.{two_words, opening_of, message_of, bytes_in, words_in, fields_of, InRange, RowsSaid, FieldsRight}
use Rattle.command.specs.declared.Command.{Command}
use Rattle.command.specs.declared.Command.TheVariants.{Start, Baud, Control, Safe, Full, Power, Demo, Spot, Cover, Dock, Drive, Direct, Drivers, Duties, Leds, Outputs, Infrared, Song, Play, Sensors, QueryList, Stream, Pause, Unknown, NotOffered}
use Rattle.command.specs.declared.Message.{Message}
use Rattle.command.specs.declared.Fields.{Fields}
use Rattle.command.proofs.LayoutLaws.{unread}
use Rattle.command.proofs.FitLaws.{Fit, numbers_fit}
use Rattle.command.proofs.RoundTripLaws.{opcode_byte, head_says}

-- ---- a legal message's fields say it

-- they open the command's own frame
opened : (c : Command) (p : List ℕ) → T (legal_of (message c p)) → padded 35 (opening_of (fields_of (message c p))) ≡ padded 35 (head_of c)
unfolding row_of legal_of
opened Start p t = refl
opened (Baud code) p t = refl
opened Control p t = refl
opened Safe p t = refl
opened Full p t = refl
opened Power p t = refl
opened (Demo demo) p t = refl
opened Spot p t = refl
opened Cover p t = refl
opened Dock p t = refl
opened (Drive v w) p t = refl
opened (Direct v w) p t = refl
opened (Drivers bits) p t = refl
opened (Duties a b d) p t = refl
opened (Leds a b d) p t = refl
opened (Outputs bits) p t = refl
opened (Infrared code) p t = refl
opened (Song song notes) p t = refl
opened (Play song) p t = refl
opened (Sensors id) p t = refl
opened (QueryList ids) p t = refl
opened (Stream ids) p t = refl
opened (Pause on) p t = refl
opened (Unknown op) p t = absurd t
opened (NotOffered op) p t = absurd t

says_it : (m : Message) → legal_of m ≡ true → message_of (fields_of m) ≡ m
unfolding message_of
says_it m e =
    ap (λ (c : Command). message c m.payload)
    (ap command_of (opened m.command m.payload (to_T (legal_of m) e)) ∙ head_says m e (replicate (35 - length (head_of m.command)) 0))

-- ---- and are numbers of their types

bytes_fit : (is : List Item) → Fit is → T (all_bytes (bytes_in is))
bytes_fit [] f = tt
bytes_fit (byte n ∷ is) f = yes_and (is_byte n) (all_bytes (bytes_in is)) (simp (lt-ltb n 256 f.0) tt) (bytes_fit is f.1)
bytes_fit (signed_byte v ∷ is) f =
    yes_and (is_byte (bits8_of v)) (all_bytes (bytes_in is)) (simp (lt-ltb (bits8_of v) 256 ((round_trip_bits 128).bits_fit v f.0.sfits)) tt)
    (bytes_fit is f.1)
bytes_fit (word v ∷ is) f = bytes_fit is f.1

word_fits : (is : List Item) → Fit is → (k : ℕ) → SFits w16 (get_or (words_in is) k (pos 0))
word_fits [] f k = record { sfits = omega arith }
word_fits (byte n ∷ is) f k = word_fits is f.1 k
word_fits (signed_byte v ∷ is) f k = word_fits is f.1 k
word_fits (word v ∷ is) f zero = f.0
word_fits (word v ∷ is) f (suc k) = word_fits is f.1 k

in_range : (m : Message) → legal_of m ≡ true → T (byte_array 32 m.payload) → InRange (fields_of m)
in_range m e array =
    let is = (form_of m.command).items in
    let fit = numbers_fit m (to_T (legal_of m) e) in
    let bytes = bytes_fit is fit in
    record {
      opcode_byte = opcode_byte m e;
      a_byte = byte_at (bytes_in is) bytes 0;
      b_byte = byte_at (bytes_in is) bytes 1;
      c_byte = byte_at (bytes_in is) bytes 2;
      first_word = word_fits is fit 0;
      second_word = word_fits is fit 1;
      payload_array = array;
    }

-- ---- the table

rows : (f : Fields) → InRange f → RowsSaid f
unfolding message_of command_of
rows f r =
    let first = round_trip16.read_written f.first r.first_word in
    let second = round_trip16.read_written f.second r.second_word in
    record {
      none = refl;
      a_alone = refl;
      a_b_c = refl;
      drive = ap₂ Drive first second;
      direct = ap₂ Direct first second;
      song = refl;
      lists = refl;
      payload_kept = refl;
    }

-- ---- any other opcode

opcode_first : (w : Bool) (op : ℕ) (x y : List ℕ) → get_or (padded 35 (cond w (op ∷ x) (op ∷ y))) 0 0 ≡ op
opcode_first true op x y = refl
opcode_first false op x y = refl

left_illegal : (w : Bool) (op : ℕ) (p : List ℕ) → legal_of (message (cond w (NotOffered op) (Unknown op)) p) ≡ false
unfolding row_of legal_of
left_illegal true op p = refl
left_illegal false op p = refl

other_4 : (f : Fields) → among row_opcodes f.opcode ≡ false → (room : ℕ) → write_reply (message_of f) room ≡ refused 4
unfolding message_of
other_4 f e room =
    let bytes = padded 35 (opening_of f) in
    let op : get_or bytes 0 0 ≡ f.opcode = opcode_first (two_words f.opcode) f.opcode _ _ in
    reply_4 (encode_of (message_of f)) room
    (ap (λ (c : Command). legal_of (message c f.payload)) (unread bytes (ap (among row_opcodes) op ∙ e)) ∙ left_illegal (within 152 158 (get_or bytes 0 0)) (get_or bytes 0 0) f.payload)

pub fields_right : FieldsRight
fields_right =
    record {
      rows = rows;
      in_range = in_range;
      says_it = says_it;
      written_same = λ m e room. ap (λ (x : Message). write_reply x room) (says_it m e);
      other_4 = other_4;
    }
