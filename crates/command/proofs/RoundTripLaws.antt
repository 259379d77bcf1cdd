-- The round trip: a legal message's frame says the message, and a frame of legal data is
-- its message's.
-- Assumes nothing.
use mathlib.Core.Path.{◌≡◌, refl, sym, ap, ap₂, subst, ◌∙◌}
use mathlib.Core.Bool.{Bool, true, false, not, ◌&&◌, ◌||◌}
use mathlib.Core.List.{List, [], ◌∷◌, ◌++◌, append_assoc, map}
use mathlib.Core.Logic.{⊎_elim}
use Prim.Native.Nat.{ℕ, suc, ◌+◌, ◌-◌, ◌*◌, ◌≤◌, ◌<◌}
use native.Mathlib.Omega.{arith}
use lib.Dec.{T, leb, ltb, eqb, leb→le, ltb→lt, eqb→eq}
use lib.IntN.{pos}
use lib.ListN.{length, get_or, take, drop, replicate, length-drop, take-append-drop}
use lib.Seq.{length-take-le, get_or-take, take_at, take-append_seam, drop-append_seam}
use mir.Facts.{and_yes, or_yes, yes_and}
use borrow.Author.Tests.{le-leb, eqb-true}
use Rattle.wire.specs.Lists.{span, within, snoc, padded, is_byte, all_bytes, byte_array}
use Rattle.wire.proofs.BoolLaws.{to_T, cond_is}
use Rattle.wire.proofs.ListsLaws.{take_span, all_append, all_take, get_d_zeros, byte_at, zeros_from}
use Rattle.wire.proofs.SignedLaws.{round_trip_bits}
use Rattle.wire.proofs.SixteenLaws.{round_trip16}
use Rattle.frame.specs.FrameTable.{data_length, header_size}
use Rattle.frame.specs.Push.{Pushed, frame_size_as, stores_body_as, length_of, header_of, frame_size, stores_body}
use Rattle.frame.specs.Cut.{kept_of, CompleteAtLast}
use Rattle.frame.specs.declared.Length.{Length}
use Rattle.frame.specs.declared.Length.TheVariants.{Fixed, Counted, Song, Unknown}
use Rattle.frame.proofs.StoredLaws.{kept_all, kept_header}
use Rattle.frame.proofs.PushLaws.{header_le_frame, Agree, length_agree, stores_agree}
use Rattle.frame.proofs.CutProved.{complete_exactly, stored_as_sent}
use Rattle.packet.specs.Answers.{listable_of, streamable_of}
use Rattle.command.specs.Layout.{all_sent, form_of, opcode_of, refusal_of, stored_count, payload_size, head_of, payload_in, encode_of, DecodeRow, decode_table, command_for, command_of, decode_of}
use Rattle.command.specs.CommandTable.{◌to◌, up_to, is_legal, row_of, legal_of}
use Rattle.command.specs.Commands.{message, unused_zero, message_at, read_as}
use Rattle.command.specs.declared.Command.{Command}
use Rattle.command.specs.declared.Message.{Message}
use Rattle.command.specs.declared.Command.TheVariants.{Start, Baud, Control, Safe, Full, Power, Demo, Spot, Cover, Dock, Drive, Direct, Drivers, Duties, Leds, Outputs, Infrared, Song, Play, Sensors, QueryList, Stream, Pause, Unknown, NotOffered}
use Rattle.command.proofs.VariantLaws.{every}
use Rattle.command.proofs.LayoutLaws.{stored_all, small, encode_length}
use Rattle.command.proofs.CommandTableLaws.{in_range, query_legal, stream_legal_lem}
use Rattle.command.proofs.FitLaws.{Fit, numbers_fit, sent_bytes}

-- ---- a legal command's frame, whatever follows its head

record Laid (c : Command) : Type 0 where
  pub opcode : T (ltb (opcode_of c) 256)
  pub back : (rest : List ℕ) → command_of (head_of c ++ rest) ≡ c
  pub size : (rest : List ℕ) → frame_size (head_of c ++ rest) ≡ length (head_of c) + payload_size c
  pub stores : (rest : List ℕ) → stores_body (head_of c ++ rest) ≡ true

laid_as : {c : Command} → T (ltb (opcode_of c) 256) → ((rest : List ℕ) → command_of (head_of c ++ rest) ≡ c)
    → ((rest : List ℕ) → frame_size (head_of c ++ rest) ≡ length (head_of c) + payload_size c) → ((rest : List ℕ) → stores_body (head_of c ++ rest) ≡ true)
    → Laid c
laid_as t b s k = record { opcode = t; back = b; size = s; stores = k }

-- a legal song's length
notes_le : (song notes : ℕ) (rule : Bool)
    → T ((is_legal (up_to 15) (pos song) && (is_legal ((pos 1 to pos 16) ∷ []) (pos notes) && true)) && rule) → notes ≤ 16
notes_le song notes rule t =
    let n = is_legal (up_to 15) (pos song) in
    let l = is_legal ((pos 1 to pos 16) ∷ []) (pos notes) in
    let s = and_yes (n && (l && true)) rule t in
    let u = and_yes l true (and_yes n (l && true) s.0).1 in
    leb→le notes 16 (and_yes (leb 1 notes) (leb notes 16) (subst T (in_range 1 16 notes) u.0)).1

laid : (c : Command) (p : List ℕ) → Fit (form_of c).items → T (legal_of (message c p)) → Laid c
unfolding data_length command_of row_of legal_of
laid Start p f t = laid_as {c = Start} tt (λ r. refl) (λ r. refl) (λ r. refl)
laid (Baud code) p f t = laid_as {c = Baud code} tt (λ r. refl) (λ r. refl) (λ r. refl)
laid Control p f t = laid_as {c = Control} tt (λ r. refl) (λ r. refl) (λ r. refl)
laid Safe p f t = laid_as {c = Safe} tt (λ r. refl) (λ r. refl) (λ r. refl)
laid Full p f t = laid_as {c = Full} tt (λ r. refl) (λ r. refl) (λ r. refl)
laid Power p f t = laid_as {c = Power} tt (λ r. refl) (λ r. refl) (λ r. refl)
laid (Demo demo) p f t = laid_as {c = Demo demo} tt (λ r. ap Demo ((round_trip_bits 128).read_written demo f.0.sfits)) (λ r. refl) (λ r. refl)
laid Spot p f t = laid_as {c = Spot} tt (λ r. refl) (λ r. refl) (λ r. refl)
laid Cover p f t = laid_as {c = Cover} tt (λ r. refl) (λ r. refl) (λ r. refl)
laid Dock p f t = laid_as {c = Dock} tt (λ r. refl) (λ r. refl) (λ r. refl)
laid (Drive v w) p f t = laid_as {c = Drive v w} tt (λ r. ap₂ Drive (round_trip16.read_written v f.0) (round_trip16.read_written w f.1.0)) (λ r. refl) (λ r. refl)
laid (Direct v w) p f t = laid_as {c = Direct v w} tt (λ r. ap₂ Direct (round_trip16.read_written v f.0) (round_trip16.read_written w f.1.0)) (λ r. refl) (λ r. refl)
laid (Drivers bits) p f t = laid_as {c = Drivers bits} tt (λ r. refl) (λ r. refl) (λ r. refl)
laid (Duties a b d) p f t = laid_as {c = Duties a b d} tt (λ r. refl) (λ r. refl) (λ r. refl)
laid (Leds a b d) p f t = laid_as {c = Leds a b d} tt (λ r. refl) (λ r. refl) (λ r. refl)
laid (Outputs bits) p f t = laid_as {c = Outputs bits} tt (λ r. refl) (λ r. refl) (λ r. refl)
laid (Infrared code) p f t = laid_as {c = Infrared code} tt (λ r. refl) (λ r. refl) (λ r. refl)
laid (Song song notes) p f t =
    let h = notes_le song notes (all_bytes (take (2 * stored_count notes) p)) t in
    laid_as {c = Song song notes} tt (λ r. refl) (λ r. omega (arith, stored_all notes h)) (λ r. le-leb notes 16 h)
laid (Play song) p f t = laid_as {c = Play song} tt (λ r. refl) (λ r. refl) (λ r. refl)
laid (Sensors id) p f t = laid_as {c = Sensors id} tt (λ r. refl) (λ r. refl) (λ r. refl)
laid (QueryList ids) p f t =
    let h = leb→le ids 16 (and_yes (leb ids 16) (listable_of (take ids p)) (subst T (query_legal ids p) t)).0 in
    laid_as {c = QueryList ids} tt (λ r. refl) (λ r. omega (arith, stored_all ids h)) (λ r. le-leb ids 16 h)
laid (Stream ids) p f t =
    let h = leb→le ids 16 (and_yes (leb ids 16) (streamable_of (take ids p)) (subst T (stream_legal_lem ids p) t)).0 in
    laid_as {c = Stream ids} tt (λ r. refl) (λ r. omega (arith, stored_all ids h)) (λ r. le-leb ids 16 h)
laid (Pause on) p f t = laid_as {c = Pause on} tt (λ r. refl) (λ r. refl) (λ r. refl)
laid (Unknown op) p f t = absurd t
laid (NotOffered op) p f t = absurd t

-- its frame says it, with the payload's places that are in use
decode_laid : (c : Command) → Laid c → (rest : List ℕ) → decode_of (head_of c ++ rest) ≡ message c (padded 32 (take (payload_size c) rest))
unfolding decode_of
decode_laid c l rest =
    ap (λ (x : Command). message x (padded 32 (take (payload_size x) (drop (length (head_of x)) (head_of c ++ rest))))) (l.back rest)
    ∙ ap (λ (k : List ℕ). message c (padded 32 (take (payload_size c) k))) (drop-append_seam (head_of c) rest)

-- ---- the frame that a reader has at the last byte

first_bytes : (bs : List ℕ) (b : ℕ) → T (all_bytes (snoc bs b)) → T (all_bytes bs)
first_bytes bs b t = subst (λ (l : List ℕ). T (all_bytes l)) (take-append_seam bs (b ∷ [])) (all_take is_byte (length bs) (snoc bs b) t)

at_last : (bs : List ℕ) (b : ℕ) → T (all_bytes bs) → length (snoc bs b) ≡ frame_size (snoc bs b) → message_at bs b ≡ decode_of (padded 35 (kept_of (snoc bs b)))
at_last bs b t e = ap (λ (x : Pushed). decode_of x.partial.bytes) (stored_as_sent.complete_as_sent bs b t e)

-- ---- write, then read

module _ (m : Message) (legal : legal_of m ≡ true) where
  abbrev head : List ℕ
  head = head_of m.command

  laid_of : Laid m.command
  laid_of = let t = to_T (legal_of m) legal in laid m.command m.payload (numbers_fit m t) t

  pub opcode_byte : opcode_of m.command < 256
  opcode_byte = ltb→lt (opcode_of m.command) 256 laid_of.opcode

  pub head_says : (rest : List ℕ) → command_of (head ++ rest) ≡ m.command
  head_says = laid_of.back

  pub frame_bytes : T (all_bytes m.payload) → T (all_bytes (encode_of m))
  unfolding encode_of
  frame_bytes t =
      all_append is_byte head (payload_in m)
      (yes_and (is_byte (opcode_of m.command)) (all_bytes (all_sent (form_of m.command).items)) laid_of.opcode
      (sent_bytes (form_of m.command).items (numbers_fit m (to_T (legal_of m) legal))))
      (all_take is_byte (payload_size m.command) m.payload t)

module _ (m : Message) (array : T (byte_array 32 m.payload)) where
  is_32 : length m.payload ≡ 32
  is_32 = eqb→eq (length m.payload) 32 (and_yes (eqb (length m.payload) 32) (all_bytes m.payload) array).0

  in_use : length (payload_in m) ≡ payload_size m.command
  in_use = let s = small m.command in length-take-le (payload_size m.command) m.payload (omega (arith, is_32, s.1.0))

  pub read_same : T (unused_zero m) → read_as m ≡ m
  read_same t =
      let e : 32 - length (payload_in m) ≡ length m.payload - payload_size m.command = omega (arith, is_32, in_use) in
      ap (message m.command)
      (ap (λ (n : ℕ). payload_in m ++ replicate n 0) e ∙ sym (zeros_from m.payload (payload_size m.command) t))

module _ (m : Message) (legal : legal_of m ≡ true) (array : T (byte_array 32 m.payload)) where
  frame_sized : length (encode_of m) ≡ frame_size (encode_of m)
  unfolding encode_of
  frame_sized = encode_length m (is_32 m array) ∙ sym ((laid_of m legal).size (payload_in m))

  frame_stored : stores_body (encode_of m) ≡ true
  unfolding encode_of
  frame_stored = (laid_of m legal).stores (payload_in m)

  frame_says : decode_of (padded 35 (encode_of m)) ≡ read_as m
  unfolding encode_of
  frame_says =
      let zeros : List ℕ = replicate (35 - length (encode_of m)) 0 in
      ap decode_of (append_assoc (head_of m.command) (payload_in m) zeros) ∙ decode_laid m.command (laid_of m legal) (payload_in m ++ zeros)
      ∙ ap (λ (l : List ℕ). message m.command (padded 32 l)) (take_at (payload_in m) zeros (payload_size m.command) (in_use m array))

  module _ (bs : List ℕ) (b : ℕ) (is : encode_of m ≡ snoc bs b) where
    before_last : T (all_bytes bs)
    before_last =
        let t = (and_yes (eqb (length m.payload) 32) (all_bytes m.payload) array).1 in
        first_bytes bs b (subst (λ (l : List ℕ). T (all_bytes l)) is (frame_bytes m legal t))

    sized_as : length (snoc bs b) ≡ frame_size (snoc bs b)
    sized_as = subst (λ (l : List ℕ). length l ≡ frame_size l) is frame_sized

    pub written_complete : CompleteAtLast bs b
    written_complete = complete_exactly.sized_completes bs b before_last sized_as

    pub written_read : message_at bs b ≡ read_as m
    written_read =
        let e : kept_of (snoc bs b) ≡ encode_of m = ap kept_of (sym is) ∙ kept_all (encode_of m) frame_stored in
        at_last bs b before_last sized_as ∙ ap (λ (l : List ℕ). decode_of (padded 35 l)) e ∙ frame_says

-- ---- read, then write

-- the least size of a frame of this length
abbrev pub least : Length → ℕ
least (Fixed n) = 1 + n
least Counted = 2
least Song = 3
least Unknown = 1

-- a command as the bytes say it: its opcode is theirs, and so are its numbers; an offered one has
-- as many as the frame table says at least
pub record Spelled (bytes : List ℕ) (op : ℕ) (c : Command) : Type 0 where
  pub opcode : opcode_of c ≡ op
  pub sent : all_sent (form_of c).items ≡ map (λ i. get_or bytes i 0) (span 1 (length (all_sent (form_of c).items)))
  pub shortest : refusal_of c ≡ 0 → length (head_of c) ≡ least (data_length op)

module _ (bytes : List ℕ) (t : T (all_bytes bytes)) where
  abbrev d : ℕ → ℕ
  d i = get_or bytes i 0

  -- what a row makes of the bytes
  abbrev row_command : DecodeRow → Command
  row_command r = r.says (d 1) (d 2) (d 3) (d 4)

  -- its opcode, its head's length and its numbers as they are sent; and what these must be
  abbrev row_spelled : DecodeRow → List ℕ
  row_spelled r = opcode_of (row_command r) ∷ length (head_of (row_command r)) ∷ all_sent (form_of (row_command r)).items

  abbrev due_spelled : DecodeRow → List ℕ
  due_spelled r = r.opcode ∷ least (data_length r.opcode) ∷ map (λ i. get_or bytes i 0) (span 1 (length (all_sent (form_of (row_command r)).items)))

  look_spelled : (rs : List DecodeRow) (op : ℕ) → map row_spelled rs ≡ map due_spelled rs → Spelled bytes op (command_for rs op (d 1) (d 2) (d 3) (d 4))
  look_spelled [] op e =
      cond_is (Spelled bytes op) (within 152 158 op)
      (λ q. record { opcode = refl; sent = refl; shortest = λ z. absurd (omega (arith, z)) })
      (λ q. record { opcode = refl; sent = refl; shortest = λ z. absurd (omega (arith, z)) })
  look_spelled (r ∷ rs) op e =
      let s = ap (λ (l : List (List ℕ)). get_or l 0 []) e in
      cond_is (Spelled bytes op) (eqb op r.opcode)
      (λ q. record {
        opcode = ap (λ (l : List ℕ). get_or l 0 0) s ∙ sym (eqb-true op r.opcode q);
        sent = ap (λ (l : List ℕ). drop 2 l) s;
        shortest = λ z. ap (λ (l : List ℕ). get_or l 1 0) s ∙ ap (λ (k : ℕ). least (data_length k)) (sym (eqb-true op r.opcode q));
      })
      (λ q. look_spelled rs op (ap (λ (l : List (List ℕ)). drop 1 l) e))

  -- computed, but for the signed numbers
  all_spelled : map row_spelled decode_table ≡ map due_spelled decode_table
  unfolding data_length
  all_spelled =
      let e = (round_trip_bits 128).written_read (d 1) (byte_at bytes t 1) in
      let f = round_trip16.written_read (d 1) (d 2) (byte_at bytes t 1) (byte_at bytes t 2) in
      let g = round_trip16.written_read (d 3) (d 4) (byte_at bytes t 3) (byte_at bytes t 4) in
      cc

  pub spelled : Spelled bytes (d 0) (command_of bytes)
  unfolding command_of
  spelled = look_spelled decode_table (d 0) all_spelled

  pub head_kept : length (head_of (command_of bytes)) ≤ length bytes → head_of (command_of bytes) ≡ take (length (head_of (command_of bytes))) bytes
  head_kept h =
      let k = length (all_sent (form_of (command_of bytes)).items) in
      ap₂ (λ (op : ℕ) (ns : List ℕ). op ∷ ns) spelled.opcode spelled.sent ∙ sym (take_span bytes 0 (suc k) (omega arith))

least_le : (l : Length) (bytes : List ℕ) → least l ≤ frame_size_as l bytes
least_le (Fixed n) bytes = omega arith
least_le Counted bytes = omega arith
least_le Song bytes = omega arith
least_le Unknown bytes = omega arith

-- where the body isn't stored the header is the least that there is
least_header : (l : Length) (bytes : List ℕ) → stores_body_as l bytes ≡ false → least l ≡ header_size l
least_header (Fixed n) bytes e = cc
least_header Counted bytes e = refl
least_header Song bytes e = refl
least_header Unknown bytes e = cc

-- legal data are an offered command's
legal_or : (c : Command) (p : List ℕ) → T (eqb (refusal_of c) 0 || not (legal_of (message c p)))
unfolding row_of legal_of
legal_or c p = every (λ (x : Command). eqb (refusal_of x) 0 || not (legal_of (message x p))) (λ a b d v w. tt) c

legal_offered : (m : Message) → legal_of m ≡ true → refusal_of m.command ≡ 0
legal_offered m e =
    ⊎_elim (eqb→eq (refusal_of m.command) 0) (λ z. absurd (rw e at z))
    (or_yes (eqb (refusal_of m.command) 0) (not (legal_of m)) (legal_or m.command m.payload))

command_padded : (n : ℕ) (l : List ℕ) → command_of (padded n l) ≡ command_of l
unfolding command_of
command_padded n l =
    let k = n - length l in
    rw (get_d_zeros l k 0, get_d_zeros l k 1, get_d_zeros l k 2, get_d_zeros l k 3, get_d_zeros l k 4)

-- bytes, at least as many as their command's, whose message has legal data
module _ (l : List ℕ) (t : T (all_bytes l)) (long : least (length_of l) ≤ length l) (legal : legal_of (decode_of (padded 35 l)) ≡ true) where
  abbrev c : Command
  c = command_of l

  said : (decode_of (padded 35 l)).command ≡ c
  unfolding decode_of
  said = command_padded 35 l

  laid_said : Laid c
  laid_said = subst Laid said (laid_of (decode_of (padded 35 l)) legal)

  size : length (head_of c) ≡ least (length_of l)
  size = (spelled l t).shortest (subst (λ (x : Command). refusal_of x ≡ 0) said (legal_offered (decode_of (padded 35 l)) legal))

  abbrev rest : List ℕ
  rest = drop (length (head_of c)) l

  -- they are its bytes, and what follows
  parts : head_of c ++ rest ≡ l
  parts = ap (λ (h : List ℕ). h ++ rest) (head_kept l t (omega (arith, size))) ∙ take-append-drop (length (head_of c)) l

  stored_said : stores_body l ≡ true
  stored_said = subst (λ (k : List ℕ). stores_body k ≡ true) parts (laid_said.stores rest)

  module _ (whole : length l ≡ frame_size l) where
    rest_size : length rest ≡ payload_size c
    rest_size =
        let e = subst (λ (k : List ℕ). frame_size k ≡ length (head_of c) + payload_size c) parts (laid_said.size rest) in
        omega (arith, length-drop (length (head_of c)) l)

    rebuilt : encode_of (decode_of (padded 35 l)) ≡ l
    unfolding encode_of
    rebuilt =
        let zeros : List ℕ = replicate (35 - length l) 0 in
        let more : List ℕ = replicate (32 - length rest) 0 in
        let e : padded 35 l ≡ head_of c ++ (rest ++ zeros) = ap (λ (k : List ℕ). k ++ zeros) (sym parts) ∙ append_assoc (head_of c) rest zeros in
        let m : decode_of (padded 35 l) ≡ message c (padded 32 rest) =
        ap decode_of e ∙ decode_laid c laid_said (rest ++ zeros)
        ∙ ap (λ (k : List ℕ). message c (padded 32 k)) (take_at rest zeros (payload_size c) rest_size) in
        ap encode_of m ∙ ap (λ (k : List ℕ). head_of c ++ k) (take_at rest more (payload_size c) rest_size) ∙ parts

module _ (bs : List ℕ) (b : ℕ) (t : T (all_bytes (snoc bs b))) (complete : CompleteAtLast bs b) (legal : legal_of (message_at bs b) ≡ true) where
  whole : length (snoc bs b) ≡ frame_size (snoc bs b)
  whole = complete_exactly.completes_sized bs b (first_bytes bs b t) complete

  kept : message_at bs b ≡ decode_of (padded 35 (kept_of (snoc bs b)))
  kept = at_last bs b (first_bytes bs b t) whole

  legal_as_kept : (k : List ℕ) → kept_of (snoc bs b) ≡ k → legal_of (decode_of (padded 35 k)) ≡ true
  legal_as_kept k e = ap legal_of (ap (λ (l : List ℕ). decode_of (padded 35 l)) (sym e) ∙ sym kept) ∙ legal

  abbrev frame : List ℕ
  frame = snoc bs b

  abbrev header : List ℕ
  header = take (header_of frame) frame

  agrees : Agree (header_of frame) header frame
  agrees i h = get_or-take (header_of frame) frame i 0 h

  -- a frame that isn't stored whole, of which the header is kept, has no legal data
  stored_whole : stores_body frame ≡ true
  stored_whole = go (stores_body frame) refl
    where
      go : (w : Bool) → stores_body frame ≡ w → stores_body frame ≡ true
      go true e = e
      go false e =
          let n = length-take-le (header_of frame) frame (let h = header_le_frame (length_of frame) frame in omega (arith, whole)) in
          let h = least_header (length_of frame) frame e in
          sym (stores_agree header frame agrees)
          ∙ stored_said header (all_take is_byte (header_of frame) frame t) (rw (length_agree header frame agrees) (omega arith))
          (legal_as_kept header (kept_header frame e))

  pub rewritten : encode_of (message_at bs b) ≡ snoc bs b
  rewritten =
      let e = kept_all frame stored_whole in
      let h = least_le (length_of frame) frame in
      ap encode_of (kept ∙ ap (λ (l : List ℕ). decode_of (padded 35 l)) e) ∙ rebuilt frame t (omega (arith, whole)) (legal_as_kept frame e) whole
