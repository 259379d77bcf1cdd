-- Recordings: what is written, and how it is read (docs/RULES.md E1 to E6, E10 to E14).
-- Assumes nothing.
use Rattle.std.specs.Prelude.{◌≡◌, Bool, true, cond, List, [], ◌∷◌, ◌++◌, ℕ, zero, suc, ◌+◌, ◌≤◌, ◌<◌, T, leb, ltb, eqb, length, get_or, take, drop}
use Rattle.wire.specs.Lists.{all, is_byte, byte_array, all_bytes}

-- ---- records, here called entries

-- a serial byte; a safety report's flags; a tick; a song end; a sensor image
pub data Entry : Type 0 where
  serial : (b : ℕ) → Entry
  safety : (flags : ℕ) → Entry
  ticked : Entry
  song_ended : Entry
  sensed : (image : List ℕ) → Entry

abbrev pub kind_of : Entry → ℕ
kind_of (serial b) = 1
kind_of (safety flags) = 2
kind_of ticked = 3
kind_of song_ended = 4
kind_of (sensed image) = 5

abbrev pub body_of : Entry → List ℕ
body_of (serial b) = b ∷ []
body_of (safety flags) = flags ∷ []
body_of ticked = []
body_of song_ended = []
body_of (sensed image) = image

-- rule E1: one byte of kind and a body
abbrev pub printed : Entry → List ℕ
printed e = kind_of e ∷ body_of e

-- a recording is a row of them
abbrev pub print : List Entry → List ℕ
print [] = []
print (e ∷ es) = printed e ++ print es

-- flags in bits 0 to 2
abbrev pub most_flags : ℕ
most_flags = 7

-- an image has 40 bytes
abbrev pub legal_entry : Entry → Bool
legal_entry (serial b) = is_byte b
legal_entry (safety flags) = leb flags most_flags
legal_entry ticked = true
legal_entry song_ended = true
legal_entry (sensed image) = byte_array 40 image

-- ---- reading one

-- why a recording ends: it is whole; an unknown kind; flags above 7; a record cut short
abbrev pub whole : ℕ
whole = 0

abbrev pub unknown_kind : ℕ
unknown_kind = 1

abbrev pub flags_above : ℕ
flags_above = 2

abbrev pub cut_short : ℕ
cut_short = 3

-- what stands where the recording is read: an entry, or why there is none
pub data Found : Type 0 where
  entry : (e : Entry) → Found
  ends : (why : ℕ) → Found

-- a kind: its number, the length of its body, and what a body of that length says
pub record Kind : Type 0 where
  pub kind : ℕ
  pub body : ℕ
  pub says : List ℕ → Found

abbrev row : ℕ → ℕ → (List ℕ → Found) → Kind
row k n f = record { kind = k; body = n; says = f }

-- rule E12
abbrev flagged : ℕ → Found
flagged flags = cond (leb flags most_flags) (entry (safety flags)) (ends flags_above)

-- rules E2 to E6, in their order
abbrev pub serial_kind : Kind
serial_kind = row 1 1 (λ b. entry (serial (get_or b 0 0)))

abbrev pub safety_kind : Kind
safety_kind = row 2 1 (λ b. flagged (get_or b 0 0))

abbrev pub tick_kind : Kind
tick_kind = row 3 0 (λ b. entry ticked)

abbrev pub song_end_kind : Kind
song_end_kind = row 4 0 (λ b. entry song_ended)

abbrev pub image_kind : Kind
image_kind = row 5 40 (λ b. entry (sensed b))

-- the table of kinds
abbrev pub kinds : List Kind
kinds = serial_kind ∷ safety_kind ∷ tick_kind ∷ song_end_kind ∷ image_kind ∷ []

-- rule E13: a body that is not all there
abbrev pub found_as : Kind → List ℕ → Found
found_as r rest = cond (ltb (length rest) r.body) (ends cut_short) (r.says (take r.body rest))

-- rule E11: a kind with no row
abbrev pub found_by : List Kind → ℕ → List ℕ → Found
found_by [] k rest = ends unknown_kind
found_by (r ∷ rs) k rest = cond (eqb k r.kind) (found_as r rest) (found_by rs k rest)

-- rule E10: nothing more is there
unfoldable pub found : List ℕ → Found
found [] = ends whole
found (k ∷ rest) = found_by kinds k rest

-- ---- reading all

pub record Parsed : Type 0 where
  pub entries : List Entry
  -- where it ends: the recording's length, or where the record begins that is not performed
  pub at : ℕ
  pub why : ℕ

abbrev pub over : ℕ → Parsed
over why = record { entries = []; at = 0; why = why }

abbrev pub more : Entry → Parsed → Parsed
more e p = record { entries = e ∷ p.entries; at = length (printed e) + p.at; why = p.why }

abbrev pub go_on : Found → (Entry → Parsed) → Parsed
go_on (ends why) f = over why
go_on (entry e) f = more e (f e)

-- at most n entries; every entry has at least one byte, so that one more than the recording has
-- bytes is enough
unfoldable pub parse_up_to : ℕ → List ℕ → Parsed
parse_up_to zero l = over whole
parse_up_to (suc n) l = go_on (found l) (λ e. parse_up_to n (drop (length (printed e)) l))

unfoldable pub parse : List ℕ → Parsed
parse l = parse_up_to (suc (length l)) l

-- ---- what is guaranteed

-- THEOREM: recordings
pub record RecordingsRight : Type 0 where
  -- what is written is read back, whole (E14)
  pub read_back : (es : List Entry) → T (all legal_entry es) → parse (print es) ≡ record { entries = es; at = length (print es); why = whole }
  -- what is read is legal, and prints as it came, up to where the recording ends
  pub legal : (l : List ℕ) → T (all_bytes l) → T (all legal_entry (parse l).entries)
  pub written_back : (l : List ℕ) → print (parse l).entries ≡ take (parse l).at l
  pub inside : (l : List ℕ) → (parse l).at ≤ length l
  -- what stands where it ends is why it ends (E11 to E13)
  pub ends_there : (l : List ℕ) → found (drop (parse l).at l) ≡ ends (parse l).why
  -- a recording that ends whole names its own length, and no other does (E10)
  pub ends_whole : (l : List ℕ) → (parse l).why ≡ whole → (parse l).at ≡ length l
  pub whole_alone : (l : List ℕ) → (parse l).at ≡ length l → (parse l).why ≡ whole
  -- no kind above 5 is known (E11)
  pub unknown : (k : ℕ) (rest : List ℕ) → 5 < k → found (k ∷ rest) ≡ ends unknown_kind
  -- of a record cut short there are at most 40 bytes
  pub short_rest : (l : List ℕ) → (parse l).why ≡ cut_short → length l ≤ (parse l).at + 40
