-- Records in numbers: bad by one of docs/RULES.md B1 to B16 alone, each beside a neighbour that is
-- accepted. One record is written out, and the others differ from it by the setters. The values
-- that make a record bad or good are numbers, and cite no range and no rule.
-- Assumes nothing.
use Rattle.std.specs.Prelude.{Bool, true, not, cond, ◌&&◌, List, [], ◌∷◌, ◌++◌, ℕ, suc, ℤ, pos, length, set, replicate}
use Rattle.wire.specs.Lists.{all, span, padded, same_list}
use Rattle.wire.specs.Sixteen.{minus}
use Rattle.frame.specs.Push.{stored}
use Rattle.packet.specs.Cases.{longest_stream}
use Rattle.state.specs.State.{unset, power_on, with_mode, with_partial, with_wheels, with_duties, with_baud, with_leds, with_outputs, with_infrared, with_song, with_selected, with_playing, with_list, with_streaming}
use Rattle.state.specs.Accepted.{items, typed, accepted_of}
use Rattle.state.specs.declared.Song.{Song}
use Rattle.state.specs.declared.State.{State}

-- ---- records

abbrev song : ℕ → List ℕ → Song
song n notes = record { len = n; notes = padded 32 notes }

-- two notes
abbrev short_song : Song
short_song = song 2 (60 ∷ 32 ∷ 64 ∷ 16 ∷ [])

-- Full, in motion, a song playing, a list streamed, half a Drive read
abbrev pub moving : State
moving =
    record {
      mode = 3;
      motors = record { order = 1; first = pos 200; second = pos 500; duties = 128 ∷ 0 ∷ 64 ∷ [] };
      kept = record { baud = 7; leds = 255 ∷ 0 ∷ 128 ∷ []; outputs = 5; ir = 255 };
      songs = record { table = short_song ∷ (replicate 14 unset ++ (song 16 (span 1 32) ∷ [])); selected = 0; playing = 1 };
      stream = record { ids = padded 16 (29 ∷ 13 ∷ []); count = 2; on = 1 };
      partial = stored (137 ∷ 0 ∷ []) 3;
    }

-- the same in a mode in which the motors must be off, and with the motors off
abbrev still : ℕ → State
still mode = with_mode mode (with_duties (0 ∷ 0 ∷ 0 ∷ []) (with_wheels 0 (pos 0) (pos 0) moving))

-- ---- cases

-- a record, and its neighbour
pub record Case : Type 0 where
  pub bad : State
  pub mended : State

abbrev case : State → State → Case
case a b = record { bad = a; mended = b }

-- with a value that makes it bad, and with one that does not: at the end of a range the number
-- outside and the one inside
abbrev ends {ℓ} : {A : Type ℓ} → (A → State) → A → A → Case
ends set out within = case (set out) (set within)

abbrev driving : ℤ → ℤ → State
driving velocity radius = with_wheels 1 velocity radius moving

abbrev directing : ℤ → ℤ → State
directing right left = with_wheels 2 right left moving

-- this song selected, and none playing
abbrev selecting : ℕ → State
selecting n = with_selected n (with_playing 0 moving)

-- these ids, each in use
abbrev listing : List ℕ → State
listing ids = with_list (length ids) (padded 16 ids) moving

-- the ids' sizes and number make 256; those of the longest list, 255
abbrev makes256 : List ℕ
makes256 = 6 ∷ 6 ∷ 6 ∷ 6 ∷ 0 ∷ 1 ∷ 19 ∷ 19 ∷ []

-- a song in which the place k of its notes is 9
abbrev marked : ℕ → Song → Song
marked k x = record { len = x.len; notes = set x.notes k 9 }

abbrev holding : List ℕ → ℕ → State
holding bytes remaining = with_partial (stored bytes remaining) moving

-- a half-read 137 0 in which the place k is 9
abbrev holding_at : ℕ → State
holding_at k = with_partial (record { bytes = set (padded 35 (137 ∷ 0 ∷ [])) k 9; count = 2; remaining = 3 }) moving

-- for each of B1 to B16 in their order, the records that it alone makes bad
abbrev pub record_cases : List (List Case)
record_cases =
    -- a mode
    (ends (λ m. with_mode m moving) 4 3 ∷ ends (λ m. with_mode m moving) 255 2 ∷ [])
    -- a kind of wheel order
    ∷ (ends (λ k. with_wheels k (pos 200) (pos 500) moving) 3 2 ∷ [])
    -- a motor on in Off or Passive: a Drive of velocity 0 is on, and the numbers of no order may be
    -- anything
    ∷ (ends (λ m. with_mode m moving) 1 2
    ∷ ends (λ k. with_wheels k (pos 0) (pos 500) (still 1)) 1 0
    ∷ ends (λ k. with_wheels k (pos 0) (pos 0) (still 1)) 2 0
    ∷ ends (λ k. with_wheels k (pos 0) (minus 500) (still 0)) 2 0
    ∷ ends (λ d. with_duties (d ∷ 0 ∷ 0 ∷ []) (still 1)) 1 0
    ∷ ends (λ d. with_duties (0 ∷ d ∷ 0 ∷ []) (still 1)) 1 0
    ∷ ends (λ d. with_duties (0 ∷ 0 ∷ d ∷ []) (still 1)) 1 0
    ∷ ends (λ d. with_duties (0 ∷ 0 ∷ d ∷ []) (still 0)) 128 0
    ∷ [])
    -- a wheel order: velocity, radius; right, left
    ∷ (ends (λ v. driving v (pos 500)) (pos 501) (pos 500)
    ∷ ends (λ v. driving v (pos 500)) (minus 501) (minus 500)
    ∷ ends (driving (pos 200)) (pos 2001) (pos 2000)
    ∷ ends (driving (pos 200)) (minus 2001) (minus 2000)
    ∷ ends (driving (pos 200)) (pos 0) (pos 1)
    ∷ ends (driving (pos 200)) (pos 0) (minus 1)
    ∷ ends (driving (pos 200)) (pos 32766) (pos 32767)
    ∷ ends (driving (pos 200)) (minus 32767) (minus 32768)
    ∷ ends (λ v. directing v (pos 0)) (pos 501) (pos 500)
    ∷ ends (λ v. directing v (pos 0)) (minus 501) (minus 500)
    ∷ ends (directing (minus 500)) (pos 501) (pos 500)
    ∷ ends (directing (minus 500)) (minus 501) (minus 500)
    ∷ [])
    -- duties
    ∷ (ends (λ d. with_duties (d ∷ 0 ∷ 64 ∷ []) moving) 129 128
    ∷ ends (λ d. with_duties (128 ∷ d ∷ 64 ∷ []) moving) 129 128
    ∷ ends (λ d. with_duties (128 ∷ 0 ∷ d ∷ []) moving) 129 128
    ∷ [])
    -- outputs
    ∷ (ends (λ n. with_outputs n moving) 8 7 ∷ [])
    -- baud code
    ∷ (ends (λ n. with_baud n moving) 12 11 ∷ [])
    -- selected song
    ∷ (ends selecting 16 15 ∷ [])
    -- stream list: its length, its ids, its rule on sizes
    ∷ (ends (λ n. with_list n (replicate 16 7) moving) 17 16
    ∷ ends (λ id. listing (7 ∷ id ∷ [])) 43 42
    ∷ ends listing makes256 longest_stream
    ∷ ends listing (replicate 5 6) (replicate 4 6)
    ∷ [])
    -- song lengths
    ∷ (ends (λ n. with_song 0 (song n (span 1 32)) moving) 17 16 ∷ ends (λ n. with_song 15 (song n (span 1 32)) moving) 17 16 ∷ [])
    -- a song plays, and the selected one is not set
    ∷ (case (with_selected 1 moving) (selecting 1) ∷ ends (λ n. with_selected n moving) 14 15 ∷ case (with_song 0 unset moving) (with_song 0 (song 1 []) moving) ∷ [])
    -- an unused place of a song
    ∷ (ends (λ x. with_song 0 x moving) (marked 4 short_song) (marked 3 short_song)
    ∷ ends (λ n. with_song 0 (song n (1 ∷ 2 ∷ 3 ∷ 4 ∷ 5 ∷ [])) moving) 2 3
    ∷ ends (λ x. with_song 0 x moving) (marked 31 short_song) short_song
    ∷ ends (λ x. with_song 1 x moving) (marked 0 unset) unset
    ∷ ends (λ x. with_song 15 x moving) (marked 31 unset) unset
    ∷ [])
    -- of the list
    ∷ (ends (λ n. with_list n (padded 16 (29 ∷ 13 ∷ [])) moving) 1 2
    ∷ ends (λ n. with_list n (padded 16 (29 ∷ [])) moving) 0 1
    ∷ ends (λ id. with_list 2 (set (padded 16 (29 ∷ 13 ∷ [])) 15 id) moving) 1 0
    ∷ [])
    -- a held frame that no bytes leave: an unused place; a number of bytes, and of those remaining;
    -- a frame that is complete, or stored past its count
    ∷ (ends holding_at 2 1
    ∷ ends holding_at 34 1
    ∷ ends (λ n. with_partial (record { bytes = padded 35 (137 ∷ 0 ∷ []); count = n; remaining = 3 }) moving) 36 2
    ∷ ends (holding (137 ∷ 0 ∷ [])) 4 3
    ∷ ends (holding (137 ∷ 0 ∷ [])) 2 3
    ∷ ends (holding []) 1 0
    ∷ ends (holding (136 ∷ [])) 0 1
    ∷ ends (holding (136 ∷ [])) 2 1
    ∷ case (holding (136 ∷ 9 ∷ []) 0) (holding (136 ∷ []) 1)
    ∷ ends (holding (140 ∷ [])) 1 0
    ∷ ends (holding (140 ∷ 0 ∷ 255 ∷ [])) 511 510
    ∷ ends (holding (149 ∷ 1 ∷ [])) 0 1
    ∷ ends (λ n. holding (148 ∷ n ∷ []) n) 0 1
    ∷ case (holding (128 ∷ []) 0) (holding [] 0)
    ∷ case (holding (146 ∷ []) 0) (holding [] 0)
    ∷ case (holding (140 ∷ 0 ∷ 16 ∷ span 1 32) 0) (holding (140 ∷ 0 ∷ 16 ∷ span 1 31) 1)
    ∷ case (holding (152 ∷ 5 ∷ 1 ∷ []) 4) (holding (152 ∷ 5 ∷ []) 4)
    ∷ case (holding (149 ∷ 17 ∷ 7 ∷ []) 16) (holding (149 ∷ 17 ∷ []) 16)
    ∷ [])
    -- a flag that is neither 0 nor 1: playing, with the selected song set and not; streaming
    ∷ (ends (λ n. with_playing n moving) 2 1 ∷ ends (λ n. with_selected 1 (with_playing n moving)) 3 0 ∷ ends (λ n. with_playing n moving) 255 0 ∷ [])
    ∷ (ends (λ n. with_streaming n moving) 2 1 ∷ ends (λ n. with_streaming n moving) 255 0 ∷ [])
    ∷ []

-- the numbers of the items that fail, counted from k
abbrev pub failing : ℕ → List Bool → List ℕ
failing k [] = []
failing k (b ∷ bs) = cond b (failing (suc k) bs) (k ∷ failing (suc k) bs)

-- the one is a value of the type, is not accepted, and breaks item k alone; the other is accepted
abbrev pub case_right : ℕ → Case → Bool
case_right k c =
    (typed c.bad && (not (accepted_of c.bad) && same_list (failing 0 (items c.bad)) (k ∷ []))) && accepted_of c.mended

-- the first list of cases is for item k
abbrev pub cases_right : ℕ → List (List Case) → Bool
cases_right k [] = true
cases_right k (cs ∷ css) = all (case_right k) cs && cases_right (suc k) css

-- ---- odd records that are accepted

abbrev pub odd_records : List State
odd_records =
    power_on
    ∷ moving
    -- in Off and in Passive: a song that plays, songs, a list streamed, LEDs, outputs, half a frame
    ∷ still 0
    ∷ still 1
    -- a selected song that is not set, while none plays
    ∷ selecting 1
    -- streaming an empty list
    ∷ with_streaming 1 power_on
    -- numbers of no order
    ∷ with_mode 1 (with_wheels 0 (minus 32768) (pos 32767) power_on)
    ∷ with_mode 0 (with_wheels 0 (pos 501) (pos 0) power_on)
    -- a Drive of velocity 0, while driven
    ∷ with_mode 2 (with_wheels 1 (pos 0) (minus 32768) power_on)
    -- any LEDs and IR byte
    ∷ with_leds (255 ∷ 255 ∷ 255 ∷ []) (with_infrared 255 power_on)
    -- a whole list, and a whole song
    ∷ with_list 16 (replicate 16 7) power_on
    ∷ with_song 15 (song 16 (replicate 32 255)) power_on
    -- illegal data under a legal count are held
    ∷ with_partial (stored (140 ∷ 16 ∷ 3 ∷ []) 6) power_on
    ∷ with_partial (stored (149 ∷ 2 ∷ 99 ∷ []) 1) power_on
    ∷ []
