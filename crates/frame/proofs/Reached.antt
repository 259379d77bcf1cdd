-- Every frame that `reachable_of` passes is left by some list of bytes: by those that are stored,
-- and, where the body is skipped, by as many zeros as bytes of it came.
-- Assumes nothing.
use mathlib.Core.Path.{◌≡◌, refl, sym, ap, ap₂, ◌∙◌}
use mathlib.Core.Bool.{true, false}
use mathlib.Core.List.{List, [], ◌∷◌, ◌++◌, append-nil}
use mathlib.Core.Logic.{⊎_elim}
use Prim.Native.Nat.{ℕ, suc, ◌+◌, ◌-◌, ◌≤◌, ◌<◌}
use native.Mathlib.Nat.{eq-zero-or-pos}
use native.Mathlib.Omega.{arith}
use lib.Dec.{T, leb, leb→le, eqb, eqb→eq}
use lib.ListN.{length, get_or, take, replicate, length-append, length-replicate}
use lib.Seq.{length-take-le, take_at}
use mir.Facts.{or_yes}
use Rattle.wire.specs.Lists.{is_byte, all_bytes}
use Rattle.wire.proofs.ListsLaws.{byte_at, all_take, all_replicate, all_append, zeros_from, get_d_zeros}
use Rattle.frame.specs.Push.{body_size_as, length_of, header_of, frame_size, body_size, stores_body, stored}
use Rattle.frame.specs.Reach.{reachable_of}
use Rattle.frame.specs.Cut.{kept_of, partial_of, long_song, LeftBySome}
use Rattle.frame.specs.FrameTable.{data_length, header_size}
use Rattle.frame.specs.declared.Length.{Length}
use Rattle.frame.specs.declared.Length.TheVariants.{Fixed, Counted, Song, Unknown}
use Rattle.frame.specs.declared.Partial.{Partial}
use Rattle.frame.proofs.FrameTableLaws.{code, fixed_small, only_these}
use Rattle.frame.proofs.PushLaws.{header_le, header_le_frame, stored_fits, Agree, header_agree, frame_agree, stores_agree, partial_eq}
use Rattle.frame.proofs.ReachLaws.{Places, Stage, in_header, storing, skipping, places_of, stage_of, stored_room, empty_is}
use Rattle.frame.proofs.StoredLaws.{kept_all, kept_header, partial_in_header, partial_known, partial_as_sent}

module _ (p : Partial) (q : Places p.bytes p.count) (some : 0 < p.count) (room : p.count ≤ 35) where
  abbrev kept : List ℕ
  kept = take p.count p.bytes

  kept_length : length kept ≡ p.count
  kept_length = length-take-le p.count p.bytes (rw q.long room)

  -- p stores them, and zeros after them
  as_stored : stored kept p.remaining ≡ p
  as_stored =
      let e : 35 - length kept ≡ length p.bytes - p.count = omega (arith, q.long, kept_length) in
      partial_eq _ p.bytes (length kept) p.count p.remaining p.remaining
      (ap (λ (n : ℕ). kept ++ replicate n 0) e ∙ sym (zeros_from p.bytes p.count q.clear)) kept_length refl

  -- the bytes that leave p: m of the body were skipped
  abbrev sent : ℕ → List ℕ
  sent m = kept ++ replicate m 0

  sent_length : (m : ℕ) → length (sent m) ≡ p.count + m
  sent_length m = length-append kept (replicate m 0) ∙ ap₂ (λ (a b : ℕ). a + b) kept_length (length-replicate m 0)

  sent_bytes : (m : ℕ) → T (all_bytes (sent m))
  sent_bytes m =
      all_append is_byte kept (replicate m 0) (all_take is_byte p.count p.bytes q.small) (all_replicate is_byte m 0 tt)

  sent_agree : (m n : ℕ) → Agree n (sent m) p.bytes
  sent_agree m n i a =
      get_d_zeros kept m i
      ∙ sym (ap (λ (l : List ℕ). get_or l i 0) (zeros_from p.bytes p.count q.clear) ∙ get_d_zeros kept (length p.bytes - p.count) i)

  left_by : (m : ℕ) → p.count + m < frame_size p.bytes → partial_of (sent m) ≡ stored kept p.remaining → LeftBySome p
  left_by m l e =
      let n = sent_length m in
      let f = frame_agree (sent m) p.bytes (sent_agree m (header_of p.bytes)) in
      record {
        list = sent m;
        small = sent_bytes m;
        leaves = partial_as_sent (sent m) (sent_bytes m) (omega arith) (omega arith) ∙ e ∙ as_stored;
        unfinished = λ h. omega arith;
      }

  -- what `partial_of` says of them, by the stage
  left_header : p.count < header_of p.bytes → p.remaining ≡ 0 → LeftBySome p
  left_header h z =
      let n = sent_length 0 in
      let hd = header_agree (sent 0) p.bytes (sent_agree 0 (header_of p.bytes)) in
      let fl = header_le_frame (length_of p.bytes) p.bytes in
      left_by 0 (omega arith) (partial_in_header (sent 0) (omega arith) ∙ ap₂ stored (append-nil kept) (sym z))

  left_known : (m : ℕ) → header_of p.bytes ≤ p.count → 0 < p.remaining → p.count + m + p.remaining ≡ frame_size p.bytes
      → kept_of (sent m) ≡ kept → LeftBySome p
  left_known m h a l k =
      let n = sent_length m in
      let hd = header_agree (sent m) p.bytes (sent_agree m (header_of p.bytes)) in
      let f = frame_agree (sent m) p.bytes (sent_agree m (header_of p.bytes)) in
      let r : frame_size (sent m) - length (sent m) ≡ p.remaining = omega arith in
      left_by m (omega arith) (partial_known (sent m) kept (omega arith) k ∙ ap (stored kept) r)

  sent_stores : (m : ℕ) → stores_body (sent m) ≡ stores_body p.bytes
  sent_stores m = stores_agree (sent m) p.bytes (sent_agree m (header_of p.bytes))

  left_storing : header_of p.bytes ≤ p.count → 0 < p.remaining → p.count + 0 + p.remaining ≡ frame_size p.bytes
      → stores_body p.bytes ≡ true → LeftBySome p
  left_storing h a l k = left_known 0 h a l (kept_all (sent 0) (sent_stores 0 ∙ k) ∙ append-nil kept)

  left_skipping : (m : ℕ) → p.count ≡ header_of p.bytes → 0 < p.remaining → p.count + m + p.remaining ≡ frame_size p.bytes
      → stores_body p.bytes ≡ false → LeftBySome p
  left_skipping m e a l k =
      let hd = header_agree (sent m) p.bytes (sent_agree m (header_of p.bytes)) in
      left_known m (omega arith) a l
      (kept_header (sent m) (sent_stores m ∙ k) ∙ take_at kept (replicate m 0) (header_of (sent m)) (kept_length ∙ e ∙ sym hd))

left_at : (p : Partial) → Places p.bytes p.count → 0 < p.count → Stage p → LeftBySome p
unfolding body_size_as
left_at p q some (in_header h z) = let le = header_le (length_of p.bytes) in left_header p q some (omega arith) h z
left_at p q some (storing h a r k e) =
    let room = stored_room p q.small h a r k e in
    let fl = header_le_frame (length_of p.bytes) p.bytes in
    left_storing p q some (omega arith) h a (omega arith) k
left_at p q some (skipping a r k e) =
    let le = header_le (length_of p.bytes) in
    let fl = header_le_frame (length_of p.bytes) p.bytes in
    left_skipping p q some (omega arith) (body_size p.bytes - p.remaining) e a (omega arith) k

pub reachable_left : (p : Partial) → T (reachable_of p) → LeftBySome p
reachable_left p t =
    ⊎_elim (λ (e : p.count ≡ 0). record { list = []; small = tt; leaves = sym (empty_is p t e); unfinished = λ h. absurd (omega arith) })
    (λ (some : 0 < p.count). left_at p (places_of p t) some (stage_of p t))
    (eq-zero-or-pos p.count)

-- ---- 510 bytes remaining

-- only a song has a body of 510 bytes, and only where its count is 255
body_of_510 : (l : Length) (bs : List ℕ) → T (leb (code l) (code (Fixed 4))) → get_or bs 1 0 < 256 → get_or bs 2 0 < 256 → 510 ≤ body_size_as l bs
    → (l ≡ Song) × (get_or bs 2 0 ≡ 255)
unfolding body_size_as
body_of_510 (Fixed n) bs t p q h = let m : suc (suc (suc n)) ≤ 7 = leb→le (code (Fixed n)) 7 t in absurd (omega arith)
body_of_510 Counted bs t p q h = absurd (omega arith)
body_of_510 Song bs t p q h = (refl, omega arith)
body_of_510 Unknown bs t p q h = absurd (omega arith)

take_three : (l : List ℕ) → 3 ≤ length l → take 3 l ≡ get_or l 0 0 ∷ get_or l 1 0 ∷ get_or l 2 0 ∷ []
take_three [] h = absurd (omega arith)
take_three (a ∷ []) h = absurd (omega arith)
take_three (a ∷ (b ∷ [])) h = absurd (omega arith)
take_three (a ∷ (b ∷ (c ∷ l))) h = refl

song_of : (op : ℕ) → op < 256 → data_length op ≡ Song → op ≡ 140
unfolding data_length
song_of op h e = ⊎_elim (eqb→eq op 140) (λ f. absurd f) (or_yes (eqb op 140) false (only_these Song (140 ∷ []) tt op h e))

pub only_song : (p : Partial) → T (reachable_of p) → p.remaining ≡ 510 → p ≡ long_song (get_or p.bytes 1 0) 510
only_song p t r = at (stage_of p t)
  where
    at : Stage p → p ≡ long_song (get_or p.bytes 1 0) 510
    at (in_header a z) = absurd (omega arith)
    at (storing a h l k e) = let f = stored_fits p.bytes (places_of p t).small k in absurd (omega arith)
    at (skipping h l k e) =
        let q = places_of p t in
        let op = byte_at p.bytes q.small 0 in
        let s =
        body_of_510 (length_of p.bytes) p.bytes (fixed_small (get_or p.bytes 0 0) op) (byte_at p.bytes q.small 1) (byte_at p.bytes q.small 2)
        (omega arith) in
        let three : p.count ≡ 3 = e ∙ ap header_size s.0 in
        let long = q.long in
        sym (as_stored p q (omega arith) (omega arith))
        ∙ ap₂ stored
        (ap (λ (n : ℕ). take n p.bytes) three ∙ take_three p.bytes (omega arith)
        ∙ ap₂ (λ (a c : ℕ). a ∷ get_or p.bytes 1 0 ∷ c ∷ []) (song_of (get_or p.bytes 0 0) op s.0) s.1)
        r
