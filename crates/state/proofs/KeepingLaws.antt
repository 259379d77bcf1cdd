-- What keeps a record accepted: each setter, under the condition on what it sets.
-- Assumes nothing.
use mathlib.Core.Path.{◌≡◌, refl, sym, ap, subst, ◌∙◌}
use mathlib.Core.Bool.{Bool, true, false, ◌&&◌}
use mathlib.Core.List.{List, [], ◌∷◌}
use mathlib.Core.Logic.{⊎_elim}
use Prim.Native.Nat.{ℕ, ◌*◌, ◌≤◌, ◌<◌}
use native.Mathlib.Omega.{arith}
use lib.Dec.{T, leb, eqb, eqb→eq}
use lib.IntN.{ℤ, pos, negsuc}
use lib.ListN.{length, get_or, set, take, drop, replicate, length-set, get_or-eq_default}
use lib.Seq.{get_or-set_same, get_or-set_other, get_or-take, take-take, length-take-le}
use mir.Facts.{and_yes, yes_and, yes_eqb}
use borrow.Author.Tests.{leb-true, le-leb, lt-leb, lt-ltb, eqb-true, eqb-false}
use Rattle.wire.specs.Lists.{all, is_byte, all_zero, all_bytes, byte_array}
use Rattle.wire.proofs.BoolLaws.{is_true, to_T, both, le_or_lt}
use Rattle.wire.proofs.ListsLaws.{all_set, all_take, zero_later, zeros_later}
use Rattle.frame.specs.Reach.{reachable_of}
use Rattle.frame.specs.declared.Partial.{Partial}
use Rattle.packet.specs.Answers.{streamable_of}
use Rattle.command.specs.Layout.{stored_count}
use Rattle.command.specs.CommandTable.{is_in, is_legal, row_of, legal_of}
use Rattle.command.specs.Commands.{message, is_speed, is_radius, Sendable}
use Rattle.command.specs.declared.Command.TheVariants as cmd
use Rattle.command.proofs.LayoutLaws.{stored_all, stored_le}
use Rattle.command.proofs.CommandTableLaws.{byte_legal, bytes_legal, drive_legal, direct_legal, duties_legal_lem, song_is, stream_legal_lem, unused_free}
use Rattle.state.specs.State.{drive, direct, motors_stopped, motors_off, unset, song_at, with_mode, with_motors, with_kept, with_songs, with_stream, with_partial, with_wheels, with_duties, with_baud, with_leds, with_outputs, with_infrared, with_song, with_selected, with_playing, with_list, with_streaming, to_passive}
use Rattle.state.specs.Accepted.{order_named, off_unless_driven, wheels_legal, duties_legal, outputs_legal, baud_legal, selected_legal, stream_legal, is_set, playing_set, notes_zero, ids_zero, is_word, motors_typed, kept_typed, song_typed, stream_typed, accepted_of, motors_ok, kept_ok, song_ok, songs_ok, stream_ok}
use Rattle.state.specs.declared.Motors.{Motors}
use Rattle.state.specs.declared.Kept.{Kept}
use Rattle.state.specs.declared.Song.{Song}
use Rattle.state.specs.declared.Songs.{Songs}
use Rattle.state.specs.declared.Stream.{Stream}
use Rattle.state.specs.declared.State.{State}
use Rattle.state.proofs.AcceptedLaws.{mode_of, mode_is, order_of, off_of, length_legal_lem, selected_tested, playing_is, playing_of}
use Rattle.state.proofs.PartsLaws.{Parts, parts_of, of_parts, MotorsRight, motors_facts, motors_right, KeptRight, kept_facts, kept_right, SongsRight, songs_facts, songs_right, StreamRight, stream_facts, stream_right}

-- ---- words and bytes of legal data

speed_word : (v : ℤ) → is_speed v ≡ true → is_word v ≡ true
unfolding is_in
speed_word (pos n) e = le-leb n 32767 (omega (arith, leb-true n 500 e))
speed_word (negsuc n) e = let b = both (leb n 499) true e in simp (le-leb n 32767 (omega (arith, leb-true n 499 b.0)))

radius_word : (v : ℤ) → is_radius v ≡ true → is_word v ≡ true
unfolding is_in
radius_word (pos n) e =
    ⊎_elim (λ (h : n ≤ 32767). le-leb n 32767 h)
    (λ (h : 32767 < n).
    let none : is_radius (pos n) ≡ false = simp (lt-leb n 2000 (omega arith), le-leb 32767 n (omega arith), lt-leb n 32767 h) in
    lt-leb n 32767 h ∙ sym none ∙ e)
    (le_or_lt n 32767)
radius_word (negsuc n) e =
    ⊎_elim (λ (h : n ≤ 32767). simp (le-leb n 32767 h))
    (λ (h : 32767 < n).
    let none : is_radius (negsuc n) ≡ false = simp (lt-leb n 1999 (omega arith), lt-leb n 32767 h) in
    simp (lt-leb n 32767 h) (sym none ∙ e))
    (le_or_lt n 32767)

three_bytes : (a b d : ℕ) → a < 256 → b < 256 → d < 256 → byte_array 3 (a ∷ b ∷ d ∷ []) ≡ true
three_bytes a b d f g h = simp (lt-ltb a 256 f, lt-ltb b 256 g, lt-ltb d 256 h)

-- ---- the parts

module _ (s : State) (t : T (accepted_of s)) where
  abbrev p : Parts s
  p = parts_of s t

  abbrev m : MotorsRight s.mode s.motors
  m = motors_facts s.mode s.motors p.motors

  abbrev k : KeptRight s.kept
  k = kept_facts s.kept p.kept

  abbrev x : SongsRight s.songs
  x = songs_facts s.songs p.songs

  abbrev l : StreamRight s.stream
  l = stream_facts s.stream p.stream

  motors_of : (mode : ℕ) (n : Motors) → MotorsRight mode n → T (accepted_of (with_mode mode (with_motors n s)))
  motors_of mode n r =
      of_parts (with_mode mode (with_motors n s))
      (record { motors = motors_right mode n r; kept = p.kept; songs = p.songs; stream = p.stream; partial = p.partial })

  pub kept_kept : (n : Kept) → T (kept_ok n) → T (accepted_of (with_kept n s))
  kept_kept n u =
      of_parts (with_kept n s)
      (record { motors = p.motors; kept = is_true (kept_ok n) u; songs = p.songs; stream = p.stream; partial = p.partial })

  pub songs_kept : (n : Songs) → T (songs_ok n) → T (accepted_of (with_songs n s))
  songs_kept n u =
      of_parts (with_songs n s)
      (record { motors = p.motors; kept = p.kept; songs = is_true (songs_ok n) u; stream = p.stream; partial = p.partial })

  pub stream_kept : (n : Stream) → T (stream_ok n) → T (accepted_of (with_stream n s))
  stream_kept n u =
      of_parts (with_stream n s)
      (record { motors = p.motors; kept = p.kept; songs = p.songs; stream = is_true (stream_ok n) u; partial = p.partial })

  pub partial_kept : (n : Partial) → T (reachable_of n) → T (accepted_of (with_partial n s))
  partial_kept n u =
      of_parts (with_partial n s)
      (record { motors = p.motors; kept = p.kept; songs = p.songs; stream = p.stream; partial = is_true (reachable_of n) u })

  -- ---- mode and motors

  pub mode_kept : (n : ℕ) → n ≤ 3 → (n ≤ 1 → motors_off s.motors ≡ true) → T (accepted_of (with_mode n s))
  mode_kept n h f =
      motors_of n s.motors
      (record {
        typed = m.typed;
        mode_named_lem = mode_of n h;
        order_named_lem = m.order_named_lem;
        off = off_of n s.motors h f;
        wheels = m.wheels;
        duties = m.duties;
      })

  pub motors_kept : (n : Motors) → T (motors_ok s.mode n) → T (accepted_of (with_motors n s))
  motors_kept n u = motors_of s.mode n (motors_facts s.mode n (is_true (motors_ok s.mode n) u))

  pub passive_kept : T (accepted_of (to_passive s))
  unfolding motors_off order_named wheels_legal duties_legal motors_typed is_in row_of legal_of is_legal
  passive_kept =
      motors_of 1 motors_stopped
      (record { typed = refl; mode_named_lem = mode_of 1 (omega arith); order_named_lem = refl; off = off_of 1 motors_stopped (omega arith) (λ h. refl); wheels = refl; duties = refl })

  -- what is driven in Safe or Full
  module _ (driven : 1 < s.mode) where
    duties_array : byte_array 3 s.motors.duties ≡ true
    unfolding motors_typed
    duties_array =
        let n = s.motors in
        let a = both (is_word n.first) (is_word n.second && byte_array 3 n.duties) m.typed in
        (both (is_word n.second) (byte_array 3 n.duties) a.1).1

    driven_off : (n : Motors) → off_unless_driven s.mode n ≡ true
    driven_off n = off_of s.mode n (mode_is s.mode m.mode_named_lem) (λ (h : s.mode ≤ 1). absurd (omega arith))

    wheels_kept : (kind : ℕ) (v w : ℤ) → kind ≤ 2 → is_word v ≡ true → is_word w ≡ true
        → wheels_legal (record { order = kind; first = v; second = w; duties = s.motors.duties }) ≡ true → T (accepted_of (with_wheels kind v w s))
    unfolding motors_typed duties_legal
    wheels_kept kind v w h a b e =
        let n : Motors = record { order = kind; first = v; second = w; duties = s.motors.duties } in
        motors_of s.mode n
        (record {
          typed = simp (a, b, duties_array);
          mode_named_lem = m.mode_named_lem;
          order_named_lem = order_of n h;
          off = driven_off n;
          wheels = e;
          duties = m.duties;
        })

    pub drive_kept : (v r : ℤ) (q : List ℕ) → T (legal_of (message (cmd.Drive v r) q)) → T (accepted_of (with_wheels drive v r s))
    unfolding wheels_legal
    drive_kept v r q u =
        let e = is_true (legal_of (message (cmd.Drive v r) q)) u in
        let a = both (is_speed v) (is_radius r) (sym (drive_legal v r q) ∙ e) in
        wheels_kept drive v r (omega arith) (speed_word v a.0) (radius_word r a.1) (unused_free (cmd.Drive v r) (replicate 32 0) q refl ∙ e)

    pub direct_kept : (v w : ℤ) (q : List ℕ) → T (legal_of (message (cmd.Direct v w) q)) → T (accepted_of (with_wheels direct v w s))
    unfolding wheels_legal
    direct_kept v w q u =
        let e = is_true (legal_of (message (cmd.Direct v w) q)) u in
        let a = both (is_speed v) (is_speed w) (sym (direct_legal v w q) ∙ e) in
        wheels_kept direct v w (omega arith) (speed_word v a.0) (speed_word w a.1) (unused_free (cmd.Direct v w) (replicate 32 0) q refl ∙ e)

    pub duties_kept : (a b d : ℕ) (q : List ℕ) → T (legal_of (message (cmd.Duties d b a) q)) → T (accepted_of (with_duties (a ∷ b ∷ d ∷ []) s))
    unfolding motors_typed order_named wheels_legal duties_legal
    duties_kept a b d q u =
        let o = s.motors in
        let n : Motors = record { order = o.order; first = o.first; second = o.second; duties = a ∷ b ∷ d ∷ [] } in
        let e = is_true (legal_of (message (cmd.Duties d b a) q)) u in
        let i = both (leb d 128) (leb b 128 && leb a 128) (sym (duties_legal_lem d b a q) ∙ e) in
        let j = both (leb b 128) (leb a 128) i.1 in
        let f = leb-true d 128 i.0 in
        let g = leb-true b 128 j.0 in
        let h = leb-true a 128 j.1 in
        let v = both (is_word o.first) (is_word o.second && byte_array 3 o.duties) m.typed in
        let w = both (is_word o.second) (byte_array 3 o.duties) v.1 in
        motors_of s.mode n
        (record {
          typed = simp (v.0, w.0, three_bytes a b d (omega arith) (omega arith) (omega arith));
          mode_named_lem = m.mode_named_lem;
          order_named_lem = m.order_named_lem;
          off = driven_off n;
          wheels = m.wheels;
          duties = unused_free (cmd.Duties d b a) (replicate 32 0) q refl ∙ e;
        })

  -- ---- what is kept

  kept_of : (n : Kept) → KeptRight n → T (accepted_of (with_kept n s))
  kept_of n r = kept_kept n (to_T (kept_ok n) (kept_right n r))

  kept_typed_lem : (byte_array 3 s.kept.leds ≡ true) × (is_byte s.kept.ir ≡ true)
  unfolding kept_typed
  kept_typed_lem = both (byte_array 3 s.kept.leds) (is_byte s.kept.ir) k.first

  pub baud_kept : (n : ℕ) (q : List ℕ) → T (legal_of (message (cmd.Baud n) q)) → T (accepted_of (with_baud n s))
  unfolding kept_typed outputs_legal baud_legal
  baud_kept n q u =
      kept_of (with_baud n s).kept
      (record { first = k.first; second = k.second; third = unused_free (cmd.Baud n) (replicate 32 0) q refl ∙ is_true _ u })

  pub outputs_kept : (n : ℕ) (q : List ℕ) → T (legal_of (message (cmd.Outputs n) q)) → T (accepted_of (with_outputs n s))
  unfolding kept_typed outputs_legal baud_legal
  outputs_kept n q u =
      kept_of (with_outputs n s).kept
      (record { first = k.first; second = unused_free (cmd.Outputs n) (replicate 32 0) q refl ∙ is_true _ u; third = k.third })

  pub leds_kept : (a b d : ℕ) (q : List ℕ) → T (legal_of (message (cmd.Leds a b d) q)) → T (accepted_of (with_leds (a ∷ b ∷ d ∷ []) s))
  unfolding kept_typed outputs_legal baud_legal row_of legal_of
  leds_kept a b d q u =
      let i = both (leb a 255) (leb b 255 && leb d 255) (bytes_legal 255 a b d ∙ is_true _ u) in
      let j = both (leb b 255) (leb d 255) i.1 in
      let f = leb-true a 255 i.0 in
      let g = leb-true b 255 j.0 in
      let h = leb-true d 255 j.1 in
      kept_of (with_leds (a ∷ b ∷ d ∷ []) s).kept
      (record { first = simp (three_bytes a b d (omega arith) (omega arith) (omega arith), kept_typed_lem.1); second = k.second; third = k.third })

  pub infrared_kept : (n : ℕ) (q : List ℕ) → T (legal_of (message (cmd.Infrared n) q)) → T (accepted_of (with_infrared n s))
  unfolding kept_typed outputs_legal baud_legal row_of legal_of
  infrared_kept n q u =
      let h = leb-true n 255 (byte_legal 255 n ∙ is_true _ u) in
      kept_of (with_infrared n s).kept (record { first = simp (kept_typed_lem.0, lt-ltb n 256 (omega arith)); second = k.second; third = k.third })

  -- ---- songs

  song_right : (song : Song) → byte_array 32 song.notes ≡ true → song.len ≤ 16 → T (all_zero (drop (2 * stored_count song.len) song.notes)) → song_ok song ≡ true
  unfolding song_ok song_typed notes_zero
  song_right song a h u =
      let z : all_zero (drop (2 * song.len) song.notes) ≡ true =
      ap (λ (i : ℕ). all_zero (drop (2 * i) song.notes)) (sym (stored_all song.len h)) ∙ is_true _ u in
      simp (a, length_legal_lem song, le-leb song.len 16 h, z)

  songs_of : (n : Songs) → SongsRight n → T (accepted_of (with_songs n s))
  songs_of n r = songs_kept n (to_T (songs_ok n) (songs_right n r))

  -- while a song plays, the selected one is set, also where a set one takes a place
  module _ (n : ℕ) (song : Song) where
    abbrev replaced : Songs
    replaced = (with_song n song s).songs

    still_set : 1 ≤ song.len → s.songs.playing ≡ 1 → 0 < (song_at replaced replaced.selected).len
    still_set h e = go (eqb i n) refl
      where
        i : ℕ
        i = s.songs.selected

        go : (b : Bool) → eqb i n ≡ b → 0 < (song_at replaced i).len
        go true q =
            let r = eqb-true i n q in
            let a = leb-true i 15 (sym (selected_tested s.songs) ∙ x.selected) in
            let c = eqb-true (length s.songs.table) 16 x.sixteen in
            subst (λ (y : Song). 0 < y.len) (sym (ap (song_at replaced) r ∙ get_or-set_same s.songs.table n song unset (omega arith))) h
        go false q =
            subst (λ (y : Song). 0 < y.len) (sym (get_or-set_other s.songs.table n i song unset (eqb-false i n q)))
            (playing_is s.songs x.playing e)

  pub song_kept : (n len : ℕ) (q : List ℕ) → Sendable (message (cmd.Song n len) q) → T (accepted_of (with_song n (record { len = len; notes = q }) s))
  unfolding selected_legal
  song_kept n len q d =
      let song : Song = record { len = len; notes = q } in
      let a = and_yes (eqb (length q) 32) (all_bytes q) d.array in
      let e = both (leb n 15) (leb 1 len && leb len 16) (sym (song_is n len q a.1) ∙ d.legal) in
      let f = both (leb 1 len) (leb len 16) e.1 in
      let g = leb-true len 16 f.1 in
      songs_of (with_song n song s).songs
      (record {
        sixteen = ap (λ (i : ℕ). eqb i 16) (length-set s.songs.table n song) ∙ x.sixteen;
        selected = x.selected;
        flag = x.flag;
        playing = playing_of (with_song n song s).songs (still_set n song (leb-true 1 len f.0));
        each = is_true (all song_ok (set s.songs.table n song))
            (all_set song_ok s.songs.table n song (to_T (all song_ok s.songs.table) x.each) (to_T (song_ok song) (song_right song (is_true _ d.array) g d.unused)));
      })

  pub play_kept : (n : ℕ) (q : List ℕ) → T (legal_of (message (cmd.Play n) q)) → T (is_set (song_at s.songs n))
      → T (accepted_of (with_playing 1 (with_selected n s)))
  unfolding selected_legal playing_set
  play_kept n q u v =
      songs_of (with_playing 1 (with_selected n s)).songs
      (record { sixteen = x.sixteen; selected = unused_free (cmd.Play n) (replicate 32 0) q refl ∙ is_true _ u; flag = refl; playing = is_true _ v; each = x.each })

  pub silent_kept : T (accepted_of (with_playing 0 s))
  unfolding selected_legal playing_set
  silent_kept = songs_of (with_playing 0 s).songs (record { sixteen = x.sixteen; selected = x.selected; flag = refl; playing = refl; each = x.each })

  -- ---- the stream list

  pub list_kept : (n : ℕ) (q : List ℕ) → Sendable (message (cmd.Stream n) q) → T (accepted_of (with_list n (take 16 q) s))
  unfolding stream_typed stream_legal ids_zero
  list_kept n q d =
      let ids = take 16 q in
      let a = and_yes (eqb (length q) 32) (all_bytes q) d.array in
      let long = eqb→eq (length q) 32 a.0 in
      let sixteen : length ids ≡ 16 = length-take-le 16 q (omega arith) in
      let small = leb-true n 16 (both (leb n 16) (streamable_of (take n q)) (sym (stream_legal_lem n q) ∙ d.legal)).0 in
      let zero : (i : ℕ) → n ≤ i → get_or ids i 0 ≡ 0 = λ i h.
      ⊎_elim (λ (b : 16 ≤ i). get_or-eq_default ids 0 (omega arith))
      (λ (b : i < 16). get_or-take 16 q i 0 b ∙ zero_later q (stored_count n) d.unused i (omega (arith, stored_all n small)))
      (le_or_lt 16 i) in
      stream_kept (with_list n ids s).stream
      (to_T (stream_ok (with_list n ids s).stream)
      (stream_right (with_list n ids s).stream
      (record {
        typed = is_true _ (yes_and (eqb (length ids) 16) (all_bytes ids) (yes_eqb sixteen) (all_take is_byte 16 q a.1));
        flag = l.flag;
        list = unused_free (cmd.Stream n) ids q (take-take (stored_count n) 16 q (stored_le n)) ∙ d.legal;
        unused = is_true _ (zeros_later ids n zero);
      })))

  pub streaming_kept : (n : ℕ) (q : List ℕ) → T (legal_of (message (cmd.Pause n) q)) → T (accepted_of (with_streaming n s))
  unfolding row_of legal_of stream_typed stream_legal ids_zero
  streaming_kept n q u =
      let y = (with_streaming n s).stream in
      let f = byte_legal 1 n ∙ unused_free (cmd.Pause n) (replicate 32 0) q refl ∙ is_true (legal_of (message (cmd.Pause n) q)) u in
      stream_kept y (to_T (stream_ok y) (stream_right y (record { typed = l.typed; flag = f; list = l.list; unused = l.unused })))
