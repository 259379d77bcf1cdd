-- The theorems of the state record.
-- Assumes nothing.
use mathlib.Core.Path.{◌≡◌, refl, sym, ◌∙◌}
use mathlib.Core.Bool.{true, ◌&&◌}
use native.Mathlib.Omega.{arith}
use lib.Dec.{T, leb}
use lib.ListN.{length, take}
use lib.Seq.{get_or-set_same, get_or-set_other}
use mir.Facts.{and_yes}
use borrow.Author.Tests.{leb-true, le-leb, ltb-true, lt-ltb, eqb-true, eq-eqb}
use Rattle.wire.specs.Lists.{all, is_byte, byte_array}
use Rattle.wire.proofs.BoolLaws.{is_true, to_T, both}
use Rattle.wire.proofs.ListsLaws.{all-at, all_of, array_true}
use Rattle.frame.specs.FrameTable.{data_length}
use Rattle.frame.specs.Push.{body_size_as}
use Rattle.frame.specs.Reach.{reachable_of}
use Rattle.packet.specs.SizeTable.{size_of, group_of}
use Rattle.packet.specs.Answers.{listable_of, streamable_of}
use Rattle.command.specs.CommandTable.{is_in, is_legal, row_of, legal_of}
use Rattle.state.specs.State.{motors_off, unset, song_at, power_on}
use Rattle.state.specs.Accepted.{mode_named, order_named, off_unless_driven, wheels_legal, duties_legal, outputs_legal, baud_legal, selected_legal, stream_legal, length_legal, playing_set, notes_zero, ids_zero, items, is_word, motors_typed, kept_typed, song_typed, songs_typed, stream_typed, typed, accepted_of}
use Rattle.state.specs.Record.{Typed, Sets, SettersRight, PowerOnRight, StopRight, RecordsInNumbers, Plain, AcceptedExactly, AcceptedStays}
use Rattle.state.specs.declared.State.{State}
use Rattle.state.proofs.StateLaws.{off_order, off_duties, off_so, set_so, no_songs}
use Rattle.state.proofs.AcceptedLaws as accepted
use Rattle.state.proofs.PartsLaws.{item_of, typed_of, typed_accepted, by_parts, none_broken}
use Rattle.state.proofs.KeepingLaws as keeping

-- a setter whose laws compute
abbrev sets : {A B : Type 0} {get : State → A} {rest : State → B} {put : A → State → State}
    → ((x : A) (s : State) → get (put x s) ≡ x) → ((x : A) (s : State) → rest (put x s) ≡ rest s) → Sets get rest put
sets a b = record { there = a; others = b }

pub setters_right : SettersRight
setters_right =
    record {
      set_mode = sets (λ x s. refl) (λ x s. refl);
      set_motors = sets (λ x s. refl) (λ x s. refl);
      set_kept = sets (λ x s. refl) (λ x s. refl);
      set_songs = sets (λ x s. refl) (λ x s. refl);
      set_stream = sets (λ x s. refl) (λ x s. refl);
      set_partial = sets (λ x s. refl) (λ x s. refl);
      set_wheels = sets (λ x s. refl) (λ x s. refl);
      set_duties = sets (λ x s. refl) (λ x s. refl);
      set_baud = sets (λ x s. refl) (λ x s. refl);
      set_leds = sets (λ x s. refl) (λ x s. refl);
      set_outputs = sets (λ x s. refl) (λ x s. refl);
      set_infrared = sets (λ x s. refl) (λ x s. refl);
      set_selected = sets (λ x s. refl) (λ x s. refl);
      set_playing = sets (λ x s. refl) (λ x s. refl);
      set_list = sets (λ x s. refl) (λ x s. refl);
      set_streaming = sets (λ x s. refl) (λ x s. refl);
      song_there = λ n x s h. get_or-set_same s.songs.table n x unset h;
      song_elsewhere = λ n k x s h. get_or-set_other s.songs.table n k x unset h;
      song_rest = λ n x s. refl;
    }

pub records_in_numbers : RecordsInNumbers
unfolding motors_off power_on mode_named order_named off_unless_driven wheels_legal duties_legal outputs_legal baud_legal selected_legal stream_legal length_legal playing_set notes_zero ids_zero motors_typed kept_typed song_typed songs_typed stream_typed typed accepted_of reachable_of data_length body_size_as size_of group_of listable_of streamable_of is_in is_legal row_of legal_of
records_in_numbers = record { mode_codes = refl; order_codes = refl; records_right = tt; every_item = λ s. refl; no_item_without = tt; odd_accepted = tt }

pub power_on_right : PowerOnRight
unfolding motors_off power_on
power_on_right =
    record {
      mode_off = refl;
      motors_off_lem = refl;
      wheels_0 = refl;
      no_songs = no_songs;
      selected_0 = refl;
      not_playing = refl;
      empty_list = refl;
      streaming_off = refl;
      baud_10 = refl;
      leds_0 = refl;
      outputs_0 = refl;
      infrared_0 = refl;
      nothing_held = refl;
      power_on_accepted = (and_yes (accepted_of power_on) _ records_in_numbers.odd_accepted).0;
    }

pub stop_right : StopRight
unfolding motors_off
stop_right =
    record {
      stop_wheels = λ s. refl;
      stop_duties = λ s. refl;
      stop_off = λ s. refl;
      stop_others = λ s. refl;
      passive_mode = λ s. refl;
      passive_others = λ s. refl;
      off_order = off_order;
      off_duties = off_duties;
      off_so = off_so;
    }

-- ---- accepted

typed_facts : (s : State) → T (typed s) → Typed s
unfolding motors_typed kept_typed song_typed stream_typed
typed_facts s t =
    let r = typed_of s t in
    let m = s.motors in
    let a = both (is_word m.first) (is_word m.second && byte_array 3 m.duties) r.motors in
    let b = both (is_word m.second) (byte_array 3 m.duties) a.1 in
    let k = both (byte_array 3 s.kept.leds) (is_byte s.kept.ir) r.kept in
    let n = eqb-true (length s.songs.table) 16 r.sixteen in
    record {
      first_word = accepted.word_fits m.first a.0;
      second_word = accepted.word_fits m.second b.0;
      duties_array = accepted.array_is 3 m.duties b.1;
      leds_array = accepted.array_is 3 s.kept.leds k.0;
      infrared_byte = ltb-true s.kept.ir 256 k.1;
      sixteen_songs = n;
      notes_array = λ i h. accepted.array_is 32 (song_at s.songs i).notes
          (is_true _ (all-at song_typed unset s.songs.table i (omega arith) (to_T (all song_typed s.songs.table) r.songs)));
      ids_array = accepted.array_is 16 s.stream.ids r.stream;
    }

typed_so : (s : State) → Typed s → T (typed s)
unfolding typed motors_typed kept_typed song_typed songs_typed stream_typed
typed_so s v =
    let n = v.sixteen_songs in
    let each : all song_typed s.songs.table ≡ true =
    is_true _ (all_of song_typed unset s.songs.table
    (λ i h. let a = v.notes_array i (omega arith) in to_T (song_typed (song_at s.songs i)) (array_true 32 (song_at s.songs i).notes a.0 a.1))) in
    to_T (typed s)
    (simp (
      accepted.word_true s.motors.first v.first_word,
      accepted.word_true s.motors.second v.second_word,
      array_true 3 s.motors.duties v.duties_array.0 v.duties_array.1,
      array_true 3 s.kept.leds v.leds_array.0 v.leds_array.1,
      lt-ltb s.kept.ir 256 v.infrared_byte,
      eq-eqb (length s.songs.table) 16 n,
      each,
      array_true 16 s.stream.ids v.ids_array.0 v.ids_array.1,
    ))

plain_of : (s : State) → T (accepted_of s) → Plain s
plain_of s t =
    let i = item_of s t in
    let n = eqb-true (length s.songs.table) 16 (typed_accepted s t).sixteen in
    let c = both (leb s.stream.count 16) (streamable_of (take s.stream.count s.stream.ids)) (sym (accepted.list_tested s.stream) ∙ i 8 tt) in
    record {
      mode_is = accepted.mode_is s.mode (i 0 tt);
      order_is = accepted.order_is s.motors (i 1 tt);
      off_unless_driven_lem = accepted.off_is s.mode s.motors (i 2 tt);
      drive_is = accepted.drive_is s.motors (i 3 tt);
      direct_is = accepted.direct_is s.motors (i 3 tt);
      duties_are = accepted.duties_are s.motors (i 4 tt);
      outputs_are = leb-true _ _ (sym (accepted.outputs_tested s.kept) ∙ i 5 tt);
      baud_is = leb-true _ _ (sym (accepted.baud_tested s.kept) ∙ i 6 tt);
      selected_is = leb-true _ _ (sym (accepted.selected_tested s.songs) ∙ i 7 tt);
      count_is = leb-true _ _ c.0;
      list_is = c.1;
      lengths_are = λ k h. accepted.lengths_are s.songs (i 9 tt) k (omega arith);
      playing_set_lem = accepted.playing_is s.songs (i 10 tt);
      notes_zero_lem = λ k j h. accepted.notes_are s.songs (i 11 tt) k j (omega arith);
      ids_zero_lem = accepted.ids_are s.stream (i 12 tt);
      partial_is = i 13 tt;
      playing_flag = leb-true s.songs.playing 1 (i 14 tt);
      streaming_flag = leb-true s.stream.on 1 (i 15 tt);
    }

accepted_of_lem : (s : State) → T (typed s) → Plain s → T (accepted_of s)
unfolding accepted_of
accepted_of_lem s t p =
    let n = eqb-true (length s.songs.table) 16 (typed_of s t).sixteen in
    to_T (accepted_of s)
    (simp (
      is_true (typed s) t,
      accepted.mode_of s.mode p.mode_is,
      accepted.order_of s.motors p.order_is,
      accepted.off_of s.mode s.motors p.mode_is p.off_unless_driven_lem,
      accepted.wheels_of s.motors p.drive_is p.direct_is,
      accepted.duties_of s.motors p.duties_are,
      accepted.outputs_tested s.kept,
      le-leb s.kept.outputs 7 p.outputs_are,
      accepted.baud_tested s.kept,
      le-leb s.kept.baud 11 p.baud_is,
      accepted.selected_tested s.songs,
      le-leb s.songs.selected 15 p.selected_is,
      accepted.list_tested s.stream,
      le-leb s.stream.count 16 p.count_is,
      p.list_is,
      accepted.lengths_of s.songs (λ k h. p.lengths_are k (omega arith)),
      accepted.playing_of s.songs p.playing_set_lem,
      accepted.notes_of s.songs (λ k j h. p.notes_zero_lem k j (omega arith)),
      accepted.ids_of s.stream p.ids_zero_lem,
      p.partial_is,
      le-leb s.songs.playing 1 p.playing_flag,
      le-leb s.stream.on 1 p.streaming_flag,
    ))

pub accepted_exactly : AcceptedExactly
unfolding accepted_of
accepted_exactly = record {
  typed_facts = typed_facts;
  typed_so = typed_so;
  set_so = set_so;
  by_parts = by_parts;
  none_broken = none_broken;
  accepted_facts = λ s t. ((and_yes (typed s) (all (λ b. b) (items s)) t).0, plain_of s t);
  no_other = accepted_of_lem;
}

-- ---- what keeps a record accepted

pub accepted_stays : AcceptedStays
accepted_stays s t =
    record {
      mode_kept = keeping.mode_kept s t;
      motors_kept = keeping.motors_kept s t;
      kept_kept = keeping.kept_kept s t;
      songs_kept = keeping.songs_kept s t;
      stream_kept = keeping.stream_kept s t;
      partial_kept = keeping.partial_kept s t;
      passive_kept = keeping.passive_kept s t;
      drive_kept = λ v r p h. keeping.drive_kept s t h v r p;
      direct_kept = λ v w p h. keeping.direct_kept s t h v w p;
      duties_kept = λ a b d p h. keeping.duties_kept s t h a b d p;
      baud_kept = keeping.baud_kept s t;
      leds_kept = keeping.leds_kept s t;
      outputs_kept = keeping.outputs_kept s t;
      infrared_kept = keeping.infrared_kept s t;
      song_kept = keeping.song_kept s t;
      play_kept = keeping.play_kept s t;
      silent_kept = keeping.silent_kept s t;
      list_kept = keeping.list_kept s t;
      streaming_kept = keeping.streaming_kept s t;
    }
