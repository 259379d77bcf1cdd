-- A record is accepted exactly when each of its parts is; what is asked of a part, as facts.
-- Assumes nothing.
use mathlib.Core.Path.{◌≡◌, refl, sym, ap, ◌∙◌}
use mathlib.Core.Bool.{Bool, true, false, cond, ◌&&◌}
use mathlib.Core.List.{List, [], ◌∷◌, map}
use Prim.Native.Nat.{ℕ}
use lib.Dec.{T, eqb, ltb, ltb→lt}
use lib.ListN.{length, get_or}
use mir.Facts.{and_yes}
use Rattle.wire.specs.Lists.{all, all_zero}
use Rattle.wire.proofs.BoolLaws.{is_true, to_T, both, same_truth}
use Rattle.wire.proofs.ListsLaws.{all-at, all-and}
use Rattle.frame.specs.Reach.{reachable_of}
use Rattle.state.specs.Accepted.{mode_named, order_named, off_unless_driven, wheels_legal, duties_legal, outputs_legal, baud_legal, selected_legal, stream_legal, length_legal, playing_set, notes_zero, ids_zero, is_flag, items, motors_typed, kept_typed, song_typed, songs_typed, stream_typed, typed, accepted_of, broken_of, motors_ok, kept_ok, song_ok, songs_ok, stream_ok, parts_ok}
use Rattle.state.specs.declared.Motors.{Motors}
use Rattle.state.specs.declared.Kept.{Kept}
use Rattle.state.specs.declared.Song.{Song}
use Rattle.state.specs.declared.Songs.{Songs}
use Rattle.state.specs.declared.Stream.{Stream}
use Rattle.state.specs.declared.State.{State}

-- ---- the motors

pub record MotorsRight (mode : ℕ) (m : Motors) : Type 0 where
  pub typed : motors_typed m ≡ true
  pub mode_named_lem : mode_named mode ≡ true
  pub order_named_lem : order_named m ≡ true
  pub off : off_unless_driven mode m ≡ true
  pub wheels : wheels_legal m ≡ true
  pub duties : duties_legal m ≡ true

module _ (mode : ℕ) (m : Motors) where
  pub motors_facts : motors_ok mode m ≡ true → MotorsRight mode m
  unfolding motors_ok
  motors_facts e =
      let a = both (motors_typed m) (mode_named mode && (order_named m && (off_unless_driven mode m && (wheels_legal m && duties_legal m)))) e in
      let b = both (mode_named mode) (order_named m && (off_unless_driven mode m && (wheels_legal m && duties_legal m))) a.1 in
      let c = both (order_named m) (off_unless_driven mode m && (wheels_legal m && duties_legal m)) b.1 in
      let d = both (off_unless_driven mode m) (wheels_legal m && duties_legal m) c.1 in
      let f = both (wheels_legal m) (duties_legal m) d.1 in
      record { typed = a.0; mode_named_lem = b.0; order_named_lem = c.0; off = d.0; wheels = f.0; duties = f.1 }

  pub motors_right : MotorsRight mode m → motors_ok mode m ≡ true
  unfolding motors_ok
  motors_right r = simp (r.typed, r.mode_named_lem, r.order_named_lem, r.off, r.wheels, r.duties)

-- ---- what is kept: three tests

pub record Three (a b c : Bool) : Type 0 where
  pub first : a ≡ true
  pub second : b ≡ true
  pub third : c ≡ true

three_facts : (a b c : Bool) → (a && (b && c)) ≡ true → Three a b c
three_facts a b c e =
    let i = both a (b && c) e in
    let j = both b c i.1 in
    record { first = i.0; second = j.0; third = j.1 }

three_right : {a b c : Bool} → Three a b c → (a && (b && c)) ≡ true
three_right r = simp (r.first, r.second, r.third)

abbrev pub KeptRight : Kept → Type 0
KeptRight k = Three (kept_typed k) (outputs_legal k) (baud_legal k)

pub kept_facts : (k : Kept) → kept_ok k ≡ true → KeptRight k
unfolding kept_ok
kept_facts k = three_facts (kept_typed k) (outputs_legal k) (baud_legal k)

pub kept_right : (k : Kept) → KeptRight k → kept_ok k ≡ true
unfolding kept_ok
kept_right k r = three_right r

-- ---- the stream list

pub record StreamRight (x : Stream) : Type 0 where
  pub typed : stream_typed x ≡ true
  pub flag : is_flag x.on ≡ true
  pub list : stream_legal x ≡ true
  pub unused : ids_zero x ≡ true

pub stream_facts : (x : Stream) → stream_ok x ≡ true → StreamRight x
unfolding stream_ok
stream_facts x e =
    let a = both (stream_typed x) (is_flag x.on && (stream_legal x && ids_zero x)) e in
    let b = both (is_flag x.on) (stream_legal x && ids_zero x) a.1 in
    let c = both (stream_legal x) (ids_zero x) b.1 in
    record { typed = a.0; flag = b.0; list = c.0; unused = c.1 }

pub stream_right : (x : Stream) → StreamRight x → stream_ok x ≡ true
unfolding stream_ok
stream_right x r = simp (r.typed, r.flag, r.list, r.unused)

-- ---- the songs

pub record SongsRight (x : Songs) : Type 0 where
  pub sixteen : eqb (length x.table) 16 ≡ true
  pub selected : selected_legal x ≡ true
  pub flag : is_flag x.playing ≡ true
  pub playing : playing_set x ≡ true
  pub each : all song_ok x.table ≡ true

module _ (x : Songs) where
  pub songs_facts : songs_ok x ≡ true → SongsRight x
  unfolding songs_ok
  songs_facts e =
      let a = both (eqb (length x.table) 16) (selected_legal x && (is_flag x.playing && (playing_set x && all song_ok x.table))) e in
      let b = both (selected_legal x) (is_flag x.playing && (playing_set x && all song_ok x.table)) a.1 in
      let c = both (is_flag x.playing) (playing_set x && all song_ok x.table) b.1 in
      let d = both (playing_set x) (all song_ok x.table) c.1 in
      record { sixteen = a.0; selected = b.0; flag = c.0; playing = d.0; each = d.1 }

  pub songs_right : SongsRight x → songs_ok x ≡ true
  unfolding songs_ok
  songs_right r = simp (r.sixteen, r.selected, r.flag, r.playing, r.each)

-- one test of each song, and three tests of all
each_song : (l : List Song) → all song_ok l ≡ (all song_typed l && (all length_legal l && all notes_zero l))
unfolding song_ok
each_song l = all-and song_typed (λ x. length_legal x && notes_zero x) l ∙ ap (λ (b : Bool). all song_typed l && b) (all-and length_legal notes_zero l)

-- ---- the record

pub record Parts (s : State) : Type 0 where
  pub motors : motors_ok s.mode s.motors ≡ true
  pub kept : kept_ok s.kept ≡ true
  pub songs : songs_ok s.songs ≡ true
  pub stream : stream_ok s.stream ≡ true
  pub partial : reachable_of s.partial ≡ true

pub record TypedRight (s : State) : Type 0 where
  pub motors : motors_typed s.motors ≡ true
  pub kept : kept_typed s.kept ≡ true
  pub sixteen : eqb (length s.songs.table) 16 ≡ true
  pub songs : all song_typed s.songs.table ≡ true
  pub stream : stream_typed s.stream ≡ true

module _ (s : State) where
  -- an item by its number
  pub item_of : T (accepted_of s) → (k : ℕ) → T (ltb k 16) → get_or (items s) k true ≡ true
  unfolding accepted_of
  item_of t k h =
      let a = and_yes (typed s) (all (λ b. b) (items s)) t in
      is_true (get_or (items s) k true) (all-at (λ b. b) true (items s) k (ltb→lt k 16 h) a.1)

  -- what is true of every value of the type
  pub typed_of : T (typed s) → TypedRight s
  unfolding typed songs_typed
  typed_of t =
      let m = both (motors_typed s.motors) (kept_typed s.kept && (songs_typed s.songs && stream_typed s.stream)) (is_true (typed s) t) in
      let k = both (kept_typed s.kept) (songs_typed s.songs && stream_typed s.stream) m.1 in
      let x = both (songs_typed s.songs) (stream_typed s.stream) k.1 in
      let l = both (eqb (length s.songs.table) 16) (all song_typed s.songs.table) x.0 in
      record { motors = m.0; kept = k.0; sixteen = l.0; songs = l.1; stream = x.1 }

  pub typed_accepted : T (accepted_of s) → TypedRight s
  unfolding accepted_of
  typed_accepted t = typed_of (and_yes (typed s) (all (λ b. b) (items s)) t).0

  pub parts_of : T (accepted_of s) → Parts s
  unfolding motors_ok kept_ok songs_ok stream_ok
  parts_of t =
      let i = item_of t in
      let r = typed_accepted t in
      record {
        motors = simp (r.motors, i 0 tt, i 1 tt, i 2 tt, i 3 tt, i 4 tt);
        kept = simp (r.kept, i 5 tt, i 6 tt);
        songs = simp (r.sixteen, i 7 tt, i 14 tt, i 10 tt, each_song s.songs.table, r.songs, i 9 tt, i 11 tt);
        stream = simp (r.stream, i 15 tt, i 8 tt, i 12 tt);
        partial = i 13 tt;
      }

  pub of_parts : Parts s → T (accepted_of s)
  unfolding accepted_of typed songs_typed
  of_parts p =
      let m = motors_facts s.mode s.motors p.motors in
      let k = kept_facts s.kept p.kept in
      let x = songs_facts s.songs p.songs in
      let st = stream_facts s.stream p.stream in
      let l = s.songs.table in
      let e = both (all song_typed l) (all length_legal l && all notes_zero l) (sym (each_song l) ∙ x.each) in
      let f = both (all length_legal l) (all notes_zero l) e.1 in
      to_T (accepted_of s)
      (simp (
        m.typed,
        k.first,
        x.sixteen,
        e.0,
        st.typed,
        m.mode_named_lem,
        m.order_named_lem,
        m.off,
        m.wheels,
        m.duties,
        k.second,
        k.third,
        x.selected,
        st.list,
        f.0,
        x.playing,
        f.1,
        st.unused,
        p.partial,
        x.flag,
        st.flag,
      ))

  -- as the code tests it
  ok_parts : parts_ok s ≡ true → Parts s
  ok_parts e =
      let a = both (motors_ok s.mode s.motors) (kept_ok s.kept && (songs_ok s.songs && (stream_ok s.stream && reachable_of s.partial))) e in
      let b = both (kept_ok s.kept) (songs_ok s.songs && (stream_ok s.stream && reachable_of s.partial)) a.1 in
      let c = both (songs_ok s.songs) (stream_ok s.stream && reachable_of s.partial) b.1 in
      let d = both (stream_ok s.stream) (reachable_of s.partial) c.1 in
      record { motors = a.0; kept = b.0; songs = c.0; stream = d.0; partial = d.1 }

  parts_ok_lem : Parts s → parts_ok s ≡ true
  parts_ok_lem p = simp (p.motors, p.kept, p.songs, p.stream, p.partial)

  pub by_parts : accepted_of s ≡ parts_ok s
  by_parts =
      same_truth (accepted_of s) (parts_ok s) (λ t. to_T (parts_ok s) (parts_ok_lem (parts_of t))) (λ t. of_parts (ok_parts (is_true (parts_ok s) t)))

-- ---- what is broken

-- every item holds where no mark is made
unmarked : (l : List Bool) → all (λ item. item) l ≡ all_zero (map (λ item. cond item 0 1) l)
unmarked [] = refl
unmarked (true ∷ l) = unmarked l
unmarked (false ∷ l) = refl

pub none_broken : (s : State) → accepted_of s ≡ (typed s && all_zero (broken_of s))
unfolding accepted_of broken_of
none_broken s = ap (λ (b : Bool). typed s && b) (unmarked (items s))
