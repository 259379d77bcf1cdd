-- Laws of the bytes that a call reads, and of lists of calls.
-- Assumes nothing.
use mathlib.Core.Path.{◌≡◌, refl, sym, ap, ap₂, subst, ◌∙◌}
use mathlib.Core.Bool.{Bool, true, false, ◌&&◌}
use mathlib.Core.List.{List, [], ◌∷◌, ◌++◌, map, map-append}
use Prim.Native.Nat.{ℕ, suc}
use native.Mathlib.Numerals.{one-add}
use lib.Dec.{T, eqb}
use lib.ListN.{length, take, length-map}
use borrow.Author.Tests.{eqb-true, ne_eqb}
use Rattle.wire.proofs.BoolLaws.{to_T, both, cond-false, cond_is}
use Rattle.frame.specs.Push.{after_of}
use Rattle.frame.specs.declared.Partial.{Partial}
use Rattle.state.specs.State.{safe, with_playing, to_passive}
use Rattle.state.specs.Accepted.{accepted_of}
use Rattle.state.specs.declared.State.{State}
use Rattle.board.specs.Outcome.{Outcome, gives}
use Rattle.board.specs.Calls.{byte_of, stops_for, report_of, tick_of, song_end_of, Performed, performed, read_by, later, feed, run_of, Call, byte, run, report, tick, song_end, perform, after, bytes_in, bytes_read, Reading, reading, readings_of, readings_in, readings}
use Rattle.board.proofs.CallsLaws.{checked_is, byte_bad, byte_next, byte_eight, tick_is, song_end_is, run_is}

-- ---- the first byte of a slice

-- the record is bad; the byte gives 9, and the rest follows; it gives another number, and is
-- the last
pub data Fed (s : State) (b : ℕ) (bs image : List ℕ) (room : ℕ) : Type 0 where
  none : accepted_of s ≡ false → feed s (b ∷ bs) image room ≡ performed (gives 8 s) 0 → readings_of s (b ∷ bs) image room ≡ [] → Fed s b bs image room
  more : T (accepted_of s) → (byte_of s b image room).number ≡ 9
      → feed s (b ∷ bs) image room ≡ later 1 (feed (byte_of s b image room).state bs image room)
      → readings_of s (b ∷ bs) image room ≡ reading s b image room ∷ readings_of (byte_of s b image room).state bs image room → Fed s b bs image room
  last : T (accepted_of s) → feed s (b ∷ bs) image room ≡ performed (byte_of s b image room) 1
      → readings_of s (b ∷ bs) image room ≡ reading s b image room ∷ [] → Fed s b bs image room

not_eight : (s : State) (b : ℕ) (image : List ℕ) (room : ℕ) → T (accepted_of s) → eqb (byte_of s b image room).number 8 ≡ false
not_eight s b image room t = ne_eqb (byte_of s b image room).number 8 (byte_eight s b image room t)

pub reads_one : (s : State) (b : ℕ) (image : List ℕ) (room : ℕ) → T (accepted_of s) → read_by (byte_of s b image room) ≡ 1
reads_one s b image room t = cond-false (eqb (byte_of s b image room).number 8) 0 1 (not_eight s b image room t)

pub first_fed : (s : State) (b : ℕ) (bs image : List ℕ) (room : ℕ) → Fed s b bs image room
first_fed s b bs image room = go (accepted_of s) (eqb (byte_of s b image room).number 9) refl refl
  where
    go : (a n : Bool) → accepted_of s ≡ a → eqb (byte_of s b image room).number 9 ≡ n → Fed s b bs image room
    go false n e f = let o = byte_bad s b image room e in none e (simp o) (simp o)
    go true true e f =
        let t = to_T (accepted_of s) e in
        more t (eqb-true (byte_of s b image room).number 9 f) (simp f) (simp (not_eight s b image room t, f))
    go true false e f =
        let t = to_T (accepted_of s) e in
        let r = not_eight s b image room t in
        last t (simp (f, r)) (simp (r, f))

-- ---- a slice

-- the bytes of readings
abbrev pub bytes_at : List Reading → List ℕ
bytes_at = map (λ r. r.byte)

-- the same record, and as many bytes read
abbrev Alike : Performed → Performed → Type 0
Alike x y = (x.outcome.state ≡ y.outcome.state) × (x.read ≡ y.read)

module _ (image : List ℕ) (room : ℕ) where
  -- the readings are of the bytes that are counted
  abbrev Counted : State → List ℕ → Type 0
  Counted s bs =
      (bytes_at (readings_of s bs image room) ≡ take (feed s bs image room).read bs) × (length (readings_of s bs image room) ≡ (feed s bs image room).read)

  fed_counted : (bs : List ℕ) (s : State) → Counted s bs
  fed_counted [] s = (refl, refl)
  fed_counted (b ∷ bs) s = go (first_fed s b bs image room) (fed_counted bs (byte_of s b image room).state)
    where
      go : Fed s b bs image room → Counted (byte_of s b image room).state bs → Counted s (b ∷ bs)
      go (none e f r) i = rw (f, r) (refl, refl)
      go (more t n f r) i = rw (f, r, one-add (feed (byte_of s b image room).state bs image room).read) (ap (λ (l : List ℕ). b ∷ l) i.0, ap suc i.1)
      go (last t f r) i = rw (f, r) (refl, refl)

  -- a byte is a slice of one
  byte_as_fed : (s : State) (b : ℕ) → Alike (performed (byte_of s b image room) (read_by (byte_of s b image room))) (feed s (b ∷ []) image room)
  byte_as_fed s b = go (first_fed s b [] image room)
    where
      go : Fed s b [] image room → Alike (performed (byte_of s b image room) (read_by (byte_of s b image room))) (feed s (b ∷ []) image room)
      go (none e f r) = rw (f, byte_bad s b image room e) (refl, refl)
      go (more t n f r) = rw f (refl, reads_one s b image room t)
      go (last t f r) = rw f (refl, reads_one s b image room t)

  -- a bad record is fed nothing
  fed_bad : (s : State) (bs : List ℕ) → accepted_of s ≡ false → Alike (performed (gives 8 s) 0) (feed s bs image room)
  fed_bad s [] e = (refl, refl)
  fed_bad s (b ∷ bs) e = go (first_fed s b bs image room)
    where
      go : Fed s b bs image room → Alike (performed (gives 8 s) 0) (feed s (b ∷ bs) image room)
      go (none e f r) = rw f (refl, refl)
      go (more t n f r) = absurd (subst T e t)
      go (last t f r) = absurd (subst T e t)

  run_as_fed : (s : State) (bs : List ℕ) → Alike (run_of s bs image room) (feed s bs image room)
  run_as_fed s bs = run_is image room (λ (x : Performed). Alike x (feed s bs image room)) s bs (fed_bad s bs) (λ t. (refl, refl))

-- ---- a call

pub same_bytes : (s : State) (c : Call) → bytes_at (readings_in s c) ≡ bytes_in s c
same_bytes s (byte b image buffer) =
    (fed_counted image (length buffer) (b ∷ []) s).0 ∙ sym (ap (λ (k : ℕ). take k (b ∷ [])) (byte_as_fed image (length buffer) s b).1)
same_bytes s (run bs image buffer) =
    (fed_counted image (length buffer) bs s).0 ∙ sym (ap (λ (k : ℕ). take k bs) (run_as_fed image (length buffer) s bs).1)
same_bytes s (report drop cliff charger) = refl
same_bytes s (tick image buffer) = refl
same_bytes s song_end = refl

pub same_count : (s : State) (c : Call) → length (readings_in s c) ≡ (perform s c).read
same_count s (byte b image buffer) = (fed_counted image (length buffer) (b ∷ []) s).1 ∙ sym (byte_as_fed image (length buffer) s b).1
same_count s (run bs image buffer) = (fed_counted image (length buffer) bs s).1 ∙ sym (run_as_fed image (length buffer) s bs).1
same_count s (report drop cliff charger) = refl
same_count s (tick image buffer) = refl
same_count s song_end = refl

-- what a call that reads no byte does to the record: nothing; a safety stop, in Safe; no song plays
pub data Quiet (s : State) : State → Type 0 where
  same : Quiet s s
  stopped : s.mode ≡ safe → Quiet s (to_passive s)
  silent : T (accepted_of s) → Quiet s (with_playing 0 s)

report_quiet : (s : State) (drop cliff charger : Bool) → Quiet s (report_of s drop cliff charger).state
unfolding report_of
report_quiet s drop cliff charger =
    let stops = stops_for s.motors drop cliff charger in
    checked_is (λ (o : Outcome). Quiet s o.state) s (λ e. same)
    (λ t. cond_is (Quiet s) (eqb s.mode safe && stops) (λ e. stopped (eqb-true s.mode safe (both (eqb s.mode safe) stops e).0)) (λ e. same))

tick_quiet : (s : State) (image : List ℕ) (room : ℕ) → Quiet s (tick_of s image room).state
tick_quiet s image room = tick_is (λ (o : Outcome). Quiet s o.state) s image room (λ e. same) (λ e. same) same (λ l. same) (λ m e l. same)

song_end_quiet : (s : State) → Quiet s (song_end_of s).state
song_end_quiet s = song_end_is (λ (o : Outcome). Quiet s o.state) s (λ e. same) silent

pub quiet_partial : (s u : State) → Quiet s u → u.partial ≡ s.partial
quiet_partial s u same = refl
quiet_partial s u (stopped e) = refl
quiet_partial s u (silent t) = refl

-- ---- a list of calls

pub read_bytes : (cs : List Call) (s : State) → bytes_at (readings s cs) ≡ bytes_read s cs
read_bytes [] s = refl
read_bytes (c ∷ cs) s =
    let u = (perform s c).outcome.state in
    map-append (λ r. r.byte) (readings_in s c) (readings u cs) ∙ ap₂ (λ (l m : List ℕ). l ++ m) (same_bytes s c) (read_bytes cs u)

pub read_count : (cs : List Call) (s : State) → length (readings s cs) ≡ length (bytes_read s cs)
read_count cs s = sym (length-map (readings s cs) (λ r. r.byte)) ∙ ap length (read_bytes cs s)

-- a way from a record to the last one, t, by bytes that are read one by one and by quiet calls
pub data Course (t : State) : State → List Reading → Type 0 where
  over : Course t t []
  quiet : {s u : State} {rs : List Reading} → Quiet s u → Course t u rs → Course t s rs
  reads : {s : State} {rs : List Reading} (b : ℕ) (image : List ℕ) (room : ℕ) → T (accepted_of s) → Course t (byte_of s b image room).state rs
      → Course t s (reading s b image room ∷ rs)

then : (t u s : State) (rs ms : List Reading) → Course u s rs → Course t u ms → Course t s (rs ++ ms)
then t u s rs ms over d = d
then t u s rs ms (quiet {u = v} q c) d = quiet q (then t u v rs ms c d)
then t u s rs ms (reads {rs = ns} b image room a c) d = reads b image room a (then t u (byte_of s b image room).state ns ms c d)

fed_course : (image : List ℕ) (room : ℕ) (bs : List ℕ) (s : State) → Course (feed s bs image room).outcome.state s (readings_of s bs image room)
fed_course image room [] s = over
fed_course image room (b ∷ bs) s = go (first_fed s b bs image room) (fed_course image room bs (byte_of s b image room).state)
  where
    u : State
    u = (byte_of s b image room).state

    go : Fed s b bs image room → Course (feed u bs image room).outcome.state u (readings_of u bs image room)
        → Course (feed s (b ∷ bs) image room).outcome.state s (readings_of s (b ∷ bs) image room)
    go (none e f r) c = rw (f, r) over
    go (more a n f r) c = rw (f, r) (reads b image room a c)
    go (last a f r) c = rw (f, r) (reads b image room a over)

call_course : (s : State) (c : Call) → Course (perform s c).outcome.state s (readings_in s c)
call_course s (byte b image buffer) =
    subst (λ (t : State). Course t s (readings_in s (byte b image buffer))) (sym (byte_as_fed image (length buffer) s b).0)
    (fed_course image (length buffer) (b ∷ []) s)
call_course s (run bs image buffer) =
    subst (λ (t : State). Course t s (readings_in s (run bs image buffer))) (sym (run_as_fed image (length buffer) s bs).0)
    (fed_course image (length buffer) bs s)
call_course s (report drop cliff charger) = quiet (report_quiet s drop cliff charger) over
call_course s (tick image buffer) = quiet (tick_quiet s image (length buffer)) over
call_course s song_end = quiet (song_end_quiet s) over

pub course : (cs : List Call) (s : State) → Course (after s cs) s (readings s cs)
course [] s = over
course (c ∷ cs) s =
    let u = (perform s c).outcome.state in
    then (after u cs) u s (readings_in s c) (readings u cs) (call_course s c) (course cs u)

-- the bytes that are read cut the frame, whatever their values
course_cut : (t s : State) (rs : List Reading) → Course t s rs → t.partial ≡ after_of s.partial (bytes_at rs)
course_cut t s rs over = refl
course_cut t s rs (quiet {u = u} q c) = course_cut t u rs c ∙ ap (λ (p : Partial). after_of p (bytes_at rs)) (quiet_partial s u q)
course_cut t s rs (reads {rs = ms} b image room a c) =
    course_cut t (byte_of s b image room).state ms c ∙ ap (λ (p : Partial). after_of p (bytes_at ms)) (byte_next s b image room a)

pub cut : (s : State) (cs : List Call) → (after s cs).partial ≡ after_of s.partial (bytes_read s cs)
cut s cs = course_cut (after s cs) s (readings s cs) (course cs s) ∙ ap (after_of s.partial) (read_bytes cs s)
