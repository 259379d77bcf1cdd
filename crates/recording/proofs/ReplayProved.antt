-- What is guaranteed of playing back.
-- Assumes nothing.
use mathlib.Core.Path.{◌≡◌, refl, sym, ap, ap₂, subst, ◌∙◌}
use mathlib.Core.Bool.{Bool, true, false}
use mathlib.Core.List.{List, [], ◌∷◌, ◌++◌, map, flatten, append-nil, append_assoc}
use Prim.Native.Nat.{ℕ, suc, ◌+◌}
use native.Mathlib.Nat.{add-zero}
use native.Mathlib.Omega.{arith}
use lib.Dec.{T}
use lib.ListN.{length, take, drop, length-append}
use lib.Seq.{drop-append_seam}
use mir.Facts.{and_yes, yes_and}
use Rattle.wire.specs.Lists.{all, is_byte, byte_array, all_bytes, same_list}
use Rattle.wire.proofs.BoolLaws.{to_T, cond_is}
use Rattle.wire.proofs.ListsLaws.{all_append, all_take, same_list_lem}
use Rattle.state.specs.State.{power_on}
use Rattle.state.specs.declared.State.{State}
use Rattle.board.specs.Calls.{byte_of, Performed, feed, run_of, Call, byte, run, report, tick, song_end, perform, after, bytes_of, bytes_in}
use Rattle.board.proofs.CallsLaws.{run_is}
use Rattle.board.proofs.ListsOfCallsLaws.{Fed, none, more, last, first_fed}
use Rattle.recording.specs.Recordings.{Entry, serial, safety, ticked, song_ended, sensed, printed, print, whole, legal_entry, Found, entry, ends, found, more as more_of, Parsed, parse}
use Rattle.recording.specs.Playback.{buffer832, no_image, flag, call_of, image_after, calls_of, last_image, stage_after, replay_from, replay_of, joined, continued, standing, play_blocks, seen, size_by, first_number, done_by, step_of, passed_at, flags_of, image_in, unless_last, image_told, call_told, recorded, call_alone, alone, recordable, ReplayRight}
use Rattle.recording.specs.declared.Stage.{Stage}
use Rattle.recording.proofs.FoundLaws.{stands}
use Rattle.recording.proofs.ParseLaws.{parse_part, parse_next}
use Rattle.recording.proofs.RecordingsProved.{recordings_right}
use Rattle.board.proofs.AnyRoomLaws.{byte_any, tick_keeps}

-- ---- lists of calls and of entries

after_append : (cs ds : List Call) (s : State) → after s (cs ++ ds) ≡ after (after s cs) ds
after_append [] ds s = refl
after_append (c ∷ cs) ds s = after_append cs ds (perform s c).outcome.state

image_append : (es fs : List Entry) (image : List ℕ) → last_image image (es ++ fs) ≡ last_image (last_image image es) fs
image_append [] fs image = refl
image_append (e ∷ es) fs image = image_append es fs (image_after image e)

module _ (buffer : List ℕ) where
  calls_append : (es fs : List Entry) (image : List ℕ) → calls_of buffer image (es ++ fs) ≡ calls_of buffer image es ++ calls_of buffer (last_image image es) fs
  calls_append [] fs image = refl
  calls_append (e ∷ es) fs image =
      let next = image_after image e in
      ap (λ (l : List Call). call_of buffer image e ++ l) (calls_append es fs next)
      ∙ sym (append_assoc (call_of buffer image e) (calls_of buffer next es) (calls_of buffer (last_image next es) fs))

  pub played_append : (es fs : List Entry) (image : List ℕ) (s : State)
      → after s (calls_of buffer image (es ++ fs)) ≡ after (after s (calls_of buffer image es)) (calls_of buffer (last_image image es) fs)
  played_append es fs image s =
      ap (after s) (calls_append es fs image) ∙ after_append (calls_of buffer image es) (calls_of buffer (last_image image es) fs) s

pub stage_append : (g : Stage) (es fs : List Entry) → stage_after g (es ++ fs) ≡ stage_after (stage_after g es) fs
unfolding stage_after
stage_append g es fs =
    ap₂ (λ (s : State) (image : List ℕ). record { state = s; image = image }) (played_append buffer832 es fs g.image g.state) (image_append es fs g.image)

-- ---- a part, and then the rest

resume : (g : Stage) (a b : List ℕ) → replay_from g (a ++ b) ≡ joined (replay_from g a) (replay_from (replay_from g a).stage (drop (replay_from g a).at a ++ b))
unfolding replay_from
resume g a b =
    let p = parse a in
    let q = parse (drop p.at a ++ b) in
    ap (λ (r : Parsed). record { stage = stage_after g r.entries; count = length r.entries; at = r.at; why = r.why }) (parse_part a b)
    ∙ ap₂ (λ (h : Stage) (n : ℕ). record { stage = h; count = n; at = p.at + q.at; why = q.why }) (stage_append g p.entries q.entries) (length-append p.entries q.entries)

in_blocks : (bs : List (List ℕ)) (g : Stage) (rest : List ℕ) → play_blocks g rest bs ≡ replay_from g (rest ++ flatten bs)
unfolding flatten
in_blocks [] g rest = ap (replay_from g) (sym (append-nil rest))
in_blocks (b ∷ bs) g rest =
    let x = replay_from g (rest ++ b) in
    ap (joined x) (in_blocks bs x.stage (drop x.at (rest ++ b))) ∙ sym (resume g (rest ++ b) (flatten bs)) ∙ ap (replay_from g) (append_assoc rest b (flatten bs))

-- ---- one record

module _ (g : Stage) (l : List ℕ) (e : Entry) (q : found l ≡ entry e) where
  abbrev n : ℕ
  n = length (printed e)

  rest : drop n l ≡ (stands l e q).rest
  rest = ap (drop n) (stands l e q).is ∙ drop-append_seam (printed e) (stands l e q).rest

  read : parse l ≡ more_of e (parse (drop n l))
  read =
      ap parse (stands l e q).is ∙ parse_next e (stands l e q).rest ((stands l e q).any (stands l e q).rest)
      ∙ ap (λ (m : List ℕ). more_of e (parse m)) (sym rest)

  first_then : replay_from g l ≡ joined (standing (stage_after g (e ∷ [])) 1 n) (replay_from (stage_after g (e ∷ [])) (drop n l))
  unfolding replay_from
  first_then =
      let p = parse (drop n l) in
      let c : suc (length p.entries) ≡ 1 + length p.entries = omega arith in
      ap (λ (r : Parsed). record { stage = stage_after g r.entries; count = length r.entries; at = r.at; why = r.why }) read
      ∙ ap₂ (λ (h : Stage) (k : ℕ). record { stage = h; count = k; at = n + p.at; why = p.why }) (stage_append g (e ∷ []) p.entries) c

  by_steps : let x = step_of g (found l) in replay_from g l ≡ joined (standing x.stage 1 x.size) (replay_from x.stage (drop x.size l))
  unfolding step_of done_by
  by_steps =
      subst
      (λ (x : Found). replay_from g l ≡ joined (standing (step_of g x).stage 1 (step_of g x).size) (replay_from (step_of g x).stage (drop (step_of g x).size l)))
      (sym q)
      (first_then ∙ ap (λ (k : ℕ). joined (standing (stage_after g (e ∷ [])) 1 k) (replay_from (stage_after g (e ∷ [])) (drop k l))) (stands l e q).size)

same_number_lem : (g : Stage) (e : Entry) (c : Call) → call_of buffer832 g.image e ≡ c ∷ [] → (step_of g (entry e)).number ≡ (perform g.state c).outcome.number
unfolding step_of done_by
same_number_lem g e c q = ap (first_number g.state) q

passes : (l : List ℕ) (at : ℕ) (e : Entry) → found (drop at l) ≡ entry e → (passed_at l at).at ≡ at + length (printed e)
unfolding passed_at
passes l at e q =
    ap (λ (x : Found). at + size_by (seen x)) q ∙ ap (λ (n : ℕ). at + n) (sym (stands (drop at l) e q).size)

stays : (l : List ℕ) (at why : ℕ) → found (drop at l) ≡ ends why → (passed_at l at).at ≡ at
unfolding passed_at
stays l at why q = ap (λ (x : Found). at + size_by (seen x)) q ∙ add-zero at

from_place : (g : Stage) (a b : List ℕ) → continued (standing g 0 (length a)) (a ++ b) ≡ joined (standing g 0 (length a)) (replay_from g b)
unfolding continued
from_place g a b = ap (λ (l : List ℕ). joined (standing g 0 (length a)) (replay_from g l)) (drop-append_seam a b)

-- ---- any buffer

any_buffer : (buffer buffer' : List ℕ) → length buffer ≡ length buffer' → (es : List Entry) (s : State) (image : List ℕ)
    → after s (calls_of buffer image es) ≡ after s (calls_of buffer' image es)
any_buffer buffer buffer' n [] s image = refl
any_buffer buffer buffer' n (serial b ∷ es) s image =
    ap (λ (k : ℕ). after (byte_of s b image k).state (calls_of buffer image es)) n ∙ any_buffer buffer buffer' n es (byte_of s b image (length buffer')).state image
any_buffer buffer buffer' n (safety flags ∷ es) s image = any_buffer buffer buffer' n es _ image
any_buffer buffer buffer' n (ticked ∷ es) s image =
    ap (λ (u : State). after u (calls_of buffer image es)) (tick_keeps s image (length buffer)) ∙ any_buffer buffer buffer' n es s image
    ∙ sym (ap (λ (u : State). after u (calls_of buffer' image es)) (tick_keeps s image (length buffer')))
any_buffer buffer buffer' n (song_ended ∷ es) s image = any_buffer buffer buffer' n es _ image
any_buffer buffer buffer' n (sensed next ∷ es) s image = any_buffer buffer buffer' n es s next

-- ---- recorded calls

module _ (buffer image : List ℕ) where
  -- the record that bytes leave, one by one
  abbrev bytes_leave : State → List ℕ → State
  bytes_leave s bs = after s (map (λ b. byte b image buffer) bs)

  fed_leaves : (room : ℕ) (bs : List ℕ) (s : State) → (feed s bs image room).outcome.state ≡ bytes_leave s (take (feed s bs image room).read bs)
  fed_leaves room [] s = refl
  fed_leaves room (b ∷ bs) s = go (first_fed s b bs image room) (fed_leaves room bs u)
    where
      u : State
      u = (byte_of s b image room).state

      P : Performed → Type 0
      P x = x.outcome.state ≡ bytes_leave s (take x.read (b ∷ bs))

      same : (byte_of s b image (length buffer)).state ≡ u
      same = byte_any image image (length buffer) room s b

      go : Fed s b bs image room → (feed u bs image room).outcome.state ≡ bytes_leave u (take (feed u bs image room).read bs) → P (feed s (b ∷ bs) image room)
      go (none e f r) i = subst P (sym f) refl
      go (more t n f r) i =
          let k = (feed u bs image room).read in
          let z : 1 + k ≡ suc k = omega arith in
          subst P (sym f)
          (i ∙ sym (ap (λ (x : State). bytes_leave x (take k bs)) same) ∙ sym (ap (λ (j : ℕ). bytes_leave s (take j (b ∷ bs))) z))
      go (last t f r) i = subst P (sym f) (sym same)

  run_leaves : (room : ℕ) (bs : List ℕ) (s : State) → (run_of s bs image room).outcome.state ≡ bytes_leave s (take (run_of s bs image room).read bs)
  run_leaves room bs s =
      run_is image room (λ (x : Performed). x.outcome.state ≡ bytes_leave s (take x.read bs)) s bs (λ e. refl) (λ t. fed_leaves room bs s)

report_flags : (d c g : Bool) → (flag (flags_of d c g) 1 ≡ d) × ((flag (flags_of d c g) 2 ≡ c) × (flag (flags_of d c g) 4 ≡ g))
report_flags true true true = (refl, (refl, refl))
report_flags true true false = (refl, (refl, refl))
report_flags true false true = (refl, (refl, refl))
report_flags true false false = (refl, (refl, refl))
report_flags false true true = (refl, (refl, refl))
report_flags false true false = (refl, (refl, refl))
report_flags false false true = (refl, (refl, refl))
report_flags false false false = (refl, (refl, refl))

-- ---- the same calls

module _ (buffer : List ℕ) where
  -- an image that is not told is the prior one
  unless_last_lem : (prior image : List ℕ) (es : List Entry) → calls_of buffer prior (unless_last prior image ++ es) ≡ calls_of buffer image es
  unless_last_lem prior image es =
      cond_is (λ (l : List Entry). calls_of buffer prior (l ++ es) ≡ calls_of buffer image es) (same_list prior image)
      (λ t. ap (λ (i : List ℕ). calls_of buffer i es) (same_list_lem prior image (to_T (same_list prior image) t))) (λ t. refl)

  image_told_lem : (prior : List ℕ) (c : Call) (es : List Entry) → calls_of buffer prior (image_told prior c ++ es) ≡ calls_of buffer (image_in prior c) es
  image_told_lem prior (byte b image lent) es = unless_last_lem prior image es
  image_told_lem prior (run bs image lent) es = unless_last_lem prior image es
  image_told_lem prior (report drop cliff charger) es = refl
  image_told_lem prior (tick image lent) es = unless_last_lem prior image es
  image_told_lem prior song_end es = refl

  serials : (image bs : List ℕ) → calls_of buffer image (map serial bs) ≡ map (λ b. byte b image buffer) bs
  serials image [] = refl
  serials image (b ∷ bs) = ap (λ (l : List Call). byte b image buffer ∷ l) (serials image bs)

  serials_image : (image bs : List ℕ) → last_image image (map serial bs) ≡ image
  serials_image image [] = refl
  serials_image image (b ∷ bs) = serials_image image bs

  -- what is told of a call is that call, by itself
  call_told_lem : (prior : List ℕ) (s : State) (c : Call) → calls_of buffer (image_in prior c) (call_told s c) ≡ call_alone buffer s c
  call_told_lem prior s (byte b image lent) = refl
  call_told_lem prior s (run bs image lent) = serials image (bytes_in s (run bs image lent))
  call_told_lem prior s (report drop cliff charger) =
      let f = report_flags drop cliff charger in
      rw (f.0, f.1.0, f.1.1) refl
  call_told_lem prior s (tick image lent) = refl
  call_told_lem prior s song_end = refl

  call_image : (prior : List ℕ) (s : State) (c : Call) → last_image (image_in prior c) (call_told s c) ≡ image_in prior c
  call_image prior s (byte b image lent) = refl
  call_image prior s (run bs image lent) = serials_image image (bytes_in s (run bs image lent))
  call_image prior s (report drop cliff charger) = refl
  call_image prior s (tick image lent) = refl
  call_image prior s song_end = refl

  same_calls : (cs : List Call) (prior : List ℕ) (s : State) → calls_of buffer prior (recorded prior s cs) ≡ alone buffer s cs
  same_calls [] prior s = refl
  same_calls (c ∷ cs) prior s =
      let image = image_in prior c in
      let rest = recorded image (perform s c).outcome.state cs in
      image_told_lem prior c (call_told s c ++ rest) ∙ calls_append buffer (call_told s c) rest image
      ∙ ap₂ (λ (l : List Call) (i : List ℕ). l ++ calls_of buffer i rest) (call_told_lem prior s c) (call_image prior s c)
      ∙ ap (λ (l : List Call). call_alone buffer s c ++ l) (same_calls cs image (perform s c).outcome.state)

-- ---- and what they leave

-- a call by itself leaves what the call left
call_leaves : (buffer : List ℕ) (s : State) (c : Call) → after s (call_alone buffer s c) ≡ (perform s c).outcome.state
call_leaves buffer s (byte b image lent) = byte_any image image (length buffer) (length lent) s b
call_leaves buffer s (run bs image lent) = sym (run_leaves buffer image (length lent) bs s)
call_leaves buffer s (report drop cliff charger) = refl
call_leaves buffer s (tick image lent) = tick_keeps s image (length buffer) ∙ sym (tick_keeps s image (length lent))
call_leaves buffer s song_end = refl

alone_leaves : (buffer : List ℕ) (cs : List Call) (s : State) → after s (alone buffer s cs) ≡ after s cs
alone_leaves buffer [] s = refl
alone_leaves buffer (c ∷ cs) s =
    let u = (perform s c).outcome.state in
    after_append (call_alone buffer s c) (alone buffer u cs) s
    ∙ ap (λ (x : State). after x (alone buffer u cs)) (call_leaves buffer s c) ∙ alone_leaves buffer cs u

-- ---- what is recorded is legal

serials_legal : (bs : List ℕ) → T (all_bytes bs) → T (all legal_entry (map serial bs))
serials_legal [] t = tt
serials_legal (b ∷ bs) t =
    let a = and_yes (is_byte b) (all_bytes bs) t in
    yes_and (is_byte b) (all legal_entry (map serial bs)) a.0 (serials_legal bs a.1)

flags_legal : (d c g : Bool) → T (all legal_entry (safety (flags_of d c g) ∷ []))
flags_legal true true true = tt
flags_legal true true false = tt
flags_legal true false true = tt
flags_legal true false false = tt
flags_legal false true true = tt
flags_legal false true false = tt
flags_legal false false true = tt
flags_legal false false false = tt

call_legal : (s : State) (c : Call) → T (recordable c) → T (all legal_entry (call_told s c))
call_legal s (byte b image lent) t = yes_and (is_byte b) true (and_yes (byte_array 40 image) (is_byte b) t).1 tt
call_legal s (run bs image lent) t =
    let n = (run_of s bs image (length lent)).read in
    serials_legal (take n bs) (all_take is_byte n bs (and_yes (byte_array 40 image) (all_bytes bs) t).1)
call_legal s (report drop cliff charger) t = flags_legal drop cliff charger
call_legal s (tick image lent) t = tt
call_legal s song_end t = tt

-- an image that is told is the call's own
unless_legal : (prior image : List ℕ) → T (byte_array 40 image) → T (all legal_entry (unless_last prior image))
unless_legal prior image t =
    cond_is (λ (l : List Entry). T (all legal_entry l)) (same_list prior image) (λ _. tt) (λ _. yes_and (byte_array 40 image) true t tt)

image_legal : (prior : List ℕ) (c : Call) → T (recordable c) → T (all legal_entry (image_told prior c))
image_legal prior (byte b image lent) t = unless_legal prior image (and_yes (byte_array 40 image) (is_byte b) t).0
image_legal prior (run bs image lent) t = unless_legal prior image (and_yes (byte_array 40 image) (all_bytes bs) t).0
image_legal prior (report drop cliff charger) t = tt
image_legal prior (tick image lent) t = unless_legal prior image t
image_legal prior song_end t = tt

recorded_legal : (cs : List Call) (prior : List ℕ) (s : State) → T (all recordable cs) → T (all legal_entry (recorded prior s cs))
recorded_legal [] prior s t = tt
recorded_legal (c ∷ cs) prior s t =
    let a = and_yes (recordable c) (all recordable cs) t in
    let image = image_in prior c in
    let rest = recorded image (perform s c).outcome.state cs in
    all_append legal_entry (image_told prior c) (call_told s c ++ rest) (image_legal prior c a.0)
    (all_append legal_entry (call_told s c) rest (call_legal s c a.0) (recorded_legal cs image (perform s c).outcome.state a.1))

complete : (cs : List Call) → T (all recordable cs) → (replay_of (print (recorded no_image power_on cs))).stage.state ≡ after power_on cs
unfolding replay_of replay_from stage_after
complete cs t =
    ap (λ (p : Parsed). after power_on (calls_of buffer832 no_image p.entries))
    (recordings_right.read_back (recorded no_image power_on cs) (recorded_legal cs no_image power_on t))
    ∙ ap (after power_on) (same_calls buffer832 cs no_image power_on) ∙ alone_leaves buffer832 cs power_on

complete_whole : (cs : List Call) → T (all recordable cs) → (replay_of (print (recorded no_image power_on cs))).why ≡ whole
unfolding replay_of replay_from
complete_whole cs t =
    ap (λ (p : Parsed). p.why) (recordings_right.read_back (recorded no_image power_on cs) (recorded_legal cs no_image power_on t))

all_recordable : (c : Call) → T (byte_array 40 (image_in no_image c)) → T (all_bytes (bytes_of c)) → T (recordable c)
all_recordable (byte b image buffer) t u = yes_and (byte_array 40 image) (is_byte b) t (and_yes (is_byte b) true u).0
all_recordable (run bs image buffer) t u = yes_and (byte_array 40 image) (all_bytes bs) t u
all_recordable (report drop cliff charger) t u = tt
all_recordable (tick image buffer) t u = t
all_recordable song_end t u = tt

pub replay_right : ReplayRight
replay_right =
    record {
      any_buffer = λ s image buffer es n. any_buffer buffer buffer832 n es s image;
      by_steps = by_steps;
      same_number_lem = same_number_lem;
      passes = passes;
      stays = stays;
      from_place = from_place;
      resume = resume;
      blocks = λ g bs. in_blocks bs g [];
      same_calls = λ buffer prior s cs. same_calls buffer cs prior s;
      complete_whole = complete_whole;
      complete = complete;
      all_recordable = all_recordable;
    }
