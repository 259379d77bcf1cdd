-- Laws of a playback that goes on.
-- Assumes nothing.
use mathlib.Core.Path.{◌≡◌, refl, sym, ap, ap₂, ◌∙◌}
use mathlib.Core.List.{List, [], ◌∷◌}
use Prim.Native.Nat.{ℕ, suc, ◌+◌}
use native.Mathlib.Nat.{add-zero, zero-add}
use native.Mathlib.Omega.{arith}
use lib.ListN.{length, drop}
use lib.Seq.{drop-drop, drop-append_seam}
use Rattle.state.specs.declared.State.{State}
use Rattle.std.specs.Prelude.{Result, Ok, Err}
use Rattle.std.specs.Result.{result_err}
use Rattle.wire.specs.Replies.{told}
use Rattle.wire.specs.declared.Refusal.{Refusal}
use Rattle.board.specs.Outcome.{Outcome, Told, told_answer, answered}
use Rattle.board.specs.Calls.{byte_of, report_of, tick_of, song_end_of}
use Rattle.board.specs.declared.Answer.{Answer}
use Rattle.recording.specs.Recordings.{Entry, serial, safety, ticked, song_ended, sensed, printed, entry, ends, found, Parsed, more, parse}
use Rattle.recording.specs.Playback.{flag, stage_after, replay_from, joined, continued, standing, ToldDone, done_by, ToldPlay, refused_number}
use Rattle.recording.specs.declared.Stage.{Stage}
use Rattle.recording.proofs.FoundLaws.{stands, Entered}
use Rattle.recording.proofs.ParseLaws.{parse_ends, parse_next}
use Rattle.recording.proofs.ReplayProved.{stage_append}

-- ---- an entry performed

abbrev pub with_state : Stage → State → Stage
with_state g s = record { state = s; image = g.image }

abbrev pub done_as : Stage → ℕ → State → ToldDone
done_as g n s = record { number = n; stage = with_state g s }

abbrev pub done_from : Stage → Told → ToldDone
done_from g t = done_as g t.number t.state

abbrev pub done_of : Stage → Outcome → ToldDone
done_of g o = done_as g o.number o.state

err_number : (r : Result ℕ Refusal) → refused_number (result_err r) ≡ (told r).number
err_number (Ok n) = refl
err_number (Err r) = refl

-- the call that an entry stands for gave this back
module _ (g : Stage) (a : Answer) where
  abbrev pub gave : ToldDone
  gave = done_as g (refused_number (result_err a.sent)) a.state

  gave_is : (o : Outcome) → told_answer a ≡ answered o → gave ≡ done_of g o
  unfolding answered
  gave_is o e = ap (λ (n : ℕ). done_as g n a.state) (err_number a.sent) ∙ ap (done_from g) e

  pub by_serial : (b : ℕ) (buffer : List ℕ) → length buffer ≡ 832 → told_answer a ≡ answered (byte_of g.state b g.image (length buffer))
      → gave ≡ done_by g (entry (serial b))
  unfolding done_by stage_after
  by_serial b buffer n e = gave_is _ e ∙ ap (λ (k : ℕ). done_of g (byte_of g.state b g.image k)) n

  pub by_report : (f : ℕ) → told_answer a ≡ answered (report_of g.state (flag f 1) (flag f 2) (flag f 4)) → gave ≡ done_by g (entry (safety f))
  unfolding done_by stage_after
  by_report f e = gave_is _ e

  pub by_tick : (buffer : List ℕ) → length buffer ≡ 832 → told_answer a ≡ answered (tick_of g.state g.image (length buffer)) → gave ≡ done_by g (entry ticked)
  unfolding done_by stage_after
  by_tick buffer n e = gave_is _ e ∙ ap (λ (k : ℕ). done_of g (tick_of g.state g.image k)) n

  pub by_song_end : told_answer a ≡ answered (song_end_of g.state) → gave ≡ done_by g (entry song_ended)
  unfolding done_by stage_after
  by_song_end e = gave_is _ e

-- an image is kept
pub by_image : (g : Stage) (image : List ℕ) → record { number = 0; stage = record { state = g.state; image = image } } ≡ done_by g (entry (sensed image))
unfolding done_by stage_after
by_image g image = refl

-- ---- on from a place

module _ (g : Stage) (count at : ℕ) (l : List ℕ) where
  abbrev played_as : Parsed → ToldPlay
  played_as p = joined (standing g count at) (record { stage = stage_after g p.entries; count = length p.entries; at = p.at; why = p.why })

  as_played : continued (standing g count at) l ≡ played_as (parse (drop at l))
  unfolding continued replay_from
  as_played = refl

  pub going_ends : (why : ℕ) → found (drop at l) ≡ ends why → continued (standing g count at) l ≡ record { stage = g; count = count; at = at; why = why }
  unfolding stage_after
  going_ends why q =
      as_played ∙ ap played_as (parse_ends (drop at l) why q)
      ∙ ap₂ (λ (n k : ℕ). record { stage = g; count = n; at = k; why = why }) (add-zero count) (add-zero at)

  pub going_on : (e : Entry) → found (drop at l) ≡ entry e
      → continued (standing g count at) l ≡ continued (standing (stage_after g (e ∷ [])) (count + 1) (at + length (printed e))) l
  unfolding continued replay_from
  going_on e q =
      let t = stands (drop at l) e q in
      let n = length (printed e) in
      let rest : t.rest ≡ drop (at + n) l =
      sym (drop-append_seam (printed e) t.rest) ∙ sym (ap (drop n) t.is) ∙ drop-drop n at l in
      let p = parse (drop (at + n) l) in
      let c : count + suc (length p.entries) ≡ count + 1 + length p.entries = omega arith in
      let k : at + (n + p.at) ≡ at + n + p.at = omega arith in
      ap (λ (m : List ℕ). played_as (parse m)) t.is ∙ ap played_as (parse_next e t.rest (t.any t.rest) ∙ ap (λ (m : List ℕ). more e (parse m)) rest)
      ∙ ap (λ (h : Stage). record { stage = h; count = count + suc (length p.entries); at = at + (n + p.at); why = p.why }) (stage_append g (e ∷ []) p.entries)
      ∙ ap₂ (λ (i j : ℕ). record { stage = stage_after (stage_after g (e ∷ [])) p.entries; count = i; at = j; why = p.why }) c k

  -- one turn of the loop
  pub going_turn : (x : Entered l at) {d : ToldDone} {n : ℕ} → d ≡ done_by g (found (drop at l)) → n ≡ length (printed x.e)
      → continued (standing g count at) l ≡ continued (standing d.stage (count + 1) (at + n)) l
  unfolding done_by
  going_turn x p q =
      going_on x.e x.is
      ∙ ap₂ (λ (d : ToldDone) (m : ℕ). continued (standing d.stage (count + 1) (at + m)) l) (sym (p ∙ ap (done_by g) x.is)) (sym q)

-- from a recording's start
pub from_start : (g : Stage) (l : List ℕ) → continued (standing g 0 0) l ≡ replay_from g l
unfolding continued
from_start g l =
    let r = replay_from g l in
    ap₂ (λ (n k : ℕ). record { stage = r.stage; count = n; at = k; why = r.why }) (zero-add r.count) (zero-add r.at)
