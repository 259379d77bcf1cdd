-- `recording::perform` meets its contract: each arm is its entry's call.
-- Assumes nothing.
use Rattle.std.proofs.Common.{◌≡◌, ◌∙◌, sym, ap}
use Rattle.std.specs.Prelude.{Option}
use Rattle.wire.specs.declared.Refusal.{Refusal}
use Rattle.recording.specs.Recordings.{entry}
use Rattle.recording.specs.Playback.{refused_number, done_by, entry_of}
use Rattle.recording.specs.declared.Record.{Record}
use Rattle.recording.proofs.GoingLaws.{with_state, gave, by_serial, by_report, by_tick, by_song_end, by_image}
use Rattle.recording.proofs.perform.Goals as goal
use Rattle.recording.proofs.perform.Goals.{in-Serial, in-Report, in-Tick, in-SongEnd}

pub returns-in-Image : goal.returns-in-Image
returns-in-Image c =
    let g = c.args.stage in
    by_image g c.in-Image.image ∙ ap (λ (r : Record). done_by g (entry (entry_of r))) (sym c.in-Image.is)

pub returns : goal.returns
returns c =
    let g = c.args.stage in
    let d = c.args.buffer.now in
    let a = c.match-what.answer in
    let by : gave g a ≡ done_by g (entry (entry_of c.args.what)) =
    elim c.match-what.branch [
      | in-Serial w ↦ ap (gave g) w.answer-is ∙ by_serial g w.byte-answer.result w.in-Serial.b d c.requires w.byte-answer.ensures.0
          ∙ ap (λ (r : Record). done_by g (entry (entry_of r))) (sym w.in-Serial.is)
      | in-Report w ↦ ap (gave g) w.answer-is ∙ by_report g w.safety_report-answer.result w.in-Report.flags w.safety_report-answer.ensures
          ∙ ap (λ (r : Record). done_by g (entry (entry_of r))) (sym w.in-Report.is)
      | in-Tick w ↦ ap (gave g) w.answer-is ∙ by_tick g w.tick-answer.result d c.requires w.tick-answer.ensures.0
          ∙ ap (λ (r : Record). done_by g (entry (entry_of r))) (sym w.in-Tick.is)
      | in-SongEnd w ↦ ap (gave g) w.answer-is ∙ by_song_end g w.song_end-answer.result w.song_end-answer.ensures
          ∙ ap (λ (r : Record). done_by g (entry (entry_of r))) (sym w.in-SongEnd.is)
    ] in
    ap (λ (o : Option Refusal). record { number = refused_number o; stage = with_state g a.state }) c.err.ensures.value ∙ by
