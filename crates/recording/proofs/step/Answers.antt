-- `recording::step` meets its contract.
-- Assumes nothing.
use Rattle.std.proofs.Common.{◌∙◌, ap, Err}
use Rattle.std.proofs.lemmas.Result.{err_from_is_err_and}
use Rattle.recording.specs.Recordings.{entry}
use Rattle.recording.specs.Playback.{seen, size_by, ToldDone, done_by, step_of, entry_of, told_step}
use Rattle.recording.specs.declared.End.{End}
use Rattle.recording.proofs.step.Goals as goal

pub returns-in_err-record-clause-done : goal.returns-in_err-record-clause-done
unfolding step_of done_by
returns-in_err-record-clause-done c =
    let p = err_from_is_err_and c.from_residual.result c.from_residual.ensures.1 in
    ap (told_step c.args.stage) (p.1 ∙ ap (λ (e : End). Err e) p.2) ∙ ap (step_of c.args.stage) c.in_err-record.ensures

pub returns-clause-done : goal.returns-clause-done
unfolding step_of
returns-clause-done c =
    let w = seen (entry (entry_of c.in_ok-record.record)) in
    ap (λ (d : ToldDone). record { what = w; size = size_by w; number = d.number; stage = d.stage }) c.perform-done.ensures
    ∙ ap (step_of c.args.stage) c.in_ok-record.ensures
