-- `recording::pass` meets its contract.
-- Assumes nothing.
use Rattle.std.proofs.Common.{◌∙◌, sym, ap, ℕ, ◌+◌, length, Err, Fits, w64, arith}
use Rattle.std.proofs.lemmas.Result.{err_from_is_err_and}
use native.Mathlib.Nat.{add-zero}
use borrow.Author.Rules.{rules}
use Rattle.recording.specs.Recordings.{Found, entry}
use Rattle.recording.specs.Playback.{seen, Ends, size_by, passed_at, why_of, entry_of, told_pass}
use Rattle.recording.specs.declared.End.{End}
use Rattle.recording.proofs.FoundLaws.{entered}
use Rattle.recording.proofs.pass.Goals as goal

pub returns-in_err-record-clause-place : goal.returns-in_err-record-clause-place
unfolding passed_at
returns-in_err-record-clause-place c =
    let at = c.args.at in
    let p = err_from_is_err_and c.from_residual.result c.from_residual.ensures.1 in
    ap (told_pass at) (p.1 ∙ ap (λ (e : End). Err e) p.2)
    ∙ ap (λ (n : ℕ). record { what = Ends (why_of c.in_err-record.field-0.0); at = n }) (sym (add-zero at))
    ∙ ap (λ (x : Found). record { what = seen x; at = at + size_by (seen x) }) c.in_err-record.ensures

pub overflow_add-result : goal.overflow_add-result
overflow_add-result c =
    let x = entered c.args.s.now c.args.at (entry_of c.in_ok-record.record) (sym c.in_ok-record.ensures) in
    let l : Fits w64 (length c.args.s.now) = search rules in
    let e = ap (λ (f : Found). size_by (seen f)) c.in_ok-record.ensures in
    omega (arith, x.inside, x.size, e, c.size.ensures, l)

pub returns-clause-place : goal.returns-clause-place
unfolding passed_at
returns-clause-place c =
    let at = c.args.at in
    let w = seen (entry (entry_of c.in_ok-record.record)) in
    ap (λ (n : ℕ). record { what = w; at = at + n }) c.size.ensures
    ∙ ap (λ (x : Found). record { what = seen x; at = at + size_by (seen x) }) c.in_ok-record.ensures
