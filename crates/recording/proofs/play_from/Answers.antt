-- `recording::play_from` meets its contract.
-- Assumes nothing.
use Rattle.std.proofs.Common.{◌≡◌, ◌∙◌, sym, ap, length, Fits, w64, arith}
use borrow.Author.Rules.{rules}
use Rattle.recording.specs.Recordings.{Found, printed}
use Rattle.recording.specs.Playback.{seen, size_by, done_by, why_of, entry_of}
use Rattle.recording.proofs.FoundLaws.{entered}
use Rattle.recording.proofs.GoingLaws.{going_ends, going_turn}
use Rattle.recording.proofs.play_from.Goals as goal

pub overflow_add-count : goal.overflow_add-count
overflow_add-count c =
    let x = entered c.args.s.now c.loop-record.here (entry_of c.in-Ok.record) (sym c.in-Ok.ensures) in
    let l : Fits w64 (length c.args.s.now) = search rules in
    omega (arith, c.loop-record.invariant, x.inside, l)

pub overflow_add-here : goal.overflow_add-here
overflow_add-here c =
    let x = entered c.args.s.now c.loop-record.here (entry_of c.in-Ok.record) (sym c.in-Ok.ensures) in
    let e = ap (λ (f : Found). size_by (seen f)) c.in-Ok.ensures in
    let l : Fits w64 (length c.args.s.now) = search rules in
    omega (arith, x.inside, x.size, e, c.size-here.ensures, l)

pub loop-record-smaller : goal.loop-record-smaller
loop-record-smaller c =
    let x = entered c.args.s.now c.loop-record.here (entry_of c.in-Ok.record) (sym c.in-Ok.ensures) in
    let e = ap (λ (f : Found). size_by (seen f)) c.in-Ok.ensures in
    omega (arith, x.inside, x.size, e, c.size-here.ensures)

pub loop-record-preserved : goal.loop-record-preserved
loop-record-preserved c =
    let s = c.args.s.now in
    let here = c.loop-record.here in
    let i = c.loop-record.invariant in
    let x = entered s here (entry_of c.in-Ok.record) (sym c.in-Ok.ensures) in
    let size : c.size-here.result ≡ length (printed x.e) = c.size-here.ensures ∙ ap (λ (f : Found). size_by (seen f)) c.in-Ok.ensures ∙ sym x.size in
    (c.perform.auto.buffer ∙ i.0, (omega (arith, i, x.inside, size), i.1.1 ∙ going_turn c.loop-record.now c.loop-record.count here s x (c.perform.ensures ∙ ap (done_by c.loop-record.now) c.in-Ok.ensures) size))

pub returns : goal.returns
returns c =
    sym (c.loop-record.invariant.1.1
    ∙ going_ends c.loop-record.now c.loop-record.count c.loop-record.here c.args.s.now (why_of c.in-Err.why) (sym c.in-Err.ensures))
