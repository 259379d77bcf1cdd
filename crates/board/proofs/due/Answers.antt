-- `board::due` meets its contract: each return in its case.
-- Assumes nothing.
use Rattle.std.proofs.Common.{◌≡◌, ◌∙◌, refl, sym, length, arith}
use mathlib.Core.Bool.{true, false}
use borrow.Author.Tests.{eq-eqb, ne_eqb}
use Rattle.wire.proofs.BoolLaws.{to_T}
use Rattle.state.specs.Accepted.{accepted_of}
use Rattle.state.proofs.RecordProved.{accepted_exactly}
use Rattle.board.specs.Calls.{streams, chunk_now}
use Rattle.board.proofs.OutcomeLaws.{sent_as_lem, sent_gives, sent_fitted}
use Rattle.board.proofs.CallsLaws.{tick_bad, tick_off, tick_silent, tick_chunk}
use Rattle.board.proofs.due.Goals as goal
use Rattle.board.proofs.due.Goals.{then-stream-ne-YES-via-then-stream-ne-YES, then-stream-ne-YES-via-else-stream-ne-YES+then-stream-eq0}

pub returns-then-not-accepts : goal.returns-then-not-accepts
returns-then-not-accepts c =
    sent_gives c.args.state.now c.args.buffer.now (tick_bad c.args.state.now c.args.image.now (length c.args.buffer.now) (sym c.accepts.ensures ∙ c.if-not-accepts.true))
    refl

pub returns-then-state-eq-OFF : goal.returns-then-state-eq-OFF
returns-then-state-eq-OFF c =
    sent_gives c.args.state.now c.args.buffer.now
    (tick_off c.args.state.now c.args.image.now (length c.args.buffer.now) (to_T (accepted_of c.args.state.now) (sym c.accepts.ensures ∙ c.if-not-accepts.false)) c.if-state-eq-OFF.true)
    refl

pub returns-then-stream-ne-YES : goal.returns-then-stream-ne-YES
returns-then-stream-ne-YES c =
    let s = c.args.state.now in
    let silent : streams s.stream ≡ false =
    elim c.then-stream-ne-YES.branch [
      | then-stream-ne-YES-via-then-stream-ne-YES w ↦ simp (ne_eqb s.stream.on 1 w.if-stream-ne-YES.true)
      | then-stream-ne-YES-via-else-stream-ne-YES+then-stream-eq0 w ↦ simp (eq-eqb s.stream.on 1 w.if-stream-ne-YES.false, w.if-stream-eq0.true)
    ] in
    sent_gives c.args.state.now c.args.buffer.now
    (tick_silent s c.args.image.now (length c.args.buffer.now) (to_T (accepted_of s) (sym c.accepts.ensures ∙ c.if-not-accepts.false)) c.if-state-eq-OFF.false silent)
    refl

pub shared_ref_as_front-ids : goal.shared_ref_as_front-ids
shared_ref_as_front-ids c =
    let s = c.args.state.now in
    let t = to_T (accepted_of s) (sym c.accepts.ensures ∙ c.if-not-accepts.false) in
    omega (arith, c.from.ensures, (accepted_exactly.accepted_facts s t).1.count_is)

pub returns : goal.returns
unfolding chunk_now
returns c =
    let s = c.args.state.now in
    let t = to_T (accepted_of s) (sym c.accepts.ensures ∙ c.if-not-accepts.false) in
    let streamed : streams s.stream ≡ true = simp (eq-eqb s.stream.on 1 c.if-stream-ne-YES.false, ne_eqb s.stream.count 0 c.if-stream-eq0.false) in
    sent_as_lem c.args.buffer.now
    (tick_chunk s c.args.image.now (length c.args.buffer.now) t c.if-state-eq-OFF.false streamed)
    (sent_fitted (chunk_now s c.args.image.now) c.args.buffer.now s (accepted_exactly.accepted_facts s t).1.list_is
    (rw (c.status_of.ensures, c.from.ensures) at c.chunk.ensures))
