-- `recording::writers::put_record` meets its contract: no room, or the kind and then the body.
-- Assumes nothing.
use Rattle.std.proofs.Common.{refl, ◌∷◌, arith}
use Rattle.wire.proofs.BufferLaws.{put_one, put_then}
use Rattle.wire.proofs.RepliesLaws.{replied_7, replied_0}
use Rattle.recording.proofs.writers.put_record.Goals as goal

pub returns-then-buffer-body : goal.returns-then-buffer-body
returns-then-buffer-body c =
    replied_7 (c.args.kind ∷ c.args.body.now) c.args.buffer.now refl refl (let h = c.if-buffer-body.true in omega arith)

pub returns : goal.returns
returns c =
    let h = c.if-buffer-body.false in
    replied_0 (c.args.kind ∷ c.args.body.now) c.args.buffer.now refl (omega arith)
    (put_then (put_one c.args.kind 0 c.args.buffer.now (omega arith)) c.put.ensures (omega arith))
