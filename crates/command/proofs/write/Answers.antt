use Rattle.std.proofs.Common.{refl, arith}
use Rattle.wire.proofs.RepliesLaws.{replied_4, replied_7, replied_0}
use Rattle.command.specs.Layout.{encode_of}
use Rattle.command.proofs.LayoutLaws.{written, written_length}
use Rattle.command.proofs.write.Goals as goal

pub returns-then-not-legal : goal.returns-then-not-legal
returns-then-not-legal c = replied_4 (encode_of c.args.message) c.args.buffer.now refl (cc)

pub returns-then-head-used : goal.returns-then-head-used
returns-then-head-used c =
    let size = written_length c.args.message c.from-head.ensures c.used-used.ensures in
    replied_7 (encode_of c.args.message) c.args.buffer.now refl (cc) (omega arith)

pub returns : goal.returns
returns c =
    let size = written_length c.args.message c.from-head.ensures c.used-used.ensures in
    replied_0 (encode_of c.args.message) c.args.buffer.now (cc) (omega arith)
    (written c.args.message c.from-head.ensures c.used-used.ensures (omega arith) c.put-next.ensures c.put.ensures)
