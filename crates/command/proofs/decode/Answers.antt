use Rattle.std.proofs.Common.{◌≡◌}
use Rattle.command.specs.Layout.{command_of}
use Rattle.command.proofs.LayoutLaws.{decoded}
use Rattle.command.proofs.decode.Goals as goal

pub returns : goal.returns
unfolding command_of
returns c =
    let e : c.from-command.result ≡ command_of c.args.bytes = c.from-command.ensures in
    decoded c.args.bytes e c.from-start.ensures c.payload_size-size.ensures c.put.ensures
