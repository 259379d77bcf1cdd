use Rattle.std.proofs.Common.{◌≡◌, ◌∙◌, ◌-◌, length, take, drop, refl, sym, ap}
use mathlib.Core.Bool.{and-true}
use lib.ListN.{drop_of_length-le}
use Rattle.wire.specs.Lists.{is_zero, all_zero}
use Rattle.wire.proofs.ListsLaws.{zeros_next, part_from}
use Rattle.wire.proofs.clear_from.Goals as goal

pub loop-b-init : goal.loop-b-init
loop-b-init c = refl

pub loop-b-preserved : goal.loop-b-preserved
loop-b-preserved c =
    let rest = take (length c.args.bytes.now - c.min.result) (drop c.min.result c.args.bytes.now) in
    c.loop-b.invariant ∙ zeros_next rest c.loop-b.b-index c.loop-b.left c.loop-b-test.true

pub returns : goal.returns
returns c =
    let rest = take (length c.args.bytes.now - c.min.result) (drop c.min.result c.args.bytes.now) in
    let seen : all_zero rest ≡ is_zero c.loop-b.left =
    c.loop-b.invariant ∙ rw (drop_of_length-le rest c.loop-b-test.false) (and-true (is_zero c.loop-b.left)) in
    let all_of_it : rest ≡ drop c.args.from c.args.bytes.now =
    rw c.min.ensures (part_from c.args.bytes.now c.args.from) in
    sym (ap all_zero (sym all_of_it) ∙ seen)
