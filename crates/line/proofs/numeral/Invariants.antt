-- What is left to read, and the number so far.
use Rattle.std.proofs.Common.{◌≡◌, ◌≤◌, drop}
use Rattle.line.specs.Text.{numeral_of}
use Rattle.line.proofs.TextLaws.{read_from}
use Rattle.line.proofs.numeral.Given as goal

abbrev pub invariant-loop-b : goal.invariant-loop-b
invariant-loop-b l = (l.value ≤ 65536) × (numeral_of l.base l.word ≡ read_from l.base l.value (drop l.b-index l.word))
