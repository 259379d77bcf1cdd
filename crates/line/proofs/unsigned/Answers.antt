use Rattle.std.proofs.Common.{◌≡◌, ◌∙◌, sym, arith}
use Rattle.std.proofs.lemmas.Grind.{common_steps}
use Rattle.line.specs.Text.{numeral_of, unsigned_of}
use Rattle.line.proofs.unsigned.Goals.{in_default-via-then-word-lt2, in_default-via-else-word-lt2+in-48+in_default-1, in_default-via-else-word-lt2+in_default-1}
use Rattle.line.proofs.unsigned.Goals as goal

pub returns-in_default : goal.returns-in_default
returns-in_default c =
    let decimal : unsigned_of c.args.word.now ≡ numeral_of 10 c.args.word.now = elim c.in_default.branch [
      | in_default-via-then-word-lt2 w ↦ grind (arith, common_steps)
      | in_default-via-else-word-lt2+in-48+in_default-1 w ↦ grind (arith, common_steps)
      | in_default-via-else-word-lt2+in_default-1 w ↦ grind (arith, common_steps)
    ] in
    (c.numeral-in_default.ensures ∙ sym decimal, grind (arith, common_steps))
