use Rattle.std.proofs.Common.{◌≡◌, ◌+◌, not, drop, arith, rules}
use Rattle.std.proofs.lemmas.Grind.{common_steps}
use Rattle.std.proofs.lemmas.List.{take_rest}
use Rattle.std.specs.List.{prefix_len}
use Rattle.line.specs.Text.{is_blank}
use Rattle.line.proofs.TextLaws.{no_word}
use Rattle.line.proofs.next_word.Goals as goal

pub returns-then-is_empty : goal.returns-then-is_empty
returns-then-is_empty c =
    let none : c.word_size.result ≡ 0 = grind (arith, common_steps) in
    let rest : c.in_ok-rest.rest.now ≡ drop c.args.from c.args.text.now = search (rules, take_rest) in
    let blanks : c.blanks.result ≡ prefix_len is_blank (drop c.args.from c.args.text.now) = rw (← rest) c.blanks.ensures.value in
    let run : c.word_size.result ≡ prefix_len (λ b. not (is_blank b)) (drop (c.args.from + c.blanks.result) c.args.text.now) = rw (← take_rest c.args.text.now (c.args.from + c.blanks.result)) c.word_size.ensures.value in
    no_word c.args.text.now c.args.from c.in_ok-rest.ensures.lookup.0.0 (rw (← blanks, ← run) none)
