use Rattle.std.proofs.Common.{◌≡◌, ◌∙◌, ℕ, ◌-◌, not, List, length, length-drop, take, drop, refl, sym, ap, arith}
use Rattle.std.specs.List.{prefix_len}
use Rattle.wire.specs.Buffer.{placed}
use Rattle.wire.proofs.ListsLaws.{part_from}
use Rattle.wire.proofs.BufferLaws.{placed_nil}
use Rattle.line.specs.Text.{is_newline, part_size, fitting, part_of}
use Rattle.line.proofs.TextLaws.{ended, unended}
use Rattle.line.proofs.gather.Goals.{then-fits-gt0, else-fits-gt0, then-part-rest, else-part-rest}
use Rattle.line.proofs.gather.Goals as goal

pub returns : goal.returns
returns c =
    let block = c.args.block.now in
    let room = length c.args.line.now in
    let rest : take (length block - c.min.result) (drop c.min.result block) ≡ drop c.args.from block = rw c.min.ensures (part_from block c.args.from) in
    let part : c.line_size-part.result ≡ part_size block c.args.from = c.line_size-part.ensures.value ∙ ap (prefix_len (λ b. not (is_newline b))) rest in
    let fits : c.min-fits.result ≡ fitting (part_size block c.args.from) c.args.size room = rw (c.min-fits.ensures, c.saturating_sub.ensures, part) refl in
    let bytes : take c.min-fits.result (take (length block - c.min.result) (drop c.min.result block)) ≡ part_of block c.args.from c.args.size room = rw (rest, fits) refl in
    let length_rest : length (take (length block - c.min.result) (drop c.min.result block)) ≡ length (drop c.args.from block) = ap length rest in
    record {
      came = elim c.if-part-rest.branch [
        | then-part-rest w ↦ rw (w.next-is, fits, part) (ended block c.args.from c.args.size room (omega (arith, part, length_rest, w.if-part-rest.true)))
        | else-part-rest w ↦ rw (w.next-is, fits, part) (unended block c.args.from c.args.size room (omega (arith, part, length_rest, w.if-part-rest.false)))
      ];
      bytes = elim c.if-fits-gt0.branch [
        | then-fits-gt0 w ↦ w.line-is ∙ w.put.ensures.bytes ∙ ap (λ (a : List ℕ). placed a c.args.size c.args.line.now) bytes
        | else-fits-gt0 w ↦ (
            let none : fitting (part_size block c.args.from) c.args.size room ≡ 0 = omega (arith, fits, w.if-fits-gt0.false) in
            w.line-is ∙ sym (rw none (placed_nil c.args.size c.args.line.now))
            )
      ];
      same_length = c.if-fits-gt0.auto.line;
      within_line = λ h. omega (arith, c.min-fits.ensures, c.saturating_sub.ensures);
      behind = elim c.if-part-rest.branch [
        | then-part-rest w ↦ rw w.next-is (omega arith, omega (arith, length_rest, length-drop c.args.from block, w.if-part-rest.true))
        | else-part-rest w ↦ rw w.next-is tt
      ];
    }
