use Rattle.std.proofs.Common.{◌≡◌, ℕ, ◌<◌, ◌≤◌, T, get_or, sym, ◌∙◌, Fits, w8, rules, arith}
use lib.Dec.{leb}
use borrow.Author.Tests.{le-leb}
use Rattle.wire.specs.Lists.{all_bytes}
use Rattle.wire.proofs.BoolLaws.{to_T}
use Rattle.wire.proofs.ListsLaws.{bytes_true}
use Rattle.command.specs.CommandTable.{legal_of}
use Rattle.command.specs.declared.Command.TheVariants.{Song}
use Rattle.command.specs.declared.Message.{Message}
use Rattle.command.proofs.CommandTableLaws.{legal_as, song_is}
use Rattle.command.proofs.legal.Goals as goal

-- a song's length decides, after its number
song : (m : Message) {n notes : ℕ} → m.command ≡ Song n notes → T (all_bytes m.payload) → n ≤ 15 → 1 ≤ notes → leb notes 16 ≡ legal_of m
song m {n} {notes} e t h k = sym (song_is n notes m.payload t ∙ simp (le-leb n 15 h, le-leb 1 notes k)) ∙ legal_as m e

pub returns-then-notes-ge1 : goal.returns-then-notes-ge1
returns-then-notes-ge1 c =
    let l = c.args.message.payload in
    let bytes : (i : ℕ) → get_or l i 0 < 256 = λ i. (let f : Fits w8 (get_or l i 0) = search rules in omega arith) in
    song c.args.message c.in-Song.is (to_T (all_bytes l) (bytes_true l bytes)) c.if-notes-ge1.true.0 c.if-notes-ge1.true.1
