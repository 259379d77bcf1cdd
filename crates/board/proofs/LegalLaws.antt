-- What legal data tell of the commands whose numbers are used as an index or a length.
-- Assumes nothing.
use mathlib.Core.Path.{◌≡◌, sym, ◌∙◌}
use mathlib.Core.Bool.{true}
use mathlib.Core.List.{List, [], ◌∷◌}
use Prim.Native.Nat.{ℕ, ◌≤◌, ◌<◌}
use native.Mathlib.Omega.{arith}
use lib.Dec.{T, leb}
use lib.ListN.{take}
use borrow.Author.Tests.{leb-true}
use Rattle.wire.proofs.BoolLaws.{both}
use Rattle.packet.specs.Answers.{listable_of}
use Rattle.command.specs.CommandTable.{is_in, is_legal, row_of, legal_of}
use Rattle.command.specs.Commands.{message}
use Rattle.command.specs.declared.Command.TheVariants as cmd
use Rattle.command.proofs.CommandTableLaws.{byte_legal, query_legal}

pub pause_on : (p : List ℕ) → T (legal_of (message (cmd.Pause 1) p))
unfolding is_in is_legal row_of legal_of
pause_on p = tt

module _ (n : ℕ) (p : List ℕ) where
  pub play_song : legal_of (message (cmd.Play n) p) ≡ true → n < 16
  unfolding legal_of row_of
  play_song e = let h = leb-true n 15 (byte_legal 15 n ∙ e) in omega arith

  pub sensors_listable : legal_of (message (cmd.Sensors n) p) ≡ true → listable_of (n ∷ []) ≡ true
  unfolding legal_of row_of listable_of
  sensors_listable e = simp (byte_legal 42 n ∙ e)

  pub query_short : legal_of (message (cmd.QueryList n) p) ≡ true → n ≤ 16
  query_short e = leb-true n 16 (both (leb n 16) (listable_of (take n p)) (sym (query_legal n p) ∙ e)).0

  pub query_listable : legal_of (message (cmd.QueryList n) p) ≡ true → listable_of (take n p) ≡ true
  query_listable e = (both (leb n 16) (listable_of (take n p)) (sym (query_legal n p) ∙ e)).1
