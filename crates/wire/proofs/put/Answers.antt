use Rattle.std.proofs.Common.{ℕ, List, [], ◌∷◌, ◌++◌, ◌+◌, ◌<◌, length, get_or, drop, arith}
use lib.ListN.{set, drop_of_length-le}
use Rattle.wire.proofs.ListsLaws.{drop_next}
use Rattle.wire.proofs.BufferLaws.{Left, put_one, left_start, left_room, left_turn, left_end}
use Rattle.wire.proofs.put.Goals as goal

module _ {whole before buffer : List ℕ} {at end i : ℕ} (src : List ℕ) (h : i < length src) (left : Left whole at before (drop i src) buffer end) where
  -- what is left opens with the turn's byte
  opened : Left whole at before ((get_or src i 0 ∷ []) ++ drop (i + 1) src) buffer end
  opened = rw (drop_next src i h) at left

  room : end < length buffer
  room = let r = left_room (get_or src i 0 ∷ []) (drop (i + 1) src) opened in omega arith

  turn : Left whole at before (drop (i + 1) src) (set buffer end (get_or src i 0)) (end + 1)
  turn = left_turn opened (put_one (get_or src i 0) end buffer room)

pub loop-b-init : goal.loop-b-init
loop-b-init c = left_start c.requires

pub bounds-buffer-end : goal.bounds-buffer-end
bounds-buffer-end c = room c.args.src.now c.loop-b-test.true c.loop-b.invariant

pub loop-b-preserved : goal.loop-b-preserved
loop-b-preserved c = turn c.args.src.now c.loop-b-test.true c.loop-b.invariant

pub returns : goal.returns
returns c = left_end (rw (drop_of_length-le c.args.src.now c.loop-b-test.false) at c.loop-b.invariant)
