-- The theorems of specs/Cut.antt.
-- Assumes nothing.
use mathlib.Core.Path.{◌≡◌, refl, ap, ◌∙◌}
use mathlib.Core.Bool.{true, Bool}
use mathlib.Core.List.{List, ◌∷◌}
use mathlib.Core.Logic.{⊎_elim}
use Prim.Native.Nat.{ℕ, ◌≤◌, ◌<◌}
use native.Mathlib.Omega.{arith}
use lib.Dec.{T, ltb, lt→ltb, eqb, eqb→eq}
use lib.ListN.{length}
use mir.Facts.{yes_and, and_yes}
use borrow.Author.Tests.{le-leb}
use Rattle.wire.proofs.BoolLaws.{to_T, le_or_lt}
use Rattle.frame.specs.FrameTable.{data_length}
use Rattle.frame.specs.Push.{body_size_as, next_of, empty_partial, after_of, begins_frame}
use Rattle.frame.specs.Reach.{reachable_of}
use Rattle.frame.specs.RunTable.{until_opcode}
use Rattle.frame.specs.Cut.{ReachableExact, RunTableRight, CutInNumbers, CutByTable, EveryPush, StoredAsSent, CompleteExactly, long_song, RemainingNeeded}
use Rattle.frame.proofs.PushLaws.{not_opcodes, still_remain, last_ends, opcodes_append, after_append, stays_array, full_stays, complete_done, finishes, finishes_rest}
use Rattle.frame.proofs.ReachLaws.{skipping, of_facts, places_le, empty_reachable, next_reachable, after_reachable}
use Rattle.frame.proofs.StoredLaws.{partial_as_sent, complete_as_sent, sized_completes, completes_sized}
use Rattle.frame.proofs.Reached.{reachable_left, only_song}
use Rattle.frame.proofs.RunTableLaws.{rows_run, steps, opcode_at, remaining_le, until_opcode_le}

pub cut_in_numbers : CutInNumbers
unfolding data_length body_size_as next_of
cut_in_numbers = record { cases_right = tt; opcodes_right = tt; counts_right = tt }

pub cut_by_table : CutByTable
cut_by_table =
    record {
      data_not_opcodes = λ op ds e. ap (λ (l : List Bool). true ∷ l) (finishes op ds e).not_opcode;
      then_empty = λ op ds e. (finishes op ds e).empty_after;
      rest_not_opcodes = λ bs ds h e. (finishes_rest bs ds h e).not_opcode;
      rest_then_empty = λ bs ds h e. (finishes_rest bs ds h e).empty_after;
      opcodes_append = opcodes_append;
      after_append = after_append;
    }

pub every_push : EveryPush
every_push = record { stays_array = stays_array; full_stays = full_stays; complete_done = complete_done }

pub stored_as_sent : StoredAsSent
stored_as_sent = record { partial_as_sent = partial_as_sent; complete_as_sent = complete_as_sent }

pub complete_exactly : CompleteExactly
complete_exactly = record { sized_completes = sized_completes; completes_sized = completes_sized }

pub reachable_exact : ReachableExact
reachable_exact =
    record {
      of_all = λ bs u. after_reachable bs empty_partial empty_reachable u;
      of_no_other = reachable_left;
      places_le = places_le;
    }

pub run_table_right : RunTableRight
run_table_right =
    record {
      rows_run = rows_run;
      stays_reachable = next_reachable;
      one_less = λ p t. (steps p t).1;
      completes = λ p t. (steps p t).0;
      opcode_at = opcode_at;
      remaining_le = remaining_le;
      enough = λ p t. opcode_at 511 510 p t (omega arith) ∙ le-leb (until_opcode p) 510 (until_opcode_le p t);
    }

song_reachable : (s k : ℕ) → s < 256 → 0 < k → k ≤ 510 → T (reachable_of (long_song s k))
unfolding data_length body_size_as
song_reachable s k a h r =
    of_facts (long_song s k) (record { long = refl; small = yes_and (ltb s 256) true (lt→ltb s 256 a) tt; clear = tt }) (skipping h r refl refl)

song_needs : (s k : ℕ) (bs : List ℕ) → 0 < k → begins_frame (after_of (long_song s k) bs) ≡ true → k ≤ length bs
song_needs s k bs h e =
    let q = after_of (long_song s k) bs in
    ⊎_elim (λ a. a) (λ (l : length bs < k).
    let r = still_remain (long_song s k) bs l in
    let z = eqb→eq q.remaining 0 (and_yes (eqb q.remaining 0) (eqb q.count 0) (to_T (begins_frame q) e)).0 in
    absurd (omega arith))
    (le_or_lt k (length bs))

pub remaining_needed : RemainingNeeded
remaining_needed =
    record {
      not_opcodes = not_opcodes;
      still_remain = still_remain;
      last_ends = last_ends;
      song_needs = song_needs;
      song_reachable = song_reachable;
      only_song = only_song;
    }
