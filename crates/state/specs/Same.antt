-- Whether two records are the same: what `same` gives back, and the test of the tables of cases.
-- Assumes nothing.
use Rattle.std.specs.Prelude.{◌≡◌, Bool, true, false, ◌&&◌, List, [], ◌∷◌, T, eqb, ℤ, pos, negsuc}
use Rattle.wire.specs.Lists.{same_list}
use Rattle.frame.specs.declared.Partial.{Partial}
use Rattle.state.specs.declared.Motors.{Motors}
use Rattle.state.specs.declared.Kept.{Kept}
use Rattle.state.specs.declared.Song.{Song}
use Rattle.state.specs.declared.Songs.{Songs}
use Rattle.state.specs.declared.Stream.{Stream}
use Rattle.state.specs.declared.State.{State}

abbrev pub same_number : ℤ → ℤ → Bool
same_number (pos a) (pos b) = eqb a b
same_number (pos a) (negsuc b) = false
same_number (negsuc a) (pos b) = false
same_number (negsuc a) (negsuc b) = eqb a b

abbrev pub same_motors : Motors → Motors → Bool
same_motors a b =
    eqb a.order b.order && (same_number a.first b.first && (same_number a.second b.second && same_list a.duties b.duties))

abbrev pub same_kept : Kept → Kept → Bool
same_kept a b = eqb a.baud b.baud && (same_list a.leds b.leds && (eqb a.outputs b.outputs && eqb a.ir b.ir))

abbrev pub same_song : Song → Song → Bool
same_song a b = eqb a.len b.len && same_list a.notes b.notes

abbrev pub same_table : List Song → List Song → Bool
same_table [] [] = true
same_table [] (y ∷ ys) = false
same_table (x ∷ xs) [] = false
same_table (x ∷ xs) (y ∷ ys) = same_song x y && same_table xs ys

abbrev pub same_songs : Songs → Songs → Bool
same_songs a b = same_table a.table b.table && (eqb a.selected b.selected && eqb a.playing b.playing)

abbrev pub same_stream : Stream → Stream → Bool
same_stream a b = same_list a.ids b.ids && (eqb a.count b.count && eqb a.on b.on)

abbrev pub same_partial : Partial → Partial → Bool
same_partial a b = same_list a.bytes b.bytes && (eqb a.count b.count && eqb a.remaining b.remaining)

abbrev pub same_state : State → State → Bool
same_state a b =
    eqb a.mode b.mode
    && (same_motors a.motors b.motors
    && (same_kept a.kept b.kept
    && (same_songs a.songs b.songs && (same_stream a.stream b.stream && same_partial a.partial b.partial))))

-- THEOREM: the test passes where two records are equal, and nowhere else
pub record SameExactly : Type 0 where
  pub same_equal : (a b : State) → T (same_state a b) → a ≡ b
  pub equal_same : (a b : State) → a ≡ b → T (same_state a b)
