-- `board::song_end` meets its contract.
-- Assumes nothing.
use Rattle.std.proofs.Common.{◌≡◌, ◌∙◌, refl, sym, ap}
use Rattle.wire.proofs.BoolLaws.{to_T}
use Rattle.state.specs.State.{with_playing}
use Rattle.state.specs.Accepted.{accepted_of}
use Rattle.state.specs.declared.State.{State}
use Rattle.board.specs.Outcome.{gives, answered}
use Rattle.board.specs.Calls.{song_end_of}
use Rattle.board.proofs.OutcomeLaws.{told_as}
use Rattle.board.proofs.CallsLaws.{checked_bad, checked_good}
use Rattle.board.proofs.song_end.Goals as goal

pub returns-then-not-accepts : goal.returns-then-not-accepts
unfolding song_end_of
returns-then-not-accepts c =
    told_as 8 refl c.new.ensures ∙ ap answered (sym (checked_bad c.args.state (gives 0 (with_playing 0 c.args.state)) (sym c.accepts.ensures ∙ c.if-not-accepts.true)))

pub returns : goal.returns
unfolding song_end_of
returns c =
    let s = c.args.state in
    -- it only clears playing
    let silent : c.with_songs.result ≡ with_playing 0 s = c.with_songs.ensures in
    told_as 0 refl c.new-2.ensures
    ∙ ap (λ (x : State). answered (gives 0 x)) silent
    ∙ ap answered (sym (checked_good s (gives 0 (with_playing 0 s)) (to_T (accepted_of s) (sym c.accepts.ensures ∙ c.if-not-accepts.false))))
