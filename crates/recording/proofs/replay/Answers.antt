-- `recording::replay` meets its contract.
-- Assumes nothing.
use Rattle.std.proofs.Common.{◌∙◌, ap}
use Rattle.recording.specs.Playback.{at_power_on, replay_of, continued, standing}
use Rattle.recording.specs.declared.Stage.{Stage}
use Rattle.recording.proofs.GoingLaws.{from_start}
use Rattle.recording.proofs.replay.Goals as goal

pub returns : goal.returns
unfolding replay_of
returns c =
    c.play_from.ensures ∙ ap (λ (g : Stage). continued (standing g 0 0) c.args.s.now) c.at_power_on.ensures ∙ from_start at_power_on c.args.s.now
