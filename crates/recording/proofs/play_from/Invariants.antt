-- What a playback from the start gives is what one from here on gives.
use Rattle.std.proofs.Common.{◌≡◌, ◌-◌, ◌≤◌, length}
use Rattle.recording.specs.Playback.{continued, standing}
use Rattle.recording.proofs.play_from.Given as goal

abbrev pub invariant-loop-record : goal.invariant-loop-record
invariant-loop-record l =
    (length l.buffer ≡ 832) × ((l.count ≤ l.here) × (continued (standing l.fn.stage 0 l.fn.at) l.s ≡ continued (standing l.now l.count l.here) l.s))

abbrev pub decreases-loop-record : goal.decreases-loop-record
decreases-loop-record l = length l.s - l.here
