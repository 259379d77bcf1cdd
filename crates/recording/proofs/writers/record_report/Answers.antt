-- `recording::writers::record_report` meets its contract.
-- Assumes nothing.
use Rattle.std.proofs.Common.{refl, [], ◌∷◌}
use borrow.Author.Tests.{lt-leb}
use Rattle.wire.proofs.RepliesLaws.{replied_4}
use Rattle.recording.specs.Recordings.{most_flags}
use Rattle.recording.proofs.writers.record_report.Goals as goal

pub returns-then-flags-gt-MOST_FLAGS : goal.returns-then-flags-gt-MOST_FLAGS
returns-then-flags-gt-MOST_FLAGS c =
    replied_4 (2 ∷ c.args.flags ∷ []) c.args.buffer.now refl (lt-leb c.args.flags most_flags c.if-flags-gt-MOST_FLAGS.true)
