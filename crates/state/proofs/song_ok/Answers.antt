use Rattle.std.proofs.Common.{◌≡◌, ◌*◌, drop, rules, arith}
use Rattle.std.proofs.lemmas.Grind.{common_steps}
use Rattle.wire.specs.Lists.{all_zero}
use Rattle.state.proofs.AcceptedLaws.{song_are, song_tested}
use Rattle.state.proofs.song_ok.Goals as goal

pub returns-then-song-le-LEGAL_COUNT : goal.returns-then-song-le-LEGAL_COUNT
returns-then-song-le-LEGAL_COUNT c =
    let x = c.args.song in
    let t = song_tested x (song_are x (search rules) (λ i. search rules)) in
    let past : c.clear_past.result ≡ all_zero (drop (2 * x.len) x.notes) = rw c.from.ensures at c.clear_past.ensures in
    grind (arith, common_steps)

pub returns-else-song-le-LEGAL_COUNT : goal.returns-else-song-le-LEGAL_COUNT
returns-else-song-le-LEGAL_COUNT c =
    let x = c.args.song in
    let t = song_tested x (song_are x (search rules) (λ i. search rules)) in
    grind (arith, common_steps)
