use Rattle.std.proofs.Common.{◌≤◌, rules, arith}
use Rattle.std.proofs.lemmas.Grind.{common_steps}
use Rattle.state.proofs.AcceptedLaws.{songs_tested}
use Rattle.state.proofs.songs_ok.Goals as goal

pub returns-then-playing_set : goal.returns-then-playing_set
returns-then-playing_set c =
    let t = songs_tested c.args.songs.now (search rules) in
    let flag : c.args.songs.now.playing ≤ 1 = omega arith in
    grind (arith, common_steps)
