-- What is left of the text grows shorter.
use Rattle.std.proofs.Common.{length, ◌-◌}
use Rattle.linetest.proofs.say_words.Given as goal

abbrev pub decreases-loop-word : goal.decreases-loop-word
decreases-loop-word l = length l.text - l.from
