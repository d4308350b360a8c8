use Rattle.std.proofs.Common.{◌-◌, length}
use Rattle.bridge.proofs.texts.questions.Given as goal

abbrev pub decreases-loop-asked : goal.decreases-loop-asked
decreases-loop-asked l = length l.text - l.next
