use Rattle.std.proofs.Common.{◌-◌, length}
use Rattle.runplan.proofs.answer_all.Given as goal

abbrev pub decreases-loop-asked : goal.decreases-loop-asked
decreases-loop-asked l = length l.text - l.next
