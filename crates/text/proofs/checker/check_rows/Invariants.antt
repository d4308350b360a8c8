use Rattle.std.proofs.Common.{◌-◌, length}
use Rattle.text.proofs.Walking.{Walk}
use Rattle.text.proofs.checker.check_rows.Given as goal

abbrev pub invariant-loop-found : goal.invariant-loop-found
invariant-loop-found l = Walk l.text l.size.atoms l.size.hands l.first l.at l.tally

abbrev pub decreases-loop-found : goal.decreases-loop-found
decreases-loop-found l = length l.text - l.at
