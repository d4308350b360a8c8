use Rattle.std.proofs.Common.{◌-◌}
use Rattle.problem.specs.Problems.{task_of}
use Rattle.plain.proofs.Exploring.{Explored}
use Rattle.plain.proofs.forward.explore.Given as goal

abbrev pub invariant-loop-state : goal.invariant-loop-state
invariant-loop-state l = Explored (task_of l.bounds.problem.now) l.goal l.bounds.limit l.bounds.most l.tree l.next

abbrev pub decreases-loop-state : goal.decreases-loop-state
decreases-loop-state l = l.bounds.most - l.next
