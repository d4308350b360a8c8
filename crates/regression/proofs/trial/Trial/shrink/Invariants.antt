use Rattle.problem.specs.Problems.{task_of}
use Rattle.regression.proofs.Shrinking.{Tried}
use Rattle.regression.proofs.trial.Trial.shrink.Given as goal

abbrev pub invariant-loop-atom : goal.invariant-loop-atom
invariant-loop-atom l = Tried (task_of l.problem) l.aim l.step l.region l.atom-iterator.left l.avoid
