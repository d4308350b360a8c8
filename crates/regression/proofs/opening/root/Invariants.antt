use Rattle.problem.specs.Problems.{task_of}
use Rattle.regression.specs.Roots.{Helps}
use Rattle.regression.proofs.Rooting.{Found}
use Rattle.regression.proofs.opening.root.Given as goal

abbrev pub invariant-loop-i : goal.invariant-loop-i
invariant-loop-i l = Found (λ k. Helps l.aim ((task_of l.problem).at k).effects) l.i l.candidates
