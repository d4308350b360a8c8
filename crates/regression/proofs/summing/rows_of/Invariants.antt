use Rattle.std.proofs.Common.{◌≡◌, ◌+◌, ◌≤◌, length}
use lib.Count.{ones}
use Rattle.sets.specs.Sets.{Inside}
use Rattle.problem.specs.Problems.{task_of}
use Rattle.regression.proofs.Taking.{Done}
use Rattle.regression.proofs.Rows.{Filled}
use Rattle.regression.proofs.summing.rows_of.Given as goal

abbrev pub invariant-loop-count : goal.invariant-loop-count
invariant-loop-count l =
    Inside l.count-iterator.iter.left l.step
    × (l.count-iterator.count + ones l.count-iterator.iter.left ≤ 4)
    × (length l.rows ≡ 4)
    × Filled (task_of l.problem).at l.lo l.hi (Done l.step l.count-iterator.iter.left) l.count-iterator.count l.rows
