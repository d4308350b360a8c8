use lib.Count.{ones}
use Rattle.sets.specs.Sets.{Inside}
use Rattle.problem.specs.Orders.{EachFirst}
use Rattle.problem.specs.Problems.{task_of}
use Rattle.problem.proofs.orders.+every_order.Given as goal

abbrev pub decreases-every_order : goal.decreases-every_order
decreases-every_order l = ones l.remaining

abbrev pub invariant-loop-action : goal.invariant-loop-action
invariant-loop-action l =
    Inside l.action-iterator.left l.remaining
    × EachFirst (task_of l.problem).at l.start l.state l.remaining l.action-iterator.left l.end
