use Rattle.std.proofs.Common.{ℕ}
use Rattle.problem.specs.Orders.{EveryOrder}
use Rattle.problem.specs.Problems.{task_of}
use Rattle.problem.proofs.orders.lowest_first.Given as goal

abbrev pub invariant-loop-action : goal.invariant-loop-action
invariant-loop-action l =
    (end : ℕ) → EveryOrder (task_of l.problem).at l.start l.start l.fn.step end
    → EveryOrder (task_of l.problem).at l.start l.state l.action-iterator.left end
