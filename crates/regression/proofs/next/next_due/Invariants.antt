use Rattle.std.proofs.Common.{◌≡◌, ◌-◌, ◌≤◌, length, take}
use Rattle.problem.specs.Problems.{task_of}
use Rattle.regression.specs.Stacks.{part_of, weights, Carried}
use Rattle.regression.proofs.next.next_due.Given as goal

abbrev pub invariant-loop-left : goal.invariant-loop-left
invariant-loop-left g l =
    (l.left ≤ length l.nodes - l.start)
    × (length l.nodes ≡ length l.initial.nodes)
    × (take l.start l.nodes ≡ take l.start l.initial.nodes)
    × Carried (task_of l.problem) l.aim (g.D.Dismissal.dismissed l.dismissal) (λ _. ⊥)
    (part_of l.initial.nodes l.start l.count) (part_of l.nodes l.start l.left)

abbrev pub decreases-loop-left : goal.decreases-loop-left
decreases-loop-left g l = weights (part_of l.nodes l.start l.left)
