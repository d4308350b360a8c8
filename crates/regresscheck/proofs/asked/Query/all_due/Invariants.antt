use Rattle.std.proofs.Common.{◌≡◌, length}
use Rattle.problem.specs.Problems.{task_of}
use Rattle.regression.specs.Stacks.{part_of, Orderly}
use Rattle.regresscheck.proofs.asked.Query.all_due.Given as goal

abbrev pub invariant-loop : goal.invariant-loop
invariant-loop l =
    (length l.nodes ≡ 129)
    × (l.part.start ≡ 0)
    × Orderly (task_of l.problem) l.aim (part_of l.nodes l.part.start l.part.count)
