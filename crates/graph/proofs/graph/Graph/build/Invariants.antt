use Rattle.std.proofs.Common.{◌≡◌, ℕ, ◌≤◌}
use Rattle.problem.specs.Problems.{task_of}
use Rattle.graph.specs.Levels.{level, Same}
use Rattle.graph.specs.Graphs.{level_in}
use Rattle.graph.proofs.graph.Graph.build.Given as goal

abbrev pub invariant-loop-n : goal.invariant-loop-n
invariant-loop-n l =
    (l.graph.atoms ≡ l.fn.problem.atoms)
    × ((k : ℕ) → k ≤ l.n → Same (level_in l.graph k) (level (task_of l.fn.problem) k))
