-- How a level of the graph grows into the next.
use Rattle.sets.specs.Sets.{Marks}
use Rattle.problem.specs.Firm.{Task}
use Rattle.problem.specs.Problems.{task_of}
use Rattle.graph.specs.Levels.{Supported}
use Rattle.graph.specs.Tables.{MovesOf, SupportsOf, ClashesOf, level_of}
use Rattle.graph.specs.declared.growth.Growth.{Growth}

-- the task of the problem whose links it has
abbrev pub task_in : Growth → Task
task_in s = task_of s.links.now.problem.now

-- it is so for the task, from the level that is read: its moves are the task's, its rows say what supports what and
-- what clashes there, and its facts are those of the next level
pub record GrowthOf (t : Task) (s : Growth) : Type 0 where
  pub moves : MovesOf t s.links.now.moves
  pub supports : SupportsOf t (level_of s.layer) s.supports
  pub clashes : ClashesOf t (level_of s.layer) s.clashes
  pub facts : Marks s.facts (Supported t (level_of s.layer))
