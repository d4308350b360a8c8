-- What the graph outlook means.
use Rattle.std.specs.Prelude.{ℕ, ◌≤◌, ◌&&◌, Decides, nat_le}
use Rattle.problem.specs.Firm.{Task}
use Rattle.problem.specs.Problems.{task_of}
use Rattle.graph.specs.Levels.{level, Bars, Closing}
use Rattle.graph.specs.Graphs.{bars_in}
use Rattle.outlook.specs.Outlooks.{View}
use Rattle.outlook.specs.declared.graph_outlook.GraphOutlook.{GraphOutlook}

-- the task of the problem that it was made from
abbrev pub graph_task : GraphOutlook → Task
graph_task o = task_of o.problem

-- it bars what its table bars, at levels up to 32
abbrev pub graph_view : GraphOutlook → View
graph_view o = record { bars = λ n a b. nat_le n 32 && bars_in o.graph n a b; closing = o.closing }

-- a view of the planning graph: a pair is barred at a level just where the level of the rules bars it, and the closing level is
-- the least that equals the next, if there is one
pub record OfGraph (t : Task) (v : View) : Type 0 where
  pub bars : (n a b : ℕ) → n ≤ 32 → Decides (v.bars n a b) (Bars (level t n) a b)
  pub closing : Closing (level t) v.closing
