-- The actions of which rows tell.
use Rattle.std.specs.Prelude.{◌≡◌, ℕ}
use Rattle.problem.specs.Actions.{Action}
use Rattle.problem.specs.Problems.{task_of}
use Rattle.problem.specs.declared.problem.Problem.{Problem}
use Rattle.regression.specs.Regions.{top_of}
use Rattle.problem.specs.Runs.{Goal}
use Rattle.regression.specs.declared.doings.Doings.{Doings}

-- what the actions of the problem do
abbrev pub acts : Doings → ℕ → Action
acts d = (task_of d.problem.now).at

-- the rows tell what the step's actions do in the states of the region
pub record TellsOf (p : Problem) (step : ℕ) (r : Goal) (d : Doings) : Type 0 where
  pub of_problem : d.problem.now ≡ p
  pub of_step : d.step ≡ step
  pub from : d.lo ≡ r.need
  pub to : d.hi ≡ top_of r
