-- What a search comes to.
use Rattle.std.specs.Prelude.{◌≡◌, ℕ, List, ◌++◌, length, drop}
use Rattle.std.specs.declared.ops.ControlFlow.{ControlFlow}
use Rattle.std.specs.declared.ops.ControlFlow.TheVariants.{Continue, Break}
use Rattle.problem.specs.Firm.{Task}
use Rattle.store.specs.Stores.{Meaning}
use Rattle.outlook.specs.Outlooks.{View}
use Rattle.claim.specs.Search.{Question}
use Rattle.claim.specs.Turns.{Passes, plan_checks}
use Rattle.claim.specs.declared.outcome.Outcome.{Outcome}
use Rattle.claim.specs.declared.outcome.Outcome.TheVariants.{Plan}
use Rattle.planner.specs.Paths.{Ended}
use Rattle.planner.specs.Works.{Seeks}
use Rattle.planner.specs.declared.ending.Ending.{Ending}
use Rattle.planner.specs.declared.path.Path.{Path}

-- an ending with no plan, and one with a plan of so many steps, one for each position left open
abbrev pub no_plan : Outcome → ℕ → ℕ → Ending
no_plan outcome opened left = record { outcome = outcome; steps = 0; opened = opened; left = left }

abbrev pub plan_of : ℕ → ℕ → Ending
plan_of opened left = record { outcome = Plan; steps = left; opened = opened; left = left }

-- a search ended so; it took the list from old to new, with its plan at the start, and the store from m to m'
pub record Ran (t : Task) (v : View) (a : Question) (e : Ending) (old new : List ℕ) (m m' : Meaning) : Type 0 where
  pub plan : List ℕ
  pub ended : Ended t v a m m' e.outcome plan e.opened e.left
  pub steps : e.steps ≡ length plan
  pub written : new ≡ plan ++ drop (length plan) old

-- a search that passed the checks, where its list has so much room, is under way on this path
pub record UnderWay (t : Task) (v : View) (a : Question) (m : Meaning) (room n : ℕ) (p : Path) (k : ℕ) : Type 0 where
  pub start : Meaning
  pub checks : Passes (plan_checks t start a room)
  pub sought : Seeks t v a start m n p k

-- what a part of a search comes to, which takes the list from old to new: the search is still under way, or it ended
abbrev pub Progressed : Task → View → Question → Meaning → Meaning → ℕ → Path → List ℕ → List ℕ → ControlFlow Ending ℕ → Type 0
Progressed t v a m₀ m n p old new (Continue k) = Seeks t v a m₀ m n p k
Progressed t v a m₀ m n p old new (Break e) = Ran t v a e old new m₀ m

-- this holds, with so many opened, if the search goes on
abbrev pub WhenOn : ControlFlow Ending ℕ → (ℕ → Type 0) → Type 0
WhenOn (Continue k) P = P k
WhenOn (Break e) P = Unit {0}
