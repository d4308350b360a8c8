-- Positions: a goal at a level.
use Rattle.std.specs.Prelude.{ℕ, ◌≤◌}
use Rattle.sets.specs.Sets.{Inside, Apart, Within}
use Rattle.problem.specs.Runs.{Goal}
use Rattle.store.specs.declared.position.Position.{Position}
use Rattle.store.specs.declared.row.KeptRow.{KeptRow}

-- what a position stands for: a goal, and the level at which it is asked
pub record Target : Type 0 where
  pub level : ℕ
  pub goal : Goal

-- the goal g at the level n
abbrev pub at : ℕ → Goal → Target
at n g = record { level = n; goal = g }

-- q covers r: its level is no lower, and it asks no more
pub record Covers (q r : Target) : Type 0 where
  pub level : r.level ≤ q.level
  pub need : Inside q.goal.need r.goal.need
  pub avoid : Inside q.goal.avoid r.goal.avoid

-- the goal to hold all of need and nothing of avoid
abbrev pub goal_of : ℕ → ℕ → Goal
goal_of need avoid = record { need = need; avoid = avoid }

-- a position's level is from 1 to 32
abbrev pub Ranked : Target → Type 0
Ranked q = (1 ≤ q.level) × (q.level ≤ 32)

-- it is a position: its level is in range, and no atom is both needed and avoided
pub record Proper (q : Target) : Type 0 where
  pub ranked : Ranked q
  pub apart : Apart q.goal.need q.goal.avoid

-- it names only atoms below m
pub record NamesBelow (m : ℕ) (q : Target) : Type 0 where
  pub need : Within m q.goal.need
  pub avoid : Within m q.goal.avoid

-- what a value of the type stands for, and what a row of a list does
abbrev pub target_of : Position → Target
target_of p = at p.level p.goal

abbrev pub row_target : KeptRow → Target
row_target row = at row.level row.goal

-- the row of a position
abbrev pub row_of : Position → KeptRow
row_of p = record { level = p.level; goal = p.goal }
