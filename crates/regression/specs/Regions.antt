-- A region of states: those that meet a goal.
use Rattle.std.specs.Prelude.{ℕ, ◌-◌, ◌^◌}
use Rattle.problem.specs.Runs.{Goal}

-- the atoms that a state of the region may have
abbrev pub top_of : Goal → ℕ
top_of r = 2 ^ 64 - 1 - r.avoid
