-- What the frames of a search stand for.
use Rattle.std.specs.Prelude.{ℕ, zero, suc, List, [], ◌∷◌, slice_index_or, refl}
use Rattle.std.proofs.Common.{arith}
use Rattle.sets.proofs.Members.{not_in_none}
use Rattle.store.specs.Positions.{goal_of}
use Rattle.store.specs.declared.position.Position.{Position}
use Rattle.planner.specs.declared.frame.Frame.{Frame}

-- the position of level 1 that asks nothing
abbrev pub no_position : Position
no_position = record { level = 1; goal = goal_of 0 0; low = omega arith; high = omega arith; apart = λ k h _. not_in_none 0 k refl h }

-- the frame i, or one that says nothing where there is none
abbrev pub frame_at : List Frame → ℕ → Frame
frame_at fs i = slice_index_or fs i (record { position = no_position; step = 0; base = 0 })

-- the steps of the first frames, from the lowest, which is the last, up to the one below the goal
abbrev pub way : ℕ → List Frame → List ℕ
way zero fs = []
way (suc zero) fs = []
way (suc (suc d)) fs = (frame_at fs (suc d)).step ∷ way (suc d) fs
