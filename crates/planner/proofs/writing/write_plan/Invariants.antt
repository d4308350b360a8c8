use Rattle.std.proofs.Common.{◌≡◌, ◌+◌, ◌∷◌, ◌++◌, length, take, drop}
use Rattle.planner.specs.Frames.{way}
use Rattle.planner.proofs.writing.write_plan.Given as goal

-- so much of the plan is written
abbrev pub invariant-loop-i : goal.invariant-loop-i
invariant-loop-i l =
    l.list ≡ take (length l.yielded + 1) (l.step ∷ way (length l.frames) l.frames) ++ drop (length l.yielded + 1) l.initial.list
