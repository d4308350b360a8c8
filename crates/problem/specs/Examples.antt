-- The model valuation, and what the definitions say of it. Sets are written as numbers: {0,2} is 5.
use Rattle.std.specs.Prelude.{◌≡◌, ℕ, List, [], ◌∷◌}
use Rattle.sets.specs.Sets.{Has}
use Rattle.problem.specs.Actions.{Action, result_of}
use Rattle.problem.specs.Firm.{Task, FirmStep}
use Rattle.problem.specs.Problems.{task_from}
use Rattle.problem.specs.declared.rows.ActionRow.{ActionRow}
use Rattle.problem.specs.declared.rows.EffectRow.{EffectRow}

abbrev pub row : ℕ → ℕ → ActionRow
row precondition first = record { precondition = precondition; first_effect = first }

abbrev pub effect : ℕ → ℕ → ℕ → EffectRow
effect condition add delete = record { condition = condition; add = add; delete = delete }

-- 0 checks: needs {0}, adds {1}; 1 posts: needs {1}, adds {4}; 2 sweeps: needs {0}, deletes {0}, and if {2} adds {3} and deletes {2}
abbrev pub valuation_rows : List ActionRow
valuation_rows = row 1 0 ∷ row 2 1 ∷ row 1 2 ∷ []

abbrev pub valuation_effects : List EffectRow
valuation_effects = effect 0 2 0 ∷ effect 0 16 0 ∷ effect 0 0 1 ∷ effect 4 8 4 ∷ []

-- five atoms, two hands, first state {0,2}
abbrev pub valuation : Task
valuation = task_from 5 2 5 valuation_rows valuation_effects

-- 0 adds 0 and, if {1}, adds 2; 1 adds 1 and, if {0}, adds 2
abbrev pub crossed : Task
crossed = task_from 3 2 0 (row 0 0 ∷ row 0 2 ∷ []) (effect 0 1 0 ∷ effect 2 4 0 ∷ effect 0 2 0 ∷ effect 1 4 0 ∷ [])

-- an action that adds and deletes 0
abbrev pub undone : Action
undone = record { precondition = 0; effects = effect 0 1 1 ∷ [] }

-- to sweep in {0,2} ends in {3}
abbrev pub SweepEnds : Type 0
SweepEnds = FirmStep valuation 5 4 8

-- to check and to sweep together is not firm there
abbrev pub CheckAndSweep : Type 0
CheckAndSweep = (end : ℕ) → FirmStep valuation 5 5 end → ⊥

-- to post and to sweep together is firm in {0,1,2}, and ends in {1,3,4}
abbrev pub PostAndSweep : Type 0
PostAndSweep = FirmStep valuation 7 6 26

-- both orders of the crossed actions lead from the empty state to {0,1,2}, and yet the two are not firm together
abbrev pub CrossedNotFirm : Type 0
CrossedNotFirm =
    (result_of (crossed.at 1) (result_of (crossed.at 0) 0) ≡ 7)
    × (result_of (crossed.at 0) (result_of (crossed.at 1) 0) ≡ 7)
    × ((end : ℕ) → FirmStep crossed 0 3 end → ⊥)

-- what is added and deleted ends out
abbrev pub UndoneEndsWithout : Type 0
UndoneEndsWithout = (s : ℕ) → Has (result_of undone s) 0 → ⊥
