-- Firm runs from the first state, and the goals that they reach.
use Rattle.std.specs.Prelude.{◌≡◌, ℕ, suc, ◌≤◌, List, [], ◌∷◌}
use Rattle.sets.specs.Sets.{Inside, Apart}
use Rattle.problem.specs.Firm.{Task, FirmStep}
use Rattle.problem.specs.declared.goal.Goal.{Goal as Sought}

-- a firm run of n steps from the first state ends in s
pub data Run (t : Task) : ℕ → ℕ → Type 0 where
  start : Run t 0 t.first
  more : {n before : ℕ} (step end : ℕ) → Run t n before → FirmStep t before step end → Run t (suc n) end

-- from the state s the steps, each firm where the one before ended, lead to the state end
abbrev pub Leads : Task → ℕ → List ℕ → ℕ → Type 0
Leads t s [] end = s ≡ end
Leads t s (step ∷ steps) end = (mid : ℕ) × FirmStep t s step mid × Leads t mid steps end

-- a goal: two sets of atoms
abbrev pub Goal : Type 0
Goal = Sought

-- the state holds all of need and nothing of avoid
pub record Meets (g : Goal) (s : ℕ) : Type 0 where
  pub holds : Inside g.need s
  pub lacks : Apart g.avoid s

-- no firm run of at most n steps reaches the goal; no firm run at all does
abbrev pub Unreached : Task → ℕ → Goal → Type 0
Unreached t n g = (k s : ℕ) → k ≤ n → Run t k s → Meets g s → ⊥

abbrev pub NeverReached : Task → Goal → Type 0
NeverReached t g = (k s : ℕ) → Run t k s → Meets g s → ⊥
