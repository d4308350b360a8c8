-- Steps that lead into a goal, and the goals that they make due below it.
use Rattle.std.specs.Prelude.{ℕ, ◌<◌, ◌⊎◌, ◌≢◌}
use Rattle.sets.specs.Sets.{Has, Inside, Apart}
use Rattle.problem.specs.Firm.{Task, FirmStep}
use Rattle.problem.specs.Runs.{Goal, Meets}
use Rattle.regression.specs.Regions.{top_of}
use Rattle.regression.specs.Spans.{Sure}
use Rattle.regression.specs.Matters.{GoalNames, ActionNames, Matters}
use Rattle.regression.specs.declared.verdict.Verdict.{Verdict}
use Rattle.regression.specs.declared.verdict.Verdict.TheVariants.{Yes, No, Ask}

-- the step is firm in the state s, and ends in a state that meets the goal
pub record Reaches (t : Task) (q : Goal) (s step : ℕ) : Type 0 where
  pub end : ℕ
  pub firm : FirmStep t s step end
  pub meets : Meets q end

-- no smaller part of the step does that
abbrev pub Lean : Task → Goal → ℕ → ℕ → Type 0
Lean t q s step = (part : ℕ) → Inside part step → (part ≢ step) → Reaches t q s part → ⊥

-- the step makes the goal p due below q: from every state that meets p it leads into q, and p names only atoms that q or the step's
-- actions name
pub record MakesDue (t : Task) (q : Goal) (step : ℕ) (p : Goal) : Type 0 where
  pub apart : Apart p.need p.avoid
  pub leads : (s : ℕ) → Meets p s → Reaches t q s step
  pub names : (k : ℕ) → GoalNames p k → GoalNames q k ⊎ ((i : ℕ) × Has step i × ActionNames (t.at i) k)

-- by what its actions surely and maybe do in the states of the region, the step leads into q from all of them
abbrev pub Surely : Task → Goal → ℕ → Goal → Type 0
Surely t q step p = Sure t.at step q p.need (top_of p)

-- of the states of the region: the step leads into q from each; or it leads lean into q from none; or that is not sure, and x is an
-- atom in neither set on which it can turn
abbrev pub Judges : Task → Goal → ℕ → Goal → Verdict → Type 0
Judges t q step p Yes = Surely t q step p × ((s : ℕ) → Meets p s → Reaches t q s step)
Judges t q step p No = (s : ℕ) → Meets p s → Reaches t q s step → Lean t q s step → ⊥
Judges t q step p (Ask x) =
    (x < 64) × (Has p.need x → ⊥) × (Has p.avoid x → ⊥) × Matters t.at step q x × (Surely t q step p → ⊥)
