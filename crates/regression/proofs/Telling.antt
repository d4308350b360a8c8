-- What is said by the rows, said of the step and the region.
use Rattle.std.proofs.Common.{ℕ, subst}
use Rattle.problem.specs.Actions.{Action}
use Rattle.problem.specs.Problems.{task_of}
use Rattle.problem.specs.declared.problem.Problem.{Problem}
use Rattle.regression.specs.Regions.{top_of}
use Rattle.regression.specs.Told.{acts, TellsOf}
use Rattle.problem.specs.Runs.{Goal}
use Rattle.regression.specs.declared.doings.Doings.{Doings}

pub told : (X : (ℕ → Action) → ℕ → ℕ → ℕ → Type 0) {p : Problem} {step : ℕ} {r : Goal} {d : Doings} → TellsOf p step r d
    → X (acts d) d.step d.lo d.hi → X (task_of p).at step r.need (top_of r)
told X {p} {step} {r} {d} t x =
    subst (λ (y : ℕ). X (task_of p).at step r.need y) t.to
    (subst (λ (y : ℕ). X (task_of p).at step y d.hi) t.from
    (subst (λ (y : ℕ). X (task_of p).at y d.lo d.hi) t.of_step
    (subst (λ (y : Problem). X (task_of y).at d.step d.lo d.hi) t.of_problem x)))
