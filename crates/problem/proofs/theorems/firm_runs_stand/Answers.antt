use Rattle.problem.proofs.Running.{runs_padded, runs_within, runs_listed}
use Rattle.problem.proofs.Fitting.{problem_fits}
use Rattle.problem.proofs.theorems.firm_runs_stand.Goals as goal

pub returns : goal.returns
returns c = record { padded = runs_padded; within = runs_within; listed = runs_listed; fit = problem_fits }
