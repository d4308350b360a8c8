-- What the open outlook means, and that it is lawful.
use Rattle.std.specs.Prelude.{◌≡◌, ℕ, false, None, refl}
use Rattle.std.proofs.Common.{arith}
use Rattle.problem.specs.Firm.{Task}
use Rattle.problem.specs.Problems.{task_of, Fits}
use Rattle.problem.proofs.Fitting.{problem_fits}
use Rattle.outlook.specs.Outlooks.{View, Lawful}
use Rattle.outlook.specs.declared.open_outlook.OpenOutlook.{OpenOutlook}

-- the task of the problem that it was made from
abbrev pub open_task : OpenOutlook → Task
open_task o = task_of o.problem

-- nothing is barred, and there is no closing level
abbrev pub open_view : OpenOutlook → View
open_view o = record { bars = λ n a b. false; closing = None }

pub open_fits : (o : OpenOutlook) → Fits (open_task o)
open_fits o = problem_fits o.problem

pub open_lawful : (o : OpenOutlook) → Lawful (open_task o) (open_view o)
open_lawful o = record {
  both = λ n a b. refl;
  level = λ n k s le lek run b. b.4;
  closing = λ c k s e run b. b.4;
  among = λ c e. absurd (let z : ◌≡◌ {A = ℕ} 0 1 = cc in omega arith);
}
