-- What is proved of firm steps and firm runs.
use Rattle.std.specs.Prelude.{◌≡◌, ℕ, ◌^◌, ◌<◌, ◌≤◌, List, length}
use Rattle.sets.specs.Sets.{Inside, Within}
use Rattle.sets.specs.Laws.{Both}
use Rattle.problem.specs.Actions.{Action}
use Rattle.problem.specs.Firm.{Task, Firm, FirmStep}
use Rattle.problem.specs.Calm.{Calm, Ends}
use Rattle.problem.specs.Runs.{Run, Leads}
use Rattle.problem.specs.Problems.{Fits, task_of}
use Rattle.problem.specs.declared.problem.Problem.{Problem}

-- a step is firm just where its actions are calm two by two, and then it ends where Ends says
abbrev pub FirmBySets : Type 0
FirmBySets =
    (at : ℕ → Action) (s step end : ℕ) → step < 2 ^ 64
    → Both (Firm at s step end) (Calm at s step × Ends at s step end)

-- a part of a firm step is firm
abbrev pub PartsFirm : Type 0
PartsFirm =
    (t : Task) (s step part end : ℕ) → t.count ≤ 64 → Inside part step → FirmStep t s step end → (end' : ℕ) × FirmStep t s part end'

-- a step has one end at most
abbrev pub OneEnd : Type 0
OneEnd = (t : Task) (s step end end' : ℕ) → t.count ≤ 64 → FirmStep t s step end → FirmStep t s step end' → end ≡ end'

-- the empty step is firm, and ends where it starts
abbrev pub EmptyFirm : Type 0
EmptyFirm = (t : Task) (s : ℕ) → FirmStep t s 0 s

-- a run can be drawn out by empty steps
abbrev pub RunsPadded : Type 0
RunsPadded = (t : Task) (k n s : ℕ) → k ≤ n → Run t k s → Run t n s

-- every state of a run names only the task's atoms
abbrev pub RunsWithin : Type 0
RunsWithin = (t : Task) → Fits t → (n s : ℕ) → Run t n s → Within t.atoms s

-- a run of n steps is a list of n steps, each firm where the one before ended
abbrev pub RunsListed : Type 0
RunsListed = (t : Task) (n s : ℕ) → Both (Run t n s) ((steps : List ℕ) × (length steps ≡ n) × Leads t t.first steps s)

-- every problem stands for a task that fits
abbrev pub ProblemsFit : Type 0
ProblemsFit = (p : Problem) → Fits (task_of p)
