use Rattle.problem.proofs.Running.{firm_by_sets, parts_firm, one_end, empty_firm}
use Rattle.problem.proofs.theorems.firm_steps_stand.Goals as goal

pub returns : goal.returns
returns c = record { sets = firm_by_sets; parts = parts_firm; one = one_end; empty = empty_firm }
