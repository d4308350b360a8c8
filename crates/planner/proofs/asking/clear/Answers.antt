use Rattle.std.proofs.Common.{rules}
use Rattle.claim.proofs.Turning.{clear_goes_on}
use Rattle.planner.proofs.asking.clear.Goals as goal

pub returns-clause-claim : goal.returns-clause-claim
returns-clause-claim g c = λ t fits. clear_goes_on t fits _ _ (search rules)
