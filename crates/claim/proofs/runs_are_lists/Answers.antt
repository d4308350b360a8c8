use Rattle.claim.proofs.Reaching.{runs_are_lists}
use Rattle.claim.proofs.runs_are_lists.Goals as goal

pub returns : goal.returns
returns c = runs_are_lists
