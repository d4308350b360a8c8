use Rattle.claim.proofs.Agreeing.{stores_agree}
use Rattle.claim.proofs.stores_agree.Goals as goal

pub returns : goal.returns
returns c = stores_agree
