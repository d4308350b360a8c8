use Rattle.graph.proofs.FirstLevels.{first_levels}
use Rattle.graph.proofs.theorems.first_levels_stand.Goals as goal

pub returns : goal.returns
returns c = first_levels
