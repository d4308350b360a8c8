use Rattle.std.proofs.Common.{rules}
use Rattle.sets.proofs.Members.{low_lowest}
use Rattle.sets.proofs.masks.lowest.Goals as goal

pub returns : goal.returns
returns c = search (rules, low_lowest)
