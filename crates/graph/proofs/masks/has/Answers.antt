use Rattle.std.proofs.Common.{arith}
use Rattle.graph.proofs.RowSets.{has_decides}
use Rattle.graph.proofs.masks.has.Goals as goal

pub returns : goal.returns
returns c = has_decides c.args.set c.args.member c.single.result c.apart.result (omega arith) (omega arith) c.single.ensures c.apart.ensures
