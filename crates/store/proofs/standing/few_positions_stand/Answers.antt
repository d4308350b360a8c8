use Rattle.std.proofs.Common.{arith}
use Rattle.store.proofs.Counting.{few_positions}
use Rattle.store.proofs.standing.few_positions_stand.Goals as goal

pub returns : goal.returns
returns c = λ m qs f d. omega (arith, few_positions m qs f d)
