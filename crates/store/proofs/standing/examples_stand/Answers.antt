use Rattle.std.proofs.Common.{refl, lit≤}
use Rattle.sets.proofs.Bits.{and_inside}
use Rattle.store.proofs.standing.examples_stand.Goals as goal

pub returns-clause-covers : goal.returns-clause-covers
returns-clause-covers c = record { level = lit≤ tt; need = and_inside 2 6 refl; avoid = and_inside 0 1 refl }
