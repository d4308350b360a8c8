use Rattle.sets.specs.Sets.{Inside}
use Rattle.regression.proofs.Taking.{Done}
use Rattle.regression.proofs.Unions.{Gathered}
use Rattle.regression.proofs.totals.union_of.Given as goal

abbrev pub invariant-loop-i : goal.invariant-loop-i
invariant-loop-i g l =
    Inside l.i-iterator.left l.set × Gathered (goal.F-post g l.part) (Done l.set l.i-iterator.left) l.union
