use Rattle.regression.specs.Verdicts.{OfAll}
use Rattle.regression.specs.Told.{acts}
use Rattle.regression.proofs.Resting.{Before, RestsIn}
use Rattle.regression.proofs.doings.Doings.rest_all.Given as goal

abbrev pub invariant-loop-e : goal.invariant-loop-e
invariant-loop-e l = OfAll (Before l.e-items l.e-index) (RestsIn (acts l.self) l.self.lo l.self.hi l.others l.e-items) l.verdict
