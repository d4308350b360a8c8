use Rattle.sets.specs.Sets.{Inside}
use Rattle.regression.specs.Verdicts.{OfAll}
use Rattle.regression.proofs.Taking.{Done}
use Rattle.regression.proofs.joining.all_of.Given as goal

abbrev pub invariant-loop-i : goal.invariant-loop-i
invariant-loop-i g l =
    Inside l.i-iterator.left l.set × OfAll (Done l.set l.i-iterator.left) (goal.F-post g l.judge) l.verdict
