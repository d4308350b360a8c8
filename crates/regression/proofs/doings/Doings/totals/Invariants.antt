use Rattle.sets.specs.Sets.{Inside}
use Rattle.problem.specs.Actions.{cuts}
use Rattle.regression.specs.Spans.{sure_gives, may_give}
use Rattle.regression.specs.Told.{acts}
use Rattle.regression.proofs.Taking.{Done}
use Rattle.regression.proofs.Unions.{GatheredOf}
use Rattle.regression.proofs.doings.Doings.totals.Given as goal

abbrev pub invariant-loop-i : goal.invariant-loop-i
invariant-loop-i l =
    Inside l.i-iterator.left l.part
    × GatheredOf (sure_gives (acts l.self) l.self.lo l.self.hi) (Done l.part l.i-iterator.left) l.give.sure
    × GatheredOf (may_give (acts l.self) l.self.lo l.self.hi) (Done l.part l.i-iterator.left) l.give.may
    × GatheredOf (cuts (acts l.self) l.self.lo) (Done l.part l.i-iterator.left) l.cut.sure
    × GatheredOf (cuts (acts l.self) l.self.hi) (Done l.part l.i-iterator.left) l.cut.may
