use Rattle.regression.specs.Told.{acts}
use Rattle.regression.proofs.Goals.{cleared_yes, cleared_no, cleared_open, cleared_asked}
use Rattle.regression.proofs.Totalling.{summed}
use Rattle.regression.proofs.sums.Sums.cleared.Goals as goal

pub returns-then-may-eq0 : goal.returns-then-may-eq0
returns-then-may-eq0 c =
    cleared_yes (acts c.args.self.now.doings.now) c.args.self.now.doings.now.lo c.args.self.now.doings.now.hi c.args.self.now.doings.now.step c.args.avoid _ _ (summed c.args.self.now).cut_sure (summed c.args.self.now).cut_may c.without-may.result c.without-may.ensures.is c.if-may-eq0.true

pub returns-then-without-ne0 : goal.returns-then-without-ne0
returns-then-without-ne0 c =
    cleared_no (acts c.args.self.now.doings.now) c.args.self.now.doings.now.lo c.args.self.now.doings.now.hi c.args.self.now.doings.now.step c.args.avoid _ _ (summed c.args.self.now).cut_sure (summed c.args.self.now).cut_may c.without-may.result c.without-may.ensures.is
    c.without.result c.without.ensures.is c.if-without-ne0.true

pub returns-then-open-ne0 : goal.returns-then-open-ne0
returns-then-open-ne0 c =
    cleared_open (acts c.args.self.now.doings.now) c.args.self.now.doings.now.lo c.args.self.now.doings.now.hi c.args.self.now.doings.now.step c.args.avoid _ _ (summed c.args.self.now).cut_sure (summed c.args.self.now).cut_may
    c.without-may.result c.without-may.ensures.is c.if-may-eq0.false
    c.without-open.result c.without-open.ensures.is c.if-open-ne0.true c.ask_for.result c.ask_for.ensures

pub returns : goal.returns
returns c =
    cleared_asked (acts c.args.self.now.doings.now) c.args.self.now.doings.now.lo c.args.self.now.doings.now.hi c.args.self.now.doings.now.step c.args.avoid _ _ (summed c.args.self.now).cut_sure (summed c.args.self.now).cut_may
    c.without-may.result c.without-may.ensures.is c.if-may-eq0.false
    c.without-open.result c.without-open.ensures.is c.if-open-ne0.false _ c.open_of.ensures _ c.ask_for-2.ensures
