use Rattle.regression.specs.Told.{acts}
use Rattle.regression.proofs.Goals.{got_yes, got_no, got_open, got_asked}
use Rattle.regression.proofs.Totalling.{summed}
use Rattle.regression.proofs.sums.Sums.got.Goals as goal

pub returns-then-may-eq0 : goal.returns-then-may-eq0
returns-then-may-eq0 c =
    got_yes (acts c.args.self.now.doings.now) c.args.self.now.doings.now.lo c.args.self.now.doings.now.hi c.args.self.now.doings.now.step c.args.need _ _ (summed c.args.self.now).give_sure (summed c.args.self.now).give_may c.without-may.result
    (rw c.without.ensures.is at c.without-may.ensures.is) c.if-may-eq0.true

pub returns-then-without-ne0 : goal.returns-then-without-ne0
returns-then-without-ne0 c =
    got_no (acts c.args.self.now.doings.now) c.args.self.now.doings.now.lo c.args.self.now.doings.now.hi c.args.self.now.doings.now.step c.args.need _ _ (summed c.args.self.now).give_sure (summed c.args.self.now).give_may
    c.without-may.result (rw c.without.ensures.is at c.without-may.ensures.is)
    c.without-3.result (rw c.without-2.ensures.is at c.without-3.ensures.is) c.if-without-ne0.true

pub returns-then-may-doings-ne0 : goal.returns-then-may-doings-ne0
returns-then-may-doings-ne0 c =
    got_open (acts c.args.self.now.doings.now) c.args.self.now.doings.now.lo c.args.self.now.doings.now.hi c.args.self.now.doings.now.step c.args.need _ _ (summed c.args.self.now).give_sure (summed c.args.self.now).give_may
    c.without-may.result (rw c.without.ensures.is at c.without-may.ensures.is) c.if-may-eq0.false
    c.if-may-doings-ne0.true c.ask_for.result c.ask_for.ensures

pub returns : goal.returns
returns c =
    got_asked (acts c.args.self.now.doings.now) c.args.self.now.doings.now.lo c.args.self.now.doings.now.hi c.args.self.now.doings.now.step c.args.need _ _ (summed c.args.self.now).give_sure (summed c.args.self.now).give_may
    c.without-may.result (rw c.without.ensures.is at c.without-may.ensures.is) c.if-may-eq0.false
    c.if-may-doings-ne0.false _ c.open_of.ensures _ c.ask_for-2.ensures
