use Rattle.regression.specs.Told.{acts}
use Rattle.regression.proofs.Goals.{kept_yes, kept_no, kept_asked}
use Rattle.regression.proofs.Totalling.{summed}
use Rattle.regression.proofs.sums.Sums.kept.Goals as goal

pub returns-then-may-eq0 : goal.returns-then-may-eq0
returns-then-may-eq0 c = kept_yes (acts c.args.self.now.doings.now) c.args.self.now.doings.now.lo c.args.self.now.doings.now.hi c.args.self.now.doings.now.step c.args.need _ _ (summed c.args.self.now).cut_sure (summed c.args.self.now).cut_may c.if-may-eq0.true

pub returns-then-need-all-ne0 : goal.returns-then-need-all-ne0
returns-then-need-all-ne0 c = kept_no (acts c.args.self.now.doings.now) c.args.self.now.doings.now.lo c.args.self.now.doings.now.hi c.args.self.now.doings.now.step c.args.need _ _ (summed c.args.self.now).cut_sure (summed c.args.self.now).cut_may c.if-need-all-ne0.true

pub returns : goal.returns
returns c =
    kept_asked (acts c.args.self.now.doings.now) c.args.self.now.doings.now.lo c.args.self.now.doings.now.hi c.args.self.now.doings.now.step c.args.need _ _ (summed c.args.self.now).cut_sure (summed c.args.self.now).cut_may
    c.if-may-eq0.false _ c.open_of.ensures c.ask_for.result c.ask_for.ensures
