use Rattle.regression.specs.Told.{acts}
use Rattle.regression.proofs.Goals.{ungiven_yes, ungiven_no, ungiven_asked}
use Rattle.regression.proofs.Totalling.{summed}
use Rattle.regression.proofs.sums.Sums.ungiven.Goals as goal

pub returns-then-may-eq0 : goal.returns-then-may-eq0
returns-then-may-eq0 c = ungiven_yes (acts c.args.self.now.doings.now) c.args.self.now.doings.now.lo c.args.self.now.doings.now.hi c.args.self.now.doings.now.step c.args.avoid _ _ (summed c.args.self.now).give_sure (summed c.args.self.now).give_may c.if-may-eq0.true

pub returns-then-avoid-all-ne0 : goal.returns-then-avoid-all-ne0
returns-then-avoid-all-ne0 c = ungiven_no (acts c.args.self.now.doings.now) c.args.self.now.doings.now.lo c.args.self.now.doings.now.hi c.args.self.now.doings.now.step c.args.avoid _ _ (summed c.args.self.now).give_sure (summed c.args.self.now).give_may c.if-avoid-all-ne0.true

pub returns : goal.returns
returns c =
    ungiven_asked (acts c.args.self.now.doings.now) c.args.self.now.doings.now.lo c.args.self.now.doings.now.hi c.args.self.now.doings.now.step c.args.avoid _ _ (summed c.args.self.now).give_sure (summed c.args.self.now).give_may
    c.if-may-eq0.false _ c.open_of.ensures c.ask_for.result c.ask_for.ensures
