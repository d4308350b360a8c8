use Rattle.regression.specs.Told.{acts}
use Rattle.regression.proofs.Goals.{reached_judged}
use Rattle.regression.proofs.doings.Doings.reaches.Goals as goal

pub returns : goal.returns
returns c =
    reached_judged (acts c.args.self.now) c.args.self.now.lo c.args.self.now.hi c.args.self.now.step c.args.aim
    c.kept.result c.got.result c.ungiven.result c.cleared.result c.both-needed.result c.both-avoided.result c.both.result
    c.both-needed.ensures c.both-avoided.ensures c.both.ensures
    c.kept.ensures c.got.ensures c.ungiven.ensures c.cleared.ensures
