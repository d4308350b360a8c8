use Rattle.regression.specs.Told.{acts}
use Rattle.regression.proofs.Concerning.{fine_judged}
use Rattle.regression.proofs.doings.Doings.fine.Goals as goal

pub returns : goal.returns
returns c =
    let d = c.args.self.now in
    fine_judged (acts d) d.step c.args.i c.requires d.lo d.hi
    c.ready.result c.unhurt_by_others.result c.rest_all.result c.both.result c.both-2.result c.both.ensures c.both-2.ensures
    c.ready.ensures c.unhurt_by_others.ensures c.rest_all.ensures
