use Rattle.regression.specs.Told.{acts}
use Rattle.regression.proofs.Resting.{ready_yes, ready_no, ready_asked}
use Rattle.regression.proofs.doings.Doings.ready.Goals as goal

pub returns-then-missing-eq0 : goal.returns-then-missing-eq0
returns-then-missing-eq0 c =
    let d = c.args.self.now in
    ready_yes d.lo d.hi (acts d c.args.i).precondition c.without-missing.result (simp (c.without-missing.ensures.is, c.precondition_of-precondition.ensures)) c.if-missing-eq0.true

pub returns-then-without-ne0 : goal.returns-then-without-ne0
returns-then-without-ne0 c =
    let d = c.args.self.now in
    ready_no d.lo d.hi (acts d c.args.i).precondition c.without-missing.result (simp (c.without-missing.ensures.is, c.precondition_of-precondition.ensures))
    c.without.result (simp (c.without.ensures.is, c.precondition_of-precondition.ensures)) c.if-without-ne0.true

pub returns : goal.returns
returns c =
    let d = c.args.self.now in
    ready_asked d.lo d.hi (acts d c.args.i).precondition c.without-missing.result (simp (c.without-missing.ensures.is, c.precondition_of-precondition.ensures))
    c.if-missing-eq0.false c.ask_for.result c.ask_for.ensures
