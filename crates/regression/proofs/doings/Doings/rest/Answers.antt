use Rattle.regression.specs.Told.{acts}
use Rattle.regression.proofs.Resting.{rest_absent, rest_still, rest_open, rest_asked}
use Rattle.regression.proofs.doings.Doings.rest.Goals as goal

pub returns-then-absent-gain : goal.returns-then-absent-gain
returns-then-absent-gain c =
    let d = c.args.self.now in
    rest_absent (acts d) d.lo d.hi c.args.others c.args.condition
    c.help-gain.result c.help-gain.ensures c.without-absent.result c.without-absent.ensures.is c.if-absent-gain.true

pub returns-then-missing-gain-eq0 : goal.returns-then-missing-gain-eq0
returns-then-missing-gain-eq0 c =
    let d = c.args.self.now in
    rest_still (acts d) d.lo d.hi c.args.others c.args.condition
    c.help-gain.result c.help-gain.ensures c.without-missing.result c.without-missing.ensures.is c.if-missing-gain-eq0.true

pub returns-then-missing-self-ne0 : goal.returns-then-missing-self-ne0
returns-then-missing-self-ne0 c =
    let d = c.args.self.now in
    rest_open (acts d) d.lo d.hi c.args.others c.args.condition
    c.help-gain.result c.help-gain.ensures c.without-missing.result c.without-missing.ensures.is
    c.without-absent.result c.without-absent.ensures.is c.if-absent-gain.false c.if-missing-gain-eq0.false
    c.if-missing-self-ne0.true c.ask_for.result c.ask_for.ensures

pub returns : goal.returns
returns c =
    let d = c.args.self.now in
    rest_asked (acts d) d.lo d.hi c.args.others c.args.condition
    c.help-gain.result c.help-gain.ensures c.without-missing.result c.without-missing.ensures.is
    c.without-absent.result c.without-absent.ensures.is c.if-absent-gain.false c.if-missing-gain-eq0.false
    c.if-missing-self-ne0.false c.open_of.result c.open_of.ensures _ c.ask_for-2.ensures
