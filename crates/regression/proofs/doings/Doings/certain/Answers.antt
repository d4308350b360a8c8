use Rattle.std.proofs.Common.{◌≡◌, rules}
use borrow.Author.Tests.{tests}
use Rattle.regression.specs.Told.{acts}
use Rattle.regression.specs.declared.verdict.Verdict.TheVariants.{No}
use Rattle.regression.proofs.Reaching.{certain_judged, certain_no}
use Rattle.regression.proofs.doings.Doings.certain.Goals as goal

pub returns-then-eq : goal.returns-then-eq
returns-then-eq c =
    let d = c.args.self.now in
    let is : c.reaches-reached.result ≡ No = search (rules, tests) in
    certain_no (acts d) d.lo d.hi d.step c.args.aim c.reaches-reached.result is c.reaches-reached.ensures

pub returns : goal.returns
returns c =
    let d = c.args.self.now in
    certain_judged (acts d) d.lo d.hi d.step c.args.aim
    c.all_fine.result c.reaches-reached.result c.both.result c.both.ensures c.all_fine.ensures c.reaches-reached.ensures
